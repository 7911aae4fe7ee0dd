use mathlib.Core.Bool.{not}
use Rattle.std.proofs.Common.{ap, sym, refl, true≢false, arith, rules}
use Rattle.duplicate_ids.proofs.ids.Ids.{sum-zero, id-sum}
use Rattle.duplicate_ids.proofs.filter.Filters.{sift_start, sift_new, sift_vain, sift_hit, sift_end}
use Rattle.duplicate_ids.proofs.filter.sift.Goals as goal
use Rattle.duplicate_ids.proofs.filter.sift.Goals.{then-not-note+else-stands_before+else-vain-ge64, else-not-note}

pub loop-i-init : goal.loop-i-init
loop-i-init c = (search sum-zero, search rules, search rules, sift_start _ _)

-- the id of entry i is noted already, and an earlier entry has it
pub returns-then-stands_before : goal.returns-then-stands_before
returns-then-stands_before c =
    let at-search = c in
    let at-note = at-search in
    let at-id = at-note in
    let at_test = at-id in
    let inv = at_test.loop-i.invariant.3 in
    record { at_value = λ _. sift_hit _ inv _ _ at-id.next_id-id.ensures at-search.stands_before.ensures c.if-stands_before.true at_test.loop-i-test.true; sure_value = λ _. refl }

pub returns-then-vain-ge64 : goal.returns-then-vain-ge64
returns-then-vain-ge64 c = record { at_value = λ e. absurd (true≢false (sym e)); sure_value = λ h. absurd (omega arith) }

-- it was noted by chance, or is new
pub loop-i-preserved : goal.loop-i-preserved
loop-i-preserved c =
    let at-note = c in
    let at-id = at-note in
    let inv = at-id.loop-i.invariant.3 in
    let e = at-id.next_id-id.ensures in
    let t = at-note.note.ensures in (
      search id-sum,
      elim c.if-not-note.branch [ then-not-note+else-stands_before+else-vain-ge64 w ↦ omega arith | else-not-note w ↦ omega arith ],
      search rules,
      elim c.if-not-note.branch [
        | then-not-note+else-stands_before+else-vain-ge64 w ↦ sift_vain inv e t w.stands_before.ensures w.if-stands_before.false
        | else-not-note w ↦ sift_new inv e t (ap not w.if-not-note.false)
      ],
    )

pub returns : goal.returns
returns c = record { at_value = λ e. sift_end _ c.loop-i.invariant.3 _ (search rules) (search rules); sure_value = λ _. refl }
