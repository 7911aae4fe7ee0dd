-- A turn, as the code makes it.
use Prim.Native.Nat.{ℕ, ◌+◌, ◌≤◌, ◌<◌}
use mathlib.Core.Path.{◌≡◌, refl, sym, ◌∙◌}
use mathlib.Core.Bool.{Bool, true, false}
use mathlib.Core.List.{List, ◌++◌}
use native.Mathlib.Omega.{arith}
use native.Mathlib.Numerals.{add-one}
use borrow.Author.Rules.{rules}
use borrow.Author.Tests.{lt-ltb, le-ltb, eq-eqb, ne_eqb}
use lib.ListN.{length, get_or, take, drop}
use lib.Seq.{length-take-le, take-append-le, drop-append_seam}
use Rattle.endian.specs.Little.{le_at}
use Rattle.sharding.specs.declared.Sharding.{Sharding}
use Rattle.holdings.specs.declared.one_shard.Sheet.{Sheet}
use Rattle.std.specs.Prelude.{Ok, Err, Option, Some}
use Rattle.refusal.specs.declared.Refusal.{Refusal}
use Rattle.refusal.specs.Answers.{Answer}
use Rattle.holdings.specs.one_shard.Sheet.{empty}
use Rattle.holdings.specs.Answers.{add_answer}
use Rattle.reading.specs.End.{is_end}
use Rattle.sheet.specs.declared.one_turn.Turn.{Turn}
use Rattle.sheet.specs.declared.one_turn.Ending.TheVariants.{More, End, Cut, Long, Full, Unreadable}
use Rattle.sheet.specs.one_turn.Turns.{spec_in, body_length, turning, turn_by, turn_of, stops_short, told, TurnedBy, Turned, Told, Next, Reached, begun, went, most_turns, Finished}

pub spec_is : (head : List ℕ) → record { preshift = get_or head 0 0; hash = get_or head 1 0; minishard_bits = get_or head 2 0; shard_bits = get_or head 3 0; kind = get_or head 4 0 } ≡ spec_in head
unfolding spec_in
spec_is head = refl

pub ruleset header = (spec_is, rules)

module _ (head : List ℕ) where
  pub none-cut : length head < 17 → 0 ≡ body_length head
  unfolding body_length
  none-cut l = rw (lt-ltb (length head) 17 l)

  module _ (h : 17 ≤ length head) {n : ℕ} (e : n ≡ le_at 4 head 13) where
    pub none-long : 65536 < n → 0 ≡ body_length head
    unfolding body_length
    none-long l = rw (le-ltb (length head) 17 h, ← e, lt-ltb 65536 n l)

    pub some-asked : n ≤ 65536 → n ≡ body_length head
    unfolding body_length
    some-asked l = rw (le-ltb (length head) 17 h, ← e, le-ltb 65536 n l)

pub ruleset asking = (none-cut, none-long, some-asked, rules)

module _ (s : Sheet) {a : Answer Sheet} where
  pub by_total : {t : Sheet} → a ≡ Ok t → turning t More ≡ turn_by s a
  unfolding turn_by
  by_total e = rw e

  pub by_refused : {k : Refusal} → a ≡ Err k → turning s Full ≡ turn_by s a
  unfolding turn_by
  by_refused e = rw e

pub ruleset answering = (by_total, by_refused, rules)

module _ (s : Sheet) (head body : List ℕ) where
  pub turn-ended : length head ≡ 0 → turning s End ≡ turn_of s head body
  unfolding turn_of
  turn-ended e = rw (eq-eqb (length head) 0 e)

  module _ (n : length head ≡ 0 → ⊥) where
    pub turn-cut : length head < 17 → turning s Cut ≡ turn_of s head body
    unfolding turn_of
    turn-cut l = rw (ne_eqb (length head) 0 n, lt-ltb (length head) 17 l)

    module _ (h : 17 ≤ length head) {k : ℕ} (e : k ≡ le_at 4 head 13) where
      pub turn-long : 65536 < k → turning s Long ≡ turn_of s head body
      unfolding turn_of
      turn-long l = rw (ne_eqb (length head) 0 n, le-ltb (length head) 17 h, ← e, lt-ltb 65536 k l)

      module _ (b : k ≤ 65536) where
        pub turn-short : length body < k → turning s Cut ≡ turn_of s head body
        unfolding turn_of
        turn-short l = rw (ne_eqb (length head) 0 n, le-ltb (length head) 17 h, ← e, le-ltb 65536 k b, lt-ltb (length body) k l)

        pub turn-added : k ≤ length body → {spec : Sharding} {shard : ℕ} {a : Answer Sheet} {r : Turn} → spec ≡ spec_in head → shard ≡ le_at 8 head 5
            → a ≡ add_answer s spec shard body → r ≡ turn_by s a → r ≡ turn_of s head body
        unfolding turn_of
        turn-added l p q g f = rw (ne_eqb (length head) 0 n, le-ltb (length head) 17 h, ← e, le-ltb 65536 k b, le-ltb (length body) k l) (f ∙ rw (g, p, q))

pub whole-header : (head : List ℕ) → length head ≤ 17 → 17 ≤ length head → length head ≡ 17
whole-header head a b = omega arith

pub ruleset turning-on = (turn-ended, turn-cut, turn-long, turn-short, turn-added, whole-header, rules)

-- ---- reading

pub part-long : (n : ℕ) (d : List ℕ) → n ≤ length d → n ≡ length (take n d)
part-long n d h = sym (length-take-le n d h)

pub body-read : {s : Sheet} {head : List ℕ} {r : Turn} {got : ℕ} (body : List ℕ) → got ≤ length body → r ≡ turn_of s head (take got body) → TurnedBy s head body r
body-read {got = got} body h p = record { got = got; within = h; made = p }

-- the shard's bytes were read into the front of the buffer
pub head_read : {s : Sheet} {r : Turn} (head before part : List ℕ) (asked n : ℕ) → asked ≤ 17 → n ≡ body_length (take asked head) → n ≡ length part
    → TurnedBy s (take asked head) part r → Turned s head before (part ++ drop n before) r
head_read head before part asked n w p q t =
    record {
      asked = asked;
      got = t.got;
      whole = w;
      within = omega (arith, t.within);
      made = t.made ∙ rw (take-append-le t.got part (drop n before) t.within);
      kept = rw (← p, q, drop-append_seam part (drop (length part) before));
    }

pub head-short : (got : ℕ) (head : List ℕ) → length head ≡ 17 → got ≤ length head → length (take got head) ≤ 17
head-short got head l h = omega (arith, length-take-le got head h)

pub ruleset reading = (body-read, head_read, head-short, part-long, rules)

-- ---- one read more

module _ {t : Turn} {b : Bool} (p : b ≡ stops_short t) where
  pub told-stays : b ≡ false → Told t t
  told-stays q = record { answer = Some 0; made = rw (← p, q) }

  pub told_by : {r : Turn} (z : Option ℕ) → b ≡ true → r ≡ told t z → Told t r
  told_by z q f = record { answer = z; made = rw (← p, q) f }

pub next-told : {s : Sheet} {head before body : List ℕ} {t r : Turn} → Turned s head before body t → Told t r → Next s head before body r
next-told {t = t} p q = record { turn = t; turned = p; told = q }

module _ (t : Turn) (z : Option ℕ) {b : Bool} (p : b ≡ is_end z) where
  pub told-end : b ≡ true → t ≡ told t z
  unfolding told
  told-end q = rw (← p, q)

  pub told-unreadable : b ≡ false → turning t.sheet Unreadable ≡ told t z
  unfolding told
  told-unreadable q = rw (← p, q)

pub ruleset telling = (told-stays, told_by, next-told, told-end, told-unreadable, rules)

-- ---- turn after turn

-- so many turns were made
pub record Turning (turns : ℕ) (r : Turn) : Type 0 where
  pub reached : Reached turns r

pub reach_first : {s : Sheet} → s ≡ empty → Turning 0 (turning s More)
reach_first e = record { reached = rw e begun }

pub reach_next : {turns : ℕ} {t r : Turn} {head before body : List ℕ} → Turning turns t → t.ending ≡ More → Next t.sheet head before body r → Turning (turns + 1) r
reach_next {turns = turns} h e q = record { reached = rw (add-one turns) (went h.reached e q) }

pub reach_used : {turns : ℕ} {t : Turn} → Turning turns t → turns ≤ most_turns → most_turns ≤ turns → Finished t
reach_used {turns = turns} h l m = record { turns = turns; reached = h.reached; last = λ e. omega arith }

pub reach_last : {turns : ℕ} {t : Turn} → Turning turns t → (t.ending ≡ More → ⊥) → Finished t
reach_last {turns = turns} h n = record { turns = turns; reached = h.reached; last = λ e. absurd (n e) }

pub ruleset reaching = (reach_first, reach_next, reach_used, reach_last, rules)
