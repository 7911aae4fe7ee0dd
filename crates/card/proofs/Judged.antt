-- What judging, reading and writing a card need: each way out as a case of its definition.
use Prim.Native.Nat.{ℕ, zero, suc, ◌≤◌, ◌<◌}
use mathlib.Core.Path.{◌≡◌, refl, sym, ◌∙◌}
use mathlib.Core.Bool.{Bool, true, false, not}
use mathlib.Core.List.{List, [], ◌∷◌}
use native.Mathlib.Omega.{arith}
use borrow.Author.Rules.{rules}
use borrow.Author.Tests.{lt-ltb, le-ltb}
use Rattle.refusal.specs.Choice.{pick}
use Rattle.refusal.specs.Checks.{first_number, unless}
use Rattle.refusal.specs.Buffer.{room, over, written, left_by}
use Rattle.std.specs.Prelude.{Ok, Err}
use Rattle.refusal.specs.declared.Refusal.{Refusal}
use Rattle.refusal.specs.declared.Refusal.TheVariants.{ShardingNotAllowed, NoSuchCell, TooManyKeyBits}
use Rattle.refusal.specs.Answers.{Answer, refuse, judged}
use Rattle.refusal.proofs.Passed.{pass, pass-not, passed-on, passed-refused, passed-kept}
use Rattle.refusal.proofs.Picks.{AllIn, all_in_lem}
use Rattle.refusal.proofs.Refusing.{answered-both}
use Rattle.refusal.proofs.Tests.{told-no, told-yes}
use Rattle.morton.specs.grid.Grid.{grid_of, zero_extent}
use Rattle.morton.specs.Key.{key_bits_of, too_many_bits}
use Rattle.sharding.specs.Specification.{allowed}
use Rattle.card.specs.declared.Card.{Card}
use Rattle.card.specs.Layout.{card_bytes}
use Rattle.card.specs.form.Form.{well_formed}
use Rattle.card.specs.Reading.{card_in}
use Rattle.card.specs.Answers.{record_checks, fault, read_checks, read_answer, write_checks, write_answer, write_left}

-- ---- 1, 2 and 3: a is whether the specification is allowed, z whether an extent is 0, b the number of key bits
module _ (c : Card) {a : Bool} (ea : a ≡ allowed c.sharding) where
  pub fault_1 : not a ≡ true → 1 ≡ fault c
  unfolding record_checks first_number
  fault_1 t = rw (told-no ea t)

  module _ (na : not a ≡ false) {z : Bool} (ez : z ≡ zero_extent c.volume) where
    pub fault_2 : z ≡ true → 2 ≡ fault c
    unfolding record_checks first_number
    fault_2 t = rw (told-yes ea na, sym ez ∙ t)

    module _ (nz : z ≡ false) {b : ℕ} (eb : b ≡ key_bits_of (grid_of c.volume)) where
      pub fault_3 : 64 < b → 3 ≡ fault c
      unfolding record_checks first_number too_many_bits
      fault_3 h = rw (told-yes ea na, sym ez ∙ nz, ← eb, lt-ltb 64 b h)

      pub fault_0 : b ≤ 64 → 0 ≡ fault c
      unfolding record_checks first_number too_many_bits
      fault_0 h = rw (told-yes ea na, sym ez ∙ nz, ← eb, le-ltb 64 b h)

pub none-zero : (c : Card) {z : Bool} → z ≡ zero_extent c.volume → z ≡ false → zero_extent c.volume ≡ false
none-zero c ez t = sym ez ∙ t

no-fault : (a z b : Bool) → ◌≡◌ {A = ℕ} (pick (not a) 1 (pick z 2 (pick b 3 0))) 0 → (a ≡ true) × (z ≡ false) × (b ≡ false)
no-fault true false false e = (refl, refl, refl)
no-fault true false true e = absurd (omega arith)
no-fault true true b e = absurd (omega arith)
no-fault false z b e = absurd (omega arith)

-- a record without a fault
pub faultless : (c : Card) → fault c ≡ 0 → (allowed c.sharding ≡ true) × (zero_extent c.volume ≡ false) × (too_many_bits (grid_of c.volume) ≡ false)
unfolding record_checks first_number
faultless c e = no-fault (allowed c.sharding) (zero_extent c.volume) (too_many_bits (grid_of c.volume)) e

record_in : (c : Card) → AllIn (record_checks c)
unfolding record_checks
record_in c = all_in_lem (record_checks c) refl

-- what the judge answers
module _ (c : Card) {a : Bool} (ea : a ≡ allowed c.sharding) where
  pub judged_1 : not a ≡ true → refuse 1 ≡ judged (fault c)
  judged_1 t = pass-not (fault c) ShardingNotAllowed (sym (fault_1 c ea t)) (rw (← fault_1 c ea t) (omega arith))

  module _ (na : not a ≡ false) {z : Bool} (ez : z ≡ zero_extent c.volume) where
    pub judged_2 : z ≡ true → refuse 2 ≡ judged (fault c)
    judged_2 t = pass-not (fault c) NoSuchCell (sym (fault_2 c ea na ez t)) (rw (← fault_2 c ea na ez t) (omega arith))

    module _ (nz : z ≡ false) {b : ℕ} (eb : b ≡ key_bits_of (grid_of c.volume)) where
      pub judged_3 : 64 < b → refuse 3 ≡ judged (fault c)
      judged_3 h = pass-not (fault c) TooManyKeyBits (sym (fault_3 c ea na ez nz eb h)) (rw (← fault_3 c ea na ez nz eb h) (omega arith))

      pub judged_0 : b ≤ 64 → Ok tt ≡ judged (fault c)
      judged_0 h = pass (fault c) (sym (fault_0 c ea na ez nz eb h))

-- ---- reading: w is whether the card is well formed, n its fault
module _ (s : List ℕ) where
  pub read_first : read_answer s ≡ unless refuse (pick (not (well_formed s)) 14 (fault (card_in s))) (Ok (card_in s))
  unfolding read_answer read_checks first_number
  read_first = refl

  module _ {w : Bool} (ew : w ≡ well_formed s) where
    pub read_14 : not w ≡ true → refuse 14 ≡ read_answer s
    unfolding unless
    read_14 t = sym (read_first ∙ rw (told-no ew t))

    pub formed-is : not w ≡ false → well_formed s ≡ true
    formed-is t = told-yes ew t

    module _ (t : not w ≡ false) {c : Card} (ec : c ≡ card_in s) where
      formed : read_answer s ≡ unless refuse (fault c) (Ok c)
      formed = read_first ∙ rw (formed-is t, ← ec)

      pub read-refused : (k : Refusal) → Err k ≡ judged (fault c) → Err k ≡ read_answer s
      read-refused k e = passed-refused (fault c) e (Ok c) ∙ sym formed

      pub read_says : {x : Unit {0}} → Ok x ≡ judged (fault c) → Ok c ≡ read_answer s
      read_says e = sym (formed ∙ passed-on (fault c) e refuse (Ok c))

-- ---- writing
module _ (c : Card) (d : List ℕ) where
  pub write_first : write_answer c d ≡ unless refuse (fault c) (written (card_bytes c) d)
  unfolding write_answer write_checks written
  write_first = answered-both refuse (record_checks c) (room (card_bytes c) d ∷ []) (Ok _) (record_in c)

  pub left-first : write_left c d ≡ unless (λ k. d) (fault c) (left_by (card_bytes c) d)
  unfolding write_left write_checks left_by
  left-first = answered-both (λ k. d) (record_checks c) (room (card_bytes c) d ∷ []) (over (card_bytes c) d) (record_in c)

  module _ (k : Refusal) (e : Err k ≡ judged (fault c)) where
    pub write_refused : Err k ≡ write_answer c d
    write_refused = passed-refused (fault c) e (written (card_bytes c) d) ∙ sym write_first

    pub refused-left : d ≡ write_left c d
    refused-left = passed-kept (fault c) e (left_by (card_bytes c) d) d ∙ sym left-first

  module _ {x : Unit {0}} (e : Ok x ≡ judged (fault c)) where
    pub write_written : {r : Answer ℕ} → r ≡ written (card_bytes c) d → r ≡ write_answer c d
    write_written p = p ∙ sym (write_first ∙ passed-on (fault c) e refuse (written (card_bytes c) d))

    pub written-left : {r : List ℕ} → r ≡ left_by (card_bytes c) d → r ≡ write_left c d
    written-left p = p ∙ sym (left-first ∙ passed-on (fault c) e (λ k. d) (left_by (card_bytes c) d))

pub ruleset judging = (judged_1, judged_2, judged_3, judged_0, none-zero, read_14, formed-is, rules)
