-- The rows of a sheet, and the sheet of one shard, as the code has them. Each law has the shape of a need.
use Prim.Native.Nat.{ℕ}
use mathlib.Core.Path.{◌≡◌, refl}
use mathlib.Core.List.{List, [], ◌∷◌, replicate}
use borrow.Author.Rules.{rules}
use borrow.Author.Tests.{eq-eqb, ne_eqb}
use lib.ListN.{get_or}
use Rattle.holdings.specs.declared.measures.Counts.{Counts}
use Rattle.holdings.specs.declared.one_shard.Sheet.{Sheet}
use Rattle.holdings.specs.one_shard.Sheet.{rows, from_rows_of, reporting, empty, tally, sound_sheet, refused_sheet}

-- ---- rows

pub rows_are : (s : Sheet) → s.sound ∷ s.refused1 ∷ s.refused5 ∷ s.refused6 ∷ s.refused7 ∷ s.refused8 ∷ s.refused9 ∷ s.refused10 ∷ s.refused11 ∷ s.refused15 ∷ s.refused16 ∷ s.refused17 ∷ s.refused21 ∷ s.refused23 ∷ s.chunks ∷ s.bytes ∷ s.unlisted ∷ [] ≡ rows s
unfolding rows
rows_are s = refl

pub sheet-is : (s : List ℕ) → record { sound = get_or s 0 0; refused1 = get_or s 1 0; refused5 = get_or s 2 0; refused6 = get_or s 3 0; refused7 = get_or s 4 0; refused8 = get_or s 5 0; refused9 = get_or s 6 0; refused10 = get_or s 7 0; refused11 = get_or s 8 0; refused15 = get_or s 9 0; refused16 = get_or s 10 0; refused17 = get_or s 11 0; refused21 = get_or s 12 0; refused23 = get_or s 13 0; chunks = get_or s 14 0; bytes = get_or s 15 0; unlisted = get_or s 16 0 } ≡ from_rows_of s
unfolding from_rows_of
sheet-is s = refl

pub ruleset rowing = (rows_are, sheet-is, rules)

module _ {row number : ℕ} where
  pub one-yes : number ≡ row → 1 ≡ tally row number
  unfolding tally
  one-yes e = rw (eq-eqb number row e)

  pub one-no : (number ≡ row → ⊥) → 0 ≡ tally row number
  unfolding tally
  one-no n = rw (ne_eqb number row n)

pub ruleset row = (one-yes, one-no, rules)

-- ---- the sheet of a shard

pub refused-is : (k : ℕ) {t1 t5 t6 t7 t8 t9 t10 t11 t15 t16 t17 t21 t23 : ℕ} → t1 ≡ tally 1 k → t5 ≡ tally 5 k → t6 ≡ tally 6 k → t7 ≡ tally 7 k → t8 ≡ tally 8 k → t9 ≡ tally 9 k → t10 ≡ tally 10 k → t11 ≡ tally 11 k → t15 ≡ tally 15 k → t16 ≡ tally 16 k → t17 ≡ tally 17 k → t21 ≡ tally 21 k → t23 ≡ tally 23 k
    → record { sound = 0; refused1 = t1; refused5 = t5; refused6 = t6; refused7 = t7; refused8 = t8; refused9 = t9; refused10 = t10; refused11 = t11; refused15 = t15; refused16 = t16; refused17 = t17; refused21 = t21; refused23 = t23; chunks = 0; bytes = 0; unlisted = 0 } ≡ refused_sheet k
unfolding refused_sheet reporting from_rows_of
refused-is k e1 e5 e6 e7 e8 e9 e10 e11 e15 e16 e17 e21 e23 = rw (e1, e5, e6, e7, e8, e9, e10, e11, e15, e16, e17, e21, e23)

pub ruleset refusing = (refused-is, rules)

pub empty-is : {s : Sheet} → s ≡ from_rows_of (replicate 17 0) → s ≡ empty
unfolding reporting from_rows_of
empty-is e = e

pub ruleset emptying = (empty-is, rules)

-- an empty one, with the counts of a sound shard
pub sound-is : (k : Counts) {s : Sheet} → s ≡ empty → record { sound = 1; refused1 = s.refused1; refused5 = s.refused5; refused6 = s.refused6; refused7 = s.refused7; refused8 = s.refused8; refused9 = s.refused9; refused10 = s.refused10; refused11 = s.refused11; refused15 = s.refused15; refused16 = s.refused16; refused17 = s.refused17; refused21 = s.refused21; refused23 = s.refused23; chunks = k.chunks; bytes = k.bytes; unlisted = k.unlisted } ≡ sound_sheet k
unfolding sound_sheet reporting from_rows_of
sound-is k e = rw e

pub ruleset sounding = (sound-is, rules)
