-- What the code's tests of the last chunk say: each law has the shape of a need.
use Prim.Native.Nat.{ℕ, ◌+◌, ◌-◌, ◌≤◌}
use mathlib.Core.Path.{◌≡◌, refl, sym, ◌∙◌}
use mathlib.Core.Bool.{Bool, true, false, ◌&&◌, ◌||◌}
use mathlib.Core.List.{List}
use native.Mathlib.Omega.{arith}
use lib.Dec.{ltb, leb, eqb}
use borrow.Author.Rules.{rules}
use borrow.Author.Tests.{leb-true, leb-false, le-leb, lt-leb, eqb-true, eqb-false, eq-eqb, ne_eqb}
use Rattle.intake.specs.waiting.Held.{id_held, size_held}
use Rattle.intake.specs.declared.state.Intake.{Intake}
use Rattle.intake.specs.state.State.{spans, waits}

pub spans-is : (s : Intake) (size : ℕ) → s.begin ≤ s.next
    → leb size (s.next + s.owed - s.begin) && (ltb 1 s.count || eqb size (s.next + s.owed - s.begin)) ≡ spans s size
unfolding spans
spans-is s size l = rw (same-most (s.next + s.owed) (omega arith), same_size (s.next + s.owed) (omega arith))
  where
    same-most : (n : ℕ) → s.begin ≤ n → leb size (n - s.begin) ≡ leb (s.begin + size) n
    same-most n k = go (leb (s.begin + size) n) refl
      where
        go : (b : Bool) → leb (s.begin + size) n ≡ b → leb size (n - s.begin) ≡ leb (s.begin + size) n
        go true t = le-leb size (n - s.begin) (omega (arith, leb-true (s.begin + size) n t)) ∙ sym t
        go false t = lt-leb size (n - s.begin) (omega (arith, leb-false (s.begin + size) n t)) ∙ sym t

    same_size : (n : ℕ) → s.begin ≤ n → eqb size (n - s.begin) ≡ eqb (s.begin + size) n
    same_size n k = go (eqb (s.begin + size) n) refl
      where
        go : (b : Bool) → eqb (s.begin + size) n ≡ b → eqb size (n - s.begin) ≡ eqb (s.begin + size) n
        go true t = eq-eqb size (n - s.begin) (omega (arith, eqb-true (s.begin + size) n t)) ∙ sym t
        go false t = let d = eqb-false (s.begin + size) n t in ne_eqb size (n - s.begin) (λ e. d (omega arith)) ∙ sym t

pub waits-is : (s : Intake) (w : List ℕ) {id size : ℕ} {b : Bool} → b ≡ spans s size → id ≡ id_held w (s.count - 1) → size ≡ size_held w (s.count - 1)
    → eqb id s.last && (leb s.owed size && b) ≡ waits s w
unfolding waits
waits-is s w {id} {size} {b} p e f = rw (p, e, f)

pub ruleset spanning = (spans-is, waits-is, rules)
