-- Loops that write one piece after another, pieces of one length: what stands written, and what each step leaves.
use Prim.Native.Nat.{ℕ, zero, suc, ◌+◌, ◌*◌, ◌<◌, ◌≤◌}
use mathlib.Core.Path.{◌≡◌, refl, sym, ap, ◌∙◌}
use mathlib.Core.List.{List, ◌++◌, append_assoc, append-nil}
use native.Mathlib.Omega.{arith}
use native.Mathlib.Numerals.{add-one}
use native.Mathlib.Nat.{add-mul, one-mul, suc-mul, zero-mul, add-suc, add-zero, mul-le-mul_right}
use lib.ListN.{length, length-append}
use Rattle.endian.specs.Place.{paste}
use Rattle.endian.proofs.Paste.{paste-nil, length-paste, paste-then}
use Rattle.compressed_segmentation.specs.raw_form.Raw.{concat_to}

-- ---- joined pieces

pub length_joined : (f : ℕ → List ℕ) (k : ℕ) → ((i : ℕ) → length (f i) ≡ k) → (n : ℕ) → length (concat_to f n) ≡ n * k
unfolding concat_to
length_joined f k e zero = sym (zero-mul k)
length_joined f k e (suc n) = length-append (concat_to f n) (f n) ∙ omega (arith, length_joined f k e n, e n, suc-mul n k)

pub joined_add : (f : ℕ → List ℕ) (x n : ℕ) → concat_to f (x + n) ≡ concat_to f x ++ concat_to (λ u. f (x + u)) n
unfolding concat_to
joined_add f x zero = rw (add-zero x) (sym (append-nil (concat_to f x)))
joined_add f x (suc n) =
    ap (concat_to f) (add-suc x n) ∙ ap (λ (l : List ℕ). l ++ f (x + n)) (joined_add f x n) ∙ append_assoc (concat_to f x) _ _

pub joined_same : (f g : ℕ → List ℕ) (n : ℕ) → ((i : ℕ) → i < n → f i ≡ g i) → concat_to f n ≡ concat_to g n
unfolding concat_to
joined_same f g zero e = refl
joined_same f g (suc n) e = rw (joined_same f g n (λ i h. e i (omega arith)), e n (omega arith))

joined_one : (f : ℕ → List ℕ) (i : ℕ) → concat_to f (i + 1) ≡ concat_to f i ++ f i
unfolding concat_to
joined_one f i = rw add-one

-- ---- the loop

-- n pieces f of length k are to stand in d from `at` on; i of them do, up to p
pub record Filled (f : ℕ → List ℕ) (k n at : ℕ) (d : List ℕ) (i p : ℕ) (e : List ℕ) : Type 0 where
  pub each : (j : ℕ) → length (f j) ≡ k
  pub within : i ≤ n
  pub room : at + n * k ≤ length d
  pub place : p ≡ at + i * k
  pub done : e ≡ paste at (concat_to f i) d
  pub same : length e ≡ length d

pub filled_start : {f : ℕ → List ℕ} {k n at : ℕ} {d : List ℕ} → ((j : ℕ) → length (f j) ≡ k) → at + n * k ≤ length d → Filled f k n at d 0 at d
unfolding concat_to
filled_start {f} {k} {n} {at} {d} e h =
    record { each = e; within = omega arith; room = h; place = omega (arith, zero-mul k); done = sym (paste-nil at d); same = refl }

module _ {f : ℕ → List ℕ} {k n at : ℕ} {d : List ℕ} {i p : ℕ} {e : List ℕ} (r : Filled f k n at d i p e) where
  -- c more pieces fit
  more_room : (c : ℕ) → i + c ≤ n → p + c * k ≤ length d
  more_room c h =
      let m = mul-le-mul_right {m = i + c} {n = n} k h in
      omega (arith, add-mul i c k, r.place, r.room)

  pub filled_room : (c : ℕ) → i + c ≤ n → p + c * k ≤ length e
  filled_room c h = omega (arith, more_room c h, r.same)

  pub filled_next : i < n → p + k ≤ length e
  filled_next h = omega (arith, filled_room 1 (omega arith), one-mul k)

  pub filled_by : (c : ℕ) {q : ℕ} {g : List ℕ} → i + c ≤ n → q ≡ p + c * k → g ≡ paste p (concat_to (λ u. f (i + u)) c) e → Filled f k n at d (i + c) q g
  filled_by c {q} {g} h qe ge =
      let l = length_joined f k r.each i in
      let m = length_joined (λ u. f (i + u)) k (λ j. r.each (i + j)) c in
      let b = more_room c h in
      let z : g ≡ paste at (concat_to f (i + c)) d =
      paste-then at p (concat_to f i) (concat_to (λ u. f (i + u)) c) d r.done ge (omega (arith, r.place)) (omega (arith, r.place))
      ∙ ap (λ (x : List ℕ). paste at x d) (sym (joined_add f i c)) in
      record {
        each = r.each;
        within = h;
        room = r.room;
        place = omega (arith, add-mul i c k, r.place);
        done = z;
        same = ap length z ∙ length-paste at (concat_to f (i + c)) d (omega (arith, length_joined f k r.each (i + c), add-mul i c k, r.place));
      }

  pub filled_on : {q : ℕ} {g : List ℕ} → i < n → q ≡ p + k → g ≡ paste p (f i) e → Filled f k n at d (i + 1) q g
  filled_on {q} {g} h qe ge =
      let l = length_joined f k r.each i in
      let b = filled_next h in
      let z : g ≡ paste at (concat_to f (i + 1)) d =
      paste-then at p (concat_to f i) (f i) d r.done ge (omega (arith, r.place)) (omega (arith, r.place, r.same))
      ∙ ap (λ (x : List ℕ). paste at x d) (sym (joined_one f i)) in
      let lq = r.each i in
      record {
        each = r.each;
        within = omega arith;
        room = r.room;
        place = omega (arith, add-mul i 1 k, one-mul k, r.place);
        done = z;
        same = ap length z ∙ length-paste at (concat_to f (i + 1)) d (omega (arith, length_joined f k r.each (i + 1), add-mul i 1 k, one-mul k, r.place, r.same));
      }

  pub filled_place : n ≤ i → p ≡ at + n * k
  filled_place h = let q : i ≡ n = omega (arith, r.within) in r.place ∙ ap (λ (x : ℕ). at + x * k) q

  pub filled_end : n ≤ i → e ≡ paste at (concat_to f n) d
  filled_end h = let q : i ≡ n = omega (arith, r.within) in r.done ∙ ap (λ (x : ℕ). paste at (concat_to f x) d) q
