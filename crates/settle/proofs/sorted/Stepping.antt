-- Rising ids turned into steps, where they stand.
use Rattle.std.proofs.Common.{◌≡◌, ℕ, zero, suc, ◌+◌, ◌-◌, ◌*◌, ◌<◌, ◌≤◌, List, [], ◌++◌, length, sym, refl, ap, ◌∙◌, add-one, arith, rules}
use Rattle.endian.specs.Little.{le, le_at, row, row_at}
use Rattle.endian.specs.Place.{paste}
use Rattle.endian.proofs.Little.{length-le}
use Rattle.endian.proofs.Paste.{paste-nil, paste-on}
use Rattle.sharding.specs.declared.Sharding.{Sharding}
use Rattle.shard.specs.Items.{item_of}
use Rattle.settled_form.specs.Form.{id_row}
use Rattle.index_sort.specs.three_rows.Rows.{row_entries_from, entries_at}
use Rattle.index_sort.proofs.three_rows.Bytes.{kept}
use Rattle.settle.specs.item_runs.Named.{named}
use Rattle.settle.specs.sorted.Reordered.{RisingRow, steps_from}

-- ---- ids turned into steps

steps-cons : (f : ℕ → ℕ) (before n i : ℕ) → i < n → row (steps_from f before i (n - i)) ≡ le 8 (f i - before) ++ row (steps_from f (f i) (i + 1) (n - (i + 1)))
unfolding steps_from row
steps-cons f before n i l =
    let e : n - i ≡ suc (n - (i + 1)) = omega arith in
    rw (e, add-one i)

steps-none : (f : ℕ → ℕ) (before n i : ℕ) → n ≤ i → row (steps_from f before i (n - i)) ≡ []
unfolding steps_from row
steps-none f before n i l = let e : n - i ≡ 0 = omega arith in rw e

pub record Stepping (n : ℕ) (out₀ : List ℕ) (q : ℕ) (out : List ℕ) (i before : ℕ) : Type 0 where
  pub below : i ≤ n
  pub same : length out ≡ length out₀
  pub ahead : (j : ℕ) → i ≤ j → le_at 8 out (q + 8 * j) ≡ le_at 8 out₀ (q + 8 * j)
  pub low : i < n → before ≤ le_at 8 out₀ (q + 8 * i)
  pub left : paste (q + 8 * i) (row (steps_from (row_at out₀ q) before i (n - i))) out ≡ paste q (row (steps_from (row_at out₀ q) 0 0 n)) out₀

pub step-first : (n : ℕ) (out : List ℕ) (q : ℕ) → Stepping n out q out 0 0
step-first n out q =
    let z : q + 8 * 0 ≡ q = omega arith in
    let m : n - 0 ≡ n = omega arith in
    record { below = omega arith; same = refl; ahead = λ j l. refl; low = λ l. omega arith; left = rw (z, m) }

module _ {n : ℕ} {out₀ : List ℕ} {q : ℕ} {out : List ℕ} {i before : ℕ} (h : Stepping n out₀ q out i before) where
  pub step_room : q + 8 * n ≤ length out₀ → i < n → q + 8 * i + 8 ≤ length out
  step_room a l = omega (arith, h.same)

  module _ (l : i < n) (id : ℕ) (e : id ≡ le_at 8 out (q + 8 * i)) where
    id-is : id ≡ le_at 8 out₀ (q + 8 * i)
    id-is = e ∙ h.ahead i (omega arith)

    pub step-low : before ≤ id
    step-low = omega (arith, h.low l, id-is)

    pub step-next : {out' : List ℕ} → RisingRow (row_at out₀ q) n → q + 8 * n ≤ length out₀ → length out' ≡ length out → out' ≡ paste (q + 8 * i) (le 8 (id - before)) out → Stepping n out₀ q out' (i + 1) id
    step-next {out'} up a k w =
        let s = h.same in
        let o = length-le 8 (id - before) in
        let y : paste (q + 8 * (i + 1)) (row (steps_from (row_at out₀ q) id (i + 1) (n - (i + 1)))) out' ≡ paste (q + 8 * i) (row (steps_from (row_at out₀ q) before i (n - i))) out =
        rw (w, steps-cons (row_at out₀ q) before n i l, ← id-is)
        (paste-on (q + 8 * i) (le 8 (id - before)) (row (steps_from (row_at out₀ q) id (i + 1) (n - (i + 1)))) out (q + 8 * (i + 1)) (omega arith) (omega arith)) in
        record {
          below = omega arith;
          same = k ∙ s;
          ahead = λ j g. rw w (kept out q i (id - before) (omega arith) j (λ z. omega arith)) ∙ h.ahead j (omega arith);
          low = λ g. let u = up.up i (omega arith) in rw (add-one i) (omega (arith, id-is));
          left = y ∙ h.left;
        }

  pub stepped : n ≤ i → out ≡ paste q (row (steps_from (row_at out₀ q) 0 0 n)) out₀
  stepped l = sym (paste-nil (q + 8 * i) out) ∙ ap (λ (y : List ℕ). paste (q + 8 * i) y out) (sym (steps-none (row_at out₀ q) before n i l)) ∙ h.left

pub ruleset stepping = (step-first, step_room, step-low, step-next, stepped, rules)

-- the steps are those of the items
steps-row : (spec : Sharding) (d o : List ℕ) (q n before i k : ℕ) → steps_from (row_at o q) before i k ≡ id_row before (named spec d (row_entries_from o q n i k))
unfolding steps_from id_row named row_entries_from item_of
steps-row spec d o q n before i zero = refl
steps-row spec d o q n before i (suc k) = rw (steps-row spec d o q n (le_at 8 o (q + 8 * i)) (suc i) k)

pub steps-ids : (spec : Sharding) (d o : List ℕ) (q n : ℕ) → steps_from (row_at o q) 0 0 n ≡ id_row 0 (named spec d (entries_at o q n))
unfolding entries_at
steps-ids spec d o q n = steps-row spec d o q n 0 0 n

-- equal rows have equal steps
pub steps-same : (f g : ℕ → ℕ) (before i k : ℕ) → ((j : ℕ) → j < i + k → f j ≡ g j) → steps_from f before i k ≡ steps_from g before i k
unfolding steps_from
steps-same f g before i zero h = refl
steps-same f g before i (suc k) h = rw (h i (omega arith), steps-same f g (g i) (suc i) k (λ j l. h j (omega arith)))
