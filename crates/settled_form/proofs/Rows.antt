-- The rows of a settled minishard index: they hold u64s, and their sums are the ids and places that they were made from.
use Prim.Native.Nat.{ℕ, zero, suc, ◌+◌, ◌-◌, ◌^◌, ◌≤◌, ◌<◌}
use mathlib.Core.Path.{◌≡◌, refl}
use mathlib.Core.List.Memᴰ
use mathlib.Core.List.{List, [], ◌∷◌, ◌++◌}
use native.Mathlib.Omega.{arith}
use native.Mathlib.Nat.{not-suc-le-zero}
use lib.ListN.{length, get_or}
use Rattle.endian.specs.Little.{row, row_at, Fit}
use Rattle.endian.specs.Place.{Holds}
use Rattle.endian.specs.Range.{sum_to}
use Rattle.endian.proofs.Holds.{holds-left, holds_right, holds_move, holds_row}
use Rattle.sharding.specs.declared.Sharding.{Sharding}
use Rattle.shard.specs.Items.{Item, lead_length_of}
use Rattle.settled_form.specs.Sorted.{Member, Rising}
use Rattle.settled_form.specs.Form.{chunks_of, chunks_length, id_row, start_row, size_row}
use Rattle.settled_form.specs.Content.{id_of}

abbrev pub no_item : Item
no_item = record { id = 0; lead = []; body = [] }

-- a minishard as a settled form has it: its ids rise and are u64s, and each item has as long a lead as its chunk asks for
pub record InForm (spec : Sharding) (xs : List Item) : Type 0 where
  pub rising : Rising id_of xs
  pub bounded : (x : Item) → Member x xs → x.id < 2 ^ 64
  pub led : (x : Item) → Member x xs → length x.lead ≡ lead_length_of spec x.body

-- ---- sums

-- the numbers of a list as a row
abbrev pub nth : List ℕ → ℕ → ℕ
nth ns i = get_or ns i 0

sum_to-cons : (n : ℕ) (ns : List ℕ) (i : ℕ) → sum_to (nth (n ∷ ns)) (suc i) ≡ n + sum_to (nth ns) i
unfolding sum_to
sum_to-cons n ns zero = omega arith
sum_to-cons n ns (suc i) = rw (sum_to-cons n ns i) (omega arith)

pub sum_to-row : {d : List ℕ} {p : ℕ} (ns : List ℕ) (i : ℕ) → Fit ns → Holds d p (row ns) → i ≤ length ns → sum_to (row_at d p) i ≡ sum_to (nth ns) i
unfolding sum_to
sum_to-row ns zero f h l = refl
sum_to-row ns (suc i) f h l = rw (sum_to-row ns i f h (omega arith), holds_row ns i f h l)

-- ---- the rows are of u64s

pub fit-ids : (before : ℕ) (xs : List Item) → ((x : Item) → Member x xs → x.id < 2 ^ 64) → Fit (id_row before xs)
unfolding id_row
fit-ids before [] b = tt
fit-ids before (x ∷ xs) b = (omega (arith, b x (Memᴰ.head refl)), fit-ids x.id xs (λ y m. b y (Memᴰ.tail m)))

pub fit-starts : (p : ℕ) (xs : List Item) → p + chunks_length xs < 2 ^ 64 → Fit (start_row p xs)
unfolding chunks_length start_row
fit-starts p [] h = tt
fit-starts p (x ∷ xs) h = (omega arith, fit-starts 0 xs (omega arith))

pub fit-sizes : (xs : List Item) → chunks_length xs < 2 ^ 64 → Fit (size_row xs)
unfolding chunks_length size_row
fit-sizes [] h = tt
fit-sizes (x ∷ xs) h = (omega arith, fit-sizes xs (omega arith))

-- ---- what the rows add up to

pub sum-ids : (before : ℕ) (xs : List Item) (i : ℕ) → ((x : Item) → Member x xs → before ≤ x.id) → Rising id_of xs → i < length xs
    → before + sum_to (nth (id_row before xs)) (suc i) ≡ (get_or xs i no_item).id
unfolding Rising id_row sum_to
sum-ids before [] i g r l = absurd (not-suc-le-zero l)
sum-ids before (x ∷ xs) zero g r l = omega (arith, g x (Memᴰ.head refl))
sum-ids before (x ∷ xs) (suc i) g r l =
    let h = g x (Memᴰ.head refl) in
    let s = sum_to-cons (x.id - before) (id_row x.id xs) (suc i) in
    let t = sum-ids x.id xs i (λ y m. omega (arith, r.0 y m)) r.1 (omega arith) in
    omega arith

-- where the chunk of item i begins, counted from where the minishard does
unfoldable pub offset : List Item → ℕ → ℕ
offset [] i = 0
offset (x ∷ xs) zero = length x.lead
offset (x ∷ xs) (suc i) = length x.lead + (length x.body + offset xs i)

pub sum-starts : (p : ℕ) (xs : List Item) (i : ℕ) → i < length xs
    → sum_to (nth (start_row p xs)) (suc i) + sum_to (nth (size_row xs)) i ≡ p + offset xs i
unfolding start_row size_row offset sum_to
sum-starts p [] i l = absurd (not-suc-le-zero l)
sum-starts p (x ∷ xs) zero l = omega arith
sum-starts p (x ∷ xs) (suc i) l =
    let s = sum_to-cons (p + length x.lead) (start_row 0 xs) (suc i) in
    let t = sum_to-cons (length x.body) (size_row xs) i in
    let u = sum-starts 0 xs i (omega arith) in
    omega arith

pub size_of : (xs : List Item) (i : ℕ) → i < length xs → nth (size_row xs) i ≡ length (get_or xs i no_item).body
unfolding size_row
size_of [] i l = absurd (not-suc-le-zero l)
size_of (x ∷ xs) zero l = refl
size_of (x ∷ xs) (suc i) l = size_of xs i (omega arith)

-- ---- the chunks

pub holds-body : {d : List ℕ} {p : ℕ} (xs : List Item) (i : ℕ) → Holds d p (chunks_of xs) → i < length xs
    → Holds d (p + offset xs i) (get_or xs i no_item).body
unfolding chunks_of offset
holds-body [] i h l = absurd (not-suc-le-zero l)
holds-body (x ∷ xs) zero h l = holds-left (chunks_of xs) (holds_right x.lead h)
holds-body {d = d} {p = p} (x ∷ xs) (suc i) h l =
    holds_move (holds-body {p = p + length x.lead + length x.body} xs i (holds_right x.body (holds_right x.lead h)) (omega arith)) (omega arith)

-- and right before it its lead
pub holds-lead : {d : List ℕ} {p : ℕ} (xs : List Item) (i : ℕ) → Holds d p (chunks_of xs) → i < length xs
    → Holds d (p + offset xs i - length (get_or xs i no_item).lead) (get_or xs i no_item).lead
unfolding chunks_of offset
holds-lead [] i h l = absurd (not-suc-le-zero l)
holds-lead (x ∷ xs) zero h l = holds_move (holds-left (x.body ++ chunks_of xs) h) (omega arith)
holds-lead {d = d} {p = p} (x ∷ xs) (suc i) h l =
    holds_move (holds-lead {p = p + length x.lead + length x.body} xs i (holds_right x.body (holds_right x.lead h)) (omega arith)) (omega arith)

-- its lead lies before it in the minishard
pub lead-offset : (xs : List Item) (i : ℕ) → i < length xs → length (get_or xs i no_item).lead ≤ offset xs i
unfolding offset
lead-offset [] i l = absurd (not-suc-le-zero l)
lead-offset (x ∷ xs) zero l = omega arith
lead-offset (x ∷ xs) (suc i) l = let g = lead-offset xs i (omega arith) in omega arith

pub offset-size : (xs : List Item) (i : ℕ) → i < length xs → offset xs i + length (get_or xs i no_item).body ≤ chunks_length xs
unfolding offset chunks_length
offset-size [] i l = absurd (not-suc-le-zero l)
offset-size (x ∷ xs) zero l = omega arith
offset-size (x ∷ xs) (suc i) l = let g = offset-size xs i (omega arith) in omega arith
