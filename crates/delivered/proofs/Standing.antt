-- How an intake stands between two chunks: its numbers and its buffers, against the minishards that ended and the items of the open one.
use Prim.Native.Nat.{ℕ, suc, ◌+◌, ◌*◌, ◌-◌, ◌^◌, ◌<◌}
use mathlib.Core.Path.{◌≡◌, refl, sym, ap, ◌∙◌}
use mathlib.Core.List.{List, [], ◌∷◌, ◌++◌, append_assoc, append-nil}
use native.Mathlib.Omega.{arith}
use native.Mathlib.Nat.{add-zero}
use lib.ListN.{length, replicate, drop, length-append, length-replicate}
use lib.Seq.{drop_at, drop-drop}
use borrow.Author.Tests.{eq-eqb, ne_eqb}
use Rattle.refusal.specs.Buffer.{over}
use Rattle.endian.specs.Little.{le, row}
use Rattle.endian.specs.Place.{Holds, paste}
use Rattle.endian.proofs.Little.{length-le}
use Rattle.endian.proofs.Holds.{holds-all, holds_right, holds_move, holds-number}
use Rattle.endian.proofs.Paste.{paste_skip, paste-front}
use Rattle.sharding.specs.Specification.{minishard_count_of}
use Rattle.shard.specs.File.{index_length_of}
use Rattle.shard.specs.Items.{Item}
use Rattle.settled_form.specs.Form.{chunks_of, chunks_length, id_row, start_row, size_row, index_of, part_of, part_length_of, parts_from, parts_length, entry_begin, entry_finish, shard_index_from, settled, settled_length}
use Rattle.settled_form.proofs.Measures.{length-chunks, length-shard-index, length-settled}
use Rattle.intake.specs.waiting.Held.{pair, id_held, size_held, steps_held, sizes_held, starts_from, index_held}
use Rattle.intake.proofs.waiting.Pairs.{length-pair}
use Rattle.intake.specs.declared.state.Intake.{Intake}
use Rattle.intake.specs.steps.Steps.{ended_left}
use Rattle.delivered.proofs.Appends.{entry_of, empties, among-length, among-settled}

-- ---- what a list begins with, and what stands behind that: what stood there in another list, its base

pub record Begins (base list s : List ℕ) : Type 0 where
  pub is : list ≡ over s base

pub begins-on : {base o t : List ℕ} (at : ℕ) (i : List ℕ) → Begins base o t → at ≡ length t → Begins base (paste at i o) (t ++ i)
begins-on {base} {o} {t} at i b e =
    let r = drop (length t) base in
    let d : drop (length i) r ≡ drop (length (t ++ i)) base =
    drop-drop (length i) (length t) base ∙ ap (λ (n : ℕ). drop n base) (sym (length-append t i)) in
    record {
      is =
          ap (paste at i) b.is ∙ paste_skip t r i 0 at (omega arith) ∙ ap (◌++◌ t) (paste-front i r (length i) refl ∙ ap (◌++◌ i) d)
          ∙ sym (append_assoc t i (drop (length (t ++ i)) base));
    }

pub begins-over : {base o : List ℕ} (a z r : List ℕ) (at : ℕ) (y : List ℕ) → Begins base o (a ++ (z ++ r)) → at ≡ length a → length z ≡ length y
    → Begins base (paste at y o) (a ++ (y ++ r))
begins-over {base} {o} a z r at y b e l =
    let g = drop (length (a ++ (z ++ r))) base in
    let n : length (a ++ (z ++ r)) ≡ length (a ++ (y ++ r)) = simp (length-append, l) in
    let s : o ≡ a ++ (z ++ (r ++ g)) = b.is ∙ simp append_assoc in
    let t : drop (length y) (z ++ (r ++ g)) ≡ r ++ g = drop_at z (r ++ g) (length y) l in
    let u : a ++ (y ++ (r ++ g)) ≡ (a ++ (y ++ r)) ++ g = simp append_assoc in
    record {
      is =
          ap (paste at y) s ∙ paste_skip a (z ++ (r ++ g)) y 0 at (omega arith)
          ∙ ap (◌++◌ a) (paste-front y (z ++ (r ++ g)) (length y) refl ∙ ap (◌++◌ y) t) ∙ u ∙ ap (λ (k : ℕ). (a ++ (y ++ r)) ++ drop k base) n;
    }

pub begins-same : {base o t u : List ℕ} → Begins base o t → t ≡ u → Begins base o u
begins-same b e = rw e at b

pub begins-holds : {base o t : List ℕ} → Begins base o t → Holds o 0 t
begins-holds {base} {o} {t} b = rw b.is (holds-all [] t (drop (length t) base))

-- ---- the pairs of the second buffer

unfoldable pub pairs_of : List Item → List ℕ
pairs_of [] = []
pairs_of (x ∷ xs) = x.id ∷ length x.body ∷ pairs_of xs

pub pairs-append : (a b : List Item) → pairs_of (a ++ b) ≡ pairs_of a ++ pairs_of b
unfolding pairs_of
pairs-append [] b = refl
pairs-append (x ∷ xs) b = rw (pairs-append xs b)

pub length_pairs : (xs : List Item) → length (row (pairs_of xs)) ≡ 16 * length xs
unfolding pairs_of row
length_pairs [] = refl
length_pairs (x ∷ xs) = simp (length-append, length-le, length_pairs xs) (omega arith)

-- items of a volume whose numbers are u64s
unfoldable pub Plain : List Item → Type 0
Plain [] = Unit {0}
Plain (x ∷ xs) = (x.lead ≡ []) × ((x.id < 2 ^ 64) × ((length x.body < 2 ^ 64) × Plain xs))

pub plain_snoc : (xs : List Item) (x : Item) → Plain xs → x.lead ≡ [] → x.id < 2 ^ 64 → length x.body < 2 ^ 64 → Plain (xs ++ (x ∷ []))
unfolding Plain
plain_snoc [] x p a b c = (a, (b, (c, tt)))
plain_snoc (y ∷ ys) x p a b c = (p.0, (p.1.0, (p.1.1.0, plain_snoc ys x p.1.1.1 a b c)))

module _ {w : List ℕ} where
  steps_are : (before i : ℕ) (xs : List Item) → Plain xs → Holds w (16 * i) (row (pairs_of xs)) → steps_held before w i (length xs) ≡ id_row before xs
  unfolding steps_held id_row pairs_of row Plain
  steps_are before i [] p h = refl
  steps_are before i (x ∷ xs) p h =
      let e : id_held w i ≡ x.id = holds-number 8 x.id (le 8 (length x.body) ++ row (pairs_of xs)) h p.1.0 in
      let g = holds_right (le 8 (length x.body)) (holds_right (le 8 x.id) h) in
      let k = steps_are x.id (suc i) xs p.1.1.1 (holds_move g (omega (arith, length-le 8 x.id, length-le 8 (length x.body)))) in
      rw (e, k)

  sizes_are : (i : ℕ) (xs : List Item) → Plain xs → Holds w (16 * i) (row (pairs_of xs)) → sizes_held w i (length xs) ≡ size_row xs
  unfolding sizes_held size_row pairs_of row Plain
  sizes_are i [] p h = refl
  sizes_are i (x ∷ xs) p h =
      let f = holds_right (le 8 x.id) h in
      let e : size_held w i ≡ length x.body =
      holds-number 8 (length x.body) (row (pairs_of xs)) (holds_move f (omega (arith, length-le 8 x.id))) p.1.1.0 in
      let g = holds_right (le 8 (length x.body)) f in
      let k = sizes_are (suc i) xs p.1.1.1 (holds_move g (omega (arith, length-le 8 x.id, length-le 8 (length x.body)))) in
      rw (e, k)

starts-zero : (xs : List Item) → Plain xs → start_row 0 xs ≡ replicate (length xs) 0
unfolding start_row Plain
starts-zero [] p = refl
starts-zero (x ∷ xs) p = rw (p.0, starts-zero xs p.1.1.1)

starts_are : (p : ℕ) (x : Item) (xs : List Item) → Plain (x ∷ xs) → starts_from p (length (x ∷ xs)) ≡ start_row p (x ∷ xs)
unfolding start_row starts_from Plain
starts_are p x xs q =
    let e : length (x ∷ xs) - 1 ≡ length xs = omega arith in
    rw (q.0, starts-zero xs q.1.1.1, add-zero p) (ap (λ (n : ℕ). p ∷ replicate n 0) e)

index_is : {base : List ℕ} (w : List ℕ) (p : ℕ) (x : Item) (xs : List Item) → Plain (x ∷ xs) → Begins base w (row (pairs_of (x ∷ xs)))
    → index_held p w (length (x ∷ xs)) ≡ index_of p (x ∷ xs)
unfolding index_held index_of
index_is w p x xs q b = rw (steps_are 0 0 (x ∷ xs) q (begins-holds b), sizes_are 0 (x ∷ xs) q (begins-holds b), starts_are p x xs q)

-- ---- an intake that owes nothing: out is the output as lent to the opening, `ended` are the minishards before the open one, xs the items of the open
-- one, and k minishards come after it

pub record Stands (out : List ℕ) (ended : List (List Item)) (xs : List Item) (k : ℕ) (s : Intake) (o w : List ℕ) : Type 0 where
  pub all : minishard_count_of s.spec ≡ length ended + suc k
  pub here : s.minishard ≡ length ended
  pub counted : s.count ≡ length xs
  pub began : s.begin ≡ parts_length ended
  pub reached : s.next ≡ parts_length ended + chunks_length xs
  pub plain : Plain xs
  pub written : Begins out o (settled (ended ++ ([] ∷ empties k)) ++ chunks_of xs)
  -- behind its pairs the second buffer is as this list
  pub older : List ℕ
  pub waits : Begins older w (row (pairs_of xs))

module _ {out : List ℕ} {a : List (List Item)} {xs : List Item} {k : ℕ} {s : Intake} {o w : List ℕ} (h : Stands out a xs k s o w) where
  -- where the next byte goes
  pub next_place : index_length_of s.spec + s.next ≡ length (settled (a ++ ([] ∷ empties k)) ++ chunks_of xs)
  unfolding settled_length part_length_of chunks_length
  next_place =
      let e = length-append (settled (a ++ ([] ∷ empties k))) (chunks_of xs) in
      let f = length-settled (a ++ ([] ∷ empties k)) in
      let g = among-length a [] k in
      let m : length (a ++ ([] ∷ empties k)) ≡ length a + suc k = simp (length-append, length-replicate) in
      omega (arith, length-chunks xs, h.all, h.reached)

  -- the length of the settled form of what was delivered
  pub whole_length_lem : index_length_of s.spec + (s.next + 24 * s.count) ≡ length (settled (a ++ (xs ∷ empties k)))
  unfolding settled_length part_length_of
  whole_length_lem =
      let f = length-settled (a ++ (xs ∷ empties k)) in
      let g = among-length a xs k in
      let m : length (a ++ (xs ∷ empties k)) ≡ length a + suc k = simp (length-append, length-replicate) in
      omega (arith, h.all, h.reached, h.counted)

-- ---- the end of the open minishard

ended-none : {out : List ℕ} {a : List (List Item)} {k : ℕ} {s : Intake} {o w : List ℕ} → Stands out a [] k s o w → Begins out (ended_left s o w) (settled (a ++ ([] ∷ empties k)))
unfolding ended_left chunks_of
ended-none h = rw (eq-eqb _ _ h.counted) (begins-same h.written (append-nil _))

named : (p : ℕ) (x : Item) (xs : List Item)
    → pair (p + chunks_length (x ∷ xs)) (p + chunks_length (x ∷ xs) + 24 * length (x ∷ xs)) ≡ entry_of p (x ∷ xs)
unfolding entry_begin entry_finish part_length_of
named p x xs =
    let e : p + chunks_length (x ∷ xs) + 24 * length (x ∷ xs) ≡ p + (chunks_length (x ∷ xs) + 24 * length (x ∷ xs)) = omega arith in
    ap (pair (p + chunks_length (x ∷ xs))) e

part_none : (p : ℕ) → part_of p [] ≡ []
unfolding part_of chunks_of index_of id_row start_row size_row row
part_none p = refl

part-is : (p : ℕ) (xs : List Item) → part_of p xs ≡ chunks_of xs ++ index_of p xs
unfolding part_of
part-is p xs = refl

entry-none : (p : ℕ) → length (entry_of p []) ≡ 16
entry-none p = length-pair (entry_begin p []) (entry_finish p [])

ended_some : {out : List ℕ} {a : List (List Item)} {x : Item} {xs : List Item} {k : ℕ} {s : Intake} {o w : List ℕ} → Stands out a (x ∷ xs) k s o w
    → Begins out (ended_left s o w) (settled (a ++ ((x ∷ xs) ∷ empties k)))
unfolding ended_left
ended_some {a = a} {x} {xs} {k} {s} {o} {w} h =
    let A = row (shard_index_from 0 a) in
    let P = parts_from 0 a in
    let p = parts_length a in
    let C = chunks_of (x ∷ xs) in
    let I = index_of p (x ∷ xs) in
    let E : List ℕ = replicate (16 * k) 0 in
    let Z = entry_of p [] in
    let Y = entry_of p (x ∷ xs) in
    let i : index_held s.begin w s.count ≡ I = rw (h.began, h.counted) (index_is w p x xs h.plain h.waits) in
    let y : pair s.next (s.next + 24 * s.count) ≡ Y = entry-some in
    let n : s.count ≡ 0 → ⊥ = λ e. omega (arith, h.counted) in
    let b₁ = begins-on (index_length_of s.spec + s.next) I h.written (next_place h) in
    let g : (settled (a ++ ([] ∷ empties k)) ++ C) ++ I ≡ A ++ (Z ++ (E ++ (P ++ (C ++ I)))) = rw (among-settled a [] k) (nothing_there p A Z E P C I) in
    let b₂ = begins-over A Z (E ++ (P ++ (C ++ I))) (16 * s.minishard) Y (begins-same b₁ g) (omega (arith, h.here, length-shard-index 0 a)) (omega (arith, entry-none p, length-pair s.next (s.next + 24 * s.count), ap length y)) in
    let f : settled (a ++ ((x ∷ xs) ∷ empties k)) ≡ A ++ (Y ++ (E ++ (P ++ (C ++ I)))) = rw (among-settled a (x ∷ xs) k) (all_there p A Y E P) in
    rw (ne_eqb s.count 0 n, i, y) (begins-same b₂ (sym f))
  where
    entry-some : pair s.next (s.next + 24 * s.count) ≡ entry_of (parts_length a) (x ∷ xs)
    entry-some = rw (h.reached, h.counted) (named (parts_length a) x xs)

    nothing_there : (p : ℕ) (A Z E P C I : List ℕ) → ((A ++ (Z ++ E)) ++ (P ++ part_of p [])) ++ C ++ I ≡ A ++ (Z ++ (E ++ (P ++ (C ++ I))))
    nothing_there p A Z E P C I = rw (part_none p) (simp (append_assoc, append-nil))

    all_there : (p : ℕ) (A Y E P : List ℕ) → (A ++ (Y ++ E)) ++ (P ++ part_of p (x ∷ xs)) ≡ A ++ (Y ++ (E ++ (P ++ (chunks_of (x ∷ xs) ++ index_of p (x ∷ xs)))))
    all_there p A Y E P = rw (part-is p (x ∷ xs)) (simp append_assoc)

pub ended-begins : {out : List ℕ} {a : List (List Item)} {xs : List Item} {k : ℕ} {s : Intake} {o w : List ℕ} → Stands out a xs k s o w
    → Begins out (ended_left s o w) (settled (a ++ (xs ∷ empties k)))
ended-begins {xs = []} h = ended-none h
ended-begins {xs = x ∷ xs} h = ended_some h
