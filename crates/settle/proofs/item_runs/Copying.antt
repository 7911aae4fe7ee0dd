-- The items of sorted entries, copied with their leads in the order of the rows, and their start steps put in the row of starts.
use Rattle.std.proofs.Common.{◌≡◌, ℕ, suc, ◌+◌, ◌-◌, ◌*◌, ◌^◌, ◌<◌, ◌≤◌, List, [], ◌∷◌, ◌++◌, length, take, drop, sym, refl, ap, ◌∙◌, append_assoc, add-zero, add-one, arith, length-take-le, drop-cons, take-take, w64, Fits, rules}
use lib.Seq.{drop-length, take-append-le}
use Rattle.endian.specs.Little.{le, le_at, row}
use Rattle.endian.specs.Place.{paste}
use Rattle.endian.proofs.Little.{length-le, le_at-drop, le_at-take}
use Rattle.endian.proofs.Part.{part_length}
use Rattle.endian.proofs.Paste.{paste-nil, paste-on, paste-apart, paste_reach, drop-paste, length-paste}
use Rattle.sharding.specs.declared.Sharding.{Sharding}
use Rattle.shard.specs.Items.{lead_length_of, Led}
use Rattle.shard.proofs.Items.{item-size, item-lead, item-bytes}
use Rattle.settled_form.specs.Form.{chunks_of, chunks_length, start_row}
use Rattle.settled_form.proofs.Sorting.{member-at}
use Rattle.index_sort.specs.declared.three_rows.Entry.{Entry}
use Rattle.index_sort.specs.three_rows.Rows.{entry_at, entries_at, no_entry, nth}
use Rattle.index_sort.proofs.three_rows.Bytes.{length-entries, entry-is, entry-eq}
use Rattle.settle.specs.item_runs.Named.{item_from, named, InData}

-- ---- reads beside a write

pub read-after : (a : ℕ) (xs o : List ℕ) (b : ℕ) → a + length xs ≤ length o → a + length xs ≤ b → le_at 8 (paste a xs o) b ≡ le_at 8 o b
read-after a xs o b h l =
    ap (le_at 8 (paste a xs o)) (sym (add-zero b)) ∙ sym (le_at-drop 8 (paste a xs o) b 0)
    ∙ ap (λ (z : List ℕ). le_at 8 z 0) (drop-paste a xs o b h l)
    ∙ le_at-drop 8 o b 0 ∙ ap (le_at 8 o) (add-zero b)

take-before : (a : ℕ) (xs o : List ℕ) → a ≤ length o → take a (paste a xs o) ≡ take a o
unfolding paste
take-before a xs o h = take-append-le a (take a o) (xs ++ drop (a + length xs) o) (omega (arith, length-take-le a o h)) ∙ take-take a a o (omega arith)

pub read-before : (a : ℕ) (xs o : List ℕ) (b : ℕ) → a ≤ length o → b + 8 ≤ a → le_at 8 (paste a xs o) b ≡ le_at 8 o b
read-before a xs o b h l =
    sym (le_at-take 8 (paste a xs o) a b l) ∙ ap (λ (z : List ℕ). le_at 8 z b) (take-before a xs o h) ∙ le_at-take 8 o a b l

-- ---- two writes go on, each where it ended before

pub paste-both : (a a' : ℕ) (E I : List ℕ) (b b' : ℕ) (P B d : List ℕ) → a + length E ≡ a' → b + length P ≡ b' → a' ≤ b → b' ≤ length d
    → paste a' I (paste b' B (paste a E (paste b P d))) ≡ paste a (E ++ I) (paste b (P ++ B) d)
paste-both a a' E I b b' P B d ea eb h g =
    let l = length-paste b P d (omega arith) in
    let u : paste b' B (paste a E (paste b P d)) ≡ paste a E (paste b' B (paste b P d)) = sym (paste-apart a E b' B (paste b P d) (omega arith) (omega arith)) in
    let v : paste b' B (paste b P d) ≡ paste b (P ++ B) d = paste-on b P B d b' (omega arith) eb in
    ap (paste a' I) (u ∙ ap (paste a E) v)
    ∙ paste-on a E I (paste b (P ++ B) d) a' (omega (arith, paste_reach b (P ++ B) d (omega arith))) ea

-- ---- the first of several entries: k is the length of its lead as it was counted

module _ (spec : Sharding) (d : List ℕ) (e : Entry) (es : List Entry) {k : ℕ} (ek : k ≡ lead_length_of spec (take e.size (drop e.start d))) (inside : e.start + e.size ≤ length d)
    (led : Led spec d e.start e.size) where
  chunks-cons : chunks_of (named spec d (e ∷ es)) ≡ take (k + e.size) (drop (e.start - k) d) ++ chunks_of (named spec d es)
  unfolding chunks_of named
  chunks-cons =
      let run : (item_from spec d e).lead ++ (item_from spec d e).body ≡ take (k + e.size) (drop (e.start - k) d) = rw ek (item-bytes spec d e.id e.start e.size inside led.before) in
      sym (append_assoc (item_from spec d e).lead (item_from spec d e).body (chunks_of (named spec d es))) ∙ ap (λ (z : List ℕ). z ++ chunks_of (named spec d es)) run

  length-cons : chunks_length (named spec d (e ∷ es)) ≡ k + e.size + chunks_length (named spec d es)
  unfolding chunks_length named
  length-cons = omega (arith, item-lead spec d e.id e.start e.size inside led.before, item-size spec d e.id e.start e.size inside)

  starts-cons : (p : ℕ) → row (start_row p (named spec d (e ∷ es))) ≡ le 8 (p + k) ++ row (start_row 0 (named spec d es))
  unfolding row start_row named
  starts-cons p = rw (item-lead spec d e.id e.start e.size inside led.before, ek)

none_left : (spec : Sharding) (d : List ℕ) (p : ℕ) → (chunks_of (named spec d []) ≡ []) × (row (start_row p (named spec d [])) ≡ [])
unfolding chunks_of row start_row named
none_left spec d p = (refl, refl)

-- ---- the loop's head: out₀ is the output where it begins, with rows at q; items go to `to`, and the next start step counts from `place`

pub record CopyingRows (spec : Sharding) (d : List ℕ) (n : ℕ) (out₀ : List ℕ) (q at p : ℕ) (out : List ℕ) (i to place : ℕ) : Type 0 where
  pub below : i ≤ n
  pub same : length out ≡ length out₀
  pub low : place ≤ to
  pub rows : (j : ℕ) → i ≤ j → j < n → entry_at out q n j ≡ entry_at out₀ q n j
  pub room : to + chunks_length (named spec d (drop i (entries_at out₀ q n))) ≡ at + chunks_length (named spec d (entries_at out₀ q n))
  pub left : paste to (chunks_of (named spec d (drop i (entries_at out₀ q n)))) (paste (q + 8 * n + 8 * i) (row (start_row place (named spec d (drop i (entries_at out₀ q n))))) out)
      ≡ paste at (chunks_of (named spec d (entries_at out₀ q n))) (paste (q + 8 * n) (row (start_row p (named spec d (entries_at out₀ q n)))) out₀)

pub rows-first : (spec : Sharding) (d : List ℕ) (n : ℕ) (out : List ℕ) (q at p : ℕ) → p ≤ at → CopyingRows spec d n out q at p out 0 at p
rows-first spec d n out q at p l =
    let z : q + 8 * n + 8 * 0 ≡ q + 8 * n = omega arith in
    record { below = omega arith; same = refl; low = l; rows = λ j g k. refl; room = refl; left = rw z }

module _ {spec : Sharding} {d : List ℕ} {n : ℕ} {out₀ : List ℕ} {q at p : ℕ} {out : List ℕ} {i to place : ℕ} (h : CopyingRows spec d n out₀ q at p out i to place) where
  pub rows-room : q + 24 * n ≤ length out₀ → q + 24 * n ≤ length out
  rows-room a = omega (arith, h.same)

  module _ (r : InData spec d (entries_at out₀ q n)) (l : i < n) (e : Entry) (ee : e ≡ entry_at out q n i) where
    is-nth : nth (entries_at out₀ q n) i ≡ e
    is-nth = entry-is out₀ q n i l ∙ sym (ee ∙ h.rows i (omega arith) l)

    pub rows_inside : e.start + e.size ≤ length d
    rows_inside =
        let k : i < length (entries_at out₀ q n) = omega (arith, length-entries out₀ q n) in
        rw is-nth at (r.inside (nth (entries_at out₀ q n) i) (member-at no_entry (entries_at out₀ q n) i k))

    pub rows-led : Led spec d e.start e.size
    rows-led =
        let k : i < length (entries_at out₀ q n) = omega (arith, length-entries out₀ q n) in
        rw is-nth at (r.led (nth (entries_at out₀ q n) i) (member-at no_entry (entries_at out₀ q n) i k))

    split : drop i (entries_at out₀ q n) ≡ e ∷ drop (i + 1) (entries_at out₀ q n)
    split =
        let k : i < length (entries_at out₀ q n) = omega (arith, length-entries out₀ q n) in
        rw (add-one i) (drop-cons (entries_at out₀ q n) i no_entry k ∙ ap (λ (z : Entry). z ∷ drop (suc i) (entries_at out₀ q n)) is-nth)

    module _ (k : ℕ) (ek : k ≡ lead_length_of spec (take e.size (drop e.start d))) where
      pub rows-lead : k ≤ e.start
      rows-lead = omega (arith, rows-led.before)

      pub rows_run : length d < 2 ^ 64 → Fits w64 (k + e.size)
      rows_run b = record { fits = omega (arith, rows-lead, rows_inside) }

      pub rows-from : e.start - k + (k + e.size) ≤ length d
      rows-from = omega (arith, rows-lead, rows_inside)

      rest-is : chunks_length (named spec d (drop i (entries_at out₀ q n))) ≡ k + e.size + chunks_length (named spec d (drop (i + 1) (entries_at out₀ q n)))
      rest-is = rw split (length-cons spec d e (drop (i + 1) (entries_at out₀ q n)) ek rows_inside rows-led)

      module _ (a : at + chunks_length (named spec d (entries_at out₀ q n)) ≤ q) (b : q + 24 * n ≤ length out₀) where
        rows-below : to + (k + e.size) ≤ q
        rows-below = omega (arith, h.room, rest-is)

        pub rows_out : to + (k + e.size) ≤ length out
        rows_out = omega (arith, rows-below, h.same)

        pub rows-place : length out₀ < 2 ^ 64 → Fits w64 (place + k)
        rows-place f = record { fits = omega (arith, rows-below, h.low) }

        pub rows-fits : length out₀ < 2 ^ 64 → Fits w64 (to + (k + e.size))
        rows-fits f = record { fits = omega (arith, rows-below) }

        pub rows_next : {out₁ out₂ : List ℕ} → length out₁ ≡ length out → length out₂ ≡ length out₁ → out₁ ≡ paste to (take (k + e.size) (drop (e.start - k) d)) out
            → out₂ ≡ paste (q + 8 * n + 8 * i) (le 8 (place + k)) out₁ → CopyingRows spec d n out₀ q at p out₂ (i + 1) (to + (k + e.size)) 0
        rows_next {out₁} {out₂} k₁ k₂ w₁ w₂ =
            let E = take (k + e.size) (drop (e.start - k) d) in
            let P = le 8 (place + k) in
            let rest = drop (i + 1) (entries_at out₀ q n) in
            let y = q + 8 * n + 8 * i in
            let s = h.same in
            let o = rows-below in
            let lr = part_length d (e.start - k) (k + e.size) rows-from in
            let lp = length-le 8 (place + k) in
            let w : out₂ ≡ paste to E (paste y P out) = w₂ ∙ ap (paste y P) w₁ ∙ sym (paste-apart to E y P out (omega arith) (omega arith)) in
            let g : paste (to + (k + e.size)) (chunks_of (named spec d rest)) (paste (q + 8 * n + 8 * (i + 1)) (row (start_row 0 (named spec d rest))) out₂)
            ≡ paste to (chunks_of (named spec d (drop i (entries_at out₀ q n)))) (paste y (row (start_row place (named spec d (drop i (entries_at out₀ q n))))) out) =
            rw (w, split, chunks-cons spec d e rest ek rows_inside rows-led, starts-cons spec d e rest ek rows_inside rows-led place)
            (paste-both to (to + (k + e.size)) E (chunks_of (named spec d rest)) y (q + 8 * n + 8 * (i + 1)) P (row (start_row 0 (named spec d rest))) out (omega arith) (omega arith) (omega arith) (omega arith)) in
            record {
              below = omega arith;
              same = k₂ ∙ k₁ ∙ s;
              low = omega arith;
              rows = λ j f m. ahead w₁ w₂ k₁ j f m ∙ h.rows j (omega arith) m;
              room = omega (arith, h.room, rest-is);
              left = g ∙ h.left;
            }
          where
            kept : {out₁ out₂ : List ℕ} → out₁ ≡ paste to (take (k + e.size) (drop (e.start - k) d)) out → out₂ ≡ paste (q + 8 * n + 8 * i) (le 8 (place + k)) out₁ → length out₁ ≡ length out
                → (x : ℕ) → q ≤ x → le_at 8 (paste (q + 8 * n + 8 * i) (le 8 (place + k)) out₁) x ≡ le_at 8 out₁ x → le_at 8 out₂ x ≡ le_at 8 out x
            kept {out₁} w₁ w₂ k₁ x f u =
                let l₁ = part_length d (e.start - k) (k + e.size) rows-from in
                let o = rows-below in
                let s = h.same in
                ap (λ (z : List ℕ). le_at 8 z x) w₂ ∙ u ∙ ap (λ (z : List ℕ). le_at 8 z x) w₁
                ∙ read-after to (take (k + e.size) (drop (e.start - k) d)) out x (omega arith) (omega arith)

            ahead : {out₁ out₂ : List ℕ} → out₁ ≡ paste to (take (k + e.size) (drop (e.start - k) d)) out → out₂ ≡ paste (q + 8 * n + 8 * i) (le 8 (place + k)) out₁ → length out₁ ≡ length out
                → (j : ℕ) → i + 1 ≤ j → j < n → entry_at out₂ q n j ≡ entry_at out q n j
            ahead {out₁} w₁ w₂ k₁ j f m =
                let lp = length-le 8 (place + k) in
                let s = h.same in
                entry-eq
                (kept w₁ w₂ k₁ (q + 8 * j) (omega arith) (read-before (q + 8 * n + 8 * i) (le 8 (place + k)) out₁ (q + 8 * j) (omega arith) (omega arith)))
                (kept w₁ w₂ k₁ (q + 8 * n + 8 * j) (omega arith) (read-after (q + 8 * n + 8 * i) (le 8 (place + k)) out₁ (q + 8 * n + 8 * j) (omega arith) (omega arith)))
                (kept w₁ w₂ k₁ (q + 16 * n + 8 * j) (omega arith) (read-after (q + 8 * n + 8 * i) (le 8 (place + k)) out₁ (q + 16 * n + 8 * j) (omega arith) (omega arith)))

  pub rows-copied : n ≤ i → out ≡ paste at (chunks_of (named spec d (entries_at out₀ q n))) (paste (q + 8 * n) (row (start_row p (named spec d (entries_at out₀ q n)))) out₀)
  rows-copied l =
      let e : i ≡ length (entries_at out₀ q n) = omega (arith, h.below, length-entries out₀ q n) in
      let z : drop i (entries_at out₀ q n) ≡ [] = rw e (drop-length (entries_at out₀ q n)) in
      let a : chunks_of (named spec d (drop i (entries_at out₀ q n))) ≡ [] = rw z (none_left spec d place).0 in
      let b : row (start_row place (named spec d (drop i (entries_at out₀ q n)))) ≡ [] = rw z (none_left spec d place).1 in
      sym (ap (paste to (chunks_of (named spec d (drop i (entries_at out₀ q n))))) (ap (λ (y : List ℕ). paste (q + 8 * n + 8 * i) y out) b ∙ paste-nil (q + 8 * n + 8 * i) out)
      ∙ ap (λ (y : List ℕ). paste to y out) a ∙ paste-nil to out) ∙ h.left

pub ruleset copying_rows = (rows-first, rows-room, rows_inside, rows-led, rows-lead, rows_run, rows-from, rows_out, rows-place, rows-fits, rows_next, rows-copied, rules)
