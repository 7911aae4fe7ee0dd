-- What the match on an answer of the labels' calls tells, of the shape t that the caller's numbers make: the word, and what lent memory then holds.
use Prim.Native.Nat.{ℕ}
use mathlib.Core.Path.{◌≡◌, refl, sym, ap, ◌∙◌}
use mathlib.Core.Bool.{Bool, true, false}
use mathlib.Core.List.{List}
use borrow.Author.Rules.{rules}
use Rattle.refusal.specs.Checks.{answered}
use Rattle.std.specs.Prelude.{Ok, Err}
use Rattle.refusal.specs.declared.Refusal.{Refusal}
use Rattle.refusal.specs.Table.{number_of}
use Rattle.refusal.specs.Answers.{Answer, refuse}
use Rattle.refusal.specs.Result.{written_result}
use Rattle.refusal.proofs.Picks.{by_picks}
use Rattle.compressed_segmentation.specs.declared.Shape.{Shape}
use Rattle.compressed_segmentation.specs.Labels.{label_answer, label_result}
use Rattle.compressed_segmentation.specs.raw_form.Raw.{length_answer, unpack_answer, unpack_left}
use Rattle.coronagamba.specs.word.Word.{word_of, length_after}
use Rattle.coronagamba.specs.Labels.{no_width, width_checks, label_by, written_by, labels_left_by, label_after}
use Rattle.coronagamba.proofs.Told.{word-success, word-refused, word_same, after, left}

-- ---- by the label width, w telling whether it is none

module _ (bits : ℕ) {w : Bool} (p : w ≡ no_width bits) where
  module _ {A : Type 0} (r : ℕ → A) (a : A) where
    by_none : w ≡ true → r 2 ≡ answered r (width_checks bits) a
    by_none h = sym (by_picks r (width_checks bits) a refl ∙ rw (sym p ∙ h))

    by_width : w ≡ false → a ≡ answered r (width_checks bits) a
    by_width h = sym (by_picks r (width_checks bits) a refl ∙ rw (sym p ∙ h))

  module _ (h : w ≡ true) where
    pub label-none : (a : Answer ℕ) → 2 ≡ word_of (label_result (label_by bits a))
    label-none a = word-refused label_result (by_none refuse a h) refl refl

    pub label-none-kept : (a : Answer ℕ) (n : ℕ) → n ≡ label_after (label_by bits a) n
    unfolding label_after
    label-none-kept a n = ap (λ (b : Answer ℕ). label_after b n) (by_none refuse a h)

    pub written_none : (a : Answer ℕ) → 2 ≡ word_of (written_result (written_by bits a))
    written_none a = word-refused written_result (by_none refuse a h) refl refl

    pub written-none-kept : (a : Answer ℕ) (m : ℕ) → m ≡ length_after (written_by bits a) m
    unfolding length_after
    written-none-kept a m = ap (λ (b : Answer ℕ). length_after b m) (by_none refuse a h)

    pub none_left : (out d : List ℕ) → d ≡ labels_left_by bits out d
    none_left out d = by_none (λ k. d) out h

  module _ (h : w ≡ false) {sh t : Shape} (q : sh ≡ t) where
    module _ (s : List ℕ) (x y z c : ℕ) {b : Answer ℕ} (e : b ≡ label_answer s sh x y z c) where
      asked : b ≡ label_by bits (label_answer s t x y z c)
      asked = e ∙ ap (λ (r : Shape). label_answer s r x y z c) q ∙ by_width refuse (label_answer s t x y z c) h

      pub label-given : {v : ℕ} → b ≡ Ok v → 0 ≡ word_of (label_result (label_by bits (label_answer s t x y z c)))
      label-given i = word-success label_result asked i refl

      pub label-refused : {k : Refusal} {n : ℕ} → b ≡ Err k → n ≡ number_of k → n ≡ word_of (label_result (label_by bits (label_answer s t x y z c)))
      label-refused i m = m ∙ word-refused label_result asked i refl

      pub label-held : (n : ℕ) {v : ℕ} → b ≡ Ok v → v ≡ label_after (label_by bits (label_answer s t x y z c)) n
      unfolding label_after
      label-held n i = after label_after n asked i

      pub label_kept : (n : ℕ) {k : Refusal} → b ≡ Err k → n ≡ label_after (label_by bits (label_answer s t x y z c)) n
      unfolding label_after
      label_kept n i = after label_after n asked i

    module _ {b : Answer ℕ} (e : b ≡ length_answer sh) where
      counted : b ≡ written_by bits (length_answer t)
      counted = e ∙ ap length_answer q ∙ by_width refuse (length_answer t) h

      pub bytes_word : {r : ℕ} → r ≡ word_of (written_result b) → r ≡ word_of (written_result (written_by bits (length_answer t)))
      bytes_word i = word_same written_result i counted

      pub bytes-length : (m : ℕ) {n : ℕ} → n ≡ length_after b m → n ≡ length_after (written_by bits (length_answer t)) m
      bytes-length m i = left length_after m i counted

    module _ (s d : List ℕ) where
      pub unpack-left : {g : List ℕ} → g ≡ unpack_left s sh d → g ≡ labels_left_by bits (unpack_left s t d) d
      unpack-left e = e ∙ ap (λ (r : Shape). unpack_left s r d) q ∙ by_width (λ k. d) (unpack_left s t d) h

      module _ {b : Answer ℕ} (e : b ≡ unpack_answer s sh d) where
        unpacked : b ≡ written_by bits (unpack_answer s t d)
        unpacked = e ∙ ap (λ (r : Shape). unpack_answer s r d) q ∙ by_width refuse (unpack_answer s t d) h

        pub unpack-word : {r : ℕ} → r ≡ word_of (written_result b) → r ≡ word_of (written_result (written_by bits (unpack_answer s t d)))
        unpack-word i = word_same written_result i unpacked

        pub unpack-length : (m : ℕ) {n : ℕ} → n ≡ length_after b m → n ≡ length_after (written_by bits (unpack_answer s t d)) m
        unpack-length m i = left length_after m i unpacked

pub ruleset labelling = (label-none, label-none-kept, label-given, label-refused, label-held, label_kept, rules)

pub ruleset measuring = (written_none, written-none-kept, bytes_word, bytes-length, rules)

pub ruleset unpacking = (written_none, written-none-kept, none_left, unpack-left, unpack-word, unpack-length, rules)
