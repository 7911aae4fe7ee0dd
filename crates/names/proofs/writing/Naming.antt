-- What the writers of shard names need.
use Prim.Native.Nat.{ℕ, ◌+◌, ◌≤◌, ◌<◌}
use mathlib.Core.Path.{◌≡◌, refl, sym, ap, ◌∙◌}
use mathlib.Core.Bool.{Bool, true, false, not}
use mathlib.Core.List.{List, [], ◌∷◌, ◌++◌}
use native.Mathlib.Omega.{arith}
use borrow.Author.Rules.{rules}
use lib.ListN.{length}
use Rattle.endian.specs.Little.{le}
use Rattle.endian.specs.Place.{paste}
use Rattle.refusal.specs.Choice.{pick}
use Rattle.refusal.specs.Buffer.{room, written, left_by}
use Rattle.std.specs.Prelude.{Ok}
use Rattle.refusal.specs.Answers.{Answer, refuse}
use Rattle.refusal.proofs.Picks.{by_picks}
use Rattle.refusal.proofs.Tests.{told-no, told-yes}
use Rattle.endian.proofs.Paste.{paste-then, length-paste}
use Rattle.endian.proofs.Buffer.{too_long_lem, kept_whole, at_front}
use Rattle.sharding.specs.Specification.{allowed, no_such_shard}
use Rattle.sharding.specs.declared.Sharding.{Sharding}
use Rattle.names.specs.digits.Digits.{digits}
use Rattle.names.proofs.digits.Numerals.{length_digits}
use Rattle.names.specs.Shards.{shard_digits, suffix_of, file_name, file_name_checks, file_name_answer, file_name_left}
use Rattle.names.specs.declared.FileKind.{FileKind}
use Rattle.names.specs.declared.FileKind.TheVariants.{Shard, Index, Data}
use Rattle.names.proofs.Sharded.{length-file-name}
use Rattle.names.proofs.Texts.{front-room, front-end}

-- ---- the writers

suffix_most : (kind : FileKind) → 5 ≤ length (suffix_of kind)
suffix_most Shard = omega arith
suffix_most Index = omega arith
suffix_most Data = omega arith

-- a suffix, its first four bytes as one number
module _ (kind : FileKind) (at : ℕ) (d : List ℕ) (h : at + length (suffix_of kind) ≤ length d) where
  pub four_room : at + 4 ≤ length d
  four_room = omega (arith, suffix_most kind)

  module _ (v : ℕ) (e : List ℕ) (u : e ≡ paste at (le 4 v) d) where
    same : length e ≡ length d
    unfolding le
    same = rw u (length-paste at (le 4 v) d four_room)

    pub shard-room : kind ≡ Shard → at + 4 + 2 ≤ length e
    shard-room q = let z = rw q at h in omega (arith, same)

    pub index-room : kind ≡ Index → at + 4 + 2 ≤ length e
    index-room q = let z = rw q at h in omega (arith, same)

    pub data_room : kind ≡ Data → at + 4 < length e
    data_room q = let z = rw q at h in omega (arith, same)

  module _ (e s : List ℕ) where
    pub shard-put : kind ≡ Shard → e ≡ paste at (le 4 0x6168732e) d → s ≡ paste (at + 4) (le 2 0x6472) e → s ≡ paste at (suffix_of kind) d
    unfolding le
    shard-put q u v = rw q (paste-then at (at + 4) (46 ∷ 115 ∷ 104 ∷ 97 ∷ []) (114 ∷ 100 ∷ []) d u v refl four_room)

    pub index-put : kind ≡ Index → e ≡ paste at (le 4 0x646e692e) d → s ≡ paste (at + 4) (le 2 0x7865) e → s ≡ paste at (suffix_of kind) d
    unfolding le
    index-put q u v = rw q (paste-then at (at + 4) (46 ∷ 105 ∷ 110 ∷ 100 ∷ []) (101 ∷ 120 ∷ []) d u v refl four_room)

    pub data_put : kind ≡ Data → e ≡ paste at (le 4 0x7461642e) d → s ≡ paste (at + 4) (97 ∷ []) e → s ≡ paste at (suffix_of kind) d
    unfolding le
    data_put q u v = rw q (paste-then at (at + 4) (46 ∷ 100 ∷ 97 ∷ 116 ∷ []) (97 ∷ []) d u v refl four_room)

module _ (kind : FileKind) (spec : Sharding) (n at : ℕ) (d : List ℕ) (l : at + length (file_name kind spec n) ≤ length d) (k : ℕ) (p : k ≡ shard_digits spec) where
  long : length (file_name kind spec n) ≡ k + length (suffix_of kind)
  long = rw p (length-file-name kind spec n)

  pub digits-room : at + k ≤ length d
  digits-room = omega (arith, long)

  pub name-end : {j : ℕ} → j ≡ length (suffix_of kind) → at + k + j ≡ at + length (file_name kind spec n)
  name-end e = omega (arith, long)

  module _ (e : List ℕ) (q : e ≡ paste at (digits 16 k n) d) where
    pub suffix_room : at + k + length (suffix_of kind) ≤ length e
    suffix_room = rw q (omega (arith, long, length_digits 16 k n, length-paste at (digits 16 k n) d (omega (arith, long, length_digits 16 k n))))

    pub name-put : (s : List ℕ) → s ≡ paste (at + k) (suffix_of kind) e → s ≡ paste at (file_name kind spec n) d
    unfolding file_name
    name-put s w =
        paste-then at (at + k) (digits 16 k n) (suffix_of kind) d q w (ap (◌+◌ at) (length_digits 16 k n)) (omega (arith, long, length_digits 16 k n))
        ∙ ap (λ (j : ℕ). paste at (digits 16 j n ++ suffix_of kind) d) p

pub ruleset naming = (four_room, shard-room, index-room, data_room, shard-put, index-put, data_put, digits-room, name-end, suffix_room, name-put, rules)

-- ---- the name at the front of a buffer: m is its length

module _ (kind : FileKind) (spec : Sharding) (n : ℕ) (d : List ℕ) (m : ℕ) (g : m ≡ shard_digits spec + length (suffix_of kind)) where
  fits : m ≡ length (file_name kind spec n)
  fits = g ∙ sym (length-file-name kind spec n)

  pub file-short : length d < m → refuse 13 ≡ written (file_name kind spec n) d
  file-short = too_long_lem (file_name kind spec n) d m fits

  pub file-kept : length d < m → d ≡ left_by (file_name kind spec n) d
  file-kept = kept_whole (file_name kind spec n) d m fits

  module _ (h : m ≤ length d) where
    pub file-room : 0 + length (file_name kind spec n) ≤ length d
    file-room = front-room (file_name kind spec n) d m fits h

    pub file-length : (k : ℕ) → k ≡ 0 + length (file_name kind spec n) → Ok k ≡ written (file_name kind spec n) d
    file-length = front-end (file_name kind spec n) d m fits h

    pub file-left : (s : List ℕ) → s ≡ paste 0 (file_name kind spec n) d → s ≡ left_by (file_name kind spec n) d
    file-left = at_front (file_name kind spec n) d m fits h

pub ruleset filing = (file-short, file-kept, file-room, file-length, file-left, rules)

-- ---- the answers, a law for each way out

module _ (kind : FileKind) (spec : Sharding) (n : ℕ) (d : List ℕ) where
  answer_picks : file_name_answer kind spec n d
      ≡ pick (not (allowed spec)) (refuse 1) (pick (no_such_shard spec n) (refuse 5) (written (file_name kind spec n) d))
  unfolding file_name_answer file_name_checks written
  answer_picks =
      by_picks refuse (file_name_checks kind spec n d) _ refl
      ∙ ap (λ (w : Answer ℕ). pick (not (allowed spec)) (refuse 1) (pick (no_such_shard spec n) (refuse 5) w))
      (sym (by_picks refuse (room (file_name kind spec n) d ∷ []) _ refl))

  left_picks : file_name_left kind spec n d ≡ pick (not (allowed spec)) d (pick (no_such_shard spec n) d (left_by (file_name kind spec n) d))
  unfolding file_name_left file_name_checks left_by
  left_picks =
      by_picks (λ k. d) (file_name_checks kind spec n d) _ refl
      ∙ ap (λ (w : List ℕ). pick (not (allowed spec)) d (pick (no_such_shard spec n) d w))
      (sym (by_picks (λ k. d) (room (file_name kind spec n) d ∷ []) _ refl))

  module _ (r : Bool) (e : r ≡ allowed spec) where
    pub refused_1 : not r ≡ true → refuse 1 ≡ file_name_answer kind spec n d
    refused_1 t = sym (answer_picks ∙ rw (told-no e t))

    pub left_1 : not r ≡ true → d ≡ file_name_left kind spec n d
    left_1 t = sym (left_picks ∙ rw (told-no e t))

    module _ (t : not r ≡ false) where
      pub is-allowed : allowed spec ≡ true
      is-allowed = told-yes e t

      module _ (b : Bool) (f : b ≡ no_such_shard spec n) where
        pub refused_5 : b ≡ true → refuse 5 ≡ file_name_answer kind spec n d
        refused_5 h = sym (answer_picks ∙ rw (is-allowed, sym f ∙ h))

        pub left_5 : b ≡ true → d ≡ file_name_left kind spec n d
        left_5 h = sym (left_picks ∙ rw (is-allowed, sym f ∙ h))

        module _ (h : b ≡ false) where
          pub named : (w : Answer ℕ) → w ≡ written (file_name kind spec n) d → w ≡ file_name_answer kind spec n d
          named w q = q ∙ sym (answer_picks ∙ rw (is-allowed, sym f ∙ h))

          pub named-left : (s : List ℕ) → s ≡ left_by (file_name kind spec n) d → s ≡ file_name_left kind spec n d
          named-left s q = q ∙ sym (left_picks ∙ rw (is-allowed, sym f ∙ h))

pub ruleset answering = (refused_1, left_1, is-allowed, refused_5, left_5, named, named-left, rules)
