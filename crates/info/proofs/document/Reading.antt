-- The settings by places in the text are those that the document by places says.
use Prim.Native.Nat.{ℕ, zero, suc, ◌+◌}
use mathlib.Core.Path.{◌≡◌, refl, sym, ap, ◌∙◌}
use mathlib.Core.Bool.{Bool, true, false, ◌&&◌}
use mathlib.Core.List.{List, [], ◌∷◌, map}
use native.Mathlib.Omega.{arith}
use borrow.Author.Tests.{eqb-true, eqb-false, eq-eqb, ne_eqb}
use lib.Dec.{eqb}
use lib.ListN.{get_or}
use Rattle.refusal.specs.Choice.{pick}
use Rattle.json_text.specs.tokens.Bytes.{is_digit, inside}
use Rattle.json_text.specs.tokens.Parts.{ws}
use Rattle.std.specs.Prelude.{Option, Some, None, Err}
use Rattle.json_text.specs.strings.Names.{text_at, eq_list}
use Rattle.json_text.specs.members.Places.{value_of, first_in, items_by, elements, members, is_text, keep, is_name, named, only, member, once_of, needed, pick_nth, element, three_of, lone_of}
use Rattle.info.specs.numbers.Numbers.{when_some, whole_from, natural_at, above_of, below_of, coordinate_at}
use Rattle.info.specs.declared.sharding_members.SettingsError.TheVariants.{Wrong}
use Rattle.info.specs.sharding_members.Words.{scales_name, size_name, chunks_name, offset_name, sharding_name, type_name, preshift_name, hash_name, minishard_bits_name, shard_bits_name, index_name, data_name, type_text, raw_text}
use Rattle.info.specs.scale.Scale.{extents_of, extents_at, offset_of, offset_at_of, size_in, chunk_in, offset_by, offset_in, volume_in, typed, formed, hash_in, number_in, numbers_in, sharding_at, sharding_in, settings_at}
use Rattle.info.specs.sharding_members.Values.{raw_by, hash_at}
use Rattle.info.specs.Settings.{scale_at, settings_of}
use Rattle.info.specs.document.Document.{Entry, DocumentOf, Document, times, values_named, member_of, elements_of, says_text, when_once, when_triple, nth}
use Rattle.info.specs.document.Document.DocumentOf.{word, number, string, array, object}
use Rattle.info.specs.document.Document.Times.{never}
use Rattle.info.specs.document.Places.{said_number_at, document_at, document_found}
use Rattle.info.specs.document.Said.{natural_of, coordinate_of, extents_on, offset_on, said_size, chunk_of, offset_given, volume_of, type_said, raw_given, hash_of, number_of, sharding_on, settings_on, settings_in}

-- ---- a value, by its first byte

data First (b : ℕ) : Type 0 where
  quote : b ≡ 0x22 → First b
  square : b ≡ 0x5B → First b
  curly : b ≡ 0x7B → First b
  plain : (b ≡ 0x22 → ⊥) → (b ≡ 0x5B → ⊥) → (b ≡ 0x7B → ⊥) → First b

first : (b : ℕ) → First b
first b = go (eqb b 0x22) (eqb b 0x5B) (eqb b 0x7B) refl refl refl
  where
    go : (x y z : Bool) → eqb b 0x22 ≡ x → eqb b 0x5B ≡ y → eqb b 0x7B ≡ z → First b
    go true y z p q r = quote (eqb-true b 0x22 p)
    go false true z p q r = square (eqb-true b 0x5B q)
    go false false true p q r = curly (eqb-true b 0x7B r)
    go false false false p q r = plain (eqb-false b 0x22 p) (eqb-false b 0x5B q) (eqb-false b 0x7B r)

unfoldable pub entry : (d : ℕ) → List ℕ → ℕ → Entry (Document d)
entry d s m = record { name = text_at s m; value = document_at d s (value_of s m) }

module _ (d : ℕ) (s : List ℕ) (p : ℕ) where
  pub at_quote : get_or s p 0 ≡ 0x22 → document_at (suc d) s p ≡ string (text_at s p)
  unfolding document_at
  at_quote e = rw (eq-eqb (get_or s p 0) 0x22 e)

  pub at_square : get_or s p 0 ≡ 0x5B → document_at (suc d) s p ≡ array (map (document_at d s) (elements s p))
  unfolding document_at
  at_square e = rw (ne_eqb (get_or s p 0) 0x22 (omega arith), eq-eqb (get_or s p 0) 0x5B e)

  pub at_curly : get_or s p 0 ≡ 0x7B → document_at (suc d) s p ≡ object (map (entry d s) (members s p))
  unfolding document_at entry
  at_curly e = rw (ne_eqb (get_or s p 0) 0x22 (omega arith), ne_eqb (get_or s p 0) 0x5B (omega arith), eq-eqb (get_or s p 0) 0x7B e)

  pub at_plain : (get_or s p 0 ≡ 0x22 → ⊥) → (get_or s p 0 ≡ 0x5B → ⊥) → (get_or s p 0 ≡ 0x7B → ⊥) → document_at (suc d) s p ≡ said_number_at s p
  unfolding document_at
  at_plain x y z = rw (ne_eqb (get_or s p 0) 0x22 x, ne_eqb (get_or s p 0) 0x5B y, ne_eqb (get_or s p 0) 0x7B z)

-- a number has no members and elements and says no text
module _ {D : Type 0} (s : List ℕ) (p : ℕ) where
  number-case : (C : DocumentOf D → Type 0) → ((m : Bool) (n : Option ℕ) → C (number m n)) → C word → C (said_number_at s p)
  unfolding said_number_at
  number-case C f w = go (eqb (get_or s p 0) 0x2D) (is_digit (get_or s p 0))
    where
      go : (x y : Bool) → C (pick x (number true (whole_from s (p + 1))) (pick y (number false (whole_from s p)) word))
      go true y = f true (whole_from s (p + 1))
      go false true = f false (whole_from s p)
      go false false = w

no_items : (opening closing : ℕ) (s : List ℕ) (p : ℕ) → (get_or s p 0 ≡ opening → ⊥) → first_in opening closing s p ≡ None
unfolding first_in
no_items opening closing s p n = rw (ne_eqb (get_or s p 0) opening n)

no-elements : (s : List ℕ) (p : ℕ) → (get_or s p 0 ≡ 0x5B → ⊥) → elements s p ≡ []
unfolding elements items_by
no-elements s p n = rw (no_items 0x5B 0x5D s p n)

no-members : (s : List ℕ) (p : ℕ) → (get_or s p 0 ≡ 0x7B → ⊥) → members s p ≡ []
unfolding members items_by
no-members s p n = rw (no_items 0x7B 0x7D s p n)

-- ---- elements

pub elements-said : (d : ℕ) (s : List ℕ) (p : ℕ) → elements_of (document_at (suc d) s p) ≡ map (document_at d s) (elements s p)
unfolding elements_of
elements-said d s p = go (first (get_or s p 0))
  where
    go : First (get_or s p 0) → elements_of (document_at (suc d) s p) ≡ map (document_at d s) (elements s p)
    go (quote e) = rw (at_quote d s p e, no-elements s p (omega arith))
    go (square e) = rw (at_square d s p e)
    go (curly e) = rw (at_curly d s p e, no-elements s p (omega arith))
    go (plain x y z) = rw (at_plain d s p x y z, no-elements s p y) (number-case s p (λ v. elements_of v ≡ []) (λ m n. refl) refl)

-- ---- members

unfoldable pub valued : (d : ℕ) → List ℕ → ℕ → Document d
valued d s m = document_at d s (value_of s m)

named-entries : (d : ℕ) (name s : List ℕ) (l : List ℕ) → values_named name (map (entry d s) l) ≡ map (valued d s) (keep (is_name name s) l)
unfolding values_named keep is_name entry valued
named-entries d name s [] = refl
named-entries d name s (m ∷ l) = go (eq_list (text_at s m) name) (named-entries d name s l)
  where
    go : (t : Bool) → values_named name (map (entry d s) l) ≡ map (valued d s) (keep (is_name name s) l)
        → pick t (document_at d s (value_of s m) ∷ values_named name (map (entry d s) l)) (values_named name (map (entry d s) l))
        ≡ map (valued d s) (pick t (m ∷ keep (is_name name s) l) (keep (is_name name s) l))
    go true e = ap (λ (r : List (Document d)). document_at d s (value_of s m) ∷ r) e
    go false e = e

pub members-said : (d : ℕ) (name s : List ℕ) (p : ℕ) → member_of name (document_at (suc d) s p) ≡ times (map (valued d s) (named name s p))
unfolding member_of named
members-said d name s p = go (first (get_or s p 0))
  where
    none : (get_or s p 0 ≡ 0x7B → ⊥) → never ≡ times (map (valued d s) (keep (is_name name s) (members s p)))
    none n = rw (no-members s p n) (unfold keep times in refl)

    go : First (get_or s p 0) → member_of name (document_at (suc d) s p) ≡ times (map (valued d s) (keep (is_name name s) (members s p)))
    go (quote e) = rw (at_quote d s p e) (none (omega arith))
    go (square e) = rw (at_square d s p e) (none (omega arith))
    go (curly e) = rw (at_curly d s p e) (ap times (named-entries d name s (members s p)))
    go (plain x y z) = rw (at_plain d s p x y z) (number-case s p (λ v. member_of name v ≡ times (map (valued d s) (keep (is_name name s) (members s p)))) (λ m n. none z) (none z))

-- a member that is asked for once
once-of : {A : Type 0} (d : ℕ) (s : List ℕ) (none : A) (f : Document d → A) (l : List ℕ) → when_once (times (map (valued d s) l)) none f ≡ when_some (once_of (only s l)) none (λ v. f (document_at d s v))
unfolding times only once_of valued
once-of d s none f [] = refl
once-of d s none f (m ∷ []) = refl
once-of d s none f (m ∷ n ∷ l) = refl

pub needed-said : {A : Type 0} (d : ℕ) (name s : List ℕ) (p : ℕ) (none : A) (f : Document d → A)
    → when_once (member_of name (document_at (suc d) s p)) none f ≡ when_some (needed name s p) none (λ v. f (document_at d s v))
unfolding needed member
needed-said d name s p none f = rw (members-said d name s p) (once-of d s none f (named name s p))

-- the same with equal continuations
when_same : {A : Type 0} (q : Option ℕ) (none : A) (f g : ℕ → A) → ((v : ℕ) → f v ≡ g v) → when_some q none f ≡ when_some q none g
when_same (Some v) none f g h = h v
when_same None none f g h = refl

-- ---- leaves

pub digit_no : (b c : ℕ) → b ≡ c → is_digit c ≡ false → is_digit b ≡ false
digit_no b c e t = rw e t

whole-no : (s : List ℕ) (p : ℕ) → is_digit (get_or s p 0) ≡ false → whole_from s p ≡ None
unfolding whole_from
whole-no s p e = rw e

module _ (s : List ℕ) (p : ℕ) where
  natural-no : (get_or s p 0 ≡ 0x2D → ⊥) → is_digit (get_or s p 0) ≡ false → None ≡ natural_at s p
  unfolding natural_at
  natural-no n t = sym (rw (ne_eqb (get_or s p 0) 0x2D n, whole-no s p t))

  coordinate_no : (get_or s p 0 ≡ 0x2D → ⊥) → is_digit (get_or s p 0) ≡ false → None ≡ coordinate_at s p
  unfolding coordinate_at above_of
  coordinate_no n t = sym (rw (ne_eqb (get_or s p 0) 0x2D n, whole-no s p t))

  natural-plain : (D : Type 0) → natural_of {D = D} (said_number_at s p) ≡ natural_at s p
  unfolding said_number_at natural_of natural_at
  natural-plain D = go (eqb (get_or s p 0) 0x2D) (is_digit (get_or s p 0)) refl
    where
      go : (x y : Bool) → is_digit (get_or s p 0) ≡ y
          → natural_of {D = D} (pick x (number true (whole_from s (p + 1))) (pick y (number false (whole_from s p)) word))
          ≡ pick x (when_some (whole_from s (p + 1)) None (λ n. pick (eqb n 0) (Some 0) None)) (whole_from s p)
      go true y e = refl
      go false true e = refl
      go false false e = sym (whole-no s p e)

  coordinate_plain : (D : Type 0) → coordinate_of {D = D} (said_number_at s p) ≡ coordinate_at s p
  unfolding said_number_at coordinate_of coordinate_at
  coordinate_plain D = go (eqb (get_or s p 0) 0x2D) (is_digit (get_or s p 0)) refl
    where
      go : (x y : Bool) → is_digit (get_or s p 0) ≡ y
          → coordinate_of {D = D} (pick x (number true (whole_from s (p + 1))) (pick y (number false (whole_from s p)) word))
          ≡ pick x (below_of (whole_from s (p + 1))) (above_of (whole_from s p))
      go true y e = refl
      go false true e = refl
      go false false e = sym (ap above_of (whole-no s p e) ∙ (unfold above_of in refl))

pub natural-said : (d : ℕ) (s : List ℕ) (p : ℕ) → natural_of (document_at (suc d) s p) ≡ natural_at s p
unfolding natural_of is_digit inside
natural-said d s p = go (first (get_or s p 0))
  where
    go : First (get_or s p 0) → natural_of (document_at (suc d) s p) ≡ natural_at s p
    go (quote e) = rw (at_quote d s p e) (natural-no s p (omega arith) (digit_no (get_or s p 0) 0x22 e refl))
    go (square e) = rw (at_square d s p e) (natural-no s p (omega arith) (digit_no (get_or s p 0) 0x5B e refl))
    go (curly e) = rw (at_curly d s p e) (natural-no s p (omega arith) (digit_no (get_or s p 0) 0x7B e refl))
    go (plain x y z) = rw (at_plain d s p x y z) (natural-plain s p (Document d))

pub coordinate_said : (d : ℕ) (s : List ℕ) (p : ℕ) → coordinate_of (document_at (suc d) s p) ≡ coordinate_at s p
unfolding coordinate_of is_digit inside
coordinate_said d s p = go (first (get_or s p 0))
  where
    go : First (get_or s p 0) → coordinate_of (document_at (suc d) s p) ≡ coordinate_at s p
    go (quote e) = rw (at_quote d s p e) (coordinate_no s p (omega arith) (digit_no (get_or s p 0) 0x22 e refl))
    go (square e) = rw (at_square d s p e) (coordinate_no s p (omega arith) (digit_no (get_or s p 0) 0x5B e refl))
    go (curly e) = rw (at_curly d s p e) (coordinate_no s p (omega arith) (digit_no (get_or s p 0) 0x7B e refl))
    go (plain x y z) = rw (at_plain d s p x y z) (coordinate_plain s p (Document d))

pub text-said : (d : ℕ) (words s : List ℕ) (p : ℕ) → says_text words (document_at (suc d) s p) ≡ is_text words s p
unfolding says_text is_text
text-said d words s p = go (first (get_or s p 0))
  where
    none : (get_or s p 0 ≡ 0x22 → ⊥) → false ≡ (eqb (get_or s p 0) 0x22 && eq_list (text_at s p) words)
    none n = rw (ne_eqb (get_or s p 0) 0x22 n)

    go : First (get_or s p 0) → says_text words (document_at (suc d) s p) ≡ (eqb (get_or s p 0) 0x22 && eq_list (text_at s p) words)
    go (quote e) = rw (at_quote d s p e, eq-eqb (get_or s p 0) 0x22 e)
    go (square e) = rw (at_square d s p e) (none (omega arith))
    go (curly e) = rw (at_curly d s p e) (none (omega arith))
    go (plain x y z) = rw (at_plain d s p x y z) (number-case s p (λ v. says_text words v ≡ (eqb (get_or s p 0) 0x22 && eq_list (text_at s p) words)) (λ m n. none x) (none x))

hash-said : (d : ℕ) (s : List ℕ) (p : ℕ) → hash_of (document_at (suc d) s p) ≡ hash_at s p
unfolding hash_of hash_at is_text
hash-said d s p = go (first (get_or s p 0))
  where
    none : (get_or s p 0 ≡ 0x22 → ⊥) → Err Wrong ≡ hash_at s p
    none n = rw (ne_eqb (get_or s p 0) 0x22 n)

    go : First (get_or s p 0) → hash_of (document_at (suc d) s p) ≡ hash_at s p
    go (quote e) = rw (at_quote d s p e, eq-eqb (get_or s p 0) 0x22 e)
    go (square e) = rw (at_square d s p e) (none (omega arith))
    go (curly e) = rw (at_curly d s p e) (none (omega arith))
    go (plain x y z) = rw (at_plain d s p x y z) (number-case s p (λ v. hash_of v ≡ hash_at s p) (λ m n. none x) (none x))

-- ---- the volume

module _ (d : ℕ) (s : List ℕ) where
  extents-said : (p : ℕ) → extents_on (document_at (suc (suc d)) s p) ≡ extents_at s p
  unfolding extents_on extents_at three_of
  extents-said p = rw (elements-said (suc d) s p) (go (elements s p))
    where
      go : (l : List ℕ) → when_triple (map (document_at (suc d) s) l) None (λ a b c. extents_of (natural_of a) (natural_of b) (natural_of c))
          ≡ when_some (three_of l) None (λ t. extents_of (natural_at s t.x) (natural_at s t.y) (natural_at s t.z))
      go [] = refl
      go (a ∷ []) = refl
      go (a ∷ b ∷ []) = refl
      go (a ∷ b ∷ c ∷ []) = rw (natural-said d s a, natural-said d s b, natural-said d s c)
      go (a ∷ b ∷ c ∷ e ∷ l) = refl

  offset-said : (p : ℕ) → offset_on (document_at (suc (suc d)) s p) ≡ offset_at_of s p
  unfolding offset_on offset_at_of three_of
  offset-said p = rw (elements-said (suc d) s p) (go (elements s p))
    where
      go : (l : List ℕ) → when_triple (map (document_at (suc d) s) l) None (λ a b c. offset_of (coordinate_of a) (coordinate_of b) (coordinate_of c))
          ≡ when_some (three_of l) None (λ t. offset_of (coordinate_at s t.x) (coordinate_at s t.y) (coordinate_at s t.z))
      go [] = refl
      go (a ∷ []) = refl
      go (a ∷ b ∷ []) = refl
      go (a ∷ b ∷ c ∷ []) = rw (coordinate_said d s a, coordinate_said d s b, coordinate_said d s c)
      go (a ∷ b ∷ c ∷ e ∷ l) = refl

  size-said : (p : ℕ) → said_size (document_at (suc (suc (suc d))) s p) ≡ size_in s p
  unfolding said_size size_in
  size-said p = needed-said (suc (suc d)) size_name s p None extents_on ∙ when_same (needed size_name s p) None _ _ extents-said

  lone_said : (l : List ℕ) → when_once (times (map (document_at (suc (suc d)) s) l)) None extents_on ≡ when_some (lone_of l) None (extents_at s)
  unfolding times lone_of
  lone_said [] = refl
  lone_said (a ∷ []) = extents-said a
  lone_said (a ∷ b ∷ l) = refl

  chunk-said : (p : ℕ) → chunk_of (document_at (suc (suc (suc (suc d)))) s p) ≡ chunk_in s p
  unfolding chunk_of chunk_in
  chunk-said p =
      needed-said (suc (suc (suc d))) chunks_name s p None (λ v. when_once (times (elements_of v)) None extents_on)
      ∙ when_same (needed chunks_name s p) None _ _ (λ v. rw (elements-said (suc (suc d)) s v) (lone_said (elements s v)))

  offset-given : (p : ℕ) → offset_given (member_of offset_name (document_at (suc (suc (suc d))) s p)) ≡ offset_in s p
  unfolding offset_in member offset_given times offset_by only valued
  offset-given p = rw (members-said (suc (suc d)) offset_name s p) (go (named offset_name s p))
    where
      go : (l : List ℕ) → offset_given (times (map (valued (suc (suc d)) s) l)) ≡ offset_by s (only s l)
      go [] = refl
      go (m ∷ []) = offset-said (value_of s m)
      go (m ∷ n ∷ l) = refl

module _ (d : ℕ) (s : List ℕ) where
  volume-said : (p : ℕ) → volume_of (document_at (suc (suc (suc (suc d)))) s p) ≡ volume_in s p
  unfolding volume_of volume_in
  volume-said p = rw (size-said (suc d) s p, chunk-said d s p, offset-given (suc d) s p)

  -- ---- the sharding

  typed-said : (p : ℕ) → type_said (document_at (suc (suc d)) s p) ≡ typed s p
  unfolding type_said typed
  typed-said p = needed-said (suc d) type_name s p false (says_text type_text) ∙ when_same (needed type_name s p) false _ _ (text-said d type_text s)

  raw_said : (name : List ℕ) (p : ℕ) → raw_given (member_of name (document_at (suc (suc d)) s p)) ≡ raw_by s (member name s p)
  unfolding member raw_given times raw_by only valued
  raw_said name p = rw (members-said (suc d) name s p) (go (named name s p))
    where
      go : (l : List ℕ) → raw_given (times (map (valued (suc d) s) l)) ≡ raw_by s (only s l)
      go [] = refl
      go (m ∷ []) = text-said d raw_text s (value_of s m)
      go (m ∷ n ∷ l) = refl

  hashed_said : (p : ℕ) → when_once (member_of hash_name (document_at (suc (suc d)) s p)) (Err Wrong) hash_of ≡ hash_in s p
  unfolding hash_in
  hashed_said p = needed-said (suc d) hash_name s p (Err Wrong) hash_of ∙ when_same (needed hash_name s p) (Err Wrong) _ _ (hash-said d s)

  number-said : (name : List ℕ) (p : ℕ) → number_of name (document_at (suc (suc d)) s p) ≡ number_in name s p
  unfolding number_of number_in
  number-said name p = needed-said (suc d) name s p None natural_of ∙ when_same (needed name s p) None _ _ (natural-said d s)

  sharding-said : (p : ℕ) → sharding_on (document_at (suc (suc d)) s p) ≡ sharding_at s p
  unfolding sharding_on sharding_at formed numbers_in
  sharding-said p =
      rw (typed-said p, raw_said index_name p, raw_said data_name p, number-said preshift_name p, hashed_said p, number-said minishard_bits_name p, number-said shard_bits_name p)

-- ---- the whole

module _ (d : ℕ) (s : List ℕ) where
  settings_said : (p : ℕ) → settings_on (document_at (suc (suc (suc (suc d)))) s p) ≡ settings_at s p
  unfolding settings_on settings_at sharding_in
  settings_said p =
      rw (
        volume-said d s p,
        needed-said (suc (suc (suc d))) sharding_name s p (Err Wrong) sharding_on
            ∙ when_same (needed sharding_name s p) (Err Wrong) _ _ (sharding-said (suc d) s),
      )

  nth-said : (k : ℕ) (l : List ℕ) → when_once (nth k (map (document_at (suc (suc (suc (suc d)))) s) l)) (Err Wrong) settings_on ≡ when_some (pick_nth k l) (Err Wrong) (settings_at s)
  unfolding pick_nth nth
  nth-said zero [] = refl
  nth-said (suc k) [] = refl
  nth-said zero (x ∷ l) = settings_said x
  nth-said (suc k) (x ∷ l) = nth-said k l

  scale-said : (k p : ℕ) → settings_in k (document_at (suc (suc (suc (suc (suc (suc d)))))) s p) ≡ when_some (needed scales_name s p) (Err Wrong) (λ v. when_some (pick_nth k (elements s v)) (Err Wrong) (settings_at s))
  unfolding settings_in
  scale-said k p =
      needed-said (suc (suc (suc (suc (suc d))))) scales_name s p (Err Wrong) (λ v. when_once (nth k (elements_of v)) (Err Wrong) settings_on)
      ∙ when_same (needed scales_name s p) (Err Wrong) _ _ (λ v. rw (elements-said (suc (suc (suc (suc d)))) s v) (nth-said k (elements s v)))

when_twice : {A : Type 0} (q : Option ℕ) (none : A) (g : ℕ → Option ℕ) (f : ℕ → A) → when_some (when_some q None g) none f ≡ when_some q none (λ v. when_some (g v) none f)
when_twice (Some v) none g f = refl
when_twice None none g f = refl

pub settings_by_places : (s : List ℕ) (k : ℕ) → settings_of s k ≡ settings_in k (document_found s)
unfolding settings_of scale_at element document_found
settings_by_places s k = when_twice (needed scales_name s (ws s 0)) (Err Wrong) (λ v. pick_nth k (elements s v)) (settings_at s) ∙ sym (scale-said 26 s k (ws s 0))
