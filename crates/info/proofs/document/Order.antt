-- Members that are not used, their order, other scales and the outermost @type never change what a document says.
use Prim.Native.Nat.{ℕ, zero, suc}
use mathlib.Core.Path.{◌≡◌, refl, sym, ap, ◌∙◌}
use mathlib.Core.Bool.{Bool, true, false}
use mathlib.Core.List.{List, [], ◌∷◌, ◌++◌}
use native.Mathlib.Omega.{arith}
use lib.ListN.{length, get_or}
use Rattle.refusal.specs.Choice.{pick}
use Rattle.json_text.specs.tokens.Bytes.{choose, same}
use Rattle.json_text.specs.strings.Names.{eq_list}
use Rattle.json_text.proofs.tokens.Laws.{if_yes, if_no, is_same}
use Rattle.std.specs.Prelude.{Err}
use Rattle.info.specs.declared.sharding_members.SettingsError.TheVariants.{Wrong}
use Rattle.info.specs.sharding_members.Words.{scales_name, sharding_name, type_name}
use Rattle.info.specs.document.Document.{Entry, DocumentOf, Times, times, values_named, member_of, elements_of, when_once, nth}
use Rattle.info.specs.document.Document.DocumentOf.{array, object}
use Rattle.info.specs.document.Document.Times.{never, once, twice}
use Rattle.info.specs.document.Said.{said_size, chunk_of, volume_of, type_said, number_of, sharding_on, settings_on, settings_in}
use Rattle.info.specs.document.Used.{BothBy, SameSharding, SameScale, SameUsed}
use Rattle.info.specs.document.Used.BothBy.{missing, there, doubled}

-- ---- one member

-- two neighbours of a list exchanged, or none
data Exchanged {D : Type 0} : List D → List D → Type 0 where
  kept : {l : List D} → Exchanged l l
  here : {x y : D} {l : List D} → Exchanged (x ∷ y ∷ l) (y ∷ x ∷ l)
  later : {x : D} {l m : List D} → Exchanged l m → Exchanged (x ∷ l) (x ∷ m)

times-exchanged : {D : Type 0} {l m : List D} → Exchanged l m → times l ≡ times m
unfolding times
times-exchanged kept = refl
times-exchanged here = refl
times-exchanged (later kept) = refl
times-exchanged (later here) = refl
times-exchanged (later (later r)) = refl

lists-apart : (a b : List ℕ) → (a ≡ b → ⊥) → eq_list a b ≡ false
unfolding eq_list
lists-apart [] [] h = absurd (h refl)
lists-apart [] (y ∷ ys) h = refl
lists-apart (x ∷ xs) [] h = refl
lists-apart (x ∷ xs) (y ∷ ys) h = go (same x y) refl (λ e. lists-apart xs ys (λ r. h (λ i. is_same x y e i ∷ r i)))
  where
    go : (t : Bool) → same x y ≡ t → (same x y ≡ true → eq_list xs ys ≡ false) → choose (same x y) (eq_list xs ys) false ≡ false
    go true e f = if_yes _ _ _ e ∙ f e
    go false e f = if_no _ _ _ e

module _ {D : Type 0} (name : List ℕ) where
  two-exchanged : (x y : Bool) (a b : D) (l : List D) → Exchanged (pick x (a ∷ pick y (b ∷ l) l) (pick y (b ∷ l) l)) (pick y (b ∷ pick x (a ∷ l) l) (pick x (a ∷ l) l))
  two-exchanged true true a b l = here
  two-exchanged true false a b l = kept
  two-exchanged false true a b l = kept
  two-exchanged false false a b l = kept

  more-exchanged : (x : Bool) (v : D) (l m : List D) → Exchanged l m → Exchanged (pick x (v ∷ l) l) (pick x (v ∷ m) m)
  more-exchanged true v l m r = later r
  more-exchanged false v l m r = r

  values-exchanged : (xs ys : List (Entry D)) (a b : Entry D) → Exchanged (values_named name (xs ++ (a ∷ b ∷ ys))) (values_named name (xs ++ (b ∷ a ∷ ys)))
  unfolding values_named
  values-exchanged [] ys a b = two-exchanged (eq_list a.name name) (eq_list b.name name) a.value b.value (values_named name ys)
  values-exchanged (e ∷ xs) ys a b =
      more-exchanged (eq_list e.name name) e.value (values_named name (xs ++ (a ∷ b ∷ ys))) (values_named name (xs ++ (b ∷ a ∷ ys))) (values-exchanged xs ys a b)

  -- the order of two neighbours does not matter
  pub member-order : (xs ys : List (Entry D)) (a b : Entry D) → member_of name (object (xs ++ (a ∷ b ∷ ys))) ≡ member_of name (object (xs ++ (b ∷ a ∷ ys)))
  unfolding member_of
  member-order xs ys a b = times-exchanged (values-exchanged xs ys a b)

  values-unused : (xs ys : List (Entry D)) (a : Entry D) → eq_list a.name name ≡ false → values_named name (xs ++ (a ∷ ys)) ≡ values_named name (xs ++ ys)
  unfolding values_named
  values-unused [] ys a h = rw h
  values-unused (e ∷ xs) ys a h = ap (λ (l : List D). pick (eq_list e.name name) (e.value ∷ l) l) (values-unused xs ys a h)

  -- a member of another name does not matter
  pub member-unused : (xs ys : List (Entry D)) (a : Entry D) → (a.name ≡ name → ⊥) → member_of name (object (xs ++ (a ∷ ys))) ≡ member_of name (object (xs ++ ys))
  unfolding member_of
  member-unused xs ys a h = ap times (values-unused xs ys a (lists-apart a.name name h))

-- ---- nor does another scale

nth-other : {D : Type 0} (k : ℕ) (xs ys : List D) (a b : D) → (length xs ≡ k → ⊥) → nth k (xs ++ (a ∷ ys)) ≡ nth k (xs ++ (b ∷ ys))
unfolding nth
nth-other zero [] ys a b h = absurd (h refl)
nth-other (suc k) [] ys a b h = refl
nth-other zero (x ∷ xs) ys a b h = refl
nth-other (suc k) (x ∷ xs) ys a b h = nth-other k xs ys a b (λ e. h (ap suc e))

-- ---- documents that agree say the same settings

both-same : {A D : Type 0} {Same : D → D → Type 0} (none : A) (f : D → A) → ((a b : D) → Same a b → f a ≡ f b) → (t u : Times D) → BothBy Same t u → when_once t none f ≡ when_once u none f
both-same none f h t u missing = refl
both-same none f h t u (there {a = a} {b = b} r) = h a b r
both-same none f h t u doubled = refl

sharding-same : {D : Type 0} (u v : DocumentOf (DocumentOf D)) → SameSharding u v → sharding_on u ≡ sharding_on v
unfolding sharding_on type_said number_of
sharding-same u v h = rw (h.type, h.preshift, h.hash, h.minishard, h.shard, h.index, h.bytes)

scale_same : {D : Type 0} (u v : DocumentOf (DocumentOf (DocumentOf (DocumentOf D)))) → SameScale u v → settings_on u ≡ settings_on v
unfolding settings_on volume_of said_size chunk_of
scale_same u v h = rw (h.size, h.chunks, h.offset, both-same (Err Wrong) sharding_on sharding-same (member_of sharding_name u) (member_of sharding_name v) h.sharding)

pub used-same : {D : Type 0} (k : ℕ) (u v : DocumentOf (DocumentOf (DocumentOf (DocumentOf (DocumentOf (DocumentOf D)))))) → SameUsed k u v → settings_in k u ≡ settings_in k v
unfolding settings_in
used-same k u v h =
    both-same (Err Wrong) (λ a. when_once (nth k (elements_of a)) (Err Wrong) settings_on)
    (λ a b r. both-same (Err Wrong) settings_on scale_same (nth k (elements_of a)) (nth k (elements_of b)) r) (member_of scales_name u) (member_of scales_name v) h

-- ---- a document agrees with itself

both-itself : {D : Type 0} {Same : D → D → Type 0} → ((a : D) → Same a a) → (t : Times D) → BothBy Same t t
both-itself h never = missing
both-itself h (once a) = there (h a)
both-itself h twice = doubled

sharding-itself : {D : Type 0} (v : DocumentOf D) → SameSharding v v
sharding-itself v = record { type = refl; preshift = refl; hash = refl; minishard = refl; shard = refl; index = refl; bytes = refl }

scale-itself : {D : Type 0} (v : DocumentOf (DocumentOf D)) → SameScale v v
scale-itself v = record { size = refl; chunks = refl; offset = refl; sharding = both-itself sharding-itself (member_of sharding_name v) }

scales-itself : {D : Type 0} (k : ℕ) (t : Times (DocumentOf (DocumentOf (DocumentOf D)))) → BothBy (λ a b. BothBy SameScale (nth k (elements_of a)) (nth k (elements_of b))) t t
scales-itself k t = both-itself (λ a. both-itself scale-itself (nth k (elements_of a))) t

pub used-itself : {D : Type 0} (k : ℕ) (v : DocumentOf (DocumentOf (DocumentOf (DocumentOf D)))) → SameUsed k v v
used-itself k v = scales-itself k (member_of scales_name v)

-- scales that differ in another one
pub used-scales : {D : Type 0} (k : ℕ) (v w : DocumentOf (DocumentOf (DocumentOf (DocumentOf D)))) (xs ys : List (DocumentOf (DocumentOf D))) (a b : DocumentOf (DocumentOf D))
    → (length xs ≡ k → ⊥) → member_of scales_name v ≡ once (array (xs ++ (a ∷ ys))) → member_of scales_name w ≡ once (array (xs ++ (b ∷ ys))) → SameUsed k v w
unfolding elements_of
used-scales k v w xs ys a b h p q = rw (p, q) (there {a = array (xs ++ (a ∷ ys))} {b = array (xs ++ (b ∷ ys))} (rw (nth-other k xs ys a b h) (both-itself scale-itself (nth k (xs ++ (b ∷ ys))))))

-- a member of the outermost object by another name than scales
pub used-outermost : {D : Type 0} (k : ℕ) (xs ys : List (Entry (DocumentOf (DocumentOf (DocumentOf D))))) (a : Entry (DocumentOf (DocumentOf (DocumentOf D)))) → (a.name ≡ scales_name → ⊥)
    → SameUsed k (object (xs ++ (a ∷ ys))) (object (xs ++ ys))
used-outermost k xs ys a h = rw (member-unused scales_name xs ys a h) (scales-itself k (member_of scales_name (object (xs ++ ys))))

pub type-no-scales : (n : List ℕ) → n ≡ type_name → n ≡ scales_name → ⊥
type-no-scales n p q = let z : ◌≡◌ {A = ℕ} 64 115 = ap (λ (l : List ℕ). get_or l 0 0) (sym p ∙ q) in omega (arith, z)
