-- The content of a delivery when one more item comes: as the items come, which is as they are gathered.
use Prim.Native.Nat.{ℕ, zero, suc, ◌+◌, ◌<◌}
use mathlib.Core.Path.{◌≡◌, refl, sym, ap, ◌∙◌}
use mathlib.Core.Bool.{Bool, true, false}
use mathlib.Core.List.{List, [], ◌∷◌, ◌++◌, append-nil}
use native.Mathlib.Omega.{arith}
use native.Mathlib.Nat.{not-suc-le-zero}
use lib.Dec.{eqb}
use lib.ListN.{length, length-append}
use borrow.Author.Tests.{eq-eqb, ne_eqb}
use Rattle.refusal.specs.Choice.{pick}
use Rattle.sharding.specs.declared.Sharding.{Sharding}
use Rattle.sharding.specs.Specification.{minishard_count_of}
use Rattle.sharding.specs.placement.Place.{minishard_of}
use Rattle.shard.specs.Items.{Item}
use Rattle.settled_form.specs.Form.{chunks_length, part_length_of, parts_length, settled, settled_length}
use Rattle.settled_form.specs.Sorted.{Rising}
use Rattle.settled_form.specs.Content.{id_of}
use Rattle.settled_form.proofs.Measures.{part_by_id, length-settled}
use Rattle.settled_form.proofs.ReadBack.{by_id-rising}
use Rattle.delivered.specs.Delivered.{in_minishard, gathered_from, gathered}
use Rattle.delivered.proofs.Appends.{chunks-length-append, empties}

-- the items of k minishards from minishard m on, and of all, in the order in which they come
unfoldable pub arrived_from : Sharding → List Item → ℕ → ℕ → List (List Item)
arrived_from spec xs m zero = []
arrived_from spec xs m (suc k) = in_minishard spec m xs ∷ arrived_from spec xs (suc m) k

unfoldable pub arrived : Sharding → List Item → List (List Item)
arrived spec xs = arrived_from spec xs 0 (minishard_count_of spec)

-- one more item in minishard m
unfoldable pub put_at : ℕ → Item → List (List Item) → List (List Item)
put_at m x [] = []
put_at zero x (l ∷ c) = (l ++ (x ∷ [])) ∷ c
put_at (suc m) x (l ∷ c) = l ∷ put_at m x c

-- ---- of a minishard

pick-append : (b : Bool) (x : Item) (l r : List Item) → pick b (x ∷ (l ++ r)) (l ++ r) ≡ pick b (x ∷ l) l ++ r
pick-append true x l r = refl
pick-append false x l r = refl

in_append : (spec : Sharding) (m : ℕ) (xs ys : List Item) → in_minishard spec m (xs ++ ys) ≡ in_minishard spec m xs ++ in_minishard spec m ys
unfolding in_minishard
in_append spec m [] ys = refl
in_append spec m (x ∷ xs) ys =
    rw (in_append spec m xs ys) (pick-append (eqb (minishard_of spec x.id) m) x (in_minishard spec m xs) (in_minishard spec m ys))

in_one : (spec : Sharding) (m : ℕ) (x : Item) → minishard_of spec x.id ≡ m → in_minishard spec m (x ∷ []) ≡ x ∷ []
unfolding in_minishard
in_one spec m x e = rw (eq-eqb _ _ e)

in_none : (spec : Sharding) (m : ℕ) (x : Item) → (minishard_of spec x.id ≡ m → ⊥) → in_minishard spec m (x ∷ []) ≡ []
unfolding in_minishard
in_none spec m x e = rw (ne_eqb _ _ e)

-- ---- of all minishards

arrived_past : (spec : Sharding) (xs : List Item) (x : Item) (m k : ℕ) → minishard_of spec x.id < m
    → arrived_from spec (xs ++ (x ∷ [])) m k ≡ arrived_from spec xs m k
unfolding arrived_from
arrived_past spec xs x m zero l = refl
arrived_past spec xs x m (suc k) l =
    rw (arrived_past spec xs x (suc m) k (omega arith), in_append spec m xs (x ∷ []), in_none spec m x (λ e. omega arith), append-nil (in_minishard spec m xs))

arrived_put : (spec : Sharding) (xs : List Item) (x : Item) (m i k : ℕ) → minishard_of spec x.id ≡ m + i
    → arrived_from spec (xs ++ (x ∷ [])) m k ≡ put_at i x (arrived_from spec xs m k)
unfolding arrived_from put_at
arrived_put spec xs x m i zero e = refl
arrived_put spec xs x m zero (suc k) e =
    rw (arrived_past spec xs x (suc m) k (omega arith), in_append spec m xs (x ∷ []), in_one spec m x (omega arith))
arrived_put spec xs x m (suc i) (suc k) e =
    rw (arrived_put spec xs x (suc m) i k (omega arith), in_append spec m xs (x ∷ []), in_none spec m x (λ f. omega arith), append-nil (in_minishard spec m xs))

pub arrived_snoc : (spec : Sharding) (xs : List Item) (x : Item) → arrived spec (xs ++ (x ∷ [])) ≡ put_at (minishard_of spec x.id) x (arrived spec xs)
unfolding arrived
arrived_snoc spec xs x = arrived_put spec xs x 0 (minishard_of spec x.id) (minishard_count_of spec) (omega arith)

arrived_none : (spec : Sharding) (m k : ℕ) → arrived_from spec [] m k ≡ empties k
unfolding arrived_from in_minishard
arrived_none spec m zero = refl
arrived_none spec m (suc k) = rw (arrived_none spec (suc m) k)

pub arrived_nil : (spec : Sharding) → arrived spec [] ≡ empties (minishard_count_of spec)
unfolding arrived
arrived_nil spec = arrived_none spec 0 (minishard_count_of spec)

arrived_from-length : (spec : Sharding) (xs : List Item) (m k : ℕ) → length (arrived_from spec xs m k) ≡ k
unfolding arrived_from
arrived_from-length spec xs m zero = refl
arrived_from-length spec xs m (suc k) = ap suc (arrived_from-length spec xs (suc m) k)

pub arrived_length : (spec : Sharding) (xs : List Item) → length (arrived spec xs) ≡ minishard_count_of spec
unfolding arrived
arrived_length spec xs = arrived_from-length spec xs 0 (minishard_count_of spec)

-- ---- one more item, where it goes

pub put-among : (a : List (List Item)) (l : List Item) (b : List (List Item)) (x : Item) → put_at (length a) x (a ++ (l ∷ b)) ≡ a ++ ((l ++ (x ∷ [])) ∷ b)
unfolding put_at
put-among [] l b x = refl
put-among (k ∷ a) l b x = rw (put-among a l b x)

-- the length of a list of minishards, and of all of its settled parts, with one item more
pub put-length : (m : ℕ) (x : Item) (c : List (List Item)) → length (put_at m x c) ≡ length c
unfolding put_at
put-length m x [] = refl
put-length zero x (l ∷ c) = refl
put-length (suc m) x (l ∷ c) = ap suc (put-length m x c)

pub put-parts : (m : ℕ) (x : Item) (c : List (List Item)) → m < length c
    → parts_length (put_at m x c) ≡ parts_length c + (length x.lead + (length x.body + 24))
unfolding put_at parts_length part_length_of chunks_length
put-parts m x [] h = absurd (not-suc-le-zero h)
put-parts zero x (l ∷ c) h =
    rw (chunks-length-append l (x ∷ []), length-append l (x ∷ [])) (omega arith)
put-parts (suc m) x (l ∷ c) h = rw (put-parts m x c (omega arith)) (omega arith)

-- ---- gathered, in rising id order: the same where ids rise, and as long in any order

gathered-from : (spec : Sharding) (xs : List Item) → ((m : ℕ) → Rising id_of (in_minishard spec m xs)) → (m k : ℕ) → gathered_from spec xs m k ≡ arrived_from spec xs m k
unfolding gathered_from arrived_from
gathered-from spec xs r m zero = refl
gathered-from spec xs r m (suc k) = rw (by_id-rising (in_minishard spec m xs) (r m), gathered-from spec xs r (suc m) k)

pub gathered_arrived : (spec : Sharding) (xs : List Item) → ((m : ℕ) → Rising id_of (in_minishard spec m xs)) → gathered spec xs ≡ arrived spec xs
unfolding gathered arrived
gathered_arrived spec xs r = gathered-from spec xs r 0 (minishard_count_of spec)

measured-from : (spec : Sharding) (xs : List Item) (m k : ℕ) → settled_length (gathered_from spec xs m k) ≡ settled_length (arrived_from spec xs m k)
unfolding gathered_from arrived_from settled_length parts_length
measured-from spec xs m zero = refl
measured-from spec xs m (suc k) = omega (arith, measured-from spec xs (suc m) k, part_by_id (in_minishard spec m xs))

pub gathered-length : (spec : Sharding) (xs : List Item) → length (settled (gathered spec xs)) ≡ length (settled (arrived spec xs))
unfolding gathered arrived
gathered-length spec xs =
    length-settled (gathered_from spec xs 0 (minishard_count_of spec)) ∙ measured-from spec xs 0 (minishard_count_of spec)
    ∙ sym (length-settled (arrived_from spec xs 0 (minishard_count_of spec)))
