-- The search in a minishard index of n entries.
use Rattle.std.proofs.Common.{◌≡◌, ℕ, ◌+◌, ◌%◌, ◌^◌, ◌<◌, ◌≤◌, Bool, true, false, not, List, [], ◌∷◌, sym, refl, ◌∙◌, ap₂, arith, eq-eqb, ne_eqb}
use Rattle.refusal.specs.Choice.{pick}
use Rattle.refusal.proofs.Picks.{by_picks}
use Rattle.endian.specs.Range.{any_below, first}
use Rattle.endian.proofs.Ranges.{any_none, any-more, any_hit, any-no, first_hit, first-lt}
use Rattle.shard.specs.index.Index.{id_at, start_at, id_steps, start_steps, sizes}
use Rattle.shard.proofs.index.Tally.{Tally, tally-id, tally-place}
use Rattle.lookup.specs.declared.id_search.LookupAnswer.TheVariants.{Found, Refused}
use Rattle.lookup.specs.id_search.Search.{is_id, not_listed, chunk_of, found_in}

-- ---- what it answers

-- 12 or the chunk, as a choice
pub found_picks : (base : ℕ) (d : List ℕ) (s n id : ℕ) → found_in base d s n id ≡ pick (not (any_below n (is_id (id_steps d s) id))) (Refused 12) (chunk_of base d s n id)
unfolding found_in
found_picks base d s n id = by_picks Refused (not_listed d s n id ∷ []) _ refl

-- the first entry that has the id, and that its chunk is the k bytes from a on, in a file whose shard index has `base` bytes
abbrev pub entry_of : List ℕ → ℕ → ℕ → ℕ → ℕ
entry_of d s n id = first (is_id (id_steps d s) id) n

pub record FoundAt (base : ℕ) (d : List ℕ) (s n id a k : ℕ) : Type 0 where
  pub among : entry_of d s n id < n
  pub placed : a ≡ base + start_at (start_steps d s n) (sizes d s n) (entry_of d s n id)
  pub counted : k ≡ sizes d s n (entry_of d s n id)

module _ (base : ℕ) (d : List ℕ) (s n id : ℕ) where
  -- the first entry with the id is entry i
  pub found_first : (i : ℕ) → i < n → is_id (id_steps d s) id i ≡ true → first (is_id (id_steps d s) id) n ≡ i
      → found_in base d s n id ≡ Found (base + start_at (start_steps d s n) (sizes d s n) i) (sizes d s n i)
  unfolding chunk_of
  found_first i l e q = rw (found_picks base d s n id, any_hit (is_id (id_steps d s) id) n i l e, q)

  -- none has it
  pub found_none : ((i : ℕ) → i < n → id_at (id_steps d s) i ≡ id → ⊥) → found_in base d s n id ≡ Refused 12
  unfolding is_id
  found_none none = rw (found_picks base d s n id, any-no (is_id (id_steps d s) id) n (λ i l. ne_eqb _ _ (none i l)))

  pub none_found : found_in base d s n id ≡ Refused 12 → (i : ℕ) → i < n → id_at (id_steps d s) i ≡ id → ⊥
  unfolding is_id chunk_of
  none_found e i l q =
      let f = rw (found_picks base d s n id, any_hit (is_id (id_steps d s) id) n i l (eq-eqb _ _ q)) at e in
      let z : ◌≡◌ {A = ℕ} 0 1 = cc in
      omega arith

  -- a chunk that was found is that of an entry
  pub found-entry : (a k : ℕ) → found_in base d s n id ≡ Found a k → FoundAt base d s n id a k
  unfolding chunk_of
  found-entry a k e = go (any_below n (is_id (id_steps d s) id)) refl
    where
      go : (b : Bool) → any_below n (is_id (id_steps d s) id) ≡ b → FoundAt base d s n id a k
      go true t = let f = rw (found_picks base d s n id, t) at e in record { among = first-lt (is_id (id_steps d s) id) n t; placed = cc; counted = cc }
      go false t = let f = rw (found_picks base d s n id, t) at e in let z : ◌≡◌ {A = ℕ} 0 1 = cc in absurd (omega arith)

-- ---- as the loop finds it

is-id : (f : ℕ → ℕ) (id i : ℕ) → id_at f i ≡ id → is_id f id i ≡ true
unfolding is_id
is-id f id i p = eq-eqb _ _ p

not-id : (f : ℕ → ℕ) (id i : ℕ) → (id_at f i ≡ id → ⊥) → is_id f id i ≡ false
unfolding is_id
not-id f id i p = ne_eqb _ _ p

pub seek_start : (f : ℕ → ℕ) (id : ℕ) → any_below 0 (is_id f id) ≡ false
seek_start f id = any_none (is_id f id)

pub seek_turn : {f g h : ℕ → ℕ} {n i cur end : ℕ} → Tally f g h n i cur end → (id : ℕ) → {x u : ℕ} → x ≡ f i → u ≡ (cur + x) % 2 ^ 64 → any_below i (is_id f id) ≡ false → (u ≡ id → ⊥) → any_below (i + 1) (is_id f id) ≡ false
seek_turn {f} {i = i} r id e w p q = any-more (is_id f id) i p (not-id f id i (λ k. q (tally-id r e w ∙ k)))

module _ (base : ℕ) (d : List ℕ) (p n id : ℕ) {i cur end : ℕ} (r : Tally (id_steps d p) (start_steps d p n) (sizes d p n) n i cur end) (none : any_below i (is_id (id_steps d p) id) ≡ false) where
  pub seek_hit : i < n → {x y z u v : ℕ} → x ≡ id_steps d p i → u ≡ (cur + x) % 2 ^ 64 → y ≡ start_steps d p n i → v ≡ (end + y) % 2 ^ 64 → z ≡ sizes d p n i → u ≡ id
      → Found (base + v) z ≡ found_in base d p n id
  seek_hit l e w f o c q =
      let has = is-id (id_steps d p) id i (sym (tally-id r e w) ∙ q) in
      ap₂ (λ (a b : ℕ). Found (base + a) b) (tally-place r f o) c ∙ sym (found_first base d p n id i l has (first_hit (is_id (id_steps d p) id) n i none l has))

  pub seek_end : n ≤ i → Refused 12 ≡ found_in base d p n id
  seek_end l =
      let e : i ≡ n = omega arith in
      rw (found_picks base d p n id, (rw e at none))
