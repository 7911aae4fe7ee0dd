-- The entries of a listing: how many numbers they are, which these are, and what each turn of their writing leaves.
use Rattle.std.proofs.Common.{◌≡◌, ℕ, zero, suc, ◌+◌, ◌-◌, ◌*◌, ◌%◌, ◌^◌, ◌<◌, ◌≤◌, List, [], ◌∷◌, length, get_or, set, sym, refl, ap, ◌∙◌, not-suc-le-zero, add-one, arith, length-set}
use Rattle.endian.specs.Place.{paste}
use Rattle.endian.proofs.Paste.{paste-nil, paste-cons, paste-on, store, length-paste}
use Rattle.shard.specs.index.Index.{id_steps, start_steps, sizes, id_at, start_at}
use Rattle.shard.proofs.index.Tally.{Tally, tally-id, tally-place}
use Rattle.lookup.specs.entries.Entries.{triples_from}

-- three stores
pub stored-three : (d : List ℕ) (i x y z : ℕ) → 3 * i + 3 ≤ length d → set (set (set d (3 * i) x) (3 * i + 1) y) (3 * i + 2) z ≡ paste (3 * i) (x ∷ y ∷ z ∷ []) d
stored-three d i x y z h =
    let l1 = length-set d (3 * i) x in
    let l2 = length-set (set d (3 * i) x) (3 * i + 1) y in
    let at : 3 * i + 1 + 1 ≡ 3 * i + 2 = omega arith in
    store (3 * i + 2) z (set (set d (3 * i) x) (3 * i + 1) y) (omega arith)
    ∙ ap (λ (k : ℕ). paste k (z ∷ []) (set (set d (3 * i) x) (3 * i + 1) y)) (sym at)
    ∙ paste-cons (3 * i + 1) y (z ∷ []) (set d (3 * i) x) (omega arith)
    ∙ paste-cons (3 * i) x (y ∷ z ∷ []) d (omega arith)

-- the three numbers of entry i
abbrev pub triple : ℕ → List ℕ → ℕ → ℕ → ℕ → List ℕ
triple base d p n i = id_at (id_steps d p) i ∷ (base + start_at (start_steps d p n) (sizes d p n) i) ∷ sizes d p n i ∷ []

of_three : (x y z : ℕ) (l : List ℕ) (r : ℕ) → r < 3 → get_or (x ∷ y ∷ z ∷ l) r 0 ≡ get_or (x ∷ y ∷ z ∷ []) r 0
of_three x y z l zero h = refl
of_three x y z l (suc zero) h = refl
of_three x y z l (suc (suc zero)) h = refl
of_three x y z l (suc (suc (suc r))) h = absurd (omega arith)

module _ (base : ℕ) (d : List ℕ) (p n : ℕ) where
  pub length-entries : (i k : ℕ) → length (triples_from base d p n i k) ≡ 3 * k
  unfolding triples_from
  length-entries i zero = refl
  length-entries i (suc k) = omega (arith, length-entries (suc i) k)

  -- each of them in turn
  pub entry-number : (i k j r : ℕ) {a b : ℕ} → a ≡ 3 * j + r → b ≡ i + j → j < k → r < 3 → get_or (triples_from base d p n i k) a 0 ≡ get_or (triple base d p n b) r 0
  unfolding triples_from
  entry-number i zero j r e f l h = absurd (not-suc-le-zero l)
  entry-number i (suc k) zero r {a} {b} e f l h =
      let at : a ≡ r = omega arith in
      let of : b ≡ i = omega arith in
      ap (λ (u : ℕ). get_or (triples_from base d p n i (suc k)) u 0) at
      ∙ of_three _ _ _ (triples_from base d p n (suc i) k) r h
      ∙ ap (λ (u : ℕ). get_or (triple base d p n u) r 0) (sym of)
  entry-number i (suc k) (suc j) r {a} {b} e f l h =
      let at : a ≡ suc (suc (suc (3 * j + r))) = omega arith in
      ap (λ (u : ℕ). get_or (triples_from base d p n i (suc k)) u 0) at
      ∙ entry-number (suc i) k j r {a = 3 * j + r} {b = b} (omega arith) (omega arith) (omega arith) h

  -- what is left to write of n entries, from entry i on
  left-some : (i : ℕ) → i < n → triples_from base d p n i (n - i)
      ≡ id_at (id_steps d p) i ∷ (base + start_at (start_steps d p n) (sizes d p n) i) ∷ sizes d p n i ∷ triples_from base d p n (i + 1) (n - (i + 1))
  unfolding triples_from
  left-some i l =
      let e : n - i ≡ suc (n - (i + 1)) = omega arith in
      rw (e, add-one i)

  left-none : (i : ℕ) → n ≤ i → triples_from base d p n i (n - i) ≡ []
  unfolding triples_from
  left-none i l = let e : n - i ≡ 0 = omega arith in rw e

  pub listing-first : (out : List ℕ) → paste (3 * 0) (triples_from base d p n 0 (n - 0)) out ≡ paste 0 (triples_from base d p n 0 n) out
  listing-first out = let e : n - 0 ≡ n = omega arith in rw e

  -- invariant: pasting what is left into what is there gives the whole
  module _ (i : ℕ) (out : List ℕ) {whole : List ℕ} (v : paste (3 * i) (triples_from base d p n i (n - i)) out ≡ whole) where
    pub listing-next : {cur end x y z u w : ℕ} {out' : List ℕ} → Tally (id_steps d p) (start_steps d p n) (sizes d p n) n i cur end
        → out' ≡ paste (3 * i) (u ∷ (base + w) ∷ z ∷ []) out
        → i < n → x ≡ id_steps d p i → u ≡ (cur + x) % 2 ^ 64 → y ≡ start_steps d p n i → w ≡ (end + y) % 2 ^ 64 → z ≡ sizes d p n i → {k : ℕ} → length out ≡ k → 3 * n ≤ k
        → paste (3 * (i + 1)) (triples_from base d p n (i + 1) (n - (i + 1))) out' ≡ whole
    listing-next r w l f o g q h u k =
        rw (w, tally-id r f o, tally-place r g q, h)
        (paste-on (3 * i) (triple base d p n i) (triples_from base d p n (i + 1) (n - (i + 1))) out (3 * (i + 1)) (omega arith) (omega arith)
        ∙ ap (λ (t : List ℕ). paste (3 * i) t out) (sym (left-some i l))
        ∙ v)

    pub listing-last : n ≤ i → out ≡ whole
    listing-last l = sym (paste-nil (3 * i) out) ∙ ap (λ (t : List ℕ). paste (3 * i) t out) (sym (left-none i l)) ∙ v

-- a turn leaves the length
pub listing-length : (i a b c : ℕ) (d d₀ : List ℕ) {d' : List ℕ} {n : ℕ} → d' ≡ paste (3 * i) (a ∷ b ∷ c ∷ []) d → length d ≡ length d₀ → i < n → 3 * n ≤ length d₀ → length d' ≡ length d₀
listing-length i a b c d d₀ e l k h = ap length e ∙ length-paste (3 * i) (a ∷ b ∷ c ∷ []) d (omega arith) ∙ l
