-- All minishards: the loops that add up lengths and that write.
use Rattle.std.proofs.Common.{◌≡◌, ℕ, zero, suc, ◌+◌, ◌-◌, ◌*◌, ◌^◌, ◌<◌, ◌≤◌, true, List, [], ◌∷◌, ◌++◌, length, sym, refl, ap, ◌∙◌, add-one, arith, w64, Fits, rules}
use native.Mathlib.Nat.{sub-zero}
use Rattle.refusal.specs.Buffer.{over}
use Rattle.endian.specs.Little.{row}
use Rattle.endian.specs.Place.{paste}
use Rattle.endian.proofs.Paste.{paste-front, paste-on, paste-apart}
use Rattle.sharding.specs.declared.Sharding.{Sharding}
use Rattle.sharding.specs.Specification.{allowed, minishard_count_of}
use Rattle.sharding.proofs.Allowed.{minishards-most}
use Rattle.shard.specs.index.Index.{most_shard_bytes}
use Rattle.shard.specs.Items.{Item}
use Rattle.settled_form.specs.Form.{part_of, part_length_of, parts_from, parts_length, shard_index_from, settled, settled_length}
use Rattle.settled_form.proofs.Measures.{length_part, length-shard-index}
use Rattle.settle.specs.minishard_length.Writing.{capped}
use Rattle.settle.proofs.item_runs.Copying.{paste-both}
use Rattle.settle.proofs.length.Lengths.{length-nil, length-cons}
use Rattle.settle.specs.writing.Entry.{settled_entry}
use Rattle.settle.proofs.writing.WriteWhole.{entries-cons, parts-cons, entries-nil, parts-nil, length-entry, paste-done}
use Rattle.repair.specs.form.Chosen.{chosen, content_by, chosen_content, repaired_form, repaired_length}
use Rattle.repair.specs.form.Choosing.{Pair, SoundInOne, SoundInOneEach, length_by}

-- ---- minishards from m on, of n

module _ (f : ℕ → List Item) where
  abbrev pub from : ℕ → ℕ → List (List Item)
  from n m = content_by f m (n - m)

  content-cons : (m k : ℕ) → content_by f m (suc k) ≡ f m ∷ content_by f (suc m) k
  unfolding content_by
  content-cons m k = refl

  content-none : (m k : ℕ) → k ≡ 0 → content_by f m k ≡ []
  unfolding content_by
  content-none m k e = rw e

  pub length-content_by : (m k : ℕ) → length (content_by f m k) ≡ k
  unfolding content_by
  length-content_by m zero = refl
  length-content_by m (suc k) = ap suc (length-content_by (suc m) k)

  module _ (n m : ℕ) (l : m < n) where
    from_cons : content_by f m (n - m) ≡ f m ∷ content_by f (m + 1) (n - (m + 1))
    from_cons =
        let e : n - m ≡ suc (n - (m + 1)) = omega arith in
        rw (e, content-cons m (n - (m + 1)), add-one m)

    length-next : parts_length (content_by f m (n - m)) ≡ part_length_of (f m) + parts_length (content_by f (m + 1) (n - (m + 1)))
    length-next = rw from_cons (length-cons _ _)

  length_none : (n m : ℕ) → n ≤ m → parts_length (content_by f m (n - m)) ≡ 0
  length_none n m l = length-nil (content_by f m (n - m)) (content-none m (n - m) (omega arith))

-- ---- the loop that adds up the lengths, up to the first one that is refused

pub record Summing (f : ℕ → List Item) (n m sum : ℕ) : Type 0 where
  pub below : m ≤ n
  pub most : sum ≤ most_shard_bytes + 1
  pub left : capped (sum + parts_length (content_by f m (n - m))) ≡ capped (length_by f n)

pub summing_first : (f : ℕ → List Item) (n : ℕ) {sum : ℕ} → sum ≡ capped (0 + 16 * n) → Summing f n 0 sum
summing_first f n e = record { below = omega arith; most = omega arith; left = rw sub-zero (omega arith) }

pub summing_next : {f : ℕ → List Item} {n m sum : ℕ} → Summing f n m sum → m < n → (len : ℕ) {sum' : ℕ} → len ≡ capped (part_length_of (f m)) → sum' ≡ capped (sum + len)
    → Summing f n (m + 1) sum'
summing_next {f} {n} {m} {sum} h l len {sum'} el e =
    let g : capped (sum + (part_length_of (f m) + parts_length (content_by f (m + 1) (n - (m + 1))))) ≡ capped (length_by f n) = rw (length-next f n m l) at h.left in
    record { below = omega arith; most = omega arith; left = step sum (part_length_of (f m)) (parts_length (content_by f (m + 1) (n - (m + 1)))) len sum' el e ∙ g }
  where
    step : (a x r len b : ℕ) → len ≡ capped x → b ≡ capped (a + len) → capped (b + r) ≡ capped (a + (x + r))
    step a x r len b p q = omega arith

pub summing_most : {f : ℕ → List Item} {n m sum : ℕ} → Summing f n m sum → sum ≤ most_shard_bytes + 1
summing_most h = h.most

pub summed : {f : ℕ → List Item} {n m sum : ℕ} → Summing f n m sum → n ≤ m → sum ≡ capped (length_by f n)
summed {f} {n} {m} h l = let g = h.most in omega (arith, h.left, length_none f n m l)

pub each-one : {spec : Sharding} {shard : ℕ} {ia da ib db : List ℕ} {n m : ℕ} → SoundInOneEach spec shard ia da ib db n → m < n → SoundInOne spec shard ia da ib db m
each-one a l = a.each _ l

pub ruleset summing = (summing_first, summing_next, summing_most, summed, each-one, rules)

-- ---- the loop that writes: out₀ is the output where it begins; out is the output now

pub record Writing (f : ℕ → List Item) (n : ℕ) (out₀ out : List ℕ) (m p : ℕ) : Type 0 where
  pub below : m ≤ n
  pub same : length out ≡ length out₀
  pub room : p + parts_length (content_by f m (n - m)) ≡ parts_length (content_by f 0 n)
  pub left : paste (16 * m) (row (shard_index_from p (content_by f m (n - m)))) (paste (16 * n + p) (parts_from p (content_by f m (n - m))) out)
      ≡ paste 0 (settled (content_by f 0 n)) out₀

pub writing_first : (f : ℕ → List Item) (n : ℕ) (out : List ℕ) → length_by f n ≤ length out → Writing f n out out 0 0
unfolding settled
writing_first f n out h =
    let c = content_by f 0 n in
    let E = row (shard_index_from 0 c) in
    let l : length E ≡ 16 * n = length-shard-index 0 c ∙ ap (λ (z : ℕ). 16 * z) (length-content_by f 0 n) in
    record {
      below = omega arith;
      same = refl;
      room = rw sub-zero (omega arith);
      left =
          rw sub-zero
          (paste-apart 0 E (16 * n + 0) (parts_from 0 c) out (omega arith) (omega arith)
          ∙ paste-on 0 E (parts_from 0 c) out (16 * n + 0) (omega arith) (omega arith));
    }

module _ {f : ℕ → List Item} {n : ℕ} {out₀ out : List ℕ} {m p : ℕ} (h : Writing f n out₀ out m p) (b : length_by f n ≤ length out₀) where
  pub one-room : m < n → 16 * n + p + part_length_of (f m) ≤ length out
  one-room l = omega (arith, length-next f n m l, h.room, h.same)

  pub one-most : m < n → length_by f n ≤ most_shard_bytes → part_length_of (f m) ≤ most_shard_bytes
  one-most l g = omega (arith, length-next f n m l, h.room)

  pub place-fits : (len : ℕ) → m < n → length out₀ < 2 ^ 64 → len ≡ part_length_of (f m) → Fits w64 (p + len)
  place-fits len l g e = record { fits = omega (arith, one-room l, h.same) }

  pub writing_next : (len : ℕ) (out' : List ℕ) → m < n → length out' ≡ length out → len ≡ part_length_of (f m)
      → out' ≡ paste (16 * m) (settled_entry p (f m)) (paste (16 * n + p) (part_of p (f m)) out)
      → Writing f n out₀ out' (m + 1) (p + len)
  writing_next len out' l k e w =
      let xs = f m in
      let c = content_by f (m + 1) (n - (m + 1)) in
      let pl : part_length_of xs ≡ len = sym e in
      let lp = length_part p xs in
      let E : row (shard_index_from p (content_by f m (n - m))) ≡ settled_entry p xs ++ row (shard_index_from (p + len) c) =
      rw (from_cons f n m l) (entries-cons p xs c ∙ rw pl) in
      let B : parts_from p (content_by f m (n - m)) ≡ part_of p xs ++ parts_from (p + len) c = rw (from_cons f n m l) (parts-cons p xs c ∙ rw pl) in
      let t : paste (16 * (m + 1)) (row (shard_index_from (p + len) c)) (paste (16 * n + (p + len)) (parts_from (p + len) c) out')
      ≡ paste (16 * m) (row (shard_index_from p (content_by f m (n - m)))) (paste (16 * n + p) (parts_from p (content_by f m (n - m))) out) =
      rw (w, E, B)
      (paste-both (16 * m) (16 * (m + 1)) (settled_entry p xs) (row (shard_index_from (p + len) c)) (16 * n + p) (16 * n + (p + len)) (part_of p xs) (parts_from (p + len) c) out
      (omega (arith, length-entry p xs)) (omega arith) (omega arith) (omega (arith, one-room l))) in
      record {
        below = omega arith;
        same = k ∙ h.same;
        room = omega (arith, h.room, length-next f n m l);
        left = t ∙ h.left;
      }

  module _ (l : n ≤ m) where
    pub end_fits : length out₀ < 2 ^ 64 → Fits w64 (16 * n + p)
    end_fits g = record { fits = omega (arith, h.room, length_none f n m l) }

    pub end_is : 16 * n + p ≡ length_by f n
    end_is = omega (arith, h.room, length_none f n m l)

    pub all_there : out ≡ paste 0 (settled (content_by f 0 n)) out₀
    all_there =
        let z = content-none f m (n - m) (omega arith) in
        paste-done (16 * n + p) (parts_from p (content_by f m (n - m))) out (parts-nil p (content_by f m (n - m)) z)
        (paste-done (16 * m) (row (shard_index_from p (content_by f m (n - m)))) _ (entries-nil p (content_by f m (n - m)) z) h.left)

-- where each minishard is what is chosen
module _ (spec : Sharding) (shard : ℕ) (ia da ib db : List ℕ) {n : ℕ} {out₀ out : List ℕ} {m p : ℕ} (h : Writing (chosen spec shard ia da ib db) n out₀ out m p)
    (b : length_by (chosen spec shard ia da ib db) n ≤ length out₀) where
  pub chosen-room : m < n → 16 * n + p + part_length_of (chosen spec shard ia da ib db m) ≤ length out
  chosen-room l = one-room h b l

  pub chosen-most : m < n → length_by (chosen spec shard ia da ib db) n ≤ most_shard_bytes → part_length_of (chosen spec shard ia da ib db m) ≤ most_shard_bytes
  chosen-most l g = one-most h b l g

pub ruleset writing = (writing_first, writing_next, each-one, chosen-room, chosen-most, place-fits, end_fits, end_is, all_there, rules)

-- ---- of n minishards, where n is the number that the specification gives

pub pair-allowed : {spec : Sharding} {ia da ib db : List ℕ} → Pair spec ia da ib db → allowed spec ≡ true
pair-allowed h = h.permitted

pub each-counted : {spec : Sharding} {shard : ℕ} {ia da ib db : List ℕ} {n : ℕ} → n ≡ minishard_count_of spec → SoundInOneEach spec shard ia da ib db (minishard_count_of spec) → SoundInOneEach spec shard ia da ib db n
each-counted e h = rw e h

pub few-counted : {spec : Sharding} {ia da ib db : List ℕ} {n : ℕ} → n ≡ minishard_count_of spec → Pair spec ia da ib db → 16 * n ≤ most_shard_bytes
few-counted {spec} e h = omega (arith, minishards-most spec h.permitted)

module _ (spec : Sharding) (shard : ℕ) (ia da ib db : List ℕ) {n : ℕ} (e : n ≡ minishard_count_of spec) where
  whole-content : content_by (chosen spec shard ia da ib db) 0 n ≡ chosen_content spec shard ia da ib db
  unfolding chosen_content
  whole-content = rw e

  whole_length_lem : length_by (chosen spec shard ia da ib db) n ≡ repaired_length spec shard ia da ib db
  unfolding repaired_length settled_length
  whole_length_lem = rw (← whole-content, length-content_by (chosen spec shard ia da ib db) 0 n)

  whole-form : settled (content_by (chosen spec shard ia da ib db) 0 n) ≡ repaired_form spec shard ia da ib db
  unfolding repaired_form
  whole-form = ap settled whole-content

  pub capped-counted : {r : ℕ} → r ≡ capped (length_by (chosen spec shard ia da ib db) n) → r ≡ capped (repaired_length spec shard ia da ib db)
  capped-counted h = h ∙ ap (λ (x : ℕ). capped x) whole_length_lem

  pub room-counted : (out : List ℕ) → repaired_length spec shard ia da ib db ≤ length out → length_by (chosen spec shard ia da ib db) n ≤ length out
  room-counted out h = rw whole_length_lem h

  pub most-counted : repaired_length spec shard ia da ib db ≤ most_shard_bytes → length_by (chosen spec shard ia da ib db) n ≤ most_shard_bytes
  most-counted h = rw whole_length_lem h

  pub length-counted : {r : ℕ} → r ≡ length_by (chosen spec shard ia da ib db) n → r ≡ repaired_length spec shard ia da ib db
  length-counted h = h ∙ whole_length_lem

  pub form-counted : (o : List ℕ) {out : List ℕ} → out ≡ paste 0 (settled (content_by (chosen spec shard ia da ib db) 0 n)) o → out ≡ over (repaired_form spec shard ia da ib db) o
  form-counted o h = rw whole-form at h ∙ paste-front (repaired_form spec shard ia da ib db) o (length (repaired_form spec shard ia da ib db)) refl

pub ruleset counting = (pair-allowed, each-counted, few-counted, capped-counted, room-counted, most-counted, length-counted, form-counted, rules)
