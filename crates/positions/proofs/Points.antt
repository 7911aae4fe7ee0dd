-- The position of a refusal is the place of the bytes that fail its test.
use Prim.Native.Nat.{ℕ, ◌+◌, ◌*◌, ◌<◌, ◌≤◌}
use mathlib.Core.Path.{◌≡◌, refl, sym, ap, ◌∙◌}
use mathlib.Core.Bool.{Bool, true, false, not, ◌||◌}
use mathlib.Core.List.{List, [], ◌∷◌, ◌++◌}
use mathlib.Core.Option.{none, some}
use native.Mathlib.Omega.{arith}
use lib.Dec.{eqb}
use lib.ListN.{length, length-drop}
use lib.Seq.{length-take-le}
use Rattle.refusal.specs.Choice.{pick}
use Rattle.refusal.specs.Checks.{Check, check, first_number, first_position}
use Rattle.refusal.specs.Buffer.{room}
use Rattle.std.specs.Prelude.{Ok, Err}
use Rattle.refusal.specs.Answers.{Answer}
use Rattle.refusal.proofs.Positions.{Plain}
use Rattle.endian.specs.Little.{le_at, row_at}
use Rattle.endian.specs.Range.{any_below, first}
use Rattle.endian.proofs.Little.{le_at-drop, le_at-take}
use Rattle.endian.proofs.Ranges.{first-lt, first_holds, first-before}
use Rattle.sharding.specs.declared.Sharding.{Sharding}
use Rattle.sharding.specs.Specification.{is_mesh, minishard_count_of, no_such_shard}
use Rattle.sharding.specs.placement.Place.{shard_of, minishard_of}
use Rattle.sharding.proofs.placement.Placed.{minishard-below}
use Rattle.shard.specs.declared.CheckAnswer.{CheckAnswer}
use Rattle.shard.specs.declared.CheckAnswer.TheVariants.{Sound, Faulty, Refused as CheckRefused}
use Rattle.shard.specs.index.Index.{entry_start_of, entry_end_of, entry_count, id_steps, start_steps, sizes, most_shard_bytes}
use Rattle.shard.specs.index.Tests.{EntryTest, entry_test, test_place}
use Rattle.shard.specs.manifests.Mesh.{wrong_length, bad_real, unordered_nodes, fragments_outside, manifest_tests}
use Rattle.shard.specs.Faults.{bad_entry, bad_length, bad_id, foreign_at, ends_past, mesh_tests, entry_tests}
use Rattle.shard.specs.Checks.{entry_checks, minishard_checks}
use Rattle.shard.specs.File.{index_length_of, index_part, data_part, bad_file_length, file_checks, check_answer}
use Rattle.shard.proofs.Judged.{entry-within}
use Rattle.shard.proofs.Numbers.{file-called}
use Rattle.shard.proofs.Whole.{check-names}
use Rattle.shard.proofs.AfterCheck.{after_check}
use Rattle.lookup.specs.declared.id_search.LookupAnswer.TheVariants as L
use Rattle.lookup.specs.id_search.Search.{not_listed}
use Rattle.lookup.specs.chosen_minishard.Chosen.{chosen_checks}
use Rattle.lookup.specs.Find.{lookup_checks, lookup_answer}
use Rattle.lookup.proofs.Refused.{lookup-refuses}
use Rattle.lookup.specs.fragments.Fragment.{fragment_answer}
use Rattle.lookup.proofs.fragments.Handed.{fragment-faulty}
use Rattle.refusal.specs.declared.CountAnswer.TheVariants as N
use Rattle.lookup.specs.listings.Listing.{listing_of, asked_checks, count_checks, count_answer, listing_checks, listing_answer}
use Rattle.lookup.proofs.listings.Listings.{asked-called}
use Rattle.lookup.proofs.listings.Refused.{count-refuses, listing-refuses}
use Rattle.unlisted.specs.ranges.Covered.{file_unlisted}
use Rattle.unlisted.specs.Answers.{unlisted_answer}
use Rattle.unlisted.proofs.Counted.{unlisted_by_check}
use Rattle.settle.specs.answers.Answers.{answer_of, length_in, settle_in, length_answer, settle_answer}
use Rattle.settle.proofs.answers.Answered.{length_by_check, settle_by_check}
use Rattle.positions.specs.Points.{AtEntry, AtFirst, AtIdStep, AtStartStep, Offending, seven, eight, nine, ten, eleven, fifteen, sixteen, seventeen, twentyone, PointsAt, Named}

-- ---- which check a position is of

-- not of checks before it that carry none
after-plain : (xs ys : List Check) {p : ℕ} → Plain xs → first_position (xs ++ ys) ≡ some p
    → (first_number xs ≡ 0) × (first_number (xs ++ ys) ≡ first_number ys) × (first_position ys ≡ some p)
unfolding first_number first_position
after-plain [] ys t e = (refl, refl, e)
after-plain (c ∷ cs) ys {p} t e = go c.holds refl (after-plain cs ys t.1)
  where
    go : (b : Bool) → c.holds ≡ b → (first_position (cs ++ ys) ≡ some p → (first_number cs ≡ 0) × (first_number (cs ++ ys) ≡ first_number ys) × (first_position ys ≡ some p))
        → (first_number (c ∷ cs) ≡ 0) × (first_number ((c ∷ cs) ++ ys) ≡ first_number ys) × (first_position ys ≡ some p)
    go true h ih =
        let q = rw h at e in
        let n = t.0 in
        let z : ◌≡◌ {A = ℕ} 0 1 = cc in
        absurd (omega arith)
    go false h ih = unfold first_number in rw h (ih (unfold first_position in (rw h at e)))

-- nor of a last one
before_last : (xs : List Check) (c : Check) {p : ℕ} → c.position ≡ none → first_position (xs ++ (c ∷ [])) ≡ some p
    → (first_number (xs ++ (c ∷ [])) ≡ first_number xs) × (first_position xs ≡ some p)
unfolding first_number first_position
before_last [] c {p} t e = go c.holds refl
  where
    go : (b : Bool) → c.holds ≡ b → (first_number (c ∷ []) ≡ 0) × (none ≡ some p)
    go true h = let q = rw h at e in let z : ◌≡◌ {A = ℕ} 0 1 = cc in absurd (omega arith)
    go false h = let q = rw h at e in let z : ◌≡◌ {A = ℕ} 0 1 = cc in absurd (omega arith)
before_last (x ∷ xs) c {p} t e = go x.holds refl (before_last xs c t)
  where
    go : (b : Bool) → x.holds ≡ b → (first_position (xs ++ (c ∷ [])) ≡ some p → (first_number (xs ++ (c ∷ [])) ≡ first_number xs) × (first_position xs ≡ some p))
        → (first_number ((x ∷ xs) ++ (c ∷ [])) ≡ first_number (x ∷ xs)) × (first_position (x ∷ xs) ≡ some p)
    go true h ih = unfold first_number first_position in rw h (refl, (rw h at e))
    go false h ih = unfold first_number first_position in rw h (ih (rw h at e))

-- ---- what it points at

some_same : {a b : ℕ} → some a ≡ some b → a ≡ b
some_same e = cc

module _ (spec : Sharding) (shard : ℕ) (file : List ℕ) (m : ℕ) (held : index_length_of spec ≤ length file) (short : length file ≤ most_shard_bytes) (below : m < minishard_count_of spec) where
  abbrev x : List ℕ
  x = index_part spec file

  abbrev d : List ℕ
  d = data_part spec file

  abbrev s : ℕ
  s = entry_start_of x m

  abbrev e : ℕ
  e = entry_end_of x m

  abbrev n : ℕ
  n = entry_count s e

  at_entry : (p : ℕ) → 16 * m ≡ p → AtEntry file m s e p
  at_entry p q =
      let end : p + 8 ≡ 16 * m + 8 = omega arith in
      record {
        placed = sym q;
        within = omega arith;
        start = ap (le_at 8 file) (sym q) ∙ sym (le_at-take 8 file (index_length_of spec) (16 * m) (omega arith));
        end = ap (le_at 8 file) end ∙ sym (le_at-take 8 file (index_length_of spec) (16 * m + 8) (omega arith));
      }

  -- the first entry that fails a test, in the row that begins at r in the data
  at_first : (r : ℕ) (fails : ℕ → Bool) (p : ℕ) → any_below n fails ≡ true → r + 8 * n ≤ length d → p ≡ index_length_of spec + r + 8 * first fails n
      → AtFirst file n (index_length_of spec + r) (row_at d r) fails p
  at_first r fails p t l q =
      let i = first fails n in
      let h = first-lt fails n t in
      let at : p ≡ index_length_of spec + (r + 8 * first fails n) = omega arith in
      record {
        entry = i;
        among = h;
        failed = first_holds fails n h;
        earlier = λ j o. first-before fails n j o;
        placed = q;
        within = omega (arith, length-drop (index_length_of spec) file);
        number = ap (le_at 8 file) at ∙ sym (le_at-drop 8 file (index_length_of spec) (r + 8 * i));
      }

  -- a minishard index with an entry stands within the data
  rows-within : (fails : ℕ → Bool) → bad_entry d s e ≡ false → any_below n fails ≡ true → s + 24 * n ≤ length d
  rows-within fails q t = let h = first-lt fails n t in omega (arith, entry-within d s e q (omega arith))

  index-long : length x ≡ index_length_of spec
  index-long = length-take-le (index_length_of spec) file held

  -- the first of several tests that an entry fails is one of them
  module _ (k p : ℕ) where
    abbrev Case : EntryTest → Type 0
    Case t = t.number ≡ k → any_below n t.fails ≡ true → test_place (length x + s) n t ≡ p → PointsAt spec shard file m k p

    abbrev Cases : List EntryTest → Type 0
    Cases [] = Unit {0}
    Cases (t ∷ ts) = Case t × Cases ts

    one_of : (ts : List EntryTest) → Cases ts → first_number (entry_checks (length x + s) n ts) ≡ k → first_position (entry_checks (length x + s) n ts) ≡ some p → PointsAt spec shard file m k p
    unfolding entry_checks first_number first_position
    one_of [] c u v = let z : ◌≡◌ {A = ℕ} 0 1 = cc in absurd (omega arith)
    one_of (t ∷ ts) c u v = go (any_below n t.fails) refl (one_of ts c.1)
      where
        go : (b : Bool) → any_below n t.fails ≡ b
            → (first_number (entry_checks (length x + s) n ts) ≡ k → first_position (entry_checks (length x + s) n ts) ≡ some p → PointsAt spec shard file m k p)
            → PointsAt spec shard file m k p
        go true h later = c.0 (rw h at u) h (some_same (rw h at v))
        go false h later = later (rw h at u) (rw h at v)

    -- those of a mesh are asked of a mesh alone
    in_mesh : (is_mesh spec ≡ true → Cases (manifest_tests d s n)) → Cases (mesh_tests spec d s n)
    in_mesh c = go (is_mesh spec) refl
      where
        go : (b : Bool) → is_mesh spec ≡ b → Cases (pick b (manifest_tests d s n) [])
        go true h = c h
        go false h = tt

    pointed : (r : ℕ) (fails : ℕ → Bool) → AtFirst file n (index_length_of spec + r) (row_at d r) fails p → Offending spec shard file d m s e n k p → PointsAt spec shard file m k p
    pointed r fails h o = record { within = h.within; short = short; offending = o }

    -- the row of id steps begins at s, that of start steps behind it
    module _ (good : bad_entry d s e ≡ false) where
      in_ids : (number : ℕ) (fails : ℕ → Bool) → (k ≡ number → AtIdStep spec file d s n fails p → Offending spec shard file d m s e n k p) → Case (entry_test number 0 fails)
      in_ids number fails o u t q =
          let h = at_first s fails p t (omega (arith, rows-within fails good t)) (omega (arith, q, index-long)) in
          pointed s fails h (o (sym u) h)

      in_starts : (number : ℕ) (fails : ℕ → Bool) → (k ≡ number → AtStartStep spec file d s n fails p → Offending spec shard file d m s e n k p) → Case (entry_test number 1 fails)
      in_starts number fails o u t q =
          let h = at_first (s + 8 * n) fails p t (omega (arith, rows-within fails good t)) (omega (arith, q, index-long)) in
          pointed (s + 8 * n) fails h (o (sym u) h)

      mesh-cases : is_mesh spec ≡ true → Cases (manifest_tests d s n)
      unfolding manifest_tests
      mesh-cases mesh = (
        in_starts 15 (wrong_length d s n) (fifteen mesh),
        (
          in_starts 16 (bad_real d s n) (sixteen mesh),
          (
            in_starts 17 (unordered_nodes d s n) (seventeen mesh),
            (in_starts 21 (fragments_outside d s n) (twentyone mesh), tt),
          ),
        ),
      )

      cases : Cases (entry_tests spec shard m d s n)
      unfolding entry_tests
      cases = (
        in_ids 9 (bad_id (id_steps d s)) nine,
        (
          in_ids 10 (foreign_at spec shard m (id_steps d s)) ten,
          (in_starts 11 (ends_past (length d) (start_steps d s n) (sizes d s n)) eleven, in_mesh mesh-cases),
        ),
      )

    at-index : AtEntry file m s e p → Offending spec shard file d m s e n k p → PointsAt spec shard file m k p
    at-index h o = record { within = omega (arith, h.within); short = short; offending = o }

    pub points : first_number (minishard_checks spec shard x d m) ≡ k → first_position (minishard_checks spec shard x d m) ≡ some p → PointsAt spec shard file m k p
    unfolding minishard_checks first_number first_position
    points u v = by_7 (bad_entry d s e) refl
      where
        by_8 : (b : Bool) → bad_length s e ≡ b → bad_entry d s e ≡ false → PointsAt spec shard file m k p
        by_8 true t good =
            let h = at_entry p (some_same (rw (good, t) at v)) in
            at-index h (eight (sym (rw (good, t) at u)) h t)
        by_8 false t good = one_of (entry_tests spec shard m d s n) (cases good) (rw (good, t) at u) (rw (good, t) at v)

        by_7 : (b : Bool) → bad_entry d s e ≡ b → PointsAt spec shard file m k p
        by_7 true t =
            let h = at_entry p (some_same (rw t at v)) in
            at-index h (seven (sym (rw t at u)) h t)
        by_7 false t = by_8 (bad_length s e) refl t

-- ---- of each call

file-plain : (spec : Sharding) (five : Bool) (file : List ℕ) → Plain (file_checks spec five file)
unfolding file_checks
file-plain spec five file = (refl, (refl, (refl, tt)))

pub check-points : (spec : Sharding) (shard : ℕ) (file : List ℕ) (k m p : ℕ) → check_answer spec shard file ≡ Faulty k m p → PointsAt spec shard file m k p
check-points spec shard file k m p e =
    let g = (check-names spec shard file k m p).0 e in
    let c = file-called spec _ file g.called in
    points spec shard file m c.held c.short g.below k p g.number g.position

pub lookup-points : (spec : Sharding) (shard : ℕ) (file : List ℕ) (id k p : ℕ) → lookup_answer spec shard file id ≡ L.Faulty k p → PointsAt spec shard file (minishard_of spec id) k p
unfolding lookup_checks chosen_checks
lookup-points spec shard file id k p e =
    let g = ((lookup-refuses spec shard file id).decided k (some p)).0 e in
    let m = minishard_of spec id in
    let five = no_such_shard spec shard || not (eqb (shard_of spec id) shard) in
    let s = entry_start_of (index_part spec file) m in
    let last = not_listed (data_part spec file) s (entry_count s (entry_end_of (index_part spec file) m)) id in
    let a = after-plain (file_checks spec five file) (chosen_checks spec shard (index_part spec file) (data_part spec file) id) (file-plain spec five file) g.1 in
    let b = before_last (minishard_checks spec shard (index_part spec file) (data_part spec file) m) last refl a.2 in
    let c = file-called spec five file a.0 in
    points spec shard file m c.held c.short (minishard-below spec id) k p (sym (a.1 ∙ b.0) ∙ g.0) b.1

pub fragment-points : (spec : Sharding) (shard : ℕ) (file : List ℕ) (id level node k p : ℕ) → fragment_answer spec shard file id level node ≡ L.Faulty k p → PointsAt spec shard file (minishard_of spec id) k p
fragment-points spec shard file id level node k p e = lookup-points spec shard file id k p (fragment-faulty spec shard file id level node k p e)

module _ (spec : Sharding) (shard : ℕ) (file : List ℕ) (m k p : ℕ) where
  counted : first_number (count_checks spec shard file m) ≡ k → first_position (count_checks spec shard file m) ≡ some p → PointsAt spec shard file m k p
  unfolding count_checks asked_checks
  counted u v =
      let checks = asked_checks spec shard m ++ (check 6 (bad_file_length spec (length file)) ∷ []) in
      let a = after-plain checks (minishard_checks spec shard (index_part spec file) (data_part spec file) m) (refl, (refl, (refl, (refl, tt)))) v in
      let c = asked-called spec shard file m a.0 in
      points spec shard file m c.held c.short c.below k p (sym a.1 ∙ u) a.2

  pub count-points : count_answer spec shard file m ≡ N.Faulty k p → PointsAt spec shard file m k p
  count-points e = let g = ((count-refuses spec shard file m).decided k (some p)).0 e in counted g.0 g.1

pub listing-points : (spec : Sharding) (shard : ℕ) (file : List ℕ) (m : ℕ) (out : List ℕ) (k p : ℕ) → listing_answer spec shard file m out ≡ N.Faulty k p → PointsAt spec shard file m k p
unfolding listing_checks
listing-points spec shard file m out k p e =
    let g = ((listing-refuses spec shard file m out).decided k (some p)).0 e in
    let b = before_last (count_checks spec shard file m) (room (listing_of spec file m) out) refl g.1 in
    counted spec shard file m k p (sym b.0 ∙ g.0) b.1

pub unlisted-named : (spec : Sharding) (shard : ℕ) (file : List ℕ) (k p : ℕ) → unlisted_answer spec shard file ≡ N.Faulty k p → Named spec shard file k p
unlisted-named spec shard file k p e = go (check_answer spec shard file) refl (sym (unlisted_by_check spec shard file) ∙ e)
  where
    go : (c : CheckAnswer) → check_answer spec shard file ≡ c → after_check N.Refused N.Faulty c (N.Count (file_unlisted spec file)) ≡ N.Faulty k p → Named spec shard file k p
    go Sound q e = let z : ◌≡◌ {A = ℕ} 0 1 = cc in absurd (omega arith)
    go (CheckRefused j) q e = let z : ◌≡◌ {A = ℕ} 0 1 = cc in absurd (omega arith)
    go (Faulty j m i) q e =
        let u : j ≡ k = cc in
        let v : i ≡ p = cc in
        let t : check_answer spec shard file ≡ Faulty k m p = rw (u, v) at q in
        record { minishard = m; named = t; points = check-points spec shard file k m p t }

module _ (spec : Sharding) (shard : ℕ) (file : List ℕ) (k p : ℕ) where
  named : (c : CheckAnswer) (w : Answer ℕ) → check_answer spec shard file ≡ c → after_check N.Refused N.Faulty c (answer_of w) ≡ N.Faulty k p → Named spec shard file k p
  named Sound (Ok n) q e = let z : ◌≡◌ {A = ℕ} 0 1 = cc in absurd (omega arith)
  named Sound (Err n) q e = let z : ◌≡◌ {A = ℕ} 0 1 = cc in absurd (omega arith)
  named (CheckRefused j) w q e = let z : ◌≡◌ {A = ℕ} 0 1 = cc in absurd (omega arith)
  named (Faulty j m i) w q e =
      let u : j ≡ k = cc in
      let v : i ≡ p = cc in
      let t : check_answer spec shard file ≡ Faulty k m p = rw (u, v) at q in
      record { minishard = m; named = t; points = check-points spec shard file k m p t }

  pub length-named : (dropping : Bool) → length_answer spec shard file dropping ≡ N.Faulty k p → Named spec shard file k p
  length-named dropping e = named (check_answer spec shard file) (length_in spec (index_part spec file) (data_part spec file) dropping) refl (sym (length_by_check spec shard file dropping) ∙ e)

pub settle-named : (spec : Sharding) (shard : ℕ) (file : List ℕ) (dropping : Bool) (out : List ℕ) (k p : ℕ) → settle_answer spec shard file dropping out ≡ N.Faulty k p → Named spec shard file k p
settle-named spec shard file dropping out k p e =
    named spec shard file k p (check_answer spec shard file) (settle_in spec (index_part spec file) (data_part spec file) dropping out) refl (sym (settle_by_check spec shard file dropping out) ∙ e)
