-- Order 13's promises, from the crates' laws.
use Prim.Native.Nat.{ℕ, ◌+◌}
use mathlib.Core.Path.{◌≡◌, refl, sym, ap, ap₂, subst, ◌∙◌}
use mathlib.Core.Bool.{Bool, true, false, ◌||◌, false≢true}
use mathlib.Core.Logic.{◌↔◌, ⊎_elim}
use mathlib.Core.List.{List, [], ◌∷◌, ◌++◌}
use native.Mathlib.Nat.{zero-add}
use native.Mathlib.Omega.{arith}
use borrow.Author.Tests.{ltb-false, le-ltb, ne_eqb}
use lib.ListN.{length}
use Rattle.refusal.specs.declared.Refusal.{Refusal}
use Rattle.refusal.specs.declared.Refusal.TheVariants.{TotalTooLarge}
use Rattle.refusal.specs.Choice.{pick}
use Rattle.refusal.proofs.Tests.{neither}
use Rattle.duplicate_ids.proofs.ids.Cases.{eq-or-not}
use Rattle.sharding.specs.declared.Sharding.{Sharding}
use Rattle.shard.specs.declared.CheckAnswer.{CheckAnswer}
use Rattle.shard.specs.declared.CheckAnswer.TheVariants.{Sound, Refused, Faulty}
use Rattle.shard.specs.Sound.{SoundShard}
use Rattle.shard.proofs.Whole.{check-passes-sound}
use Rattle.split_shard.specs.Answers.{pair_check}
use Rattle.split_shard.proofs.seam.Pairs.{seamed_front, seamed_back}
use Rattle.split_shard.proofs.Laws.{sound_seamed}
use Rattle.holdings.specs.measures.Measures.{measure_of, file_measure}
use Rattle.holdings.specs.declared.measures.Counts.{Counts}
use Rattle.holdings.specs.chunk_sums.Totals.{most_total, passes}
use Rattle.holdings.specs.declared.one_shard.Sheet.{Sheet}
use Rattle.std.specs.Prelude.{Ok, Err}
use Rattle.refusal.specs.Answers.{Answer, refuse}
use Rattle.holdings.specs.one_shard.Sheet.{rows, from_rows_of, reporting, empty, tally, sound_sheet, refused_sheet, shard_sheet, numbers, is_among, has_row}
use Rattle.holdings.specs.totals.Totals.{added, any_passes, both}
use Rattle.holdings.specs.Answers.{join_answer, sheet_of, add_answer, pair_sheet, pair_add_answer}
use Rattle.holdings.proofs.one_shard.Numbers.{Told, check-told, pair-told}
use Rattle.holdings.proofs.Answered.{rows_both, from-rows, join_pick}
use Rattle.coronagamba.specs.Sheets.{rows_after}
use Rattle.theorems.proofs.Counted.{listed_these, chunks-listed, bytes-listed}
use Rattle.theorems.specs.Holdings.{Holding, one_file, two_files, verdict_on, counts_of, add_one, kept_by, add_all, NoneRefused, is_sound, is_refused_with, how_many, sum_over, sheet_over, Within, Reordered, none, first, swapped, then, shards_on, Order13}

-- ---- rows, added one by one

added_assoc : (xs ys zs : List ℕ) → added (added xs ys) zs ≡ added xs (added ys zs)
unfolding added
added_assoc [] ys zs = refl
added_assoc (x ∷ xs) [] zs = refl
added_assoc (x ∷ xs) (y ∷ ys) [] = refl
added_assoc (x ∷ xs) (y ∷ ys) (z ∷ zs) = ap₂ (λ (n : ℕ) (ns : List ℕ). n ∷ ns) (omega arith) (added_assoc xs ys zs)

added_comm : (xs ys : List ℕ) → added xs ys ≡ added ys xs
unfolding added
added_comm [] [] = refl
added_comm [] (y ∷ ys) = refl
added_comm (x ∷ xs) [] = refl
added_comm (x ∷ xs) (y ∷ ys) = ap₂ (λ (n : ℕ) (ns : List ℕ). n ∷ ns) (omega arith) (added_comm xs ys)

-- where no total passes, no number does
less_passes : (a b : ℕ) → passes (a + b) ≡ false → passes a ≡ false
unfolding passes
less_passes a b h = le-ltb most_total a (omega (arith, ltb-false most_total (a + b) h))

neither_of : {a b : Bool} → a ≡ false → b ≡ false → a || b ≡ false
neither_of p q = rw (p, q)

added-within : (xs ys : List ℕ) → any_passes (added xs ys) ≡ false → any_passes xs ≡ false
unfolding added any_passes
added-within [] ys h = refl
added-within (x ∷ xs) [] h = h
added-within (x ∷ xs) (y ∷ ys) h =
    let e = neither (passes (x + y)) (any_passes (added xs ys)) h in
    neither_of (less_passes x y e.0) (added-within xs ys e.1)

-- ---- sheets

same_rows : (a b : Sheet) → rows a ≡ rows b → a ≡ b
same_rows a b e = sym (from-rows a) ∙ ap from_rows_of e ∙ from-rows b

pub within_first : (a b : Sheet) → any_passes (rows (both a b)) ≡ false → any_passes (rows a) ≡ false
within_first a b h = added-within (rows a) (rows b) (rw (rows_both a b) at h)

both_comm : (a b : Sheet) → both a b ≡ both b a
both_comm a b = same_rows _ _ (rows_both a b ∙ added_comm (rows a) (rows b) ∙ sym (rows_both b a))

rows-three : (a b c : Sheet) → rows (both (both a b) c) ≡ added (added (rows a) (rows b)) (rows c)
rows-three a b c = rows_both (both a b) c ∙ ap (λ (x : List ℕ). added x (rows c)) (rows_both a b)

rows_other : (a b c : Sheet) → rows (both a (both b c)) ≡ added (rows a) (added (rows b) (rows c))
rows_other a b c = rows_both a (both b c) ∙ ap (added (rows a)) (rows_both b c)

both_assoc : (a b c : Sheet) → both (both a b) c ≡ both a (both b c)
both_assoc a b c = same_rows _ _ (rows-three a b c ∙ added_assoc (rows a) (rows b) (rows c) ∙ sym (rows_other a b c))

both_swap : (a b c : Sheet) → both a (both b c) ≡ both b (both a c)
both_swap a b c = sym (both_assoc a b c) ∙ ap (λ (s : Sheet). both s c) (both_comm a b) ∙ both_assoc b a c

both-empty : (a : Sheet) → both empty a ≡ a
unfolding both added rows from_rows_of reporting
both-empty a = simp zero-add

-- ---- a list of shards

one : Holding → Sheet
one h = shard_sheet (verdict_on h) (counts_of h)

sums : List Holding → Sheet
sums [] = empty
sums (h ∷ hs) = both (one h) (sums hs)

one_reports : (v : CheckAnswer) (k : Counts)
    → reporting (pick (is_sound v) 1 0) (λ n. pick (is_refused_with n v) 1 0) (pick (is_sound v) k.chunks 0) (pick (is_sound v) k.bytes 0) (pick (is_sound v) k.unlisted 0) ≡ shard_sheet v k
unfolding shard_sheet sound_sheet refused_sheet tally
one_reports Sound k = refl
one_reports (Refused n) k = refl
one_reports (Faulty n m p) k = refl

reports_both : (s t : ℕ) (f g : ℕ → ℕ) (c d b e u w : ℕ)
    → reporting (s + t) (λ n. f n + g n) (c + d) (b + e) (u + w) ≡ both (reporting s f c b u) (reporting t g d e w)
unfolding both added rows from_rows_of reporting
reports_both s t f g c d b e u w = refl

over-sums : (hs : List Holding) → sheet_over hs ≡ sums hs
unfolding sheet_over how_many sum_over sums one
over-sums [] = refl
over-sums (h ∷ hs) =
    let v = verdict_on h in
    let k = counts_of h in
    reports_both
    (pick (is_sound v) 1 0) (how_many is_sound hs)
    (λ n. pick (is_refused_with n v) 1 0) (λ n. how_many (is_refused_with n) hs)
    (pick (is_sound v) k.chunks 0) (sum_over is_sound (λ k. k.chunks) hs)
    (pick (is_sound v) k.bytes 0) (sum_over is_sound (λ k. k.bytes) hs)
    (pick (is_sound v) k.unlisted 0) (sum_over is_sound (λ k. k.unlisted) hs)
    ∙ ap₂ both (one_reports v k) (over-sums hs)

-- ---- adding them

add-one : (s : Sheet) (h : Holding) → add_one s h ≡ join_answer s (one h)
unfolding add_one one verdict_on counts_of add_answer sheet_of pair_add_answer pair_sheet
add-one s (one_file spec shard file) = refl
add-one s (two_files spec shard index d) = refl

joined : (a b : Sheet) → any_passes (rows (both a b)) ≡ false → join_answer a b ≡ Ok (both a b)
joined a b h = join_pick a b ∙ rw h

module _ (s : Sheet) (h : Holding) (hs : List Holding) (w : any_passes (rows (both s (sums (h ∷ hs)))) ≡ false) where
  regrouped : both s (sums (h ∷ hs)) ≡ both (both s (one h)) (sums hs)
  unfolding sums
  regrouped = sym (both_assoc s (one h) (sums hs))

  rest-within : any_passes (rows (both (both s (one h)) (sums hs))) ≡ false
  rest-within = ap (λ (x : Sheet). any_passes (rows x)) (sym regrouped) ∙ w

  here : add_one s h ≡ Ok (both s (one h))
  here = add-one s h ∙ joined s (one h) (within_first (both s (one h)) (sums hs) rest-within)

  stepped : kept_by s (add_one s h) ≡ both s (one h)
  unfolding kept_by
  stepped = rw here

add-all : (s : Sheet) (hs : List Holding) → any_passes (rows (both s (sums hs))) ≡ false → add_all s hs ≡ both s (sums hs)
unfolding add_all
add-all s [] w = unfold sums in (sym (both_comm s empty ∙ both-empty s))
add-all s (h ∷ hs) w = rw (stepped s h hs w, regrouped s h hs w) (add-all (both s (one h)) hs (rest-within s h hs w))

none-refused : (s : Sheet) (hs : List Holding) → any_passes (rows (both s (sums hs))) ≡ false → NoneRefused s hs
unfolding NoneRefused
none-refused s [] w = tt
none-refused s (h ∷ hs) w = rw (stepped s h hs w) (here s h hs w, none-refused (both s (one h)) hs (rest-within s h hs w))

within-sums : (hs : List Holding) → Within hs → any_passes (rows (both empty (sums hs))) ≡ false
within-sums hs w = rw (both-empty (sums hs)) (rw (over-sums hs) at w)

add-counts : (hs : List Holding) → Within hs → add_all empty hs ≡ sheet_over hs
add-counts hs w = add-all empty hs (within-sums hs w) ∙ both-empty (sums hs) ∙ sym (over-sums hs)

-- ---- in another order, and in parts

reordered : {hs gs : List Holding} → Reordered hs gs → sums hs ≡ sums gs
unfolding sums
reordered none = refl
reordered (first h r) = ap (both (one h)) (reordered r)
reordered (swapped h g hs) = both_swap (one h) (one g) (sums hs)
reordered (then r q) = reordered r ∙ reordered q

same-sheet : (hs gs : List Holding) → Reordered hs gs → Within hs → add_all empty hs ≡ add_all empty gs
same-sheet hs gs r w =
    let e : sheet_over hs ≡ sheet_over gs = over-sums hs ∙ reordered r ∙ sym (over-sums gs) in
    add-counts hs w ∙ e ∙ sym (add-counts gs (rw e at w))

sums-parts : (hs gs : List Holding) → sums (hs ++ gs) ≡ both (sums hs) (sums gs)
unfolding sums
sums-parts [] gs = sym (both-empty (sums gs))
sums-parts (h ∷ hs) gs = ap (both (one h)) (sums-parts hs gs) ∙ sym (both_assoc (one h) (sums hs) (sums gs))

module _ (hs gs : List Holding) (w : Within (hs ++ gs)) where
  parts_within : any_passes (rows (both (sums hs) (sums gs))) ≡ false
  parts_within = ap (λ (x : Sheet). any_passes (rows x)) (sym (over-sums (hs ++ gs) ∙ sums-parts hs gs)) ∙ w

  first_part : add_all empty hs ≡ sums hs
  first_part = add-all empty hs (rw (both-empty (sums hs)) (within_first (sums hs) (sums gs) parts_within)) ∙ both-empty (sums hs)

  second-part : add_all empty gs ≡ sums gs
  second-part = add-all empty gs (rw (both-empty (sums gs)) (within_first (sums gs) (sums hs) (rw (both_comm (sums hs) (sums gs)) at parts_within))) ∙ both-empty (sums gs)

  whole : add_all empty (hs ++ gs) ≡ both (sums hs) (sums gs)
  whole = add-counts (hs ++ gs) w ∙ over-sums (hs ++ gs) ∙ sums-parts hs gs

  parts_join : join_answer (add_all empty hs) (add_all empty gs) ≡ Ok (add_all empty (hs ++ gs))
  parts_join = rw (first_part, second-part, whole) (joined (sums hs) (sums gs) parts_within)

-- ---- each shard is in a row

shards-both : (a b : Sheet) → shards_on (both a b) ≡ shards_on a + shards_on b
unfolding shards_on both added rows from_rows_of
shards-both a b = omega arith

All : (ℕ → Type 0) → List ℕ → Type 0
All P [] = Unit {0}
All P (n ∷ ns) = P n × All P ns

all_among : (P : ℕ → Type 0) (k : ℕ) (ns : List ℕ) → All P ns → is_among k ns ≡ true → P k
unfolding All
all_among P k [] h e = absurd (false≢true e)
all_among P k (n ∷ ns) h e =
    ⊎_elim (λ (q : k ≡ n). subst P (sym q) h.0) (λ (q : k ≡ n → ⊥). all_among P k ns h.1 (rw (ne_eqb k n q) at e)) (eq-or-not k n)

shards-refused : (k : ℕ) → has_row k ≡ true → shards_on (refused_sheet k) ≡ 1
unfolding has_row
shards-refused k e = all_among (λ j. shards_on (refused_sheet j) ≡ 1) k numbers each e
  where
    each : All (λ j. shards_on (refused_sheet j) ≡ 1) numbers
    each = unfold All shards_on refused_sheet reporting from_rows_of tally in (refl, (refl, (refl, (refl, (refl, (refl, (refl, (refl, (refl, (refl, (refl, (refl, (refl, tt)))))))))))))

shards-one : (v : CheckAnswer) (k : Counts) → Told v → shards_on (shard_sheet v k) ≡ 1
unfolding shard_sheet
shards-one Sound k t = unfold shards_on sound_sheet reporting from_rows_of in refl
shards-one (Refused n) k t = shards-refused n t
shards-one (Faulty n m p) k t = shards-refused n t

told_of : (h : Holding) → Told (verdict_on h)
unfolding verdict_on
told_of (one_file spec shard file) = check-told spec shard file
told_of (two_files spec shard index d) = pair-told spec shard index d

shards-sums : (hs : List Holding) → shards_on (sums hs) ≡ length hs
unfolding sums one
shards-sums [] = unfold shards_on reporting from_rows_of in refl
shards-sums (h ∷ hs) = omega (arith, shards-both (one h) (sums hs), shards-one (verdict_on h) (counts_of h) (told_of h), shards-sums hs)

-- ---- 27

one-sheet : (h : Holding) → sheet_over (h ∷ []) ≡ one h
unfolding sums
one-sheet h = over-sums (h ∷ []) ∙ both_comm (one h) empty ∙ both-empty (one h)

add-pick : (s : Sheet) (h : Holding) → add_one s h ≡ pick (any_passes (rows (both s (sheet_over (h ∷ []))))) (refuse 27) (Ok (both s (one h)))
add-pick s h = add-one s h ∙ rw (one-sheet h) (join_pick s (one h))

by_27 : (b : Bool) (t : Sheet) → (pick b (refuse 27) (Ok t) ≡ refuse 27) ↔ (b ≡ true)
by_27 true t = (λ e. refl, λ e. refl)
by_27 false t = (λ e. let z : ◌≡◌ {A = ℕ} 0 1 = cc in absurd (omega arith), λ e. absurd (false≢true e))

only_27 : (b : Bool) (t : Sheet) (k : Refusal) → pick b (refuse 27) (Ok t) ≡ Err k → k ≡ TotalTooLarge
only_27 true t k e = cc
only_27 false t k e = let z : ◌≡◌ {A = ℕ} 0 1 = cc in absurd (omega arith)

rows_stay : (lent : List ℕ) (k : Refusal) → rows_after (Err k) lent ≡ lent
unfolding rows_after
rows_stay lent k = refl

rows_left : (s : Sheet) (a : Answer Sheet) → rows_after a (rows s) ≡ rows (kept_by s a)
unfolding kept_by rows_after
rows_left s (Ok t) = refl
rows_left s (Err k) = refl

-- ---- a pair that passes is a sound joined file, cut at its seam

module _ (spec : Sharding) (shard : ℕ) (index d : List ℕ) (e : pair_check spec shard index d ≡ Sound) where
  joined_sound : SoundShard spec shard (index ++ d)
  joined_sound = check-passes-sound spec shard (index ++ d) (sound_seamed spec shard index d e).1

  joined_measure : measure_of spec index d ≡ file_measure spec (index ++ d)
  joined_measure =
      let l = (sound_seamed spec shard index d e).0 in
      rw (seamed_front spec index d l, seamed_back spec index d l)

-- ----

pub order_13 : Order13
order_13 = record {
  order = same-sheet;
  counts = add-counts;
  all = λ hs w. none-refused empty hs (within-sums hs w);
  shards = λ hs w. ap shards_on (add-counts hs w ∙ over-sums hs) ∙ shards-sums hs;
  chunks = λ spec shard a items s. chunks-listed spec shard a s items;
  bytes = λ spec shard a items s. bytes-listed spec shard a s items;
  list = listed_these;
  chunks_of_pair = λ spec shard index d items e g. ap (λ (k : Counts). k.chunks) (joined_measure spec shard index d e) ∙ chunks-listed spec shard (index ++ d) (joined_sound spec shard index d e) items g;
  bytes_of_pair = λ spec shard index d items e g. ap (λ (k : Counts). k.bytes) (joined_measure spec shard index d e) ∙ bytes-listed spec shard (index ++ d) (joined_sound spec shard index d e) items g;
  list_of_pair = λ spec shard index d e. listed_these spec shard (index ++ d) (joined_sound spec shard index d e);
  parts = parts_join;
  past = λ sheet h. rw (add-pick sheet h) (by_27 _ _);
  only = λ sheet h k e. only_27 (any_passes (rows (both sheet (sheet_over (h ∷ []))))) (both sheet (one h)) k (sym (add-pick sheet h) ∙ e);
  stays = λ lent h k e. rw e (rows_stay lent k);
  join_stays = λ lent other k e. rw e (rows_stay lent k);
  lent = λ sheet h. rw (from-rows sheet) (rows_left sheet (add_one sheet h));
}
