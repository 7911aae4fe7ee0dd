-- The code asks with the specification, and with the wish to drop, that the caller's numbers stand for: what is answered so is what the contract
-- names. Each law has the shape of a need.
use Prim.Native.Nat.{ℕ}
use mathlib.Core.Path.{◌≡◌, ap, ◌∙◌}
use mathlib.Core.Bool.{Bool}
use mathlib.Core.List.{List}
use lib.IntN.{ℤ}
use borrow.Author.Rules.{rules}
use Rattle.card.specs.declared.Card.{Card}
use Rattle.intake.specs.declared.state.Intake.{Intake}
use Rattle.refusal.specs.Answers.{Answer}
use Rattle.refusal.specs.declared.CountAnswer.{CountAnswer}
use Rattle.refusal.specs.Result.{written_result, count_result}
use Rattle.morton.specs.declared.grid.Volume.{Volume}
use Rattle.sharding.specs.declared.Sharding.{Sharding}
use Rattle.sharding.specs.batch.Batch.{places_answer, shards_left, minishards_left}
use Rattle.names.specs.declared.FileKind.{FileKind}
use Rattle.names.specs.Shards.{file_name_answer, file_name_left}
use Rattle.card.specs.Answers.{card_result, write_answer, write_left}
use Rattle.shard.specs.declared.CheckAnswer.{CheckAnswer}
use Rattle.shard.specs.File.{check_answer, check_result}
use Rattle.lookup.specs.declared.id_search.LookupAnswer.{LookupAnswer}
use Rattle.lookup.specs.Find.{lookup_answer, lookup_result}
use Rattle.lookup.specs.fragments.Fragment.{fragment_answer}
use Rattle.lookup.specs.listings.Listing.{count_answer, listing_answer, listing_left}
use Rattle.unlisted.specs.Answers.{unlisted_answer}
use Rattle.settle.specs.answers.Answers.{length_answer, settle_answer, settle_left}
use Rattle.split_shard.specs.Answers.{pair_check, pair_lookup, pair_fragment}
use Rattle.split_shard.specs.form.Answers.{pair_count, pair_listing, pair_listing_left, pair_unlisted, pair_length, pair_settle, pair_settle_left}
use Rattle.holdings.specs.declared.one_shard.Sheet.{Sheet}
use Rattle.holdings.specs.declared.measures.MeasureAnswer.{MeasureAnswer}
use Rattle.holdings.specs.measures.Answers.{measure_answer, pair_measure, measure_result}
use Rattle.holdings.specs.Answers.{join_answer, add_answer, pair_add_answer, sheet_result}
use Rattle.intake.specs.Calls.{open_answer, open_left}
use Rattle.coronagamba.specs.word.Word.{word_of, length_after}
use Rattle.coronagamba.specs.Shards.{start_after, size_after, count_after}
use Rattle.coronagamba.specs.Sheets.{counts_after_of, rows_after}
use Rattle.coronagamba.specs.Cards.{sharding_after, volume_after, chunk_after, offset_after}
use Rattle.coronagamba.proofs.Told.{word_same, left}

-- ---- the word and the lent numbers of the answer b are those of a, b being a

module _ {a b : Answer ℕ} where
  pub written-word : {r : ℕ} → r ≡ word_of (written_result b) → b ≡ a → r ≡ word_of (written_result a)
  written-word h e = word_same written_result h e

  pub length-left : (x : ℕ) {y : ℕ} → y ≡ length_after b x → b ≡ a → y ≡ length_after a x
  length-left x h e = left length_after x h e

module _ {a b : CheckAnswer} where
  pub check-word : {r : ℕ} → r ≡ word_of (check_result b) → b ≡ a → r ≡ word_of (check_result a)
  check-word h e = word_same check_result h e

module _ {a b : LookupAnswer} where
  pub lookup-word : {r : ℕ} → r ≡ word_of (lookup_result b) → b ≡ a → r ≡ word_of (lookup_result a)
  lookup-word h e = word_same lookup_result h e

  pub start_left : (x : ℕ) {y : ℕ} → y ≡ start_after b x → b ≡ a → y ≡ start_after a x
  start_left x h e = left start_after x h e

  pub size-left : (x : ℕ) {y : ℕ} → y ≡ size_after b x → b ≡ a → y ≡ size_after a x
  size-left x h e = left size_after x h e

module _ {a b : CountAnswer} where
  pub count_word : {r : ℕ} → r ≡ word_of (count_result b) → b ≡ a → r ≡ word_of (count_result a)
  count_word h e = word_same count_result h e

  pub count_left : (x : ℕ) {y : ℕ} → y ≡ count_after b x → b ≡ a → y ≡ count_after a x
  count_left x h e = left count_after x h e

module _ {a b : MeasureAnswer} where
  pub measure-word : {r : ℕ} → r ≡ word_of (measure_result b) → b ≡ a → r ≡ word_of (measure_result a)
  measure-word h e = word_same measure_result h e

  pub counts-left : (x : List ℕ) {y : List ℕ} → y ≡ counts_after_of b x → b ≡ a → y ≡ counts_after_of a x
  counts-left x h e = left counts_after_of x h e

module _ {a b : Answer Sheet} where
  pub sheet-word : {r : ℕ} → r ≡ word_of (sheet_result b) → b ≡ a → r ≡ word_of (sheet_result a)
  sheet-word h e = word_same sheet_result h e

  pub rows_left : (x : List ℕ) {y : List ℕ} → y ≡ rows_after b x → b ≡ a → y ≡ rows_after a x
  rows_left x h e = left rows_after x h e

module _ {a b : Answer Card} where
  pub card-word : {r : ℕ} → r ≡ word_of (card_result b) → b ≡ a → r ≡ word_of (card_result a)
  card-word h e = word_same card_result h e

  pub sharding-left : (x : List ℕ) {y : List ℕ} → y ≡ sharding_after b x → b ≡ a → y ≡ sharding_after a x
  sharding-left x h e = left sharding_after x h e

  pub volume-left : (x : List ℕ) {y : List ℕ} → y ≡ volume_after b x → b ≡ a → y ≡ volume_after a x
  volume-left x h e = left volume_after x h e

  pub chunk-left : (x : List ℕ) {y : List ℕ} → y ≡ chunk_after b x → b ≡ a → y ≡ chunk_after a x
  chunk-left x h e = left chunk_after x h e

  pub offset-left : (x : List ℤ) {y : List ℤ} → y ≡ offset_after b x → b ≡ a → y ≡ offset_after a x
  offset-left x h e = left offset_after x h e

-- ---- asked with the specification s, which is t

module _ {s t : Sharding} (q : s ≡ t) where
  pub places-asked : (ids shards minishards : List ℕ) {b : Answer ℕ} → b ≡ places_answer s ids shards minishards → b ≡ places_answer t ids shards minishards
  places-asked ids shards minishards e = e ∙ ap (λ (u : Sharding). places_answer u ids shards minishards) q

  pub shards-asked : (ids shards minishards : List ℕ) {b : List ℕ} → b ≡ shards_left s ids shards minishards → b ≡ shards_left t ids shards minishards
  shards-asked ids shards minishards e = e ∙ ap (λ (u : Sharding). shards_left u ids shards minishards) q

  pub minishards-asked : (ids shards minishards : List ℕ) {b : List ℕ} → b ≡ minishards_left s ids shards minishards → b ≡ minishards_left t ids shards minishards
  minishards-asked ids shards minishards e = e ∙ ap (λ (u : Sharding). minishards_left u ids shards minishards) q

  pub name-asked : (kind : FileKind) (n : ℕ) (o : List ℕ) {b : Answer ℕ} → b ≡ file_name_answer kind s n o → b ≡ file_name_answer kind t n o
  name-asked kind n o e = e ∙ ap (λ (u : Sharding). file_name_answer kind u n o) q

  pub name-left : (kind : FileKind) (n : ℕ) (o : List ℕ) {b : List ℕ} → b ≡ file_name_left kind s n o → b ≡ file_name_left kind t n o
  name-left kind n o e = e ∙ ap (λ (u : Sharding). file_name_left kind u n o) q

  pub card-asked : (v : Volume) (o : List ℕ) {b : Answer ℕ} → b ≡ write_answer (record { sharding = s; volume = v }) o → b ≡ write_answer (record { sharding = t; volume = v }) o
  card-asked v o e = e ∙ ap (λ (u : Sharding). write_answer (record { sharding = u; volume = v }) o) q

  pub card-left : (v : Volume) (o : List ℕ) {b : List ℕ} → b ≡ write_left (record { sharding = s; volume = v }) o → b ≡ write_left (record { sharding = t; volume = v }) o
  card-left v o e = e ∙ ap (λ (u : Sharding). write_left (record { sharding = u; volume = v }) o) q

  pub check-asked : (n : ℕ) (f : List ℕ) {b : CheckAnswer} → b ≡ check_answer s n f → b ≡ check_answer t n f
  check-asked n f e = e ∙ ap (λ (u : Sharding). check_answer u n f) q

  pub lookup-asked : (n : ℕ) (f : List ℕ) (id : ℕ) {b : LookupAnswer} → b ≡ lookup_answer s n f id → b ≡ lookup_answer t n f id
  lookup-asked n f id e = e ∙ ap (λ (u : Sharding). lookup_answer u n f id) q

  pub fragment-asked : (n : ℕ) (f : List ℕ) (id level node : ℕ) {b : LookupAnswer} → b ≡ fragment_answer s n f id level node → b ≡ fragment_answer t n f id level node
  fragment-asked n f id level node e = e ∙ ap (λ (u : Sharding). fragment_answer u n f id level node) q

  pub count-asked : (n : ℕ) (f : List ℕ) (m : ℕ) {b : CountAnswer} → b ≡ count_answer s n f m → b ≡ count_answer t n f m
  count-asked n f m e = e ∙ ap (λ (u : Sharding). count_answer u n f m) q

  pub listing-asked : (n : ℕ) (f : List ℕ) (m : ℕ) (o : List ℕ) {b : CountAnswer} → b ≡ listing_answer s n f m o → b ≡ listing_answer t n f m o
  listing-asked n f m o e = e ∙ ap (λ (u : Sharding). listing_answer u n f m o) q

  pub listing-left : (n : ℕ) (f : List ℕ) (m : ℕ) (o : List ℕ) {b : List ℕ} → b ≡ listing_left s n f m o → b ≡ listing_left t n f m o
  listing-left n f m o e = e ∙ ap (λ (u : Sharding). listing_left u n f m o) q

  pub unlisted-asked : (n : ℕ) (f : List ℕ) {b : CountAnswer} → b ≡ unlisted_answer s n f → b ≡ unlisted_answer t n f
  unlisted-asked n f e = e ∙ ap (λ (u : Sharding). unlisted_answer u n f) q

  pub measure-asked : (n : ℕ) (f : List ℕ) {b : MeasureAnswer} → b ≡ measure_answer s n f → b ≡ measure_answer t n f
  measure-asked n f e = e ∙ ap (λ (u : Sharding). measure_answer u n f) q

  pub pair-check-asked : (n : ℕ) (i d : List ℕ) {b : CheckAnswer} → b ≡ pair_check s n i d → b ≡ pair_check t n i d
  pair-check-asked n i d e = e ∙ ap (λ (u : Sharding). pair_check u n i d) q

  pub pair-lookup-asked : (n : ℕ) (i d : List ℕ) (id : ℕ) {b : LookupAnswer} → b ≡ pair_lookup s n i d id → b ≡ pair_lookup t n i d id
  pair-lookup-asked n i d id e = e ∙ ap (λ (u : Sharding). pair_lookup u n i d id) q

  pub pair-fragment-asked : (n : ℕ) (i d : List ℕ) (id level node : ℕ) {b : LookupAnswer} → b ≡ pair_fragment s n i d id level node → b ≡ pair_fragment t n i d id level node
  pair-fragment-asked n i d id level node e = e ∙ ap (λ (u : Sharding). pair_fragment u n i d id level node) q

  pub pair-count-asked : (n : ℕ) (i d : List ℕ) (m : ℕ) {b : CountAnswer} → b ≡ pair_count s n i d m → b ≡ pair_count t n i d m
  pair-count-asked n i d m e = e ∙ ap (λ (u : Sharding). pair_count u n i d m) q

  pub pair-listing-asked : (n : ℕ) (i d : List ℕ) (m : ℕ) (o : List ℕ) {b : CountAnswer} → b ≡ pair_listing s n i d m o → b ≡ pair_listing t n i d m o
  pair-listing-asked n i d m o e = e ∙ ap (λ (u : Sharding). pair_listing u n i d m o) q

  pub pair-listing-left : (n : ℕ) (i d : List ℕ) (m : ℕ) (o : List ℕ) {b : List ℕ} → b ≡ pair_listing_left s n i d m o → b ≡ pair_listing_left t n i d m o
  pair-listing-left n i d m o e = e ∙ ap (λ (u : Sharding). pair_listing_left u n i d m o) q

  pub pair-unlisted-asked : (n : ℕ) (i d : List ℕ) {b : CountAnswer} → b ≡ pair_unlisted s n i d → b ≡ pair_unlisted t n i d
  pair-unlisted-asked n i d e = e ∙ ap (λ (u : Sharding). pair_unlisted u n i d) q

  pub pair-measure-asked : (n : ℕ) (i d : List ℕ) {b : MeasureAnswer} → b ≡ pair_measure s n i d → b ≡ pair_measure t n i d
  pair-measure-asked n i d e = e ∙ ap (λ (u : Sharding). pair_measure u n i d) q

  pub open_asked : (n : ℕ) (o w : List ℕ) {b : Answer Intake} → b ≡ open_answer s n o w → b ≡ open_answer t n o w
  open_asked n o w e = e ∙ ap (λ (u : Sharding). open_answer u n o w) q

  pub open-left : (n : ℕ) (o : List ℕ) {b : List ℕ} → b ≡ open_left s n o → b ≡ open_left t n o
  open-left n o e = e ∙ ap (λ (u : Sharding). open_left u n o) q

  -- and with the wish w, which is v
  module _ {w v : Bool} (g : w ≡ v) where
    pub length-asked : (n : ℕ) (f : List ℕ) {b : CountAnswer} → b ≡ length_answer s n f w → b ≡ length_answer t n f v
    length-asked n f e = e ∙ ap (λ (u : Sharding). length_answer u n f w) q ∙ ap (λ (u : Bool). length_answer t n f u) g

    pub settle-asked : (n : ℕ) (f : List ℕ) (o : List ℕ) {b : CountAnswer} → b ≡ settle_answer s n f w o → b ≡ settle_answer t n f v o
    settle-asked n f o e = e ∙ ap (λ (u : Sharding). settle_answer u n f w o) q ∙ ap (λ (u : Bool). settle_answer t n f u o) g

    pub settle-left : (n : ℕ) (f : List ℕ) (o : List ℕ) {b : List ℕ} → b ≡ settle_left s n f w o → b ≡ settle_left t n f v o
    settle-left n f o e = e ∙ ap (λ (u : Sharding). settle_left u n f w o) q ∙ ap (λ (u : Bool). settle_left t n f u o) g

    pub pair-length-asked : (n : ℕ) (i d : List ℕ) {b : CountAnswer} → b ≡ pair_length s n i d w → b ≡ pair_length t n i d v
    pair-length-asked n i d e = e ∙ ap (λ (u : Sharding). pair_length u n i d w) q ∙ ap (λ (u : Bool). pair_length t n i d u) g

    pub pair-settle-asked : (n : ℕ) (i d : List ℕ) (o : List ℕ) {b : CountAnswer} → b ≡ pair_settle s n i d w o → b ≡ pair_settle t n i d v o
    pair-settle-asked n i d o e = e ∙ ap (λ (u : Sharding). pair_settle u n i d w o) q ∙ ap (λ (u : Bool). pair_settle t n i d u o) g

    pub pair-settle-left : (n : ℕ) (i d : List ℕ) (o : List ℕ) {b : List ℕ} → b ≡ pair_settle_left s n i d w o → b ≡ pair_settle_left t n i d v o
    pair-settle-left n i d o e = e ∙ ap (λ (u : Sharding). pair_settle_left u n i d w o) q ∙ ap (λ (u : Bool). pair_settle_left t n i d u o) g

  -- and with the sheet x, which is y
  module _ {x y : Sheet} (g : x ≡ y) where
    pub add-asked : (n : ℕ) (f : List ℕ) {b : Answer Sheet} → b ≡ add_answer x s n f → b ≡ add_answer y t n f
    add-asked n f e = e ∙ ap (λ (u : Sharding). add_answer x u n f) q ∙ ap (λ (u : Sheet). add_answer u t n f) g

    pub pair-add-asked : (n : ℕ) (i d : List ℕ) {b : Answer Sheet} → b ≡ pair_add_answer x s n i d → b ≡ pair_add_answer y t n i d
    pair-add-asked n i d e = e ∙ ap (λ (u : Sharding). pair_add_answer x u n i d) q ∙ ap (λ (u : Sheet). pair_add_answer u t n i d) g

pub join_asked : {a b c d : Sheet} {r : Answer Sheet} → a ≡ b → c ≡ d → r ≡ join_answer a c → r ≡ join_answer b d
join_asked {a} {b} {c} {d} p q e = e ∙ ap (λ (u : Sheet). join_answer u c) p ∙ ap (join_answer b) q

-- ---- the needs of each kind of call

pub ruleset written = (written-word, length-left, places-asked, shards-asked, minishards-asked, name-asked, name-left, card-asked, card-left, rules)

pub ruleset checked = (check-word, check-asked, pair-check-asked, rules)

pub ruleset looked = (lookup-word, start_left, size-left, lookup-asked, fragment-asked, pair-lookup-asked, pair-fragment-asked, rules)

pub ruleset counted = (count_word, count_left, count-asked, listing-asked, listing-left, unlisted-asked, pair-count-asked, pair-listing-asked, pair-listing-left, pair-unlisted-asked, rules)

pub ruleset settled = (count_word, count_left, length-asked, settle-asked, settle-left, pair-length-asked, pair-settle-asked, pair-settle-left, rules)

pub ruleset measured = (measure-word, counts-left, measure-asked, pair-measure-asked, rules)

pub ruleset added = (sheet-word, rows_left, add-asked, pair-add-asked, join_asked, rules)

pub ruleset carded = (card-word, sharding-left, volume-left, chunk-left, offset-left, rules)
