-- What the answer means: 19 exactly for what is no JSON text, the record that the document says, and a card that reads back.
use Prim.Native.Nat.{ℕ, zero, suc, ◌≤◌, ◌<◌}
use mathlib.Core.Path.{◌≡◌, refl, sym, ap, ◌∙◌}
use mathlib.Core.Bool.{Bool, true, false, not}
use mathlib.Core.List.{List}
use mathlib.Core.Logic.{◌↔◌}
use native.Mathlib.Omega.{arith}
use lib.ListN.{length, take}
use Rattle.refusal.specs.Choice.{pick}
use Rattle.refusal.specs.Checks.{first_number, unless}
use Rattle.std.specs.Prelude.{Ok, Result, Err}
use Rattle.refusal.specs.Answers.{refuse}
use Rattle.refusal.proofs.Passed.{pass}
use Rattle.refusal.proofs.Refusing.{RefusesBy, refuses_by}
use Rattle.refusal.specs.declared.Refusal.TheVariants.{InfoNotJson, InfoSettings}
use Rattle.json_text.specs.Grammar.{deepest, is_json}
use Rattle.json_text.specs.Rfc.{JsonText}
use Rattle.json_text.proofs.Agree.{json_sound, json_complete}
use Rattle.json_text.proofs.Encoded.{json_utf8}
use Rattle.morton.specs.grid.Grid.{grid_of, zero_extent}
use Rattle.morton.specs.Key.{too_many_bits}
use Rattle.sharding.specs.Specification.{volume, allowed}
use Rattle.card.specs.declared.Card.{Card}
use Rattle.card.specs.Layout.{card_bytes, Ranged}
use Rattle.card.specs.Answers.{record_checks, fault, read_answer, write_answer, write_left}
use Rattle.endian.proofs.Buffer.{written-fits}
use Rattle.card.proofs.Judged.{write_written}
use Rattle.card.proofs.Meaning.{one_meaning_one-card}
use Rattle.info.specs.declared.sharding_members.SettingsError.{SettingsError}
use Rattle.info.specs.declared.sharding_members.SettingsError.TheVariants.{UnknownHash, Wrong}
use Rattle.info.specs.Settings.{settings_of}
use Rattle.info.specs.Answers.{no_settings, unknown_hash, record_of, settings_checks, said_answer, info_checks, info_answer}
use Rattle.info.specs.document.Document.{document}
use Rattle.info.specs.document.Places.{document_found}
use Rattle.info.specs.document.Said.{settings_in}
use Rattle.info.specs.document.Used.{SameUsed}
use Rattle.info.specs.document.Meaning.{InfoMeaning}
use Rattle.info.proofs.Ways.{placed_number, first-is, by_places, info_1}
use Rattle.info.proofs.document.Reading.{settings_by_places}
use Rattle.info.proofs.document.Derived.{document-said}
use Rattle.info.proofs.document.Order.{used-same, used-itself, used-outermost, type-no-scales, used-scales, member-unused, member-order}
use Rattle.info.proofs.document.Held.{SettingsHeld, of_held}

-- ---- what is accepted

judged_by : (f : ℕ) (c d : Card) → unless refuse f (Ok d) ≡ Ok c → (f ≡ 0) × (d ≡ c)
unfolding unless
judged_by zero c d e = (refl, cc)
judged_by (suc f) c d e = let z : ◌≡◌ {A = ℕ} 0 1 = cc in absurd (omega arith)

accepted_by : (t : Bool) (w : Result Card SettingsError) (c : Card) → SettingsHeld w
    → unless refuse (pick (not t) 19 (pick (no_settings w) 20 (pick (unknown_hash w) 1 (fault (record_of w))))) (Ok (record_of w)) ≡ Ok c
    → (t ≡ true) × (w ≡ Ok c) × (Ranged c) × (fault c ≡ 0) × (c.sharding.kind ≡ volume)
unfolding unless no_settings unknown_hash record_of
accepted_by false w c h e = let z : ◌≡◌ {A = ℕ} 0 1 = cc in absurd (omega arith)
accepted_by true (Err UnknownHash) c h e = let z : ◌≡◌ {A = ℕ} 0 1 = cc in absurd (omega arith)
accepted_by true (Err Wrong) c h e = let z : ◌≡◌ {A = ℕ} 0 1 = cc in absurd (omega arith)
accepted_by true (Ok d) c h e =
    let q = judged_by (fault d) c d e in
    (refl, ap Ok q.1, rw q.1 at h.0, ap fault (sym q.1) ∙ q.0, rw q.1 at h.1)

-- an accepted text is JSON, its settings give the record, and the record fits a card, passes the card's own checks and is of a volume
pub accepted : (s : List ℕ) (k : ℕ) (c : Card) → info_answer s k ≡ Ok c → (is_json deepest s ≡ true) × (settings_of s k ≡ Ok c) × (Ranged c) × (fault c ≡ 0) × (c.sharding.kind ≡ volume)
unfolding placed_number
accepted s k c e = accepted_by (is_json deepest s) (settings_of s k) c (of_held s k) (sym (by_places s k) ∙ e)

-- "a card written from its answer reads back to the same record"
card-reads_back : (s : List ℕ) (k : ℕ) (c : Card) (out : List ℕ) → info_answer s k ≡ Ok c → length (card_bytes c) ≤ length out
    → (write_answer c out ≡ Ok (length (card_bytes c))) × (read_answer (take (length (card_bytes c)) (write_left c out)) ≡ Ok c)
card-reads_back s k c out e h =
    let a = accepted s k c e in
    let w = sym (write_written c out (pass (fault c) a.3) (sym (written-fits (card_bytes c) out h))) in
    (w, (one_meaning_one-card.written c out (length (card_bytes c)) a.2 w).1)

-- ---- what is refused

info-refuses : (s : List ℕ) (k : ℕ) → RefusesBy (info_answer s k) (info_checks s k)
unfolding info_answer info_checks settings_checks record_checks
info-refuses s k = refuses_by (info_checks s k) (record_of (settings_in k (document_found s))) refl

pick_small : (a b c : Bool) → pick a 1 (pick b 2 (pick c 3 0)) < 19
pick_small true b c = omega arith
pick_small false true c = omega arith
pick_small false false true = omega arith
pick_small false false false = omega arith

fault-small : (c : Card) → fault c < 19
unfolding record_checks first_number
fault-small c = pick_small (not (allowed c.sharding)) (zero_extent c.volume) (too_many_bits (grid_of c.volume))

first_small : (w : Result Card SettingsError) → pick (unknown_hash w) 1 (fault (record_of w)) < 19
unfolding unknown_hash record_of
first_small (Ok c) = fault-small c
first_small (Err UnknownHash) = omega arith
first_small (Err Wrong) = fault-small (record_of (Err Wrong))

number_19 : (t b : Bool) (f : ℕ) → f < 19 → pick (not t) 19 (pick b 20 f) ≡ 19 → t ≡ false
number_19 false b f h e = refl
number_19 true true f h e = absurd (omega arith)
number_19 true false f h e = absurd (omega arith)

false-not : {t : Bool} → t ≡ false → t ≡ true → ⊥
false-not p q = let z : ◌≡◌ {A = ℕ} 0 1 = cc in omega arith

-- 19 exactly for texts that are no JSON value of depth at most 32 in UTF-8
not_json_19 : (s : List ℕ) (k : ℕ) → (info_answer s k ≡ refuse 19) ↔ (JsonText deepest s → ⊥)
unfolding placed_number
not_json_19 s k = (λ e j. false-not (no_json e) (json_complete deepest s j), λ n. ((info-refuses s k).decided InfoNotJson).1 (here n (is_json deepest s) refl))
  where
    no_json : info_answer s k ≡ refuse 19 → is_json deepest s ≡ false
    no_json e = number_19 (is_json deepest s) (no_settings (settings_of s k)) (pick (unknown_hash (settings_of s k)) 1 (fault (record_of (settings_of s k)))) (first_small (settings_of s k)) (sym (first-is s k) ∙ ((info-refuses s k).decided InfoNotJson).0 e)

    here : (JsonText deepest s → ⊥) → (t : Bool) → is_json deepest s ≡ t → first_number (info_checks s k) ≡ 19
    here n true e = absurd (n (json_sound deepest s e))
    here n false e = first-is s k ∙ rw e

-- ---- by what the document says

by_document : (s : List ℕ) (k : ℕ) (j : JsonText deepest s) → info_answer s k ≡ said_answer k (document j)
unfolding info_answer info_checks said_answer first_number
by_document s k j = rw (json_complete deepest s j, document-said s j)

settings_by_document : (s : List ℕ) (k : ℕ) (j : JsonText deepest s) → settings_of s k ≡ settings_in k (document j)
settings_by_document s k j = settings_by_places s k ∙ ap (settings_in k) (document-said s j)

number_20 : (w : Result Card SettingsError) → pick (no_settings w) 20 (pick (unknown_hash w) 1 (fault (record_of w))) ≡ 20 → w ≡ Err Wrong
unfolding no_settings unknown_hash record_of
number_20 (Ok c) e = absurd (omega (arith, fault-small c))
number_20 (Err UnknownHash) e = absurd (omega arith)
number_20 (Err Wrong) e = refl

unsaid_20 : (s : List ℕ) (k : ℕ) (j : JsonText deepest s) → (info_answer s k ≡ refuse 20) ↔ (settings_in k (document j) ≡ Err Wrong)
unfolding placed_number
unsaid_20 s k j = (λ e. sym (settings_by_document s k j) ∙ none e, λ e. ((info-refuses s k).decided InfoSettings).1 (here (settings_by_document s k j ∙ e)))
  where
    unfolded : first_number (info_checks s k) ≡ pick (no_settings (settings_of s k)) 20 (pick (unknown_hash (settings_of s k)) 1 (fault (record_of (settings_of s k))))
    unfolded = first-is s k ∙ rw (json_complete deepest s j)

    none : info_answer s k ≡ refuse 20 → settings_of s k ≡ Err Wrong
    none e = number_20 (settings_of s k) (sym unfolded ∙ ((info-refuses s k).decided InfoSettings).0 e)

    wrong : settings_of s k ≡ Err Wrong → pick (no_settings (settings_of s k)) 20 (pick (unknown_hash (settings_of s k)) 1 (fault (record_of (settings_of s k)))) ≡ 20
    wrong e = rw e (unfold no_settings in refl)

    here : settings_of s k ≡ Err Wrong → first_number (info_checks s k) ≡ 20
    here e = unfolded ∙ wrong e

said-given : (w : Result Card SettingsError) (c : Card) → w ≡ Ok c → fault c ≡ 0 → unless refuse (pick (no_settings w) 20 (pick (unknown_hash w) 1 (fault (record_of w)))) (Ok (record_of w)) ≡ Ok c
unfolding unless no_settings unknown_hash record_of
said-given w c e z = rw (e, z)

given-said : (s : List ℕ) (k : ℕ) (c : Card) → (info_answer s k ≡ Ok c) ↔ ((j : JsonText deepest s) × (settings_in k (document j) ≡ Ok c) × (first_number (record_checks c) ≡ 0))
unfolding said_answer settings_checks
given-said s k c = (λ e. let a = accepted s k c e in let j = json_sound deepest s a.0 in (j, sym (settings_by_document s k j) ∙ a.1, a.3), λ h. by_document s k h.0 ∙ said h.0 h.1 h.2)
  where
    said : (j : JsonText deepest s) → settings_in k (document j) ≡ Ok c → first_number (record_checks c) ≡ 0 → said_answer k (document j) ≡ Ok c
    said j p q = unfold first_number in said-given (settings_in k (document j)) c p q

unknown_1 : (s : List ℕ) (k : ℕ) (j : JsonText deepest s) → settings_in k (document j) ≡ Err UnknownHash → info_answer s k ≡ refuse 1
unknown_1 s k j e = sym (info_1 s k (sym (json_complete deepest s j)) refl (sym (settings_by_document s k j)) e)

-- ---- one document, one answer

alike : (a b : List ℕ) (k : ℕ) (i : JsonText deepest a) (j : JsonText deepest b) → SameUsed k (document i) (document j) → info_answer a k ≡ info_answer b k
unfolding said_answer
alike a b k i j e = by_document a k i ∙ rw (used-same k (document i) (document j) e) (sym (by_document b k j))

pub meaning : InfoMeaning
meaning =
    record {
      not_json = not_json_19;
      not_utf8 = λ s k n. (not_json_19 s k).1 (λ j. n (json_utf8 deepest s j));
      answer = by_document;
      unsaid = unsaid_20;
      unknown = unknown_1;
      given = given-said;
      kind = λ s k c e. (accepted s k c e).4;
      alike = alike;
      itself = λ k v. used-itself k v;
      outermost = λ k xs ys a e. used-outermost k xs ys a (type-no-scales a.name e);
      scales = λ k v w xs ys a b h p q. used-scales k v w xs ys a b h p q;
      unused = λ d name xs ys a h. member-unused name xs ys a h;
      order = λ d name xs ys a b. member-order name xs ys a b;
      card = card-reads_back;
    }
