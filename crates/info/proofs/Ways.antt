-- What the functions that read the settings need: each way out as a case of its definition.
use Prim.Native.Nat.{ℕ, zero, suc}
use mathlib.Core.Path.{◌≡◌, refl, sym, ◌∙◌}
use mathlib.Core.Bool.{Bool, true, false, not}
use mathlib.Core.List.{List}
use borrow.Author.Rules.{rules}
use borrow.Author.Tests.{not-true, not-false}
use Rattle.refusal.specs.Choice.{pick}
use Rattle.refusal.specs.Checks.{first_number, unless}
use Rattle.json_text.specs.Grammar.{deepest, is_json}
use Rattle.card.specs.declared.Card.{Card}
use Rattle.std.specs.Prelude.{Ok, Result, Err}
use Rattle.refusal.specs.declared.Refusal.{Refusal}
use Rattle.refusal.specs.Answers.{Answer, refuse, judged}
use Rattle.refusal.proofs.Passed.{passed-on, passed-refused}
use Rattle.card.specs.Answers.{fault}
use Rattle.info.specs.declared.sharding_members.SettingsError.{SettingsError}
use Rattle.info.specs.declared.sharding_members.SettingsError.TheVariants.{UnknownHash, Wrong}
use Rattle.info.specs.Settings.{settings_of}
use Rattle.info.proofs.document.Reading.{settings_by_places}
use Rattle.info.specs.Answers.{judged_answer, no_settings, unknown_hash, record_of, settings_checks, info_checks, info_answer}

-- ---- the answer

module _ (c : Card) where
  pub judged-refused : {k : Refusal} → Err k ≡ judged (fault c) → Err k ≡ judged_answer c
  unfolding judged_answer
  judged-refused e = passed-refused (fault c) e (Ok c)

  pub judged_says : Ok tt ≡ judged (fault c) → Ok c ≡ judged_answer c
  unfolding judged_answer
  judged_says e = sym (passed-on (fault c) e refuse (Ok c))

-- the answer by places in the text
unfoldable pub placed_number : List ℕ → ℕ → ℕ
placed_number s k = pick (not (is_json deepest s)) 19 (pick (no_settings (settings_of s k)) 20 (pick (unknown_hash (settings_of s k)) 1 (fault (record_of (settings_of s k)))))

pub first-is : (s : List ℕ) (k : ℕ) → first_number (info_checks s k) ≡ placed_number s k
unfolding info_checks settings_checks first_number placed_number
first-is s k = rw (settings_by_places s k)

pub by_places : (s : List ℕ) (k : ℕ) → info_answer s k ≡ unless refuse (placed_number s k) (Ok (record_of (settings_of s k)))
unfolding info_answer
by_places s k = rw (first-is s k, settings_by_places s k)

module _ (s : List ℕ) (k : ℕ) {t : Bool} (et : t ≡ is_json deepest s) where
  pub info_19 : not t ≡ true → refuse 19 ≡ info_answer s k
  unfolding placed_number unless
  info_19 n = sym (by_places s k ∙ rw (sym et ∙ not-true t n))

  module _ (n : not t ≡ false) {w : Result Card SettingsError} (ew : w ≡ settings_of s k) where
    pub info_20 : w ≡ Err Wrong → refuse 20 ≡ info_answer s k
    unfolding placed_number unless no_settings
    info_20 e = sym (by_places s k ∙ rw (sym et ∙ not-false t n, sym ew ∙ e))

    pub info_1 : w ≡ Err UnknownHash → refuse 1 ≡ info_answer s k
    unfolding placed_number unless no_settings unknown_hash
    info_1 e = sym (by_places s k ∙ rw (sym et ∙ not-false t n, sym ew ∙ e))

    pub info-judged : {c : Card} {r : Answer Card} → w ≡ Ok c → r ≡ judged_answer c → r ≡ info_answer s k
    unfolding placed_number judged_answer no_settings unknown_hash record_of
    info-judged ec er = er ∙ sym (by_places s k ∙ rw (sym et ∙ not-false t n, sym ew ∙ ec))

pub ruleset answers = (info_19, info_20, info_1, info-judged, rules)
