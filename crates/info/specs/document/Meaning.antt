-- What the answer means (order 1).
use Rattle.std.specs.Prelude.{ℕ, ◌≤◌, ◌≡◌, ◌↔◌, List, ◌∷◌, ◌++◌, length, take, Ok, Err}
use Rattle.refusal.specs.Checks.{first_number}
use Rattle.refusal.specs.Answers.{refuse}
use Rattle.json_text.specs.characters.Chars.{Utf8}
use Rattle.json_text.specs.Grammar.{deepest}
use Rattle.json_text.specs.Rfc.{JsonText}
use Rattle.sharding.specs.Specification.{volume}
use Rattle.card.specs.Layout.{card_bytes}
use Rattle.card.specs.Answers.{record_checks, read_answer, write_answer, write_left}
use Rattle.card.specs.declared.Card.{Card}
use Rattle.info.specs.declared.sharding_members.SettingsError.TheVariants.{UnknownHash, Wrong}
use Rattle.info.specs.sharding_members.Words.{scales_name, type_name}
use Rattle.info.specs.document.Document.{Entry, Document, document, member_of}
use Rattle.info.specs.document.Document.DocumentOf.{array, object}
use Rattle.info.specs.document.Document.Times.{once}
use Rattle.info.specs.document.Said.{settings_in}
use Rattle.info.specs.document.Used.{SameUsed}
use Rattle.info.specs.Answers.{said_answer, info_answer}

-- RULES I1, I9
pub record InfoMeaning : Type 0 where
  -- 19 exactly for a text that is no JSON value of depth at most 32 in UTF-8, by the rules of RFC 8259
  pub not_json : (s : List ℕ) (k : ℕ) → (info_answer s k ≡ refuse 19) ↔ (JsonText deepest s → ⊥)
  -- so a text that is not UTF-8 is 19
  pub not_utf8 : (s : List ℕ) (k : ℕ) → (Utf8 s 0 (length s) → ⊥) → info_answer s k ≡ refuse 19
  -- a JSON text is answered by what its document says, and by nothing else
  pub answer : (s : List ℕ) (k : ℕ) (j : JsonText deepest s) → info_answer s k ≡ said_answer k (document j)
  -- so 20 is given exactly where the document does not say the settings of scale k
  pub unsaid : (s : List ℕ) (k : ℕ) (j : JsonText deepest s) → (info_answer s k ≡ refuse 20) ↔ (settings_in k (document j) ≡ Err Wrong)
  -- 1 where it says all but a hash name that is known
  pub unknown : (s : List ℕ) (k : ℕ) (j : JsonText deepest s) → settings_in k (document j) ≡ Err UnknownHash → info_answer s k ≡ refuse 1
  -- and a record exactly where it says that record, and 1, 2 and 3 do not hold of it: its fields are the numbers that stand in the members named
  pub given : (s : List ℕ) (k : ℕ) (c : Card) → (info_answer s k ≡ Ok c) ↔ ((j : JsonText deepest s) × (settings_in k (document j) ≡ Ok c) × (first_number (record_checks c) ≡ 0))
  -- of a volume (RULES I9)
  pub kind : (s : List ℕ) (k : ℕ) (c : Card) → info_answer s k ≡ Ok c → c.sharding.kind ≡ volume
  -- two JSON texts whose documents agree on the members that the rules name are answered alike, however they are written
  pub alike : (a b : List ℕ) (k : ℕ) (i : JsonText deepest a) (j : JsonText deepest b) → SameUsed k (document i) (document j) → info_answer a k ≡ info_answer b k
  -- one document agrees with itself
  pub itself : (k : ℕ) (v : Document deepest) → SameUsed k v v
  -- the outermost @type does not matter: it may be there, be another or be missing
  pub outermost : (k : ℕ) (xs ys : List (Entry (Document 31))) (a : Entry (Document 31)) → a.name ≡ type_name → SameUsed k (object (xs ++ (a ∷ ys))) (object (xs ++ ys))
  -- nor do the other scales: documents whose scales differ in one that is not scale k agree
  pub scales : (k : ℕ) (v w : Document deepest) (xs ys : List (Document 30)) (a b : Document 30) → (length xs ≡ k → ⊥)
      → member_of scales_name v ≡ once (array (xs ++ (a ∷ ys))) → member_of scales_name w ≡ once (array (xs ++ (b ∷ ys))) → SameUsed k v w
  -- nor, in each object, a member of another name than the one that is asked for
  pub unused : (d : ℕ) (name : List ℕ) (xs ys : List (Entry (Document d))) (a : Entry (Document d)) → (a.name ≡ name → ⊥)
      → member_of name (object (xs ++ (a ∷ ys))) ≡ member_of name (object (xs ++ ys))
  -- nor the order of members
  pub order : (d : ℕ) (name : List ℕ) (xs ys : List (Entry (Document d))) (a b : Entry (Document d))
      → member_of name (object (xs ++ (a ∷ b ∷ ys))) ≡ member_of name (object (xs ++ (b ∷ a ∷ ys)))
  -- "a card written from its answer reads back to the same record"
  pub card : (s : List ℕ) (k : ℕ) (c : Card) (out : List ℕ) → info_answer s k ≡ Ok c → length (card_bytes c) ≤ length out
      → (write_answer c out ≡ Ok (length (card_bytes c))) × (read_answer (take (length (card_bytes c)) (write_left c out)) ≡ Ok c)
