-- What the program `sheet` makes of its input, shard by shard (RULES H5; docs/SHEET.md fixes the input).
use Rattle.std.specs.Prelude.{ℕ, suc, ◌-◌, ◌^◌, ◌≤◌, ◌≡◌, Bool, true, false, List, ltb, eqb, length, get_or, take, drop, Option, Ok, Err}
use Rattle.refusal.specs.Choice.{pick}
use Rattle.endian.specs.Little.{le_at}
use Rattle.sharding.specs.declared.Sharding.{Sharding}
use Rattle.holdings.specs.declared.one_shard.Sheet.{Sheet}
use Rattle.refusal.specs.Answers.{Answer}
use Rattle.holdings.specs.one_shard.Sheet.{empty}
use Rattle.holdings.specs.Answers.{add_answer}
use Rattle.reading.specs.End.{is_end}
use Rattle.sheet.specs.declared.one_turn.Turn.{Turn}
use Rattle.sheet.specs.declared.one_turn.Ending.{Ending}
use Rattle.sheet.specs.declared.one_turn.Ending.TheVariants.{More, End, Cut, Long, Full, Unreadable}

-- a shard's header: preshift, hash, minishard bits, shard bits and kind, one byte each, its number of 8 bytes and its length of 4, little-endian
abbrev pub header_bytes : ℕ
header_bytes = 17

unfoldable pub spec_in : List ℕ → Sharding
spec_in head = record { preshift = get_or head 0 0; hash = get_or head 1 0; minishard_bits = get_or head 2 0; shard_bits = get_or head 3 0; kind = get_or head 4 0 }

abbrev pub number_in : List ℕ → ℕ
number_in head = le_at 8 head 5

abbrev pub length_in : List ℕ → ℕ
length_in head = le_at 4 head 13

-- "shards of at most 65,536 bytes"
abbrev pub most_bytes : ℕ
most_bytes = 65536

-- ---- a turn: the header and the shard's bytes, as far as they were there

-- what comes after it is an `Ending` (src/one_turn.rt)
abbrev pub turning : Sheet → Ending → Turn
turning sheet ending = record { sheet = sheet; ending = ending }

unfoldable pub turn_by : Sheet → Answer Sheet → Turn
turn_by sheet (Ok next) = turning next More
turn_by sheet (Err k) = turning sheet Full

-- RULES H5
unfoldable pub turn_of : Sheet → List ℕ → List ℕ → Turn
turn_of sheet head body =
    pick (eqb (length head) 0) (turning sheet End)
    (pick (ltb (length head) header_bytes) (turning sheet Cut)
    (pick (ltb most_bytes (length_in head)) (turning sheet Long)
    (pick (ltb (length body) (length_in head)) (turning sheet Cut)
    (turn_by sheet (add_answer sheet (spec_in head) (number_in head) body)))))

-- how many bytes are to be read behind a header; none where it is cut or says too many
unfoldable pub body_length : List ℕ → ℕ
body_length head = pick (ltb (length head) header_bytes) 0 (pick (ltb most_bytes (length_in head)) 0 (length_in head))

-- ---- what is told of a turn that found fewer bytes than it asked for: their count does not tell the input's end from a read that failed

abbrev pub is_short : Ending → Bool
is_short More = false
is_short End = true
is_short Cut = true
is_short Long = false
is_short Full = false
is_short Unreadable = false

abbrev pub stops_short : Turn → Bool
stops_short t = is_short t.ending

unfoldable pub told : Turn → Option ℕ → Turn
told t answer = pick (is_end answer) t (turning t.sheet Unreadable)

-- ---- of the functions that read

-- a turn by this header and those bytes of `body` that were read
pub record TurnedBy (sheet : Sheet) (head body : List ℕ) (r : Turn) : Type 0 where
  pub got : ℕ
  pub within : got ≤ length body
  pub made : r ≡ turn_of sheet head (take got body)

-- a turn by what was read of `head`, and behind it by what was read of as many bytes of `body` as that header asks for; the bytes behind
-- these are as before
pub record Turned (sheet : Sheet) (head before body : List ℕ) (r : Turn) : Type 0 where
  pub asked : ℕ
  pub got : ℕ
  pub whole : asked ≤ header_bytes
  pub within : got ≤ body_length (take asked head)
  pub made : r ≡ turn_of sheet (take asked head) (take got body)
  pub kept : drop (body_length (take asked head)) body ≡ drop (body_length (take asked head)) before

-- one that stopped short, by the answer of one read more; any other stays
pub record Told (t r : Turn) : Type 0 where
  pub answer : Option ℕ
  pub made : r ≡ pick (stops_short t) (told t answer) t

pub record Next (sheet : Sheet) (head before body : List ℕ) (r : Turn) : Type 0 where
  pub turn : Turn
  pub turned : Turned sheet head before body turn
  pub told : Told turn r

-- where n turns lead that begin with an empty sheet; one that ended the input is the last
pub data Reached : ℕ → Turn → Type 0 where
  begun : Reached 0 (turning empty More)
  went : {n : ℕ} {t r : Turn} {head before body : List ℕ} → Reached n t → t.ending ≡ More → Next t.sheet head before body r → Reached (suc n) r

-- the program takes so many turns at most
abbrev pub most_turns : ℕ
most_turns = 2 ^ 64 - 1

-- turns up to one that ended the input, unless all of them are used up
pub record Finished (r : Turn) : Type 0 where
  pub turns : ℕ
  pub reached : Reached turns r
  pub last : (r.ending ≡ More) → turns ≡ most_turns
