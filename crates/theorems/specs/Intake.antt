-- What order 11 promises (RULES N4, N6, N7, N9): intake from the scanner. What the four calls refuse, and that a refusal changes no buffer, is in Demand1.
use Rattle.std.specs.Prelude.{ℕ, ◌+◌, ◌^◌, ◌≤◌, ◌<◌, ◌≡◌, List, [], ◌∷◌, length, take, Ok}
use Rattle.refusal.specs.Buffer.{over}
use Rattle.refusal.specs.Checks.{first_number}
use Rattle.endian.specs.Place.{Holds}
use Rattle.sharding.specs.declared.Sharding.{Sharding}
use Rattle.shard.specs.File.{index_length_of}
use Rattle.shard.specs.Items.{Item}
use Rattle.intake.specs.declared.state.Intake.{Intake}
use Rattle.refusal.specs.Answers.{Answer}
use Rattle.intake.specs.declared.Closed.{Closed}
use Rattle.intake.specs.numbers.Numbers.{state_of}
use Rattle.intake.specs.admission.Refusals.{open_checks, announce_checks, part_checks, close_checks}
use Rattle.intake.specs.steps.Steps.{closed}
use Rattle.intake.specs.Calls.{open_answer, open_left, announce_answer, announce_left, announce_waiting, part_answer, part_left, close_answer, close_left, closes_with, intake_result, close_result}
use Rattle.coronagamba.specs.word.Word.{word_of}
use Rattle.coronagamba.specs.Intakes.{state_after_of, part_after, shard_length_after}
use Rattle.delivered.specs.Delivered.{Delivery, as_items, delivered_form, InOrder}
use Rattle.delivered.specs.Runs.{Desk, after_part, after_close, HandsOver, Delivers, Takes, ClosedShard, Over}
use Rattle.delivered.specs.Says.{owing, open_says, announce_says, part_says, close_says}

-- `Takes spec shard out waiting xs d`: from the opening on the chunks xs were announced and handed over, no call was refused, each got the state and both
-- buffers as the last one left them, and d is what the last one left.

-- the close of d reports n
abbrev pub Closes : Desk → ℕ → Type 0
Closes d n = close_answer d.state d.output d.waiting ≡ closes_with (closed d.state) n

-- the first n bytes of the output after the close
abbrev pub front : Desk → ℕ → List ℕ
front d n = take n (close_left d.state d.output d.waiting)

-- ---- the same across the C border: the state is the row of numbers that the caller keeps, and a call that is not refused answers with the word 0

pub record Row : Type 0 where
  pub numbers : List ℕ
  pub output : List ℕ
  pub waiting : List ℕ

-- what the calls answer on a row
abbrev pub announce_on : Row → ℕ → ℕ → Answer Intake
announce_on r id size = announce_answer (state_of r.numbers) id size r.output r.waiting

abbrev pub part_on : Row → List ℕ → Answer Intake
part_on r bytes = part_answer (state_of r.numbers) bytes r.output r.waiting

abbrev pub close_on : Row → Answer Closed
close_on r = close_answer (state_of r.numbers) r.output r.waiting

-- and leave, by the contracts of crates/coronagamba/src/intakes.rt; before the opening any numbers stood there
abbrev pub row_opened : Sharding → ℕ → List ℕ → List ℕ → List ℕ → Row
row_opened spec shard out waiting before = record {
  numbers = state_after_of (open_answer spec shard out waiting) before;
  output = open_left spec shard out;
  waiting = waiting;
}

abbrev pub row_announced : Row → ℕ → ℕ → Row
row_announced r id size = record {
  numbers = state_after_of (announce_on r id size) r.numbers;
  output = announce_left (state_of r.numbers) id size r.output r.waiting;
  waiting = announce_waiting (state_of r.numbers) id size r.output r.waiting;
}

abbrev pub row_handed : Row → List ℕ → Row
row_handed r bytes = record {
  numbers = part_after (part_on r bytes) r.numbers;
  output = part_left (state_of r.numbers) bytes r.output r.waiting;
  waiting = r.waiting;
}

-- runs of such calls, as those of crates/delivered/specs/Runs.antt
pub data RowHands : Row → List (List ℕ) → Row → Type 0 where
  row-no-part : {r : Row} → RowHands r [] r
  row-part : {r e : Row} {bytes : List ℕ} {parts : List (List ℕ)} → word_of (intake_result (part_on r bytes)) ≡ 0 → RowHands (row_handed r bytes) parts e → RowHands r (bytes ∷ parts) e

pub data RowDelivers : Row → List Delivery → Row → Type 0 where
  row-no-chunk : {r : Row} → RowDelivers r [] r
  row-chunk : {r e f : Row} {x : Delivery} {xs : List Delivery} → x.id < 2 ^ 64 → word_of (intake_result (announce_on r x.id x.size)) ≡ 0
      → RowHands (row_announced r x.id x.size) x.parts e → RowDelivers e xs f → RowDelivers r (x ∷ xs) f

pub record RowTakes (spec : Sharding) (shard : ℕ) (out waiting : List ℕ) (xs : List Delivery) (r : Row) : Type 0 where
  pub before : List ℕ
  pub opens : word_of (intake_result (open_answer spec shard out waiting)) ≡ 0
  pub idle : List (List ℕ)
  pub first : Row
  pub idles : RowHands (row_opened spec shard out waiting before) idle first
  pub delivers : RowDelivers first xs r

-- Order 11: "If each call gets the last call's state and both buffers as it left them, (RULES N6)
pub record Order11 : Type 0 where
  -- the close reports the length of the settled form of what was delivered, and the output begins with it, and past it is as it was lent to the opening,
  pub settled : (spec : Sharding) (shard : ℕ) (out waiting : List ℕ) (xs : List Delivery) (d : Desk) (n : ℕ) → Takes spec shard out waiting xs d → Closes d n
      → (n ≡ length (delivered_form spec xs)) × (close_left d.state d.output d.waiting ≡ over (delivered_form spec xs) out)
  -- The same at the C border: the close writes the length, and the output is as above,
  pub border : (spec : Sharding) (shard : ℕ) (out waiting : List ℕ) (xs : List Delivery) (r : Row) (before : ℕ) → RowTakes spec shard out waiting xs r → word_of (close_result (close_on r)) ≡ 0
      → (shard_length_after (close_on r) before ≡ length (delivered_form spec xs))
      × (close_left (state_of r.numbers) r.output r.waiting ≡ over (delivered_form spec xs) out)
  -- however the parts were cut": two runs that deliver the same, in other parts or into other buffers, leave the same.
  pub cut : (spec : Sharding) (shard : ℕ) (out waiting out' waiting' : List ℕ) (xs ys : List Delivery) (d e : Desk) (m n : ℕ)
      → Takes spec shard out waiting xs d → Closes d m → Takes spec shard out' waiting' ys e → Closes e n → as_items xs ≡ as_items ys
      → (m ≡ n) × (front d m ≡ front e n)
  -- "Data goes to its final place in the output at once": the bytes of a part, in the midst of any run, stand right after the call where they stand
  -- after the close, among the n bytes of the form.
  pub at_once : (spec : Sharding) (shard : ℕ) (out waiting : List ℕ) (xs ys : List Delivery) (d e f : Desk) (bytes : List ℕ) (parts : List (List ℕ)) (s : Intake) (n : ℕ)
      → Takes spec shard out waiting xs d → part_answer d.state bytes d.output d.waiting ≡ Ok s
      → HandsOver (after_part d bytes s) parts e → Delivers e ys f → Closes f n
      → Holds (part_left d.state bytes d.output d.waiting) (index_length_of spec + d.state.next) bytes
      × (Holds (close_left f.state f.output f.waiting) (index_length_of spec + d.state.next) bytes × (index_length_of spec + d.state.next + length bytes ≤ n))
  -- The close is not refused where nothing is owed.
  pub paid : (spec : Sharding) (shard : ℕ) (out waiting : List ℕ) (xs : List Delivery) (d : Desk) → Takes spec shard out waiting xs d → owing xs ≡ 0
      → Closes d (length (delivered_form spec xs))
  -- What is closed is a sound shard that lists what was delivered, and is its own settled form.
  pub sound : (spec : Sharding) (shard : ℕ) (out waiting : List ℕ) (xs : List Delivery) (d : Desk) (n : ℕ) → Takes spec shard out waiting xs d → Closes d n
      → ClosedShard spec shard xs (front d n)
  -- "Chunks come by rising minishard, then rising id": no other run is possible.
  pub ordered : (spec : Sharding) (shard : ℕ) (out waiting : List ℕ) (xs : List Delivery) (d : Desk) → Takes spec shard out waiting xs d → InOrder spec (as_items xs)
  -- The refusals of each call, said of what was delivered alone; of an announced chunk x only the id and the number of bytes count.
  pub opens : (spec : Sharding) (shard output : ℕ) → first_number (open_checks spec shard output) ≡ first_number (open_says spec shard output)
  pub announces : (spec : Sharding) (shard : ℕ) (out waiting : List ℕ) (xs : List Delivery) (d : Desk) (x : Item) → Takes spec shard out waiting xs d → x.lead ≡ []
      → first_number (announce_checks d.state x.id (length x.body) (length d.output) d.waiting)
      ≡ first_number (announce_says spec shard (length out) (length waiting) xs x)
  pub parts : (spec : Sharding) (shard : ℕ) (out waiting : List ℕ) (xs : List Delivery) (d : Desk) (n : ℕ) → Takes spec shard out waiting xs d
      → first_number (part_checks d.state n (length d.output) d.waiting) ≡ first_number (part_says xs n)
  pub closes : (spec : Sharding) (shard : ℕ) (out waiting : List ℕ) (xs : List Delivery) (d : Desk) → Takes spec shard out waiting xs d
      → first_number (close_checks d.state (length d.output) d.waiting) ≡ first_number (close_says xs)
  -- 25 "after the close", of every call but an announcement that 10 refuses before, with the state and both buffers as any close left them
  pub after : (d : Desk) (n : ℕ) → Closes d n → Over (after_close d)
