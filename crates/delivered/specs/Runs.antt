-- Runs of calls that deliver chunks to an intake, where "each call gets the last call's state and both buffers as it left them" and none is refused
-- (RULES N6).
use Rattle.std.specs.Prelude.{ℕ, ◌^◌, ◌<◌, ◌≡◌, List, [], ◌∷◌, eqb, Ok}
use Rattle.refusal.specs.Choice.{pick}
use Rattle.sharding.specs.declared.Sharding.{Sharding}
use Rattle.sharding.specs.placement.Place.{shard_of}
use Rattle.shard.specs.Sound.{SoundShard}
use Rattle.settled_form.specs.Content.{file_content, file_form}
use Rattle.intake.specs.declared.state.Intake.{Intake}
use Rattle.refusal.specs.Answers.{refuse}
use Rattle.intake.specs.Calls.{open_answer, open_left, announce_answer, announce_left, announce_waiting, part_answer, part_left, close_answer, close_left}
use Rattle.intake.specs.steps.Steps.{closed}
use Rattle.delivered.specs.Delivered.{Delivery, as_items, gathered}

-- the state and the two buffers between calls
pub record Desk : Type 0 where
  pub state : Intake
  pub output : List ℕ
  pub waiting : List ℕ

-- what an opening, an announcement and a part leave, with the state s that they answer, and a close
abbrev pub after_open : Sharding → ℕ → List ℕ → List ℕ → Intake → Desk
after_open spec shard out waiting s = record { state = s; output = open_left spec shard out; waiting = waiting }

abbrev pub after_announce : Desk → ℕ → ℕ → Intake → Desk
after_announce d id size s = record {
  state = s;
  output = announce_left d.state id size d.output d.waiting;
  waiting = announce_waiting d.state id size d.output d.waiting;
}

abbrev pub after_part : Desk → List ℕ → Intake → Desk
after_part d bytes s = record { state = s; output = part_left d.state bytes d.output d.waiting; waiting = d.waiting }

abbrev pub after_close : Desk → Desk
after_close d = record { state = closed d.state; output = close_left d.state d.output d.waiting; waiting = d.waiting }

-- parts handed over in turn
pub data HandsOver : Desk → List (List ℕ) → Desk → Type 0 where
  no_part : {d : Desk} → HandsOver d [] d
  part : {d e : Desk} {bytes : List ℕ} {parts : List (List ℕ)} {s : Intake}
      → part_answer d.state bytes d.output d.waiting ≡ Ok s
      → HandsOver (after_part d bytes s) parts e
      → HandsOver d (bytes ∷ parts) e

-- chunks announced and handed over in turn; an id is a u64
pub data Delivers : Desk → List Delivery → Desk → Type 0 where
  no_chunk : {d : Desk} → Delivers d [] d
  chunk : {d e f : Desk} {x : Delivery} {xs : List Delivery} {s : Intake}
      → x.id < 2 ^ 64
      → announce_answer d.state x.id x.size d.output d.waiting ≡ Ok s
      → HandsOver (after_announce d x.id x.size s) x.parts e
      → Delivers e xs f
      → Delivers d (x ∷ xs) f

-- a shard that was opened, parts before the first chunk, of which only empty ones are not refused, and then the chunks xs, each announced and its parts
-- handed over (RULES N6)
pub record Takes (spec : Sharding) (shard : ℕ) (out waiting : List ℕ) (xs : List Delivery) (d : Desk) : Type 0 where
  pub state : Intake
  pub opens : open_answer spec shard out waiting ≡ Ok state
  pub idle : List (List ℕ)
  pub first : Desk
  pub idles : HandsOver (after_open spec shard out waiting state) idle first
  pub delivers : Delivers first xs d

-- what a closed shard is, the first bytes of the output, as many as the close reports (RULES N6)
pub record ClosedShard (spec : Sharding) (shard : ℕ) (xs : List Delivery) (file : List ℕ) : Type 0 where
  -- it passes the check,
  pub sound : SoundShard spec shard file
  -- lists what was delivered,
  pub content : file_content spec file ≡ gathered spec (as_items xs)
  -- and is the settled form of itself
  pub form : file_form spec file ≡ file

-- 25 "after the close", at a desk as it left it: of every call but an announcement of an id that belongs to another shard
pub record Over (d : Desk) : Type 0 where
  pub announces : (id size : ℕ) → announce_answer d.state id size d.output d.waiting ≡ refuse (pick (eqb (shard_of d.state.spec id) d.state.shard) 25 10)
  pub parts : (bytes : List ℕ) → part_answer d.state bytes d.output d.waiting ≡ refuse 25
  pub closes : close_answer d.state d.output d.waiting ≡ refuse 25
