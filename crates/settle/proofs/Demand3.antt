-- Demand 3 as far as it speaks of settling; what it says of the settled form itself is in `settled_form`.
use Rattle.std.proofs.Common.{◌≡◌, ℕ, ◌<◌, ◌≤◌, Bool, ◌⊎◌, ◌↔◌, List, length, inr}
use mathlib.Core.Option.{Option, none}
use Rattle.refusal.specs.Buffer.{over}
use Rattle.refusal.specs.Checks.{refusal}
use Rattle.sharding.specs.declared.Sharding.{Sharding}
use Rattle.shard.specs.index.Index.{most_shard_bytes}
use Rattle.shard.specs.Sound.{SoundShard}
use Rattle.settled_form.specs.Content.{file_form}
use Rattle.settled_form.proofs.Demand3.{Short, demand_3_form-sound, demand_3_form-same}
use Rattle.settled_form.proofs.shortest.Listed.{form-listed}
use Rattle.refusal.specs.declared.CountAnswer.TheVariants.{Count, Refused, Faulty}
use Rattle.settle.specs.answers.Answers.{length_answer, settle_answer, settle_left}
use Rattle.settle.proofs.answers.Answered.{Ready, length-long, length-fits, answer-long, left-long, answer-fits, left-fits, refused-long}

-- the settled form is longer than the output or than 1 GiB
abbrev pub Longer : Sharding → List ℕ → List ℕ → Type 0
Longer spec a out = (length out < length (file_form spec a)) ⊎ (most_shard_bytes < length (file_form spec a))

-- The settled form of a sound shard, at most 1 GiB long, settles to itself in every output long enough for it, whatever the caller asks: nothing in
-- it is unlisted.
pub demand_3_form-settles : {spec : Sharding} {shard : ℕ} {a : List ℕ} → SoundShard spec shard a → Short spec a → (dropping : Bool) (out : List ℕ) → length (file_form spec a) ≤ length out
    → (settle_answer spec shard (file_form spec a) dropping out ≡ Count (length (file_form spec a))) × (settle_left spec shard (file_form spec a) dropping out ≡ over (file_form spec a) out)
demand_3_form-settles sound short dropping out h =
    let e = demand_3_form-same sound short in
    let s = demand_3_form-sound sound short in
    let r : Ready _ _ dropping = inr (form-listed sound short) in
    (rw e at (answer-fits s r out (rw e h) (rw e short)), rw e at (left-fits s r out (rw e h) (rw e short)))

-- The settled length of a sound shard whose unlisted bytes are dropped, or which has none,
module _ {spec : Sharding} {shard : ℕ} {a : List ℕ} (sound : SoundShard spec shard a) {dropping : Bool} (ready : Ready spec a dropping) where
  -- is answered with the form's length,
  pub demand_3_length : Short spec a → length_answer spec shard a dropping ≡ Count (length (file_form spec a))
  demand_3_length short = length-fits sound ready short

  -- or refused with 13 where that is above 1 GiB.
  pub demand_3_length-refused : most_shard_bytes < length (file_form spec a) → length_answer spec shard a dropping ≡ Refused 13
  demand_3_length-refused h = length-long sound ready h

-- Settling such a shard
module _ {spec : Sharding} {shard : ℕ} {a : List ℕ} (sound : SoundShard spec shard a) {dropping : Bool} (ready : Ready spec a dropping) (out : List ℕ) where
  -- is refused, with 13 and no position, exactly when its settled form is longer than the output or than 1 GiB;
  pub demand_3_refused : (number : ℕ) (p : Option ℕ) → (settle_answer spec shard a dropping out ≡ refusal Refused Faulty number p) ↔ ((number ≡ 13) × (p ≡ none) × Longer spec a out)
  demand_3_refused number p = (refused-long sound ready out number p, λ h. rw (h.0, h.1) (answer-long sound ready out h.2))

  -- the output is then as it was.
  pub demand_3_unchanged : Longer spec a out → settle_left spec shard a dropping out ≡ out
  demand_3_unchanged h = left-long sound ready out h

  -- Otherwise it reports the form's length, and writes exactly the form: past it the output is as it was.
  pub demand_3_written : length (file_form spec a) ≤ length out → Short spec a
      → (settle_answer spec shard a dropping out ≡ Count (length (file_form spec a))) × (settle_left spec shard a dropping out ≡ over (file_form spec a) out)
  demand_3_written h short = (answer-fits sound ready out h short, left-fits sound ready out h short)
