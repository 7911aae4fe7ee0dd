-- Nothing is shorter than the settled form (RULES U9).
use Prim.Native.Nat.{ℕ, ◌+◌, ◌≤◌}
use mathlib.Core.Path.{◌≡◌, ap}
use mathlib.Core.Logic.{◌↔◌}
use mathlib.Core.List.{List}
use native.Mathlib.Omega.{arith}
use lib.ListN.{length, length-drop}
use Rattle.sharding.specs.declared.Sharding.{Sharding}
use Rattle.shard.specs.File.{index_length_of, index_part, data_part}
use Rattle.shard.specs.Sound.{SoundShard}
use Rattle.shard.specs.Lists.{SameListing}
use Rattle.unlisted.specs.ranges.Covered.{file_unlisted}
use Rattle.settled_form.specs.Form.{settled_length}
use Rattle.settled_form.specs.Content.{form_length, file_form}
use Rattle.settled_form.proofs.Measures.{length-content, length-form}
use Rattle.settled_form.proofs.Demand3.{Short, demand_3_one-form, demand_3_form-sound, demand_3_form-same}
use Rattle.settled_form.specs.shortest.Shares.{SharesNone}
use Rattle.settled_form.proofs.shortest.Listed.{form-listed}
use Rattle.settled_form.proofs.shortest.Slots.{overlap, apart_none, none_apart}
use Rattle.settled_form.proofs.shortest.Measured.{parts-misses, range_inside}

-- ---- a sound shard and its own form

module _ {spec : Sharding} {shard : ℕ} {b : List ℕ} (sound : SoundShard spec shard b) where
  measured : length b + overlap spec (index_part spec b) (data_part spec b) ≡ length (file_form spec b) + file_unlisted spec b
  unfolding form_length settled_length
  measured =
      let index = index_part spec b in
      let d = data_part spec b in
      let a = parts-misses index d sound.each in
      omega (arith, length-drop (index_length_of spec) b, sound.held, length-form spec index d, length-content spec index d)

  -- It is at most as long as its form and its unlisted bytes together,
  pub form-and-unlisted : length b ≤ length (file_form spec b) + file_unlisted spec b
  form-and-unlisted = omega (arith, measured)

  -- and as long exactly where its ranges share no byte.
  pub as_long : (length b ≡ length (file_form spec b) + file_unlisted spec b) ↔ SharesNone spec b
  as_long = (
    (λ e. none_apart spec (index_part spec b) (data_part spec b) (range_inside (index_part spec b) (data_part spec b) sound.each) (omega (arith, measured))),
    (λ h. omega (arith, measured, apart_none spec (index_part spec b) (data_part spec b) h)),
  )

-- ---- all that list the same

module _ {spec : Sharding} {shard : ℕ} {a b : List ℕ} (f : SoundShard spec shard a) (g : SoundShard spec shard b)
    (same : SameListing spec a b) (none : SharesNone spec b) where
  pub longer : length b ≡ length (file_form spec a) + file_unlisted spec b
  longer = omega (arith, (as_long g).1 none, ap length (demand_3_one-form f g same))

  pub shortest : length (file_form spec a) ≤ length b
  shortest = omega (arith, longer)

-- the form is one of them
pub form-shares-none : {spec : Sharding} {shard : ℕ} {a : List ℕ} → SoundShard spec shard a → Short spec a → SharesNone spec (file_form spec a)
form-shares-none sound short = (as_long (demand_3_form-sound sound short)).0 (omega (arith, ap length (demand_3_form-same sound short), form-listed sound short))
