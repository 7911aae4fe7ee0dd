-- Demand 3 as far as it speaks of the settled form itself. A shard passes the check exactly when it is sound.
use Prim.Native.Nat.{ℕ, ◌≤◌}
use mathlib.Core.Path.{◌≡◌, sym, ap}
use mathlib.Core.Logic.{◌↔◌}
use mathlib.Core.List.{List}
use native.Mathlib.Omega.{arith}
use lib.ListN.{length}
use Rattle.sharding.specs.declared.Sharding.{Sharding}
use Rattle.shard.specs.declared.CheckAnswer.TheVariants.{Sound}
use Rattle.shard.specs.index.Index.{most_shard_bytes}
use Rattle.shard.specs.File.{index_part, data_part, check_answer}
use Rattle.shard.specs.Sound.{SoundShard}
use Rattle.shard.specs.Lists.{SameListing}
use Rattle.shard.proofs.Whole.{sound-passes-check}
use Rattle.settled_form.specs.Form.{settled}
use Rattle.settled_form.specs.Content.{form_of, file_content, file_form, file_form_length}
use Rattle.settled_form.proofs.Measures.{length-form}
use Rattle.settled_form.proofs.ReadBack.{settled_injective}
use Rattle.settled_form.proofs.SoundContent.{readable-content}
use Rattle.settled_form.proofs.SameContent.{content-listing, listing-content}
use Rattle.settled_form.proofs.FormSound.{form-sound, form-content}

-- the settled form of a file is at most 1 GiB long
abbrev pub Short : Sharding → List ℕ → Type 0
Short spec a = length (file_form spec a) ≤ most_shard_bytes

-- The form is as long as its length, a whole number of any size, says.
pub file-form-length : (spec : Sharding) (a : List ℕ) → length (file_form spec a) ≡ file_form_length spec a
file-form-length spec a = length-form spec (index_part spec a) (data_part spec a)

short-length : (spec : Sharding) (a : List ℕ) → Short spec a → file_form_length spec a ≤ most_shard_bytes
short-length spec a l = omega (arith, file-form-length spec a)

same-form : (spec : Sharding) (a b : List ℕ) → file_content spec a ≡ file_content spec b → file_form spec a ≡ file_form spec b
unfolding form_of
same-form spec a b e = ap settled e

same-content : {spec : Sharding} {shard : ℕ} {a b : List ℕ} → SoundShard spec shard a → SoundShard spec shard b
    → Short spec a → Short spec b → file_form spec a ≡ file_form spec b → file_content spec a ≡ file_content spec b
unfolding form_of
same-content {spec} {shard} {a} {b} f g l m e = settled_injective (readable-content f (short-length spec a l)) (readable-content g (short-length spec b m)) e

-- Sound shards that list the same have one settled form, of whatever length.
pub demand_3_one-form : {spec : Sharding} {shard : ℕ} {a b : List ℕ} → SoundShard spec shard a → SoundShard spec shard b
    → SameListing spec a b → file_form spec a ≡ file_form spec b
demand_3_one-form {spec} {shard} {a} {b} f g s = same-form spec a b (listing-content f g s)

-- Two shards of one specification and one shard number that pass the check, neither settled form longer than 1 GiB:
-- the two forms are equal byte for byte exactly when both shards list the same ids with the same chunk bytes.
pub demand_3_same : {spec : Sharding} {shard : ℕ} {a b : List ℕ} → SoundShard spec shard a → SoundShard spec shard b
    → Short spec a → Short spec b → (file_form spec a ≡ file_form spec b) ↔ SameListing spec a b
demand_3_same {spec} {shard} {a} {b} f g l m = (λ e. content-listing spec a b (same-content f g l m e), demand_3_one-form f g)

-- The settled form of a sound shard, at most 1 GiB long,
module _ {spec : Sharding} {shard : ℕ} {a : List ℕ} (sound : SoundShard spec shard a) (short : Short spec a) where
  -- passes the check under its original's specification and number,
  pub demand_3_form-sound : SoundShard spec shard (file_form spec a)
  demand_3_form-sound = form-sound sound (short-length spec a short)

  pub demand_3_form-passes : check_answer spec shard (file_form spec a) ≡ Sound
  demand_3_form-passes = sound-passes-check spec shard (file_form spec a) demand_3_form-sound

  -- lists exactly what its original lists,
  pub demand_3_form-lists : SameListing spec a (file_form spec a)
  demand_3_form-lists = content-listing spec a (file_form spec a) (sym (form-content sound (short-length spec a short)))

  -- and is its own settled form.
  pub demand_3_form-same : file_form spec (file_form spec a) ≡ file_form spec a
  demand_3_form-same = same-form spec (file_form spec a) a (form-content sound (short-length spec a short))
