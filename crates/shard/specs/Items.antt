-- What an entry of a minishard index lists: an item (RULES F15).
use Rattle.std.specs.Prelude.{◌≡◌, ℕ, ◌-◌, ◌≤◌, Bool, true, false, List, take, drop}
use Rattle.refusal.specs.Choice.{pick}
use Rattle.sharding.specs.declared.Sharding.{Sharding}
use Rattle.sharding.specs.Specification.{is_mesh}
use Rattle.mesh_manifest.specs.sound.Soundness.{Sound}
use Rattle.mesh_manifest.specs.nodes.Nodes.{fragments_length_of}
use Rattle.shard.specs.index.Index.{id_steps, start_steps, sizes, id_at, start_at, chunk_at}

-- its id, the bytes that are kept unlisted right before its chunk, and its chunk's bytes
pub record Item : Type 0 where
  pub id : ℕ
  pub lead : List ℕ
  pub body : List ℕ

-- how many bytes right before a chunk go with it: none in a volume; in a mesh a manifest's fragments, "the bytes before it, as many as the sum of
-- its sizes" (RULES M9)
unfoldable pub lead_length_of : Sharding → List ℕ → ℕ
lead_length_of spec body = pick (is_mesh spec) (fragments_length_of body) 0

-- the item of this id whose chunk stands in d, `size` bytes from `start` on
unfoldable pub item_of : Sharding → List ℕ → ℕ → ℕ → ℕ → Item
item_of spec d id start size =
    let body = take size (drop start d) in
    let k = lead_length_of spec body in
    record { id = id; lead = take k (drop (start - k) d); body = body }

-- entry i of the minishard index of n entries at s (RULES F15)
unfoldable pub item_at : Sharding → List ℕ → ℕ → ℕ → ℕ → Item
item_at spec d s n i = item_of spec d (id_at (id_steps d s) i) (start_at (start_steps d s n) (sizes d s n) i) (sizes d s n i)

-- ---- leads, as those who read or write them take them

-- the lengths of the leads, beside the rows of that minishard index
abbrev pub leads : Sharding → List ℕ → ℕ → ℕ → ℕ → ℕ
leads spec d s n i = lead_length_of spec (chunk_at d s n i)

-- the lead of the chunk of `size` bytes at `start` can be told, in a mesh by a sound manifest, and lies within d
pub record Led (spec : Sharding) (d : List ℕ) (start size : ℕ) : Type 0 where
  pub told : is_mesh spec ≡ true → Sound (take size (drop start d))
  pub before : lead_length_of spec (take size (drop start d)) ≤ start

-- no chunk has a lead
abbrev pub NoLeads : Sharding → Type 0
NoLeads spec = (body : List ℕ) → lead_length_of spec body ≡ 0

-- b tells whether any chunk may have one: those of a mesh may; where b is false none has
pub record MayLead (spec : Sharding) (b : Bool) : Type 0 where
  pub mesh : b ≡ is_mesh spec
  pub none : b ≡ false → NoLeads spec
