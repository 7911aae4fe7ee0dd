-- How long leads are, and that they lie within the data. Nothing else needs more of `lead_length_of` than that it goes by specification and chunk.
use Rattle.std.proofs.Common.{◌≡◌, ℕ, ◌+◌, ◌-◌, ◌<◌, ◌≤◌, Bool, true, false, not, List, take, drop, sym, refl, ap, ◌∙◌, arith}
use Rattle.refusal.proofs.Tests.{told-no, told-yes}
use Rattle.sharding.specs.declared.Sharding.{Sharding}
use Rattle.sharding.specs.Specification.{is_mesh}
use Rattle.mesh_manifest.specs.sound.Verdict.{manifest_verdict}
use Rattle.mesh_manifest.specs.sound.Soundness.{Sound}
use Rattle.mesh_manifest.proofs.sound.Sounds.{sound-only}
use Rattle.mesh_manifest.specs.nodes.Nodes.{fragments_length_of}
use Rattle.shard.specs.index.Index.{entry_count, start_steps, sizes, start_at}
use Rattle.shard.specs.Items.{lead_length_of, Led, NoLeads, MayLead}
use Rattle.shard.specs.Sound.{SoundFrom}

-- those of a volume are empty, those of a mesh the fragments
pub volume-leads : (spec : Sharding) → is_mesh spec ≡ false → NoLeads spec
unfolding lead_length_of
volume-leads spec v body = rw v

pub mesh-leads : (spec : Sharding) → is_mesh spec ≡ true → (body : List ℕ) → lead_length_of spec body ≡ fragments_length_of body
unfolding lead_length_of
mesh-leads spec k body = rw k

-- as the code tells them apart
module _ (spec : Sharding) {b : Bool} (e : b ≡ is_mesh spec) where
  pub kind-told : MayLead spec b
  kind-told = record { mesh = e; none = λ v. volume-leads spec (sym e ∙ v) }

  pub no_lead : not b ≡ true → (body : List ℕ) → 0 ≡ lead_length_of spec body
  no_lead v body = sym (volume-leads spec (told-no e v) body)

  -- the chunk of `size` bytes at `start` as the part of the data from its start up to its end
  module _ (v : not b ≡ false) (d : List ℕ) (start size : ℕ) where
    part : take (start + size - start) (drop start d) ≡ take size (drop start d)
    part = let k : start + size - start ≡ size = omega arith in ap (λ (n : ℕ). take n (drop start d)) k

    pub lead-sound : Led spec d start size → manifest_verdict (take (start + size - start) (drop start d)) ≡ 0
    lead-sound l = rw part (sound-only (take size (drop start d)) (l.told (told-yes e v)))

    pub lead_is : {r : ℕ} → r ≡ fragments_length_of (take (start + size - start) (drop start d)) → r ≡ lead_length_of spec (take size (drop start d))
    lead_is q = q ∙ ap fragments_length_of part ∙ sym (mesh-leads spec (told-yes e v) (take size (drop start d)))

-- ---- within the data

module _ {spec : Sharding} {d : List ℕ} {start size : ℕ} where
  -- from what is said of the fragments of a mesh, and back
  pub led : (is_mesh spec ≡ true → Sound (take size (drop start d))) → (is_mesh spec ≡ true → fragments_length_of (take size (drop start d)) ≤ start) → Led spec d start size
  led h g = record { told = h; before = go (is_mesh spec) refl }
    where
      go : (b : Bool) → is_mesh spec ≡ b → lead_length_of spec (take size (drop start d)) ≤ start
      go true k = rw (mesh-leads spec k (take size (drop start d))) (g k)
      go false v = omega (arith, volume-leads spec v (take size (drop start d)))

  pub led-fragments : Led spec d start size → is_mesh spec ≡ true → fragments_length_of (take size (drop start d)) ≤ start
  led-fragments l k = rw (mesh-leads spec k (take size (drop start d))) at l.before

-- in a sound minishard each does
pub sound-led : {spec : Sharding} {shard m : ℕ} {d : List ℕ} {s e : ℕ} → SoundFrom spec shard m d s e
    → (i : ℕ) → i < entry_count s e → Led spec d (start_at (start_steps d s (entry_count s e)) (sizes d s (entry_count s e)) i) (sizes d s (entry_count s e) i)
sound-led g i l = led (λ k. g.manifests k i l) (λ k. g.fragments k i l)
