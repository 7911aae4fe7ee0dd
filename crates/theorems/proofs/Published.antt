-- Demand 2's first sentence holds: keys from Keyed, places and names from Named, manifests from Laid and Relaid, pairs from split_shard's laws.
use mathlib.Core.Path.{refl, ap, ◌∙◌}
use mathlib.Core.List.{◌++◌}
use Rattle.sharding.specs.placement.Place.{place_result}
use Rattle.mesh_manifest.specs.Fields.{header_result}
use Rattle.mesh_manifest.specs.nodes.Nodes.{node_result}
use Rattle.lookup.specs.Find.{part_bytes}
use Rattle.lookup.specs.declared.id_search.LookupAnswer.{LookupAnswer}
use Rattle.split_shard.proofs.Laws.{lookup_as_joined, fragment_as_joined}
use Rattle.split_shard.proofs.Parts.{lookup-bytes}
use Rattle.split_shard.proofs.Fragments.{node-bytes}
use Rattle.theorems.specs.Published.{Published}
use Rattle.theorems.proofs.Keyed.{key-bits}
use Rattle.theorems.proofs.Told.{key-told, corners-told}
use Rattle.theorems.proofs.Named.{place_is, file-name-is, chunk-name-is}
use Rattle.theorems.proofs.Laid.{header_is, field_is, node-is, corners_are}
use Rattle.theorems.proofs.Relaid.{verdict, relaid}

pub published : Published
published = record {
  key = λ v c k e. key-bits v c k (key-told _ e);
  place = λ spec shifted low minishard shard rest a hl hm hs e. ap place_result (place_is spec shifted low minishard shard rest a hl hm hs e);
  file_name = file-name-is;
  chunk_name = chunk-name-is;
  manifest = relaid;
  header = λ m l. ap header_result (header_is m l.fits (verdict _ l.sound));
  field = λ m l. field_is m l.fits (verdict _ l.sound);
  node = λ m l level i start f t. ap node_result (node-is m l.fits level i start f t (verdict _ l.sound));
  corners = λ m l level i start f t c e. corners_are m l.fits level i start f t c (corners-told _ e);
  pair_part = λ spec shard index d id e. lookup-bytes spec shard index d id refl refl ∙ ap (λ (a : LookupAnswer). part_bytes a (index ++ d)) (lookup_as_joined spec shard index d id e);
  pair_fragment_part = λ spec shard index d id level node e.
      node-bytes spec shard index d id level node refl refl ∙ ap (λ (a : LookupAnswer). part_bytes a (index ++ d)) (fragment_as_joined spec shard index d id level node e);
}
