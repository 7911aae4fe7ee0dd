-- Of each manifest that a sound minishard of a mesh lists, each node's fragment is handed out: its bytes among those right before the manifest.
use Rattle.std.proofs.Common.{◌≡◌, ℕ, zero, suc, ◌+◌, ◌-◌, ◌≤◌, true, List, [], ◌∷◌, length, take, drop, sym, refl, ap, ◌∙◌, arith, length-drop, length-take-le, take-take, drop-drop}
use Rattle.sharding.specs.declared.Sharding.{Sharding}
use Rattle.sharding.specs.Specification.{is_mesh}
use Rattle.sharding.specs.placement.Place.{minishard_of}
use Rattle.mesh_manifest.specs.fragment_sums.Sums.{fragment_size}
use Rattle.mesh_manifest.specs.nodes.Nodes.{has_node, fragment_start, fragments_length_of}
use Rattle.mesh_manifest.specs.nodes.Run.{fragment_of, all_fragments}
use Rattle.mesh_manifest.proofs.nodes.Fragments.{fragment-within, tiles}
use Rattle.shard.specs.index.Index.{entry_start_of, entry_end_of, entry_count, start_steps, sizes, start_at, chunk_at}
use Rattle.shard.specs.File.{index_length_of, index_part, data_part}
use Rattle.shard.specs.Items.{Item, item_of, item_at}
use Rattle.shard.specs.Lists.{ListsItem}
use Rattle.shard.specs.Sound.{SoundMinishard}
use Rattle.shard.proofs.Chunks.{item-at}
use Rattle.shard.proofs.Leads.{mesh-leads}
use Rattle.lookup.specs.declared.id_search.LookupAnswer.TheVariants.{Found}
use Rattle.lookup.specs.Lookups.{Asked, chunk_start, HandsOut}
use Rattle.lookup.proofs.Retrieval.{listed-chunk-is_handed_out}
use Rattle.lookup.specs.fragments.Fragment.{fragment_before, fragment_answer}
use Rattle.lookup.specs.fragments.Fragments.{HandsOutFragment}
use Rattle.lookup.proofs.fragments.Answers.{after-lookup}
use Rattle.lookup.proofs.fragments.Handed.{in_picks, fragment-behind, fragment-inside}

-- a part of a front
take_part : (n m k : ℕ) (l : List ℕ) → m + n ≤ k → take n (drop m (take k l)) ≡ take n (drop m l)
take_part n zero k l h = take-take n k l (omega arith)
take_part n (suc m) zero l h = absurd (omega arith)
take_part n (suc m) (suc k) [] h = refl
take_part n (suc m) (suc k) (x ∷ xs) h = take_part n m k xs (omega arith)

-- the lead of an item of a mesh: the bytes before its chunk, as many as the fragments have
lead_is : {spec : Sharding} {x d : List ℕ} {m : ℕ} {item : Item} (t : ListsItem spec x d m item) → is_mesh spec ≡ true → {at : ℕ}
    → at ≡ start_at (start_steps d (entry_start_of x m) (entry_count (entry_start_of x m) (entry_end_of x m))) (sizes d (entry_start_of x m) (entry_count (entry_start_of x m) (entry_end_of x m))) t.entry
    → take (fragments_length_of item.body) (drop (at - fragments_length_of item.body) d) ≡ item.lead
unfolding item_at item_of
lead_is {spec} {x} {d} {m} {item} t h e =
    let b = ap (λ (i : Item). i.body) t.listed in
    rw (e, ← b, ← mesh-leads spec h (chunk_at d (entry_start_of x m) (entry_count (entry_start_of x m) (entry_end_of x m)) t.entry)) (ap (λ (i : Item). i.lead) t.listed)

-- in a sound minishard it has all of them
pub lead-length : {spec : Sharding} {shard m : ℕ} {x d : List ℕ} {item : Item} → is_mesh spec ≡ true → SoundMinishard spec shard x d m → ListsItem spec x d m item
    → length item.lead ≡ fragments_length_of item.body
lead-length {m = m} {x} {d} {item} mesh sound t =
    let k = fragments_length_of item.body in
    let at = chunk_start x d m t.entry in
    let room : k ≤ at = rw (item-at t).holding at (sound.fragments mesh t.entry t.among) in
    ap length (sym (lead_is t mesh refl)) ∙ length-take-le k (drop (at - k) d) (omega (arith, room, sound.inside t.entry t.among, length-drop (at - k) d))

-- one after the other, the fragments of all nodes are that lead
pub fragments_are_the_lead : {spec : Sharding} {shard m : ℕ} {x d : List ℕ} {item : Item} → is_mesh spec ≡ true → SoundMinishard spec shard x d m → ListsItem spec x d m item
    → all_fragments item.body item.lead ≡ item.lead
fragments_are_the_lead {item = item} mesh sound t = tiles item.body item.lead (lead-length mesh sound t)

module _ (spec : Sharding) (shard : ℕ) (file : List ℕ) (item : Item) (level node : ℕ) (asked : Asked spec shard file item.id) (mesh : is_mesh spec ≡ true)
    (sound : SoundMinishard spec shard (index_part spec file) (data_part spec file) (minishard_of spec item.id))
    (t : ListsItem spec (index_part spec file) (data_part spec file) (minishard_of spec item.id) item) (has : has_node item.body level node ≡ true) where
  -- the manifest, as a lookup hands it out
  manifest : HandsOut spec shard file item.id t.entry item.body
  manifest = listed-chunk-is_handed_out spec shard file item.id asked sound (item-at t)

  abbrev from : ℕ
  from = manifest.start - fragments_length_of item.body + fragment_start item.body level node

  abbrev size : ℕ
  size = fragment_size item.body level node

  answer-is : fragment_answer spec shard file item.id level node ≡ Found from size
  unfolding fragment_before
  answer-is =
      after-lookup spec shard file item.id level node ∙ rw (manifest.found, mesh, manifest.taken, in_picks item.body manifest.start level node, has)

  -- where the manifest stands in the data, at least as far as the fragments are long
  abbrev at : ℕ
  at = chunk_start (index_part spec file) (data_part spec file) (minishard_of spec item.id) t.entry

  room : fragments_length_of item.body ≤ at
  room = rw (item-at t).holding at (sound.fragments mesh t.entry t.among)

  bytes_are : take size (drop from file) ≡ fragment_of item.body item.lead level node
  unfolding fragment_of
  bytes_are =
      let k = fragments_length_of item.body in
      let f = fragment_start item.body level node in
      let place : from ≡ index_length_of spec + (at - k + f) = omega (arith, manifest.placed, room) in
      rw (place, ← drop-drop (at - k + f) (index_length_of spec) file, ← drop-drop f (at - k) (data_part spec file))
      (sym (take_part size f k (drop (at - k) (data_part spec file)) (fragment-within item.body level node has))
      ∙ ap (λ (l : List ℕ). take size (drop f l)) (lead_is t mesh refl))

  -- the fragment is the node's in the run of all, which stands right before the manifest
  pub listed-fragment-is_handed_out : HandsOutFragment spec shard file item.id level node (fragment_of item.body item.lead level node)
  listed-fragment-is_handed_out =
      let w = fragment-inside spec shard file item.id level node from size answer-is in
      record {
        start = from;
        count = size;
        found = answer-is;
        behind = fragment-behind spec shard file item.id level node from size answer-is;
        within = w;
        manifest = manifest.start;
        size = manifest.count;
        before = manifest.found;
        placed = rw manifest.taken (omega (arith, manifest.placed, room));
        counted = sym (length-take-le size (drop from file) (omega (arith, w, length-drop from file))) ∙ ap length bytes_are;
        taken = bytes_are;
        part = rw answer-is bytes_are;
      }
