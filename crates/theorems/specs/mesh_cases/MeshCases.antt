-- Worked cases of mesh shards (RULES W2), in one table.
use Rattle.std.specs.Prelude.{ℕ, ◌-◌, ◌^◌, true, List, [], ◌∷◌, ◌++◌}
use Rattle.endian.specs.Little.{row, row32}
use Rattle.sharding.specs.declared.Sharding.{Sharding}
use Rattle.sharding.specs.Specification.{volume, mesh}
use Rattle.shard.specs.declared.CheckAnswer.{CheckAnswer}
use Rattle.shard.specs.declared.CheckAnswer.TheVariants.{Sound, Faulty}
use Rattle.shard.specs.Items.{Item}
use Rattle.shard.specs.File.{check_answer}
use Rattle.lookup.specs.declared.id_search.LookupAnswer.{LookupAnswer}
use Rattle.lookup.specs.declared.id_search.LookupAnswer.TheVariants.{Found, Refused as NotFound, Faulty as FaultyIn}
use Rattle.lookup.specs.Find.{lookup_answer}
use Rattle.lookup.specs.fragments.Fragment.{fragment_answer}
use Rattle.settled_form.specs.Content.{file_content, file_form}
use Rattle.settled_form.specs.shortest.Worked.{one_bit}
use Rattle.refusal.specs.declared.CountAnswer.{CountAnswer}
use Rattle.refusal.specs.declared.CountAnswer.TheVariants.{Count}
use Rattle.settle.specs.answers.Answers.{length_answer}

-- ---- what a case asks and what it expects

-- of a specification and a file: what it lists, minishard by minishard; its settled form; as that shard number: the verdict, the length of its settled
-- form, what is unlisted dropped, the lookup of an id, and the fragment of a level's node in the manifest of an id
pub data MeshCase : Type 0 where
  listing : Sharding → List ℕ → List (List Item) → MeshCase
  settled : Sharding → List ℕ → List ℕ → MeshCase
  check : Sharding → ℕ → List ℕ → CheckAnswer → MeshCase
  long : Sharding → ℕ → List ℕ → CountAnswer → MeshCase
  find : Sharding → ℕ → List ℕ → ℕ → LookupAnswer → MeshCase
  fragment : Sharding → ℕ → List ℕ → ℕ → ℕ → ℕ → LookupAnswer → MeshCase

-- the case with the answer that the contracts' definitions give
unfoldable pub mesh_answered : MeshCase → MeshCase
mesh_answered (listing spec file l) = listing spec file (file_content spec file)
mesh_answered (settled spec file s) = settled spec file (file_form spec file)
mesh_answered (check spec shard file a) = check spec shard file (check_answer spec shard file)
mesh_answered (long spec shard file a) = long spec shard file (length_answer spec shard file true)
mesh_answered (find spec shard file id a) = find spec shard file id (lookup_answer spec shard file id)
mesh_answered (fragment spec shard file id level node a) = fragment spec shard file id level node (fragment_answer spec shard file id level node)

-- ---- the inputs

-- shape 8,8,8, origin 0,0,0 and one level, with scale 1, vertex offset 0,0,0 and these nodes
unfoldable pub one_level : List ℕ → List ℕ
one_level nodes =
    row32 (0x41000000 ∷ 0x41000000 ∷ 0x41000000 ∷ 0 ∷ 0 ∷ 0 ∷ 1 ∷ 0x3F800000 ∷ 0 ∷ 0 ∷ 0 ∷ nodes)

-- one node, at 0,0,0, whose fragment has 2 bytes: 64 bytes
unfoldable pub one_node : List ℕ
one_node = one_level (1 ∷ 0 ∷ 0 ∷ 0 ∷ 2 ∷ [])

-- two nodes, at 0,0,0 and 1,0,0, whose fragments have 1 byte and 2: 80 bytes
unfoldable pub two_nodes : List ℕ
two_nodes = one_level (2 ∷ 0 ∷ 1 ∷ 0 ∷ 0 ∷ 0 ∷ 0 ∷ 1 ∷ 2 ∷ [])

-- ids 4 and 10, both in minishard 0, with fragments `ab` and `cde`
unfoldable pub mesh_content : List (List Item)
mesh_content = (record { id = 4; lead = 97 ∷ 98 ∷ []; body = one_node } ∷ record { id = 10; lead = 99 ∷ 100 ∷ 101 ∷ []; body = two_nodes } ∷ []) ∷ [] ∷ []

-- the settled shard: entries 149,197 and 0,0; each manifest behind its fragments; rows 4,6 and 2,3 and 64,80
unfoldable pub settled_mesh : List ℕ
settled_mesh =
    row (149 ∷ 197 ∷ 0 ∷ 0 ∷ [])
    ++ (97 ∷ 98 ∷ [] ++ (one_node ++ (99 ∷ 100 ∷ 101 ∷ [] ++ (two_nodes ++ row (4 ∷ 6 ∷ 2 ∷ 3 ∷ 64 ∷ 80 ∷ [])))))

-- another layout of the same: id 10 first, so that the step to id 4 wraps, and a byte between the two
unfoldable pub other_mesh : List ℕ
other_mesh =
    row (150 ∷ 198 ∷ 0 ∷ 0 ∷ [])
    ++ (99 ∷ 100 ∷ 101 ∷ [] ++ (two_nodes ++ (255 ∷ 97 ∷ 98 ∷ [] ++ (one_node ++ row (10 ∷ (2 ^ 64 - 6) ∷ 3 ∷ 3 ∷ 80 ∷ 64 ∷ [])))))

-- id 5, in minishard 1, has one byte before its manifest, which says two
unfoldable pub short_mesh : List ℕ
short_mesh = row (0 ∷ 0 ∷ 65 ∷ 89 ∷ []) ++ (98 ∷ one_node ++ row (5 ∷ 1 ∷ 64 ∷ []))

-- ---- the table

-- RULES W2
unfoldable pub mesh_table : List MeshCase
mesh_table =
    listing (one_bit mesh) other_mesh mesh_content
    ∷ listing (one_bit mesh) settled_mesh mesh_content
    ∷ settled (one_bit mesh) other_mesh settled_mesh
    ∷ settled (one_bit mesh) settled_mesh settled_mesh
    ∷ check (one_bit mesh) 0 other_mesh Sound
    ∷ check (one_bit mesh) 0 settled_mesh Sound
    ∷ long (one_bit mesh) 0 other_mesh (Count 229)
    -- a lookup finds the manifest
    ∷ find (one_bit mesh) 0 other_mesh 10 (Found 35 80)
    ∷ find (one_bit mesh) 0 other_mesh 4 (Found 118 64)
    ∷ find (one_bit mesh) 0 settled_mesh 10 (Found 101 80)
    -- `c` and `de` of id 10, `ab` of id 4
    ∷ fragment (one_bit mesh) 0 other_mesh 10 0 0 (Found 32 1)
    ∷ fragment (one_bit mesh) 0 other_mesh 10 0 1 (Found 33 2)
    ∷ fragment (one_bit mesh) 0 other_mesh 4 0 0 (Found 116 2)
    ∷ fragment (one_bit mesh) 0 settled_mesh 10 0 1 (Found 99 2)
    -- no such node, no such level, a volume: 18, but 12 for an id that is not listed
    ∷ fragment (one_bit mesh) 0 other_mesh 10 0 2 (NotFound 18)
    ∷ fragment (one_bit mesh) 0 other_mesh 10 1 0 (NotFound 18)
    ∷ fragment (one_bit volume) 0 other_mesh 10 0 0 (NotFound 18)
    ∷ fragment (one_bit mesh) 0 other_mesh 6 0 0 (NotFound 12)
    ∷ fragment (one_bit volume) 0 other_mesh 6 0 0 (NotFound 12)
    -- fragments that would start before the index end: 21 with the start step, of the shard and of the minishard that is chosen
    ∷ check (one_bit mesh) 0 short_mesh (Faulty 21 1 105)
    ∷ check (one_bit volume) 0 short_mesh Sound
    ∷ find (one_bit mesh) 0 short_mesh 5 (FaultyIn 21 105)
    ∷ fragment (one_bit mesh) 0 short_mesh 5 0 0 (FaultyIn 21 105)
    ∷ find (one_bit mesh) 0 short_mesh 4 (NotFound 12)
    ∷ []
