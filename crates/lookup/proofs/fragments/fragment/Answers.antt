-- The fragment, by what the lookup gave: refused as it refuses; found, 18 of a volume, else by the manifest.
use mathlib.Core.Bool.{not}
use mathlib.Core.Path.{ap}
use Rattle.lookup.proofs.Handed.{chunk_inside, chunk-short}
use Rattle.lookup.proofs.fragments.Answers.{answer-refused, answer-faulty, answer-volume, answer-mesh}
use Rattle.lookup.proofs.fragments.Handed.{manifest-sound, manifest-behind}
use Rattle.lookup.proofs.fragments.fragment.Goals as goal

-- a chunk is found, in a volume: 18
pub returns-then-not-is_mesh : goal.returns-then-not-is_mesh
returns-then-not-is_mesh c =
    let at-kind = c in
    let at-found = at-kind in
    record { answer = answer-volume _ _ _ _ _ _ at-found.lookup-found.ensures.answer at-found.in-Found.is at-kind.is_mesh.ensures (ap not c.if-not-is_mesh.true) }

pub part_of-requires : goal.part_of-requires
part_of-requires c = (search chunk_inside, search chunk-short)

pub fragment_in-requires : goal.fragment_in-requires
fragment_in-requires c = (search manifest-sound, search manifest-behind)

-- a manifest is found, in a mesh
pub returns-else-not-is_mesh : goal.returns-else-not-is_mesh
returns-else-not-is_mesh c =
    let at_part = c in
    let at_test = at_part in
    let at-kind = at_test in
    let at-found = at-kind in
    record {
      answer = answer-mesh _ _ _ _ _ _ at-found.lookup-found.ensures.answer at-found.in-Found.is at-kind.is_mesh.ensures (ap not at_test.if-not-is_mesh.false)
          at_part.part_of.ensures.result_value c.fragment_in.ensures;
    }

-- the lookup refuses
pub returns-in-Refused : goal.returns-in-Refused
returns-in-Refused c =
    let at-refused = c in
    record { answer = answer-refused _ _ _ _ _ _ at-refused.lookup-found.ensures.answer at-refused.in-Refused.is }

pub returns-in-Faulty : goal.returns-in-Faulty
returns-in-Faulty c = search answer-faulty
