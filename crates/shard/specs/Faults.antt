-- The tests 7 to 11 of a minishard, for a mesh also 15 to 17 and 21 (RULES F7 to F12): each runs over all entries before the next.
use Rattle.std.specs.Prelude.{ℕ, zero, suc, ◌+◌, ◌-◌, ◌%◌, Bool, not, ◌&&◌, ◌||◌, List, [], ◌∷◌, length, ◌==◌, nat_lt}
use Rattle.refusal.specs.Choice.{pick}
use Rattle.duplicate_ids.specs.Twice.{repeats}
use Rattle.sharding.specs.declared.Sharding.{Sharding}
use Rattle.sharding.specs.Specification.{is_mesh, minishard_count_of}
use Rattle.sharding.specs.placement.Place.{shard_of, minishard_of}
use Rattle.shard.specs.declared.index.Fault.{Fault}
use Rattle.shard.specs.declared.ShardFault.{ShardFault}
use Rattle.shard.specs.index.Tests.{fault, entry_place, EntryTest, entry_test, first_of}
use Rattle.shard.specs.index.Index.{entry_start_of, entry_end_of, entry_count, id_steps, start_steps, sizes, id_at, end_at}
use Rattle.shard.specs.manifests.Mesh.{manifest_tests}

-- ---- the tests

-- test 7 of an entry of the shard index: start after end, or start before end and its end past the file (RULES F7)
unfoldable pub bad_entry : List ℕ → ℕ → ℕ → Bool
bad_entry d s e = nat_lt e s || (nat_lt s e && nat_lt (length d) e)

-- test 8: the length of the minishard index is no multiple of 24 (RULES F8)
unfoldable pub bad_length : ℕ → ℕ → Bool
bad_length s e = not ((e - s) % 24 == 0)

-- test 9 of an entry: an earlier one has its id (RULES F9)
abbrev pub bad_id : (ℕ → ℕ) → ℕ → Bool
bad_id steps = repeats (id_at steps)

-- test 10 of an id: it belongs to another shard or minishard (RULES F10)
unfoldable pub foreign : Sharding → ℕ → ℕ → ℕ → Bool
foreign spec shard m id = not (shard_of spec id == shard) || not (minishard_of spec id == m)

unfoldable pub foreign_at : Sharding → ℕ → ℕ → (ℕ → ℕ) → ℕ → Bool
foreign_at spec shard m steps i = foreign spec shard m (id_at steps i)

-- test 11 of entry i: its chunk ends, counted exactly, past the file, which has n bytes behind the shard index (RULES F11)
unfoldable pub ends_past : ℕ → (ℕ → ℕ) → (ℕ → ℕ) → ℕ → Bool
ends_past n starts size i = nat_lt n (end_at starts size i)

-- ---- the tests over entries, as a list

-- those of the minishard index of n entries at s
abbrev pub id_test : List ℕ → ℕ → EntryTest
id_test d s = entry_test 9 0 (bad_id (id_steps d s))

abbrev pub place_test : Sharding → ℕ → ℕ → List ℕ → ℕ → EntryTest
place_test spec shard m d s = entry_test 10 0 (foreign_at spec shard m (id_steps d s))

abbrev pub end_test : List ℕ → ℕ → ℕ → EntryTest
end_test d s n = entry_test 11 1 (ends_past (length d) (start_steps d s n) (sizes d s n))

-- in a mesh the chunks are manifests: "15 to 17 of a listed manifest follow 11 within a minishard, then 21" (RULES M10)
abbrev pub mesh_tests : Sharding → List ℕ → ℕ → ℕ → List EntryTest
mesh_tests spec d s n = pick (is_mesh spec) (manifest_tests d s n) []

-- in the order in which they run (RULES F12)
unfoldable pub entry_tests : Sharding → ℕ → ℕ → List ℕ → ℕ → ℕ → List EntryTest
entry_tests spec shard m d s n = id_test d s ∷ place_test spec shard m d s ∷ end_test d s n ∷ mesh_tests spec d s n

-- ---- a minishard

-- the fault of minishard m, whose minishard index stands in d from s to e, behind a shard index of `base` bytes (RULES F12)
unfoldable pub fault_at : Sharding → ℕ → ℕ → ℕ → List ℕ → ℕ → ℕ → Fault
fault_at spec shard m base d s e =
    let n = entry_count s e in
    pick (bad_entry d s e) (fault 7 (entry_place m))
    (pick (bad_length s e) (fault 8 (entry_place m))
    (first_of (base + s) n (entry_tests spec shard m d s n)))

unfoldable pub fault_of : Sharding → ℕ → List ℕ → List ℕ → ℕ → Fault
fault_of spec shard index d m = fault_at spec shard m (length index) d (entry_start_of index m) (entry_end_of index m)

-- ---- minishards in number order, the first with a fault

abbrev pub no_fault : ShardFault
no_fault = record { number = 0; minishard = 0; position = 0 }

-- the fault of minishard m, or, where it has none, what comes later
unfoldable pub or_later : ℕ → Fault → ShardFault → ShardFault
or_later m f later = pick (f.number == 0) later (record { number = f.number; minishard = m; position = f.position })

-- of k minishards from m on, with the faults f (RULES F13)
unfoldable pub first_fault : (ℕ → Fault) → ℕ → ℕ → ShardFault
first_fault f m zero = no_fault
first_fault f m (suc k) = or_later m (f m) (first_fault f (suc m) k)

-- of a whole shard
unfoldable pub shard_fault : Sharding → ℕ → List ℕ → List ℕ → ShardFault
shard_fault spec shard index d = first_fault (fault_of spec shard index d) 0 (minishard_count_of spec)
