-- The loop keeps `Tally`, and pasting what is left into the output gives the whole listing.
use Rattle.std.proofs.Common.{◌≡◌, ◌-◌, ◌*◌, length}
use Rattle.endian.specs.Place.{paste}
use Rattle.shard.specs.index.Index.{id_steps, start_steps, sizes}
use Rattle.lookup.specs.entries.Entries.{triples_from}
use Rattle.shard.proofs.index.Tally.{Tally}
use Rattle.lookup.proofs.entries.put_entries.Given as goal

abbrev pub invariant-loop-i : goal.invariant-loop-i
invariant-loop-i l =
    Tally (id_steps l.data l.p) (start_steps l.data l.p l.n) (sizes l.data l.p l.n) l.n l.i l.id l.end
    × (length l.out ≡ length l.initial.out)
    × (paste (3 * l.i) (triples_from l.base l.data l.p l.n l.i (l.n - l.i)) l.out
    ≡ paste 0 (triples_from l.base l.data l.p l.n 0 l.n) l.initial.out)
