use Rattle.std.proofs.Common.{length}
use Rattle.unlisted.specs.ranges.Covered.{in_items}
use Rattle.unlisted.specs.rising_walk.Order.{Extends}
use Rattle.unlisted.proofs.chunks.Steps.{Left}
use Rattle.unlisted.proofs.rising_walk.over_each.Given as goal

abbrev pub invariant-loop-chunk : goal.invariant-loop-chunk
invariant-loop-chunk l = Left l.data l.s l.n l.k (length l.yielded) l.chunk-iterator × Extends (in_items l.spec l.data l.s l.n (length l.yielded)) l.initial.at l.at
