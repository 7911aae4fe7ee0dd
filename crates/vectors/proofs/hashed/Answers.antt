-- The specification is allowed.
use borrow.Author.Rules.{rules}
use mathlib.Core.Logic.{inl, inr}
use mathlib.Core.Path.{refl}
use native.Mathlib.Omega.{arith}
use Rattle.sharding.proofs.Allowed.{within-allowed}
use Rattle.vectors.proofs.hashed.Goals as goal

pub hashed_id-requires : goal.hashed_id-requires
hashed_id-requires c =
    within-allowed
    (record { preshift = search rules; hash = inr refl; minishard = omega arith; shard = omega arith; kind = inl refl })
