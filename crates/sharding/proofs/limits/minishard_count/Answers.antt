use native.Mathlib.Omega.{arith}
use Rattle.sharding.proofs.Allowed.{allowed-within, power_within}
use Rattle.sharding.proofs.limits.minishard_count.Goals as goal

pub returns : goal.returns
returns c = power_within (allowed-within c.requires).minishard (omega arith)
