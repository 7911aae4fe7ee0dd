-- `sharding::batch::places_of` meets its contract: each way out is a check's number, or none.
use native.Mathlib.Omega.{arith}
use borrow.Author.Rules.{rules}
use borrow.Author.Tests.{not-false}
use Rattle.sharding.proofs.Allowed.{told-allowed}
use Rattle.sharding.proofs.batch.Batched.{placing, places-refused, shards-kept, minishards-kept}
use Rattle.sharding.proofs.batch.places_of.Goals as goal

pub returns-then-not-is_allowed : goal.returns-then-not-is_allowed
returns-then-not-is_allowed c = record { answer = places-refused _ _ _ _ 1 (omega arith) (search placing); shards = shards-kept _ _ _ _ 1 (omega arith) (search placing); minishards = minishards-kept _ _ _ _ 1 (omega arith) (search placing) }

pub returns-then-shards-ids : goal.returns-then-shards-ids
returns-then-shards-ids c = record { answer = places-refused _ _ _ _ 13 (omega arith) (search placing); shards = shards-kept _ _ _ _ 13 (omega arith) (search placing); minishards = minishards-kept _ _ _ _ 13 (omega arith) (search placing) }

pub returns-then-minishards-ids : goal.returns-then-minishards-ids
returns-then-minishards-ids c = record { answer = places-refused _ _ _ _ 13 (omega arith) (search placing); shards = shards-kept _ _ _ _ 13 (omega arith) (search placing); minishards = minishards-kept _ _ _ _ 13 (omega arith) (search placing) }

pub fill_places-requires : goal.fill_places-requires
fill_places-requires c = record { spec_value = search (told-allowed, not-false, rules); ids_in_bounds = search rules }

pub returns : goal.returns
returns c = record { answer = search placing; shards = search placing; minishards = search placing }
