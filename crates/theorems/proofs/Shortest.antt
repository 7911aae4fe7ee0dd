-- Order 12's promises, from the crates' laws.
use native.Mathlib.Omega.{arith}
use Rattle.settled_form.proofs.Demand3.{demand_3_form-sound, demand_3_form-lists}
use Rattle.settled_form.proofs.shortest.Shortest.{form-and-unlisted, as_long, longer, shortest, form-shares-none}
use Rattle.settled_form.proofs.shortest.Worked.{twins-sound, nested-sound, twins_shorter, nested_shorter}
use Rattle.theorems.specs.Shortest.{Order12}

pub order_12 : Order12
order_12 = record {
  shortest = λ spec shard a b f g s h. shortest f g s h;
  longer = λ spec shard a b f g s h. longer f g s h;
  among = λ spec shard a f l. (demand_3_form-sound f l, demand_3_form-lists f l, form-shares-none f l);
  most = λ spec shard b g. form-and-unlisted g;
  exact = λ spec shard b g. as_long g;
  chunks = (twins-sound, omega (arith, twins_shorter.0, twins_shorter.1));
  fragments = (nested-sound, omega (arith, nested_shorter.0, nested_shorter.1));
}
