use Rattle.std.proofs.Common.{refl}
use Rattle.lookup_table.proofs.Listed.{writing_fits, writing_turn, writing}
use Rattle.lookup_table.proofs.filling.write_listed.Goals as goal

pub loop-i-init : goal.loop-i-init
loop-i-init c = search writing

pub overflow_add-e : goal.overflow_add-e
overflow_add-e c =
    writing_fits c.loop-i.invariant c.loop-i-test.true c.id_step-cur.ensures.0 refl c.start_step.ensures.0 refl c.requires.passed

pub loop-i-preserved : goal.loop-i-preserved
loop-i-preserved c =
    writing_turn c.loop-i.invariant c.loop-i-test.true c.id_step-cur.ensures.0 refl c.start_step.ensures.0 refl c.size_of-size.ensures.0 c.put.ensures.after c.put.ensures.only refl

pub returns-clause-n_after : goal.returns-clause-n_after
returns-clause-n_after c = search writing
