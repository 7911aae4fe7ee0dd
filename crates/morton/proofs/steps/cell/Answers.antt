use borrow.Author.Rules.{rules}
use Rattle.morton.proofs.Turns.{read_more, read_all, x_fits, y-fits, z-fits}
use Rattle.morton.proofs.steps.cell.Goals as goal

ruleset reading = (read_all, x_fits, y-fits, z-fits, rules)

pub overflow_add-x : goal.overflow_add-x
overflow_add-x c = search reading

pub overflow_add-y : goal.overflow_add-y
overflow_add-y c = search reading

pub overflow_add-z : goal.overflow_add-z
overflow_add-z c = search reading

pub loop-i-preserved : goal.loop-i-preserved
loop-i-preserved c =
    let l = c.loop-i in
    read_more _ _ _ l.i l.k l.x l.y l.z c.turns-i-end.ensures c.loop-i-test.true l.invariant
    c.low_bit-x.ensures c.rest_key-k.ensures
    c.low_bit-y.ensures c.rest_key-k-in-loop-i.ensures
    c.low_bit-z.ensures c.rest_key-k-in-loop-i-2.ensures

pub returns : goal.returns
returns c = search reading
