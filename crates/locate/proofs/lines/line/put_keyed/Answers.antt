-- `locate::lines::line::put_keyed` meets its contract.
use Rattle.locate.specs.lines.Lines.{keyed}
use Rattle.names.proofs.Texts.{joining}
use Rattle.locate.proofs.lines.line.put_keyed.Goals as goal

pub put_decimal-m-requires : goal.put_decimal-m-requires
unfolding keyed
put_decimal-m-requires c = search joining

pub put_byte-requires : goal.put_byte-requires
unfolding keyed
put_byte-requires c = search joining

pub overflow_add-m : goal.overflow_add-m
unfolding keyed
overflow_add-m c = search joining

pub put_filed-requires : goal.put_filed-requires
unfolding keyed
put_filed-requires c = search joining

pub returns : goal.returns
unfolding keyed
returns c = search joining
