-- `locate::lines::line::put_filed` meets its contract.
use Rattle.locate.specs.lines.Lines.{filed}
use Rattle.names.proofs.Texts.{joining}
use Rattle.locate.proofs.lines.line.put_filed.Goals as goal

pub put_file_name-m-requires : goal.put_file_name-m-requires
unfolding filed
put_file_name-m-requires c = search joining

pub put_byte-requires : goal.put_byte-requires
unfolding filed
put_byte-requires c = search joining

pub overflow_add-m : goal.overflow_add-m
unfolding filed
overflow_add-m c = search joining

pub put_ending-requires : goal.put_ending-requires
unfolding filed
put_ending-requires c = search joining

pub returns : goal.returns
unfolding filed
returns c = search joining
