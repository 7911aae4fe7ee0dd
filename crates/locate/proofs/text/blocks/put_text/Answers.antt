-- `locate::text::blocks::put_text` meets its contract.
use Rattle.locate.proofs.text.Printing.{whole_length_lem, cutting}
use Rattle.locate.proofs.text.blocks.put_text.Goals as goal

pub returns-then-cells-eq0 : goal.returns-then-cells-eq0
returns-then-cells-eq0 c =
    let lines = c.put_lines-m.ensures.value.0 in
    record { value = (whole_length_lem _ _ _ lines c.if-cells-eq0.true, search cutting); out_after = search cutting }

pub returns : goal.returns
returns c = search cutting
