use Rattle.coronagamba.proofs.Given.{added}
use Rattle.coronagamba.proofs.sheets.coronagamba_pair_sheet_add.Goals as goal

pub returns : goal.returns
returns c = record { answer = search added; sheet = search added }
