use Rattle.coronagamba.proofs.Sheeted.{adding}
use Rattle.coronagamba.proofs.sheets.put_sheet.Goals as goal

pub returns-in-Ok : goal.returns-in-Ok
returns-in-Ok c = record { value = search adding; sheet_after = search adding }

pub returns-in-Err : goal.returns-in-Err
returns-in-Err c = record { value = search adding; sheet_after = search adding }
