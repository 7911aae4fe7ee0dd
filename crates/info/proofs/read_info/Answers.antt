use mathlib.Core.Bool.{not}
use mathlib.Core.Path.{ap}
use Rattle.info.proofs.Ways.{info_19, answers}
use Rattle.info.proofs.read_info.Goals as goal

pub returns-then-not-is_json : goal.returns-then-not-is_json
returns-then-not-is_json c = record { answer = info_19 _ _ c.is_json.ensures (ap not c.if-not-is_json.true) }

pub returns-in-Ok : goal.returns-in-Ok
returns-in-Ok c = search answers

pub returns-in-Err-UnknownHash : goal.returns-in-Err-UnknownHash
returns-in-Err-UnknownHash c = search answers

pub returns-in-Err-Wrong : goal.returns-in-Err-Wrong
returns-in-Err-Wrong c = search answers
