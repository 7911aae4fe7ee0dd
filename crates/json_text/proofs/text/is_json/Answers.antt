use Rattle.json_text.proofs.text.Steps.{json_none, json_ends}
use Rattle.json_text.proofs.text.is_json.Goals as goal

pub returns-then-e-eq0 : goal.returns-then-e-eq0
returns-then-e-eq0 c = search json_none

pub returns : goal.returns
returns c = search json_ends
