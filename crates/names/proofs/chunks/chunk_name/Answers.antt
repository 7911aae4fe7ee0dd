use Rattle.std.proofs.Common.{◌∙◌}
use Rattle.refusal.proofs.Passed.{handed}
use Rattle.names.proofs.chunks.Chunked.{no_name, no-name-left, cell-name, cell-name-left}
use Rattle.names.proofs.chunks.chunk_name.Goals as goal

pub returns-in_err-bounds : goal.returns-in_err-bounds
returns-in_err-bounds c =
    let refused = c.in_err-bounds.ensures.answer in
    record { answer = handed c.from_residual.ensures ∙ no_name _ _ _ _ refused; out = no-name-left _ _ _ _ refused }

pub returns : goal.returns
returns c =
    let within = c.in_ok-bounds.ensures.answer in
    record { answer = cell-name _ _ _ _ within _ c.bounds_name.ensures.value; out = cell-name-left _ _ _ _ within _ c.bounds_name.ensures.out_after }
