use Rattle.shard.proofs.Leads.{no_lead, lead-sound, lead_is}
use Rattle.shard.proofs.lengths.lead_length.Goals as goal

pub returns-then-not-is_mesh : goal.returns-then-not-is_mesh
returns-then-not-is_mesh c = search no_lead

pub fragments_length-requires : goal.fragments_length-requires
fragments_length-requires c = search lead-sound

pub returns : goal.returns
returns c = search lead_is
