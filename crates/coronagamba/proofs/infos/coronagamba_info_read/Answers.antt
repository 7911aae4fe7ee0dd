use Rattle.coronagamba.proofs.Given.{carded}
use Rattle.coronagamba.proofs.infos.coronagamba_info_read.Goals as goal

pub returns : goal.returns
returns c = record { answer = search carded; sharding = search carded; size = search carded; chunk = search carded; offset = search carded }
