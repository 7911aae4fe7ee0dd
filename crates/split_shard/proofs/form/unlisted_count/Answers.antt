-- The count, by what the check said.
use Rattle.split_shard.proofs.form.Settled.{settling}
use Rattle.split_shard.proofs.form.unlisted_count.Goals as goal

pub check-requires : goal.check-requires
check-requires c = search settling

pub enum_told-1 : goal.enum_told-1
enum_told-1 c = search settling

pub unlisted-requires : goal.unlisted-requires
unlisted-requires c = search settling

pub enum_known-number : goal.enum_known-number
enum_known-number c = search settling

pub enum_known-number-in-Faulty-1 : goal.enum_known-number-in-Faulty-1
enum_known-number-in-Faulty-1 c = search settling

pub returns-in-Sound : goal.returns-in-Sound
returns-in-Sound c = search settling

pub returns-in-Refused : goal.returns-in-Refused
returns-in-Refused c = search settling

pub returns-in-Faulty : goal.returns-in-Faulty
returns-in-Faulty c = search settling
