use Rattle.names.proofs.digits.Signing.{signing}
use Rattle.names.proofs.digits.put_signed.Goals as goal

pub put_byte-requires : goal.put_byte-requires
put_byte-requires c = search signing
