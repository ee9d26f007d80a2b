-- put_number meets its contract: it begins with all nine groups. Assumes nothing.
use Rattle.std.proofs.Common.{refl, arith}
use Rattle.varint_encoding.specs.Encoding.{encode}
use Rattle.varint_writing.proofs.put_number.Goals as goal

pub loop-m-init : goal.loop-m-init
unfolding encode
loop-m-init c = (8, omega arith, refl, refl)
