-- Byte by byte.
-- Assumes nothing.
use Rattle.octets.specs.Little.{bytes}
use Rattle.octets.proofs.little.ByteLaws.{le_bytes_four}
use Rattle.why.proofs.asking.head.Goals as goal

pub returns : goal.returns
unfolding bytes
returns c = rw (c.to_le_bytes.ensures, le_bytes_four c.args.value)
