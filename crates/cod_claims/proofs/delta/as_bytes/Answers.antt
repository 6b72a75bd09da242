-- Each item of a slice of bytes is a byte.
use Rattle.std.proofs.Common.{arith}
use Rattle.cod_claims.proofs.delta.as_bytes.Goals as goal

pub returns-clause-bytes : goal.returns-clause-bytes
returns-clause-bytes c i = omega (arith, c.type_inv.items i)
