use Rattle.cod_canonical.proofs.Canonical.{is_read_again}
use Rattle.cod_canonical.proofs.laws.canonical_is_read_again.Goals as goal

pub returns : goal.returns
returns c = is_read_again
