use Rattle.cod_canonical.proofs.Written.{is_written_again}
use Rattle.cod_canonical.proofs.laws.canonical_is_written_again.Goals as goal

pub returns : goal.returns
returns c = is_written_again
