use Rattle.cod_parity.proofs.Pieces.{record_fits}
use Rattle.cod_parity.proofs.laws.record_fits.Goals as goal

pub returns : goal.returns
returns c = record_fits
