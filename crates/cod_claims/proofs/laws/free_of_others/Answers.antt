use Rattle.cod_claims.proofs.Finding.{free_of_others}
use Rattle.cod_claims.proofs.laws.free_of_others.Goals as goal

pub returns : goal.returns
returns c = free_of_others
