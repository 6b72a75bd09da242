use Rattle.cod_code.proofs.CodewordLaws as lemmas
use Rattle.cod_code.proofs.laws.place_is_sum.Goals as goal

pub returns : goal.returns
returns c = lemmas.place_is_sum
