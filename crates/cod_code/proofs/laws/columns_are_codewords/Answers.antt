use Rattle.cod_code.proofs.Segments as lemmas
use Rattle.cod_code.proofs.laws.columns_are_codewords.Goals as goal

pub returns : goal.returns
returns c = lemmas.columns_are_codewords
