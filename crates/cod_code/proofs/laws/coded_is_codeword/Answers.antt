use Rattle.cod_code.proofs.Encoding as lemmas
use Rattle.cod_code.proofs.laws.coded_is_codeword.Goals as goal

pub returns : goal.returns
returns c = lemmas.coded_is_codeword
