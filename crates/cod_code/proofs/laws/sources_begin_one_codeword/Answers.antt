use Rattle.cod_code.proofs.Extending as lemmas
use Rattle.cod_code.proofs.laws.sources_begin_one_codeword.Goals as goal

pub returns : goal.returns
returns c = lemmas.sources_begin_one_codeword
