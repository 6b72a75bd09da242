use Rattle.cod_code.proofs.Segments as lemmas
use Rattle.cod_code.proofs.laws.column_has_codeword_bytes.Goals as goal

pub returns : goal.returns
returns c = lemmas.column_has_codeword_bytes
