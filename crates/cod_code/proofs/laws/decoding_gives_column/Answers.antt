use Rattle.cod_code.proofs.Segments as lemmas
use Rattle.cod_code.proofs.laws.decoding_gives_column.Goals as goal

pub returns : goal.returns
returns c = lemmas.decoding_gives_column
