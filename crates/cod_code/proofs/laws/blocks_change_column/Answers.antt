use Rattle.cod_code.proofs.Changing as lemmas
use Rattle.cod_code.proofs.laws.blocks_change_column.Goals as goal

pub returns : goal.returns
returns c = lemmas.blocks_change_column
