use Rattle.cod_chronicle.proofs.Growth.{says_next}
use Rattle.cod_chronicle.proofs.laws.says_next.Goals as goal

pub returns : goal.returns
returns c = says_next
