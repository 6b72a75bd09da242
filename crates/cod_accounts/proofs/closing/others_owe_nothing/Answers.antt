use Rattle.cod_accounts.proofs.Owing.{others_owe_nothing}
use Rattle.cod_accounts.proofs.closing.others_owe_nothing.Goals as goal

pub returns : goal.returns
returns c = others_owe_nothing
