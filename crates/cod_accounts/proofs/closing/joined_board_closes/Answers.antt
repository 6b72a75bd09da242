use Rattle.cod_accounts.proofs.Joins.{joined_board_closes}
use Rattle.cod_accounts.proofs.closing.joined_board_closes.Goals as goal

pub returns : goal.returns
returns g c = joined_board_closes
