use Rattle.cod_predict.proofs.Bounds.{next_average-le}
use Rattle.cod_predict.proofs.rules.Policy+Weighted.weighted.Goals as goal

pub new-requires-clause-small : goal.new-requires-clause-small
new-requires-clause-small c = λ used size avg r. next_average-le c.args.alpha used size avg c.requires r
