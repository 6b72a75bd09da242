use Rattle.cod_place.proofs.Closed.{opened_matches, adopted_matches, released_matches, joined_matches, closed_adds_up, closed_came}
use Rattle.cod_place.proofs.laws.closed_rooms_add_up.Goals as goal

pub returns-clause-open : goal.returns-clause-open
returns-clause-open c = opened_matches

pub returns-clause-adopt : goal.returns-clause-adopt
returns-clause-adopt c = adopted_matches

pub returns-clause-release : goal.returns-clause-release
returns-clause-release c = released_matches

pub returns-clause-join : goal.returns-clause-join
returns-clause-join c = joined_matches

pub returns-clause-close : goal.returns-clause-close
returns-clause-close c = closed_adds_up

pub returns-clause-came : goal.returns-clause-came
returns-clause-came c = closed_came
