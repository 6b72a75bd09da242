use Rattle.std.proofs.Common.{◌≡◌}
use Rattle.cod_replay.specs.Building.{ArePlays, IsBareSoFar}
use Rattle.cod_replay.proofs.building.players.Given as goal

abbrev pub invariant-clients : goal.invariant-clients
invariant-clients l = ArePlays l.fn.scenario l.client l.players.items × IsBareSoFar l.fn.scenario l.scenario l.client × (l.g ≡ l.fn.scenario.shape)
