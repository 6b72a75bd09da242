use Rattle.cod_calls.proofs.Between.{Between, request_by}
use Rattle.cod_calls.proofs.calling.call.Given as goal

abbrev pub invariant-loop : goal.invariant-loop
invariant-loop g l = Between (request_by l.initial.desk l.initial.slip) l.shared.board l.shared.pools.of (g.H.Shelf.regions l.shared.shelf) l.initial.desk l.desk l.initial.seat l.seat l.slip
