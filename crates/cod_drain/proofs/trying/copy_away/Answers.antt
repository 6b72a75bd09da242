use Rattle.std.proofs.Common.{◌∙◌, [], refl}
use Rattle.cod_segment.proofs.Balancing.{stays, then}
use Rattle.cod_drain.specs.Copies.{rooms_at}
use Rattle.cod_drain.proofs.Trials.{keeps_kills, sought_later, tries_on, trying_on, trying_starts}
use Rattle.cod_drain.proofs.trying.copy_away.Goals as goal

pub places-init : goal.places-init
places-init g c = record {
  trying = trying_starts c.args.plan.col c.args.clock.now c.args.segment.now c.new-broken.result c.requires.sound c.requires.served c.new-broken.ensures;
  bench = refl;
  rooms = λ rest came. came;
  balance = stays (g.P.Pools.free c.args.pools.now) [];
  nodes = refl;
  ready = c.requires.pools.1;
  same = g.met.P.Pools.same_self c.args.pools.now;
  known = refl;
  keeps = λ node some. refl;
  able = c.requires.board.1;
  borrowed = g.met.B.Board.same_self c.args.board.now;
}

pub returns-in-Some-clause-tried : goal.returns-in-Some-clause-tried
returns-in-Some-clause-tried g c =
    tries_on c.args.plan (g.B.Board.kills c.try_once.new.board) c.try_once.new.reasons c.args.clock.now c.places.clock c.try_once.new.clock c.args.segment.now c.places.segment c.try_once.new.segment c.in-Some.tried
    c.requires.sound c.requires.served.below c.places.invariant.trying.reads c.in-Some.ensures.tried

pub returns-in-Some-clause-looked : goal.returns-in-Some-clause-looked
returns-in-Some-clause-looked g c =
    sought_later (g.P.Pools.Seen c.places.pools c.try_once.new.pools) (g.P.Pools.Seen c.args.pools.now c.try_once.new.pools)
    (λ node bytes seen. g.met.P.Pools.seen_earlier c.args.pools.now c.places.pools c.try_once.new.pools node bytes c.places.invariant.same seen) c.try_once.new.reasons c.in-Some.tried
    c.in-Some.ensures.looked

pub returns-in-Some-clause-balance : goal.returns-in-Some-clause-balance
returns-in-Some-clause-balance g c =
    then (g.P.Pools.free c.args.pools.now) (g.P.Pools.free c.places.pools) (g.P.Pools.free c.try_once.new.pools) [] [] (rooms_at c.in-Some.tried) c.places.invariant.balance c.in-Some.ensures.balance

pub places-smaller : goal.places-smaller
places-smaller g c =
    (trying_on c.args.plan.col c.args.clock.now c.places.clock c.try_once.new.clock c.places.broken c.try_once.new.broken c.args.segment.now c.places.segment c.try_once.new.segment
    c.requires.sound c.requires.served.below c.places.invariant.trying c.in-None.ensures.tried).1

pub places-preserved : goal.places-preserved
places-preserved g c =
    let i = c.places.invariant in
    let e = c.in-None.ensures in
    record {
      trying = (trying_on c.args.plan.col c.args.clock.now c.places.clock c.try_once.new.clock c.places.broken c.try_once.new.broken c.args.segment.now c.places.segment c.try_once.new.segment
          c.requires.sound c.requires.served.below i.trying e.tried).0;
      bench = e.bench ∙ i.bench;
      rooms = λ rest came. e.rooms rest (i.rooms rest came);
      balance = then (g.P.Pools.free c.args.pools.now) (g.P.Pools.free c.places.pools) (g.P.Pools.free c.try_once.new.pools) [] [] [] i.balance e.balance;
      nodes = e.pools.0 ∙ i.nodes;
      ready = e.pools.1;
      same = g.met.P.Pools.same_later c.args.pools.now c.places.pools c.try_once.new.pools i.same e.pools.2;
      known = e.board.0 ∙ i.known;
      keeps = keeps_kills (g.B.Board.kills c.args.board.now) (g.B.Board.kills c.places.board) (g.B.Board.kills c.try_once.new.board) i.keeps e.board.1;
      able = e.board.2;
      borrowed = g.met.B.Board.same_later c.args.board.now c.places.board c.try_once.new.board i.borrowed e.board.3;
    }
