use Rattle.std.proofs.Common.{◌<◌, List, [], refl, ap, ◌∙◌, subst, append-nil}
use Rattle.cod_types.specs.declared.call.Caller.{Caller}
use Rattle.cod_place.specs.Room.{Room}
use Rattle.cod_segment.specs.Events.{call_in, request_of, rooms_of}
use Rattle.cod_chronicle.specs.Event.{Request}
use Rattle.cod_chronicle.specs.Said.{Site}
use Rattle.cod_segment.specs.Advancing.{IsAdvanced}
use Rattle.cod_segment.proofs.Balancing.{then}
use Rattle.cod_segment.proofs.Looking.{has_looked_later}
use Rattle.cod_client.proofs.Stepping.{keeps_on, number_stays, same_request, still_asked, turns_of}
use Rattle.cod_client.proofs.Client.advance.Goals as goal

pub go_on-outcome-requires-clause-asked : goal.go_on-outcome-requires-clause-asked
go_on-outcome-requires-clause-asked g c =
    rw (c.sweep.ensures.who.0, c.sweep.ensures.who.1, c.requires.who.0, c.requires.who.1)
    (still_asked c.args.stripe.now c.sweep.new.self c.args.self.now.caller.0 c.args.self.now.number c.args.slip.now (call_in c.args.slip.now)
    (c.sweep.ensures.numbers c.args.self.now.caller.0) (c.sweep.ensures.open c.args.self.now.caller.0) c.sweep.ensures.same.0 c.requires.asked)

pub go_on-outcome-requires-clause-pools : goal.go_on-outcome-requires-clause-pools
go_on-outcome-requires-clause-pools g c =
    let came = c.sweep.ensures.rooms [] (rw (append-nil (rooms_of c.args.stripe.now)) c.requires.pools.2) in (
      rw (c.sweep.ensures.pools.0, c.sweep.ensures.same.0) c.requires.pools.0,
      c.sweep.ensures.pools.1,
      subst (λ (rooms : List Room). g.P.Pools.Came c.sweep.new.around.pools.now rooms) (append-nil (rooms_of c.sweep.new.self)) came,
    )

pub go_on-outcome-requires-clause-shelf : goal.go_on-outcome-requires-clause-shelf
go_on-outcome-requires-clause-shelf g c = λ node below is.
    let there : node < c.args.stripe.now.site.nodes = subst (λ (x : Site). node < x.nodes) c.sweep.ensures.same.0 below in
    rw c.sweep.ensures.shelf (c.requires.shelf node there (rw (← c.sweep.ensures.same.1) is))

pub returns-in-Answered-clause-turns : goal.returns-in-Answered-clause-turns
returns-in-Answered-clause-turns g c = λ w setting known seen.
    turns_of (g.B.Board.kills c.args.around.now.board.now) (g.B.Board.kills c.sweep.new.around.board.now) (g.B.Board.kills c.go_on-outcome.new.around.board.now) w
    (request_of c.args.self.now.caller.0 c.args.self.now.number (call_in c.args.slip.now))
    (request_of c.sweep.new.around.caller.0 c.sweep.new.around.number (call_in c.args.slip.now))
    c.args.around.now.clock.now c.sweep.new.around.clock.now c.go_on-outcome.new.around.clock.now c.go_on-outcome.result c.args.stripe.now c.sweep.new.self c.go_on-outcome.new.stripe
    (same_request c.sweep.new.around.caller.0 c.args.self.now.caller.0 c.sweep.new.around.number c.args.self.now.number (call_in c.args.slip.now)
    (ap (λ (x : Caller). x.0) (c.sweep.ensures.who.0 ∙ c.requires.who.0)) (c.sweep.ensures.who.1 ∙ c.requires.who.1))
    c.sweep.ensures.board.1 c.go_on-outcome.ensures.board.1 known seen setting c.sweep.ensures.same.0 c.sweep.ensures.same.1
    (λ v set k n. c.sweep.ensures.makes v (request_of c.args.self.now.caller.0 c.args.self.now.number (call_in c.args.slip.now)) set k n)
    c.go_on-outcome.ensures.follows c.go_on-outcome.ensures.exact

pub returns-in-Answered-clause-looked : goal.returns-in-Answered-clause-looked
returns-in-Answered-clause-looked g c =
    has_looked_later (g.P.Pools.Seen c.sweep.new.around.pools.now c.go_on-outcome.new.around.pools.now) (g.P.Pools.Seen c.args.around.now.pools.now c.go_on-outcome.new.around.pools.now)
    (λ node bytes seen. g.met.P.Pools.seen_earlier c.args.around.now.pools.now c.sweep.new.around.pools.now c.go_on-outcome.new.around.pools.now node bytes c.sweep.ensures.pools.2 seen)
    c.go_on-outcome.new.slip.reply c.go_on-outcome.ensures.looked

pub returns-in_default : goal.returns-in_default
returns-in_default g c = record {
  turns = λ w setting known seen.
      turns_of (g.B.Board.kills c.args.around.now.board.now) (g.B.Board.kills c.sweep.new.around.board.now) (g.B.Board.kills c.go_on-outcome.new.around.board.now) w
      (request_of c.args.self.now.caller.0 c.args.self.now.number (call_in c.args.slip.now))
      (request_of c.sweep.new.around.caller.0 c.sweep.new.around.number (call_in c.args.slip.now))
      c.args.around.now.clock.now c.sweep.new.around.clock.now c.go_on-outcome.new.around.clock.now c.go_on-outcome.result c.args.stripe.now c.sweep.new.self c.go_on-outcome.new.stripe
      (same_request c.sweep.new.around.caller.0 c.args.self.now.caller.0 c.sweep.new.around.number c.args.self.now.number (call_in c.args.slip.now)
      (ap (λ (x : Caller). x.0) (c.sweep.ensures.who.0 ∙ c.requires.who.0)) (c.sweep.ensures.who.1 ∙ c.requires.who.1))
      c.sweep.ensures.board.1 c.go_on-outcome.ensures.board.1 known seen setting c.sweep.ensures.same.0 c.sweep.ensures.same.1
      (λ v set k n. c.sweep.ensures.makes v (request_of c.args.self.now.caller.0 c.args.self.now.number (call_in c.args.slip.now)) set k n)
      c.go_on-outcome.ensures.follows c.go_on-outcome.ensures.exact;
  outcome = subst (λ (r : Request). IsAdvanced c.go_on-outcome.result r c.go_on-outcome.new.around.clock.now c.go_on-outcome.new.stripe c.args.slip.now c.go_on-outcome.new.slip)
      (same_request c.sweep.new.around.caller.0 c.args.self.now.caller.0 c.sweep.new.around.number c.args.self.now.number (call_in c.args.slip.now)
      (ap (λ (x : Caller). x.0) (c.sweep.ensures.who.0 ∙ c.requires.who.0)) (c.sweep.ensures.who.1 ∙ c.requires.who.1))
      c.go_on-outcome.ensures.outcome;
  looked = has_looked_later (g.P.Pools.Seen c.sweep.new.around.pools.now c.go_on-outcome.new.around.pools.now) (g.P.Pools.Seen c.args.around.now.pools.now c.go_on-outcome.new.around.pools.now)
      (λ node bytes seen. g.met.P.Pools.seen_earlier c.args.around.now.pools.now c.sweep.new.around.pools.now c.go_on-outcome.new.around.pools.now node bytes c.sweep.ensures.pools.2 seen)
      c.go_on-outcome.new.slip.reply c.go_on-outcome.ensures.looked;
  number = rw (number_stays c.go_on-outcome.result c.args.self.now.number c.in_default.not-Answered) refl;
  rooms = λ rest came. c.go_on-outcome.ensures.rooms rest (c.sweep.ensures.rooms rest came);
  balance = then (g.P.Pools.free c.args.around.now.pools.now) (g.P.Pools.free c.sweep.new.around.pools.now) (g.P.Pools.free c.go_on-outcome.new.around.pools.now)
      (rooms_of c.args.stripe.now) (rooms_of c.sweep.new.self) (rooms_of c.go_on-outcome.new.stripe) c.sweep.ensures.balance c.go_on-outcome.ensures.balance;
  lent = (
    c.go_on-outcome.ensures.lent.0 ∙ c.sweep.ensures.lent.0,
    c.go_on-outcome.ensures.lent.1 ∙ c.sweep.ensures.lent.1,
    c.go_on-outcome.ensures.lent.2 ∙ c.sweep.ensures.lent.2,
    c.go_on-outcome.ensures.lent.3 ∙ c.sweep.ensures.lent.3,
  );
  who = (
    c.go_on-outcome.ensures.who.0 ∙ c.sweep.ensures.who.0,
    c.go_on-outcome.ensures.who.1 ∙ c.sweep.ensures.who.1,
    c.go_on-outcome.ensures.who.2 ∙ c.sweep.ensures.who.2,
  );
  board = (
    c.go_on-outcome.ensures.board.0 ∙ c.sweep.ensures.board.0,
    keeps_on (g.B.Board.kills c.args.around.now.board.now) (g.B.Board.kills c.sweep.new.around.board.now) (g.B.Board.kills c.go_on-outcome.new.around.board.now)
        c.sweep.ensures.board.1 c.go_on-outcome.ensures.board.1,
    c.go_on-outcome.ensures.board.2,
    g.met.B.Board.same_later c.args.around.now.board.now c.sweep.new.around.board.now c.go_on-outcome.new.around.board.now c.sweep.ensures.board.3 c.go_on-outcome.ensures.board.3,
  );
  pools = (
    c.go_on-outcome.ensures.pools.0 ∙ c.sweep.ensures.pools.0,
    c.go_on-outcome.ensures.pools.1,
    g.met.P.Pools.same_later c.args.around.now.pools.now c.sweep.new.around.pools.now c.go_on-outcome.new.around.pools.now c.sweep.ensures.pools.2 c.go_on-outcome.ensures.pools.2,
  );
}
