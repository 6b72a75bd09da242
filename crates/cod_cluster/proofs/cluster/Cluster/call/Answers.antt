use Rattle.std.proofs.Common.{◌≡◌, ◌+◌, ◌<◌, ◌∷◌, [], ℕ, length, set, Some, sym, ap, ◌∙◌, subst, refl, arith}
use Rattle.cod_place.specs.Free.{HasSeen}
use Rattle.cod_segment.specs.Events.{call_in}
use Rattle.cod_segment.specs.Looks.{AreLooked}
use Rattle.cod_seg.specs.Next.{open_in}
use Rattle.cod_script.specs.Script.{Script}
use Rattle.cod_accounts.specs.Working.{HasCalled}
use Rattle.cod_pass.specs.declared.desk.Desk.{Desk}
use Rattle.cod_pass.specs.States.{Common, course_on, IsPassOf, known_by, PassState}
use Rattle.cod_closing.specs.Closing.{log_of}
use Rattle.cod_cluster.proofs.Passing.{called_as, found, pass_after}
use Rattle.cod_cluster.proofs.cluster.Cluster.call.Goals as goal

pub call-answer-requires-clause-seats : goal.call-answer-requires-clause-seats
call-answer-requires-clause-seats g c =
    let r = c.requires.of in
    let here : Common =
    record { turns = c.args.self.now.turns.items; board = c.args.self.now.shared.board; pools = c.args.self.now.shared.pools; regions = g.H.Shelf.regions c.args.self.now.shared.shelf } in
    let was = subst (IsPassOf r.0 here) (sym c.pass.view_is) r.2 in
    let f = found r.0 here _ c.args.seg.0 c.index.result.now c.index_mut.result.now r.1 was r.3 c.index_mut.ensures.value c.index.ensures in
    (f.turn_is, was.board, was.pools)

pub call-answer-requires-clause-ready : goal.call-answer-requires-clause-ready
call-answer-requires-clause-ready g c =
    let r = c.requires.of in
    let here : Common =
    record { turns = c.args.self.now.turns.items; board = c.args.self.now.shared.board; pools = c.args.self.now.shared.pools; regions = g.H.Shelf.regions c.args.self.now.shared.shelf } in
    let was = subst (IsPassOf r.0 here) (sym c.pass.view_is) r.2 in
    let f = found r.0 here _ c.args.seg.0 c.index.result.now c.index_mut.result.now r.1 was r.3 c.index_mut.ensures.value c.index.ensures in
    (f.at.last, f.at.ready, f.at.fits)

pub returns-clause-pass : goal.returns-clause-pass
returns-clause-pass g c = λ x common of.
    let here : Common =
    record { turns = c.args.self.now.turns.items; board = c.args.self.now.shared.board; pools = c.args.self.now.shared.pools; regions = g.H.Shelf.regions c.args.self.now.shared.shelf } in
    let was = subst (IsPassOf x here) (sym c.pass.view_is) of in
    let low : c.args.seg.0 < length x.segments = (let a = common.turns in let b = c.requires.of.1.turns in let l = c.requires.of.3 in omega (arith, a, b, l)) in
    let f = found x here _ c.args.seg.0 c.index.result.now c.index_mut.result.now common was low c.index_mut.ensures.value c.index.ensures in
    pass_after x here _ _ c.args.seg.0 c.index_mut.result.now c.call-answer.new.seat was f.there
    (ap (λ (d : Desk). let q : PassState = record {
      caller = d.client.caller.0;
      number = d.client.number;
      clock = c.call-answer.new.desk.clock;
      seats = set c.pass.inside.seats.items c.args.seg.0 c.call-answer.new.seat;
      bench = d.bench;
      board = c.call-answer.new.desk.board;
      pools = c.call-answer.new.desk.pools;
    } in q) c.call-answer.ensures.desk)
    c.call-answer.ensures.board c.call-answer.ensures.pools c.call-answer.ensures.seat.0 f.at (c.call-answer.ensures.ready f.at.last f.at.ready.own)

pub returns-clause-called : goal.returns-clause-called
returns-clause-called g c = λ x common of.
    let here : Common =
    record { turns = c.args.self.now.turns.items; board = c.args.self.now.shared.board; pools = c.args.self.now.shared.pools; regions = g.H.Shelf.regions c.args.self.now.shared.shelf } in
    let was = subst (IsPassOf x here) (sym c.pass.view_is) of in
    let low : c.args.seg.0 < length x.segments = (let a = common.turns in let b = c.requires.of.1.turns in let l = c.requires.of.3 in omega (arith, a, b, l)) in
    let f = found x here _ c.args.seg.0 c.index.result.now c.index_mut.result.now common was low c.index_mut.ensures.value c.index.ensures in
    called_as x here _ _ c.args.seg.0 c.index_mut.result.now c.call-answer.new.seat was f.there
    (ap (λ (d : Desk). let q : PassState = record {
      caller = d.client.caller.0;
      number = d.client.number;
      clock = c.call-answer.new.desk.clock;
      seats = set c.pass.inside.seats.items c.args.seg.0 c.call-answer.new.seat;
      bench = d.bench;
      board = c.call-answer.new.desk.board;
      pools = c.call-answer.new.desk.pools;
    } in q) c.call-answer.ensures.desk)
    c.call-answer.ensures.board c.call-answer.ensures.pools c.call-answer.ensures.seat.0 f.at c.args.pass.now c.pass.view_is (call_in c.args.slip) c.call-answer.result.position c.call-answer.result.stamp
    c.call-answer.result.reply c.call-answer.ensures.seat.1 (c.call-answer.ensures.made f.at.last f.at.ready.own)

pub returns-clause-looked : goal.returns-clause-looked
returns-clause-looked g c =
    subst (λ (p : PassState). AreLooked (HasSeen p.pools c.call-answer.new.desk.pools) c.call-answer.result.reply) c.pass.view_is c.call-answer.ensures.looked
