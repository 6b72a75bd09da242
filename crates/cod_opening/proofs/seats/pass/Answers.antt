use Rattle.std.proofs.Common.{◌≡◌, ◌+◌, ◌<◌, ◌≤◌, ℕ, List, length, refl, sym, ap, ◌∙◌, subst}
use Rattle.cod_types.specs.declared.call.Caller.{Caller}
use Rattle.cod_client.specs.declared.Client.{Client}
use Rattle.cod_opening.specs.Opening.{IsFresh, IsLeft}
use Rattle.cod_opening.proofs.Splitting.{fresh_pass, left_rest, two_numbers}
use Rattle.cod_opening.proofs.seats.pass.Goals as goal

pub split-requires-2-clause-two : goal.split-requires-2-clause-two
split-requires-2-clause-two g c =
    let r = c.requires.left in
    let was = subst (IsLeft c.args.turns.now r.0 c.args.board.now c.args.pools.now.of c.args.caller.0) (sym c.rest.view_is) r.1 in
    two_numbers c.args.turns.now r.0 c.args.board.now c.args.pools.now.of c.args.caller.0 _ was c.requires.few

pub returns-clause-pass : goal.returns-clause-pass
returns-clause-pass g c = λ segs left.
    let was = subst (IsLeft c.args.turns.now segs c.args.board.now c.args.pools.now.of c.args.caller.0) (sym c.rest.view_is) left in
    let seats = c.in_ok-seats.ensures segs c.args.caller.0 c.requires.few was.seats in
    fresh_pass c.args.turns.now segs c.args.board.now c.args.pools.now.of c.args.caller.0 _ was c.requires.few c.args.g.now c.in_ok-seats.seats.items c.new-2.result.caller.0
    c.new-2.result.number c.in_ok-bench.bench c.split-2.result c.split-3.result seats.1 (ap (λ (x : Client). x.caller.0) c.new-2.ensures) (ap (λ (x : Client). x.number) c.new-2.ensures)
    c.in_ok-bench.ensures c.split-2.ensures.right c.split-3.ensures.fresh

pub returns-clause-left : goal.returns-clause-left
returns-clause-left g c = λ segs left.
    let was = subst (IsLeft c.args.turns.now segs c.args.board.now c.args.pools.now.of c.args.caller.0) (sym c.rest.view_is) left in
    let seats = c.in_ok-seats.ensures segs c.args.caller.0 c.requires.few was.seats in
    left_rest c.args.turns.now segs c.args.board.now c.args.pools.now.of c.args.caller.0 _ was c.requires.few c.split.new.firsts.items c.split-2.new.seat c.split-3.new.seat seats.0
    c.split-2.ensures.left c.split-3.ensures.same
