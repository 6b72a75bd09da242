use Rattle.std.proofs.Common.{[], sym, arith}
use Rattle.std.proofs.lemmas.Result.{err_from_is_err_and}
use Rattle.cod_scenario.proofs.EachKnown.{begins, goes_on, fails, is_done, cell, past}
use Rattle.cod_scenario.proofs.kinds.each_known.Goals as goal

pub loop-w-init : goal.loop-w-init
loop-w-init c = rw c.new-turns.ensures.items (begins _)

pub loop-w-preserved : goal.loop-w-preserved
loop-w-preserved c = rw c.in_ok-push.ensures.items
    (goes_on c.args.names.now c.loop-w.turns.items _ _ _ c.in_ok-turn.turn _
    (cell (λ w. w.now) c.args.ws.now c.loop-w.w-index (record { ref_ptr = (0, 0); now = [] }) c.loop-w-test.true) (sym c.in_ok-turn.ensures) c.loop-w.invariant)

pub returns-in_err-turn : goal.returns-in_err-turn
returns-in_err-turn c =
    let p = err_from_is_err_and c.from_residual.result c.from_residual.ensures.1 in
    rw (p.1, p.2) (fails c.args.names.now c.loop-w.turns.items _ _ _ c.in_err-turn.field-0.0 _
    (cell (λ w. w.now) c.args.ws.now c.loop-w.w-index (record { ref_ptr = (0, 0); now = [] }) c.loop-w-test.true) (sym c.in_err-turn.ensures) c.loop-w.invariant)

pub returns : goal.returns
returns c = is_done c.args.names.now c.loop-w.turns.items _ _ (past (λ w. w.now) c.args.ws.now c.loop-w.w-index (omega (arith, c.loop-w-test.false))) c.loop-w.invariant
