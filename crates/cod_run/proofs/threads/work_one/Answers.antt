use Rattle.cod_run.proofs.Working.{call_ready_as, called_as, fail_ready_as, killed_as, number_fits_as}
use Rattle.cod_run.proofs.threads.work_one.Goals as goal

pub call-requires-clause-of : goal.call-requires-clause-of
call-requires-clause-of g c =
    let x = c.requires.0 in
    let w = c.requires.1 in
    let r = call_ready_as x _ _ c.args.job c.in-Call.seg c.in-Call.slip c.in-Call.is w in
    (x, w.common, w.pass, r.can.0, r.slip_is, r.can.1)

pub call-requires-clause-number : goal.call-requires-clause-number
call-requires-clause-number g c = number_fits_as c.requires.0 _ _ c.args.job c.in-Call.seg c.in-Call.slip c.in-Call.is c.requires.1

pub kill-requires-clause-of : goal.kill-requires-clause-of
kill-requires-clause-of g c =
    let x = c.requires.0 in
    let w = c.requires.1 in
    (x, w.common, w.pass, (fail_ready_as x _ _ c.args.job c.in-Fail.line c.in-Fail.node c.in-Fail.is w).0)

pub kill-requires-clause-line : goal.kill-requires-clause-line
kill-requires-clause-line g c = (fail_ready_as c.requires.0 _ _ c.args.job c.in-Fail.line c.in-Fail.node c.in-Fail.is c.requires.1).1

pub returns-in-Call : goal.returns-in-Call
returns-in-Call g c = λ x w.
    called_as x _ _ _ c.args.job c.in-Call.seg c.in-Call.slip _ _ _ c.in-Call.is w (c.call.ensures.pass x w.common w.pass) (c.call.ensures.called x w.common w.pass)

pub returns-in-Fail : goal.returns-in-Fail
returns-in-Fail g c = λ x w.
    killed_as x _ _ _ c.args.job c.in-Fail.line c.in-Fail.node c.kill.ensures.killed.0 c.in-Fail.is w (c.kill.ensures.pass x w.common w.pass) c.kill.ensures.killed.1
