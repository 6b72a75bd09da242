use Rattle.std.proofs.Common.{sym, arith}
use Rattle.cod_run.proofs.Dues.{none_fails}
use Rattle.cod_run.proofs.job.has_failure.Goals as goal

pub returns : goal.returns
returns c =
    sym (none_fails c.args.scenario.now.clients (λ who lt. c.loop-client.invariant who (let past = c.loop-client-test.false in let end = c.clients-client-end.ensures in omega (arith, lt, past, end))))
