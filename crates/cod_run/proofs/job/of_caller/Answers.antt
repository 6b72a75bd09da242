use Rattle.std.proofs.Common.{arith}
use Rattle.cod_run.proofs.Moved.{if_ok_const, no_client}
use Rattle.cod_run.proofs.job.of_caller.Goals as goal

pub returns-else-caller-clients-clause-rest : goal.returns-else-caller-clients-clause-rest
returns-else-caller-clients-clause-rest c =
    if_ok_const c.of_worker.result _ (no_client c.args.scenario.now c.args.caller (omega (arith, c.if-caller-clients.false, c.clients-clients.ensures)))
