use Rattle.std.proofs.Common.{arith}
use Rattle.cod_run.proofs.Played.{start_of}
use Rattle.cod_run.proofs.threads.start.Goals as goal

pub shifts-requires : goal.shifts-requires
shifts-requires g c =
    let count = c.in-Ok.ensures.opened.count in
    let size = c.in_ok-jobs.ensures.jobs.size in
    let clients = c.clients-clients.ensures in
    let workers = c.care-workers.ensures.0 in
    omega (arith, count, size, clients, workers)

pub returns-clause-ready : goal.returns-clause-ready
returns-clause-ready g c =
    let clients = c.clients-clients.ensures in
    let workers = c.care-workers.ensures.0 in
    start_of c.args.scenario.now _ _ _ _ _ _ _ (omega (arith, clients, workers)) c.segments-sound.ensures.sound c.in-Ok.ensures.opened c.in_ok-jobs.ensures.jobs c.in_ok-shifts.ensures.passes
    c.in_ok-shifts.ensures.jobs
