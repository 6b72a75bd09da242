use Rattle.std.proofs.Common.{length}
use Rattle.cod_script.specs.Script.{Script}
use Rattle.cod_pass.specs.States.{Common}
use Rattle.cod_run.specs.Shifts.{CanWork}
use Rattle.cod_run.proofs.Working.{DoneSoFar}
use Rattle.cod_run.proofs.threads.work.Given as goal

abbrev pub invariant-jobs : goal.invariant-jobs
invariant-jobs g l =
    let k : Common = record { turns = l.cluster.turns.items; board = l.cluster.shared.board; pools = l.cluster.shared.pools; regions = g.H.Shelf.regions l.cluster.shared.shelf } in
    (x : Script) (w : CanWork x k l.fn.shift.pass l.fn.shift.jobs) → DoneSoFar x k l.fn.shift.pass l.shift.pass w.lines l.shift.jobs

abbrev pub decreases-jobs : goal.decreases-jobs
decreases-jobs g l = length l.shift.jobs
