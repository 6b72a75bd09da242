use Rattle.std.proofs.Common.{◌≡◌, map}
use Rattle.cod_replay.specs.Tasks.{whole_task}
use Rattle.cod_replay.proofs.play.prepare_tasks.Given as goal

abbrev pub invariant-lines : goal.invariant-lines
invariant-lines l = l.tasks.items ≡ map (whole_task l.g) l.yielded
