use Rattle.std.proofs.Common.{◌≡◌, ◌<◌, ℕ, false}
use Rattle.std.specs.List.{list_any}
use Rattle.cod_script.specs.Owed.{is_fail}
use Rattle.cod_script.specs.Script.{lines_by}
use Rattle.cod_run.proofs.job.has_failure.Given as goal

abbrev pub invariant-loop-client : goal.invariant-loop-client
invariant-loop-client l = (c : ℕ) → c < l.client → list_any is_fail (lines_by l.scenario c) ≡ false
