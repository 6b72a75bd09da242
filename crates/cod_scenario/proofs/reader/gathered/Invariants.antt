use Rattle.std.proofs.Common.{◌≡◌}
use Rattle.cod_scenario.specs.Lines.{body_of}
use Rattle.cod_scenario.proofs.reader.gathered.Given as goal

abbrev pub invariant-loop-line : goal.invariant-loop-line
invariant-loop-line l = l.body ≡ body_of l.yielded
