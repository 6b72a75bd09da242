use Rattle.std.proofs.Common.{◌≡◌, map, take}
use Rattle.cod_text.specs.Summary.{tally_of}
use Rattle.cod_text.proofs.tally.Tally.of.Given as goal

abbrev pub invariant-loop-value : goal.invariant-loop-value
invariant-loop-value g l = l.tally ≡ tally_of (map g.T.Stands.entries (take l.value-index l.all))
