use Rattle.std.proofs.Common.{◌≡◌, length, take}
use Rattle.cod_claims.specs.Changes.{joined}
use Rattle.cod_claims.proofs.slip.join.Given as goal

abbrev pub invariant-loop-delta : goal.invariant-loop-delta
invariant-loop-delta l = record {
  at : l.at ≡ length (joined (take l.delta-index l.deltas));
  front : take l.at l.into ≡ joined (take l.delta-index l.deltas);
}
