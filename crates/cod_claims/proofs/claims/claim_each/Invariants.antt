use Rattle.std.proofs.Common.{◌≡◌, ◌<◌, length, All}
use Rattle.std.specs.Vec.Iter.{into_iter_items}
use Rattle.cod_claims.specs.Claimed.{with_claims}
use Rattle.cod_claims.proofs.claims.claim_each.Given as goal

abbrev pub invariant-loop-delta : goal.invariant-loop-delta
invariant-loop-delta l = record {
  rest : with_claims l.caller l.number (into_iter_items l.delta-iterator) l.slots ≡ with_claims l.caller l.number l.fn.deltas.items l.fn.slots;
  size : length l.slots ≡ length l.fn.slots;
  inside : All (λ (x : _). x.part.block < length l.slots) (into_iter_items l.delta-iterator);
}
