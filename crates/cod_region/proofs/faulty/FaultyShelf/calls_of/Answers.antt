use Rattle.std.proofs.Common.{arith}
use Rattle.std.proofs.lemmas.Grind.{common_steps}
use Rattle.std.proofs.lemmas.List.Elements.{filter_map-append}
use Rattle.cod_region.proofs.faulty.FaultyShelf.calls_of.Goals as goal
use Rattle.cod_region.proofs.faulty.FaultyShelf.calls_of.Goals.{then-eq+in_ok-push, else-eq}

pub faults-preserved : goal.faults-preserved
faults-preserved c = elim c.if-eq.branch [
  | then-eq+in_ok-push w ↦ grind (arith, common_steps, filter_map-append, w.if-eq.true, w.in_ok-push.ensures.items, w.calls-is, c.eq.ensures)
  | else-eq w ↦ grind (arith, common_steps, filter_map-append, w.if-eq.false, w.calls-is, c.eq.ensures)
]
