use Rattle.std.proofs.Common.{inl, inr, refl, arith}
use Rattle.std.proofs.lemmas.Grind.{common_steps}
use Rattle.cod_io.proofs.mem.MemSinkSink.write.Goals as goal
use Rattle.cod_io.proofs.mem.MemSinkSink.write.Goals.{then-listed-via-then-listed, then-listed-via-else-listed+then-n-eq0}

pub returns-then-listed-clause-listed : goal.returns-then-listed-clause-listed
returns-then-listed-clause-listed c =
    rw (← c.self.view_is) (
      λ _. elim c.then-listed.branch [
        | then-listed-via-then-listed w ↦ inl (grind (arith, common_steps, w.if-listed.true, c.contains-listed.ensures.value, c.deref.ensures.value))
        | then-listed-via-else-listed+then-n-eq0 w ↦ inr (omega arith)
      ],
      λ _. refl,
    )
