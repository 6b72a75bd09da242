use Rattle.std.proofs.Common.{◌≡◌, ◌<◌, ℕ, false}
use Rattle.cod_step.specs.Next.{is_parity_due}
use Rattle.cod_step.proofs.updating.parity_due.Given as goal

abbrev pub invariant-loop-j : goal.invariant-loop-j
invariant-loop-j l = (m : ℕ) → m < l.j → is_parity_due l.scene.shape.k l.scene.shape.n l.scene.live l.scene.claims.now l.caller.0 m ≡ false
