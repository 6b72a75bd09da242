use Rattle.std.proofs.Common.{◌≡◌, ◌<◌, ◌≤◌, ℕ, false}
use Rattle.cod_step.specs.Next.{is_bare}
use Rattle.cod_step.proofs.updating.bare_of.Given as goal

abbrev pub invariant-loop-i : goal.invariant-loop-i
invariant-loop-i l = (m : ℕ) → l.k ≤ m → m < l.i → is_bare l.scene.live l.scene.claims.now l.block m ≡ false
