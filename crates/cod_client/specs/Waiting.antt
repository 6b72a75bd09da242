-- Whether a step waits.
use Rattle.cod_seg.specs.declared.next.Step.{Step}
use Rattle.cod_seg.specs.declared.next.Step.TheVariants as step

-- it doesn't
abbrev pub IsGoing : Step → Type 0
IsGoing (step.Held h) = ⊥
IsGoing _ = Unit {0}
