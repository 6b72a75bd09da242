-- One event of a caller's call, with its sweep.
use Rattle.std.specs.Prelude.{◌≡◌, ℕ, ◌+◌, true, false}
use Rattle.cod_claims.specs.Slips.{Paper}
use Rattle.cod_chronicle.specs.Event.{Request, Setting}
use Rattle.cod_seg.specs.Next.{next_step}
use Rattle.cod_seg.specs.Seg.{Seg}
use Rattle.cod_seg.specs.declared.next.Step.TheVariants as step
use Rattle.cod_segment.specs.declared.asking.Outcome.{Outcome}
use Rattle.cod_segment.specs.declared.asking.Outcome.TheVariants.{Moved, Answered, Held}
use Rattle.cod_segment.specs.Events.{Costs, IsOutcome, Makes, NoneFails, Swept}

-- the event of the next step: where it is held nothing more happens, and else it makes steps of the request, with its device calls
abbrev pub Follows : (w : Setting) (r : Request) (t after : ℕ) → Outcome → (s u : Seg) → Type 0
Follows w r t after (Held h) s u = (next_step s r.caller r.call ≡ step.Held h) × (u ≡ s) × (after ≡ t)
Follows w r t after Moved s u = Makes w r t after false s u × (NoneFails s u → Costs s r.caller r.call (next_step s r.caller r.call) u)
Follows w r t after (Answered position stamp) s u = Makes w r t after true s u × (NoneFails s u → Costs s r.caller r.call (next_step s r.caller r.call) u)

-- First the sweep, and then the event of the next step.
pub record Advances (w : Setting) (r : Request) (t after : ℕ) (outcome : Outcome) (s u : Seg) : Type 0 where
  pub mid : Seg
  pub clock : ℕ
  pub swept : Swept w s t clock mid
  pub sweeps : Makes w r t clock false s mid
  pub follows : Follows w r clock after outcome mid u

-- only an answer raises a caller's number
abbrev pub number_after : Outcome → ℕ → ℕ
number_after (Answered position stamp) n = n + 1
number_after _ n = n

-- Where the call is held the slip stays; else it is as the event leaves it.
abbrev pub IsAdvanced : Outcome → (r : Request) (after : ℕ) (u : Seg) → (old new : Paper) → Type 0
IsAdvanced (Held h) r after u old new = new ≡ old
IsAdvanced outcome r after u old new = IsOutcome outcome r after u new
