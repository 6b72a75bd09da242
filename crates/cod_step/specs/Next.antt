-- The rules by which the next event of a call is chosen.
use Rattle.std.specs.Prelude.{ℕ, ◌-◌, ◌==◌, Bool, true, not, ◌&&◌, nat_lt, if◌then◌else◌, find, is_some, length, List, Option, Some, None, option_and_then}
use Rattle.std.specs.List.{range_with_len}
use Rattle.cod_types.specs.Limits.{Shape}
use Rattle.cod_types.specs.Plain.{refusal}
use Rattle.cod_types.specs.declared.call.Call.{Call}
use Rattle.cod_types.specs.declared.call.Call.TheVariants as call
use Rattle.cod_types.specs.declared.call.NodeId.{NodeId}
use Rattle.cod_layout.specs.Parts.{length_in}
use Rattle.cod_claims.specs.declared.claim.Claim.{Claim}
use Rattle.cod_claims.specs.declared.claims.Held.{Held}
use Rattle.cod_claims.specs.Claimed.{claim_at, holder, is_applied, is_noted, is_of, is_others}
use Rattle.cod_seg.specs.declared.next.Step.{Step}
use Rattle.cod_seg.specs.declared.next.Step.TheVariants as step
use Rattle.cod_step.specs.declared.scene.Job.{Job}
use Rattle.cod_step.specs.Live.{column_on, count_down, is_live, is_lost}

-- ---- waiting

-- the holder of the lowest block that passes this test and is another caller's
abbrev pub holder_among : (wants : ℕ → Bool) → (caller : ℕ) → List (Option Claim) → Option Held
holder_among wants caller claims =
    option_and_then (λ j. holder (claim_at claims j)) (find (λ j. wants j && is_others caller (claim_at claims j)) (range_with_len 0 16))

-- a step, unless the call has to wait for another one
abbrev pub unless_held : Option Held → Step → Step
unless_held None then_ = then_
unless_held (Some h) then_ = step.Held h

-- the rebuild in progress, where it is another caller's
abbrev pub rebuild_of_other : (caller : ℕ) → Option Job → Option Held
rebuild_of_other caller None = None
rebuild_of_other caller (Some job) = if job.caller.0 == caller then None else Some (record { owner = job.caller; number = job.number })

-- ---- an update that has its claims

-- the caller's update has a part in block j, whose column is live and doesn't have it yet
abbrev pub is_data_due : List (Option NodeId) → List (Option Claim) → (caller j : ℕ) → Bool
is_data_due live claims caller j = is_of caller (claim_at claims j) && (is_live live j && not (is_applied (claim_at claims j)))

-- column i is live and has no record of the update of block j
abbrev pub is_bare : List (Option NodeId) → List (Option Claim) → (j i : ℕ) → Bool
is_bare live claims j i = is_live live i && not (is_noted i (claim_at claims j))

-- the lowest parity column that is
abbrev pub bare_of : (k n : ℕ) → List (Option NodeId) → List (Option Claim) → (j : ℕ) → Option ℕ
bare_of k n live claims j = find (is_bare live claims j) (range_with_len k (n - k))

abbrev pub is_parity_due : (k n : ℕ) → List (Option NodeId) → List (Option Claim) → (caller j : ℕ) → Bool
is_parity_due k n live claims caller j = is_of caller (claim_at claims j) && is_some (bare_of k n live claims j)

abbrev pub data_due : (k : ℕ) → List (Option NodeId) → List (Option Claim) → (caller : ℕ) → Option ℕ
data_due k live claims caller = find (is_data_due live claims caller) (range_with_len 0 k)

abbrev pub parity_due : (k n : ℕ) → List (Option NodeId) → List (Option Claim) → (caller : ℕ) → Option ℕ
parity_due k n live claims caller = find (is_parity_due k n live claims caller) (range_with_len 0 k)

abbrev pub parity_on : (j : ℕ) → Option ℕ → Step
parity_on j None = step.Commit
parity_on j (Some i) = step.Parity j i

abbrev pub after_data : (k n : ℕ) → List (Option NodeId) → List (Option Claim) → Option ℕ → Step
after_data k n live claims None = step.Commit
after_data k n live claims (Some j) = parity_on j (bare_of k n live claims j)

abbrev pub at_data : (k n : ℕ) → List (Option NodeId) → List (Option Claim) → (caller : ℕ) → Option ℕ → Step
at_data k n live claims caller (Some j) = step.Data j
at_data k n live claims caller None = after_data k n live claims (parity_due k n live claims caller)

-- first each live data column, then for each part each live parity column, and then the commit
abbrev pub next_update : (k n : ℕ) → List (Option NodeId) → List (Option Claim) → (caller : ℕ) → Step
next_update k n live claims caller = at_data k n live claims caller (data_due k live claims caller)

-- ---- the calls

-- the caller has a claim
abbrev pub has_claim : List (Option Claim) → (caller : ℕ) → Bool
has_claim claims caller = is_some (find (λ j. is_of caller (claim_at claims j)) (range_with_len 0 16))

-- the range has bytes of block j
abbrev pub touches : Shape → (off len j : ℕ) → Bool
touches g off len j = nat_lt j g.k && nat_lt 0 (length_in g.block off len j)

-- a write or a swap of this range
abbrev pub write_step : Shape → List (Option NodeId) → List (Option Claim) → (caller off len : ℕ) → Step
write_step g live claims caller off len =
    if has_claim claims caller then next_update g.k g.n live claims caller
    else unless_held (holder_among (touches g off len) caller claims) step.Begin

-- a rebuild that needn't wait: a target is looked for, filled, and then the column comes up there
abbrev pub own_rebuild_step : (block : ℕ) → Option Job → Step
own_rebuild_step block None = step.RebuildStart
own_rebuild_step block (Some job) = to_target block job.done where
  to_target : ℕ → Option ℕ → Step
  to_target block None = step.RebuildStart
  to_target block (Some done) = if nat_lt done block then step.RebuildPiece else step.RebuildEnd

abbrev pub rebuild_step : Shape → List (Option NodeId) → Option Job → (caller : ℕ) → Step
rebuild_step g live job caller =
    if count_down live g.n == 0 then step.Whole
    else unless_held (rebuild_of_other caller job) (own_rebuild_step g.block job)

abbrev pub drain_step : (n : ℕ) → List (Option NodeId) → Option Job → (caller node : ℕ) → Step
drain_step n live job caller node =
    if is_some (column_on n live node) then unless_held (rebuild_of_other caller job) step.Drain else step.Clear

-- the next step of a call that isn't refused, where not too many columns are down
abbrev pub call_step : Shape → List (Option NodeId) → List (Option Claim) → Option Job → (caller : ℕ) → Call → Step
call_step g live claims job caller (call.Read off len) = step.Read
call_step g live claims job caller call.Merge = step.Merge
call_step g live claims job caller call.Tick = step.Tick
call_step g live claims job caller call.Upgrade = step.Upgrade
call_step g live claims job caller (call.Put bytes) = unless_held (holder_among (λ _. true) caller claims) step.Put
call_step g live claims job caller (call.Write off bytes) = write_step g live claims caller off (length bytes)
call_step g live claims job caller (call.Swap off old new) = write_step g live claims caller off (length new)
call_step g live claims job caller call.Rebuild = rebuild_step g live job caller
call_step g live claims job caller (call.Drain node) = drain_step g.n live job caller node.0

-- What the next event of a caller's call does: a call that its own numbers refuse is refused, one that finds too many columns down
-- is lost, and else it depends on the call.
abbrev pub next_step : Shape → List (Option NodeId) → List (Option Claim) → Option Job → (caller : ℕ) → Call → Step
next_step g live claims job caller call =
    if is_some (refusal g call) then step.Refuse
    else if is_lost g live then step.Lost
    else call_step g live claims job caller call
