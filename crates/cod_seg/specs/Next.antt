-- What a call does next, by the first rule that fits.
use Rattle.std.specs.Prelude.{ℕ, ◌-◌, ◌==◌, ◌&&◌, nat_lt, not, if◌then◌else◌, Bool, true, false, Option, Some, None, is_some, find, length, List}
use Rattle.std.specs.Prelude.{option_and_then}
use Rattle.std.specs.List.{range_with_len}
use Rattle.cod_types.specs.Limits.{Shape}
use Rattle.cod_types.specs.Plain.{refusal}
use Rattle.cod_types.specs.declared.call.Call.{Call as Asked}
use Rattle.cod_types.specs.declared.call.Call.TheVariants.{Read, Write, Swap, Put, Merge, Tick, Rebuild, Upgrade, Drain}
use Rattle.cod_chronicle.specs.Said.{downs, is_down, is_over, node_of, Site}
use Rattle.cod_chronicle.specs.declared.entry.Entry.{Entry}
use Rattle.cod_claims.specs.declared.claim.Claim.{Claim}
use Rattle.cod_claims.specs.declared.claims.Held.{Held}
use Rattle.cod_claims.specs.Claimed.{claim_at, holder, is_applied, is_noted, is_of, is_others, open_call}
use Rattle.cod_seg.specs.Seg.{Col, col_at, Rebuilding, Seg, Target}
use Rattle.cod_seg.specs.Sound.{length_on}
use Rattle.cod_seg.specs.declared.next.Step.{Step}
use Rattle.cod_seg.specs.declared.next.Step.TheVariants as step

-- What a caller has open: the rebuild in progress, where that is its own, or else the call that it has claims for.
abbrev pub open_of : (caller : ℕ) → List (Option Claim) → Option Rebuilding → Option (ℕ × Asked)
open_of caller claims None = open_call caller claims
open_of caller claims (Some r) = if r.caller == caller then Some (r.number, Rebuild) else open_call caller claims

abbrev pub open_in : Seg → (caller : ℕ) → Option (ℕ × Asked)
open_in s caller = open_of caller s.claims s.rebuild

-- whether a call wants block j for itself: an update each block that it has a part in, and a put all
abbrev pub wants : Shape → Asked → (j : ℕ) → Bool
wants g (Read off len) j = false
wants g (Write off bytes) j = nat_lt 0 (length_on g (Write off bytes) j)
wants g (Swap off old new) j = nat_lt 0 (length_on g (Swap off old new) j)
wants g (Put bytes) j = true
wants g Merge j = false
wants g Tick j = false
wants g Rebuild j = false
wants g Upgrade j = false
wants g (Drain node) j = false

-- block j is wanted, and another caller's
abbrev pub is_taken_from : Shape → Asked → (caller : ℕ) → List (Option Claim) → (j : ℕ) → Bool
is_taken_from g call caller claims j = wants g call j && is_others caller (claim_at claims j)

-- who has the lowest wanted block that is another caller's
abbrev pub block_holder : Shape → Asked → (caller : ℕ) → List (Option Claim) → Option Held
block_holder g call caller claims = option_and_then (λ j. holder (claim_at claims j)) (find (is_taken_from g call caller claims) (range_with_len 0 16))

-- whose rebuild is in progress, where that is another caller's
abbrev pub rebuild_holder : (caller : ℕ) → Option Rebuilding → Option Held
rebuild_holder caller None = None
rebuild_holder caller (Some r) = if r.caller == caller then None else Some (record { owner = record { 0 = r.caller }; number = r.number })

abbrev pub unless_held : Option Held → Step → Step
unless_held None next = next
unless_held (Some h) next = step.Held h

-- the caller has a claim
abbrev pub has_claim : (caller : ℕ) → List (Option Claim) → Bool
has_claim caller claims = is_some (find (λ j. is_of caller (claim_at claims j)) (range_with_len 0 16))

-- the caller's update has a part in block j, whose column is up and doesn't have it yet
abbrev pub is_data_due : List Col → List (Option Claim) → (caller j : ℕ) → Bool
is_data_due cols claims caller j = is_of caller (claim_at claims j) && ((col_at cols j).is_up && not (is_applied (claim_at claims j)))

-- column i is up and has no record of the update of block j
abbrev pub is_bare : List Col → List (Option Claim) → (j i : ℕ) → Bool
is_bare cols claims j i = (col_at cols i).is_up && not (is_noted i (claim_at claims j))

-- the lowest parity column that is
abbrev pub bare_of : (k n : ℕ) → List Col → List (Option Claim) → (j : ℕ) → Option ℕ
bare_of k n cols claims j = find (is_bare cols claims j) (range_with_len k (n - k))

abbrev pub is_parity_due : (k n : ℕ) → List Col → List (Option Claim) → (caller j : ℕ) → Bool
is_parity_due k n cols claims caller j = is_of caller (claim_at claims j) && is_some (bare_of k n cols claims j)

-- the first part that isn't applied, and the first that isn't noted
abbrev pub data_due : (k : ℕ) → List Col → List (Option Claim) → (caller : ℕ) → Option ℕ
data_due k cols claims caller = find (is_data_due cols claims caller) (range_with_len 0 k)

abbrev pub parity_due : (k n : ℕ) → List Col → List (Option Claim) → (caller : ℕ) → Option ℕ
parity_due k n cols claims caller = find (is_parity_due k n cols claims caller) (range_with_len 0 k)

abbrev pub parity_on : (j : ℕ) → Option ℕ → Step
parity_on j None = step.Commit
parity_on j (Some i) = step.Parity j i

abbrev pub after_data : (k n : ℕ) → List Col → List (Option Claim) → Option ℕ → Step
after_data k n cols claims None = step.Commit
after_data k n cols claims (Some j) = parity_on j (bare_of k n cols claims j)

abbrev pub at_data : (k n : ℕ) → List Col → List (Option Claim) → (caller : ℕ) → Option ℕ → Step
at_data k n cols claims caller (Some j) = step.Data j
at_data k n cols claims caller None = after_data k n cols claims (parity_due k n cols claims caller)

-- An update that has its claims: first each data column that is up, then part by part each parity column that is up, and then
-- the commit.
abbrev pub next_part : (k n : ℕ) → List Col → List (Option Claim) → (caller : ℕ) → Step
next_part k n cols claims caller = at_data k n cols claims caller (data_due k cols claims caller)

-- an update: with its claims the next part, and without them it is held or begins
abbrev pub next_update : Seg → (caller : ℕ) → Asked → Step
next_update s caller call =
    if has_claim caller s.claims then next_part s.site.shape.k s.site.shape.n s.cols s.claims caller
    else unless_held (block_holder s.site.shape call caller s.claims) step.Begin

-- a rebuild of one's own, or of nobody: a target, its bytes, and the end
abbrev pub next_target : (block : ℕ) → Option Target → Step
next_target block None = step.RebuildStart
next_target block (Some t) = if nat_lt t.filled block then step.RebuildPiece else step.RebuildEnd

abbrev pub next_piece : (block : ℕ) → Option Rebuilding → Step
next_piece block None = step.RebuildStart
next_piece block (Some r) = next_target block r.target

-- the live column on node x, where there is one
abbrev pub live_on : Site → List Entry → (x : ℕ) → Option ℕ
live_on site log x = find (λ i. not (is_down log i) && (node_of site log i == x)) (range_with_len 0 site.shape.n)

-- a call that is neither refused nor lost
abbrev pub next_served : Seg → (caller : ℕ) → Asked → Step
next_served s caller (Read off len) = step.Read
next_served s caller (Write off bytes) = next_update s caller (Write off bytes)
next_served s caller (Swap off old new) = next_update s caller (Swap off old new)
next_served s caller (Put bytes) = unless_held (block_holder s.site.shape (Put bytes) caller s.claims) step.Put
next_served s caller Merge = step.Merge
next_served s caller Tick = step.Tick
next_served s caller Upgrade = step.Upgrade
next_served s caller Rebuild =
    if length (downs s.site s.log) == 0 then step.Whole else unless_held (rebuild_holder caller s.rebuild) (next_piece s.site.shape.block s.rebuild)
next_served s caller (Drain node) =
    if is_some (live_on s.site s.log node.0) then unless_held (rebuild_holder caller s.rebuild) step.Drain else step.Clear

abbrev pub next_step : Seg → (caller : ℕ) → Asked → Step
next_step s caller call =
    if is_some (refusal s.site.shape call) then step.Refuse
    else if is_over s.site s.log then step.Lost
    else next_served s caller call
