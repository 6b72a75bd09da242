-- How much is left to do at a segment for the calls in progress, and what an event does to it.
use Rattle.std.specs.Prelude.{ℕ, ◌+◌, ◌-◌, ◌*◌, ◌<◌, ◌≤◌, ◌==◌, ◌&&◌, ◌||◌, not, if◌then◌else◌, Bool, false, Option, Some, None, is_some, List}
use Rattle.std.specs.Int.{div_ceil}
use Rattle.cod_chronicle.specs.Event.{Kills, Request, Setting}
use Rattle.cod_chronicle.specs.Said.{Site}
use Rattle.cod_claims.specs.declared.claim.Claim.{Claim}
use Rattle.cod_claims.specs.declared.claims.Held.{Held}
use Rattle.cod_claims.specs.Claimed.{claim_at, is_noted}
use Rattle.cod_seg.specs.Next.{open_in}
use Rattle.cod_seg.specs.Seg.{Col, col_at, Rebuilding, Seg, Target}
use Rattle.cod_seg.specs.Sound.{Sound}
use Rattle.cod_segment.specs.declared.asking.Outcome.{Outcome}
use Rattle.cod_segment.specs.declared.asking.Outcome.TheVariants as outcome
use Rattle.cod_segment.specs.Exact.{fault_at}
use Rattle.cod_turns.specs.Progress.{GoesOn, idle_weight, most_todo, Progress, total, work_of}
use Rattle.cod_turns.specs.Rounds.{IsProgress}
use Rattle.cod_advance.specs.Served.{IsCalm, IsEvent, turned_by}

-- so many bytes are so many pieces of 4096 bytes, of which the last may be shorter
abbrev pub pieces_in : (bytes : ℕ) → ℕ
pieces_in bytes = div_ceil bytes 4096

abbrev pub one_if : Bool → ℕ
one_if b = if b then 1 else 0

-- how many of the numbers below n pass a test
abbrev pub count_of : (ℕ → Bool) → (n : ℕ) → ℕ
count_of passes n = total (λ i. one_if (passes i)) n

-- ---- the parts of updates

-- a claim's part isn't applied, and its data column, this one, is up
abbrev pub is_to_apply : (data_col : Col) → Option Claim → Bool
is_to_apply column None = false
is_to_apply column (Some c) = column.is_up && not c.applied

-- it isn't noted on column i, which is up
abbrev pub is_to_note : List Col → Option Claim → (i : ℕ) → Bool
is_to_note cols None i = false
is_to_note cols (Some c) i = (col_at cols i).is_up && not (is_noted i (Some c))

-- what is to be done for the claim of block j: its part on the data column, and its records on the parity columns, from k up to n
abbrev pub to_do_for : (k n : ℕ) → List Col → List (Option Claim) → (j : ℕ) → ℕ
to_do_for k n cols claims j =
    one_if (is_to_apply (col_at cols j) (claim_at claims j)) + count_of (λ i. is_to_note cols (claim_at claims j) (k + i)) (n - k)

-- ---- a rebuild

-- the target is on the node
abbrev pub is_target_on : Option Target → (node : ℕ) → Bool
is_target_on None x = false
is_target_on (Some t) x = t.room.node.0 == x

abbrev pub is_goal_on : Option Rebuilding → (node : ℕ) → Bool
is_goal_on None x = false
is_goal_on (Some r) x = is_target_on r.target x

-- a node that isn't killed, and isn't broken for the rebuild in progress unless the target is there
abbrev pub is_free : Kills → Option Rebuilding → (node : ℕ) → Bool
is_free kills rebuild x = not (is_some (kills x)) && (not (is_some (fault_at rebuild x)) || is_goal_on rebuild x)

-- the pieces that a rebuild's target lacks; all and one more where there is no target, or its node was killed
abbrev pub left_on : Kills → (block : ℕ) → Option Target → ℕ
left_on kills block None = pieces_in block + 1
left_on kills block (Some t) = if is_some (kills t.room.node.0) then pieces_in block + 1 else pieces_in (block - t.filled)

abbrev pub left_of : Kills → (block : ℕ) → Option Rebuilding → ℕ
left_of kills block None = 0
left_of kills block (Some r) = left_on kills block r.target

-- ---- a segment

-- its live columns; of so many clients those that have nothing open here; what is to be done for its claims; its free nodes; and what is
-- left of a rebuild
abbrev pub progress_of : Kills → (clients : ℕ) → Seg → Progress
progress_of kills clients s =
    record {
      live = count_of (λ i. (col_at s.cols i).is_up) s.site.shape.n;
      idle = count_of (λ c. not (is_some (open_in s c))) clients;
      todo = total (to_do_for s.site.shape.k s.site.shape.n s.cols s.claims) 16;
      free = count_of (is_free kills s.rebuild) s.site.nodes;
      left = left_of kills s.site.shape.block s.rebuild;
    }

-- the same as one number
abbrev pub work_at : Kills → (clients : ℕ) → Seg → ℕ
work_at kills clients s = work_of (pieces_in s.site.shape.block) (progress_of kills clients s)

-- more it never is: each column is live, each client has nothing open, each claim is to be done whole, each node is free, and a rebuild
-- has no target
abbrev pub most_work : (columns clients nodes pieces : ℕ) → ℕ
most_work columns clients nodes pieces = columns + (clients * idle_weight pieces + (most_todo + (nodes * (pieces + 2) + (pieces + 1))))

abbrev pub most_at : Site → (clients : ℕ) → ℕ
most_at site clients = most_work site.shape.n clients site.nodes (pieces_in site.shape.block)

-- ---- laws

-- an event that goes on with a call of one of the clients leaves less to do
abbrev pub MovingLessens : Type 0
MovingLessens = (w : Setting) (r : Request) (t after clients : ℕ) (s u : Seg) → IsEvent w r t after outcome.Moved s u → IsCalm w → r.caller < clients
    → GoesOn (pieces_in s.site.shape.block) (progress_of w.known clients s) (progress_of w.known clients u)

-- where the call is held there is no more than before
abbrev pub HoldingAddsNone : Type 0
HoldingAddsNone = (w : Setting) (r : Request) (t after clients : ℕ) (h : Held) (s u : Seg) → IsEvent w r t after (outcome.Held h) s u → IsCalm w
    → work_at w.known clients u ≤ work_at w.known clients s

-- whatever comes of calls and of kills
abbrev pub WorkIsBounded : Type 0
WorkIsBounded = (kills : Kills) (clients : ℕ) (s : Seg) → Sound s → work_at kills clients s ≤ most_at s.site clients

-- So a turn's event does to the work what makes rounds end.
abbrev pub EventIsProgress : Type 0
EventIsProgress = (w : Setting) (r : Request) (t after clients : ℕ) (outcome : Outcome) (s u : Seg) → IsEvent w r t after outcome s u
    → IsCalm w → r.caller < clients
    → IsProgress (most_at s.site clients) (turned_by outcome) (work_at w.known clients s) (work_at w.known clients u)
