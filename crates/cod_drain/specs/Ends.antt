-- How a drain ends, once its column was copied or was not.
use Rattle.std.specs.Prelude.{◌≡◌, ◌≢◌, ℕ, ◌<◌, All, List, [], ◌∷◌, ◌++◌, Option, Some, None, true, false}
use Rattle.cod_types.specs.declared.call.Call.{Call as Asked}
use Rattle.cod_types.specs.declared.call.Call.TheVariants.{Drain}
use Rattle.cod_types.specs.declared.call.Caller.{Caller}
use Rattle.cod_types.specs.declared.call.Reply.TheVariants.{Shifted}
use Rattle.cod_types.specs.declared.reasons.Reason.{Reason}
use Rattle.cod_chronicle.specs.declared.entry.Entry.TheVariants.{Call, Move}
use Rattle.cod_board.specs.declared.kill.Kill.{Kill as Killed}
use Rattle.cod_chronicle.specs.Event.{Request, Setting}
use Rattle.cod_chronicle.specs.Legal.{IsLiveOn, node_id}
use Rattle.cod_chronicle.specs.Said.{clock_of, is_over, next_stamp, node_of, numbers_by, Precedes, StampFollows}
use Rattle.cod_claims.specs.Claimed.{HasNone, without_marks}
use Rattle.cod_claims.specs.Slips.{Paper}
use Rattle.cod_seg.specs.Calls.{costs}
use Rattle.cod_seg.specs.Seg.{col_at, Seg, Target, with_col}
use Rattle.cod_seg.specs.Sound.{Sound}
use Rattle.cod_seg.specs.Steps.{placed_col}
use Rattle.cod_seg.specs.declared.next.Step.TheVariants as step
use Rattle.cod_segment.specs.Events.{Counts, is_answered, IsOutcome, IsSettingOf, kills_at, Makes}
use Rattle.cod_segment.specs.Exact.{Exactly}
use Rattle.cod_segment.specs.declared.asking.Outcome.{Outcome}
use Rattle.cod_placing.specs.Places.{HasNoSpare}
use Rattle.cod_drain.specs.Copies.{MayCome, place_of}
use Rattle.cod_drain.specs.declared.plan.Plan.{Plan}
use Rattle.cod_drain.specs.declared.trying.Tried.{Tried}
use Rattle.cod_drain.specs.declared.trying.Tried.TheVariants.{Copied, Failed, NoSpare, NoMemory}

-- the drain of the node that column i is on
abbrev pub drain_of : Seg → (i : ℕ) → Asked
drain_of s i = Drain (node_id (node_of s.site s.log i))

-- A slip has the drain of column i, with two links. Its caller has nothing open, nor has anybody a rebuild in progress, and its number
-- is above those of the caller's calls.
pub record IsDraining (s : Seg) (i caller number : ℕ) (p : Paper) : Type 0 where
  pub call : p.call ≡ Some (drain_of s i)
  pub links : p.links ≡ 2
  pub unanswered : p.reply ≡ None
  pub idle : HasNone caller s.claims
  pub calm : s.rebuild ≡ None
  pub newest : All (λ m. m < number) (numbers_by caller s.log)

-- column i is live, and not too many columns are down
pub record IsServed (s : Seg) (i : ℕ) : Type 0 where
  pub below : i < s.site.shape.n
  pub live : (col_at s.cols i).is_up ≡ true
  pub few : is_over s.site s.log ≡ false

-- The plan's column has come to the target, and its drain is answered.
pub record Enters (p : Plan) (goal : Target) (caller : Caller) (number t after : ℕ) (s u : Seg) (paper : Paper) : Type 0 where
  pub first : ℕ
  pub stamp : first ≡ next_stamp (clock_of s.log) t
  pub follows : StampFollows s.log first
  pub last : after ≡ next_stamp first first
  pub next : Precedes first after
  pub becomes : u ≡ record s {
    cols = with_col s.cols p.col (placed_col s.site.shape (place_of p goal));
    claims = without_marks p.col s.claims;
    log = (s.log ++ Move first p.col goal.room.node ∷ []) ++ Call caller number after (drain_of s p.col) (Shifted p.col goal.room.node) ∷ [];
  }
  pub told : paper.reply ≡ Some (Shifted p.col goal.room.node)

module _ {R : Type 0} where
  -- what holds where a try came to this end
  abbrev pub MayEnd : (p : Plan) (kills : List (Option Killed)) (reasons : List Reason) (s : Seg) → Tried R → Type 0
  MayEnd p kills reasons s (Copied goal) = IsServed s p.col × MayCome s p kills goal
  MayEnd p kills reasons s Failed = (c : ℕ) → IsLiveOn s.site s.log (node_of s.site s.log p.col) c → ⊥
  MayEnd p kills reasons s NoSpare = IsServed s p.col × HasNoSpare s p.col kills reasons
  MayEnd p kills reasons s NoMemory = IsServed s p.col

-- The drain of column i has ended: `before` are the kills that its board knew, and `now` those that it knows.
pub record Ends (i : ℕ) (before now : List (Option Killed)) (r : Request) (t after : ℕ) (result : Outcome) (s u : Seg) (p : Paper) : Type 0 where
  pub sound : Sound u
  pub makes : (w : Setting) → IsSettingOf w s → ((x : ℕ) → w.seen x ≡ kills_at now x) → Makes w r t after (is_answered result) s u
  pub exact : (w : Setting) → ((x : ℕ) → w.known x ≡ kills_at before x) → Exactly w step.Drain result s u
  pub outcome : IsOutcome result r after u p
  pub others : (m : ℕ) → m ≢ i → col_at u.cols m ≡ col_at s.cols m
  pub own : (col_at u.cols i).room.node ≡ (col_at s.cols i).room.node
      → (times : ℕ) × Counts (costs times 0) (col_at s.cols i).state.device (col_at u.cols i).state.device
