-- What it means that a step comes next.
use Rattle.std.specs.Prelude.{◌≡◌, ◌≢◌, ◌↔◌, ℕ, ◌<◌, ◌≤◌, true, false, Option, Some, None, is_some, List, []}
use Rattle.cod_types.specs.Limits.{Shape}
use Rattle.cod_types.specs.Plain.{refusal}
use Rattle.cod_types.specs.declared.call.NodeId.{NodeId}
use Rattle.cod_types.specs.declared.call.Call.{Call as Asked}
use Rattle.cod_types.specs.declared.call.Call.TheVariants.{Write, Swap, Put, Rebuild, Drain}
use Rattle.cod_types.specs.declared.call.Reply.TheVariants.{Clear, Lost, Whole}
use Rattle.cod_chronicle.specs.Legal.{IsAnswer, IsLiveOn}
use Rattle.cod_chronicle.specs.Said.{downs, is_over}
use Rattle.cod_claims.specs.declared.claim.Claim.{Claim}
use Rattle.cod_claims.specs.declared.claims.Held.{Held}
use Rattle.cod_claims.specs.Claimed.{claim_at, first_holder, HasNone, is_applied, is_noted, is_of, is_wanted}
use Rattle.cod_seg.specs.Seg.{col_at, Rebuilding, Seg, Target}
use Rattle.cod_seg.specs.Sound.{is_update, length_on, Sound}
use Rattle.cod_seg.specs.Steps.{IsEverywhere}
use Rattle.cod_seg.specs.Next.{block_holder, has_claim, live_on, next_step, open_in, rebuild_holder, wants}
use Rattle.cod_seg.specs.declared.next.Step.TheVariants as step

-- The caller has no claim, and each block that its update meets is free.
pub record IsToBegin (s : Seg) (caller : ℕ) (call : Asked) : Type 0 where
  pub free : refusal s.site.shape call ≡ None
  pub few : is_over s.site s.log ≡ false
  pub update : is_update call ≡ true
  pub idle : HasNone caller s.claims
  pub vacant : (j : ℕ) → j < s.site.shape.k → 1 ≤ length_on s.site.shape call j → claim_at s.claims j ≡ None

abbrev pub BeginWhereFree : Type 0
BeginWhereFree = (s : Seg) (caller : ℕ) (call : Asked) → Sound s → next_step s caller call ≡ step.Begin → IsToBegin s caller call

-- No other caller has a claim. So where the caller has none, none is there.
pub record IsToPut (s : Seg) (caller : ℕ) (call : Asked) : Type 0 where
  pub free : refusal s.site.shape call ≡ None
  pub few : is_over s.site s.log ≡ false
  pub bytes : List ℕ
  pub asked : call ≡ Put bytes
  pub vacant : HasNone caller s.claims → (j : ℕ) → claim_at s.claims j ≡ None

abbrev pub PutWhereVacant : Type 0
PutWhereVacant = (s : Seg) (caller : ℕ) (call : Asked) → Sound s → next_step s caller call ≡ step.Put → IsToPut s caller call

-- Block j's data column is up and doesn't have the caller's part, which has claimed the block.
pub record IsDataDue (s : Seg) (caller j : ℕ) : Type 0 where
  pub few : is_over s.site s.log ≡ false
  pub among : j < s.site.shape.k
  pub mine : is_of caller (claim_at s.claims j) ≡ true
  pub up : (col_at s.cols j).is_up ≡ true
  pub fresh : is_applied (claim_at s.claims j) ≡ false

abbrev pub DataWhereDue : Type 0
DataWhereDue = (s : Seg) (caller j : ℕ) (call : Asked) → next_step s caller call ≡ step.Data j → IsDataDue s caller j

-- Parity column i is up and has no record of the caller's part in block j, and each data column that is up has its part.
pub record IsParityDue (s : Seg) (caller j i : ℕ) : Type 0 where
  pub few : is_over s.site s.log ≡ false
  pub among : j < s.site.shape.k
  pub mine : is_of caller (claim_at s.claims j) ≡ true
  pub from : s.site.shape.k ≤ i
  pub below : i < s.site.shape.n
  pub up : (col_at s.cols i).is_up ≡ true
  pub fresh : is_noted i (claim_at s.claims j) ≡ false
  pub applied : (m : ℕ) → is_of caller (claim_at s.claims m) ≡ true → (col_at s.cols m).is_up ≡ true → is_applied (claim_at s.claims m) ≡ true

abbrev pub ParityWhereDue : Type 0
ParityWhereDue = (s : Seg) (caller j i : ℕ) (call : Asked) → Sound s → next_step s caller call ≡ step.Parity j i → IsParityDue s caller j i

-- A caller's update has its claims, and has been done on each column that is up.
pub record IsToCommit (s : Seg) (caller : ℕ) : Type 0 where
  pub few : is_over s.site s.log ≡ false
  pub block : ℕ
  pub mine : is_of caller (claim_at s.claims block) ≡ true
  pub everywhere : IsEverywhere s.site.shape.k s.site.shape.n caller s.cols s.claims

abbrev pub CommitWhereEverywhere : Type 0
CommitWhereEverywhere = (s : Seg) (caller : ℕ) (call : Asked) → Sound s → next_step s caller call ≡ step.Commit → IsToCommit s caller

-- why a call is held: another caller has a block that it wants, or brings a column up
abbrev pub IsHeldBy : Seg → (caller : ℕ) → Asked → Held → Type 0
IsHeldBy s caller (Write off bytes) h = (has_claim caller s.claims ≡ false) × (block_holder s.site.shape (Write off bytes) caller s.claims ≡ Some h)
IsHeldBy s caller (Swap off old new) h = (has_claim caller s.claims ≡ false) × (block_holder s.site.shape (Swap off old new) caller s.claims ≡ Some h)
IsHeldBy s caller (Put bytes) h = block_holder s.site.shape (Put bytes) caller s.claims ≡ Some h
IsHeldBy s caller Rebuild h = (downs s.site s.log ≢ []) × (rebuild_holder caller s.rebuild ≡ Some h)
IsHeldBy s caller (Drain node) h = (is_some (live_on s.site s.log node.0) ≡ true) × (rebuild_holder caller s.rebuild ≡ Some h)
IsHeldBy s caller _ h = ⊥

-- a call is held exactly there, where it is neither refused nor lost
abbrev pub HeldExactly : Type 0
HeldExactly = (s : Seg) (caller : ℕ) (call : Asked) (h : Held)
    → (next_step s caller call ≡ step.Held h) ↔ ((refusal s.site.shape call ≡ None) × (is_over s.site s.log ≡ false) × IsHeldBy s caller call h)

-- Whoever holds a call is another caller, and has a call of its own open.
abbrev pub HeldByOpen : Type 0
HeldByOpen = (s : Seg) (caller : ℕ) (call : Asked) (h : Held) → Sound s → next_step s caller call ≡ step.Held h
    → (h.owner.0 ≢ caller) × (asked : Asked) × (open_in s h.owner.0 ≡ Some (h.number, asked))

-- And who has a call open isn't held with it. So of two callers one can always go on.
abbrev pub OpenIsFree : Type 0
OpenIsFree = (s : Seg) (caller number : ℕ) (call : Asked) (h : Held) → Sound s → open_in s caller ≡ Some (number, call)
    → next_step s caller call ≢ step.Held h

-- the caller's rebuild has a target, and so many of its bytes are there
pub record IsAiming (s : Seg) (caller : ℕ) : Type 0 where
  pub r : Rebuilding
  pub t : Target
  pub was : s.rebuild ≡ Some r
  pub mine : r.caller ≡ caller
  pub goal : r.target ≡ Some t

-- a column is down, and the caller's rebuild, if it has begun, has no target
pub record IsToAim (s : Seg) (caller : ℕ) : Type 0 where
  pub some : downs s.site s.log ≢ []
  pub goal : (r : Rebuilding) → s.rebuild ≡ Some r → (r.caller ≡ caller) × (r.target ≡ None)

abbrev pub StartWhereNoTarget : Type 0
StartWhereNoTarget = (s : Seg) (caller : ℕ) (call : Asked) → next_step s caller call ≡ step.RebuildStart → IsToAim s caller

abbrev pub PieceWhereNotWhole : Type 0
PieceWhereNotWhole = (s : Seg) (caller : ℕ) (call : Asked) → next_step s caller call ≡ step.RebuildPiece
    → (aiming : IsAiming s caller) × (aiming.t.filled < s.site.shape.block)

abbrev pub EndWhereWhole : Type 0
EndWhereWhole = (s : Seg) (caller : ℕ) (call : Asked) → Sound s → next_step s caller call ≡ step.RebuildEnd
    → (aiming : IsAiming s caller) × (aiming.t.filled ≡ s.site.shape.block)

-- a live column is on the drained node, and no other caller's rebuild is in progress
pub record IsToMove (s : Seg) (caller : ℕ) (call : Asked) : Type 0 where
  pub node : NodeId
  pub asked : call ≡ Drain node
  pub col : ℕ
  pub found : live_on s.site s.log node.0 ≡ Some col
  pub live : IsLiveOn s.site s.log node.0 col
  pub calm : (r : Rebuilding) → s.rebuild ≡ Some r → r.caller ≡ caller

abbrev pub DrainWhereLive : Type 0
DrainWhereLive = (s : Seg) (caller : ℕ) (call : Asked) → next_step s caller call ≡ step.Drain → IsToMove s caller call

-- What is answered at once is right.
pub record AreAnswers (s : Seg) (caller : ℕ) (call : Asked) : Type 0 where
  pub lost : next_step s caller call ≡ step.Lost → IsAnswer s.site s.log call Lost
  pub whole : next_step s caller call ≡ step.Whole → IsAnswer s.site s.log call Whole
  pub clear : next_step s caller call ≡ step.Clear → IsAnswer s.site s.log call Clear

abbrev pub AnswersAtOnce : Type 0
AnswersAtOnce = (s : Seg) (caller : ℕ) (call : Asked) → Sound s → AreAnswers s caller call

-- Who holds a wanted block is told by the wanted blocks as bits, too.
abbrev pub HolderByBits : Type 0
HolderByBits = (g : Shape) (call : Asked) (caller bits : ℕ) (claims : List (Option Claim)) → ((j : ℕ) → j < 16 → is_wanted bits j ≡ wants g call j)
    → first_holder bits caller claims ≡ block_holder g call caller claims
