-- A round over the parity columns whose call is answered then.
use Rattle.std.proofs.Common.{◌≡◌, ◌≢◌, inl, ℕ, ◌<◌, ◌++◌, ◌∷◌, [], List, All, Bool, true, false, cond, Option, Some, None, refl, sym, ap, ◌∙◌, subst}
use Rattle.std.proofs.lemmas.Bool.{both_ways}
use Rattle.cod_types.specs.declared.call.Call.{Call as Asked}
use Rattle.cod_types.specs.declared.call.Call.TheVariants.{Merge, Rebuild, Tick}
use Rattle.cod_types.specs.declared.call.Caller.{Caller}
use Rattle.cod_types.specs.declared.call.Reply.TheVariants.{Done, Lost}
use Rattle.cod_chronicle.specs.declared.entry.Entry.{Entry}
use Rattle.cod_chronicle.specs.declared.entry.Entry.TheVariants.{Call}
use Rattle.cod_chronicle.specs.Event.{IsSeenReply, Setting}
use Rattle.cod_chronicle.specs.Laws.{IsQuietAnswer, quiet_reply}
use Rattle.cod_chronicle.specs.Said.{bytes_of, clock_of, is_over, next_stamp, Site, StampFollows}
use Rattle.cod_chronicle.proofs.Answering.{answers_quietly}
use Rattle.cod_claims.specs.Claimed.{HasNone}
use Rattle.cod_claims.specs.declared.claim.Claim.{Claim}
use Rattle.cod_claims.specs.Slips.{Paper}
use Rattle.cod_seg.specs.Calls.{column_costs, costs_on, nothing}
use Rattle.cod_seg.specs.Next.{next_step, open_in, open_of}
use Rattle.cod_seg.specs.Seg.{Col, col_at, Rebuilding, Seg, Target}
use Rattle.cod_seg.specs.Sound.{IsOther, is_update, Sound}
use Rattle.cod_seg.specs.declared.next.Step.{Step}
use Rattle.cod_seg.specs.declared.next.Step.TheVariants as step
use Rattle.cod_seg.proofs.Choosing.{served}
use Rattle.cod_region.specs.Device.{Device}
use Rattle.cod_segment.specs.Events.{Costs, Counts, CountsColumn, CountsRebuild, CountsTarget, IsAsked, IsSettingOf, Makes, NoneFails, request_of}
use Rattle.cod_segment.proofs.Answering.{answered, idle, IsStepOf, step_of, unopened}
use Rattle.cod_rounds.specs.Rounds.{Tended, tending_cost}
use Rattle.cod_rounds.proofs.Passing.{and_then}

-- ---- the call

-- It is no update and no rebuild, changes no byte, and is answered Done, or Lost where too many columns are down.
pub record IsTending (call : Asked) : Type 0 where
  pub update : is_update call ≡ false
  pub other : call ≢ Rebuild
  pub quiet : (site : Site) (h : List Entry) → IsQuietAnswer site h call

pub merge_is : (s : Seg) (caller : ℕ) (call : Asked) → next_step s caller call ≡ step.Merge → IsTending call
merge_is s caller call next =
    let is : call ≡ Merge = (let v = served s caller call step.Merge tt next in subst (IsStepOf call) v.is (step_of s caller call)) in
    rw is (record { update = refl; other = λ e. cc; quiet = λ site h. answers_quietly site h Merge tt refl })

pub tick_is : (s : Seg) (caller : ℕ) (call : Asked) → next_step s caller call ≡ step.Tick → IsTending call
tick_is s caller call next =
    let is : call ≡ Tick = (let v = served s caller call step.Tick tt next in subst (IsStepOf call) v.is (step_of s caller call)) in
    rw is (record { update = refl; other = λ e. cc; quiet = λ site h. answers_quietly site h Tick tt refl })

-- its caller has nothing open
pub tending_idle : (s : Seg) (caller number : ℕ) (p : Paper) (call : Asked) → IsTending call → Sound s → IsAsked s caller number p call → open_in s caller ≡ None
tending_idle s caller number p call is sound asked = unopened s caller number p call asked
    (λ j c there e. both_ways (is_update call) is.update (subst (λ (x : Asked). is_update x ≡ true) e (sound.claimed.each j c there).update))
    (λ r was e. is.other e)

-- ---- the answer

seen_quiet : (w : Setting) (b : Bool) → IsSeenReply w.seen w.may (cond b Lost Done)
seen_quiet w true = tt
seen_quiet w false = tt

pub makes_tended : (w : Setting) (s u v : Seg) (caller : Caller) (number stamp t mid to : ℕ) (p : Paper) (call : Asked) → IsTending call → Sound s → IsAsked s caller.0 number p call
    → IsSettingOf w s → Tended to s t u mid → stamp ≡ next_stamp (clock_of u.log) mid → StampFollows u.log stamp
    → v ≡ record u { log = u.log ++ Call caller number stamp call (quiet_reply u.site u.log) ∷ [] }
    → Makes w (request_of caller.0 number call) t stamp true s v
makes_tended w s u v caller number stamp t mid to p call is sound asked setting round next follows becomes =
    let runs = round.runs in
    let calm = idle s caller.0 sound (tending_idle s caller.0 number p call is sound asked) in
    let quiet = is.quiet u.site u.log in
    and_then w (request_of caller.0 number call) t mid stamp true s u v (round.makes w (request_of caller.0 number call) setting)
    (answered w u v caller number stamp mid u.version call (quiet_reply u.site u.log) (subst (HasNone caller.0) (sym runs.claims) calm.0)
    (subst (IsOther caller.0) (sym runs.rebuild) calm.1) (subst (All (λ m. m < number)) (sym (runs.numbers caller.0)) asked.newest) quiet.answer
    (quiet.bytes (bytes_of u.site u.log) caller number stamp) (inl refl) (seen_quiet w (is_over u.site u.log)) next follows becomes)

-- the caller has nothing open after the round, too
pub open_after : (s u : Seg) (caller : ℕ) → u.claims ≡ s.claims → u.rebuild ≡ s.rebuild → open_in s caller ≡ None → open_in u caller ≡ None
open_after s u caller claims rebuild none =
    ap (λ (c : List (Option Claim)). open_of caller c u.rebuild) claims ∙ ap (λ (r : Option Rebuilding). open_of caller s.claims r) rebuild ∙ none

-- ---- its device calls

-- nothing is called on a target that stays
same_target : (x : Option Target) → CountsTarget nothing x x
same_target None = tt
same_target (Some t) = (refl, refl)

pub same_rebuild : (s : Seg) (caller : ℕ) (next : Step) (o : Option Rebuilding) → ((col : ℕ) (t : Target) → costs_on s caller col next t ≡ nothing) → CountsRebuild s caller next o o
same_rebuild s caller next None free = tt
same_rebuild s caller next (Some r) free = λ t goal. rw (free r.col t) (same_target r.target)

pub costs_tended : (s u v : Seg) (caller : ℕ) (call : Asked) (next : Step) (t mid : ℕ)
    → ((i : ℕ) (old new : Device) → Counts (column_costs s call next i) old new → CountsColumn s call next i old new) → ((i : ℕ) → column_costs s call next i ≡ cond (col_at s.cols i).is_up (tending_cost s i) nothing)
    → ((col : ℕ) (goal : Target) → costs_on s caller col next goal ≡ nothing) → Tended s.site.shape.n s t u mid → (log : List Entry) → v ≡ record u { log = log } → NoneFails s v
    → Costs s caller call next v
costs_tended s u v caller call next t mid counted each free round log becomes none =
    let cols : v.cols ≡ u.cols = ap (λ (x : Seg). x.cols) becomes in
    record {
      columns = λ i lt node.
          let counts = round.counts i lt (λ up. subst (λ (c : List Col). (col_at c i).is_up ≡ true) cols (none i lt up)) in
          let same : Counts (column_costs s call next i) (col_at s.cols i).state.device (col_at v.cols i).state.device = rw (each i, cols) counts in
          counted i (col_at s.cols i).state.device (col_at v.cols i).state.device same;
      target = subst (CountsRebuild s caller next s.rebuild) (sym (ap (λ (x : Seg). x.rebuild) becomes ∙ round.runs.rebuild)) (same_rebuild s caller next s.rebuild free);
    }
