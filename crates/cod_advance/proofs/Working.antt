-- What each event does to the work at its segment.
use Rattle.std.proofs.Common.{◌≡◌, ◌⊎◌, inl, inr, ℕ, ◌<◌, ◌≤◌, Bool, true, false, cond, Option, Some, None, List, refl, sym, ap, ◌∙◌, subst, arith}
use Rattle.std.specs.Prelude.{◌==◌, not, is_some}
use Rattle.std.proofs.lemmas.Bool.{both_ways, cases_eq}
use Rattle.cod_types.specs.declared.call.Call.{Call as Asked}
use Rattle.cod_types.specs.declared.call.Call.TheVariants.{Read, Write, Swap, Put, Merge, Tick, Rebuild, Upgrade, Drain}
use Rattle.cod_chronicle.specs.Event.{Kills, Request, Setting}
use Rattle.cod_chronicle.specs.Said.{Site}
use Rattle.cod_claims.specs.declared.claim.Claim.{Claim}
use Rattle.cod_claims.specs.declared.claims.Held.{Held}
use Rattle.cod_claims.specs.Claimed.{claim_at, HasNone, is_noted, open_call, with_applied, with_note}
use Rattle.cod_claims.proofs.Opening.{opens_by_claim, opens_none}
use Rattle.cod_claims.specs.Slips.{Paper}
use Rattle.cod_seg.specs.Choices.{IsAiming}
use Rattle.cod_seg.specs.Next.{block_holder, has_claim, next_part, next_served, next_step, open_in, open_of, unless_held}
use Rattle.cod_seg.specs.Seg.{Col, col_at, Rebuilding, Seg, Target}
use Rattle.cod_seg.specs.Sound.{HasTarget, IsRebuilding, IsTarget, is_update, MayRebuild, Sound}
use Rattle.cod_seg.specs.Steps.{Applies, filled_with, Marks, Notes}
use Rattle.cod_seg.specs.declared.next.Step.{Step}
use Rattle.cod_seg.specs.declared.next.Step.TheVariants as step
use Rattle.cod_seg.proofs.Beginnings.{begin_where_free}
use Rattle.cod_seg.proofs.Choosing.{data_where_due, IsPart, next_is, parity_where_due, served}
use Rattle.cod_seg.proofs.Keeping.{col_here}
use Rattle.cod_seg.proofs.Serving.{piece_where_not_whole, start_where_no_target}
use Rattle.cod_segment.specs.declared.asking.Outcome.TheVariants as outcome
use Rattle.cod_segment.specs.Events.{IsAsked}
use Rattle.cod_segment.specs.Exact.{Aimed, Breaks, Brings, Falls, Fetches, GoesOnBy, SweepsExactly, SweepsRebuild}
use Rattle.cod_turns.specs.Progress.{GoesOn, Progress, work_of}
use Rattle.cod_turns.proofs.Progressing.{going_on_is_less}
use Rattle.cod_advance.specs.Served.{IsCalm}
use Rattle.cod_advance.specs.Work.{EventIsProgress, HoldingAddsNone, is_free, is_to_apply, is_to_note, left_of, most_at, MovingLessens, pieces_in, progress_of, work_at}
use Rattle.cod_advance.proofs.Bringing.{aimed_free, aimed_left, broken_free, broken_not_free, brought_free, brought_left, goal_was_free, left_most, swept_free, swept_left}
use Rattle.cod_advance.proofs.Coming.{swept_alive}
use Rattle.cod_advance.proofs.Counting.{and_both, count_le, count_less, not_false, not_true}
use Rattle.cod_advance.proofs.Easing.{applied_done, applied_eases, Eases, noted_done, noted_eases, NoneRises, same_eases, to_do_applies, to_do_eases, to_do_notes}
use Rattle.cod_advance.proofs.Falling.{goes_on_after, made_falls, no_more_work, NoMore, shown, todo_most, work_is_bounded}
use Rattle.cod_advance.proofs.Serving.{event_is_turn, IsMade, made, sweep_keeps_open}

-- ---- a sweep

swept_less : (w : Setting) (clients : ℕ) (s mid : Seg) → IsCalm w → NoneRises s.cols mid.cols → SweepsExactly w s mid → NoMore (progress_of w.known clients s) (shown w.known clients s.site mid.cols mid.claims mid.rebuild)
swept_less w clients s mid calm falls exact =
    let g = s.site.shape in
    record {
      live = count_le (λ i. (col_at s.cols i).is_up) (λ i. (col_at mid.cols i).is_up) g.n (λ i lt. falls i);
      idle = count_le (λ c. not (is_some (open_in s c))) (λ c. not (is_some (open_in mid c))) clients
          (λ c lt is. sym (ap (λ (o : Option _). not (is_some o)) (sweep_keeps_open w s mid c exact)) ∙ is);
      todo = to_do_eases g.k g.n s.cols mid.cols s.claims mid.claims
          (λ j. subst (λ (l : List (Option Claim)). Eases s.cols mid.cols j (claim_at s.claims j) (claim_at l j)) (sym exact.claims) (same_eases s.cols mid.cols falls j (claim_at s.claims j)));
      free = count_le (is_free w.known s.rebuild) (is_free w.known mid.rebuild) s.site.nodes (λ x lt. swept_free w s.rebuild mid.rebuild x exact.rebuild);
      left = swept_left w calm g.block s.rebuild mid.rebuild exact.rebuild;
    }

shown_is : (kills : Kills) (clients : ℕ) (s u : Seg) → u.site ≡ s.site → shown kills clients s.site u.cols u.claims u.rebuild ≡ progress_of kills clients u
shown_is kills clients s u site = ap (λ (q : Site). shown kills clients q u.cols u.claims u.rebuild) (sym site)

-- ---- who begins has nothing open

-- a rebuild's step is of no update
start_no_part : (x : Step) → IsPart x → x ≡ step.RebuildStart → ⊥
start_no_part x part is = subst IsPart is part

start_no_update : (s : Seg) (caller : ℕ) (call : Asked) → is_update call ≡ true → next_served s caller call ≡ step.RebuildStart → ⊥
start_no_update s caller call update is = by call update is where
  its : (c : Asked) (b : Bool)
      → cond b (next_part s.site.shape.k s.site.shape.n s.cols s.claims caller) (unless_held (block_holder s.site.shape c caller s.claims) step.Begin) ≡ step.RebuildStart → ⊥
  its c true e = start_no_part (next_part s.site.shape.k s.site.shape.n s.cols s.claims caller) (next_is s.site.shape.k s.site.shape.n s.cols s.claims caller) e
  its c false e = held (block_holder s.site.shape c caller s.claims) e where
    held : (o : Option Held) → unless_held o step.Begin ≡ step.RebuildStart → ⊥
    held None f = cc
    held (Some h) f = cc

  by : (c : Asked) → is_update c ≡ true → next_served s caller c ≡ step.RebuildStart → ⊥
  by (Write off bytes) u e = its (Write off bytes) (has_claim caller s.claims) e
  by (Swap off old new) u e = its (Swap off old new) (has_claim caller s.claims) e
  by (Read off len) u e = cc
  by (Put bytes) u e = cc
  by Merge u e = cc
  by Tick u e = cc
  by Rebuild u e = cc
  by Upgrade u e = cc
  by (Drain node) u e = cc

-- what is open is the rebuild in progress, or a claim's call
open_is : (caller number : ℕ) (call : Asked) (claims : List (Option Claim)) (o : Option Rebuilding) → open_of caller claims o ≡ Some (number, call)
    → ((call ≡ Rebuild) × (is_some o ≡ true)) ⊎ (open_call caller claims ≡ Some (number, call))
open_is caller number call claims None is = inr is
open_is caller number call claims (Some r) is = by (r.caller == caller) is where
  by : (b : Bool) → cond b (Some (r.number, Rebuild)) (open_call caller claims) ≡ Some (number, call)
      → ((call ≡ Rebuild) × (true ≡ true)) ⊎ (open_call caller claims ≡ Some (number, call))
  by true e = (let same : ◌≡◌ {A = ℕ × Asked} (r.number, Rebuild) (number, call) = cc in inl (sym (ap (λ (q : ℕ × Asked). q.1) same), refl))
  by false e = inr e

asked_idle : (s : Seg) (caller number : ℕ) (p : Paper) (call : Asked) → IsAsked s caller number p call → (open_in s caller ≡ Some (number, call) → ⊥) → open_in s caller ≡ None
asked_idle s caller number p call asked never = elim asked.state [ inl a ↦ a.0 | inr a ↦ absurd (never a.0) ]

-- an update that begins
begin_idle : (s : Seg) (caller number : ℕ) (p : Paper) (call : Asked) → IsAsked s caller number p call → HasNone caller s.claims → is_update call ≡ true → open_in s caller ≡ None
begin_idle s caller number p call asked none update = asked_idle s caller number p call asked (λ e. elim (open_is caller number call s.claims s.rebuild e) [
  | inl a ↦ (let wrong : is_update Rebuild ≡ true = subst (λ (c : Asked). is_update c ≡ true) a.0 update in cc)
  | inr a ↦ (let wrong : None ≡ Some (number, call) = sym (opens_none s.claims caller none) ∙ a in cc)
])

-- a rebuild that begins
start_idle : (s : Seg) (caller number : ℕ) (p : Paper) (call : Asked) → Sound s → IsAsked s caller number p call → s.rebuild ≡ None → (is_update call ≡ true → ⊥) → open_in s caller ≡ None
start_idle s caller number p call sound asked calm none = asked_idle s caller number p call asked (λ e. elim (open_is caller number call s.claims s.rebuild e) [
  | inl a ↦ both_ways (is_some s.rebuild) (ap is_some calm) a.1
  | inr a ↦
      let o = opens_by_claim s.claims caller number call a in
      none (subst (λ (c : Asked). is_update c ≡ true) o.call_is (sound.claimed.each o.block o.claim o.there).update)
])

-- no rebuild behind a sweep, where none was before it
unswept : (w : Setting) (old new : Option Rebuilding) → SweepsRebuild w old new → new ≡ None → old ≡ None
unswept w None new is e = refl
unswept w (Some r) new is e = cc

-- ---- the step behind the sweep

-- what is known of it
record IsStep (w : Setting) (r : Request) (t after : ℕ) (s mid u : Seg) : Type 0 where
  calm : IsCalm w
  before : Sound s
  sound : Sound mid
  old : Paper
  asked : IsAsked s r.caller r.number old r.call
  swept : SweepsExactly w s mid
  made : IsMade w r t after false mid u
  opens : open_in u r.caller ≡ Some (r.number, r.call)

module _ (w : Setting) (r : Request) (t after clients : ℕ) (s mid u : Seg) (is : IsStep w r t after s mid u) (among : r.caller < clients) where
  falls : NoneRises mid.cols u.cols
  falls = made_falls w r t after mid u is.sound is.made

  abbrev M : Progress
  M = shown w.known clients mid.site mid.cols mid.claims mid.rebuild

  abbrev Q : Progress
  Q = shown w.known clients mid.site u.cols u.claims u.rebuild

  abbrev pieces : ℕ
  pieces = pieces_in mid.site.shape.block

  kept_idle : (c : ℕ) → not (is_some (open_in u c)) ≡ true → not (is_some (open_in mid c)) ≡ true
  kept_idle c e = elim (cases_eq c r.caller) [
    | inl same ↦ absurd (both_ways (is_some (open_in u c)) (not_true (is_some (open_in u c)) e) (ap (λ (x : ℕ). is_some (open_in u x)) same ∙ ap is_some is.opens))
    | inr diff ↦ sym (ap (λ (o : Option (ℕ × Asked)). not (is_some o)) (is.made.others c diff)) ∙ e
  ]

  -- ---- what is no more than before

  live_kept : Q.live ≤ M.live
  live_kept = count_le (λ i. (col_at mid.cols i).is_up) (λ i. (col_at u.cols i).is_up) mid.site.shape.n (λ i lt. falls i)

  live_less : (i : ℕ) → i < mid.site.shape.n → (col_at mid.cols i).is_up ≡ true → (col_at u.cols i).is_up ≡ false → Q.live < M.live
  live_less i lt was now = count_less (λ i. (col_at mid.cols i).is_up) (λ i. (col_at u.cols i).is_up) i mid.site.shape.n lt (λ i lt. falls i) was now

  idle_kept : Q.idle ≤ M.idle
  idle_kept = count_le (λ c. not (is_some (open_in mid c))) (λ c. not (is_some (open_in u c))) clients (λ c lt. kept_idle c)

  idle_less : open_in mid r.caller ≡ None → Q.idle < M.idle
  idle_less none = count_less (λ c. not (is_some (open_in mid c))) (λ c. not (is_some (open_in u c))) r.caller clients among (λ c lt. kept_idle c)
      (ap (λ (o : Option (ℕ × Asked)). not (is_some o)) none) (ap (λ (o : Option (ℕ × Asked)). not (is_some o)) is.opens)

  eases_as : (later : List (Option Claim)) → u.claims ≡ later → ((j : ℕ) → Eases mid.cols u.cols j (claim_at mid.claims j) (claim_at later j))
      → (j : ℕ) → Eases mid.cols u.cols j (claim_at mid.claims j) (claim_at u.claims j)
  eases_as later now each j = subst (λ (l : List (Option Claim)). Eases mid.cols u.cols j (claim_at mid.claims j) (claim_at l j)) (sym now) (each j)

  todo_kept : u.claims ≡ mid.claims → Q.todo ≤ M.todo
  todo_kept same = to_do_eases mid.site.shape.k mid.site.shape.n mid.cols u.cols mid.claims u.claims
      (eases_as mid.claims same (λ j. same_eases mid.cols u.cols falls j (claim_at mid.claims j)))

  free_kept : u.rebuild ≡ mid.rebuild → Q.free ≤ M.free
  free_kept same = count_le (is_free w.known mid.rebuild) (is_free w.known u.rebuild) mid.site.nodes (λ x lt e. sym (ap (λ (o : Option Rebuilding). is_free w.known o x) same) ∙ e)

  free_by : (later : Option Rebuilding) → u.rebuild ≡ later → ((x : ℕ) → is_free w.known later x ≡ true → is_free w.known mid.rebuild x ≡ true) → Q.free ≤ M.free
  free_by later now each = count_le (is_free w.known mid.rebuild) (is_free w.known u.rebuild) mid.site.nodes
      (λ x lt e. each x (sym (ap (λ (o : Option Rebuilding). is_free w.known o x) now) ∙ e))

  left_kept : u.rebuild ≡ mid.rebuild → Q.left ≤ M.left
  left_kept same = (let e = ap (left_of w.known mid.site.shape.block) same in omega (arith, e))

  few : mid.site.shape.n ≤ 16
  few = is.sound.shape.most_columns

  goes : Q.free ≤ M.free → (Q.todo ≤ M.todo) ⊎ (Q.idle < M.idle) → (Q.left ≤ M.left) ⊎ ((Q.idle < M.idle) ⊎ (Q.free < M.free))
      → (Q.live < M.live) ⊎ ((Q.idle < M.idle) ⊎ ((Q.todo < M.todo) ⊎ ((Q.free < M.free) ⊎ (Q.left < M.left)))) → GoesOn pieces M Q
  goes free todo left some = record {
    live = live_kept;
    idle = idle_kept;
    free = free;
    todo = todo;
    left = left;
    most_to_do = todo_most mid.site.shape.k mid.site.shape.n u.cols u.claims few;
    most_left = left_most w.known mid.site.shape.block u.rebuild;
    some = some;
  }

  -- ---- each step

  idle_before : open_in s r.caller ≡ None → open_in mid r.caller ≡ None
  idle_before none = sweep_keeps_open w s mid r.caller is.swept ∙ none

  -- an update begins: its caller opens its call
  begins_less : next_step mid r.caller r.call ≡ step.Begin → u.rebuild ≡ mid.rebuild → GoesOn pieces M Q
  begins_less next same =
      let b = begin_where_free mid r.caller r.call is.sound next in
      let none : HasNone r.caller s.claims = subst (HasNone r.caller) is.swept.claims b.idle in
      let opens = idle_less (idle_before (begin_idle s r.caller r.number is.old r.call is.asked none b.update)) in
      goes (free_kept same) (inr opens) (inl (left_kept same)) (inr (inl opens))

  -- a column goes down
  marks_less : (i : ℕ) → i < mid.site.shape.n → Marks i mid u → GoesOn pieces M Q
  marks_less i lt m =
      let size = is.sound.columns.size in
      let down : (col_at u.cols i).is_up ≡ false =
      ap (λ (x : Seg). (col_at x.cols i).is_up) m.becomes ∙ ap (λ (c : Col). c.is_up) (col_here mid.cols i m.column (omega (arith, size, lt))) ∙ m.down in
      let same : u.rebuild ≡ mid.rebuild = ap (λ (x : Seg). x.rebuild) m.becomes in
      goes (free_kept same) (inl (todo_kept (ap (λ (x : Seg). x.claims) m.becomes))) (inl (left_kept same)) (inl (live_less i lt m.was down))

  -- a part is applied
  applies_less : (j : ℕ) → j < 16 → Applies j mid u → GoesOn pieces M Q
  applies_less j low a =
      let same : u.rebuild ≡ mid.rebuild = ap (λ (x : Seg). x.rebuild) a.becomes in
      let now : u.claims ≡ with_applied j mid.claims = ap (λ (x : Seg). x.claims) a.becomes in
      let was : is_to_apply (col_at mid.cols j) (claim_at mid.claims j) ≡ true =
      ap (is_to_apply (col_at mid.cols j)) a.there ∙ and_both (col_at mid.cols j).is_up (not a.claim.applied) a.live (not_false a.claim.applied a.fresh) in
      let done : is_to_apply (col_at u.cols j) (claim_at u.claims j) ≡ false =
      ap (λ (l : List (Option Claim)). is_to_apply (col_at u.cols j) (claim_at l j)) now ∙ applied_done mid.cols u.cols falls mid.claims is.sound.claimed.sixteen j low in
      let less = to_do_applies mid.site.shape.k mid.site.shape.n mid.cols u.cols mid.claims u.claims j low
      (eases_as (with_applied j mid.claims) now (applied_eases mid.cols u.cols falls mid.claims is.sound.claimed.sixteen j low)) was done in
      goes (free_kept same) (inl (omega (arith, less))) (inl (left_kept same)) (inr (inr (inl less)))

  -- a part is noted
  notes_less : (j i : ℕ) → j < 16 → mid.site.shape.k ≤ i → i < mid.site.shape.n → Notes j i mid u → GoesOn pieces M Q
  notes_less j i low high below n =
      let most = few in
      let same : u.rebuild ≡ mid.rebuild = ap (λ (x : Seg). x.rebuild) n.becomes in
      let now : u.claims ≡ with_note j i n.len mid.claims = ap (λ (x : Seg). x.claims) n.becomes in
      let was : is_to_note mid.cols (claim_at mid.claims j) i ≡ true =
      ap (λ (o : Option Claim). is_to_note mid.cols o i) n.there
      ∙ and_both (col_at mid.cols i).is_up (not (is_noted i (Some n.claim))) n.live (not_false (is_noted i (Some n.claim)) n.fresh) in
      let small : i < 16 = omega (arith, below, most) in
      let done : is_to_note u.cols (claim_at u.claims j) i ≡ false =
      ap (λ (l : List (Option Claim)). is_to_note u.cols (claim_at l j) i) now ∙ noted_done mid.cols u.cols falls mid.claims is.sound.claimed.sixteen j i n.len n.claim n.there low small in
      let less = to_do_notes mid.site.shape.k mid.site.shape.n mid.cols u.cols mid.claims u.claims j i low high below
      (eases_as (with_note j i n.len mid.claims) now (noted_eases mid.cols u.cols falls mid.claims is.sound.claimed.sixteen j i n.len n.claim n.there low small)) was done in
      goes (free_kept same) (inl (omega (arith, less))) (inl (left_kept same)) (inr (inr (inl less)))

  -- a rebuild takes a target: its caller opens its call, or had no target
  aimed_less : next_step mid r.caller r.call ≡ step.RebuildStart → Aimed w.known mid u → GoesOn pieces M Q
  aimed_less next a =
      let now : u.rebuild ≡ Some a.r = ap (λ (x : Seg). x.rebuild) a.becomes in
      let free = free_by (Some a.r) now (aimed_free w.known mid u a) in
      let todo = todo_kept (ap (λ (x : Seg). x.claims) a.becomes) in
      let goal = (start_where_no_target mid r.caller r.call next).goal in
      by mid.rebuild refl free todo goal where
        by : (o : Option Rebuilding) → mid.rebuild ≡ o → Q.free ≤ M.free → Q.todo ≤ M.todo
            → ((q : Rebuilding) → mid.rebuild ≡ Some q → (q.caller ≡ r.caller) × (q.target ≡ None)) → GoesOn pieces M Q
        by None was free todo goal =
            let no_update : is_update r.call ≡ true → ⊥ = λ e. start_no_update mid r.caller r.call e (served mid r.caller r.call step.RebuildStart tt next).is in
            let opens = idle_less (idle_before (start_idle s r.caller r.number is.old r.call is.before is.asked (unswept w s.rebuild mid.rebuild is.swept.rebuild was) no_update)) in
            goes free (inl todo) (inr (inl opens)) (inr (inl opens))
        by (Some q) was free todo goal =
            let now : u.rebuild ≡ Some a.r = ap (λ (x : Seg). x.rebuild) a.becomes in
            let fall = aimed_left w.known mid u a mid.site.shape.block q was (goal q was).1 in
            let same = ap (left_of w.known mid.site.shape.block) now in
            let less : Q.left < M.left = omega (arith, fall, same) in
            goes free (inl todo) (inl (omega (arith, less))) (inr (inr (inr (inr less))))

  -- a rebuild brings the next bytes
  brings_less : (aiming : IsAiming mid r.caller) → aiming.t.filled < mid.site.shape.block → w.known aiming.t.room.node.0 ≡ None → u.claims ≡ mid.claims → Brings mid u → GoesOn pieces M Q
  brings_less aiming short alive claims b =
      let block = mid.site.shape.block in
      let sr : Some aiming.r ≡ Some b.r = sym aiming.was ∙ b.was in
      let er : aiming.r ≡ b.r = cc in
      let st : Some aiming.t ≡ Some b.t = sym aiming.goal ∙ ap (λ (x : Rebuilding). x.target) er ∙ b.goal in
      let et : aiming.t ≡ b.t = cc in
      let lives : w.known b.t.room.node.0 ≡ None = subst (λ (x : Target). w.known x.room.node.0 ≡ None) et alive in
      let lacks : b.t.filled < block = subst (λ (x : Target). x.filled < block) et short in
      let fall = brought_left w.known block b.r b.t b.goal b.piece b.writes lives lacks b.long in
      let old = ap (left_of w.known block) b.was in
      let new = ap (left_of w.known block) b.now in
      let less : Q.left < M.left = omega (arith, fall, old, new) in
      let free = free_by (Some (record b.r { target = Some (filled_with b.piece b.writes b.t) })) b.now
      (λ x e. ap (λ (o : Option Rebuilding). is_free w.known o x) b.was ∙ sym (brought_free w.known block b.r b.t b.goal b.piece b.writes x) ∙ e) in
      goes free (inl (todo_kept claims)) (inl (omega (arith, less))) (inr (inr (inr (inr less))))

  -- one of its sources goes down
  falls_less : u.claims ≡ mid.claims → Falls mid u → GoesOn pieces M Q
  falls_less claims f = goes (free_kept f.same) (inl (todo_kept claims)) (inl (left_kept f.same)) (inl (live_less f.col f.among f.was f.down))

  -- its target's node breaks
  breaks_less : (aiming : IsAiming mid r.caller) → w.known aiming.t.room.node.0 ≡ None → u.claims ≡ mid.claims → Breaks mid u → GoesOn pieces M Q
  breaks_less aiming alive claims b =
      let sr : Some aiming.r ≡ Some b.r = sym aiming.was ∙ b.was in
      let er : aiming.r ≡ b.r = cc in
      let st : Some aiming.t ≡ Some b.t = sym aiming.goal ∙ ap (λ (x : Rebuilding). x.target) er ∙ b.goal in
      let et : aiming.t ≡ b.t = cc in
      let lives : w.known b.t.room.node.0 ≡ None = subst (λ (x : Target). w.known x.room.node.0 ≡ None) et alive in
      let rebuilt : IsRebuilding mid.site mid.frail mid.pools mid.log b.r = subst (MayRebuild mid.site mid.frail mid.pools mid.log) b.was is.sound.rebuilt in
      let target : IsTarget mid.site mid.frail mid.pools mid.log b.r.col b.t = subst (HasTarget mid.site mid.frail mid.pools mid.log b.r.col) b.goal rebuilt.goal in
      let was : is_free w.known mid.rebuild b.t.room.node.0 ≡ true =
      ap (λ (o : Option Rebuilding). is_free w.known o b.t.room.node.0) b.was ∙ goal_was_free w.known b.r b.q b.t b.goal b.dropped b.broke b.others lives in
      let now : is_free w.known u.rebuild b.t.room.node.0 ≡ false =
      ap (λ (o : Option Rebuilding). is_free w.known o b.t.room.node.0) b.now ∙ broken_not_free w.known b.r b.q b.t b.goal b.dropped b.broke b.others in
      let each : (x : ℕ) → is_free w.known u.rebuild x ≡ true → is_free w.known mid.rebuild x ≡ true = λ x e.
      ap (λ (o : Option Rebuilding). is_free w.known o x) b.was
      ∙ broken_free w.known b.r b.q b.t b.goal b.dropped b.broke b.others x (sym (ap (λ (o : Option Rebuilding). is_free w.known o x) b.now) ∙ e) in
      let less : Q.free < M.free = count_less (is_free w.known mid.rebuild) (is_free w.known u.rebuild) b.t.room.node.0 mid.site.nodes target.known (λ x lt. each x) was now in
      goes (omega (arith, less)) (inl (todo_kept claims)) (inr (inr less)) (inr (inr (inr (inl less))))

  fetches_less : next_step mid r.caller r.call ≡ step.RebuildPiece → Fetches mid u → GoesOn pieces M Q
  fetches_less next f =
      let p = piece_where_not_whole mid r.caller r.call next in
      let alive = swept_alive w s.rebuild mid.rebuild p.0.r p.0.t is.swept.rebuild p.0.was p.0.goal in
      elim f.ends [
        | inl b ↦ brings_less p.0 p.1 alive f.claims b
        | inr y ↦ elim y [ inl x ↦ falls_less f.claims x | inr x ↦ breaks_less p.0 alive f.claims x ]
      ]

  small : (j : ℕ) → j < mid.site.shape.k → (j < 16) × (j < mid.site.shape.n)
  small j lt =
      let most = few in
      let among' = is.sound.shape.data_among_columns in
      (omega (arith, lt, most, among'), omega (arith, lt, most, among'))

  step_lessens : (x : Step) → next_step mid r.caller r.call ≡ x → GoesOnBy w x mid u → GoesOn pieces M Q
  step_lessens step.Begin next by = begins_less next by
  step_lessens (step.Data j) next by =
      let low = small j (data_where_due mid r.caller j r.call next).among in
      elim by [ inl a ↦ applies_less j low.0 a | inr m ↦ marks_less j low.1 m ]
  step_lessens (step.Parity j i) next by =
      let due = parity_where_due mid r.caller j i r.call is.sound next in
      elim by [ inl n ↦ notes_less j i (small j due.among).0 due.from due.below n | inr m ↦ marks_less i due.below m ]
  step_lessens step.RebuildStart next by = aimed_less next by
  step_lessens step.RebuildPiece next by = fetches_less next by
  step_lessens x next by = absurd by

-- ---- the laws

pub moving_lessens : MovingLessens
moving_lessens w r t after clients s u e calm among =
    let a = e.turns.advances in
    let first = made w r t a.clock false s a.mid e.setting.site e.sound a.sweeps in
    let second = made w r a.clock after false a.mid u (e.setting.site ∙ sym first.site) first.sound a.follows.0 in
    let site : a.mid.site ≡ s.site = first.site in
    let is : IsStep w r a.clock after s a.mid u = record {
      calm = calm;
      before = e.sound;
      sound = first.sound;
      old = e.old;
      asked = e.asked;
      swept = e.turns.sweeps;
      made = second;
      opens = e.advanced.0;
    } in
    let less = step_lessens w r a.clock after clients s a.mid u is among (next_step a.mid r.caller r.call) refl e.turns.exact in
    let no_more = swept_less w clients s a.mid calm (made_falls w r t a.clock s a.mid e.sound first) e.turns.sweeps in
    let here : GoesOn (pieces_in s.site.shape.block) (shown w.known clients s.site a.mid.cols a.mid.claims a.mid.rebuild) (shown w.known clients s.site u.cols u.claims u.rebuild) =
    subst (λ (q : Site). GoesOn (pieces_in q.shape.block) (shown w.known clients q a.mid.cols a.mid.claims a.mid.rebuild) (shown w.known clients q u.cols u.claims u.rebuild)) site less in
    subst (GoesOn (pieces_in s.site.shape.block) (progress_of w.known clients s)) (shown_is w.known clients s u (second.site ∙ first.site))
    (goes_on_after (pieces_in s.site.shape.block) (progress_of w.known clients s) (shown w.known clients s.site a.mid.cols a.mid.claims a.mid.rebuild)
    (shown w.known clients s.site u.cols u.claims u.rebuild) no_more here)

pub holding_adds_none : HoldingAddsNone
holding_adds_none w r t after clients h s u e calm =
    let a = e.turns.advances in
    let first = made w r t a.clock false s a.mid e.setting.site e.sound a.sweeps in
    let no_more = swept_less w clients s a.mid calm (made_falls w r t a.clock s a.mid e.sound first) e.turns.sweeps in
    let shown_here = shown_is w.known clients s a.mid first.site in
    let less : work_of (pieces_in s.site.shape.block) (progress_of w.known clients a.mid) ≤ work_at w.known clients s =
    subst (λ (p : Progress). work_of (pieces_in s.site.shape.block) p ≤ work_at w.known clients s) shown_here
    (no_more_work (pieces_in s.site.shape.block) (progress_of w.known clients s) (shown w.known clients s.site a.mid.cols a.mid.claims a.mid.rebuild) no_more) in
    let at_mid : work_at w.known clients a.mid ≤ work_at w.known clients s =
    subst (λ (q : Site). work_of (pieces_in q.shape.block) (progress_of w.known clients a.mid) ≤ work_at w.known clients s) (sym first.site) less in
    subst (λ (x : Seg). work_at w.known clients x ≤ work_at w.known clients s) (sym a.follows.1) at_mid

pub event_is_progress : EventIsProgress
event_is_progress w r t after clients outcome.Moved s u e calm among =
    let served = event_is_turn w r t after outcome.Moved s u e calm in
    let less = going_on_is_less (pieces_in s.site.shape.block) (progress_of w.known clients s) (progress_of w.known clients u) (moving_lessens w r t after clients s u e calm among) in
    subst (λ (q : Site). work_of (pieces_in q.shape.block) (progress_of w.known clients u) < work_at w.known clients s) (sym served.site) less
event_is_progress w r t after clients (outcome.Held h) s u e calm among = holding_adds_none w r t after clients h s u e calm
event_is_progress w r t after clients (outcome.Answered position stamp) s u e calm among =
    let served = event_is_turn w r t after (outcome.Answered position stamp) s u e calm in
    subst (λ (q : Site). work_at w.known clients u ≤ most_at q clients) served.site (work_is_bounded w.known clients u served.sound)
