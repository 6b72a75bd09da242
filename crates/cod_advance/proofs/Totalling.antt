-- The work of all segments of a run.
use Rattle.std.proofs.Common.{◌≡◌, inl, inr, ℕ, ◌*◌, ◌<◌, ◌≤◌, List, length, refl, sym, ap, subst, arith}
use Rattle.std.proofs.lemmas.Bool.{cases_eq}
use Rattle.cod_chronicle.specs.Event.{Kills as Board}
use Rattle.cod_chronicle.specs.Said.{Site}
use Rattle.cod_seg.specs.Seg.{Seg}
use Rattle.cod_segment.specs.declared.asking.Outcome.{Outcome}
use Rattle.cod_segment.specs.declared.asking.Outcome.TheVariants as outcome
use Rattle.cod_segment.specs.Events.{request_of}
use Rattle.cod_turns.specs.Progress.{total}
use Rattle.cod_turns.specs.Rounds.{IsProgress}
use Rattle.cod_turns.specs.Turns.{Course, setting}
use Rattle.cod_turns.proofs.Progressing.{total_has_bound}
use Rattle.cod_advance.specs.Served.{turned_by}
use Rattle.cod_advance.specs.Work.{most_at, most_work, pieces_in, work_at}
use Rattle.cod_advance.specs.Worlds.{AllWorkIsBounded, AreSegmentsOf, HasServed, most_in, Places, seg_at, ServingIsProgress, work_in, world_of}
use Rattle.cod_advance.proofs.Counting.{total_le, total_less}
use Rattle.cod_advance.proofs.Falling.{work_is_bounded}
use Rattle.cod_advance.proofs.Working.{event_is_progress}
use Rattle.cod_advance.proofs.Worldly.{as_many, elsewhere, happened, here, serving_keeps}

pub all_work_is_bounded : AllWorkIsBounded
all_work_is_bounded x board segs are =
    let clients = length x.script.clients in
    let most = most_work x.script.shape.n clients x.script.nodes (pieces_in x.script.shape.block) in
    let each : (i : ℕ) → i < length segs → work_at board clients (seg_at segs i) ≤ most =
    λ i lt. (let is = are.each i lt in subst (λ (q : Site). work_at board clients (seg_at segs i) ≤ most_at q clients) is.site (work_is_bounded board clients (seg_at segs i) is.sound)) in
    subst (λ (n : ℕ). work_in x board segs ≤ n * most) are.count (total_has_bound (λ i. work_at board clients (seg_at segs i)) most (length segs) each)

module _ (x : Course) (who : ℕ) (board : Board) (o : Outcome) (segs : List Seg) (old : Places) (later : List Seg) (new : Places) (are : AreSegmentsOf x segs)
    (h : HasServed x who board o segs old later new) (among : who < length x.script.clients) where
  abbrev work : ℕ → ℕ
  work i = work_at board (length x.script.clients) (seg_at segs i)

  abbrev after : ℕ → ℕ
  after i = work_at board (length x.script.clients) (seg_at later i)

  -- one segment's event
  one : IsProgress (most_at (seg_at segs h.seg.0).site (length x.script.clients)) (turned_by o) (work h.seg.0) (after h.seg.0)
  one =
      let e = event_is_progress (setting x (world_of segs board old) h.seg.0) (request_of who h.number h.call) (old.clock who) (new.clock who) (length x.script.clients) o (seg_at segs h.seg.0) h.now
      (happened x who board o segs old later new are h) (λ y. refl) among in
      subst (λ (q : Seg). IsProgress (most_at (seg_at segs h.seg.0).site (length x.script.clients)) (turned_by o) (work h.seg.0) (work_at board (length x.script.clients) q))
      (sym (here x who board o segs old later new are h)) e

  -- where that one has no more work, none has
  each : after h.seg.0 ≤ work h.seg.0 → (i : ℕ) → i < length segs → after i ≤ work i
  each less i lt = elim (cases_eq i h.seg.0) [
    | inl same ↦ rw same less
    | inr diff ↦ (let e = ap (work_at board (length x.script.clients)) (elsewhere x who board o segs old later new are h i diff) in omega (arith, e))
  ]

  in_later : total after (length later) ≡ total after (length segs)
  in_later = ap (total after) (as_many x who board o segs old later new are h)

  held_progress : after h.seg.0 ≤ work h.seg.0 → work_in x board later ≤ work_in x board segs
  held_progress less = (let t = total_le work after (length segs) (each less) in let e = in_later in omega (arith, t, e))

  moved_progress : after h.seg.0 < work h.seg.0 → work_in x board later < work_in x board segs
  moved_progress less =
      let t = total_less work after h.seg.0 (length segs) h.there (each (omega (arith, less))) less in
      let e = in_later in
      omega (arith, t, e)

  bounded : work_in x board later ≤ most_in x
  bounded = all_work_is_bounded x board later (serving_keeps x who board o segs old later new are h)

pub serving_is_progress : ServingIsProgress
serving_is_progress x who board outcome.Moved segs old later new are h among =
    moved_progress x who board outcome.Moved segs old later new are h among (one x who board outcome.Moved segs old later new are h among)
serving_is_progress x who board (outcome.Held q) segs old later new are h among =
    held_progress x who board (outcome.Held q) segs old later new are h among (one x who board (outcome.Held q) segs old later new are h among)
serving_is_progress x who board (outcome.Answered position stamp) segs old later new are h among = bounded x who board (outcome.Answered position stamp) segs old later new are h among
