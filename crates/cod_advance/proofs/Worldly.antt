-- A run's segments as a world of turns.
use Rattle.std.proofs.Common.{◌≡◌, ◌≢◌, inl, inr, ℕ, ◌<◌, Bool, cond, Option, Some, None, List, [], ◌++◌, length, map, replicate, set, refl, sym, ap, ◌∙◌, subst, arith}
use Rattle.std.specs.Option.{option_map}
use Rattle.std.proofs.Math.Path.{fun_ext}
use Rattle.std.proofs.lemmas.Bool.{cases_eq, cases_lt, eq-eqb, ne_eqb}
use Rattle.std.proofs.lemmas.List.{ext_get_or, get_or-map, get_or-replicate, get_or-set_other, get_or-set_same, get_or_past, length-map, length-replicate, length-set, map-set}
use Rattle.std.proofs.lemmas.Option.{slice_get-get_or, slice_get-map}
use Rattle.cod_board.specs.declared.kill.Kill.{Kill as Killed}
use Rattle.cod_board.specs.Kills.{first_kill, kill_of}
use Rattle.cod_chronicle.specs.declared.entry.Entry.{Entry}
use Rattle.cod_chronicle.specs.Event.{NodeKill, Kills as Board, Request, Setting}
use Rattle.cod_chronicle.specs.Standing.{OpenCalls}
use Rattle.cod_seg.specs.Next.{open_in}
use Rattle.cod_seg.specs.Seg.{Seg}
use Rattle.cod_seg.specs.Sound.{is_frail}
use Rattle.cod_seg.specs.Start.{IsNew}
use Rattle.cod_seg.proofs.Starting.{new_is_sound}
use Rattle.cod_segment.specs.declared.asking.Outcome.{Outcome}
use Rattle.cod_segment.specs.declared.asking.Outcome.TheVariants as outcome
use Rattle.cod_segment.specs.Events.{kills_at, request_of}
use Rattle.cod_turns.specs.Turns.{Comes, Course, kept, killed, request_of as asking, Serves, setting, start, Turn, World}
use Rattle.cod_advance.specs.Served.{IsEvent, IsServed, turned_by}
use Rattle.cod_advance.specs.Worlds.{AreSegmentsOf, EndingIsTurn, FailingIsTurn, HasServed, IsSegmentOf, NewAreSegments, no_seg, Places, seg_at, ServingIsTurn, ServingKeeps, SettingIsSegments, StartIsStart, world_of}
use Rattle.cod_advance.proofs.Serving.{event_is_turn}

-- ---- at first

new_log : (s : Seg) → IsNew s → s.log ≡ []
new_log s is = ap (λ (x : Seg). x.log) is.begins

pub new_open : (s : Seg) (c : ℕ) → IsNew s → open_in s c ≡ None
new_open s c is = ap (λ (x : Seg). open_in x c) is.begins

world_same : (a b : World) → a.chronicles ≡ b.chronicles → a.opened ≡ b.opened → a.board ≡ b.board → a.next ≡ b.next → a.clock ≡ b.clock → a ≡ b
world_same a b chronicles opened board next clock =
    ap (λ (x : List (List Entry)). let v : World = record a { chronicles = x } in v) chronicles
    ∙ ap (λ (x : ℕ → OpenCalls). let v : World = record a { chronicles = b.chronicles; opened = x } in v) opened
    ∙ ap (λ (x : Board). let v : World = record a { chronicles = b.chronicles; opened = b.opened; board = x } in v) board
    ∙ ap (λ (x : ℕ → ℕ). let v : World = record a { chronicles = b.chronicles; opened = b.opened; board = b.board; next = x } in v) next
    ∙ ap (λ (x : ℕ → ℕ). let v : World = record b { clock = x } in v) clock

pub start_is_start : StartIsStart
start_is_start segs board places is =
    world_same (world_of segs board places) (start (length segs))
    (ext_get_or [] (map (λ (s : Seg). s.log) segs) (replicate (length segs) []) (length-map segs (λ (s : Seg). s.log) ∙ sym (length-replicate (length segs) []))
    (λ i lt.
    let size = length-map segs (λ (s : Seg). s.log) in
    let below : i < length segs = omega (arith, lt, size) in
    get_or-map (λ (s : Seg). s.log) segs i no_seg [] below ∙ new_log (seg_at segs i) (is.new i below) ∙ sym (get_or-replicate (length segs) i [] [] below)))
    (fun_ext (λ i. fun_ext (λ c. elim (cases_lt i (length segs)) [
      | inl lt ↦ new_open (seg_at segs i) c (is.new i lt)
      | inr ge ↦ ap (λ (x : Seg). open_in x c) (get_or_past segs i no_seg ge)
    ])))
    (fun_ext is.board_is) (fun_ext is.next_is) (fun_ext is.clock_is)

pub new_are_segments : NewAreSegments
new_are_segments x segs count new = record {
  count = count;
  each = λ i lt. (let n = new i lt in record { sound = new_is_sound (seg_at segs i) n.new; site = n.site; may = n.may });
}

-- ---- one segment of many

pub setting_is_segments : SettingIsSegments
setting_is_segments x segs board places i are lt = (let s = are.each i lt in record { site = sym s.site; may = s.may })

module _ (x : Course) (who : ℕ) (board : Board) (o : Outcome) (segs : List Seg) (old : Places) (later : List Seg) (new : Places) (are : AreSegmentsOf x segs)
    (h : HasServed x who board o segs old later new) where
  abbrev w : Setting
  w = setting x (world_of segs board old) h.seg.0

  abbrev r : Request
  r = request_of who h.number h.call

  pub happened : IsEvent w r (old.clock who) (new.clock who) o (seg_at segs h.seg.0) h.now
  happened = record {
    old = h.slip;
    new = h.slip_after;
    sound = (are.each h.seg.0 h.there).sound;
    setting = setting_is_segments x segs board old h.seg.0 are h.there;
    asked = h.asked;
    turns = h.turns;
    advanced = h.advanced;
  }

  served : IsServed w (asking who h.at.front h.call) (old.clock who) (new.clock who) (turned_by o) (seg_at segs h.seg.0) h.now
  served = subst (λ (n : ℕ). IsServed w (request_of who n h.call) (old.clock who) (new.clock who) (turned_by o) (seg_at segs h.seg.0) h.now) h.number_is
      (event_is_turn w r (old.clock who) (new.clock who) o (seg_at segs h.seg.0) h.now happened (λ y. refl))

  pub here : seg_at later h.seg.0 ≡ h.now
  here = ap (λ (l : List Seg). seg_at l h.seg.0) h.becomes ∙ get_or-set_same segs h.seg.0 h.now no_seg h.there

  pub elsewhere : (i : ℕ) → i ≢ h.seg.0 → seg_at later i ≡ seg_at segs i
  elsewhere i other = ap (λ (l : List Seg). seg_at l i) h.becomes ∙ get_or-set_other segs h.seg.0 i h.now no_seg other

  pub as_many : length later ≡ length segs
  as_many = ap (λ (l : List Seg). length l) h.becomes ∙ length-set segs h.seg.0 h.now

  serves : Serves x who (world_of segs board old) (world_of later board new) (turned_by o)
  serves =
      let s = seg_at segs h.seg.0 in
      let log = λ (q : Seg). q.log in
      record {
        line = h.line;
        seg = h.seg;
        call = h.call;
        at = h.at;
        h = s.log;
        entries = served.entries;
        there = slice_get-map log segs h.seg.0 ∙ ap (option_map log) (slice_get-get_or segs h.seg.0 no_seg h.there);
        event = served.event;
        grown = ap (map log) h.becomes ∙ map-set log segs h.seg.0 h.now ∙ ap (set (map log segs) h.seg.0) served.grown;
        comes = subst (λ (q : Seg). Comes (asking who h.at.front h.call) (new.clock who) (s.log ++ served.entries) (open_in s) (open_in q) (turned_by o)) (sym here)
            (subst (λ (l : List Entry). Comes (asking who h.at.front h.call) (new.clock who) l (open_in s) (open_in h.now) (turned_by o)) served.grown served.comes);
        next = h.moves;
        board = refl;
        others = h.others;
        others_open = (λ i c other. ap (λ (q : Seg). open_in q c) (elsewhere i other), λ c other. ap (λ (q : Seg). open_in q c) here ∙ served.others c other);
      }

  keeps : AreSegmentsOf x later
  keeps = record {
    count = as_many ∙ are.count;
    each = λ i lt. elim (cases_eq i h.seg.0) [
      | inl same ↦
          let was = are.each h.seg.0 h.there in
          let is : IsSegmentOf x h.seg.0 h.now = record {
            sound = served.sound;
            site = served.site ∙ was.site;
            may = λ node frail. was.may node (sym (ap (λ (l : List ℕ). is_frail l node) served.frail) ∙ frail);
          } in
          rw same (subst (IsSegmentOf x h.seg.0) (sym here) is)
      | inr diff ↦ subst (IsSegmentOf x i) (sym (elsewhere i diff)) (are.each i (let m = as_many in omega (arith, lt, m)))
    ];
  }

turn_of : (x : Course) (who : ℕ) (w v : World) (o : Outcome) → Serves x who w v (turned_by o) → Turn x who w v (turned_by o)
turn_of x who w v outcome.Moved s = s
turn_of x who w v (outcome.Answered position stamp) s = s
turn_of x who w v (outcome.Held h) s = s

pub serving_is_turn : ServingIsTurn
serving_is_turn x who board o segs old later new are h =
    turn_of x who (world_of segs board old) (world_of later board new) o (serves x who board o segs old later new are h)

pub serving_keeps : ServingKeeps
serving_keeps x who board o segs old later new are h = keeps x who board o segs old later new are h

-- ---- a node that fails, and no line

abbrev as_kill : Killed → NodeKill
as_kill k = record { line = k.line; clock = k.clock }

first_kept : (o : Option Killed) (k : Killed) → Some (as_kill (first_kill o k)) ≡ kept (option_map as_kill o) (as_kill k)
first_kept None k = refl
first_kept (Some q) k = refl

kills_kept : (kills after : List (Option Killed)) (node : ℕ) (k : Killed) → node < length kills → after ≡ set kills node (Some (first_kill (kill_of kills node) k))
    → (y : ℕ) → kills_at after y ≡ killed (kills_at kills) node (as_kill k) y
kills_kept kills after node k lt becomes y = elim (cases_eq y node) [
  | inl same ↦
      let now : kill_of after node ≡ Some (first_kill (kill_of kills node) k) = ap (λ (l : List (Option Killed)). kill_of l node) becomes
      ∙ get_or-set_same kills node (Some (first_kill (kill_of kills node) k)) None lt in
      ap (kills_at after) same ∙ ap (option_map as_kill) now ∙ first_kept (kill_of kills node) k ∙ sym (ap (λ (n : ℕ). kept (kills_at kills n) (as_kill k)) same)
      ∙ sym (ap (λ (b : Bool). cond b (kept (kills_at kills y) (as_kill k)) (kills_at kills y)) (eq-eqb y node same))
  | inr diff ↦
      let now : kill_of after y ≡ kill_of kills y = ap (λ (l : List (Option Killed)). kill_of l y) becomes
      ∙ get_or-set_other kills node y (Some (first_kill (kill_of kills node) k)) None diff in
      ap (option_map as_kill) now ∙ sym (ap (λ (b : Bool). cond b (kept (kills_at kills y) (as_kill k)) (kills_at kills y)) (ne_eqb y node diff))
]

pub failing_is_turn : FailingIsTurn
failing_is_turn x who segs kills old after new h = record {
  line = h.kill.line;
  node = h.node;
  at = h.at;
  board = λ y.
      kills_kept kills after h.node.0 h.kill h.there h.becomes y
      ∙ ap (λ (n : ℕ). let k : NodeKill = record { line = h.kill.line; clock = n } in killed (kills_at kills) h.node.0 k y) h.clock_is;
  next = h.moves;
  clock = h.stays;
  same = refl;
  others = h.others;
  opened = refl;
}

pub ending_is_turn : EndingIsTurn
ending_is_turn x who segs board places ended = record { ended = ended; same = refl }
