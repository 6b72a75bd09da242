-- What a round over columns makes, turn by turn.
use Rattle.std.proofs.Common.{◌≡◌, ◌≢◌, inl, inr, ℕ, ◌+◌, ◌<◌, ◌≤◌, ◌++◌, List, length, Bool, true, false, cond, None, refl, sym, ap, ◌∙◌, subst, arith}
use Rattle.std.specs.Prelude.{nat_lt}
use Rattle.std.proofs.Math.Seq.{map-set_same}
use Rattle.std.proofs.lemmas.Bool.{both_ways, cases_eq, le-ltb, lt-ltb}
use Rattle.cod_types.specs.declared.call.NodeId.{NodeId}
use Rattle.cod_region.specs.Device.{Device}
use Rattle.cod_chronicle.specs.declared.entry.Cause.{Cause}
use Rattle.cod_chronicle.specs.declared.entry.Cause.TheVariants.{Fault}
use Rattle.cod_chronicle.specs.declared.entry.Entry.TheVariants.{Down}
use Rattle.cod_chronicle.specs.Event.{IsSeenCause, Request, Setting}
use Rattle.cod_chronicle.specs.Legal.{node_id}
use Rattle.cod_chronicle.specs.Said.{clock_of}
use Rattle.cod_place.specs.Room.{Room}
use Rattle.cod_seg.specs.Calls.{Cost, merge_costs, nothing}
use Rattle.cod_seg.specs.Happens.{Happened, Happens, IsMarked}
use Rattle.cod_seg.specs.Runs.{Touches}
use Rattle.cod_seg.specs.Seg.{Col, col_at, no_col, node_in, Seg, with_col}
use Rattle.cod_seg.specs.Sound.{is_frail, Sound}
use Rattle.cod_seg.specs.Steps as steps
use Rattle.cod_seg.specs.Steps.{Goes, goes, marks, Marks, stays, Step, works}
use Rattle.cod_seg.proofs.Keeping.{col_here, col_there}
use Rattle.cod_seg.proofs.Running.{runs_on, runs_start}
use Rattle.cod_segment.specs.Events.{Counts, HasRoom, IsSettingOf, Makes, rebuild_rooms, rooms_of}
use Rattle.cod_rounds.specs.Rounds.{CountsUp, GoesOn, rooms_in, Tended, tending_cost}
use Rattle.cod_rounds.specs.Turns.{Fallen, IsTended, MayTurn, Turned}

-- ---- steps after steps

joined : (w : Setting) (r : Request) (t mid after : ℕ) (done : Bool) (s u v : Seg) (later : Goes u v) → Makes w r t mid false s u
    → Happened w r mid after done u v later → Makes w r t after done s v
joined w r t mid after done s u v (stays x) first is = rw (is.clock, is.goes_on) first
joined w r t mid after done s u v (goes a b c before step) first is =
    let m = joined w r t mid is.0 false s a b before first is.1 in
    record { steps = goes s b c m.steps step; happened = (is.0, m.happened, is.2) }

pub and_then : (w : Setting) (r : Request) (t mid after : ℕ) (done : Bool) (s u v : Seg) → Makes w r t mid false s u → Makes w r mid after done u v → Makes w r t after done s v
and_then w r t mid after done s u v first later = joined w r t mid after done s u v later.steps first later.happened

pub one_step : (w : Setting) (r : Request) (t after : ℕ) (done : Bool) (s u : Seg) (step : Step s u) → Happens w r t after done s u step → Makes w r t after done s u
one_step w r t after done s u step is = record { steps = goes s s u (stays s) step; happened = (t, record { clock = refl; goes_on = refl }, is) }

pub none_made : (w : Setting) (r : Request) (t : ℕ) (s : Seg) → Makes w r t t false s s
none_made w r t s = record { steps = stays s; happened = record { clock = refl; goes_on = refl } }

pub setting_on : (w : Setting) (s u : Seg) → u.site ≡ s.site → u.frail ≡ s.frail → IsSettingOf w s → IsSettingOf w u
setting_on w s u site frail is = record {
  site = is.site ∙ sym site;
  may = λ node e. is.may node (subst (λ (f : List ℕ). is_frail f node ≡ true) frail e);
}

-- a setting in which nothing was killed, and each frail node may fail
abbrev pub own_setting : Seg → Setting
own_setting s = record { site = s.site; known = λ x. None; seen = λ x. None; may = is_frail s.frail }

pub own_is : (s : Seg) → IsSettingOf (own_setting s) s
own_is s = record { site = refl; may = λ node is. is }

-- ---- a column that fell

pub fallen_goes : (col : ℕ) (s : Seg) (t : ℕ) (u : Seg) (after : ℕ) → col < s.site.shape.n → Fallen col s t u after → GoesOn s t u after
fallen_goes col s t u after among fell = λ w r setting.
    let m = fell.marks in
    let x = node_in (col_at s.cols col) in
    let cause = subst (steps.IsCause s.frail m.column) fell.why m.why in
    let node : node_in m.column ≡ x = ap (λ (n : NodeId). n.0) m.keeps.node in
    let frail : is_frail s.frail x ≡ true = subst (λ (y : ℕ). is_frail s.frail y ≡ true) node cause.1 in
    let seen : IsSeenCause w.seen w.may x m.cause = subst (IsSeenCause w.seen w.may x) (sym fell.why) (cause.0, setting.may x frail) in
    let marked : IsMarked w (clock_of s.log) t after false (Down m.stamp col (node_id x) (Fault fell.count)) m.stamp =
    record { stamp_is = fell.stamp; clock = fell.clock; goes_on = refl } in
    one_step w r t after false s u (marks col among m)
    (seen, subst (λ (c : Cause). IsMarked w (clock_of s.log) t after false (Down m.stamp col (node_id x) c) m.stamp) (sym fell.why) marked)

-- ---- one turn

-- what follows from what was done holds of a turn, too
pub turned_by : (A B : Col → Col → Type 0) (col : ℕ) (s : Seg) (t : ℕ) (u : Seg) (after : ℕ) → ((old new : Col) → A old new → B old new) → Turned A col s t u after → Turned B col s t u after
turned_by A B col s t u after so (inl rests) = inl rests
turned_by A B col s t u after so (inr (inl w)) =
    inr (inl (record { column = w.column; was = w.was; does = so (col_at s.cols col) w.column w.does; clock = w.clock; becomes = w.becomes }))
turned_by A B col s t u after so (inr (inr fell)) = inr (inr fell)

-- no other column changes
pub others_stay : (Does : Col → Col → Type 0) (col i : ℕ) (s : Seg) (t : ℕ) (u : Seg) (after : ℕ) → i ≢ col → Turned Does col s t u after → col_at u.cols i ≡ col_at s.cols i
others_stay Does col i s t u after other (inl rests) = ap (λ (x : Seg). col_at x.cols i) rests.same
others_stay Does col i s t u after other (inr (inl w)) = ap (λ (x : Seg). col_at x.cols i) w.becomes ∙ col_there s.cols col i w.column other
others_stay Does col i s t u after other (inr (inr fell)) = ap (λ (x : Seg). col_at x.cols i) fell.marks.becomes ∙ col_there s.cols col i fell.marks.column other

tended_works : (col : ℕ) (s u : Seg) (column : Col) → s.site.shape.k ≤ col → IsTended s.site.shape s.frail s.cuts col (col_at s.cols col) column
    → u ≡ record s { cols = with_col s.cols col column } → steps.Works col s u
tended_works col s u column high is becomes = record {
  column = column;
  keeps = is.keeps;
  live = is.live;
  faults = is.faults;
  blocks = λ low. absurd (omega (arith, low, high));
  parities = λ above. is.holds;
  becomes = becomes;
}

touched : (col : ℕ) (s : Seg) (t : ℕ) (u : Seg) (after : ℕ) → s.site.shape.k ≤ col → Turned (IsTended s.site.shape s.frail s.cuts col) col s t u after → Touches col s u
touched col s t u after high (inl rests) = inl rests.same
touched col s t u after high (inr (inl w)) = inr (inl (tended_works col s u w.column high w.does w.becomes))
touched col s t u after high (inr (inr fell)) = inr (inr fell.marks)

turned_goes : (col : ℕ) (s : Seg) (t : ℕ) (u : Seg) (after : ℕ) → col < s.site.shape.n → s.site.shape.k ≤ col
    → Turned (IsTended s.site.shape s.frail s.cuts col) col s t u after → GoesOn s t u after
turned_goes col s t u after among high (inl rests) = λ w r setting. rw (rests.same, rests.clock) (none_made w r t s)
turned_goes col s t u after among high (inr (inl x)) = λ w r setting.
    one_step w r t after false s u (works col among (tended_works col s u x.column high x.does x.becomes)) (record { clock = x.clock; goes_on = refl })
turned_goes col s t u after among high (inr (inr fell)) = fallen_goes col s t u after among fell

-- ---- device calls

pub none_counted : (up : Bool) (d : Device) → Counts (cond up nothing nothing) d d
none_counted true d = (refl, refl)
none_counted false d = (refl, refl)

rested : (cost : Cost) (b : Bool) (d : Device) → b ≡ false → Counts (cond b cost nothing) d d
rested cost true d is = absurd (both_ways true is refl)
rested cost false d is = (refl, refl)

called : (cost : Cost) (b : Bool) (d e : Device) → b ≡ true → Counts cost d e → Counts (cond b cost nothing) d e
called cost true d e is counts = counts
called cost false d e is counts = absurd (both_ways false refl is)

pub turn_counts : (Does : Col → Col → Type 0) (cost : Cost) (col : ℕ) (s : Seg) (t : ℕ) (u : Seg) (after : ℕ) → col < length s.cols
    → ((new : Col) → Does (col_at s.cols col) new → Counts cost (col_at s.cols col).state.device new.state.device) → Turned Does col s t u after → CountsUp cost (col_at s.cols col) (col_at u.cols col)
turn_counts Does cost col s t u after there so (inl rests) = λ up.
    rw rests.same (rested cost (col_at s.cols col).is_up (col_at s.cols col).state.device rests.down)
turn_counts Does cost col s t u after there so (inr (inl w)) = λ up.
    let now : col_at u.cols col ≡ w.column = ap (λ (x : Seg). col_at x.cols col) w.becomes ∙ col_here s.cols col w.column there in
    subst (λ (c : Col). Counts (cond (col_at s.cols col).is_up cost nothing) (col_at s.cols col).state.device c.state.device) (sym now)
    (called cost (col_at s.cols col).is_up (col_at s.cols col).state.device w.column.state.device w.was (so w.column w.does))
turn_counts Does cost col s t u after there so (inr (inr fell)) = λ up.
    let m = fell.marks in
    let now : col_at u.cols col ≡ m.column = ap (λ (x : Seg). col_at x.cols col) m.becomes ∙ col_here s.cols col m.column there in
    absurd (both_ways m.column.is_up m.down (subst (λ (c : Col). c.is_up ≡ true) now (up m.was)))

-- ---- rooms

-- where a column's room stays, all rooms do
pub rooms_stay : (Does : Col → Col → Type 0) (col : ℕ) (s : Seg) (t : ℕ) (u : Seg) (after : ℕ) → ((new : Col) → Does (col_at s.cols col) new → new.room ≡ (col_at s.cols col).room)
    → Turned Does col s t u after → (rooms_in u.cols ≡ rooms_in s.cols) × (rooms_of u ≡ rooms_of s)
rooms_stay Does col s t u after so (inl rests) = (ap (λ (x : Seg). rooms_in x.cols) rests.same, ap rooms_of rests.same)
rooms_stay Does col s t u after so (inr (inl w)) =
    let same : rooms_in (with_col s.cols col w.column) ≡ rooms_in s.cols = map-set_same (λ (c : Col). c.room) s.cols col w.column no_col (so w.column w.does) in
    (ap (λ (x : Seg). rooms_in x.cols) w.becomes ∙ same, ap rooms_of w.becomes ∙ ap (λ (l : List Room). rebuild_rooms s.rebuild ++ l) same)
rooms_stay Does col s t u after so (inr (inr fell)) =
    let m = fell.marks in
    let same : rooms_in (with_col s.cols col m.column) ≡ rooms_in s.cols = map-set_same (λ (c : Col). c.room) s.cols col m.column no_col fell.room in
    (ap (λ (x : Seg). rooms_in x.cols) m.becomes ∙ same, ap rooms_of m.becomes ∙ ap (λ (l : List Room). rebuild_rooms s.rebuild ++ l) same)

pub fallen_rooms : (col : ℕ) (s : Seg) (t : ℕ) (u : Seg) (after : ℕ) → Fallen col s t u after → rooms_of u ≡ rooms_of s
fallen_rooms col s t u after fell = (rooms_stay (λ old new. ⊥) col s t u after (λ new is. absurd is) (inr (inr fell))).1

-- ---- a round over the parity columns

pub tended_may : (col : ℕ) (s : Seg) (t : ℕ) (u : Seg) (mid : ℕ) → Tended col s t u mid → col < s.site.shape.n → HasRoom 2 s → MayTurn col u
tended_may col s t u mid round among room =
    let runs = round.runs in
    let few = runs.log in
    let from = round.from in
    let below : col < u.site.shape.n = rw (runs.site) among in
    record {
      among = below;
      there = rw (runs.sound.columns.size) below;
      column = runs.sound.columns.each col below;
      room = omega (arith, few, room, from, among);
    }

pub tended_none : (s : Seg) (t : ℕ) → Sound s → Tended s.site.shape.k s t s t
tended_none s t sound = record {
  passed = 0;
  from = omega arith;
  runs = runs_start s.site.shape.k s sound;
  makes = λ w r setting. none_made w r t s;
  counts = λ i low up. subst (λ (b : Bool). Counts (cond (col_at s.cols i).is_up (cond b nothing (merge_costs s.cuts (col_at s.cols i).state)) nothing) (col_at s.cols i).state.device
      (col_at s.cols i).state.device) (sym (lt-ltb i s.site.shape.k low)) (none_counted (col_at s.cols i).is_up (col_at s.cols i).state.device);
}

pub tended_more : (col : ℕ) (s : Seg) (t : ℕ) (u : Seg) (mid : ℕ) (v : Seg) (after : ℕ) → col < s.site.shape.n → Tended col s t u mid
    → Turned (IsTended u.site.shape u.frail u.cuts col) col u mid v after → Tended (col + 1) s t v after
tended_more col s t u mid v after among round turn =
    let from = round.from in
    let k = s.site.shape.k in
    let runs = round.runs in
    let site = runs.site in
    let high : u.site.shape.k ≤ col = rw site (omega (arith, from)) in
    let below : col < u.site.shape.n = rw site among in
    let there : col < length u.cols = rw (runs.sound.columns.size) below in
    let same : col_at u.cols col ≡ col_at s.cols col = runs.rest col (omega (arith, from)) in
    record {
      passed = round.passed + 1;
      from = omega (arith, from);
      runs = runs_on k round.passed col s u v from among runs (touched col u mid v after high turn);
      makes = λ w r setting.
          and_then w r t mid after false s u v (round.makes w r setting) (turned_goes col u mid v after below high turn w r (setting_on w s u site runs.frail setting));
      counts = λ i lt. elim (cases_eq i col) [
        | inl here ↦
            (let counts : CountsUp (merge_costs u.cuts (col_at u.cols col).state) (col_at u.cols col) (col_at v.cols col) =
            turn_counts (IsTended u.site.shape u.frail u.cuts col) (merge_costs u.cuts (col_at u.cols col).state) col u mid v after there (λ new is. is.counts) turn in
            let test : nat_lt i k ≡ false = le-ltb i k (omega (arith, from, here)) in
            rw (test, here, ← same, ← runs.cuts) counts)
        | inr other ↦
            (let still = others_stay (IsTended u.site.shape u.frail u.cuts col) col i u mid v after other turn in
            subst (λ (c : Col). CountsUp (tending_cost s i) (col_at s.cols i) c) (sym still) (round.counts i (omega (arith, lt, other))))
      ];
    }
