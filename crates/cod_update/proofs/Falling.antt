-- A column whose region failed goes down.
use Rattle.std.proofs.Common.{◌≡◌, ℕ, ◌<◌, ◌≤◌, List, [], ◌∷◌, ◌++◌, length, map, true, false, refl, sym, ap, ◌∙◌, subst, inl, inr, arith}
use Rattle.std.specs.Prelude.{is_some, IsOk, Err, Result}
use Rattle.std.proofs.lemmas.Bool.{cases_eq, true_from_ne_false}
use Rattle.std.proofs.lemmas.List.{length-set, set-set}
use Rattle.std.proofs.Math.Seq.{map-set_same}
use Rattle.cod_types.specs.Faults.{Rose}
use Rattle.cod_chronicle.specs.declared.entry.Cause.TheVariants.{Fault}
use Rattle.cod_chronicle.specs.declared.entry.Entry.{Entry}
use Rattle.cod_chronicle.specs.declared.entry.Entry.TheVariants.{Down}
use Rattle.cod_chronicle.specs.Event.{Request, Setting}
use Rattle.cod_chronicle.specs.Said.{clock_of, next_stamp, StampFollows}
use Rattle.cod_place.specs.Room.{Room}
use Rattle.cod_parity.specs.State.{State}
use Rattle.cod_seg.specs.Seg.{Col, col_at, no_col, Seg, with_col}
use Rattle.cod_seg.specs.Next.{open_in}
use Rattle.cod_seg.specs.Sound.{is_frail, Sound}
use Rattle.cod_seg.specs.Steps.{goes, KeepsColumn, Marks, marks, stays}
use Rattle.cod_seg.proofs.Keeping.{col_here, col_there}
use Rattle.cod_region.specs.Device.{Device}
use Rattle.cod_repair.specs.Columns.{faults_at}
use Rattle.cod_repair.specs.declared.columns.ColumnFailed.{ColumnFailed}
use Rattle.cod_segment.specs.Events.{IsSettingOf, Makes, NoneFails, rebuild_rooms, rooms_of}
use Rattle.cod_update.specs.Failing.{fallen, FailsAt}
use Rattle.cod_segment.specs.Views.{pools_by, told_by}

-- A call of column i failed, that was up, and isn't of those that never fail.
pub record Fails (s : Seg) (i : ℕ) (state : State) : Type 0 where
  pub below : i < s.site.shape.n
  pub was : (col_at s.cols i).is_up ≡ true
  pub keeps : KeepsColumn s.site.shape s.frail i (col_at s.cols i) (fallen state (col_at s.cols i))
  pub rose : Rose (col_at s.cols i).state.device.faults state.device.faults
  pub unsure : (col_at s.cols i).state.device.never_fails ≡ true → ⊥

-- the segment with that column down
abbrev pub with_fallen : Seg → (i : ℕ) → State → (stamp : ℕ) → Seg
with_fallen s i state stamp =
    record s {
      cols = with_col s.cols i (fallen state (col_at s.cols i));
      log = s.log ++ Down stamp i (col_at s.cols i).room.node (Fault state.device.faults) ∷ [];
    }

-- the column that the failure names is the one, and it can be marked
pub fallen_here : (s m : Seg) (i : ℕ) → i < length s.cols → (f : FailsAt i s m) → col_at m.cols i ≡ record (col_at s.cols i) { state = f.state }
fallen_here s m i inside f =
    ap (λ (x : Seg). col_at x.cols i) f.becomes ∙ col_here s.cols i (record (col_at s.cols i) { state = f.state }) inside

pub still_up : (s m : Seg) (i col : ℕ) → i < length s.cols → FailsAt i s m → (col_at s.cols i).is_up ≡ true → col ≡ i → (col_at m.cols col).is_up ≡ true
still_up s m i col inside f up same = rw same (ap (λ (c : Col). c.is_up) (fallen_here s m i inside f) ∙ up)

pub still_inside : (s m : Seg) (i col : ℕ) → i < length s.cols → FailsAt i s m → col ≡ i → col < length m.cols
still_inside s m i col inside f same =
    let size : length m.cols ≡ length s.cols =
    ap (λ (x : Seg). length x.cols) f.becomes ∙ length-set s.cols i (record (col_at s.cols i) { state = f.state }) in
    omega (arith, inside, same, size)

-- and then is down
down_at : (s m : Seg) (i stamp : ℕ) (state : State) → i < length s.cols → m ≡ record s { cols = with_col s.cols i (record (col_at s.cols i) { state = state }) }
    → record m {
      cols = with_col m.cols i (record (col_at m.cols i) { is_up = false });
      log = m.log ++ Down stamp i (col_at m.cols i).room.node (Fault (faults_at m.cols i)) ∷ [];
    } ≡ with_fallen s i state stamp
down_at s m i stamp state inside becomes =
    let c : Col = record (col_at s.cols i) { state = state } in
    rw becomes (ap (λ (d : Col). record s {
      cols = with_col (with_col s.cols i c) i (record d { is_up = false });
      log = s.log ++ Down stamp i d.room.node (Fault d.state.device.faults) ∷ [];
    }) (col_here s.cols i c inside)
    ∙ ap (λ (l : List Col). record s { cols = l; log = s.log ++ Down stamp i (col_at s.cols i).room.node (Fault state.device.faults) ∷ [] }) (set-set s.cols i c (fallen state (col_at s.cols i))))

pub then_down : (s m u : Seg) (i col count stamp : ℕ) → i < length s.cols → (f : FailsAt i s m) → col ≡ i → count ≡ faults_at m.cols i
    → u ≡ record m {
      cols = with_col m.cols col (record (col_at m.cols col) { is_up = false });
      log = m.log ++ Down stamp col (col_at m.cols col).room.node (Fault count) ∷ [];
    } → u ≡ with_fallen s i f.state stamp
then_down s m u i col count stamp inside f same counted becomes =
    subst (λ (n : ℕ). u ≡ record m { cols = with_col m.cols i (record (col_at m.cols i) { is_up = false }); log = m.log ++ Down stamp i (col_at m.cols i).room.node (Fault n) ∷ [] }) counted
    (subst (λ (x : ℕ). u ≡ record m { cols = with_col m.cols x (record (col_at m.cols x) { is_up = false }); log = m.log ++ Down stamp x (col_at m.cols x).room.node (Fault count) ∷ [] }) same becomes)
    ∙ down_at s m i stamp f.state inside f.becomes

-- where the call could not fail, it didn't
pub is_unsure : {T : Type 0} (result : Result T ColumnFailed) (e : ColumnFailed) (d : Device) → result ≡ Err e → (d.never_fails ≡ true → IsOk result) → d.never_fails ≡ true → ⊥
is_unsure result e d is sure never = let wrong : false ≡ true = subst IsOk is (sure never) in cc

pub fails : (s m : Seg) (i : ℕ) → i < s.site.shape.n → (col_at s.cols i).is_up ≡ true → (f : FailsAt i s m) → ((col_at s.cols i).state.device.never_fails ≡ true → ⊥) → Fails s i f.state
fails s m i below up f unsure = record { below = below; was = up; keeps = f.keeps; rose = f.rose; unsure = unsure }

once : (before now : ℕ) → Rose before now → 1 ≤ now
once before now rose = omega (arith, rose)

-- the shelf may fail there
frail_there : (s : Seg) (i : ℕ) (state : State) → Sound s → Fails s i state → is_frail s.frail (col_at s.cols i).room.node.0 ≡ true
frail_there s i state sound is = true_from_ne_false (is_frail s.frail (col_at s.cols i).room.node.0) (λ sure. is.unsure ((sound.columns.each i is.below).sure sure))

pub marked : (s u : Seg) (i stamp : ℕ) (state : State) → Sound s → Fails s i state → StampFollows s.log stamp → u ≡ with_fallen s i state stamp → Marks i s u
marked s u i stamp state sound is follows becomes = record {
  column = fallen state (col_at s.cols i);
  stamp = stamp;
  cause = Fault state.device.faults;
  was = is.was;
  down = refl;
  keeps = is.keeps;
  why = (once (col_at s.cols i).state.device.faults state.device.faults is.rose, frail_there s i state sound is, refl);
  follows = follows;
  becomes = becomes;
}

pub makes_mark : (w : Setting) (r : Request) (s u : Seg) (i t stamp : ℕ) (state : State) → IsSettingOf w s → Sound s → Fails s i state → stamp ≡ next_stamp (clock_of s.log) t
    → StampFollows s.log stamp → u ≡ with_fallen s i state stamp → Makes w r t stamp false s u
unfolding marked
makes_mark w r s u i t stamp state setting sound is next follows becomes = record {
  steps = goes s s u (stays s) (marks i is.below (marked s u i stamp state sound is follows becomes));
  happened = (
    t,
    record { clock = refl; goes_on = refl },
    (
      (once (col_at s.cols i).state.device.faults state.device.faults is.rose, setting.may (col_at s.cols i).room.node.0 (frail_there s i state sound is)),
      record { stamp_is = next; clock = refl; goes_on = refl },
    ),
  );
}

-- a column did fail
pub some_fails : (s u : Seg) (i stamp : ℕ) (state : State) → Sound s → Fails s i state → u ≡ with_fallen s i state stamp → NoneFails s u → ⊥
some_fails s u i stamp state sound is becomes none =
    let size = sound.columns.size in
    let below = is.below in
    let here : col_at u.cols i ≡ fallen state (col_at s.cols i) =
    ap (λ (x : Seg). col_at x.cols i) becomes ∙ col_here s.cols i (fallen state (col_at s.cols i)) (omega (arith, size, below)) in
    let up : (col_at u.cols i).is_up ≡ true = none i is.below is.was in
    let wrong : false ≡ true = sym (ap (λ (c : Col). c.is_up) here) ∙ up in
    cc

-- a column in the place of another, in the same room, takes none
pub same_rooms : (cols : List Col) (i : ℕ) (c : Col) → c.room ≡ (col_at cols i).room → map (λ (d : Col). d.room) (with_col cols i c) ≡ map (λ (d : Col). d.room) cols
same_rooms cols i c same = map-set_same (λ (d : Col). d.room) cols i c no_col same

-- what is seen of a segment through its first column stays with it
pub same_told : (cols : List Col) (i : ℕ) (c : Col) → i < length cols → is_some c.state.device.content ≡ is_some (col_at cols i).state.device.content → told_by (with_col cols i c) ≡ told_by cols
same_told cols i c below same = elim (cases_eq 0 i) [
  | inl here ↦ ap (λ (n : ℕ). is_some (col_at (with_col cols i c) n).state.device.content) here ∙ ap (λ (d : Col). is_some d.state.device.content) (col_here cols i c below) ∙ same
      ∙ ap (λ (n : ℕ). is_some (col_at cols n).state.device.content) (sym here)
  | inr there ↦ ap (λ (d : Col). is_some d.state.device.content) (col_there cols i 0 c there)
]

pub same_pools : (cols : List Col) (i : ℕ) (c : Col) → i < length cols → c.room ≡ (col_at cols i).room → pools_by (with_col cols i c) ≡ pools_by cols
same_pools cols i c below same = elim (cases_eq 0 i) [
  | inl here ↦ ap (λ (n : ℕ). (col_at (with_col cols i c) n).room.of) here ∙ ap (λ (d : Col). d.room.of) (col_here cols i c below) ∙ ap (λ (r : Room). r.of) same
      ∙ ap (λ (n : ℕ). (col_at cols n).room.of) (sym here)
  | inr there ↦ ap (λ (d : Col). d.room.of) (col_there cols i 0 c there)
]

-- what a mark leaves as it was
pub mark_rooms : (s u : Seg) (i stamp : ℕ) (state : State) → u ≡ with_fallen s i state stamp → rooms_of u ≡ rooms_of s
mark_rooms s u i stamp state becomes =
    ap rooms_of becomes ∙ ap (λ (l : List Room). rebuild_rooms s.rebuild ++ l) (same_rooms s.cols i (fallen state (col_at s.cols i)) refl)

pub mark_open : (s u : Seg) (i stamp caller : ℕ) (state : State) → u ≡ with_fallen s i state stamp → open_in u caller ≡ open_in s caller
mark_open s u i stamp caller state becomes = ap (λ (x : Seg). open_in x caller) becomes

-- ---- a call that failed, and the mark of its column

-- What is known where a call of column i has failed, and the column was marked.
pub record HasFallen (s m u : Seg) (i stamp : ℕ) : Type 0 where
  pub f : FailsAt i s m
  pub is : Fails s i f.state
  pub becomes : u ≡ with_fallen s i f.state stamp

pub has_fallen : {T : Type 0} (result : Result T ColumnFailed) (e : ColumnFailed) (s m u : Seg) (i stamp : ℕ) → i < s.site.shape.n → i < length s.cols → (col_at s.cols i).is_up ≡ true
    → FailsAt i s m → result ≡ Err e → ((col_at s.cols i).state.device.never_fails ≡ true → IsOk result) → (e.col ≡ i) × (e.count ≡ faults_at m.cols i)
    → u ≡ record m {
      cols = with_col m.cols e.col (record (col_at m.cols e.col) { is_up = false });
      log = m.log ++ Down stamp e.col (col_at m.cols e.col).room.node (Fault e.count) ∷ [];
    } → HasFallen s m u i stamp
has_fallen result e s m u i stamp below inside up f is sure named becomes = record {
  f = f;
  is = fails s m i below up f (is_unsure result e (col_at s.cols i).state.device is sure);
  becomes = then_down s m u i e.col e.count stamp inside f named.0 named.1 becomes;
}

pub same_follows : (s m : Seg) (i stamp : ℕ) → FailsAt i s m → StampFollows m.log stamp → StampFollows s.log stamp
same_follows s m i stamp f follows = subst (λ (l : List Entry). StampFollows l stamp) (ap (λ (x : Seg). x.log) f.becomes) follows
