-- What the calls of one column's region make of a segment.
use Rattle.std.proofs.Common.{◌≡◌, inl, inr, ℕ, ◌+◌, ◌<◌, ◌≤◌, ◌++◌, ◌∷◌, [], List, length, set-set, Bool, true, false, refl, sym, ap, ◌∙◌, subst, arith, Option}
use Rattle.std.specs.Prelude.{is_some}
use Rattle.std.proofs.lemmas.Bool.{both_ways, cases_Bool, cases_eq}
use Rattle.cod_types.specs.Faults.{Rose}
use Rattle.cod_types.specs.Limits.{Shape}
use Rattle.cod_chronicle.specs.declared.entry.Entry.TheVariants.{Down}
use Rattle.cod_chronicle.specs.declared.entry.Cause.TheVariants.{Fault}
use Rattle.cod_chronicle.specs.Said.{clock_of, next_stamp, StampFollows}
use Rattle.cod_parity.specs.Calls.{MergesIfDue, Same}
use Rattle.cod_parity.specs.Held.{Holds, Piece}
use Rattle.cod_parity.specs.State.{IsKept, State}
use Rattle.cod_place.specs.Room.{Room}
use Rattle.cod_repair.specs.Columns.{faults_at, IsFull, IsMadeFor, state_at, with_state}
use Rattle.cod_repair.specs.declared.columns.ColumnFailed.{ColumnFailed}
use Rattle.cod_seg.specs.Calls.{is_due, merge_costs}
use Rattle.cod_seg.specs.Seg.{Col, col_at, node_in, Seg, with_col}
use Rattle.cod_seg.specs.Sound.{is_frail}
use Rattle.cod_seg.specs.Steps.{KeepsColumn}
use Rattle.cod_seg.proofs.Costing.{tests_due}
use Rattle.cod_seg.proofs.Keeping.{col_here, col_there}
use Rattle.cod_segment.specs.Events.{Counts}
use Rattle.cod_segment.specs.Views.{pools_by, told_by}
use Rattle.cod_rounds.specs.Turns.{Fallen, IsMerged, MayTurn, Turned}

-- ---- columns that change under a segment's view

-- the view of a segment whose columns are these now
abbrev pub seen : Seg → List Col → Seg
seen v cols = record v { site = record v.site { told = told_by cols }; pools = pools_by cols; cols = cols }

alike_at : {A : Type 0} (f : Col → A) (cols : List Col) (col i : ℕ) (c : Col) → col < length cols → f c ≡ f (col_at cols col) → f (col_at (with_col cols col c) i) ≡ f (col_at cols i)
alike_at f cols col i c there same = elim (cases_eq i col) [
  | inl here ↦ rw here (ap f (col_here cols col c there) ∙ same)
  | inr other ↦ ap f (col_there cols col i c other)
]

pub told_alike : (cols : List Col) (col : ℕ) (c : Col) → col < length cols → is_some c.state.device.content ≡ is_some (col_at cols col).state.device.content → told_by (with_col cols col c) ≡ told_by cols
told_alike cols col c there same = alike_at (λ (x : Col). is_some x.state.device.content) cols col 0 c there same

pub pools_alike : (cols : List Col) (col : ℕ) (c : Col) → col < length cols → c.room.of ≡ (col_at cols col).room.of → pools_by (with_col cols col c) ≡ pools_by cols
pools_alike cols col c there same = alike_at (λ (x : Col). x.room.of) cols col 0 c there same

-- nothing else is seen to change, where the region tells as before and the room stays whose it is
pub seen_with : (v : Seg) (cols : List Col) (col : ℕ) (c : Col) → v.site.told ≡ told_by v.cols → v.pools ≡ pools_by v.cols → col < length v.cols
    → cols ≡ with_col v.cols col c → is_some c.state.device.content ≡ is_some (col_at v.cols col).state.device.content → c.room.of ≡ (col_at v.cols col).room.of
    → seen v cols ≡ record v { cols = with_col v.cols col c }
seen_with v cols col c told pools there one tells owned =
    let t : told_by cols ≡ v.site.told = ap told_by one ∙ told_alike v.cols col c there tells ∙ sym told in
    let p : pools_by cols ≡ v.pools = ap pools_by one ∙ pools_alike v.cols col c there owned ∙ sym pools in
    λ i. record v { site = record v.site { told = t i }; pools = p i; cols = one i }

-- ---- what a column keeps

pub made_for : (col : ℕ) (s : Seg) → MayTurn col s → IsMadeFor s.site.shape col (col_at s.cols col)
made_for col s turn =
    let c = col_at s.cols col in
    let is = turn.column in
    record {
      shape = is.shape;
      bare = λ low. ap (λ (x : State). x.size) (is.plain low);
      block = is.block;
      parity = λ high. some_reserve c.state (is.reserve high);
    } where
      some_reserve : (x : State) → IsKept x → 0 < x.size
      some_reserve x kept =
          let least = kept.least in
          let blocks = kept.within.some_data in
          let update = kept.within.some_update in
          grind (arith, least, blocks, update)

-- a call that leaves a parity column's size, room and region's length
pub keeps_same : (g : Shape) (frail : List ℕ) (col : ℕ) (old new : Col) → g.k ≤ col → new.room ≡ old.room → Same old.state new.state → IsKept new.state → IsFull new.state.device
    → KeepsColumn g frail col old new
keeps_same g frail col old new high room same kept full =
    let bytes = ap (λ (r : Room). r.bytes) room in
    let long = same.length in
    record {
      node = ap (λ (r : Room). r.node) room;
      owned = ap (λ (r : Room). r.of) room;
      shape = same.shape;
      tells = same.tells;
      never_fails = same.never_fails;
      full = full;
      fits = λ fit. omega (arith, bytes, long, fit);
      roomy = λ none e. bytes ∙ e ∙ sym long;
      long = λ low. long;
      plain = λ low. absurd (omega (arith, low, high));
      kept = λ above was. kept;
      exact = λ above up e. long ∙ e ∙ ap (λ (n : ℕ). g.block + n) (sym same.size);
    }

-- ---- a region that failed

-- A region that had no fault and has failed now may fail there, and its count is at least 1.
failed_once : (old now : ℕ) → old ≡ 0 → Rose old now → 1 ≤ now
failed_once old now clean rose = grind (arith, clean, rose)

pub has_fallen : (v now u : Seg) (col : ℕ) (cols : List Col) (t after : ℕ) (failed : ColumnFailed) → v ≡ now → v.site.told ≡ told_by v.cols
    → v.pools ≡ pools_by v.cols → MayTurn col now → (col_at v.cols col).is_up ≡ true → cols ≡ with_state v.cols col (state_at cols col)
    → KeepsColumn v.site.shape v.frail col (col_at v.cols col) (record (col_at v.cols col) { is_up = false; state = state_at cols col })
    → (failed.col ≡ col) × (failed.count ≡ faults_at cols col) → Rose (faults_at v.cols col) (faults_at cols col)
    → ((state_at v.cols col).device.never_fails ≡ true → ⊥)
    → u ≡ record (seen v cols) {
      cols = with_col cols failed.col (record (col_at cols failed.col) { is_up = false });
      log = v.log ++ Down after failed.col (col_at cols failed.col).room.node (Fault failed.count) ∷ [];
    }
    → after ≡ next_stamp (clock_of v.log) t → StampFollows v.log after → Fallen col now t u after
has_fallen v now u col cols t after failed is told pools turn up one keeps named rose fails becomes stamp follows =
    subst (λ (x : Seg). Fallen col x t u after) is (record {
      marks = record {
        column = down;
        stamp = after;
        cause = Fault failed.count;
        was = up;
        down = refl;
        keeps = keeps;
        why = (subst (λ (n : ℕ). 1 ≤ n) (sym named.1) (failed_once (faults_at v.cols col) (faults_at cols col) (may.column.clean up) rose), frail, sym named.1);
        follows = follows;
        becomes = becomes ∙ all;
      };
      count = failed.count;
      why = refl;
      stamp = stamp;
      clock = refl;
      room = refl;
    }) where
      may : MayTurn col v
      may = subst (MayTurn col) (sym is) turn

      was : Col
      was = record (col_at v.cols col) { state = state_at cols col }

      down : Col
      down = record (col_at v.cols col) { is_up = false; state = state_at cols col }

      frail : is_frail v.frail (node_in (col_at v.cols col)) ≡ true
      frail = elim (cases_Bool (is_frail v.frail (node_in (col_at v.cols col)))) [ inl is ↦ is | inr sure ↦ absurd (fails (may.column.sure sure)) ]

      told_now : told_by cols ≡ v.site.told
      told_now = ap told_by one ∙ told_alike v.cols col was may.there keeps.tells ∙ sym told

      pools_now : pools_by cols ≡ v.pools
      pools_now = ap pools_by one ∙ pools_alike v.cols col was may.there refl ∙ sym pools

      here : col_at cols col ≡ was
      here = ap (λ (x : List Col). col_at x col) one ∙ col_here v.cols col was may.there

      cols_now : with_col cols failed.col (record (col_at cols failed.col) { is_up = false }) ≡ with_col v.cols col down
      cols_now =
          ap (λ (i : ℕ). with_col cols i (record (col_at cols i) { is_up = false })) named.0
          ∙ ap (λ (c : Col). with_col cols col (record c { is_up = false })) here
          ∙ ap (λ (x : List Col). with_col x col down) one
          ∙ set-set v.cols col was down

      entry : Down after failed.col (col_at cols failed.col).room.node (Fault failed.count) ≡ Down after col (col_at v.cols col).room.node (Fault failed.count)
      entry =
          ap (λ (i : ℕ). Down after i (col_at cols i).room.node (Fault failed.count)) named.0
          ∙ ap (λ (c : Col). Down after col c.room.node (Fault failed.count)) here

      all : record (seen v cols) {
        cols = with_col cols failed.col (record (col_at cols failed.col) { is_up = false });
        log = v.log ++ Down after failed.col (col_at cols failed.col).room.node (Fault failed.count) ∷ [];
      } ≡ record v { cols = with_col v.cols col down; log = v.log ++ Down after col (col_at v.cols col).room.node (Fault failed.count) ∷ [] }
      all = λ i. record v {
        site = record v.site { told = told_now i };
        pools = pools_now i;
        cols = cols_now i;
        log = v.log ++ entry i ∷ [];
      }

-- ---- a merge

-- it costs one read and one write where it is due
pub merge_counts : (cuts : List ℕ) (old new : State) → MergesIfDue cuts old new → Counts (merge_costs cuts old) old.device new.device
merge_counts cuts old new merges = by (is_due old.lowest cuts) refl where
  by : (b : Bool) → is_due old.lowest cuts ≡ b → Counts (merge_costs cuts old) old.device new.device
  by true e =
      let m = merges.0 ((tests_due old.lowest cuts).0 e) in
      rw e (ap (λ (x : State). x.device.reads) m.same, ap (λ (x : State). x.device.writes) m.same)
  by false e =
      let same = merges.1 (λ due. both_ways (is_due old.lowest cuts) e ((tests_due old.lowest cuts).1 due)) in
      rw e (ap (λ (x : State). x.device.reads) same, ap (λ (x : State). x.device.writes) same)

pub merged_turn : (v now : Seg) (col : ℕ) (cols : List Col) (t : ℕ) → v ≡ now → v.site.told ≡ told_by v.cols → v.pools ≡ pools_by v.cols → MayTurn col now
    → now.site.shape.k ≤ col → (col_at v.cols col).is_up ≡ true → cols ≡ with_state v.cols col (state_at cols col)
    → MergesIfDue v.cuts (state_at v.cols col) (state_at cols col)
    → ((value : ℕ → ℕ) (p : ℕ → Option Piece) → Holds (state_at v.cols col) v.cuts value p → Holds (state_at cols col) v.cuts value p)
    → Same (state_at v.cols col) (state_at cols col) → IsKept (state_at cols col) → IsFull (state_at cols col).device → faults_at cols col ≡ faults_at v.cols col
    → Turned (IsMerged now.site.shape now.frail now.cuts col) col now t (seen v cols) t
merged_turn v now col cols t is told pools turn high up one merges holds same kept full faults =
    let may : MayTurn col v = subst (MayTurn col) (sym is) turn in
    let above : v.site.shape.k ≤ col = subst (λ (x : Seg). x.site.shape.k ≤ col) (sym is) high in
    let c : Col = record (col_at v.cols col) { state = state_at cols col } in
    subst (λ (x : Seg). Turned (IsMerged x.site.shape x.frail x.cuts col) col x t (seen v cols) t) is (inr (inl (record {
      column = c;
      was = up;
      does = record {
        tends = record {
          keeps = keeps_same v.site.shape v.frail col (col_at v.cols col) c above refl same kept full;
          live = refl;
          faults = faults;
          holds = holds;
          counts = merge_counts v.cuts (state_at v.cols col) (state_at cols col) merges;
        };
        room = refl;
      };
      clock = refl;
      becomes = seen_with v cols col c told pools may.there one same.tells refl;
    })))

pub merge_failed : (v now u : Seg) (col : ℕ) (cols : List Col) (t after : ℕ) (failed : ColumnFailed) → v ≡ now → v.site.told ≡ told_by v.cols
    → v.pools ≡ pools_by v.cols → MayTurn col now → now.site.shape.k ≤ col → (col_at v.cols col).is_up ≡ true → cols ≡ with_state v.cols col (state_at cols col)
    → Same (state_at v.cols col) (state_at cols col) → IsKept (state_at cols col) → IsFull (state_at cols col).device
    → (failed.col ≡ col) × (failed.count ≡ faults_at cols col) → Rose (faults_at v.cols col) (faults_at cols col)
    → ((state_at v.cols col).device.never_fails ≡ true → ⊥)
    → u ≡ record (seen v cols) {
      cols = with_col cols failed.col (record (col_at cols failed.col) { is_up = false });
      log = v.log ++ Down after failed.col (col_at cols failed.col).room.node (Fault failed.count) ∷ [];
    }
    → after ≡ next_stamp (clock_of v.log) t → StampFollows v.log after → Fallen col now t u after
merge_failed v now u col cols t after failed is told pools turn high up one same kept full named rose fails becomes stamp follows =
    let above : v.site.shape.k ≤ col = subst (λ (x : Seg). x.site.shape.k ≤ col) (sym is) high in
    let down : Col = record (col_at v.cols col) { is_up = false; state = state_at cols col } in
    has_fallen v now u col cols t after failed is told pools turn up one
    (keeps_same v.site.shape v.frail col (col_at v.cols col) down above refl same kept full) named rose fails becomes stamp follows
