-- What a tick of one column makes of a segment.
use Rattle.std.proofs.Common.{◌≡◌, inl, inr, ℕ, ◌+◌, ◌-◌, ◌<◌, ◌≤◌, ◌++◌, ◌∷◌, [], List, length, set-set, Bool, true, false, Option, refl, sym, ap, ◌∙◌, subst, append-nil, arith}
use Rattle.std.specs.Prelude.{is_some, IsPermutation, option_map}
use Rattle.std.specs.List.{filter, flat_map}
use Rattle.std.proofs.lemmas.Bool.{both_ways, cases_lt}
use Rattle.cod_types.specs.Faults.{Rose}
use Rattle.cod_types.specs.Limits.{floor, Shape}
use Rattle.cod_chronicle.specs.declared.entry.Entry.TheVariants.{Down}
use Rattle.cod_chronicle.specs.declared.entry.Cause.TheVariants.{Fault}
use Rattle.cod_chronicle.specs.Said.{clock_of, is_over, next_stamp, StampFollows}
use Rattle.cod_parity.specs.Calls.{MergesIfDue, Shrinks}
use Rattle.cod_parity.specs.Held.{Holds, Piece}
use Rattle.cod_parity.specs.Log.{is_past, Logged, text}
use Rattle.cod_parity.specs.State.{averaged, cut_to, IsKept, Means, State}
use Rattle.cod_parity.proofs.Calling.{cut_none, cut_some}
use Rattle.cod_place.specs.Room.{Room}
use Rattle.cod_place.specs.Rooms.{raised}
use Rattle.cod_repair.specs.Columns.{faults_at, IsFull, state_at, with_state}
use Rattle.cod_repair.specs.declared.columns.ColumnFailed.{ColumnFailed}
use Rattle.cod_seg.specs.Calls.{is_due, merge_costs}
use Rattle.cod_seg.specs.Seg.{Col, col_at, node_in, Seg, with_col}
use Rattle.cod_seg.specs.Sound.{is_frail, Sound}
use Rattle.cod_seg.specs.Steps.{KeepsColumn}
use Rattle.cod_seg.proofs.Costing.{tests_due}
use Rattle.cod_seg.proofs.Keeping.{col_here}
use Rattle.cod_seg.proofs.Rooms.{floor_has_room}
use Rattle.cod_segment.specs.Events.{Balances, Counts, rooms_of}
use Rattle.cod_segment.specs.Views.{pools_by, told_by}
use Rattle.cod_rounds.specs.Turns.{Fallen, IsTended, MayTurn, Turned}
use Rattle.cod_rounds.specs.Rounds.{Tended}
use Rattle.cod_rounds.proofs.Trimming.{balance_on, came_on, comes_first, rooms_amid, RoomsAmid, trimmed}
use Rattle.cod_rounds.proofs.Turning.{has_fallen, merge_counts, seen, seen_with}

-- what no call of a column's region changes
abbrev pub StaysSame : (old new : State) → Type 0
StaysSame old new = (new.shape ≡ old.shape) × (new.device.never_fails ≡ old.device.never_fails) × (is_some new.device.content ≡ is_some old.device.content)

-- ---- what a merge and a cut leave

-- its region is as long as its block and its reserve, and was called as often
pub record CutsTo (old new : State) : Type 0 where
  pub long : new.device.size ≡ old.shape.block + new.size
  pub reads : new.device.reads ≡ old.device.reads
  pub writes : new.device.writes ≡ old.device.writes

cuts_to : (size : ℕ) (s : State) → s.device.size ≡ s.shape.block + s.size → CutsTo s (cut_to size s)
cuts_to size s long = elim (cases_lt size s.size) [
  | inl less ↦ rw (cut_some s size less) (record { long = refl; reads = refl; writes = refl })
  | inr more ↦ rw (cut_none s size more) (record { long = long; reads = refl; writes = refl })
]

merged_long : (cuts : List ℕ) (old new : State) → old.device.size ≡ old.shape.block + old.size → MergesIfDue cuts old new
    → (new.shape ≡ old.shape) × (new.device.size ≡ new.shape.block + new.size)
merged_long cuts old new long merges = by (is_due old.lowest cuts) refl where
  by : (b : Bool) → is_due old.lowest cuts ≡ b → (new.shape ≡ old.shape) × (new.device.size ≡ new.shape.block + new.size)
  by true e =
      let m = merges.0 ((tests_due old.lowest cuts).0 e) in
      (ap (λ (x : State). x.shape) m.same, rw m.same long)
  by false e =
      let same = merges.1 (λ due. both_ways (is_due old.lowest cuts) e ((tests_due old.lowest cuts).1 due)) in
      (ap (λ (x : State). x.shape) same, rw same long)

-- A tick makes the calls of a merge, and its region is as long as its block and its reserve.
pub shrunk : (cuts : List ℕ) (size average : ℕ) (old new : State) → old.device.size ≡ old.shape.block + old.size → Shrinks cuts size (averaged average old) new
    → (new.device.size ≡ old.shape.block + new.size) × Counts (merge_costs cuts old) old.device new.device
shrunk cuts size average old new long shrinks =
    let m = shrinks.middle in
    let merged = merged_long cuts (averaged average old) m long shrinks.merges in
    let counts = merge_counts cuts (averaged average old) m shrinks.merges in
    let c = cuts_to size m merged.1 in
    let block : m.shape.block ≡ old.shape.block = ap (λ (g : Shape). g.block) merged.0 in
    let is = shrinks.is in (
      rw is c.long ∙ ap (λ (n : ℕ). n + new.size) block,
      (ap (λ (x : State). x.device.reads) is ∙ c.reads ∙ counts.0, ap (λ (x : State). x.device.writes) is ∙ c.writes ∙ counts.1),
    )

-- ---- what the column keeps

keeps_ticked : (g : Shape) (frail : List ℕ) (col cut : ℕ) (old new : Col) → g.k ≤ col → new.room ≡ record old.room { bytes = old.room.bytes - cut } → StaysSame old.state new.state
    → IsKept new.state → IsFull new.state.device → cut + new.state.size ≡ old.state.size → new.state.device.size ≡ g.block + new.state.size
    → old.state.device.size ≡ g.block + old.state.size → KeepsColumn g frail col old new
keeps_ticked g frail col cut old new high room same kept full less long was =
    let bytes = ap (λ (r : Room). r.bytes) room in
    record {
      node = ap (λ (r : Room). r.node) room;
      owned = ap (λ (r : Room). r.of) room;
      shape = same.0;
      tells = same.2;
      never_fails = same.1;
      full = full;
      fits = λ fit. omega (arith, bytes, less, long, was, fit);
      roomy = λ none e. omega (arith, bytes, less, long, was, e);
      long = λ low. absurd (omega (arith, low, high));
      plain = λ low. absurd (omega (arith, low, high));
      kept = λ above k. kept;
      exact = λ above up e. long;
    }

keeps_torn : (g : Shape) (frail : List ℕ) (col : ℕ) (old new : Col) → g.k ≤ col → new.room ≡ old.room → StaysSame old.state new.state
    → IsKept new.state → IsFull new.state.device → new.state.device.size ≤ old.state.device.size → new.is_up ≡ false → (frail ≡ [] → ⊥) → KeepsColumn g frail col old new
keeps_torn g frail col old new high room same kept full shorter down some =
    let bytes = ap (λ (r : Room). r.bytes) room in
    record {
      node = ap (λ (r : Room). r.node) room;
      owned = ap (λ (r : Room). r.of) room;
      shape = same.0;
      tells = same.2;
      never_fails = same.1;
      full = full;
      fits = λ fit. omega (arith, bytes, shorter, fit);
      roomy = λ none e. absurd (some none);
      long = λ low. absurd (omega (arith, low, high));
      plain = λ low. absurd (omega (arith, low, high));
      kept = λ above k. kept;
      exact = λ above up e. absurd (both_ways new.is_up down up);
    }

-- ---- the turn

-- the records past the cut fit the floor, in whatever view
pub tick_fits : (v now : Seg) (col : ℕ) → v ≡ now → MayTurn col now → (col_at v.cols col).is_up ≡ true
    → ((col_at now.cols col).is_up ≡ true
    → (base : List ℕ) (records : List Logged) → Means (state_at now.cols col) base records → length (flat_map text (filter (is_past now.cuts) records)) ≤ floor now.site.shape)
    → (base : List ℕ) (records : List Logged) → Means (state_at v.cols col) base records
    → length (flat_map text (filter (is_past v.cuts) records)) ≤ floor (state_at v.cols col).shape
tick_fits v now col is turn up fits = λ base records means.
    let may : MayTurn col v = subst (MayTurn col) (sym is) turn in
    let fit = subst (λ (x : Seg). (col_at x.cols col).is_up ≡ true → (b : List ℕ) (ls : List Logged) → Means (state_at x.cols col) b ls
    → length (flat_map text (filter (is_past x.cuts) ls)) ≤ floor x.site.shape) (sym is) fits in
    rw may.column.shape (fit up base records means)

-- what is left of a room
abbrev pub trimmed_room : (bytes : ℕ) → Room → Room
trimmed_room bytes room = record room { bytes = room.bytes - bytes }

-- the column that a tick leaves
abbrev pub ticked : (cut : ℕ) → State → Col → Col
ticked cut st old = record old { state = st; room = trimmed_room cut old.room }

pub ticked_cols : (v now : Seg) (col cut : ℕ) (cols later : List Col) → v ≡ now → MayTurn col now → cols ≡ with_state v.cols col (state_at cols col)
    → later ≡ with_col cols col (record (col_at cols col) { room = trimmed_room cut (col_at cols col).room }) → later ≡ with_col v.cols col (ticked cut (state_at cols col) (col_at v.cols col))
ticked_cols v now col cut cols later is turn one trims =
    let may : MayTurn col v = subst (MayTurn col) (sym is) turn in
    let was : Col = record (col_at v.cols col) { state = state_at cols col } in
    let here : col_at cols col ≡ was = ap (λ (x : List Col). col_at x col) one ∙ col_here v.cols col was may.there in
    trims ∙ ap (λ (c : Col). with_col cols col (record c { room = trimmed_room cut c.room })) here
    ∙ ap (λ (x : List Col). with_col x col (ticked cut (state_at cols col) (col_at v.cols col))) one
    ∙ set-set v.cols col was (ticked cut (state_at cols col) (col_at v.cols col))

-- the room of a column stays in the tick itself
pub room_before : (v now : Seg) (col : ℕ) (cols : List Col) → v ≡ now → MayTurn col now → cols ≡ with_state v.cols col (state_at cols col) → (col_at cols col).room ≡ (col_at v.cols col).room
room_before v now col cols is turn one =
    let may : MayTurn col v = subst (MayTurn col) (sym is) turn in
    ap (λ (x : List Col). (col_at x col).room) one ∙ ap (λ (c : Col). c.room) (col_here v.cols col (record (col_at v.cols col) { state = state_at cols col }) may.there)

pub ticked_turn : (v now : Seg) (col cut size average : ℕ) (cols later : List Col) (t : ℕ) → v ≡ now → v.site.told ≡ told_by v.cols → v.pools ≡ pools_by v.cols → MayTurn col now
    → now.site.shape.k ≤ col → (col_at v.cols col).is_up ≡ true → cols ≡ with_state v.cols col (state_at cols col)
    → later ≡ with_col cols col (record (col_at cols col) { room = trimmed_room cut (col_at cols col).room })
    → (cut + (state_at cols col).size ≡ (state_at v.cols col).size) × Shrinks v.cuts size (averaged average (state_at v.cols col)) (state_at cols col)
    → ((value : ℕ → ℕ) (p : ℕ → Option Piece) → Holds (state_at v.cols col) v.cuts value p → Holds (state_at cols col) v.cuts value p)
    → StaysSame (state_at v.cols col) (state_at cols col) → IsKept (state_at cols col) → IsFull (state_at cols col).device → faults_at cols col ≡ faults_at v.cols col
    → Turned (IsTended now.site.shape now.frail now.cuts col) col now t (seen v later) t
ticked_turn v now col cut size average cols later t is told pools turn high up one trims shrinks holds same kept full faults =
    let may : MayTurn col v = subst (MayTurn col) (sym is) turn in
    let above : v.site.shape.k ≤ col = subst (λ (x : Seg). x.site.shape.k ≤ col) (sym is) high in
    let old = col_at v.cols col in
    let st = state_at cols col in
    let c : Col = ticked cut st old in
    let shape : old.state.shape ≡ v.site.shape = may.column.shape in
    let block : old.state.shape.block ≡ v.site.shape.block = ap (λ (g : Shape). g.block) shape in
    let exact : old.state.device.size ≡ v.site.shape.block + old.state.size = may.column.exact above up in
    let shrank = shrunk v.cuts size average old.state st (exact ∙ ap (λ (n : ℕ). n + old.state.size) (sym block)) shrinks.1 in
    subst (λ (x : Seg). Turned (IsTended x.site.shape x.frail x.cuts col) col x t (seen v later) t) is (inr (inl (record {
      column = c;
      was = up;
      does = record {
        keeps = keeps_ticked v.site.shape v.frail col cut old c above refl same kept full shrinks.0 (shrank.0 ∙ ap (λ (n : ℕ). n + st.size) block) exact;
        live = refl;
        faults = faults;
        holds = holds;
        counts = shrank.1;
      };
      clock = refl;
      becomes = seen_with v later col c told pools may.there (ticked_cols v now col cut cols later is turn one trims) same.2 refl;
    })))

pub tick_failed : (v now u : Seg) (col : ℕ) (cols : List Col) (t after : ℕ) (failed : ColumnFailed) → v ≡ now → v.site.told ≡ told_by v.cols
    → v.pools ≡ pools_by v.cols → MayTurn col now → now.site.shape.k ≤ col → (col_at v.cols col).is_up ≡ true → cols ≡ with_state v.cols col (state_at cols col)
    → StaysSame (state_at v.cols col) (state_at cols col) → IsKept (state_at cols col) → IsFull (state_at cols col).device
    → (state_at cols col).device.size ≤ (state_at v.cols col).device.size
    → (failed.col ≡ col) × (failed.count ≡ faults_at cols col) → Rose (faults_at v.cols col) (faults_at cols col)
    → ((state_at v.cols col).device.never_fails ≡ true → ⊥)
    → u ≡ record (seen v cols) {
      cols = with_col cols failed.col (record (col_at cols failed.col) { is_up = false });
      log = v.log ++ Down after failed.col (col_at cols failed.col).room.node (Fault failed.count) ∷ [];
    }
    → after ≡ next_stamp (clock_of v.log) t → StampFollows v.log after → Fallen col now t u after
tick_failed v now u col cols t after failed is told pools turn high up one same kept full shorter named rose fails becomes stamp follows =
    let may : MayTurn col v = subst (MayTurn col) (sym is) turn in
    let above : v.site.shape.k ≤ col = subst (λ (x : Seg). x.site.shape.k ≤ col) (sym is) high in
    let down : Col = record (col_at v.cols col) { is_up = false; state = state_at cols col } in
    let some : v.frail ≡ [] → ⊥ = λ none. fails (may.column.sure (ap (λ (f : List ℕ). is_frail f (node_in (col_at v.cols col))) none)) in
    has_fallen v now u col cols t after failed is told pools turn up one
    (keeps_torn v.site.shape v.frail col (col_at v.cols col) down above refl same kept full shorter refl some) named rose fails becomes stamp follows

-- ---- its rooms

-- what a tick cuts off is no more than the room has
pub cut_within : (v now : Seg) (col cut : ℕ) (cols : List Col) → v ≡ now → MayTurn col now → now.site.shape.k ≤ col → (col_at v.cols col).is_up ≡ true
    → cols ≡ with_state v.cols col (state_at cols col) → cut + (state_at cols col).size ≡ (state_at v.cols col).size → cut ≤ (col_at cols col).room.bytes
cut_within v now col cut cols is turn high up one less =
    let may : MayTurn col v = subst (MayTurn col) (sym is) turn in
    let above : v.site.shape.k ≤ col = subst (λ (x : Seg). x.site.shape.k ≤ col) (sym is) high in
    let exact = may.column.exact above up in
    let fits = may.column.fits in
    let room = ap (λ (r : Room). r.bytes) (room_before v now col cols is turn one) in
    omega (arith, exact, fits, room, less)

tick_amid : (v now : Seg) (col cut : ℕ) (cols later : List Col) → v ≡ now → MayTurn col now → cols ≡ with_state v.cols col (state_at cols col)
    → later ≡ with_col cols col (record (col_at cols col) { room = trimmed_room cut (col_at cols col).room })
    → RoomsAmid now (seen v later) (col_at cols col).room (trimmed_room cut (col_at cols col).room)
tick_amid v now col cut cols later is turn one trims =
    let may : MayTurn col v = subst (MayTurn col) (sym is) turn in
    let room = room_before v now col cols is turn one in
    let amid = rooms_amid v (seen v later) col (ticked cut (state_at cols col) (col_at v.cols col)) may.there (ticked_cols v now col cut cols later is turn one trims) refl in
    subst (λ (x : Seg). RoomsAmid x (seen v later) (col_at cols col).room (trimmed_room cut (col_at cols col).room)) is
    (subst (λ (r : Room). RoomsAmid v (seen v later) r (trimmed_room cut r)) (sym room) amid)

pub one_came : (Came : List Room → Type 0) → ((xs ys : List Room) → IsPermutation xs ys → Came xs → Came ys) → ((xs ys : List Room) → Came (xs ++ ys) → Came xs)
    → (v now : Seg) (col : ℕ) (cols : List Col) → v ≡ now → MayTurn col now → cols ≡ with_state v.cols col (state_at cols col) → Came (rooms_of now) → Came ((col_at cols col).room ∷ [])
one_came Came order front v now col cols is turn one came =
    let may : MayTurn col v = subst (MayTurn col) (sym is) turn in
    let room = room_before v now col cols is turn one in
    let amid = rooms_amid v (record v { cols = with_col v.cols col (col_at v.cols col) }) col (col_at v.cols col) may.there refl refl in
    let x = (col_at v.cols col).room in
    let all : Came ((amid.front ++ (x ∷ amid.rest)) ++ []) = subst (λ (l : List Room). Came (l ++ [])) amid.was
    (subst Came (sym (append-nil (rooms_of v))) (subst (λ (s : Seg). Came (rooms_of s)) (sym is) came)) in
    let first = order ((amid.front ++ (x ∷ amid.rest)) ++ []) (x ∷ (amid.front ++ (amid.rest ++ []))) (comes_first amid.front amid.rest [] x) all in
    subst (λ (r : Room). Came (r ∷ [])) (sym room) (front (x ∷ []) (amid.front ++ (amid.rest ++ [])) first)

pub tick_came : (Came Later : List Room → Type 0) → ((xs ys : List Room) → IsPermutation xs ys → Came xs → Came ys) → ((xs ys : List Room) → IsPermutation xs ys → Later xs → Later ys)
    → (v now : Seg) (col cut : ℕ) (cols later : List Col) → v ≡ now → MayTurn col now → cols ≡ with_state v.cols col (state_at cols col)
    → later ≡ with_col cols col (record (col_at cols col) { room = trimmed_room cut (col_at cols col).room })
    → ((rooms : List Room) → Came ((col_at cols col).room ∷ rooms) → Later (trimmed_room cut (col_at cols col).room ∷ rooms))
    → (rest : List Room) → Came (rooms_of now ++ rest) → Later (rooms_of (seen v later) ++ rest)
tick_came Came Later order ordered v now col cut cols later is turn one trims came =
    came_on Came Later order ordered now (seen v later) (col_at cols col).room (trimmed_room cut (col_at cols col).room) (tick_amid v now col cut cols later is turn one trims) came

pub tick_balance : (before after : Option (List ℕ)) (v now : Seg) (col cut : ℕ) (cols later : List Col) → v ≡ now → MayTurn col now → cols ≡ with_state v.cols col (state_at cols col)
    → later ≡ with_col cols col (record (col_at cols col) { room = trimmed_room cut (col_at cols col).room }) → cut ≤ (col_at cols col).room.bytes
    → after ≡ option_map (raised (col_at cols col).room.node.0 cut) before → Balances before after (rooms_of now) (rooms_of (seen v later))
tick_balance before after v now col cut cols later is turn one trims within free =
    balance_on before after now (seen v later) (col_at cols col).room (trimmed_room cut (col_at cols col).room) (tick_amid v now col cut cols later is turn one trims)
    (trimmed before after (col_at cols col).room cut within free)

-- ---- the round

-- a tick of a column that had no turn yet keeps its records
pub round_fits : (col : ℕ) (s : Seg) (t : ℕ) (u : Seg) (mid : ℕ) → Sound s → is_over s.site s.log ≡ false → col < s.site.shape.n → Tended col s t u mid
    → (col_at u.cols col).is_up ≡ true
    → (base : List ℕ) (records : List Logged) → Means (state_at u.cols col) base records → length (flat_map text (filter (is_past u.cuts) records)) ≤ floor u.site.shape
round_fits col s t u mid sound few among round up = λ base records means.
    let runs = round.runs in
    let from = round.from in
    let same : col_at u.cols col ≡ col_at s.cols col = runs.rest col (omega (arith, from)) in
    let was : Means (state_at s.cols col) base records = subst (λ (c : Col). Means c.state base records) same means in
    let fit = floor_has_room s col sound few (omega (arith, from)) among (subst (λ (c : Col). c.is_up ≡ true) same up) base records was in
    rw (runs.cuts, runs.site) fit
