-- What a put of one column makes of a segment.
use Rattle.std.proofs.Common.{◌≡◌, inl, inr, ℕ, ◌+◌, ◌<◌, ◌≤◌, ◌++◌, ◌∷◌, [], List, get_or, slice_index, true, false, Option, Some, None, refl, sym, ap, ◌∙◌, subst, arith}
use Rattle.std.specs.Prelude.{is_some}
use Rattle.cod_types.specs.Faults.{Rose}
use Rattle.cod_types.specs.Limits.{Shape}
use Rattle.cod_types.specs.Overwritten.{overwritten}
use Rattle.cod_region.specs.Device.{Torn}
use Rattle.cod_code.specs.Segments.{column, column_byte}
use Rattle.cod_code.proofs.Segments.{column_at, column_length}
use Rattle.cod_chronicle.specs.declared.entry.Entry.TheVariants.{Down}
use Rattle.cod_chronicle.specs.declared.entry.Cause.TheVariants.{Fault}
use Rattle.cod_chronicle.specs.Said.{clock_of, next_stamp, StampFollows}
use Rattle.cod_parity.specs.Calls.{FailsWrite}
use Rattle.cod_parity.specs.Held.{Holds, no_pieces}
use Rattle.cod_parity.specs.Log.{Logged, no_lowest}
use Rattle.cod_parity.specs.State.{empty, IsKept, Means, State, was_written, with_base}
use Rattle.cod_parity.proofs.Unique.{held_again}
use Rattle.cod_place.specs.Room.{Room}
use Rattle.cod_repair.specs.Columns.{faults_at, IsFull, state_at, with_state}
use Rattle.cod_repair.specs.declared.columns.ColumnFailed.{ColumnFailed}
use Rattle.cod_seg.specs.Seg.{Col, col_at, Seg, with_col}
use Rattle.cod_seg.specs.Steps.{KeepsColumn}
use Rattle.cod_seg.proofs.Marking.{is_some_map, written}
use Rattle.cod_segment.specs.Views.{pools_by, told_by}
use Rattle.cod_rounds.specs.Turns.{Fallen, IsGiven, MayTurn, Turned}
use Rattle.cod_rounds.proofs.Targeting.{front_of}
use Rattle.cod_rounds.proofs.Turning.{has_fallen, seen, seen_with}

-- ---- the state of a column

based : (base : List ℕ) (s : State) → with_base base s ≡ record s { used = 0; lowest = no_lowest; device = was_written 0 base s.device }
unfolding with_base
based base s = refl

-- Its numbers stay, but for those of its records.
pub record Rewrites (old new : State) : Type 0 where
  pub shape : new.shape ≡ old.shape
  pub size : new.size ≡ old.size
  pub average : new.average ≡ old.average
  pub used : new.used ≤ old.used
  pub long : new.device.size ≡ old.device.size
  pub never_fails : new.device.never_fails ≡ old.device.never_fails
  pub tells : is_some new.device.content ≡ is_some old.device.content
  pub plain : (g : Shape) → old ≡ empty g 0 10000 old.device → new ≡ record old { device = new.device }

based_rewrites : (base : List ℕ) (old new : State) → new ≡ with_base base old → Rewrites old new
based_rewrites base old new puts =
    let is = puts ∙ based base old in
    record {
      shape = ap (λ (x : State). x.shape) is;
      size = ap (λ (x : State). x.size) is;
      average = ap (λ (x : State). x.average) is;
      used = let e = ap (λ (x : State). x.used) is in omega (arith, e);
      long = ap (λ (x : State). x.device.size) is;
      never_fails = ap (λ (x : State). x.device.never_fails) is;
      tells = ap (λ (x : State). is_some x.device.content) is ∙ is_some_map old.device.content (overwritten 0 base);
      plain = λ g e.
          let used = ap (λ (x : State). x.used) e in
          let lowest = ap (λ (x : State). x.lowest) e in
          let device = ap (λ (x : State). x.device) is in
          is ∙ (λ i. record old { used = sym used i; lowest = sym lowest i; device = sym device i });
    }

-- a write that failed
failed_rewrites : (off n : ℕ) (old new : State) → FailsWrite off n old new → Rewrites old new
failed_rewrites off n old new fails =
    let is = fails.same in
    record {
      shape = ap (λ (x : State). x.shape) is;
      size = ap (λ (x : State). x.size) is;
      average = ap (λ (x : State). x.average) is;
      used = let e = ap (λ (x : State). x.used) is in omega (arith, e);
      long = ap (λ (x : State). x.device.size) is;
      never_fails = ap (λ (x : State). x.device.never_fails) is;
      tells = torn old.device.content new.device.content fails.torn;
      plain = λ g e. is ∙ (λ i. record old { device = sym (ap (λ (x : State). x.device) is) i });
    } where
      torn : (o p : Option (List ℕ)) → Torn off n o p → is_some p ≡ is_some o
      torn None None t = refl
      torn (Some a) (Some b) t = refl
      torn None (Some b) t = absurd t
      torn (Some a) None t = absurd t

rewritten_kept : (old new : State) → Rewrites old new → IsKept old → IsKept new
rewritten_kept old new is kept =
    let size = is.size in
    let used = is.used in
    let average = is.average in
    let long = is.long in
    let block = ap (λ (g : Shape). g.block) is.shape in
    let most_used = kept.used in
    let most_average = kept.average in
    let whole = kept.whole in
    record {
      within = rw is.shape kept.within;
      used = omega (arith, size, used, most_used);
      least = rw (is.shape, size) kept.least;
      most = rw (is.shape, size) kept.most;
      average = omega (arith, average, most_average);
      whole = omega (arith, block, size, long, whole);
    }

keeps_rewritten : (g : Shape) (frail : List ℕ) (col : ℕ) (old new : Col) → new.room ≡ old.room → Rewrites old.state new.state → IsFull new.state.device
    → (col < g.k → old.state ≡ empty g 0 10000 old.state.device) → KeepsColumn g frail col old new
keeps_rewritten g frail col old new room is full plain =
    let bytes = ap (λ (r : Room). r.bytes) room in
    let long = is.long in
    record {
      node = ap (λ (r : Room). r.node) room;
      owned = ap (λ (r : Room). r.of) room;
      shape = is.shape;
      tells = is.tells;
      never_fails = is.never_fails;
      full = full;
      fits = λ fit. omega (arith, bytes, long, fit);
      roomy = λ none e. bytes ∙ e ∙ sym long;
      long = λ low. long;
      plain = λ low. is.plain g (plain low);
      kept = λ above k. rewritten_kept old.state new.state is k;
      exact = λ above up e. long ∙ e ∙ ap (λ (n : ℕ). g.block + n) (sym is.size);
    }

-- ---- the turn

-- what a put of a live column does to it
given_column : (g : Shape) (frail bytes cuts : List ℕ) (col : ℕ) (old new : Col) → new.room ≡ old.room → new.is_up ≡ old.is_up → old.state.shape ≡ g
    → (col < g.k → old.state ≡ empty g 0 10000 old.state.device) → new.state ≡ with_base (column g.k g.block col bytes) old.state
    → (g.k ≤ col → (base : List ℕ) (records : List Logged) → Means old.state base records → (later : List ℕ)
    → Holds new.state later (slice_index (column g.k g.block col bytes)) no_pieces)
    → IsFull new.state.device → new.state.device.faults ≡ old.state.device.faults → IsGiven g frail bytes cuts col old new
given_column g frail bytes cuts col old new room live shape plain puts holds full faults =
    let base = column g.k g.block col bytes in
    let is = puts ∙ based base old.state in
    let content = ap (λ (x : State). x.device.content) is in
    let long = column_length g.k g.block col bytes in
    let block : new.state.shape.block ≡ g.block = ap (λ (x : State). x.shape.block) is ∙ ap (λ (x : Shape). x.block) shape in
    record {
      puts = record {
        keeps = keeps_rewritten g frail col old new room (based_rewrites base old.state new.state puts) full plain;
        live = live;
        faults = faults;
        block = λ low up held told x lt.
            let w = written old.state.device.content 0 base held (sym content ∙ told) in
            ap (λ (l : List ℕ). get_or l x 0) (sym w.2) ∙ front_of base w.0 x (omega (arith, long, lt)) ∙ column_at g.k g.block col bytes x lt;
        parity = λ high up v p held.
            held_again new.state cuts (slice_index base) (column_byte g.k g.block col bytes) no_pieces no_pieces
            (λ x lt. column_at g.k g.block col bytes x (omega (arith, block, lt))) (λ j. refl) (holds high held.base held.records held.means cuts);
      };
      counts = (ap (λ (x : State). x.device.reads) is, ap (λ (x : State). x.device.writes) is);
      room = room;
    }

pub given_turn : (g : Shape) (bytes : List ℕ) (v now : Seg) (col : ℕ) (cols : List Col) (t : ℕ) → v ≡ now → g ≡ now.site.shape → v.site.told ≡ told_by v.cols → v.pools ≡ pools_by v.cols
    → MayTurn col now → (col_at v.cols col).is_up ≡ true → cols ≡ with_state v.cols col (state_at cols col)
    → state_at cols col ≡ with_base (column g.k g.block col bytes) (state_at v.cols col)
    → (g.k ≤ col → (base : List ℕ) (records : List Logged) → Means (state_at v.cols col) base records → (later : List ℕ)
    → Holds (state_at cols col) later (slice_index (column g.k g.block col bytes)) no_pieces)
    → IsFull (state_at cols col).device → faults_at cols col ≡ faults_at v.cols col
    → Turned (IsGiven now.site.shape now.frail bytes now.cuts col) col now t (seen v cols) t
given_turn g bytes v now col cols t is bench told pools turn up one puts holds full faults =
    let may : MayTurn col v = subst (MayTurn col) (sym is) turn in
    let shape : g ≡ v.site.shape = subst (λ (x : Seg). g ≡ x.site.shape) (sym is) bench in
    let old = col_at v.cols col in
    let c : Col = record old { state = state_at cols col } in
    let given : IsGiven v.site.shape v.frail bytes v.cuts col old c = subst (λ (x : Shape). IsGiven x v.frail bytes v.cuts col old c) shape
    (given_column g v.frail bytes v.cuts col old c refl refl (may.column.shape ∙ sym shape)
    (subst (λ (x : Shape). col < x.k → old.state ≡ empty x 0 10000 old.state.device) (sym shape) may.column.plain) puts holds full faults) in
    subst (λ (x : Seg). Turned (IsGiven x.site.shape x.frail bytes x.cuts col) col x t (seen v cols) t) is (inr (inl (record {
      column = c;
      was = up;
      does = given;
      clock = refl;
      becomes = seen_with v cols col c told pools may.there one given.puts.keeps.tells refl;
    })))

pub give_failed : (n : ℕ) (v now u : Seg) (col : ℕ) (cols : List Col) (t after : ℕ) (failed : ColumnFailed) → v ≡ now → v.site.told ≡ told_by v.cols
    → v.pools ≡ pools_by v.cols → MayTurn col now → (col_at v.cols col).is_up ≡ true → cols ≡ with_state v.cols col (state_at cols col)
    → FailsWrite 0 n (state_at v.cols col) (state_at cols col) → IsFull (state_at cols col).device
    → (failed.col ≡ col) × (failed.count ≡ faults_at cols col) → Rose (faults_at v.cols col) (faults_at cols col)
    → ((state_at v.cols col).device.never_fails ≡ true → ⊥)
    → u ≡ record (seen v cols) {
      cols = with_col cols failed.col (record (col_at cols failed.col) { is_up = false });
      log = v.log ++ Down after failed.col (col_at cols failed.col).room.node (Fault failed.count) ∷ [];
    }
    → after ≡ next_stamp (clock_of v.log) t → StampFollows v.log after → Fallen col now t u after
give_failed n v now u col cols t after failed is told pools turn up one fails full named rose never becomes stamp follows =
    let may : MayTurn col v = subst (MayTurn col) (sym is) turn in
    let old = col_at v.cols col in
    let down : Col = record old { is_up = false; state = state_at cols col } in
    has_fallen v now u col cols t after failed is told pools turn up one
    (keeps_rewritten v.site.shape v.frail col old down refl (failed_rewrites 0 n old.state (state_at cols col) fails) full may.column.plain) named rose never becomes stamp follows
