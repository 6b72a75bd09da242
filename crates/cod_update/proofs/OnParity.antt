-- An update on a parity column.
use Rattle.std.proofs.Common.{◌≡◌, ℕ, ◌+◌, ◌-◌, ◌*◌, ◌<◌, ◌≤◌, ◌^◌, max, min, List, [], ◌∷◌, ◌++◌, length, Bool, true, false, cond, Option, Some, None, refl, sym, ap, ◌∙◌, subst, inl, inr, arith}
use Rattle.std.specs.Prelude.{◌==◌, if◌then◌else◌, slice_index}
use Rattle.std.specs.List.{filter, flat_map}
use Rattle.std.proofs.lemmas.Bool.{cases_eq, cases_lt, eq-eqb, le-leb, lt-leb, ne_eqb}
use Rattle.cod_types.specs.Faults.{bump}
use Rattle.cod_types.specs.Limits.{floor, Shape}
use Rattle.cod_types.specs.declared.call.Call.{Call as Asked}
use Rattle.cod_region.specs.Device.{Device}
use Rattle.cod_code.specs.Columns.{gamma}
use Rattle.cod_layout.specs.declared.parts.Part.{Part}
use Rattle.cod_chronicle.specs.declared.entry.Entry.{Entry}
use Rattle.cod_chronicle.specs.declared.entry.Entry.TheVariants.{Call, Down, Up, Move}
use Rattle.cod_chronicle.specs.Said.{call_count}
use Rattle.cod_claims.specs.declared.claim.Claim.{Claim}
use Rattle.cod_claims.specs.Changes.{new_bytes}
use Rattle.cod_claims.specs.Claimed.{claim_at, delta_of, is_noted, with_note}
use Rattle.cod_claims.specs.Slips.{Paper}
use Rattle.cod_place.specs.Room.{Room}
use Rattle.cod_parity.specs.Calls.{Appends, AppendsMerged, Same}
use Rattle.cod_parity.specs.Held.{Holds, Piece, with_piece}
use Rattle.cod_parity.specs.Log.{is_past, Logged, logged, logged_length, scaled, text}
use Rattle.cod_parity.specs.State.{IsKept, Means, State, with_record}
use Rattle.cod_parity.proofs.Rooms.{floor_least, length-scaled}
use Rattle.cod_parity.proofs.Spelled.{logged_most}
use Rattle.cod_seg.specs.Calls.{append_costs, column_costs, costs, Cost, nothing, record_length}
use Rattle.cod_seg.specs.Choices.{IsParityDue}
use Rattle.cod_seg.specs.Next.{next_step, open_in}
use Rattle.cod_seg.specs.Seg.{Col, col_at, Rebuilding, Seg, Target, with_col}
use Rattle.cod_seg.specs.Sound.{begin_of, IsColumn, piece_on, Sound}
use Rattle.cod_seg.specs.Steps.{goes, head_for, KeepsColumn, length_for, Notes, notes, stays}
use Rattle.cod_seg.specs.declared.next.Step.TheVariants as step
use Rattle.cod_seg.proofs.Choosing.{parity_where_due}
use Rattle.cod_seg.proofs.Going.{step_keeps}
use Rattle.cod_seg.proofs.Keeping.{col_there}
use Rattle.cod_seg.proofs.Rooms.{note_has_room}
use Rattle.cod_seg.proofs.Updates.{accepted}
use Rattle.cod_repair.specs.Columns.{faults_at, IsFull, state_at, with_state}
use Rattle.cod_segment.specs.Events.{Costs, Counts, CountsRebuild, CountsTarget, HasRoom, IsAsked, rebuild_rooms, rooms_of}
use Rattle.cod_segment.specs.Views.{pools_by, told_by}
use Rattle.cod_update.specs.Noting.{HasRecord, LacksRecord}
use Rattle.cod_update.proofs.Falling.{same_rooms}
use Rattle.cod_update.proofs.Moving.{Moves}
use Rattle.cod_update.proofs.OnData.{placed, same_view}
use Rattle.cod_update.proofs.Opened.{begun, IsBegun, open_noted, owned, Owns}

-- ---- the numbers of a record

pub count_most : (log : List Entry) → call_count log ≤ length log
unfolding call_count
count_most [] = omega arith
count_most (Call caller number stamp call reply ∷ log) = let m = count_most log in omega (arith, m)
count_most (Down stamp col node cause ∷ log) = let m = count_most log in omega (arith, m)
count_most (Up stamp col node ∷ log) = let m = count_most log in omega (arith, m)
count_most (Move stamp col node ∷ log) = let m = count_most log in omega (arith, m)

-- What is asked of a column, for a claim.
pub record Asks (s : Seg) (j i : ℕ) (b : Shape) (off number : ℕ) (bytes : List ℕ) : Type 0 where
  pub lacks : LacksRecord s j i
  pub bench : b ≡ s.site.shape
  pub off_is : off ≡ lacks.claim.delta.part.off
  pub bytes_are : bytes ≡ lacks.claim.delta.bytes
  pub number_is : number ≡ slice_index s.cuts j

pub asks : {s : Seg} {j i off number : ℕ} {bytes : List ℕ} (b : Shape) → LacksRecord s j i → b ≡ s.site.shape → delta_of (claim_at s.claims j) ≡ Some (off, bytes) → number ≡ slice_index s.cuts j
    → Asks s j i b off number bytes
asks {s} {j} {i} {off} {number} {bytes} b lacks bench delta number_is =
    let same : ◌≡◌ {A = Option (ℕ × List ℕ)} (Some (lacks.claim.delta.part.off, lacks.claim.delta.bytes)) (Some (off, bytes)) = sym (ap delta_of lacks.there) ∙ delta in
    let pair : ◌≡◌ {A = ℕ × List ℕ} (lacks.claim.delta.part.off, lacks.claim.delta.bytes) (off, bytes) = cc in
    record {
      lacks = lacks;
      bench = bench;
      off_is = sym (ap (λ (x : ℕ × List ℕ). x.0) pair);
      bytes_are = sym (ap (λ (x : ℕ × List ℕ). x.1) pair);
      number_is = number_is;
    }

pub next_number : {s : Seg} {j i : ℕ} (l : LacksRecord s j i) → slice_index s.cuts j + 1 < 2 ^ 64
next_number {s} {j} l =
    let few = l.sound.cut.each j in
    let most = count_most s.log in
    let room = l.room in
    omega (arith, few, most, room)

delta_short : {s : Seg} {j i : ℕ} (l : LacksRecord s j i) → length l.claim.delta.bytes ≤ s.site.shape.update
delta_short {s} {j} l =
    let is = l.sound.claimed.each j l.claim l.there in
    let block = s.site.shape.block in
    let len : l.claim.delta.part.len ≡ min (begin_of l.claim.delta.call + length (new_bytes l.claim.delta.call)) (j * block + block) - max (begin_of l.claim.delta.call) (j * block) =
    ap (λ (p : Part). p.len) is.part in
    let most = (accepted s.site.shape l.claim.delta.call is.update is.free).short in
    let size = is.size in
    omega (arith, len, most, size)

pub short_bytes : {s : Seg} {j i off number : ℕ} {b : Shape} {bytes : List ℕ} → Asks s j i b off number bytes → length bytes < 2 ^ 32
short_bytes {s} a =
    let short = delta_short a.lacks in
    let most = a.lacks.sound.shape.most_update in
    let same = ap (λ (l : List ℕ). length l) a.bytes_are in
    omega (arith, short, most, same)

pub second_version : {s : Seg} {j i off number : ℕ} {b : Shape} {bytes : List ℕ} → Asks s j i b off number bytes → s.version ≡ 2 → (b.version ≡ 2) × (length bytes ≤ b.update)
second_version {s} a two =
    rw (a.bench, a.bytes_are) (a.lacks.sound.dated.second two, delta_short a.lacks)

pub range_inside : {s : Seg} {j i off number : ℕ} {b : Shape} {bytes : List ℕ} → Asks s j i b off number bytes → off + length bytes ≤ b.block
range_inside {s} {j} a = rw (a.bench, a.bytes_are, a.off_is) (placed s j a.lacks.claim a.lacks.sound a.lacks.there).inside

pub among_blocks : {s : Seg} {j i off number : ℕ} {b : Shape} {bytes : List ℕ} → Asks s j i b off number bytes → j < b.k
among_blocks {s} {j} a = rw a.bench (a.lacks.sound.claimed.each j a.lacks.claim a.lacks.there).among

-- the record's length, as it is said of a claim
pub record_is : {s : Seg} {j i off number : ℕ} {b : Shape} {bytes : List ℕ} (a : Asks s j i b off number bytes)
    → logged_length s.version (record { block = j; number = number + 1; off = off; len = length bytes }) (scaled (gamma b.k i j) bytes)
    ≡ length_for s.site.shape.k s.version s.cuts j i a.lacks.claim
record_is {s} {j} {i} a = rw (a.bench, a.bytes_are, a.off_is, a.number_is) refl

floor_here : {s : Seg} {j i : ℕ} (l : LacksRecord s j i) → floor s.site.shape ≤ (state_at s.cols i).size
floor_here {s} {j} {i} l =
    let column : IsColumn s.site s.frail s.pools s.log i (col_at s.cols i) = l.sound.columns.each i l.below in
    subst (λ (g : Shape). floor g ≤ (state_at s.cols i).size) column.shape (column.reserve l.high).least

fits_for : {s : Seg} {j i : ℕ} (l : LacksRecord s j i) → length_for s.site.shape.k s.version s.cuts j i l.claim ≤ (state_at s.cols i).size
fits_for {s} {j} {i} l =
    let long = length-scaled (gamma s.site.shape.k i j) l.claim.delta.bytes in
    let most = logged_most s.site.shape s.version (head_for s.cuts j l.claim) (scaled (gamma s.site.shape.k i j) l.claim.delta.bytes) l.sound.dated.second in
    let short = delta_short l in
    let least = floor_least s.site.shape l.sound.shape in
    let size = floor_here l in
    omega (arith, long, most, short, least, size)

pub record_fits : {s : Seg} {j i off number : ℕ} {b : Shape} {bytes : List ℕ} → Asks s j i b off number bytes
    → logged_length s.version (record { block = j; number = number + 1; off = off; len = length bytes }) (scaled (gamma b.k i j) bytes) ≤ (state_at s.cols i).size
record_fits a = rw (record_is a) (fits_for a.lacks)

pub record_has_room : {s : Seg} {j i off number : ℕ} {b : Shape} {bytes : List ℕ} → Asks s j i b off number bytes
    → (base : List ℕ) (records : List Logged) → Means (state_at s.cols i) base records
    → length (flat_map text (filter (is_past s.cuts) records))
    + logged_length s.version (record { block = j; number = number + 1; off = off; len = length bytes }) (scaled (gamma b.k i j) bytes) ≤ (state_at s.cols i).size
record_has_room {s} {j} {i} a base records means =
    let l = a.lacks in
    let fresh : is_noted i (Some l.claim) ≡ false = sym (ap (is_noted i) l.there) ∙ l.fresh in
    let room = note_has_room s j i l.claim l.sound l.few l.there l.high l.below l.up fresh base records means in
    let size = floor_here l in
    let same = record_is a in
    omega (arith, room, size, same)

-- ---- the record is there

keeps_parity : (g : Shape) (frail : List ℕ) (i : ℕ) (c : Col) (state : State) → g.k ≤ i → Same c.state state → IsKept state → IsFull state.device
    → KeepsColumn g frail i c (record c { state = state })
keeps_parity g frail i c state high same kept full = record {
  node = refl;
  owned = refl;
  shape = same.shape;
  tells = same.tells;
  never_fails = same.never_fails;
  full = full;
  fits = λ fits. let l = same.length in omega (arith, l, fits);
  roomy = λ none was. was ∙ sym same.length;
  long = λ low. same.length;
  plain = λ low. absurd (omega (arith, low, high));
  kept = λ h k. kept;
  exact = λ h up was. same.length ∙ was ∙ ap (λ (n : ℕ). g.block + n) (sym same.size);
}

-- what an append costs
abbrev Took : Cost → (old new : State) → Type 0
Took cost old new = Counts cost old.device new.device

appended_counts : (l : Logged) (old new : State) → Appends l old new → Took (costs 0 1) old new
unfolding with_record
appended_counts l old new is = (ap (λ (s : State). s.device.reads) is.is, ap (λ (s : State). s.device.writes) is.is)

merged_counts : (cuts : List ℕ) (l : Logged) (old new : State) → AppendsMerged cuts l old new → Took (costs 1 2) old new
unfolding with_record
merged_counts cuts l old new is = (
  ap (λ (s : State). s.device.reads) is.appends.is ∙ ap (λ (s : State). s.device.reads) is.merges.same,
  ap (λ (s : State). s.device.writes) is.appends.is ∙ ap (λ (s : State). bump s.device.writes) is.merges.same,
)

append_takes : (n : ℕ) (old new : State) (cuts : List ℕ) (l : Logged) → (old.used + n ≤ old.size → Appends l old new) → (old.size < old.used + n → AppendsMerged cuts l old new)
    → Took (append_costs n old) old new
append_takes n old new cuts l adds merges = elim (cases_lt old.size (old.used + n)) [
  | inl over ↦ rw (lt-leb (old.used + n) old.size over) (merged_counts cuts l old new (merges over))
  | inr fits ↦ rw (le-leb (old.used + n) old.size fits) (appended_counts l old new (adds fits))
]

piece_is : {s : Seg} {j i off number : ℕ} {b : Shape} {bytes : List ℕ} (len : ℕ) (a : Asks s j i b off number bytes)
    → len ≡ logged_length s.version (record { block = j; number = number + 1; off = off; len = length bytes }) (scaled (gamma b.k i j) bytes)
    → record {
      off = off;
      bytes = scaled (gamma b.k i j) bytes;
      length = logged_length s.version (record { block = j; number = number + 1; off = off; len = length bytes }) (scaled (gamma b.k i j) bytes);
    } ≡ piece_on s.site.shape.k i j len a.lacks.claim
piece_is {s} {j} {i} len a long = rw (← long, a.bench, a.off_is, a.bytes_are) refl

pub has_record : {s : Seg} {j i off number : ℕ} {b : Shape} {bytes : List ℕ} (len : ℕ) (later : List Col) → Asks s j i b off number bytes
    → s.site.told ≡ told_by s.cols → s.pools ≡ pools_by s.cols
    → later ≡ with_state s.cols i (state_at later i)
    → len ≡ logged_length s.version (record { block = j; number = number + 1; off = off; len = length bytes }) (scaled (gamma b.k i j) bytes)
    → ((state_at s.cols i).used + logged_length s.version (record { block = j; number = number + 1; off = off; len = length bytes }) (scaled (gamma b.k i j) bytes) ≤ (state_at s.cols i).size
    → Appends (logged s.version (record { block = j; number = number + 1; off = off; len = length bytes }) (scaled (gamma b.k i j) bytes)) (state_at s.cols i) (state_at later i))
    → ((state_at s.cols i).size < (state_at s.cols i).used + logged_length s.version (record { block = j; number = number + 1; off = off; len = length bytes }) (scaled (gamma b.k i j) bytes)
    → AppendsMerged s.cuts (logged s.version (record { block = j; number = number + 1; off = off; len = length bytes }) (scaled (gamma b.k i j) bytes)) (state_at s.cols i) (state_at later i))
    → ((v : ℕ → ℕ) (p : ℕ → Option Piece) → Holds (state_at s.cols i) s.cuts v p → p j ≡ None → number + 1 ≡ slice_index s.cuts j + 1
    → Holds (state_at later i) s.cuts v (with_piece p j (record {
      off = off;
      bytes = scaled (gamma b.k i j) bytes;
      length = logged_length s.version (record { block = j; number = number + 1; off = off; len = length bytes }) (scaled (gamma b.k i j) bytes);
    })))
    → Same (state_at s.cols i) (state_at later i) → IsKept (state_at later i) → IsFull (state_at later i).device → faults_at later i ≡ faults_at s.cols i
    → HasRecord j i s (record s { site = record s.site { told = told_by later }; pools = pools_by later; cols = later; claims = with_note j i len s.claims })
has_record {s} {j} {i} len later a told pools one long adds merges holds same kept full faults =
    let state = state_at later i in
    let column : Col = record (col_at s.cols i) { state = state } in
    let inside : i < length s.cols = let size = a.lacks.sound.columns.size in let below = a.lacks.below in omega (arith, size, below) in
    let fresh : is_noted i (Some a.lacks.claim) ≡ false = sym (ap (is_noted i) a.lacks.there) ∙ a.lacks.fresh in
    let costs_are : record_length s j i (claim_at s.claims j) ≡ length_for s.site.shape.k s.version s.cuts j i a.lacks.claim = ap (record_length s j i) a.lacks.there in
    record {
      notes = record {
        claim = a.lacks.claim;
        column = column;
        len = len;
        there = a.lacks.there;
        fresh = fresh;
        live = a.lacks.up;
        keeps = keeps_parity s.site.shape s.frail i (col_at s.cols i) state a.lacks.high same kept full;
        still = refl;
        faults = faults;
        long = long ∙ record_is a;
        holds = λ v p held none. subst (λ (q : Piece). Holds state s.cuts v (with_piece p j q)) (piece_is len a long) (holds v p held none (ap (λ (n : ℕ). n + 1) a.number_is));
        becomes = ap (λ (l : List Col). record s { site = record s.site { told = told_by l }; pools = pools_by l; cols = l; claims = with_note j i len s.claims }) one
            ∙ ap (λ (x : Seg). record x { claims = with_note j i len s.claims }) (same_view s i column inside told pools same.tells refl);
      };
      room = refl;
      counts = subst (λ (n : ℕ). Took (append_costs n (state_at s.cols i)) (state_at s.cols i) state) (record_is a ∙ sym costs_are) (append_takes
          (logged_length s.version (record { block = j; number = _; off = _; len = _ }) (scaled (gamma _ i j) _)) (state_at s.cols i) state s.cuts _ adds merges);
    }

-- ---- the event

pub record IsDue (s : Seg) (caller number j i : ℕ) (p : Paper) (call : Asked) : Type 0 where
  pub due : IsParityDue s caller j i
  pub own : Owns caller (claim_at s.claims j)
  pub begun : IsBegun s caller number p call own.claim
  pub inside : i < length s.cols
  pub lacks : LacksRecord s j i

pub due : (s : Seg) (caller number j i : ℕ) (p : Paper) (call : Asked) → Sound s → IsAsked s caller number p call → HasRoom 2 s → next_step s caller call ≡ step.Parity j i
    → IsDue s caller number j i p call
due s caller number j i p call sound asked room next =
    let is = parity_where_due s caller j i call sound next in
    let own = owned caller (claim_at s.claims j) is.mine in
    let below = is.below in
    let size = sound.columns.size in
    record {
      due = is;
      own = own;
      begun = begun s caller number j p call sound asked own;
      inside = omega (arith, below, size);
      lacks = record { sound = sound; few = is.few; claim = own.claim; there = own.there; fresh = is.fresh; high = is.from; below = is.below; up = is.up; room = omega (arith, room) };
    }

noted_costs : (s u : Seg) (caller j i : ℕ) (call : Asked) → i < length s.cols → (col_at s.cols i).is_up ≡ true → HasRecord j i s u → Costs s caller call (step.Parity j i) u
noted_costs s u caller j i call inside up h = record {
  columns = λ x below same. column x;
  target = subst (λ (o : Option Rebuilding). CountsRebuild s caller (step.Parity j i) s.rebuild o) (sym (ap (λ (x : Seg). x.rebuild) h.notes.becomes)) (target s.rebuild);
} where
  cols_are : u.cols ≡ with_col s.cols i h.notes.column
  cols_are = ap (λ (x : Seg). x.cols) h.notes.becomes

  here : Counts (column_costs s call (step.Parity j i) i) (state_at s.cols i).device (state_at u.cols i).device
  here =
      subst (λ (b : Bool). Counts (cond b (if i == i then append_costs (record_length s j i (claim_at s.claims j)) (state_at s.cols i) else nothing) nothing) (state_at s.cols i).device (state_at u.cols i).device) (sym up)
      (subst (λ (b : Bool). Counts (if b then append_costs (record_length s j i (claim_at s.claims j)) (state_at s.cols i) else nothing) (state_at s.cols i).device (state_at u.cols i).device) (sym (eq-eqb i i refl)) h.counts)

  none : (b : Bool) (d : Device) → Counts (cond b nothing nothing) d d
  none true d = (refl, refl)
  none false d = (refl, refl)

  elsewhere : (x : ℕ) → (i ≡ x → ⊥) → Counts (column_costs s call (step.Parity j i) x) (state_at s.cols x).device (state_at u.cols x).device
  elsewhere x there =
      subst (λ (c : Col). Counts (column_costs s call (step.Parity j i) x) (state_at s.cols x).device c.state.device)
      (sym (ap (λ (l : List Col). col_at l x) cols_are ∙ col_there s.cols i x h.notes.column (λ e. there (sym e))))
      (subst (λ (b : Bool). Counts (cond (col_at s.cols x).is_up (if b then append_costs (record_length s j x (claim_at s.claims j)) (state_at s.cols x) else nothing) nothing) (state_at s.cols x).device (state_at s.cols x).device)
      (sym (ne_eqb i x there)) (none (col_at s.cols x).is_up (state_at s.cols x).device))

  column : (x : ℕ) → Counts (column_costs s call (step.Parity j i) x) (state_at s.cols x).device (state_at u.cols x).device
  column x = elim (cases_eq i x) [
    | inl same ↦ subst (λ (y : ℕ). Counts (column_costs s call (step.Parity j i) y) (state_at s.cols y).device (state_at u.cols y).device) same here
    | inr there ↦ elsewhere x there
  ]

  its : (o : Option Target) → CountsTarget nothing o o
  its None = tt
  its (Some t) = (refl, refl)

  target : (o : Option Rebuilding) → CountsRebuild s caller (step.Parity j i) o o
  target None = tt
  target (Some r) = λ t goal. its r.target

same_room : (j i : ℕ) (s u : Seg) → (n : Notes j i s u) → n.column.room ≡ (col_at s.cols i).room → rooms_of u ≡ rooms_of s
same_room j i s u n same = ap rooms_of n.becomes ∙ ap (λ (l : List Room). rebuild_rooms s.rebuild ++ l) (same_rooms s.cols i n.column same)

pub moves_on : (s u : Seg) (caller number j i t : ℕ) (p : Paper) (call : Asked) → IsDue s caller number j i p call → HasRecord j i s u
    → Moves s u caller number t t p call (step.Parity j i)
moves_on s u caller number j i t p call is h =
    let one : ◌≡◌ {A = Option Claim} (Some h.notes.claim) (Some is.own.claim) = sym h.notes.there ∙ is.own.there in
    let same : h.notes.claim ≡ is.own.claim = cc in
    let owner : h.notes.claim.owner.0 ≡ caller = ap (λ (c : Claim). c.owner.0) same ∙ is.own.owner in
    record {
      sound = step_keeps s u is.lacks.sound (notes j i is.due.from is.due.below h.notes);
      makes = λ w setting. record {
        steps = goes s s u (stays s) (notes j i is.due.from is.due.below h.notes);
        happened = (t, record { clock = refl; goes_on = refl }, (owner, record { clock = refl; goes_on = refl }));
      };
      outcome = (ap (λ (x : Seg). open_in x caller) h.notes.becomes ∙ open_noted caller j i h.notes.len s.claims s.rebuild ∙ is.begun.opened, is.begun.begun);
      costs = λ none. noted_costs s u caller j i call is.inside is.due.up h;
      rooms = same_room j i s u h.notes h.room;
    }
