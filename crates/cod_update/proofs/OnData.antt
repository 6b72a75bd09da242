-- An update on a data column.
use Rattle.std.proofs.Common.{◌≡◌, ℕ, ◌+◌, ◌-◌, ◌*◌, ◌<◌, ◌≤◌, max, min, List, ◌++◌, length, drop, Bool, true, false, cond, Option, Some, None, refl, sym, ap, ◌∙◌, subst, inl, inr, arith}
use Rattle.std.specs.Prelude.{◌==◌, if◌then◌else◌, is_some}
use Rattle.std.proofs.lemmas.Bool.{cases_eq, eq-eqb, ne_eqb}
use Rattle.std.proofs.lemmas.List.{length-drop, length-take}
use Rattle.cod_types.specs.Faults.{bump, Rose}
use Rattle.cod_types.specs.declared.call.Call.{Call as Asked}
use Rattle.cod_region.specs.Device.{Device, Torn}
use Rattle.cod_layout.specs.declared.parts.Part.{Part}
use Rattle.cod_chronicle.specs.Event.{Setting}
use Rattle.cod_claims.specs.declared.claim.Claim.{Claim}
use Rattle.cod_claims.specs.Changes.{new_bytes, new_in}
use Rattle.cod_claims.specs.Claimed.{claim_at, is_applied, with_applied}
use Rattle.cod_claims.specs.Slips.{Paper}
use Rattle.cod_place.specs.Room.{Room}
use Rattle.cod_parity.specs.State.{State}
use Rattle.cod_seg.specs.Calls.{column_costs, costs, nothing}
use Rattle.cod_seg.specs.Choices.{IsDataDue}
use Rattle.cod_seg.specs.Next.{next_step, open_in}
use Rattle.cod_seg.specs.Seg.{Col, col_at, Rebuilding, Seg, Target, with_col}
use Rattle.cod_seg.specs.Sound.{begin_of, IsClaim, IsColumn, Sound}
use Rattle.cod_seg.specs.Steps.{applied_to, Applies, applies, goes, stays}
use Rattle.cod_seg.specs.declared.next.Step.TheVariants as step
use Rattle.cod_seg.proofs.Choosing.{data_where_due}
use Rattle.cod_seg.proofs.Keeping.{col_here, col_there}
use Rattle.cod_repair.specs.Columns.{faults_at, IsFull, state_at, with_state}
use Rattle.cod_segment.specs.Events.{Costs, Counts, CountsRebuild, CountsTarget, HasBegun, IsAsked, Makes, rebuild_rooms, request_of, rooms_of}
use Rattle.cod_segment.specs.Views.{pools_by, told_by}
use Rattle.cod_update.specs.Placing.{IsPlaced}
use Rattle.cod_update.proofs.Falling.{same_pools, same_rooms, same_told}
use Rattle.cod_update.specs.Failing.{FailsAt}
use Rattle.cod_update.proofs.Moving.{Moves}
use Rattle.cod_seg.proofs.Going.{step_keeps}
use Rattle.cod_update.proofs.Opened.{begun, IsBegun, open_applied, owned, Owns}

-- ---- where a claim's part lies

pub placed : (s : Seg) (j : ℕ) (c : Claim) → Sound s → claim_at s.claims j ≡ Some c → IsPlaced s.site.shape.block c
placed s j c sound there =
    let is : IsClaim s.site s.log s.claims j c = sound.claimed.each j c there in
    let block = s.site.shape.block in
    let off : c.delta.part.off ≡ max (begin_of c.delta.call) (j * block) - j * block = ap (λ (p : Part). p.off) is.part in
    let len : c.delta.part.len ≡ min (begin_of c.delta.call + length (new_bytes c.delta.call)) (j * block + block) - max (begin_of c.delta.call) (j * block) = ap (λ (p : Part). p.len) is.part in
    let some = is.some in
    let size = is.size in
    let inside = sound.claimed.sixteen.inside j c there in
    let rest : length (drop c.delta.at (new_bytes c.delta.call)) ≡ length (new_bytes c.delta.call) - c.delta.at = length-drop c.delta.at (new_bytes c.delta.call) in
    let new = length-take c.delta.part.len (drop c.delta.at (new_bytes c.delta.call)) in
    record {
      some = omega (arith, some, size);
      long = omega (arith, inside, rest, new, size);
      inside = omega (arith, off, len, some, size);
    }

-- ---- the column that is due

pub record IsDue (s : Seg) (caller number j : ℕ) (p : Paper) (call : Asked) : Type 0 where
  pub due : IsDataDue s caller j
  pub own : Owns caller (claim_at s.claims j)
  pub begun : IsBegun s caller number p call own.claim
  pub below : j < s.site.shape.n
  pub inside : j < length s.cols
  pub column : IsColumn s.site s.frail s.pools s.log j (col_at s.cols j)

pub due : (s : Seg) (caller number j : ℕ) (p : Paper) (call : Asked) → Sound s → IsAsked s caller number p call → next_step s caller call ≡ step.Data j → IsDue s caller number j p call
due s caller number j p call sound asked next =
    let is = data_where_due s caller j call next in
    let own = owned caller (claim_at s.claims j) is.mine in
    let among = is.among in
    let more = sound.shape.data_among_columns in
    let size = sound.columns.size in
    let below : j < s.site.shape.n = omega (arith, among, more) in
    record {
      due = is;
      own = own;
      begun = begun s caller number j p call sound asked own;
      below = below;
      inside = omega (arith, below, size);
      column = sound.columns.each j below;
    }

-- it has no reserve, and the part lies in it
pub no_reserve : (s : Seg) (j : ℕ) → Sound s → j < s.site.shape.k → (state_at s.cols j).size ≡ 0
no_reserve s j sound low =
    let below : j < s.site.shape.n = let m = sound.shape.data_among_columns in omega (arith, low, m) in
    ap (λ (x : State). x.size) ((sound.columns.each j below).plain low)

pub part_inside : (s : Seg) (j : ℕ) (c : Claim) → Sound s → j < s.site.shape.k → claim_at s.claims j ≡ Some c
    → c.delta.part.off + length (new_in c.delta) ≤ (state_at s.cols j).device.size
part_inside s j c sound low there =
    let below : j < s.site.shape.n = let m = sound.shape.data_among_columns in omega (arith, low, m) in
    let size = (sound.columns.each j below).block low in
    let is = placed s j c sound there in
    let long = is.long in
    let inside = is.inside in
    omega (arith, size, long, inside)

-- ---- the write

-- the column's state after a write, whatever it has left
abbrev pub was_overwritten : (content : Option (List ℕ)) (faults : ℕ) → State → State
was_overwritten content faults s =
    record s { device = record s.device { content = content; writes = bump s.device.writes; faults = faults } }

pub applied_is : (s u : Seg) (caller number j writes : ℕ) (p : Paper) (call : Asked) → (is : IsDue s caller number j p call)
    → u ≡ record s { cols = with_col s.cols j (applied_to is.own.claim writes (col_at s.cols j)); claims = with_applied j s.claims } → Applies j s u
applied_is s u caller number j writes p call is becomes = record {
  claim = is.own.claim;
  writes = writes;
  there = is.own.there;
  fresh = sym (ap is_applied is.own.there) ∙ is.due.fresh;
  live = is.due.up;
  becomes = becomes;
}

pub makes_applied : (w : Setting) (s u : Seg) (caller number j writes t : ℕ) (p : Paper) (call : Asked) → (is : IsDue s caller number j p call)
    → u ≡ record s { cols = with_col s.cols j (applied_to is.own.claim writes (col_at s.cols j)); claims = with_applied j s.claims }
    → Makes w (request_of caller number call) t t false s u
unfolding applied_is
makes_applied w s u caller number j writes t p call is becomes = record {
  steps = goes s s u (stays s) (applies j (applied_is s u caller number j writes p call is becomes));
  happened = (t, record { clock = refl; goes_on = refl }, (is.own.owner, record { clock = refl; goes_on = refl }));
}

-- the caller's call stays open
pub applied_open : (s u : Seg) (caller number j writes : ℕ) (p : Paper) (call : Asked) → (is : IsDue s caller number j p call)
    → u ≡ record s { cols = with_col s.cols j (applied_to is.own.claim writes (col_at s.cols j)); claims = with_applied j s.claims }
    → (open_in u caller ≡ Some (number, call)) × HasBegun p call
applied_open s u caller number j writes p call is becomes =
    (ap (λ (x : Seg). open_in x caller) becomes ∙ open_applied caller j s.claims s.rebuild ∙ is.begun.opened, is.begun.begun)

-- ---- a write that failed

torn_tells : (off n : ℕ) (old new : Option (List ℕ)) → Torn off n old new → is_some new ≡ is_some old
torn_tells off n None None torn = refl
torn_tells off n (Some a) (Some b) torn = refl
torn_tells off n None (Some b) torn = absurd torn
torn_tells off n (Some a) None torn = absurd torn

-- where nothing is seen of the segment by the column that a call has changed but what stays
pub same_view : (s : Seg) (i : ℕ) (c : Col) → i < length s.cols → s.site.told ≡ told_by s.cols → s.pools ≡ pools_by s.cols
    → is_some c.state.device.content ≡ is_some (col_at s.cols i).state.device.content → c.room ≡ (col_at s.cols i).room
    → record s { site = record s.site { told = told_by (with_col s.cols i c) }; pools = pools_by (with_col s.cols i c); cols = with_col s.cols i c }
    ≡ record s { cols = with_col s.cols i c }
same_view s i c inside told pools tells room = rw (same_told s.cols i c inside tells, same_pools s.cols i c inside room, ← told, ← pools) refl

pub failed_write : (s : Seg) (j off n : ℕ) (later : List Col) → j < length s.cols → j < s.site.shape.k → s.site.told ≡ told_by s.cols → s.pools ≡ pools_by s.cols
    → later ≡ with_state s.cols j (was_overwritten (state_at later j).device.content (faults_at later j) (state_at s.cols j))
    → Torn off n (state_at s.cols j).device.content (state_at later j).device.content
    → IsFull (state_at later j).device → Rose (faults_at s.cols j) (faults_at later j)
    → FailsAt j s (record s { site = record s.site { told = told_by later }; pools = pools_by later; cols = later })
failed_write s j off n later inside low told pools same torn full rose =
    let state = was_overwritten (state_at later j).device.content (faults_at later j) (state_at s.cols j) in
    let here : state_at later j ≡ state = ap (λ (l : List Col). state_at l j) same ∙ ap (λ (c : Col). c.state) (col_here s.cols j (record (col_at s.cols j) { state = state }) inside) in
    let tells = torn_tells off n (state_at s.cols j).device.content (state_at later j).device.content torn in
    record {
      state = state;
      keeps = record {
        node = refl;
        owned = refl;
        shape = refl;
        tells = tells;
        never_fails = refl;
        full = subst (λ (x : State). (held : List ℕ) → (state_at later j).device.content ≡ Some held → length held ≡ x.device.size) here full;
        fits = λ fits. fits;
        roomy = λ none same. same;
        long = λ l. refl;
        plain = λ l. refl;
        kept = λ high. absurd (omega (arith, low, high));
        exact = λ high. absurd (omega (arith, low, high));
      };
      rose = rose;
      becomes = ap (λ (l : List Col). record s { site = record s.site { told = told_by l }; pools = pools_by l; cols = l }) same
          ∙ same_view s j (record (col_at s.cols j) { state = state }) inside told pools tells refl;
    }

-- ---- what it costs

pub applied_costs : (s u : Seg) (caller number j writes : ℕ) (p : Paper) (call : Asked) → (is : IsDue s caller number j p call) → writes ≡ bump (state_at s.cols j).device.writes
    → u ≡ record s { cols = with_col s.cols j (applied_to is.own.claim writes (col_at s.cols j)); claims = with_applied j s.claims }
    → Costs s caller call (step.Data j) u
applied_costs s u caller number j writes p call is writes_are becomes = rw becomes (record { columns = λ i below same. column i; target = target s.rebuild }) where
  later : List Col
  later = with_col s.cols j (applied_to is.own.claim writes (col_at s.cols j))

  here : Counts (column_costs s call (step.Data j) j) (state_at s.cols j).device (state_at later j).device
  here = subst (λ (c : Col). Counts (column_costs s call (step.Data j) j) (state_at s.cols j).device c.state.device) (sym (col_here s.cols j (applied_to is.own.claim writes (col_at s.cols j)) is.inside))
      (subst (λ (b : Bool). Counts (cond b (if j == j then costs 0 1 else nothing) nothing) (state_at s.cols j).device (applied_to is.own.claim writes (col_at s.cols j)).state.device) (sym is.due.up)
      (subst (λ (b : Bool). Counts (if b then costs 0 1 else nothing) (state_at s.cols j).device (applied_to is.own.claim writes (col_at s.cols j)).state.device) (sym (eq-eqb j j refl)) (refl, writes_are)))

  none : (b : Bool) (d : Device) → Counts (cond b nothing nothing) d d
  none true d = (refl, refl)
  none false d = (refl, refl)

  elsewhere : (i : ℕ) → (j ≡ i → ⊥) → Counts (column_costs s call (step.Data j) i) (state_at s.cols i).device (state_at later i).device
  elsewhere i there =
      subst (λ (c : Col). Counts (column_costs s call (step.Data j) i) (state_at s.cols i).device c.state.device) (sym (col_there s.cols j i (applied_to is.own.claim writes (col_at s.cols j)) (λ e. there (sym e))))
      (subst (λ (b : Bool). Counts (cond (col_at s.cols i).is_up (if b then costs 0 1 else nothing) nothing) (state_at s.cols i).device (state_at s.cols i).device) (sym (ne_eqb j i there))
      (none (col_at s.cols i).is_up (state_at s.cols i).device))

  column : (i : ℕ) → Counts (column_costs s call (step.Data j) i) (state_at s.cols i).device (state_at later i).device
  column i = elim (cases_eq j i) [
    | inl same ↦ subst (λ (x : ℕ). Counts (column_costs s call (step.Data j) x) (state_at s.cols x).device (state_at later x).device) same here
    | inr there ↦ elsewhere i there
  ]

  its : (o : Option Target) → CountsTarget nothing o o
  its None = tt
  its (Some t) = (refl, refl)

  target : (o : Option Rebuilding) → CountsRebuild s caller (step.Data j) o o
  target None = tt
  target (Some r) = λ t goal. its r.target

pub applied_rooms : (s u : Seg) (j writes : ℕ) (c : Claim) → u ≡ record s { cols = with_col s.cols j (applied_to c writes (col_at s.cols j)); claims = with_applied j s.claims }
    → rooms_of u ≡ rooms_of s
applied_rooms s u j writes c becomes = ap rooms_of becomes ∙ ap (λ (l : List Room). rebuild_rooms s.rebuild ++ l) (same_rooms s.cols j (applied_to c writes (col_at s.cols j)) refl)

-- ---- the event

pub moves_on : (s u : Seg) (caller number j t : ℕ) (p : Paper) (call : Asked) → Sound s → (is : IsDue s caller number j p call)
    → u ≡ record s { cols = with_col s.cols j (applied_to is.own.claim (bump (state_at s.cols j).device.writes) (col_at s.cols j)); claims = with_applied j s.claims }
    → Moves s u caller number t t p call (step.Data j)
moves_on s u caller number j t p call sound is becomes =
    let writes = bump (state_at s.cols j).device.writes in
    record {
      sound = step_keeps s u sound (applies j (applied_is s u caller number j writes p call is becomes));
      makes = λ w setting. makes_applied w s u caller number j writes t p call is becomes;
      outcome = applied_open s u caller number j writes p call is becomes;
      costs = λ none. applied_costs s u caller number j writes p call is refl becomes;
      rooms = applied_rooms s u j writes is.own.claim becomes;
    }
