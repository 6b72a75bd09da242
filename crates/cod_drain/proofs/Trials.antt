-- What comes of a try, and what of some tries.
use Rattle.std.proofs.Common.{◌≡◌, ℕ, zero, suc, ◌+◌, ◌<◌, ◌≤◌, List, [], ◌∷◌, ◌++◌, length, get_or, set, Bool, true, false, Option, Some, None, inl, inr, refl, sym, ap, ◌∙◌, subst, arith}
use Rattle.std.proofs.Math.Nat.{mul-pos}
use Rattle.std.proofs.Math.Seq.{map-set_same}
use Rattle.std.specs.Prelude.{IsSome, replicate}
use Rattle.std.proofs.lemmas.Bool.{cases_Bool, cases_eq, cases_lt, lt-ltb, le-ltb}
use Rattle.std.proofs.lemmas.List.{get_or_past, get_or-replicate, get_or-set_other, length-replicate, length-set}
use Rattle.cod_types.specs.Columns.{column_size}
use Rattle.cod_types.specs.Faults.{grown}
use Rattle.cod_types.specs.Limits.{floor, IsWithin, record_overhead, Shape}
use Rattle.cod_code.specs.Segments.{column_byte}
use Rattle.cod_board.specs.declared.kill.Kill.{Kill as Killed}
use Rattle.cod_board.specs.Kills.{Keeps}
use Rattle.cod_chronicle.specs.declared.entry.Cause.TheVariants.{Fault}
use Rattle.cod_chronicle.specs.declared.entry.Entry.TheVariants.{Down}
use Rattle.cod_chronicle.specs.Said.{Site, bytes_of, clock_of, is_over, next_stamp, StampFollows}
use Rattle.cod_parity.specs.State.{State}
use Rattle.cod_place.specs.Room.{Room}
use Rattle.cod_place.specs.Spares.{fault_of}
use Rattle.cod_types.specs.declared.call.NodeId.{NodeId}
use Rattle.cod_seg.specs.Calls.{piece_count}
use Rattle.cod_seg.specs.Seg.{Col, col_at, no_col, node_in, Seg, Target, with_col}
use Rattle.cod_seg.specs.Sound.{AreBroken, is_frail, Sound}
use Rattle.cod_seg.specs.Steps.{IsPlace, KeepsColumn, Marks, Works}
use Rattle.cod_seg.proofs.Keeping.{works_keep}
use Rattle.cod_seg.proofs.Living.{have_values}
use Rattle.cod_segment.specs.Events.{Balances, rebuild_rooms, rooms_of}
use Rattle.cod_segment.proofs.Balancing.{then}
use Rattle.cod_segment.proofs.Looking.{reasons_later}
use Rattle.cod_repair.specs.Columns.{HasValue, IsFull}
use Rattle.cod_repair.specs.Pieces.{kept_byte}
use Rattle.cod_repair.specs.declared.columns.ColumnFailed.{ColumnFailed}
use Rattle.cod_placing.specs.Places.{HasNoSpare, IsFresh}
use Rattle.cod_drain.specs.Copies.{Breaks, Falls, FailsRead, HasBytes, HasSought, KeepsGoal, MayCome, MayTryAgain, place_of, read_times, Reads, Tries, WasRead, with_faults}
use Rattle.cod_drain.specs.Ends.{IsServed}
use Rattle.cod_drain.specs.Plans.{IsPlan}
use Rattle.cod_drain.specs.declared.plan.Plan.{Plan}
use Rattle.cod_drain.specs.declared.trying.Tried.{Tried}
use Rattle.cod_drain.specs.declared.trying.Tried.TheVariants.{Copied, Failed, NoSpare, NoMemory}
use Rattle.cod_types.specs.declared.reasons.Reason.{Reason}
use Rattle.cod_chronicle.specs.declared.entry.Entry.{Entry}
use Rattle.cod_drain.proofs.Pieces.{grown_few, here, read_more, read_none, twice, was_read_on}

-- ---- a column whose region was called

-- so many reads, so many faults, and up or down
abbrev pub called : (reads faults : ℕ) (up : Bool) → Col → Col
called reads faults up c = record c { is_up = up; state = record c.state { device = record c.state.device { reads = reads; faults = faults } } }

pub keeps_called : (g : Shape) (frail : List ℕ) (i : ℕ) (c : Col) (reads faults : ℕ) (up : Bool) → IsFull c.state.device → KeepsColumn g frail i c (called reads faults up c)
keeps_called g frail i c reads faults up full = record {
  node = refl;
  owned = refl;
  shape = refl;
  tells = refl;
  never_fails = refl;
  full = full;
  fits = λ fits. fits;
  roomy = λ none same. same;
  long = λ low. refl;
  plain = λ low. refl;
  kept = λ high k. record { within = k.within; used = k.used; least = k.least; most = k.most; average = k.average; whole = k.whole };
  exact = λ high live size. size;
}

pub reads_work : (i times : ℕ) (s u : Seg) → Sound s → i < s.site.shape.n → WasRead i times s u → Works i s u
reads_work i times s u sound below read =
    let c = col_at s.cols i in
    record {
      column = read_times times c;
      keeps = keeps_called s.site.shape s.frail i c (grown times c.state.device.reads) c.state.device.faults c.is_up (sound.columns.each i below).full;
      live = refl;
      faults = refl;
      blocks = λ low kept value has. record { held = has.held; told = has.told; each = has.each };
      parities = λ high v p has. let m = has.means in record {
        base = has.base;
        records = has.records;
        means = record { rest = m.rest; content = m.content; base_size = m.base_size; used = m.used; each = m.each; noted = m.noted };
        value_is = has.value_is;
        in_flight = has.in_flight;
      };
      becomes = read;
    }

abbrev pub falls_mark : (i t after : ℕ) (s u : Seg) → Sound s → i < s.site.shape.n → (col_at s.cols i).is_up ≡ true → Falls i t after s u → Marks i s u
falls_mark i t after s u sound below live falls =
    let c = col_at s.cols i in
    record {
      column = record (with_faults falls.count (read_times falls.times c)) { is_up = false };
      stamp = after;
      cause = Fault falls.count;
      was = live;
      down = refl;
      keeps = keeps_called s.site.shape s.frail i c (grown falls.times c.state.device.reads) falls.count false (sound.columns.each i below).full;
      why = (falls.some, falls.frail, refl);
      follows = falls.follows;
      becomes = falls.becomes;
    }

pub read_sound : (i times : ℕ) (s u : Seg) → Sound s → i < s.site.shape.n → WasRead i times s u → Sound u
read_sound i times s u sound below read = works_keep s u i below sound (reads_work i times s u sound below read)

inside : (s : Seg) (i : ℕ) → Sound s → i < s.site.shape.n → i < length s.cols
inside s i sound below = let long = sound.columns.size in omega (arith, long, below)

-- ---- a place that was found

in_column : (g : Shape) (p : Plan) → IsPlan g p → p.bytes ≤ column_size g p.col
in_column g p plan =
    let whole = plan.whole in
    let most = plan.most in
    elim (cases_lt p.col g.k) [
      | inl low ↦ (let size = (plan.block low).0 in rw (lt-ltb p.col g.k low) (omega (arith, whole, size)))
      | inr high ↦ rw (le-ltb p.col g.k high) (omega (arith, whole, most))
    ]

fresh_place : (s : Seg) (p : Plan) (broken : List (Option ℕ)) (kills : List (Option Killed)) (t u : Target) → IsPlan s.site.shape p → IsFresh s p.bytes broken kills t → KeepsGoal t u
    → IsPlace s.site s.frail s.pools s.log p.col (place_of p u)
fresh_place s p broken kills t u plan fresh keeps =
    let room = fresh.room in
    let size = keeps.size ∙ fresh.size in
    let same = keeps.room in
    let whole = plan.whole in
    record {
      alone = λ m lt. rw same (fresh.alone m lt);
      known = rw same fresh.known;
      owned = rw same fresh.owned;
      tells = keeps.tells ∙ fresh.tells;
      full = keeps.full;
      clean = keeps.faults ∙ fresh.clean;
      sure = rw same (λ f. keeps.never_fails ∙ fresh.sure f);
      fits = rw same (omega (arith, size, room));
      roomy = λ none. rw same (room ∙ sym size);
      block = λ low. let b = plan.block low in let z = b.0 in (omega (arith, size, whole, z), b.0, b.1);
      reserve = λ high. size ∙ whole;
      least = λ high. plan.least high;
      most = λ high. plan.most;
      average = plan.average;
    }

pub may_come : (s : Seg) (p : Plan) (broken : List (Option ℕ)) (kills : List (Option Killed)) (t u : Target) → Sound s → IsServed s p.col → IsPlan s.site.shape p → IsFresh s p.bytes broken kills t
    → KeepsGoal t u → u.filled ≡ s.site.shape.block → u.device.writes ≡ grown (piece_count s.site.shape) t.device.writes
    → ((v : ℕ → ℕ) → HasValue (col_at s.cols p.col) s.cuts (kept_byte s.claims p.col) v → HasBytes v u) → MayCome s p kills u
may_come s p broken kills t u sound served plan fresh keeps filled writes value = record {
  is = fresh_place s p broken kills t u plan fresh keeps;
  copied = λ told held content x lt.
      value (column_byte s.site.shape.k s.site.shape.block p.col (bytes_of s.site s.log)) (has_value s p.col sound served told) held content x (omega (arith, filled, lt));
  written = writes ∙ ap (grown (piece_count s.site.shape)) fresh.unwritten
      ∙ grown_few (piece_count s.site.shape) (let most = sound.shape.most_bytes in omega (arith, most));
  unread = keeps.reads ∙ fresh.unread;
  up = rw keeps.room fresh.up;
} where
  some_floor : (g : Shape) → IsWithin g → 0 < floor g
  some_floor g within =
      let some : 0 < g.k = within.some_data in
      let update = within.some_update in
      let each : 0 < record_overhead g.version + g.update = omega (arith, update) in
      mul-pos some each

  has_value : (s : Seg) (i : ℕ) → Sound s → IsServed s i → s.site.told ≡ true
      → HasValue (col_at s.cols i) s.cuts (kept_byte s.claims i) (column_byte s.site.shape.k s.site.shape.block i (bytes_of s.site s.log))
  has_value s i sound served told =
      let v = have_values s i sound told served.few in
      let is = sound.columns.each i served.below in
      record {
        block = λ none. elim (cases_lt i s.site.shape.k) [
          | inl low ↦ v.0 low served.live
          | inr high ↦ (let least = (is.reserve high).least in let some = some_floor (col_at s.cols i).state.shape (is.reserve high).within in absurd (omega (arith, none, least, some)))
        ];
        parity = λ some. elim (cases_lt i s.site.shape.k) [
          | inl low ↦ (let none : (col_at s.cols i).state.size ≡ 0 = ap (λ (q : State). q.size) (is.plain low) in absurd (omega (arith, none, some)))
          | inr high ↦ v.1 high served.below served.live
        ];
      }

-- a room that was taken and given back, as which it stands
pub back : (a b c : Option (List ℕ)) (taken given : Room) → Balances a b [] (taken ∷ []) → given ≡ taken → Balances b c (given ∷ []) [] → Balances a c [] []
back a b c taken given first same second = then a b c [] (taken ∷ []) [] first (subst (λ (r : Room). Balances b c (r ∷ []) []) same second)

-- ---- a column that goes down

frail_of : (s : Seg) (i : ℕ) (e : ColumnFailed) (m : Seg) → Sound s → i < s.site.shape.n → FailsRead i e s m → is_frail s.frail (node_in (col_at s.cols i)) ≡ true
frail_of s i e m sound below fails = elim (cases_Bool (is_frail s.frail (node_in (col_at s.cols i)))) [
  | inl is ↦ is
  | inr not ↦ absurd (fails.unsure ((sound.columns.each i below).sure not))
]

pub falls_is : (i t after : ℕ) (e : ColumnFailed) (s m u : Seg) → Sound s → i < s.site.shape.n → FailsRead i e s m → after ≡ next_stamp (clock_of m.log) t → StampFollows m.log after
    → u ≡ record m {
      cols = with_col m.cols e.col (record (col_at m.cols e.col) { is_up = false });
      log = m.log ++ Down after e.col (col_at m.cols e.col).room.node (Fault e.count) ∷ [];
    } → Falls i t after s u
falls_is i t after e s m u sound below fails stamp follows becomes =
    let c = with_faults e.count (read_times fails.times (col_at s.cols i)) in
    let at = here s m i c (inside s i sound below) fails.becomes in
    let log = ap (λ (x : Seg). x.log) fails.becomes in
    record {
      times = fails.times;
      count = e.count;
      some = fails.some;
      frail = frail_of s i e m sound below fails;
      stamp = stamp ∙ ap (λ (x : Seg). next_stamp (clock_of x.log) t) fails.becomes;
      follows = subst (λ (x : Seg). StampFollows x.log after) fails.becomes follows;
      becomes = becomes ∙ ap (λ (k : ℕ). record m { cols = with_col m.cols k (record (col_at m.cols k) { is_up = false }); log = m.log ++ Down after k (col_at m.cols k).room.node (Fault e.count) ∷ [] }) fails.named
          ∙ ap (λ (x : Col). record m { cols = with_col m.cols i (record x { is_up = false }); log = m.log ++ Down after i x.room.node (Fault e.count) ∷ [] }) at
          ∙ ap (λ (x : Seg). record x { log = x.log ++ Down after i c.room.node (Fault e.count) ∷ [] }) (twice i s m c (record c { is_up = false }) fails.becomes);
    }

-- ---- a node that is broken from now on

pub may_again : (p : Plan) (broken again : List (Option ℕ)) (kills : List (Option Killed)) (t times : ℕ) (s u : Seg) (v w : Target) → Sound s → IsFresh s p.bytes broken kills v → AreBroken s.frail broken
    → WasRead p.col times s u → Breaks v w → again ≡ set broken w.room.node.0 (Some w.device.faults) → fault_of again w.room.node.0 ≡ Some w.device.faults → MayTryAgain p.col broken again t t s u
may_again p broken again kills t times s u v w sound fresh honest read breaks becomes broke =
    let node = v.room.node.0 in
    let known = fresh.known in
    let most = sound.columns.most in
    let same : again ≡ set broken node (Some w.device.faults) = rw breaks.room at becomes in
    record {
      reads = record { times = times; becomes = read; clock = refl };
      node = node;
      count = w.device.faults;
      small = omega (arith, known, most);
      fresh = fresh.whole;
      becomes = same;
      honest = λ x count is. elim (cases_eq x node) [
        | inl at ↦
            let counted : fault_of again x ≡ Some w.device.faults = ap (fault_of again) (at ∙ sym (ap (λ (n : NodeId). n.0) (ap (λ (r : Room). r.node) breaks.room))) ∙ broke in
            let count_is : w.device.faults ≡ count = let e : Some w.device.faults ≡ Some count = sym counted ∙ is in cc in
            let some = breaks.some in
            (omega (arith, some, count_is), subst (λ (n : ℕ). is_frail s.frail n ≡ true) (sym at) (unsure_frail s.frail node v fresh.sure breaks.unsure))
        | inr other ↦ honest x count (sym (get_or-set_other broken node x (Some w.device.faults) None other) ∙ ap (λ (l : List (Option ℕ)). get_or l x None) (sym same) ∙ is)
      ];
    } where
      unsure_frail : (frail : List ℕ) (node : ℕ) (v : Target) → (is_frail frail node ≡ false → v.device.never_fails ≡ true) → (v.device.never_fails ≡ true → ⊥) → is_frail frail node ≡ true
      unsure_frail frail node v sure unsure = elim (cases_Bool (is_frail frail node)) [ inl is ↦ is | inr not ↦ absurd (unsure (sure not)) ]

-- ---- try after try

-- what was seen in a try was seen in all of them
pub sought_later : {R : Type 0} (Seen Later : ℕ → ℕ → Type 0) → ((node bytes : ℕ) → Seen node bytes → Later node bytes) → (reasons : List Reason) (x : Tried R)
    → HasSought Seen reasons x → HasSought Later reasons x
sought_later Seen Later wider reasons (Copied goal) sought = tt
sought_later Seen Later wider reasons Failed sought = tt
sought_later Seen Later wider reasons NoSpare sought = reasons_later Seen Later wider reasons sought
sought_later Seen Later wider reasons NoMemory sought = tt

pub keeps_kills : (a b c : List (Option Killed)) → Keeps a b → Keeps b c → Keeps a c
keeps_kills a b c first then_ node some = then_ node (subst IsSome (sym (first node some)) some) ∙ first node some

-- how many places have nothing
abbrev pub unbroken : List (Option ℕ) → ℕ
unbroken [] = 0
unbroken (None ∷ xs) = unbroken xs + 1
unbroken (Some n ∷ xs) = unbroken xs

one_less : (xs : List (Option ℕ)) (i n : ℕ) → i < length xs → get_or xs i None ≡ None → unbroken (set xs i (Some n)) < unbroken xs
one_less [] i n lt is = absurd (omega (arith, lt))
one_less (None ∷ xs) zero n lt is = omega arith
one_less (None ∷ xs) (suc i) n lt is = let less = one_less xs i n (omega (arith, lt)) is in omega (arith, less)
one_less (Some m ∷ xs) zero n lt is = cc
one_less (Some m ∷ xs) (suc i) n lt is = one_less xs i n (omega (arith, lt)) is

-- after some tries, of which each found a place whose region failed
pub record IsTrying (i t now : ℕ) (broken : List (Option ℕ)) (s u : Seg) : Type 0 where
  pub reads : Reads i t now s u
  pub sound : Sound u
  pub served : IsServed u i
  pub honest : AreBroken u.frail broken
  pub long : length broken ≡ 64
  pub site : u.site ≡ s.site
  pub frail : u.frail ≡ s.frail
  pub log : u.log ≡ s.log
  pub rooms : rooms_of u ≡ rooms_of s

-- a column that keeps its room
pub rooms_kept : (s : Seg) (i : ℕ) (c : Col) → c.room ≡ (col_at s.cols i).room → rooms_of (record s { cols = with_col s.cols i c }) ≡ rooms_of s
rooms_kept s i c same = ap (λ (rooms : List Room). rebuild_rooms s.rebuild ++ rooms) (map-set_same (λ (c : Col). c.room) s.cols i c no_col same)

pub same_rooms : (i times : ℕ) (s u : Seg) → WasRead i times s u → rooms_of u ≡ rooms_of s
same_rooms i times s u read = ap rooms_of read ∙ rooms_kept s i (read_times times (col_at s.cols i)) refl

pub still_served : (i times : ℕ) (s u : Seg) → Sound s → IsServed s i → WasRead i times s u → IsServed u i
still_served i times s u sound served read =
    let site = ap (λ (x : Seg). x.site) read in
    let below = served.below in
    record {
      below = subst (λ (x : Site). i < x.shape.n) (sym site) below;
      live = ap (λ (x : Col). x.is_up) (here s u i (read_times times (col_at s.cols i)) (inside s i sound below) read) ∙ served.live;
      few = ap (λ (x : Seg). is_over x.site x.log) read ∙ served.few;
    }

pub trying_starts : (i t : ℕ) (s : Seg) (broken : List (Option ℕ)) → Sound s → IsServed s i → broken ≡ replicate 64 None → IsTrying i t t broken s s
trying_starts i t s broken sound served none = record {
  reads = record { times = 0; becomes = read_none i s; clock = refl };
  sound = sound;
  served = served;
  honest = λ node count is. let wrong : None ≡ Some count = sym (none_at node) ∙ ap (λ (l : List (Option ℕ)). fault_of l node) (sym none) ∙ is in cc;
  long = ap length none;
  site = refl;
  frail = refl;
  log = refl;
  rooms = refl;
} where
  none_at : (node : ℕ) → fault_of (replicate 64 None) node ≡ None
  none_at node = elim (cases_lt node 64) [
    | inl low ↦ get_or-replicate 64 node None None low
    | inr high ↦ get_or_past (replicate 64 None) node None (let l = length-replicate {A = Option ℕ} 64 None in omega (arith, l, high))
  ]

pub trying_on : (i t now after : ℕ) (broken again : List (Option ℕ)) (s u w : Seg) → Sound s → i < s.site.shape.n → IsTrying i t now broken s u → MayTryAgain i broken again now after u w
    → IsTrying i t after again s w × (unbroken again < unbroken broken)
trying_on i t now after broken again s u w whole below is more =
    let size = is.long in
    let small = more.small in
    let longer = ap length more.becomes ∙ length-set broken more.node (Some more.count) in
    let read = more.reads.becomes in (
      record {
        reads = record {
          times = is.reads.times + more.reads.times;
          becomes = was_read_on i is.reads.times more.reads.times s u w (inside s i whole below) is.reads.becomes read;
          clock = more.reads.clock ∙ is.reads.clock;
        };
        sound = read_sound i more.reads.times u w is.sound is.served.below read;
        served = still_served i more.reads.times u w is.sound is.served read;
        honest = subst (λ (f : List ℕ). AreBroken f again) (sym (ap (λ (x : Seg). x.frail) read)) more.honest;
        long = longer ∙ size;
        site = ap (λ (x : Seg). x.site) read ∙ is.site;
        frail = ap (λ (x : Seg). x.frail) read ∙ is.frail;
        log = ap (λ (x : Seg). x.log) read ∙ is.log;
        rooms = same_rooms i more.reads.times u w read ∙ is.rooms;
      },
      rw more.becomes (one_less broken more.node more.count (omega (arith, size, small)) more.fresh),
    )

falls_on : (i t now after times : ℕ) (s u w : Seg) → Sound s → i < s.site.shape.n → WasRead i times s u → now ≡ t → Falls i now after u w → Falls i t after s w
falls_on i t now after times s u w sound below read clock falls =
    let c = col_at s.cols i in
    let at = here s u i (read_times times c) (inside s i sound below) read in
    let log = ap (λ (x : Seg). x.log) read in
    record {
      times = times + falls.times;
      count = falls.count;
      some = falls.some;
      frail = ap (λ (x : Col). is_frail s.frail (node_in x)) (sym at) ∙ ap (λ (f : List ℕ). is_frail f (node_in (col_at u.cols i))) (sym (ap (λ (x : Seg). x.frail) read)) ∙ falls.frail;
      stamp = falls.stamp ∙ ap (λ (x : Seg). next_stamp (clock_of x.log) now) read ∙ ap (λ (n : ℕ). next_stamp (clock_of s.log) n) clock;
      follows = subst (λ (x : List Entry). StampFollows x after) log falls.follows;
      becomes = falls.becomes
          ∙ ap (λ (x : Col). record u {
            cols = with_col u.cols i (record (with_faults falls.count (read_times falls.times x)) { is_up = false });
            log = u.log ++ Down after i x.room.node (Fault falls.count) ∷ [];
          }) at
          ∙ ap (λ (x : Seg). record x { log = x.log ++ Down after i c.room.node (Fault falls.count) ∷ [] })
          (twice i s u (read_times times c) (record (with_faults falls.count (read_times falls.times (read_times times c))) { is_up = false }) read)
          ∙ ap (λ (x : Col). record s {
            cols = with_col s.cols i (record (with_faults falls.count x) { is_up = false });
            log = s.log ++ Down after i c.room.node (Fault falls.count) ∷ [];
          }) (read_more times falls.times c);
    }

-- what holds of a segment whether it was read or not, since it depends on no column
spare_before : (i c times : ℕ) (kills : List (Option Killed)) (reasons : List Reason) (s u : Seg) → WasRead i times s u → HasNoSpare u c kills reasons → HasNoSpare s c kills reasons
spare_before i c times kills reasons s u read none =
    let here = subst (λ (x : Seg). HasNoSpare x c kills reasons) read none in
    record { reasons = here.reasons; seen = λ w setting seen. here.seen w (record { site = setting.site; may = setting.may }) seen }

pub spare_on : (i c times : ℕ) (kills : List (Option Killed)) (reasons : List Reason) (s u : Seg) → WasRead i times s u → HasNoSpare s c kills reasons → HasNoSpare u c kills reasons
spare_on i c times kills reasons s u read none =
    subst (λ (x : Seg). HasNoSpare x c kills reasons) (sym read) (record { reasons = none.reasons; seen = λ w setting seen. none.seen w (record { site = setting.site; may = setting.may }) seen })

come_before : (i times : ℕ) (p : Plan) (kills : List (Option Killed)) (goal : Target) (s u : Seg) → WasRead i times s u → MayCome u p kills goal → MayCome s p kills goal
come_before i times p kills goal s u read may =
    let here = subst (λ (x : Seg). MayCome x p kills goal) read may in
    record { is = here.is; copied = here.copied; written = here.written; unread = here.unread; up = here.up }

pub come_on : (i times : ℕ) (p : Plan) (kills : List (Option Killed)) (goal : Target) (s u : Seg) → WasRead i times s u → MayCome s p kills goal → MayCome u p kills goal
come_on i times p kills goal s u read may =
    subst (λ (x : Seg). MayCome x p kills goal) (sym read) (record { is = may.is; copied = may.copied; written = may.written; unread = may.unread; up = may.up })

reads_on : (i t now after : ℕ) (s u w : Seg) → Sound s → i < s.site.shape.n → Reads i t now s u → Reads i now after u w → Reads i t after s w
reads_on i t now after s u w sound below first then_ = record {
  times = first.times + then_.times;
  becomes = was_read_on i first.times then_.times s u w (inside s i sound below) first.becomes then_.becomes;
  clock = then_.clock ∙ first.clock;
}

pub tries_on : {R : Type 0} (p : Plan) (kills : List (Option Killed)) (reasons : List Reason) (t now after : ℕ) (s u w : Seg) (x : Tried R) → Sound s → p.col < s.site.shape.n → Reads p.col t now s u
    → Tries p kills reasons now after u w x → Tries p kills reasons t after s w x
tries_on p kills reasons t now after s u w (Copied goal) sound below first tries = (
  reads_on p.col t now after s u w sound below first tries.0,
  come_before p.col first.times p kills goal s u first.becomes tries.1,
)
tries_on p kills reasons t now after s u w Failed sound below first tries = falls_on p.col t now after first.times s u w sound below first.becomes first.clock tries
tries_on p kills reasons t now after s u w NoSpare sound below first tries = (
  reads_on p.col t now after s u w sound below first tries.0,
  spare_before p.col p.col first.times kills reasons s u first.becomes tries.1,
)
tries_on p kills reasons t now after s u w NoMemory sound below first tries = reads_on p.col t now after s u w sound below first tries
