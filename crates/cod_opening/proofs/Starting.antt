-- What a cluster starts with.
use Rattle.std.proofs.Common.{◌≡◌, inl, inr, ℕ, ◌+◌, ◌-◌, ◌<◌, ◌≤◌, false, List, [], ◌∷◌, length, map, None, Some, refl, sym, ap, ◌∙◌, subst, arith}
use Rattle.std.specs.Prelude.{All, slice_get}
use Rattle.std.proofs.lemmas.Bool.{cases_lt}
use Rattle.std.proofs.lemmas.List.Elements.{All-from_get_or, All-head, All-map, All-nil, All-tail}
use Rattle.std.proofs.lemmas.Option.{get_or_from_slice_get, slice_get_within}
use Rattle.atomic_table.specs.Seated.{TableId}
use Rattle.cod_types.specs.Limits.{Shape}
use Rattle.cod_region.specs.Device.{AllRegions}
use Rattle.cod_chronicle.specs.declared.entry.Entry.{Entry}
use Rattle.cod_chronicle.specs.Legal.{node_id}
use Rattle.cod_chronicle.specs.Said.{numbers_by, Site, site_as}
use Rattle.cod_board.specs.Seats.{Seated as BoardSeated}
use Rattle.cod_place.specs.Free.{at_node, Seated as PoolSeated, taken_from}
use Rattle.cod_place.specs.Room.{Room}
use Rattle.cod_place.specs.Rooms.{AddUp, bytes_on, Store}
use Rattle.cod_place.proofs.Keeps.{taken_beyond, taken_is}
use Rattle.cod_place.proofs.Rooms.{elsewhere}
use Rattle.cod_script.specs.Script.{Script}
use Rattle.cod_seats.proofs.Totals.{length-range}
use Rattle.cod_seg.specs.Next.{open_in}
use Rattle.cod_seg.specs.Pools.{owned}
use Rattle.cod_seg.specs.Seg.{Seg}
use Rattle.cod_seg.specs.Sound.{is_frail}
use Rattle.cod_stripe.specs.Building.{frail_below}
use Rattle.cod_stripe.specs.Sharing.{Without}
use Rattle.cod_stripe.proofs.Frail.{sure_below}
use Rattle.cod_turn.specs.declared.view.View.{View}
use Rattle.cod_turn.specs.Seats.{Seated}
use Rattle.cod_turn.specs.Turning.{all_at, callers, firsts}
use Rattle.cod_advance.specs.Worlds.{no_seg, seg_at}
use Rattle.cod_accounts.specs.Working.{first_list, IsNew}
use Rattle.cod_accounts.proofs.Works.{got}
use Rattle.cod_homes.specs.Building.{all_rooms, AreBuilt, IsBuilt}
use Rattle.cod_pass.specs.Readiness.{Fits, IsReady}
use Rattle.cod_pass.specs.States.{Common, IsCommonOf, IsPassOf, IsRestAt, IsRestOf, IsSeatAt, known_by, PassState, RestState}
use Rattle.cod_opening.specs.Opening.{AreEmpty, ArePasses, ArePlain, AreSeats, board_seat, IsFresh, IsLeft, IsOpened, left_from, seat_of}

-- ---- bytes

-- rooms stand on nodes that there are
none_beyond : (rooms : List Room) (count node : ℕ) → All (λ (room : Room). room.node.0 < count) rooms → count ≤ node → bytes_on node rooms ≡ 0
none_beyond [] count node inside high = refl
none_beyond (room ∷ rooms) count node inside high =
    let low = All-head (λ (r : Room). r.node.0 < count) room rooms inside in
    elsewhere node room rooms (λ e. omega (arith, low, high, e)) ∙ none_beyond rooms count node (All-tail (λ (r : Room). r.node.0 < count) room rooms inside) high

-- what isn't free is what the rooms take
pub taken_by_rooms : (store : Store) (rooms : List Room) (node : ℕ) → AddUp store rooms → at_node node (taken_from store.capacity 0 store.free) ≡ bytes_on node rooms
taken_by_rooms store rooms node adds = elim (cases_lt node (length store.free)) [
  | inl low ↦ (let t = taken_is store.capacity store.free node low in let s = adds.sums node low in omega (arith, t, s))
  | inr high ↦ taken_beyond store.capacity store.free node high ∙ sym (none_beyond rooms (length store.free) node adds.inside high)
]

-- a seat that had these rooms' bytes, and gave them up, has none
pub no_bytes_left : (store : Store) (rooms : List Room) (node : ℕ) (pools : TableId) (seat rest : PoolSeated) → AddUp store rooms
    → seat ≡ record { of = pools; bytes = taken_from store.capacity 0 store.free; looks = [] } → at_node node rest.bytes + bytes_on node rooms ≡ at_node node seat.bytes
    → at_node node rest.bytes ≡ 0
no_bytes_left store rooms node pools seat rest adds is sum =
    let t = taken_by_rooms store rooms node adds in
    let e = ap (λ (s : PoolSeated). at_node node s.bytes) is in
    omega (arith, t, e, sum)

-- ---- new segments

length_callers : (s : Seg) (numbers : List ℕ) → length (firsts (all_at s numbers)) ≡ length numbers
length_callers s [] = refl
length_callers s (n ∷ numbers) = let l = length_callers s numbers in omega (arith, l)

-- what a new pass's seat knows of a new segment
record NewView (who : ℕ) (v : View Seg) : Type 0 where
  pub segment : Seg
  pub idle : v.hold ≡ None
  pub own : v.own ≡ (who, segment) ∷ []
  pub none : open_in segment who ≡ None
  pub low : All (λ m. m < 0) (numbers_by who segment.log)
  pub empty : segment.log ≡ []
  pub places : v.places ≡ []

module _ (x : Script) (regions : AllRegions) (board pools : TableId) (i : ℕ) (b : Seg) (built : IsBuilt x regions i b) where
  abbrev segment : Seg
  segment = owned (Some pools) b

  nothing_open : (who : ℕ) → open_in segment who ≡ None
  nothing_open who = ap (λ (s : Seg). open_in (owned (Some pools) s) who) built.new.begins

  pub empty : segment.log ≡ []
  empty = ap (λ (s : Seg). s.log) built.new.begins

  fits : board.words ≡ x.nodes → pools.words ≡ x.nodes → (bench : Shape) → bench ≡ x.shape → Fits board pools regions bench segment
  fits board_nodes pool_nodes bench bench_is = record {
    board_nodes = board_nodes ∙ sym (ap (λ s. s.nodes) built.site);
    pool_nodes = pool_nodes ∙ sym (ap (λ s. s.nodes) built.site);
    owner = refl;
    shelf = λ node below sure. sure_below regions.never_fail x.nodes (node_id node) (subst (λ s. node < s.nodes) built.site below)
        (subst (λ (f : List ℕ). is_frail f node ≡ false) built.frail sure);
    made_for = bench_is ∙ sym (ap (λ s. s.shape) built.site);
  }

  pub is_ready : (turn : TableId) (who : ℕ) → IsReady who 0 segment (seat_of turn segment (who ∷ []))
  is_ready turn who = record {
    idle = refl;
    named = refl;
    own = refl;
    none = nothing_open who;
    newest = subst (λ (h : List Entry). All (λ m. m < 0) (numbers_by who h)) (sym empty) (All-nil _);
  }

  -- a fresh pass's seat of it
  pub is_seat_at : (c : Common) → c.board ≡ board → c.pools.of ≡ pools → c.regions ≡ regions → board.words ≡ x.nodes → pools.words ≡ x.nodes → (bench : Shape) → bench ≡ x.shape
      → (who : ℕ) (turn : TableId) (seat : Seated Seg) → slice_get c.turns i ≡ Some turn → seat ≡ seat_of turn segment (who ∷ []) → IsSeatAt x c who 0 bench i seat
  is_seat_at c board_is pools_are regions_are board_nodes pool_nodes bench bench_is who turn seat has is = record {
    turn = has ∙ ap (λ (s : Seated Seg). Some s.of) (sym is);
    last = segment;
    ready = subst (IsReady who 0 segment) (sym is) (is_ready turn who);
    fits = subst (λ (t : TableId). Fits t c.pools.of c.regions bench segment) (sym board_is)
        (subst (λ (t : TableId). Fits board t c.regions bench segment) (sym pools_are)
        (subst (λ (r : AllRegions). Fits board pools r bench segment) (sym regions_are) (fits board_nodes pool_nodes bench bench_is)));
    site = subst (λ (r : AllRegions). segment.site ≡ site_as r.tell x.shape x.nodes i) (sym regions_are) built.site;
    frail = subst (λ (r : AllRegions). segment.frail ≡ frail_below r.never_fail x.nodes) (sym regions_are) built.frail;
  }

  -- a first seat of it
  pub is_rest_at : (c : Common) → c.pools.of ≡ pools → c.regions ≡ regions → (n : ℕ) → n < 65536 → (turn : TableId) (seat : Seated Seg) → slice_get c.turns i ≡ Some turn
      → seat ≡ seat_of turn segment (left_from n) → IsRestAt x c n i seat
  is_rest_at c pools_are regions_are n few turn seat has is = record {
    turn = has ∙ ap (λ (s : Seated Seg). Some s.of) (sym is);
    idle = ap (λ (s : Seated Seg). s.knows.hold) is;
    places = ap (λ (s : Seated Seg). s.knows.places) is;
    first = segment;
    named = ap (λ (s : Seated Seg). s.knows.name) is;
    site = subst (λ (r : AllRegions). segment.site ≡ site_as r.tell x.shape x.nodes i) (sym regions_are) built.site;
    frail = subst (λ (r : AllRegions). segment.frail ≡ frail_below r.never_fail x.nodes) (sym regions_are) built.frail;
    owner = ap Some (sym pools_are);
    numbers =
        (let l = ap (λ (s : Seated Seg). length (callers s.knows)) is ∙ length_callers segment (left_from n) ∙ length-range n (65536 - n) in omega (arith, l, few));
  }

-- ---- all of it

-- the i-th segment was built, and its rooms have badges
there_built : (x : Script) (regions : AllRegions) (pools : TableId) (count : ℕ) (segs : List Seg) (store : Store) → AreBuilt x regions count segs store → (i : ℕ) (s : Seg)
    → slice_get (map (owned (Some pools)) segs) i ≡ Some s → IsBuilt x regions i (seg_at segs i) × (s ≡ owned (Some pools) (seg_at segs i))
there_built x regions pools count segs store are i s is =
    let g = got (owned (Some pools)) segs i s is in
    let at : seg_at segs i ≡ g.0 = get_or_from_slice_get segs i g.0 no_seg g.1 in
    let low = slice_get_within segs i g.0 g.1 in
    (are.each i (let z = are.size in omega (arith, low, z)), sym g.2 ∙ ap (owned (Some pools)) (sym at))

module _ (x : Script) (n : ℕ) (few : n < 65536) (c : Common) (segs : List Seg) (store : Store) (shared : IsCommonOf x c)
    (built : AreBuilt x c.regions (length x.segments) segs store) (rest : RestState) (passes : List PassState)
    (left : IsLeft c.turns (map (owned (Some c.pools.of)) segs) c.board c.pools.of n rest)
    (are : ArePasses c.turns (map (owned (Some c.pools.of)) segs) x.shape c.board c.pools.of n passes) where
  rest_at : (i : ℕ) (seat : Seated Seg) → slice_get rest.seats i ≡ Some seat → IsRestAt x c n i seat
  rest_at i seat there =
      let s = left.seats.each i seat there in
      let b = there_built x c.regions c.pools.of (length x.segments) segs store built i s.segment s.has_segment in
      is_rest_at x c.regions c.board c.pools.of i (seg_at segs i) b.0 c refl refl n few s.turn seat s.has_turn (s.is ∙ ap (λ (y : Seg). seat_of s.turn y (left_from n)) b.1)

  is_rest : IsRestOf x c n rest
  is_rest = record {
    count = left.seats.size;
    seats = rest_at;
    board = ap (λ (b : BoardSeated). b.of) left.board_is;
    no_kill = ap (λ (b : BoardSeated). b.knows.made) left.board_is;
    numbers = (let l = ap (λ (b : BoardSeated). length b.knows.numbers) left.board_is ∙ length-range n (65536 - n) in omega (arith, l, few));
    pools = left.pools_are;
    no_bytes = left.no_bytes;
  }

  module _ (who : ℕ) (p : PassState) (there : slice_get passes who ≡ Some p) where
    fresh : IsFresh c.turns (map (owned (Some c.pools.of)) segs) x.shape c.board c.pools.of who p
    fresh = are.each who p there

    caller_is : p.caller ≡ who
    caller_is = ap (λ (q : PassState). q.caller) fresh.is

    number_is : p.number ≡ 0
    number_is = ap (λ (q : PassState). q.number) fresh.is

    bench_is : p.bench ≡ x.shape
    bench_is = ap (λ (q : PassState). q.bench) fresh.is

    seat_at : (i : ℕ) (seat : Seated Seg) → slice_get p.seats i ≡ Some seat → IsSeatAt x c who 0 p.bench i seat
    seat_at i seat is =
        let s = fresh.seats.each i seat is in
        let b = there_built x c.regions c.pools.of (length x.segments) segs store built i s.segment s.has_segment in
        is_seat_at x c.regions c.board c.pools.of i (seg_at segs i) b.0 c refl refl refl shared.board shared.pools p.bench bench_is who s.turn seat s.has_turn
        (s.is ∙ ap (λ (y : Seg). seat_of s.turn y (who ∷ [])) b.1)

    is_pass : IsPassOf x c p
    is_pass = record {
      count = fresh.seats.size;
      seats = λ i seat is. subst (λ (k : ℕ). IsSeatAt x c k p.number p.bench i seat) (sym caller_is) (subst (λ (k : ℕ). IsSeatAt x c who k p.bench i seat) (sym number_is) (seat_at i seat is));
      bench = bench_is;
      board = ap (λ (q : PassState). q.board.of) fresh.is;
      number_of_board = ap (λ (q : PassState). length q.board.knows.numbers) fresh.is;
      pools = ap (λ (q : PassState). q.pools.of) fresh.is;
      no_bytes = ap (λ (q : PassState). q.pools.bytes) fresh.is;
    }

    -- what its seat of a segment knows
    knows_new : (i : ℕ) (v : View Seg) → slice_get (known_by p).seats i ≡ Some v → NewView who v
    knows_new i v is =
        let g = got (λ (s : Seated Seg). s.knows) p.seats i v is in
        let s = fresh.seats.each i g.0 g.1 in
        let b = there_built x c.regions c.pools.of (length x.segments) segs store built i s.segment s.has_segment in
        let e = empty x c.regions c.board c.pools.of i (seg_at segs i) b.0 in
        let r = is_ready x c.regions c.board c.pools.of i (seg_at segs i) b.0 s.turn who in
        let w : v ≡ (seat_of s.turn (owned (Some c.pools.of) (seg_at segs i)) (who ∷ [])).knows =
        sym g.2 ∙ ap (λ (z : Seated Seg). z.knows) (s.is ∙ ap (λ (y : Seg). seat_of s.turn y (who ∷ [])) b.1) in
        subst (NewView who) (sym w) (record { segment = owned (Some c.pools.of) (seg_at segs i); idle = refl; own = refl; none = r.none; low = r.newest; empty = e; places = refl })

    is_new : IsNew (λ (s : Seg). s.log) open_in (known_by p)
    is_new = record {
      number = number_is;
      clock = ap (λ (q : PassState). q.clock) fresh.is;
      ready = λ i v is. (let w = knows_new i v is in record {
        idle = w.idle;
        last = w.segment;
        own = w.own ∙ ap (λ (k : ℕ). (k, w.segment) ∷ []) (sym caller_is);
        none = ap (open_in w.segment) caller_is ∙ w.none;
        low = subst (λ (k : ℕ). All (λ m. m < k) (numbers_by p.caller w.segment.log)) (sym number_is)
            (subst (λ (k : ℕ). All (λ m. m < 0) (numbers_by k w.segment.log)) (sym caller_is) w.low);
      });
      empty = λ i v is. (let w = knows_new i v is in (ap (first_list (λ (s : Seg). s.log)) w.own ∙ w.empty, w.places));
      made = ap (λ (q : PassState). q.board.knows.made) fresh.is;
    }

  pub opened : IsOpened x n c rest passes
  opened = record {
    shared = shared;
    rest = is_rest;
    count = are.size;
    callers_are = caller_is;
    passes_are = is_pass;
    new = is_new;
  }

-- ---- before the first pass

pub built_plain : (x : Script) (regions : AllRegions) (count : ℕ) (segs : List Seg) (store : Store) (words : ℕ) → AreBuilt x regions count segs store → words ≡ x.nodes → ArePlain words segs
built_plain x regions count segs store words are same = All-from_get_or (λ (s : Seg). (s.pools ≡ None) × (s.site.nodes ≤ words)) segs no_seg (λ i low.
    let b = are.each i (let z = are.size in omega (arith, low, z)) in
    (b.plain, let n = ap (λ (w : Site). w.nodes) b.site in omega (arith, n, same)))

pub built_empty : (x : Script) (regions : AllRegions) (count : ℕ) (segs now : List Seg) (store : Store) (pools : TableId) → AreBuilt x regions count segs store
    → now ≡ map (owned (Some pools)) segs → AreEmpty now
built_empty x regions count segs now store pools are is = subst AreEmpty (sym is) (All-map (λ (s : Seg). s.log ≡ []) (owned (Some pools)) segs
    (All-from_get_or (λ (s : Seg). (owned (Some pools) s).log ≡ []) segs no_seg (λ i low.
    let b = are.each i (let z = are.size in omega (arith, low, z)) in
    ap (λ (s : Seg). s.log) b.new.begins)))

-- the first seats, before the first pass is split off
pub starts : (of : TableId) (turns slice : List TableId) (old new : List Seg) (board : TableId) (seats : List (Seated Seg)) (w : BoardSeated) (seat rest : PoolSeated) (store : Store)
    → slice ≡ turns → AreSeats turns new (left_from 0) seats → new ≡ map (owned (Some of)) old → w ≡ board_seat board (left_from 0) → AddUp store (all_rooms old)
    → seat ≡ record { of = of; bytes = taken_from store.capacity 0 store.free; looks = [] } → Without (all_rooms old) seat rest
    → IsLeft slice (map (owned (Some of)) old) board of 0 (record { seats = seats; board = w; pools = rest })
starts of turns slice old new board seats w seat rest store same are is board_is adds seat_is without = record {
  seats = subst (λ (t : List TableId). AreSeats t (map (owned (Some of)) old) (left_from 0) seats) (sym same) (subst (λ (l : List Seg). AreSeats turns l (left_from 0) seats) is are);
  board_is = board_is;
  pools_are = without.of ∙ ap (λ (s : PoolSeated). s.of) seat_is;
  no_bytes = λ node. no_bytes_left store (all_rooms old) node of seat rest adds seat_is (without.bytes node);
}
