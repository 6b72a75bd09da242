-- What a cluster leaves, from what its turns, its board and its pools were closed by.
use Rattle.std.proofs.Common.{◌≡◌, ℕ, ◌+◌, ◌<◌, Option, Some, None, List, [], ◌∷◌, ◌++◌, length, map, refl, sym, ap, ◌∙◌, subst, inl, inr, arith}
use Rattle.std.specs.Prelude.{slice_get, slice_index}
use Rattle.std.specs.Option.{option_map}
use Rattle.std.proofs.lemmas.Option.{slice_get_within}
use Rattle.atomic_table.specs.Seated.{TableId}
use Rattle.cod_chronicle.specs.Legal.{IsLegal}
use Rattle.cod_chronicle.specs.Said.{Site, site_as}
use Rattle.cod_board.specs.declared.kill.Kill.{Kill}
use Rattle.cod_board.specs.declared.view.View.{View as BoardView}
use Rattle.cod_board.specs.Seats.{IsClosed as IsClosedBoard}
use Rattle.cod_place.specs.Free.{at_node, Seated as PoolSeated}
use Rattle.cod_place.specs.Rooms.{Store}
use Rattle.cod_script.specs.Script.{Script}
use Rattle.cod_seats.specs.Totals.{times, once_below}
use Rattle.cod_seg.specs.Next.{open_in, open_of}
use Rattle.cod_seg.specs.Pools.{owned, owned_rebuild}
use Rattle.cod_seg.specs.Seg.{Rebuilding, Seg}
use Rattle.cod_seg.proofs.Owning.{owner_keeps}
use Rattle.cod_stripe.specs.Sharing.{Without}
use Rattle.cod_stripe.specs.Standing.{name_of}
use Rattle.cod_turn.specs.declared.view.View.{View}
use Rattle.cod_turn.specs.Seats.{Seated}
use Rattle.cod_turn.specs.Turning.{callers, Meets, Stays}
use Rattle.cod_turns.specs.Turns.{Course}
use Rattle.cod_homes.specs.Building.{all_rooms}
use Rattle.cod_accounts.specs.Closing.{ClosedBoard, ClosedSegment, joined, seats_at}
use Rattle.cod_accounts.specs.Working.{Pass}
use Rattle.cod_accounts.proofs.Joins.{joined_board_closes, joined_seats_close}
use Rattle.cod_pass.specs.States.{Common, course_on, IsRestAt, known_by, PassState, RestState}
use Rattle.cod_pass.proofs.Naming.{names_tell}
use Rattle.cod_closing.specs.Closing.{AreLast, AreReleased, IsClosedOf, IsLeft, IsReleased, IsWhole, log_of}
use Rattle.cod_closing.specs.Joining.{IsOurs, IsTheirs, with_passes}
use Rattle.cod_closing.proofs.Rooms.{add_up, AreSound}
use Rattle.cod_closing.proofs.Seats.{board_with, bytes_with, callers_with, found, got_push, HaveOne, joined_name, numbers_with, ours_all, seat_with}

-- ---- a segment whose rooms have no badges any more

open_same : (of : Option TableId) (s : Seg) (caller : ℕ) → open_in (owned of s) caller ≡ open_in s caller
open_same of s caller = by s.rebuild where
  by : (r : Option Rebuilding) → open_of caller s.claims (option_map (owned_rebuild of) r) ≡ open_of caller s.claims r
  by None = refl
  by (Some r) = refl

stays_same : (of : Option TableId) (s : Seg) (own : List (ℕ × Seg)) → Stays name_of log_of open_in s own → Stays name_of log_of open_in (owned of s) own
stays_same of s [] stays = tt
stays_same of s (p ∷ own) stays = (stays.0, stays.1, open_same of s p.0 ∙ stays.2, stays_same of s own stays.3)

closed_same : (x : Course) (passes : List (Pass Seg)) (i : ℕ) (of : Option TableId) (s : Seg) → ClosedSegment name_of log_of open_in x passes i s
    → ClosedSegment name_of log_of open_in x passes i (owned of s)
closed_same x passes i of s closed = record {
  stays = λ c p v is at. stays_same of s v.own (closed.stays c p v is at);
  added = closed.added;
  legal = closed.legal;
  chronicle = closed.chronicle;
}

-- ---- segments that were released, one after another

pub released_more : (seats : List (Seated Seg)) (values : List Seg) (seat : Seated Seg) (now : Seg) → AreReleased seats values → slice_get seats (length values) ≡ Some seat
    → IsReleased seat.knows now → AreReleased seats (values ++ now ∷ [])
released_more seats values seat now are here is i s n at has = elim (got_push values now i n has) [
  | inl old ↦ are i s n at old
  | inr last ↦ (
      let e : Some seat ≡ Some s = sym here ∙ (ap (slice_get seats) (sym last.0) ∙ at) in
      let same : seat ≡ s = cc e in
      subst (λ (z : Seated Seg). IsReleased z.knows n) same (subst (IsReleased seat.knows) last.1 is))
]

pub none_released : (seats : List (Seated Seg)) → AreReleased seats []
none_released seats i s n at has = absurd (cc has)

-- ---- the whole of a cluster

module _ (x : Script) (c : Common) (rest : RestState) (passes : List PassState) (whole : IsWhole x c rest passes) where
  -- the first seats are of what is shared, and so are the passes
  pub first_ours : IsOurs c.turns c.board c.pools.of rest
  first_ours = record {
    seats = record { count = whole.first.count; each = λ i s is. ((whole.first.seats i s is).turn, (whole.first.seats i s is).idle) };
    board_is = whole.first.board;
    pools_are = whole.first.pools;
  }

  pub each_theirs : (j : ℕ) (p : PassState) → slice_get passes j ≡ Some p → IsTheirs c.turns c.board c.pools.of p
  each_theirs j p is =
      let pass = whole.each j p is in
      record {
        seats = record { count = pass.count; each = λ i s at. ((pass.seats i s at).turn, (pass.seats i s at).ready.idle) };
        board_is = pass.board;
        pools_are = pass.pools;
      }

  pub all_ours : IsOurs c.turns c.board c.pools.of (with_passes rest passes)
  all_ours = ours_all c.turns c.board c.pools.of rest passes first_ours each_theirs

  -- each pass has a seat of each turn, with one caller
  long : (i : ℕ) → i < length c.turns → (j : ℕ) (p : PassState) → slice_get passes j ≡ Some p → i < length p.seats
  long i low j p is = let n = (whole.each j p is).count in omega (arith, low, n)

  have_one : (i : ℕ) → i < length c.turns → HaveOne i passes
  have_one i low j p is =
      let t = found p.seats i (long i low j p is) in
      (t.0, t.1, ap length ((whole.each j p is).seats i t.0 t.1).ready.own)

  -- the place of the i-th segment
  record IsAt (i : ℕ) (seat s : Seated Seg) : Type 0 where
    is : seat ≡ record { of = s.of; knows = joined s.knows (seats_at i (map known_by passes)) }
    rest_at : IsRestAt x c (length passes) i s
    below : i < length c.turns

  the_seat : (i : ℕ) (seat : Seated Seg) → slice_get (with_passes rest passes).seats i ≡ Some seat → (s : Seated Seg) × IsAt i seat s
  the_seat i seat at =
      let low : i < length c.turns = (let w = slice_get_within (with_passes rest passes).seats i seat at in let n = all_ours.seats.count in omega (arith, w, n)) in
      let s = found rest.seats i (let n = whole.first.count in omega (arith, low, n)) in
      let e : Some (record { of = s.0.of; knows = joined s.0.knows (seats_at i (map known_by passes)) }) ≡ Some seat = sym (seat_with i rest passes s.0 s.1 (long i low)) ∙ at in
      (s.0, record { is = (let z : record { of = s.0.of; knows = joined s.0.knows (seats_at i (map known_by passes)) } ≡ seat = cc in sym z); rest_at = whole.first.seats i s.0 s.1; below = low })

  -- ---- the turns

  pub are_last : AreLast c.pools.of c.turns (with_passes rest passes).seats
  are_last = record {
    count = all_ours.seats.count;
    each = λ i turn seat has at.
        let z = the_seat i seat at in
        let s = z.0 in
        let a = z.1.rest_at in
        let t : Some s.of ≡ Some turn = sym a.turn ∙ has in
        let of : s.of ≡ turn = cc in
        let callers_are : length (callers seat.knows) ≡ length (callers s.knows) + length passes =
        ap (λ (u : Seated Seg). length (callers u.knows)) z.1.is ∙ callers_with i s.knows passes (have_one i z.1.below) in
        let all = a.numbers in
        record {
          turn_is = ap (λ (u : Seated Seg). u.of) z.1.is ∙ of;
          idle = (all_ours.seats.each i seat at).1;
          all = omega (arith, callers_are, all);
          first = a.first;
          named = ap (λ (u : Seated Seg). u.knows.name) z.1.is ∙ (joined_name s.knows (seats_at i (map known_by passes)) ∙ a.named);
          owner = a.owner;
          nodes = (let n : a.first.site.nodes ≡ x.nodes = ap (λ (w : Site). w.nodes) a.site in let w = whole.common.pools in omega (arith, n, w));
        };
  }

  -- a segment at the end
  is_left : (i : ℕ) (seat : Seated Seg) (now : Seg) → slice_get (with_passes rest passes).seats i ≡ Some seat
      → IsReleased seat.knows now → IsLeft x c passes i now
  is_left i seat now at r =
      let z = the_seat i seat at in
      let s = z.0 in
      let a = z.1.rest_at in
      let value = r.value in
      let v = joined s.knows (seats_at i (map known_by passes)) in
      let knows : seat.knows ≡ v = ap (λ (u : Seated Seg). u.knows) z.1.is in
      let meets : Meets name_of log_of open_in v value = subst (λ (w : View Seg). Meets name_of log_of open_in w value) knows r.meets in
      let places : (p : ℕ) → times p v.places ≡ once_below p (length value.log) =
      subst (λ (w : View Seg). (p : ℕ) → times p w.places ≡ once_below p (length value.log)) knows r.places in
      let named : name_of value ≡ name_of a.first = meets.0 ∙ (joined_name s.knows (seats_at i (map known_by passes)) ∙ a.named) in
      let place = names_tell a.first value named in
      let site : value.site ≡ site_as c.regions.tell x.shape x.nodes i = place.site ∙ a.site in
      let frail = place.frail ∙ a.frail in
      let legal = subst (λ (w : Site). IsLegal w value.log) site r.sound.history.legal in
      let closed = joined_seats_close name_of log_of open_in (course_on x c.regions) (map known_by passes) i s.knows value a.places meets places legal r.sound.history.chronicle in
      let left : IsLeft x c passes i (owned None value) = record {
        sound = owner_keeps value None r.sound;
        site = site;
        frail = frail;
        plain = refl;
        closed = closed_same (course_on x c.regions) (map known_by passes) i None value closed;
      } in
      subst (IsLeft x c passes i) (sym r.is) left

  each_left : (values : List Seg) → length values ≡ length c.turns → AreReleased (with_passes rest passes).seats values
      → (i : ℕ) (now : Seg) → slice_get values i ≡ Some now → IsLeft x c passes i now
  each_left values size are i now at =
      let low = slice_get_within values i now at in
      let n = all_ours.seats.count in
      let seat = found (with_passes rest passes).seats i (omega (arith, low, size, n)) in
      is_left i seat.0 now seat.1 (are i seat.0 now seat.1 at)

  -- ---- the board

  pub board_full : length (with_passes rest passes).board.knows.numbers ≡ 65536
  board_full =
      let n = numbers_with rest.board.knows passes (λ j p is. (whole.each j p is).number_of_board) in
      let all = whole.first.numbers in
      ap (λ (v : BoardView). length v.numbers) (board_with rest passes) ∙ omega (arith, n, all)

  board_closed : (kills : List (Option Kill)) → IsClosedBoard c.board.words (with_passes rest passes).board.knows kills → ClosedBoard (map known_by passes) kills
  board_closed kills closed =
      joined_board_closes c.board.words rest.board.knows (map known_by passes) kills whole.first.no_kill
      (subst (λ (v : BoardView). IsClosedBoard c.board.words v kills) (board_with rest passes) closed)

  -- ---- all of it

  are_sound : (values : List Seg) → ((i : ℕ) (now : Seg) → slice_get values i ≡ Some now → IsLeft x c passes i now) → AreSound x.nodes values
  are_sound values left i s is = ((left i s is).sound, ap (λ (w : Site). w.nodes) (left i s is).site)

  pub closed_of : (values : List Seg) (kills : List (Option Kill)) (store : Store) (seat : PoolSeated)
      → length values ≡ length c.turns → AreReleased (with_passes rest passes).seats values → Without (all_rooms values) seat (with_passes rest passes).pools
      → IsClosedBoard c.board.words (with_passes rest passes).board.knows kills → store.capacity ≡ c.pools.capacity → length store.free ≡ c.pools.of.words
      → ((node : ℕ) → node < c.pools.of.words → slice_index store.free node + at_node node seat.bytes ≡ c.pools.capacity) → IsClosedOf x c passes values kills store
  closed_of values kills store seat size are without board capacity free sums =
      let left = each_left values size are in
      let words = whole.common.pools in
      let full = whole.common.capacity in
      record {
        count = size ∙ whole.common.turns;
        each = left;
        nodes = board.size ∙ whole.common.board;
        board = board_closed kills board;
        capacity = capacity ∙ full;
        free = free ∙ words;
        rooms = add_up x.nodes c.pools.capacity store values seat (with_passes rest passes).pools (free ∙ words) capacity
            (λ node low. sums node (omega (arith, low, words))) without
            (λ node. ap (at_node node) (bytes_with rest passes (λ j p is. (whole.each j p is).no_bytes)) ∙ whole.first.no_bytes node) (are_sound values left);
      }
