-- What a call, a kill and a stamp that is told leave of a pass.
use Rattle.std.proofs.Common.{◌≡◌, inl, inr, ℕ, ◌+◌, ◌<◌, List, length, set, Option, None, Some, refl, sym, ap, ◌∙◌, subst, length-set, arith}
use Rattle.std.specs.Prelude.{option_map, slice_get, slice_index_or}
use Rattle.std.proofs.lemmas.Bool.{cases_eq}
use Rattle.std.proofs.lemmas.List.Elements.{All-weaker}
use Rattle.std.proofs.lemmas.List.{map-set}
use Rattle.std.proofs.lemmas.Option.{slice_get_read, slice_get-map}
use Rattle.atomic_table.specs.Seated.{TableId}
use Rattle.cod_types.specs.Limits.{Shape}
use Rattle.cod_types.specs.declared.call.Call.{Call as Asked}
use Rattle.cod_types.specs.declared.call.Reply.{Reply}
use Rattle.cod_chronicle.specs.Said.{numbers_by, Site, site_as}
use Rattle.cod_board.specs.declared.kill.Kill.{Kill}
use Rattle.cod_board.specs.declared.view.View.{View as BoardView}
use Rattle.cod_board.specs.Words.{after_kill}
use Rattle.cod_board.specs.Seats.{Asked as AskedOf, Seated as BoardSeated}
use Rattle.cod_place.specs.Free.{After}
use Rattle.cod_script.specs.Script.{Script}
use Rattle.cod_seg.specs.Next.{open_in}
use Rattle.cod_seg.specs.Seg.{Seg}
use Rattle.cod_seg.specs.Sound.{is_frail}
use Rattle.cod_segment.specs.Events.{request_of}
use Rattle.cod_turn.specs.Seats.{Seated}
use Rattle.cod_turns.proofs.Lists.{slice_get-set_other, slice_get-set_same}
use Rattle.cod_accounts.specs.Calling.{Made}
use Rattle.cod_accounts.specs.Holding.{Ground}
use Rattle.cod_accounts.specs.Working.{ground_of as place_of, HasCalled}
use Rattle.cod_pass.specs.Places.{ground_of, SamePlace}
use Rattle.cod_pass.specs.Readiness.{IsReady}
use Rattle.cod_pass.specs.States.{Common, course_on, IsCommonOf, IsPassOf, IsSeatAt, known_by, PassState}
use Rattle.cod_calls.proofs.In_call.{fits_there}
use Rattle.cod_closing.specs.Closing.{log_of}

-- a seat is as good for a later call
later_ready : (who number : ℕ) (s : Seg) (seat : Seated Seg) → IsReady who number s seat → IsReady who (number + 1) s seat
later_ready who number s seat r = record {
  idle = r.idle;
  named = r.named;
  own = r.own;
  none = r.none;
  newest = All-weaker (λ m. m < number) (λ m. m < number + 1) (λ m lt. omega (arith, lt)) (numbers_by who s.log) r.newest;
}

later_seat : (x : Script) (c : Common) (who number : ℕ) (bench : Shape) (i : ℕ) (seat : Seated Seg) → IsSeatAt x c who number bench i seat → IsSeatAt x c who (number + 1) bench i seat
later_seat x c who number bench i seat is = record {
  turn = is.turn;
  last = is.last;
  ready = later_ready who number is.last seat is.ready;
  fits = is.fits;
  site = is.site;
  frail = is.frail;
}

-- ---- a call

module _ (x : Script) (c : Common) (p q : PassState) (seg : ℕ) (before after : Seated Seg) (of : IsPassOf x c p) (there : slice_get p.seats seg ≡ Some before)
    (is : q ≡ record p { number = p.number + 1; clock = q.clock; seats = set p.seats seg after; board = q.board; pools = q.pools })
    (asked : AskedOf p.board q.board) (looked : After p.pools q.pools) (turn : after.of ≡ before.of)
    (at : IsSeatAt x c p.caller p.number p.bench seg before) where
  module _ (ready : (t : Seg) × IsReady p.caller (p.number + 1) t after × SamePlace at.last t) where
    seat_after : IsSeatAt x c p.caller (p.number + 1) p.bench seg after
    seat_after = record {
      turn = at.turn ∙ ap Some (sym turn);
      last = ready.0;
      ready = ready.1;
      fits = fits_there c.board c.pools.of c.regions p.bench at.last ready.0 ready.2 at.fits;
      site = ready.2.site ∙ at.site;
      frail = ready.2.frail ∙ at.frail;
    }

    seats_after : (i : ℕ) (seat : Seated Seg) → slice_get (set p.seats seg after) i ≡ Some seat → IsSeatAt x c p.caller (p.number + 1) p.bench i seat
    seats_after i seat has = elim (cases_eq i seg) [
      | inl same ↦ (let e : Some after ≡ Some seat = sym (slice_get-set_same p.seats seg after before there) ∙ (ap (slice_get (set p.seats seg after)) (sym same) ∙ has) in
          let f : after ≡ seat = cc e in
          subst (λ (j : ℕ). IsSeatAt x c p.caller (p.number + 1) p.bench j seat) (sym same) (subst (IsSeatAt x c p.caller (p.number + 1) p.bench seg) f seat_after))
      | inr other ↦ later_seat x c p.caller p.number p.bench i seat (of.seats i seat (sym (slice_get-set_other p.seats seg i after other) ∙ has))
    ]

    pub pass_after : IsPassOf x c q
    pass_after = subst (IsPassOf x c) (sym is) (record {
      count = length-set p.seats seg after ∙ of.count;
      seats = seats_after;
      bench = of.bench;
      board = asked.of ∙ of.board;
      number_of_board = ap length asked.numbers ∙ of.number_of_board;
      pools = looked.of ∙ of.pools;
      no_bytes = looked.bytes ∙ of.no_bytes;
    })

  -- the place of the segment
  same_ground : ground_of at.last ≡ place_of (course_on x c.regions) seg
  same_ground =
      ap (λ (w : Site). let g : Ground = record { site = w; may = is_frail at.last.frail } in g) at.site
      ∙ ap (λ (f : List ℕ). let g : Ground = record { site = site_as c.regions.tell x.shape x.nodes seg; may = is_frail f } in g) at.frail

  seats_known : (known_by q).seats ≡ set (known_by p).seats seg after.knows
  seats_known = ap (λ (r : PassState). (known_by r).seats) is ∙ map-set (λ (s : Seated Seg). s.knows) p.seats seg after

  called : (call : Asked) (position stamp : ℕ) (reply : Reply) → after.knows.hold ≡ None
      → Made log_of open_in (ground_of at.last) (request_of p.caller p.number call) p.clock q.clock p.board.knows.seen q.board.knows.seen before.knows after.knows position stamp reply
      → HasCalled log_of open_in (course_on x c.regions) seg call position stamp reply (known_by p) (known_by q)
  called call position stamp reply idle made = record {
    before = before.knows;
    after = after.knows;
    seat = slice_get-map (λ (s : Seated Seg). s.knows) p.seats seg ∙ ap (option_map (λ (s : Seated Seg). s.knows)) there;
    idle = idle;
    made = subst (λ (g : Ground). Made log_of open_in g (request_of p.caller p.number call) p.clock q.clock p.board.knows.seen q.board.knows.seen before.knows after.knows position stamp reply)
        same_ground made;
    caller = ap (λ (r : PassState). r.caller) is;
    number = ap (λ (r : PassState). r.number) is;
    seats = seats_known;
    seen = asked.seen;
    kills = asked.made;
  }

  -- the same of the pass, whatever it is written as
  pub called_as : (was : PassState) → p ≡ was → (call : Asked) (position stamp : ℕ) (reply : Reply) → after.knows.hold ≡ None
      → Made log_of open_in (ground_of at.last) (request_of p.caller p.number call) p.clock q.clock p.board.knows.seen q.board.knows.seen before.knows after.knows position stamp reply
      → HasCalled log_of open_in (course_on x c.regions) seg call position stamp reply (known_by was) (known_by q)
  called_as was same call position stamp reply idle made =
      subst (λ (w : PassState). HasCalled log_of open_in (course_on x c.regions) seg call position stamp reply (known_by w) (known_by q)) same (called call position stamp reply idle made)

-- ---- another clock, and another board's seat

pub pass_with : (x : Script) (c : Common) (p q : PassState) (clock : ℕ) (board : BoardSeated) → q ≡ record p { clock = clock; board = board } → board.of ≡ p.board.of
    → board.knows.numbers ≡ p.board.knows.numbers → IsPassOf x c p → IsPassOf x c q
pass_with x c p q clock board is of numbers was = subst (IsPassOf x c) (sym is) (record {
  count = was.count;
  seats = was.seats;
  bench = was.bench;
  board = of ∙ was.board;
  number_of_board = ap length numbers ∙ was.number_of_board;
  pools = was.pools;
  no_bytes = was.no_bytes;
})

-- a kill leaves a seat's numbers
pub kill_numbers : (v : BoardView) (node : ℕ) (kill : Kill) (found : Option Kill) → (after_kill v node kill found).numbers ≡ v.numbers
kill_numbers v node kill None = refl
kill_numbers v node kill (Some before) = refl

-- the seat of a call's segment
pub record Found (x : Script) (c : Common) (p : PassState) (seg : ℕ) (turn : TableId) (seat : Seated Seg) : Type 0 where
  pub there : slice_get p.seats seg ≡ Some seat
  pub turn_is : seat.of ≡ turn
  pub at : IsSeatAt x c p.caller p.number p.bench seg seat

pub found : (x : Script) (c : Common) (p : PassState) (seg : ℕ) (turn : TableId) (seat : Seated Seg) → IsCommonOf x c → IsPassOf x c p → seg < length x.segments
    → seat ≡ slice_index_or p.seats seg seat → turn ≡ slice_index_or c.turns seg turn → Found x c p seg turn seat
found x c p seg turn seat common of low is turn_is =
    let count = of.count in
    let all = common.turns in
    let there : slice_get p.seats seg ≡ Some seat = slice_get_read p.seats (length p.seats) seg seat refl (omega (arith, low, count, all)) is in
    let at = of.seats seg seat there in
    let has : slice_get c.turns seg ≡ Some turn = slice_get_read c.turns (length c.turns) seg turn refl (omega (arith, low, all)) turn_is in
    record { there = there; turn_is = (let e : Some seat.of ≡ Some turn = sym at.turn ∙ has in cc e); at = at }
