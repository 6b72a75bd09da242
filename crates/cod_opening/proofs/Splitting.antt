-- Seats that are split off, each with the least number that is left.
use Rattle.std.proofs.Common.{◌≡◌, ◌⊎◌, inl, inr, ℕ, zero, suc, ◌+◌, ◌-◌, ◌<◌, ◌≤◌, List, [], ◌∷◌, ◌++◌, length, set, Some, None, refl, sym, ap, ◌∙◌, subst, length-append, length-set, arith}
use Rattle.std.specs.Prelude.{slice_get, slice_index_or}
use Rattle.std.proofs.lemmas.Bool.{cases_eq}
use Rattle.std.proofs.lemmas.Option.{slice_get_read}
use Rattle.cod_types.specs.Limits.{Shape}
use Rattle.cod_board.specs.Seats.{Seated as BoardSeated}
use Rattle.cod_board.specs.Words.{left_of as board_left, right_of as board_right}
use Rattle.atomic_table.specs.Seated.{TableId}
use Rattle.cod_place.specs.Free.{at_node, Seated as PoolSeated}
use Rattle.cod_seats.specs.Least.{all_but_least, AtLeast, itself, least_of}
use Rattle.cod_seats.specs.Totals.{range}
use Rattle.cod_seats.proofs.Least.{lowest_first, range_at_least}
use Rattle.cod_seats.proofs.Totals.{length-range, range_head}
use Rattle.cod_chronicle.specs.declared.entry.Entry.{Entry}
use Rattle.cod_seg.specs.Next.{open_in}
use Rattle.cod_seg.specs.Seg.{Seg}
use Rattle.cod_stripe.specs.Standing.{name_of}
use Rattle.cod_turn.specs.Seats.{Seated}
use Rattle.cod_turn.specs.Turning.{all_at, callers, firsts, left_of, number, right_of, starting}
use Rattle.cod_turns.proofs.Lists.{slice_get-set_other, slice_get-set_same}
use Rattle.cod_pass.specs.States.{PassState, RestState}
use Rattle.cod_opening.specs.Opening.{ArePasses, AreSeats, board_seat, IsFresh, IsLeft, IsSeat, left_from, seat_of}

-- ---- the least number

-- the numbers from n on are n and those from n + 1 on
pub left_head : (n : ℕ) → n + 1 < 65536 → left_from n ≡ n ∷ left_from (n + 1)
left_head n few =
    let count : 65536 - n ≡ suc (65536 - (n + 1)) = omega (arith, few) in
    let next : suc n ≡ n + 1 = omega arith in
    ap (range n) count ∙ range_head n (65536 - (n + 1)) ∙ ap (λ (m : ℕ). n ∷ range m (65536 - (n + 1))) next

low_left : (n : ℕ) → AtLeast itself n (left_from (n + 1))
low_left n = range_at_least n (n + 1) (65536 - (n + 1)) (omega arith)

pub numbers_cut : (n : ℕ) → n + 1 < 65536 → (all_but_least itself (left_from n) ≡ left_from (n + 1)) × (least_of itself (left_from n) ≡ n ∷ [])
numbers_cut n few =
    let cut = lowest_first itself n (left_from (n + 1)) (low_left n) in
    (ap (all_but_least itself) (left_head n few) ∙ cut.1, ap (least_of itself) (left_head n few) ∙ ap (λ (m : ℕ). m ∷ []) cut.0)

low_all : (s : Seg) (n : ℕ) (ns : List ℕ) → AtLeast itself n ns → AtLeast number n (all_at s ns)
low_all s n [] low = tt
low_all s n (m ∷ ns) low = (low.0, low_all s n ns low.1)

all_cut : (s : Seg) (n : ℕ) → n + 1 < 65536
    → (all_but_least number (all_at s (left_from n)) ≡ all_at s (left_from (n + 1))) × (least_of number (all_at s (left_from n)) ≡ (n, s) ∷ [])
all_cut s n few =
    let cut = lowest_first number (n, s) (all_at s (left_from (n + 1))) (low_all s n (left_from (n + 1)) (low_left n)) in
    let head = ap (all_at s) (left_head n few) in
    (ap (all_but_least number) head ∙ cut.1, ap (least_of number) head ∙ ap (λ (p : ℕ × Seg). p ∷ []) cut.0)

-- the seat that is left, and the one that was split off
pub left_seat : (t : TableId) (s : Seg) (n : ℕ) → n + 1 < 65536
    → (let seat = seat_of t s (left_from n) in record { of = seat.of; knows = left_of seat.knows }) ≡ seat_of t s (left_from (n + 1))
left_seat t s n few =
    ap (λ (own : List (ℕ × Seg)). let seat = seat_of t s [] in let w : Seated Seg = record { of = seat.of; knows = record seat.knows { own = own } } in w) (all_cut s n few).0

pub right_seat : (t : TableId) (s : Seg) (n : ℕ) → n + 1 < 65536
    → (let seat = seat_of t s (left_from n) in record { of = seat.of; knows = right_of seat.knows }) ≡ seat_of t s (n ∷ [])
right_seat t s n few =
    ap (λ (own : List (ℕ × Seg)). let seat = seat_of t s [] in let w : Seated Seg = record { of = seat.of; knows = record seat.knows { own = own } } in w) (all_cut s n few).1

-- ---- one seat of each turn

-- the first seats up to a turn were split, and those that were split off
pub record SplitUpTo (turns : List TableId) (segs : List Seg) (n at : ℕ) (firsts made : List (Seated Seg)) : Type 0 where
  pub size : length firsts ≡ length turns
  pub front : (i : ℕ) (seat : Seated Seg) → i < at → slice_get firsts i ≡ Some seat → IsSeat turns segs (left_from (n + 1)) i seat
  pub back : (i : ℕ) (seat : Seated Seg) → at ≤ i → slice_get firsts i ≡ Some seat → IsSeat turns segs (left_from n) i seat
  pub count : length made ≡ at
  pub made_are : (i : ℕ) (seat : Seated Seg) → slice_get made i ≡ Some seat → IsSeat turns segs (n ∷ []) i seat

pub split_none : (turns : List TableId) (segs : List Seg) (n : ℕ) (firsts : List (Seated Seg)) → AreSeats turns segs (left_from n) firsts → SplitUpTo turns segs n 0 firsts []
split_none turns segs n firsts are = record {
  size = are.size;
  front = λ i seat low. absurd (omega (arith, low));
  back = λ i seat high is. are.each i seat is;
  count = refl;
  made_are = λ i seat is. absurd (let bad : None ≡ Some seat = is in cc bad);
}

-- what stands in a list with one more
get_push : {A : Type 0} (xs : List A) (x y : A) (i : ℕ) → slice_get (xs ++ x ∷ []) i ≡ Some y → (slice_get xs i ≡ Some y) ⊎ ((i ≡ length xs) × (x ≡ y))
get_push [] x y zero is = inr (refl, let e : Some x ≡ Some y = is in cc e)
get_push [] x y (suc i) is = absurd (let bad : None ≡ Some y = is in cc bad)
get_push (z ∷ zs) x y zero is = inl is
get_push (z ∷ zs) x y (suc i) is = elim (get_push zs x y i is) [
  | inl a ↦ inl a
  | inr b ↦ inr (ap suc b.0, b.1)
]

pub split_one : (turns : List TableId) (segs : List Seg) (n at : ℕ) (firsts made : List (Seated Seg)) (old new own : Seated Seg) → n + 1 < 65536 → SplitUpTo turns segs n at firsts made
    → slice_get firsts at ≡ Some old → new ≡ record { of = old.of; knows = left_of old.knows } → own ≡ record { of = old.of; knows = right_of old.knows }
    → SplitUpTo turns segs n (at + 1) (set firsts at new) (made ++ own ∷ [])
split_one turns segs n at firsts made old new own few so there left right =
    let was = so.back at old (omega arith) there in
    let new_is : new ≡ seat_of was.turn was.segment (left_from (n + 1)) =
    left ∙ (ap (λ (w : Seated Seg). let v : Seated Seg = record { of = w.of; knows = left_of w.knows } in v) was.is ∙ left_seat was.turn was.segment n few) in
    let own_is : own ≡ seat_of was.turn was.segment (n ∷ []) =
    right ∙ (ap (λ (w : Seated Seg). let v : Seated Seg = record { of = w.of; knows = right_of w.knows } in v) was.is ∙ right_seat was.turn was.segment n few) in
    record {
      size = length-set firsts at new ∙ so.size;
      front = λ i seat low is. elim (cases_eq i at) [
        | inl same ↦ (let e : Some new ≡ Some seat = sym (slice_get-set_same firsts at new old there) ∙ (ap (slice_get (set firsts at new)) (sym same) ∙ is) in
            let f : new ≡ seat = cc e in
            subst (λ (j : ℕ). IsSeat turns segs (left_from (n + 1)) j seat) (sym same)
            (record { turn = was.turn; segment = was.segment; has_turn = was.has_turn; has_segment = was.has_segment; is = sym f ∙ new_is }))
        | inr other ↦ so.front i seat (omega (arith, low, other)) (sym (slice_get-set_other firsts at i new other) ∙ is)
      ];
      back = λ i seat high is. so.back i seat (omega (arith, high)) (sym (slice_get-set_other firsts at i new (λ e. omega (arith, high, e))) ∙ is);
      count = (let l = length-append made (own ∷ []) in let c = so.count in omega (arith, l, c));
      made_are = λ i seat is. elim (get_push made own seat i is) [
        | inl before ↦ so.made_are i seat before
        | inr last ↦ (let place : i ≡ at = last.0 ∙ so.count in
            subst (λ (j : ℕ). IsSeat turns segs (n ∷ []) j seat) (sym place)
            (record { turn = was.turn; segment = was.segment; has_turn = was.has_turn; has_segment = was.has_segment; is = sym last.1 ∙ own_is }))
      ];
    }

-- the seat of the next turn
pub record Here (turn : TableId) (firsts : List (Seated Seg)) (n at : ℕ) (seat : Seated Seg) : Type 0 where
  pub turn_is : seat.of ≡ turn
  pub idle : seat.knows.hold ≡ None
  pub two : n + 1 < 65536 → 2 ≤ length (callers seat.knows)
  pub there : slice_get firsts at ≡ Some seat

two_callers : (s : Seg) (n : ℕ) → n + 1 < 65536 → 2 ≤ length (firsts (all_at s (left_from n)))
two_callers s n few =
    let l = length_firsts s (left_from n) in
    let r = length-range n (65536 - n) in
    omega (arith, l, r, few)
  where
    length_firsts : (s : Seg) (numbers : List ℕ) → length (firsts (all_at s numbers)) ≡ length numbers
    length_firsts s [] = refl
    length_firsts s (m ∷ numbers) = let l = length_firsts s numbers in omega (arith, l)

pub split_here : (turns : List TableId) (segs : List Seg) (n at : ℕ) (firsts made : List (Seated Seg)) (seat : Seated Seg) (turn : TableId) → SplitUpTo turns segs n at firsts made
    → at < length turns → seat ≡ slice_index_or firsts at seat → turn ≡ slice_index_or turns at turn → Here turn firsts n at seat
split_here turns segs n at firsts made seat turn so low value is =
    let there : slice_get firsts at ≡ Some seat = slice_get_read firsts (length firsts) at seat refl (let z = so.size in omega (arith, low, z)) value in
    let was = so.back at seat (omega arith) there in
    let turn_there : slice_get turns at ≡ Some turn = slice_get_read turns (length turns) at turn refl low is in
    let same : was.turn ≡ turn = (let e : Some was.turn ≡ Some turn = sym was.has_turn ∙ turn_there in cc e) in
    record {
      turn_is = ap (λ (w : Seated Seg). w.of) was.is ∙ same;
      idle = ap (λ (w : Seated Seg). w.knows.hold) was.is;
      two = λ few. subst (λ (w : Seated Seg). 2 ≤ length (callers w.knows)) (sym was.is) (two_callers was.segment n few);
      there = there;
    }

get_low : {A : Type 0} (xs : List A) (i : ℕ) (x : A) → slice_get xs i ≡ Some x → i < length xs
get_low [] i x is = absurd (let bad : None ≡ Some x = is in cc bad)
get_low (y ∷ ys) zero x is = omega arith
get_low (y ∷ ys) (suc i) x is = let l = get_low ys i x is in omega (arith, l)

pub split_all : (turns : List TableId) (segs : List Seg) (n at : ℕ) (firsts made : List (Seated Seg)) → at ≡ length turns → SplitUpTo turns segs n at firsts made
    → AreSeats turns segs (left_from (n + 1)) firsts × AreSeats turns segs (n ∷ []) made
split_all turns segs n at firsts made all so = (
  record { size = so.size; each = λ i seat is. so.front i seat (let l = get_low firsts i seat is in let s = so.size in omega (arith, l, s, all)) is },
  record { size = so.count ∙ all; each = λ i seat is. so.made_are i seat is },
)

-- ---- new turns, one after another

no_places : (s : Seg) → s.log ≡ [] → range 0 (length s.log) ≡ []
unfolding range
no_places s empty = ap (λ (h : List Entry). range 0 (length h)) empty

-- the first seat of a new turn
pub first_seat : (t : TableId) (s : Seg) (seat : Seated Seg) → s.log ≡ [] → seat ≡ record { of = t; knows = starting name_of (λ (x : Seg). x.log) open_in s } → seat ≡ seat_of t s (left_from 0)
first_seat t s seat empty is =
    is ∙ ap (λ (places : List ℕ). let w : Seated Seg = record { of = t; knows = record { own = all_at s (range 0 65536); name = name_of s; places = places; hold = None } } in w) (no_places s empty)

get_front : {A : Type 0} (xs : List A) (x y : A) (i : ℕ) → slice_get xs i ≡ Some y → slice_get (xs ++ x ∷ []) i ≡ Some y
get_front [] x y i is = absurd (let bad : None ≡ Some y = is in cc bad)
get_front (z ∷ zs) x y zero is = is
get_front (z ∷ zs) x y (suc i) is = get_front zs x y i is

get_last : {A : Type 0} (xs : List A) (x : A) (i : ℕ) → i ≡ length xs → slice_get (xs ++ x ∷ []) i ≡ Some x
get_last [] x i is = ap (slice_get (x ∷ [])) is
get_last (z ∷ zs) x zero is = absurd (omega (arith, is))
get_last (z ∷ zs) x (suc i) is = get_last zs x i (omega (arith, is))

pub more_seats : (turns : List TableId) (segs : List Seg) (numbers : List ℕ) (seats : List (Seated Seg)) (t : TableId) (s : Seg) (seat : Seated Seg) → AreSeats turns segs numbers seats
    → length segs ≡ length turns → seat ≡ seat_of t s numbers → AreSeats (turns ++ t ∷ []) (segs ++ s ∷ []) numbers (seats ++ seat ∷ [])
more_seats turns segs numbers seats t s seat are same is = record {
  size = (let a = length-append seats (seat ∷ []) in let b = length-append turns (t ∷ []) in let z = are.size in omega (arith, a, b, z));
  each = λ i v there. elim (get_push seats seat v i there) [
    | inl before ↦ (let e = are.each i v before in
        record { turn = e.turn; segment = e.segment; has_turn = get_front turns t e.turn i e.has_turn; has_segment = get_front segs s e.segment i e.has_segment; is = e.is })
    | inr last ↦ (let z = are.size in
        record { turn = t; segment = s; has_turn = get_last turns t i (last.0 ∙ z); has_segment = get_last segs s i (last.0 ∙ z ∙ sym same); is = sym last.1 ∙ is })
  ];
}

pub no_seats : (numbers : List ℕ) → AreSeats [] [] numbers []
no_seats numbers = record { size = refl; each = λ i seat is. absurd (let bad : None ≡ Some seat = is in cc bad) }

-- ---- a pass

module _ (turns : List TableId) (segs : List Seg) (board pools : TableId) (n : ℕ) (rest : RestState) (left : IsLeft turns segs board pools n rest) (few : n + 1 < 65536) where
  pub two_numbers : 2 ≤ length rest.board.knows.numbers
  two_numbers =
      let b = ap (λ (s : BoardSeated). length s.knows.numbers) left.board_is in
      let l = length-range n (65536 - n) in
      omega (arith, b, l, few)

  -- the board's seat that was split off, and the one that is left
  right_board : (w : BoardSeated) → w ≡ record { of = rest.board.of; knows = board_right rest.board.knows } → w ≡ board_seat board (n ∷ [])
  right_board w is =
      is ∙ ap (λ (s : BoardSeated). let t : BoardSeated = record { of = s.of; knows = board_right s.knows } in t) left.board_is
      ∙ ap (board_seat board) (numbers_cut n few).1

  left_board : (w : BoardSeated) → w ≡ record { of = rest.board.of; knows = board_left rest.board.knows } → w ≡ board_seat board (left_from (n + 1))
  left_board w is =
      is ∙ ap (λ (s : BoardSeated). let t : BoardSeated = record { of = s.of; knows = board_left s.knows } in t) left.board_is
      ∙ ap (board_seat board) (numbers_cut n few).0

  pub fresh_pass : (shape : Shape) (seats : List (Seated Seg)) (who number : ℕ) (bench : Shape) (w : BoardSeated) (o : PoolSeated) → AreSeats turns segs (n ∷ []) seats
      → who ≡ n → number ≡ 0 → bench ≡ shape → w ≡ record { of = rest.board.of; knows = board_right rest.board.knows } → o ≡ record { of = rest.pools.of; bytes = []; looks = [] }
      → IsFresh turns segs shape board pools n (record { caller = who; number = number; clock = 0; seats = seats; bench = bench; board = w; pools = o })
  fresh_pass shape seats who number bench w o are who_is number_is bench_is board_is pools_is = record {
    seats = are;
    is =
        let b : w ≡ board_seat board (n ∷ []) = right_board w board_is in
        let p : o ≡ record { of = pools; bytes = []; looks = [] } =
        pools_is ∙ ap (λ (t : TableId). let q : PoolSeated = record { of = t; bytes = []; looks = [] } in q) left.pools_are in
        rw (who_is, number_is, bench_is, b, p) refl;
  }

  pub left_rest : (seats : List (Seated Seg)) (w : BoardSeated) (o : PoolSeated) → AreSeats turns segs (left_from (n + 1)) seats
      → w ≡ record { of = rest.board.of; knows = board_left rest.board.knows } → o ≡ rest.pools
      → IsLeft turns segs board pools (n + 1) (record { seats = seats; board = w; pools = o })
  left_rest seats w o are board_is pools_is = record {
    seats = are;
    board_is = left_board w board_is;
    pools_are = ap (λ (p : PoolSeated). p.of) pools_is ∙ left.pools_are;
    no_bytes = λ node. ap (λ (p : PoolSeated). at_node node p.bytes) pools_is ∙ left.no_bytes node;
  }

-- one pass more
pub more_passes : (turns : List TableId) (segs : List Seg) (shape : Shape) (board pools : TableId) (n : ℕ) (passes : List PassState) (p : PassState)
    → ArePasses turns segs shape board pools n passes → IsFresh turns segs shape board pools n p → ArePasses turns segs shape board pools (n + 1) (passes ++ p ∷ [])
more_passes turns segs shape board pools n passes p are fresh = record {
  size = (let l = length-append passes (p ∷ []) in let z = are.size in omega (arith, l, z));
  each = λ i q there. elim (get_push passes p q i there) [
    | inl before ↦ are.each i q before
    | inr last ↦ (let place : i ≡ n = last.0 ∙ are.size in
        subst (λ (j : ℕ). IsFresh turns segs shape board pools j q) (sym place) (subst (IsFresh turns segs shape board pools n) last.1 fresh))
  ];
}

pub no_passes : (turns : List TableId) (segs : List Seg) (shape : Shape) (board pools : TableId) → ArePasses turns segs shape board pools 0 []
no_passes turns segs shape board pools = record { size = refl; each = λ i q there. absurd (let bad : None ≡ Some q = there in cc bad) }
