-- A seat after a step, as what it is seen as.
use Rattle.std.proofs.Common.{◌≡◌, ℕ, ◌+◌, ◌<◌, ◌≤◌, List, [], ◌∷◌, length, length-append, Option, Some, None, sym, ap, ◌∙◌, subst, arith}
use Rattle.atomic_table.specs.declared.shared.Seat.{Seat}
use Rattle.atomic_table.specs.Seated.{TableId}
use Rattle.cod_seats.specs.Totals.{range}
use Rattle.cod_seats.specs.Least.{all_but_least}
use Rattle.cod_seats.proofs.Totals.{length-range}
use Rattle.cod_seats.proofs.Least.{length_cut, length_least, one_least}
use Rattle.cod_turn.specs.declared.view.View.{View}
use Rattle.cod_turn.specs.Seats.{Seated, carried}
use Rattle.cod_turn.specs.Turning.{firsts, all_at, callers, number, left_of, right_of, both_of}
use Rattle.cod_turn.proofs.Totals.{length-firsts, firsts-all_at}

abbrev S : Type 0 → Type 0
S T = Seat (Option T) (View T)

module _ {T : Type 0} where
  abbrev seated : S T → Seated T
  seated s = record { of = s.table_id; knows = s.me.0 }

  -- it holds the slot just where it holds the turn, and has a number
  abbrev Sits : S T → Type 0
  Sits s = (s.me.1 ≡ carried s.me.0.hold) × (0 < length s.me.0.own)

  pub board : (old : S T) (was : Seated T) (of inside : TableId) → seated old ≡ was → was.of ≡ of → inside ≡ of → old.table_id ≡ inside
  board old was of inside is same turn = ap (λ (s : Seated T). s.of) is ∙ (same ∙ sym turn)

  pub idle : (old : S T) (was : Seated T) → seated old ≡ was → was.knows.hold ≡ None → old.me.0.hold ≡ None
  idle old was is none = ap (λ (s : Seated T). s.knows.hold) is ∙ none

  pub bare : (old : S T) → Sits old → old.me.0.hold ≡ None → old.me.1 ≡ []
  bare old sits none = sits.0 ∙ ap carried none

  pub in_hand : (old : S T) (x : T) → Sits old → old.me.0.hold ≡ Some x → old.me.1 ≡ (0, None) ∷ []
  in_hand old x sits has = sits.0 ∙ ap carried has

  pub changed : (f : View T → View T) (old new : S T) (was : Seated T) → seated old ≡ was → new.table_id ≡ old.table_id → new.me.0 ≡ f old.me.0
      → seated new ≡ record { of = was.of; knows = f was.knows }
  changed f old new was is same me = λ i. record { of = (same ∙ ap (λ (s : Seated T). s.of) is) i; knows = (me ∙ ap (λ (s : Seated T). f s.knows) is) i }

  -- a seat that changes in its numbers alone, and holds nothing
  pub still_sits : (w : View T) (new : S T) → new.me ≡ (w, []) → w.hold ≡ None → 0 < length w.own → Sits new
  still_sits w new me none some = (ap (λ m. m.1) me ∙ sym (ap (λ m. carried m.0.hold) me ∙ ap carried none), subst (λ m. 0 < length m.0.own) (sym me) some)

  -- a seat with a value in hand
  pub holds_it : (w : View T) (x : T) (new : S T) → new.me ≡ (w, (0, None) ∷ []) → w.hold ≡ Some x → 0 < length w.own → Sits new
  holds_it w x new me has some = (ap (λ m. m.1) me ∙ sym (ap (λ m. carried m.0.hold) me ∙ ap carried has), subst (λ m. 0 < length m.0.own) (sym me) some)

  pub left_some : (v : View T) → 2 ≤ length v.own → 0 < length (left_of v).own
  left_some v two = let cut = length_cut number v.own in let one = length_least number v.own in omega arith

  pub right_some : (v : View T) → 2 ≤ length v.own → 0 < length (right_of v).own
  right_some v two = let one = one_least number v.own (omega arith) in omega arith

  pub both_some : (v w : View T) → 0 < length v.own → 0 < length (both_of v w).own
  both_some v w some = let sum = length-append v.own w.own in omega arith

  pub two_own : (old : S T) (was : Seated T) → seated old ≡ was → 2 ≤ length (callers was.knows) → 2 ≤ length old.me.0.own
  two_own old was is two = let n = length-firsts old.me.0.own in subst (λ (s : Seated T). 2 ≤ length (callers s.knows) → 2 ≤ length old.me.0.own) is (λ many. omega arith) two

  -- how many callers a seat has
  pub first_callers : (x : T) (v : View T) → v.own ≡ all_at x (range 0 65536) → length (callers v) ≡ 65536
  first_callers x v is = ap (λ (ps : List (ℕ × T)). length (firsts ps)) is ∙ (ap length (firsts-all_at x (range 0 65536)) ∙ length-range 0 65536)

  pub left_callers : (s t : Seated T) → t ≡ record { of = s.of; knows = left_of s.knows } → 2 ≤ length (callers s.knows) → length (callers t.knows) + 1 ≡ length (callers s.knows)
  left_callers s t is two =
      let here = ap (λ (u : Seated T). length (callers u.knows)) is in
      let cut = length_cut number s.knows.own in
      let a = length-firsts s.knows.own in
      let b = length-firsts (all_but_least number s.knows.own) in
      let one = one_least number s.knows.own (omega arith) in
      omega arith
