-- A seat after a step, as what it is seen as.
use Rattle.std.proofs.Common.{◌≡◌, ℕ, ◌+◌, ◌<◌, ◌≤◌, List, [], ◌∷◌, length, length-append, Option, Some, None, refl, sym, ap, ◌∙◌, subst, arith}
use Rattle.atomic_table.specs.declared.shared.Seat.{Seat}
use Rattle.cod_seats.proofs.Totals.{length-range}
use Rattle.cod_seats.specs.Least.{itself, least_of, lowest, IsLeast}
use Rattle.cod_seats.proofs.Least.{is_least, length_cut, one_least}
use Rattle.cod_board.specs.declared.kill.Kill.{Kill}
use Rattle.cod_board.specs.declared.view.View.{View}
use Rattle.cod_board.specs.Words.{first, after_down, after_kill, left_of, right_of, both_of}
use Rattle.cod_board.specs.Seats.{Seated}

abbrev S : Type 0
S = Seat (Unit {0}) View

abbrev seated : S → Seated
seated s = record { of = s.table_id; knows = s.me.0 }

-- it holds no slot, and has a number
abbrev Sits : S → Type 0
Sits s = (s.me.1 ≡ []) × (0 < length s.me.0.numbers)

pub changed : (f : View → View) (old new : S) (was : Seated) → seated old ≡ was → new.table_id ≡ old.table_id → new.me ≡ (f old.me.0, old.me.1)
    → seated new ≡ record { of = was.of; knows = f was.knows }
changed f old new was is same me = λ i. record { of = (same ∙ ap (λ (s : Seated). s.of) is) i; knows = (ap (λ m. m.0) me ∙ ap (λ (s : Seated). f s.knows) is) i }

pub still_sits : (w : View) (old new : S) → new.me ≡ (w, old.me.1) → 0 < length w.numbers → Sits old → Sits new
still_sits w old new me some sits = (ap (λ m. m.1) me ∙ sits.0, subst (λ m. 0 < length m.0.numbers) (sym me) some)

-- how many numbers a seat has
pub first_numbers : length first.numbers ≡ 65536
first_numbers = length-range 0 65536

pub down_numbers : (v : View) (node : ℕ) (o : Option Kill) → length (after_down v node o).numbers ≡ length v.numbers
down_numbers v node None = refl
down_numbers v node (Some kill) = refl

pub kill_numbers : (v : View) (node : ℕ) (kill : Kill) (o : Option Kill) → length (after_kill v node kill o).numbers ≡ length v.numbers
kill_numbers v node kill None = refl
kill_numbers v node kill (Some before) = refl

pub left_numbers : (v : View) → 2 ≤ length v.numbers → length (left_of v).numbers + 1 ≡ length v.numbers
left_numbers v two = let cut = length_cut itself v.numbers in let one = one_least itself v.numbers (omega arith) in omega arith

pub right_numbers : (v : View) → 2 ≤ length v.numbers → length (right_of v).numbers ≡ 1
right_numbers v two = one_least itself v.numbers (omega arith)

pub down_some : (v : View) (node : ℕ) (o : Option Kill) → 0 < length v.numbers → 0 < length (after_down v node o).numbers
down_some v node o some = let n = down_numbers v node o in omega arith

pub kill_some : (v : View) (node : ℕ) (kill : Kill) (o : Option Kill) → 0 < length v.numbers → 0 < length (after_kill v node kill o).numbers
kill_some v node kill o some = let n = kill_numbers v node kill o in omega arith

pub left_some : (v : View) → 2 ≤ length v.numbers → 0 < length (left_of v).numbers
left_some v two = let n = left_numbers v two in omega arith

pub right_some : (v : View) → 2 ≤ length v.numbers → 0 < length (right_of v).numbers
right_some v two = let n = right_numbers v two in omega arith

pub both_numbers : (v w : View) → length (both_of v w).numbers ≡ length v.numbers + length w.numbers
both_numbers v w = length-append v.numbers w.numbers

pub both_some : (v w : View) → 0 < length v.numbers → 0 < length (both_of v w).numbers
both_some v w some = let n = both_numbers v w in omega arith

-- the seat that was split off has the least number
pub has_least : (ns ms : List ℕ) → 2 ≤ length ns → ms ≡ least_of itself ns → (n : ℕ) × (ms ≡ n ∷ []) × IsLeast n ns
has_least [] ms two is = absurd (omega arith)
has_least (n ∷ ns) ms two is = (lowest itself n ns, is, is_least n ns)

-- of a seat that was seen so
pub numbers_left : (s t : Seated) → t ≡ record { of = s.of; knows = left_of s.knows } → 2 ≤ length s.knows.numbers → length t.knows.numbers + 1 ≡ length s.knows.numbers
numbers_left s t is two = ap (λ (u : Seated). length u.knows.numbers + 1) is ∙ left_numbers s.knows two

pub numbers_right : (s t : Seated) → t ≡ record { of = s.of; knows = right_of s.knows } → 2 ≤ length s.knows.numbers → length t.knows.numbers ≡ 1
numbers_right s t is two = ap (λ (u : Seated). length u.knows.numbers) is ∙ right_numbers s.knows two

pub numbers_both : (s t u : Seated) → u ≡ record { of = s.of; knows = both_of s.knows t.knows } → length u.knows.numbers ≡ length s.knows.numbers + length t.knows.numbers
numbers_both s t u is = ap (λ (w : Seated). length w.knows.numbers) is ∙ both_numbers s.knows t.knows
