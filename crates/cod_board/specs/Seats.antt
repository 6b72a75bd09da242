-- Seats of a shared board, and what a board tells when it is closed.
use Rattle.std.specs.Prelude.{◌≡◌, ℕ, List, [], ◌++◌, length, map, Option, Some}
use Rattle.std.specs.List.{range_with_len}
use Rattle.std.proofs.Common.{refl, sym, ap, ◌∙◌, append-nil, append_assoc}
use mathlib.Core.List.{IsPrefix}
use Rattle.atomic_table.specs.Seated.{TableId}
use Rattle.cod_seats.specs.Totals.{Has}
use Rattle.cod_board.specs.declared.kill.Kill.{Kill}
use Rattle.cod_board.specs.declared.view.View.{View}
use Rattle.cod_board.specs.Kills.{kill_of}
use Rattle.cod_board.specs.Words.{known}

-- a seat: of which board it is, and what it knows
pub record Seated : Type 0 where
  pub of : TableId
  pub knows : View

-- what was seen of each of so many nodes
abbrev pub kills_in : ℕ → List (ℕ × Kill) → List (Option Kill)
kills_in nodes seen = map (λ node. known node seen) (range_with_len 0 nodes)

-- a seat after calls of `down` alone: it has the same numbers and made the same kills, and has seen and looked at as much or more
pub record Asked (s t : Seated) : Type 0 where
  pub of : t.of ≡ s.of
  pub seen : IsPrefix s.knows.seen t.knows.seen
  pub made : t.knows.made ≡ s.knows.made
  pub numbers : t.knows.numbers ≡ s.knows.numbers
  pub looks : IsPrefix s.knows.looks t.knows.looks

pub asked_self_lem : (s : Seated) → Asked s s
asked_self_lem s = record { of = refl; seen = ([], append-nil s.knows.seen); made = refl; numbers = refl; looks = ([], append-nil s.knows.looks) }

later : {A : Type 0} (xs ys zs : List A) → IsPrefix xs ys → IsPrefix ys zs → IsPrefix xs zs
later xs ys zs p q = (p.0 ++ q.0, sym (append_assoc xs p.0 q.0) ∙ (ap (λ w. w ++ q.0) p.1 ∙ q.1))

pub asked_later_lem : (a b c : Seated) → Asked a b → Asked b c → Asked a c
asked_later_lem a b c p q = record {
  of = q.of ∙ p.of;
  seen = later a.knows.seen b.knows.seen c.knows.seen p.seen q.seen;
  made = q.made ∙ p.made;
  numbers = q.numbers ∙ p.numbers;
  looks = later a.knows.looks b.knows.looks c.knows.looks p.looks q.looks;
}

-- A board that was closed has each kill that the seat has seen, and each of its kills is one that the seat made.
pub record IsClosed (nodes : ℕ) (v : View) (kills : List (Option Kill)) : Type 0 where
  pub size : length kills ≡ nodes
  pub seen : (node : ℕ) (kill : Kill) → Has (node, kill) v.seen → kill_of kills node ≡ Some kill
  pub made : (node : ℕ) (kill : Kill) → kill_of kills node ≡ Some kill → Has (node, kill) v.made
