-- The words of a shared board, what its seats know, and what the steps tell.
use Rattle.std.specs.Prelude.{◌≡◌, ℕ, ◌+◌, ◌*◌, ◌/◌, ◌%◌, ◌<◌, ◌≤◌, eqb, List, [], ◌∷◌, ◌++◌, length, slice_index, cond, Option, Some, None, IsSome}
use mathlib.Core.Option as maybe
use lib.ListN.{get_elem?}
use Rattle.atomic_table.specs.Table.{State, Me, Step}
use Rattle.cod_seats.specs.Totals.{total, range, Has}
use Rattle.cod_seats.specs.Least.{itself, least_of, all_but_least}
use Rattle.cod_board.specs.declared.kill.Kill.{Kill}
use Rattle.cod_board.specs.declared.view.View.{View}

-- the word of a node that was killed at this line, with this clock
abbrev pub word_of : Kill → ℕ
word_of kill = kill.line * 4294967296 + kill.clock

abbrev pub kill_in : ℕ → Kill
kill_in word = record { line = word / 4294967296; clock = word % 4294967296 }

-- the kill in a word, if there is one
abbrev pub in_word : ℕ → Option Kill
in_word word = cond (eqb word 0) None (Some (kill_in word))

-- the kill that was seen of a node, if one was: the first
abbrev pub known : ℕ → List (ℕ × Kill) → Option Kill
known node [] = None
known node (x ∷ xs) = cond (eqb x.0 node) (Some x.1) (known node xs)

-- these are nodes with the kills in their words
abbrev pub AreWords : List ℕ → List (ℕ × Kill) → Type 0
AreWords words [] = Unit {0}
AreWords words (x ∷ xs) = (in_word (slice_index words x.0) ≡ Some x.1) × AreWords words xs

-- Each kill that was seen is the one in the word. A word other than 0 has a line of at least 1, and its kill is one that some seat made.
pub record Kept (nodes : ℕ) (s : State (Unit {0}) View) : Type 0 where
  pub wide : length s.words ≡ nodes
  pub seen : (j : ℕ) (v : View) → get_elem? s.views j ≡ maybe.some v → AreWords s.words v.seen
  pub spent : (j : ℕ) (v : View) → get_elem? s.views j ≡ maybe.some v → v.numbers ≡ [] → v.made ≡ []
  pub lined : (i : ℕ) → 0 < slice_index s.words i → 4294967296 ≤ slice_index s.words i
  pub made : (i : ℕ) (kill : Kill) → in_word (slice_index s.words i) ≡ Some kill → (j : ℕ) × (v : View) × (get_elem? s.views j ≡ maybe.some v)
      × Has (i, kill) v.made
  pub count : total (λ (v : View). length v.numbers) s.views ≡ 65536

-- the first seat has all callers' numbers
abbrev pub first : View
first = record { seen = []; made = []; numbers = range 0 65536; looks = [] }

abbrev pub nobody : View
nobody = record { seen = []; made = []; numbers = []; looks = [] }

-- a seat from which another was split off
abbrev pub left_of : View → View
left_of v = record { seen = v.seen; made = v.made; numbers = all_but_least itself v.numbers; looks = v.looks }

-- the seat that was split off: it knows the same kills, and has the least number
abbrev pub right_of : View → View
right_of v = record { seen = v.seen; made = []; numbers = least_of itself v.numbers; looks = [] }

-- a seat that another was joined to
abbrev pub both_of : View → View → View
both_of v w = record { seen = v.seen ++ w.seen; made = v.made ++ w.made; numbers = v.numbers ++ w.numbers; looks = v.looks }

-- after a node was found up, or found killed
abbrev pub after_down : View → ℕ → Option Kill → View
after_down v node None = record { seen = v.seen; made = v.made; numbers = v.numbers; looks = v.looks ++ node ∷ [] }
after_down v node (Some kill) = record { seen = v.seen ++ (node, kill) ∷ []; made = v.made; numbers = v.numbers; looks = v.looks }

-- after a kill of a node that was up, or that had been killed before
abbrev pub after_kill : View → ℕ → Kill → Option Kill → View
after_kill v node kill None = record { seen = v.seen ++ (node, kill) ∷ []; made = v.made ++ (node, kill) ∷ []; numbers = v.numbers; looks = v.looks }
after_kill v node kill (Some before) = record { seen = v.seen ++ (node, before) ∷ []; made = v.made; numbers = v.numbers; looks = v.looks }

-- what was found is what was known, where anything was, and has a line
abbrev pub Agrees : View → ℕ → ℕ → Type 0
Agrees v node found = (0 < found → 4294967296 ≤ found) × (IsSome (known node v.seen) → in_word found ≡ known node v.seen)

abbrev pub Looked : Step (Unit {0}) → Me (Unit {0}) View → ℕ → Me (Unit {0}) View → Type 0
Looked s m found w = (w ≡ (after_down m.0 s.word (in_word found), m.1)) × Agrees m.0 s.word found

abbrev pub Killed : Step (Unit {0}) → Me (Unit {0}) View → ℕ → Me (Unit {0}) View → Type 0
Killed s m found w = (w ≡ (after_kill m.0 s.word (kill_in s.second) (in_word found), m.1)) × Agrees m.0 s.word found
