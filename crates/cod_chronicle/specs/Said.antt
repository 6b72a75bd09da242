-- What a chronicle says: its stamps, which columns are down, where they are, and the bytes.
use Rattle.std.specs.Prelude.{◌≡◌, ◌⊎◌, ℕ, ◌+◌, ◌-◌, ◌<◌, ◌^◌, ◌==◌, nat_lt, min, max, if◌then◌else◌, Bool, true, false, Option, Some, None, is_some, List}
use Rattle.std.specs.Prelude.{[], ◌∷◌, length, All}
use Rattle.std.specs.List.{fold, filter, filter_map, list_any, range_with_len, AllPairs}
use Rattle.cod_types.specs.Limits.{Shape}
use Rattle.cod_types.specs.Columns.{home_of}
use Rattle.cod_types.specs.Plain.{plain_next, zeros}
use Rattle.cod_types.specs.declared.call.Reply.{Reply}
use Rattle.cod_types.specs.declared.call.Reply.TheVariants.{Range, Long, Lost}
use Rattle.cod_chronicle.specs.declared.entry.Entry.{Entry}
use Rattle.cod_chronicle.specs.declared.entry.Entry.TheVariants.{Call, Down, Up, Move}
use Rattle.cod_chronicle.specs.declared.entry.Cause.{Cause}
use Rattle.cod_chronicle.specs.declared.entry.Cause.TheVariants.{Killed, Fault}

-- A segment's place: its geometry, its number, how many nodes there are, and whether its regions tell what they hold.
pub record Site : Type 0 where
  pub shape : Shape
  pub segment : ℕ
  pub nodes : ℕ
  pub told : Bool

abbrev pub site_as : (told : Bool) (g : Shape) (nodes segment : ℕ) → Site
site_as told g nodes s = record { shape = g; segment = s; nodes = nodes; told = told }

abbrev pub stamp_of : Entry → ℕ
stamp_of (Call caller number stamp call reply) = stamp
stamp_of (Down stamp col node cause) = stamp
stamp_of (Up stamp col node) = stamp
stamp_of (Move stamp col node) = stamp

-- the last stamp, or 0
abbrev pub clock_of : List Entry → ℕ
clock_of h = fold (λ t e. stamp_of e) 0 h

-- the greatest stamp there is
abbrev pub last_stamp : ℕ
last_stamp = 2 ^ 64 - 1

-- The stamp that an entry gets where the segment's clock and its caller's are these: one more than the greater of them, up to
-- the greatest there is.
abbrev pub next_stamp : (segment caller : ℕ) → ℕ
next_stamp segment caller = min (max segment caller + 1) last_stamp

-- a stamp may stand ahead of another: it is smaller, or both are the greatest
abbrev pub Precedes : ℕ → ℕ → Type 0
Precedes s t = (s < t) ⊎ ((s ≡ last_stamp) × (t ≡ last_stamp))

-- a stamp may stand behind these entries
abbrev pub StampFollows : List Entry → ℕ → Type 0
StampFollows [] t = Unit {0}
StampFollows (e ∷ h) t = Precedes (clock_of (e ∷ h)) t

-- each stamp stands after the one before it, the first of them t
abbrev pub RisesFrom : ℕ → List Entry → Type 0
RisesFrom t [] = Unit {0}
RisesFrom t (e ∷ h) = Precedes t (stamp_of e) × RisesFrom (stamp_of e) h

-- each stamp stands after the one before it
abbrev pub StampsRise : List Entry → Type 0
StampsRise [] = Unit {0}
StampsRise (e ∷ h) = RisesFrom (stamp_of e) h

-- the number of a caller's call
abbrev pub number_by : ℕ → Entry → Option ℕ
number_by who (Call caller number stamp call reply) = if caller.0 == who then Some number else None
number_by who _ = None

-- the numbers of a caller's calls, in order
abbrev pub numbers_by : ℕ → List Entry → List ℕ
numbers_by who h = filter_map (number_by who) h

-- whether an entry is a call of this caller
abbrev pub is_call_by : ℕ → Entry → Bool
is_call_by who e = is_some (number_by who e)

-- a caller's calls, in order
abbrev pub calls_by : ℕ → List Entry → List Entry
calls_by who h = filter (is_call_by who) h

-- how many calls an entry is
abbrev pub counts : Entry → ℕ
counts (Call caller number stamp call reply) = 1
counts _ = 0

-- how many calls there are
unfoldable pub call_count : List Entry → ℕ
call_count [] = 0
call_count (e ∷ h) = counts e + call_count h

-- a call's number is greater than all that its caller has in these entries
abbrev pub NumberFollows : List Entry → Entry → Type 0
NumberFollows h (Call caller number stamp call reply) = All (λ m. m < number) (numbers_by caller.0 h)
NumberFollows h _ = Unit {0}

-- a chronicle: the stamps rise, and so do the numbers of each caller
pub record IsChronicle (h : List Entry) : Type 0 where
  pub stamps : StampsRise h
  pub numbers : (who : ℕ) → AllPairs (λ m n. m < n) (numbers_by who h)

-- whether column i is down after one more entry
abbrev pub down_next : ℕ → Bool → Entry → Bool
down_next i d (Down stamp col node cause) = if col == i then true else d
down_next i d (Up stamp col node) = if col == i then false else d
down_next i d _ = d

-- column i has a Down and no later Up
abbrev pub is_down : List Entry → ℕ → Bool
is_down h i = fold (λ d e. down_next i d e) false h

-- the columns that are down
abbrev pub downs : Site → List Entry → List ℕ
downs site h = filter (λ i. is_down h i) (range_with_len 0 site.shape.n)

-- more are down than the parity columns can stand for
abbrev pub is_over : Site → List Entry → Bool
is_over site h = nat_lt (site.shape.n - site.shape.k) (length (downs site h))

-- the node of column i after one more entry
abbrev pub node_next : ℕ → ℕ → Entry → ℕ
node_next i x (Up stamp col node) = if col == i then node.0 else x
node_next i x (Move stamp col node) = if col == i then node.0 else x
node_next i x _ = x

-- the node of column i's last Up or Move, else its home
abbrev pub node_of : Site → List Entry → ℕ → ℕ
node_of site h i = fold (λ x e. node_next i x e) (home_of site.segment i site.nodes) h

-- a column, live or down, is on node x
abbrev pub is_taken : Site → List Entry → ℕ → Bool
is_taken site h x = list_any (λ i. node_of site h i == x) (range_with_len 0 site.shape.n)

-- the count of faults in a cause
abbrev pub fault_by : Cause → Option ℕ
fault_by (Killed line) = None
fault_by (Fault count) = Some count

-- the count of faults for which column i is down, after one more entry
abbrev pub fault_next : ℕ → Option ℕ → Entry → Option ℕ
fault_next i f (Down stamp col node cause) = if col == i then fault_by cause else f
fault_next i f (Up stamp col node) = if col == i then None else f
fault_next i f _ = f

-- The count of faults for which column i is down; none where it is live, or was killed.
abbrev pub fault_of : List Entry → ℕ → Option ℕ
fault_of h i = fold (λ f e. fault_next i f e) None h

-- a call with this reply did nothing
abbrev pub is_refused : Reply → Bool
is_refused Range = true
is_refused Long = true
is_refused Lost = true
is_refused _ = false

-- the bytes after one more entry
abbrev pub bytes_next : List ℕ → Entry → List ℕ
bytes_next b (Call caller number stamp call reply) = if is_refused reply then b else plain_next b call
bytes_next b _ = b

-- the bytes that the calls leave, from zeros on
abbrev pub bytes_of : Site → List Entry → List ℕ
bytes_of site h = fold (λ b e. bytes_next b e) (zeros site.shape) h
