-- What is left of chronicles that are walked at once, and which of them begins with the least stamp.
use Rattle.std.specs.Prelude.{◌≡◌, ℕ, ◌*◌, ◌+◌, ◌<◌, ◌≤◌, nat_lt, Bool, true, false, Option, Some, None, List, [], ◌∷◌, map, slice_get, slice_index}
use Rattle.std.specs.Prelude.{slice_index_or, slice_set}
use Rattle.cod_chronicle.specs.declared.entry.Entry.{Entry}
use Rattle.cod_chronicle.specs.Said.{stamp_of}

-- the first entry that is left, and those behind it
pub record Rest : Type 0 where
  pub first : Entry
  pub behind : List Entry

abbrev pub entries_left : Option Rest → List Entry
entries_left None = []
entries_left (Some r) = r.first ∷ r.behind

abbrev pub lists_of : List (Option Rest) → List (List Entry)
lists_of rests = map entries_left rests

abbrev pub first_stamp : Option Rest → Option ℕ
first_stamp None = None
first_stamp (Some r) = Some (stamp_of r.first)

-- the first of two stamps is smaller than the second; none stands behind all
abbrev pub is_sooner : Option ℕ → Option ℕ → Bool
is_sooner None t = false
is_sooner (Some s) None = true
is_sooner (Some s) (Some t) = nat_lt s t

-- the stamp with which rest i begins
abbrev pub stamp_left : List (Option Rest) → ℕ → Option ℕ
stamp_left rests i = first_stamp (slice_index_or rests i None)

-- of the rests from one number up to another, w is the first that begins with the least stamp
pub record IsSoonest (rests : List (Option Rest)) (w from to : ℕ) : Type 0 where
  pub low : from ≤ w
  pub high : w < to
  pub before : (i : ℕ) → from ≤ i → i < w → is_sooner (stamp_left rests w) (stamp_left rests i) ≡ true
  pub all : (i : ℕ) → from ≤ i → i < to → is_sooner (stamp_left rests i) (stamp_left rests w) ≡ false

-- of each group of 32 rests, the first that begins with the least stamp is known
abbrev pub AreSoonest : List (Option Rest) → List ℕ → Type 0
AreSoonest rests soonest = (g : ℕ) → g < 32 → IsSoonest rests (slice_index soonest g) (g * 32) (g * 32 + 32)

-- entry e is the first of rest i, and is gone from there
pub record TakesFirst (old new : List (Option Rest)) (i : ℕ) (e : Entry) : Type 0 where
  pub behind : List Entry
  pub left : Option Rest
  pub was : slice_get old i ≡ Some (Some (record { first = e; behind = behind }))
  pub left_is : entries_left left ≡ behind
  pub are : new ≡ slice_set old i left
