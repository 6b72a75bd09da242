-- What a seat of a turn knows, the rule of the turn, and what its steps do.
use Rattle.std.specs.Prelude.{◌≡◌, ℕ, ◌-◌, ◌<◌, ◌≤◌, List, [], ◌∷◌, ◌++◌, length, Option, Some, None}
use mathlib.Core.Option as maybe
use mathlib.Core.List.{IsPrefix}
use lib.ListN.{get_elem?}
use Rattle.atomic_table.specs.Table.{State, Me, Step}
use Rattle.cod_chronicle.specs.declared.entry.Entry.{Entry}
use Rattle.cod_chronicle.specs.Said.{calls_by}
use Rattle.cod_chronicle.specs.Standing.{EventRelation, Follows, OpenCalls}
use Rattle.cod_seats.specs.Totals.{times, total, once_below, range}
use Rattle.cod_seats.specs.Least.{least_of, all_but_least}
use Rattle.cod_turn.specs.declared.view.View.{View}

module _ {T : Type 0} where
  -- each caller, with the value x
  abbrev pub all_at : T → List ℕ → List (ℕ × T)
  all_at x [] = []
  all_at x (c ∷ cs) = (c, x) ∷ all_at x cs

  abbrev pub number : ℕ × T → ℕ
  number p = p.0

  abbrev pub firsts : List (ℕ × T) → List ℕ
  firsts [] = []
  firsts (p ∷ ps) = p.0 ∷ firsts ps

  -- the callers' numbers that the seat stands for
  abbrev pub callers : View T → List ℕ
  callers v = firsts v.own

  abbrev pub holding : Option T → ℕ
  holding None = 0
  holding (Some x) = 1

  abbrev pub nobody : View T
  nobody = record { own = []; name = []; places = []; hold = None }

  -- a seat from which another was split off
  abbrev pub left_of : View T → View T
  left_of v = record { own = all_but_least number v.own; name = v.name; places = v.places; hold = v.hold }

  -- the seat that was split off: it has the least number, and has added nothing
  abbrev pub right_of : View T → View T
  right_of v = record { own = least_of number v.own; name = v.name; places = []; hold = None }

  -- a seat that another was joined to
  abbrev pub both_of : View T → View T → View T
  both_of v w = record { own = v.own ++ w.own; name = v.name; places = v.places ++ w.places; hold = v.hold }

  -- the seat with another value in hand, or with none
  abbrev pub held_by : View T → Option T → View T
  held_by v h = record { own = v.own; name = v.name; places = v.places; hold = h }

-- A type of values, seen as `Stands` has them
module _ {T : Type 0} (name : T → List ℕ) (log : T → List Entry) (opened : T → OpenCalls) where
  -- the list now begins with that of the value beside each of these callers, and the caller has the same calls in it, and the same call open
  abbrev pub Stays : T → List (ℕ × T) → Type 0
  Stays now [] = Unit {0}
  Stays now (p ∷ ps) = IsPrefix (log p.1) (log now) × (calls_by p.0 (log now) ≡ calls_by p.0 (log p.1)) × (opened now p.0 ≡ opened p.1 p.0) × Stays now ps

  -- what a seat knows of the value
  pub record Fits (now : T) (v : View T) : Type 0 where
    pub named : 0 < length v.own → v.name ≡ name now
    pub stays : Stays now v.own
    pub holds : (x : T) → v.hold ≡ Some x → x ≡ now
    pub spent : v.own ≡ [] → (v.places ≡ []) × (v.hold ≡ None)

  -- The first word is 1 where one seat holds the value, and else 0. The second is the length of the list
  pub record Kept (s : State (Option T) (View T)) : Type 0 where
    pub now : T
    pub turn : ℕ
    pub words : s.words ≡ turn ∷ length (log now) ∷ []
    pub one : total (λ (v : View T). holding v.hold) s.views ≡ turn
    pub most : turn ≤ 1
    pub home : turn ≡ 0 → s.homes ≡ maybe.some (Some now) ∷ []
    pub away : turn ≡ 1 → s.homes ≡ maybe.none ∷ []
    pub each : (j : ℕ) (v : View T) → get_elem? s.views j ≡ maybe.some v → Fits now v
    pub apart : (c : ℕ) → total (λ (v : View T). times c (callers v)) s.views ≤ 1
    pub count : total (λ (v : View T). length v.own) s.views ≡ 65536
    pub places : (p : ℕ) → total (λ (v : View T). times p v.places) s.views ≡ once_below p (length (log now))

  -- the first seat's view
  abbrev pub starting : T → View T
  starting x = record { own = all_at x (range 0 65536); name = name x; places = range 0 (length (log x)); hold = None }

  -- the view after the value y was given for x
  abbrev pub published : View T → T → T → View T
  published v x y = record {
    own = all_at y (callers v);
    name = v.name;
    places = v.places ++ range (length (log x)) (length (log y) - length (log x));
    hold = Some y;
  }

  -- the same, and the turn is given up
  abbrev pub given : View T → T → T → View T
  given v x y = held_by (published v x y) None

  -- what the taken value is to the seat
  abbrev pub Meets : View T → T → Type 0
  Meets v x = (name x ≡ v.name) × Stays x v.own

  -- the list is at least as long as each that was seen
  abbrev pub AreWithin : ℕ → List (ℕ × T) → Type 0
  AreWithin n [] = Unit {0}
  AreWithin n (p ∷ ps) = (length (log p.1) ≤ n) × AreWithin n ps

  -- a look at the count: it is the length of the list in hand, and no less than what was seen
  abbrev pub counted : Me (Option T) (View T) → ℕ → Me (Option T) (View T) → Type 0
  counted m found m' = (m' ≡ m) × ((x : T) → m.0.hold ≡ Some x → found ≡ length (log x)) × AreWithin found m.0.own

  abbrev pub took : Step (Option T) → Me (Option T) (View T) → ℕ → Me (Option T) (View T) → Type 0
  took s m found m' = (found ≡ 0 → (x : T) × (m' ≡ (held_by m.0 (Some x), (0, Some x) ∷ [])) × Meets m.0 x) × ((found ≡ 0 → ⊥) → m' ≡ m)

  abbrev pub put_out : Me (Option T) (View T) → Me (Option T) (View T) → Type 0
  put_out m m' = (x y : T) → m.0.hold ≡ Some x → m.1 ≡ (0, Some y) ∷ [] → m' ≡ (published m.0 x y, m.1)

  abbrev pub let_go : Me (Option T) (View T) → Me (Option T) (View T) → Type 0
  let_go m m' = m' ≡ (held_by m.0 None, [])

-- Values that stand for a chronicle, as `Stands` has them
module _ {T : Type 0} (name : T → List ℕ) (log : T → List Entry) (gauge : T → List ℕ) (opened : T → OpenCalls) (event : EventRelation) where
  -- The value y follows x by one event of a caller among these
  pub record FollowsByOne (cs : List ℕ) (x y : T) : Type 0 where
    pub by : ℕ
    pub mine : 0 < times by cs
    pub step : Follows name log gauge opened event by x y
