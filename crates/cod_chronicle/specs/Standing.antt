-- What a value has beside its entries, and when one value follows another.
use Rattle.std.specs.Prelude.{◌≡◌, ◌≢◌, ℕ, Option, List, ◌++◌}
use Rattle.std.specs.List.{AllByRecursion}
use Rattle.cod_types.specs.declared.call.Call.{Call as Asked}
use Rattle.cod_chronicle.specs.declared.entry.Entry.{Entry}
use Rattle.cod_chronicle.specs.declared.entry.Entry.TheVariants.{Call}

-- what each caller has open: nothing, or a call with its number
abbrev pub OpenCalls : Type 0
OpenCalls = ℕ → Option (ℕ × Asked)

-- what one event of a caller may make of entries, gauge and open calls
abbrev pub EventRelation : Type 1
EventRelation = ℕ → List Entry → List ℕ → OpenCalls → List Entry → List ℕ → OpenCalls → Type 0

-- an entry is no call but this caller's
abbrev pub IsNoCallBut : ℕ → Entry → Type 0
IsNoCallBut who (Call caller number stamp call reply) = caller.0 ≡ who
IsNoCallBut who _ = Unit {0}

-- Values that have a name, entries, a gauge, open calls, and events.
module _ {T : Type 0} (name : T → List ℕ) (entries : T → List Entry) (gauge : T → List ℕ) (open_calls : T → OpenCalls) (event : EventRelation) where
  -- One event of this caller leads from the one value to the other: it keeps the name, adds entries behind those that were there,
  -- with no call of another caller among them, and leaves what other callers have open.
  pub record Follows (caller : ℕ) (old new : T) : Type 0 where
    pub name_stays : name new ≡ name old
    pub added : List Entry
    pub grown : entries new ≡ entries old ++ added
    pub calls : AllByRecursion (IsNoCallBut caller) added
    pub others : (other : ℕ) → other ≢ caller → open_calls new other ≡ open_calls old other
    pub happens : event caller (entries old) (gauge old) (open_calls old) (entries new) (gauge new) (open_calls new)
