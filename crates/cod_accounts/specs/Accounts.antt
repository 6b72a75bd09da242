-- What a pass can say of each entry that it added.
use Rattle.std.specs.Prelude.{◌≡◌, ◌⊎◌, ℕ, ◌+◌, ◌<◌, ◌≤◌, Bool, IsTrue, Some, List, ◌∷◌, ◌++◌, length}
use Rattle.cod_chronicle.specs.declared.entry.Entry.{Entry}
use Rattle.cod_chronicle.specs.declared.entry.Entry.TheVariants.{Call, Down, Up, Move}
use Rattle.cod_chronicle.specs.declared.entry.Cause.TheVariants.{Killed, Fault}
use Rattle.cod_chronicle.specs.Event.{NodeKill, Kills, IsSeenReply}
use Rattle.cod_chronicle.specs.Said.{stamp_of, last_stamp}
use Rattle.cod_seats.specs.Totals.{times}

-- one of these entries has the stamp
abbrev pub StampIn : List Entry → ℕ → Type 0
StampIn h u = (before : List Entry) × (e : Entry) × (after : List Entry) × (h ≡ before ++ e ∷ after) × (stamp_of e ≡ u)

-- a clock comes from the clock t that the pass began with, from these entries, or from a kill
abbrev pub Comes : (kills : Kills) (t : ℕ) (before : List Entry) → ℕ → Type 0
Comes kills t before u = (u ≡ t) ⊎ (((u ≡ 0) ⊎ StampIn before u) ⊎ ((x : ℕ) × (k : NodeKill) × (kills x ≡ Some k) × (k.clock ≡ u)))

-- a stamp is one more than such a clock, or it is the last there is
abbrev pub Springs : (kills : Kills) (t : ℕ) (before : List Entry) → ℕ → Type 0
Springs kills t before stamp = (stamp ≡ last_stamp) ⊎ ((u : ℕ) × (stamp ≡ u + 1) × Comes kills t before u)

-- A call is the pass's own. A mark has its cause, and stands after the kill that is its cause, or its stamp is the last there is. Each
-- reason for no spare was seen.
abbrev pub HasCause : (who : ℕ) (kills : Kills) (may : ℕ → Bool) → Entry → Type 0
HasCause who kills may (Call caller number stamp call reply) = (caller.0 ≡ who) × IsSeenReply kills may reply
HasCause who kills may (Down stamp col node (Killed line)) =
    (k : NodeKill) × (kills node.0 ≡ Some k) × (k.line ≡ line) × ((k.clock < stamp) ⊎ (stamp ≡ last_stamp))
HasCause who kills may (Down stamp col node (Fault count)) = (1 ≤ count) × IsTrue (may node.0)
HasCause who kills may (Up stamp col node) = Unit {0}
HasCause who kills may (Move stamp col node) = Unit {0}

-- The account of an entry behind these, by a caller whose pass knew these kills, and whose clock was t when the entry's call began.
pub record Account (who : ℕ) (kills : Kills) (may : ℕ → Bool) (t : ℕ) (before : List Entry) (e : Entry) : Type 0 where
  pub cause : HasCause who kills may e
  pub springs : Springs kills t before (stamp_of e)

-- the entry at a place
pub record At (h : List Entry) (p : ℕ) (G : List Entry → Entry → Type 0) : Type 0 where
  pub before : List Entry
  pub entry : Entry
  pub after : List Entry
  pub are : h ≡ before ++ entry ∷ after
  pub place : length before ≡ p
  pub good : G before entry

-- all entries at places that were added since
abbrev pub Accounts : (G : List Entry → Entry → Type 0) (h : List Entry) (was is : List ℕ) → Type 0
Accounts G h was is = (p : ℕ) → 0 < times p is → (0 < times p was) ⊎ At h p G

-- more kills are known
abbrev pub Knows : Kills → Kills → Type 0
Knows kills more = (x : ℕ) (k : NodeKill) → kills x ≡ Some k → more x ≡ Some k
