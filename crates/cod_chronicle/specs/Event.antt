-- What one event adds to a segment's chronicle.
use Rattle.std.specs.Prelude.{◌≡◌, ℕ, ◌<◌, ◌≤◌, max, IsTrue, IsSome, Bool, true, false, Option, Some, None, List, [], ◌∷◌, ◌++◌, All}
use Rattle.cod_types.specs.declared.call.Call.{Call as Asked}
use Rattle.cod_types.specs.declared.call.Reply.{Reply}
use Rattle.cod_types.specs.declared.call.Reply.TheVariants.{NoSpare}
use Rattle.cod_types.specs.declared.reasons.Why.{Why}
use Rattle.cod_types.specs.declared.reasons.Why.TheVariants as why
use Rattle.cod_chronicle.specs.declared.entry.Entry.{Entry}
use Rattle.cod_chronicle.specs.declared.entry.Entry.TheVariants.{Call, Down, Up, Move}
use Rattle.cod_chronicle.specs.declared.entry.Cause.{Cause}
use Rattle.cod_chronicle.specs.declared.entry.Cause.TheVariants.{Killed, Fault}
use Rattle.cod_chronicle.specs.Said.{Site, stamp_of, clock_of, next_stamp, is_down, node_of}
use Rattle.cod_chronicle.specs.Legal.{LegalAfter}

-- a node was killed: the line that did it, and its client's clock
pub record NodeKill : Type 0 where
  pub line : ℕ
  pub clock : ℕ

-- the kill of each node that was killed
abbrev pub Kills : Type 0
Kills = ℕ → Option NodeKill

-- the clock of a kill, or 0
abbrev pub clock_at : Option NodeKill → ℕ
clock_at None = 0
clock_at (Some k) = k.clock

-- the caller's clock ahead of an entry: at a mark of a killed node at least that of the kill
abbrev pub raised : Kills → ℕ → Entry → ℕ
raised kills t (Down stamp col node (Killed line)) = max t (clock_at (kills node.0))
raised kills t _ = t

-- each stamp is the next after the segment's and the caller's clock, and becomes both
abbrev pub Stamped : Kills → (segment caller : ℕ) → List Entry → ℕ → Type 0
Stamped kills s t [] after = after ≡ t
Stamped kills s t (e ∷ es) after = (stamp_of e ≡ next_stamp s (raised kills t e)) × Stamped kills (stamp_of e) (stamp_of e) es after

-- the node was killed by this line
abbrev pub IsKilledBy : Kills → ℕ → ℕ → Type 0
IsKilledBy kills x line = (k : NodeKill) × (kills x ≡ Some k) × (k.line ≡ line)

-- a mark's cause: the node was killed, or a region on a node where the shelf may fail has failed
abbrev pub IsSeenCause : Kills → (ℕ → Bool) → ℕ → Cause → Type 0
IsSeenCause kills may x (Killed line) = IsKilledBy kills x line
IsSeenCause kills may x (Fault count) = (1 ≤ count) × IsTrue (may x)

-- a reason for no spare: the node was killed, it had too few bytes, or a region there has failed
abbrev pub IsSeenWhy : Kills → (ℕ → Bool) → ℕ → Why → Type 0
IsSeenWhy kills may x (why.Down line) = IsKilledBy kills x line
IsSeenWhy kills may x (why.Free bytes) = Unit {0}
IsSeenWhy kills may x (why.Fault count) = (1 ≤ count) × IsTrue (may x)

-- each reason for no spare was seen
abbrev pub IsSeenReply : Kills → (ℕ → Bool) → Reply → Type 0
IsSeenReply kills may (NoSpare reasons) = All (λ r. IsSeenWhy kills may r.node.0 r.why) reasons
IsSeenReply kills may _ = Unit {0}

-- a call that is to be answered
pub record Request : Type 0 where
  pub caller : ℕ
  pub number : ℕ
  pub call : Asked

-- each column whose node was killed is down
abbrev pub IsSwept : Kills → Site → List Entry → Type 0
IsSwept kills site h = (i : ℕ) → i < site.shape.n → IsSome (kills (node_of site h i)) → is_down h i ≡ true

-- How an event goes: `known` are the kills that the event's board knew beforehand, `seen` those that it knows afterwards, and
-- `may` says on which nodes a region may fail.
pub record Setting : Type 0 where
  pub site : Site
  pub known : Kills
  pub seen : Kills
  pub may : ℕ → Bool

-- What an event tells: marks that have their cause, and last, where it answers, the call.
abbrev pub Tells : Setting → Request → List Entry → (answered : Bool) → Type 0
Tells w r [] answered = answered ≡ false
Tells w r ((Call caller number stamp call reply) ∷ es) answered =
    (caller.0 ≡ r.caller) × (number ≡ r.number) × (call ≡ r.call) × IsSeenReply w.seen w.may reply × (es ≡ []) × (answered ≡ true)
Tells w r ((Down stamp col node cause) ∷ es) answered = IsSeenCause w.seen w.may node.0 cause × Tells w r es answered
Tells w r ((Up stamp col node) ∷ es) answered = Tells w r es answered
Tells w r ((Move stamp col node) ∷ es) answered = Tells w r es answered

-- An event of a caller whose clock is t adds these entries, and its clock is `after` then. They are legal behind those before
-- them, so an Up or a Move stands just before its call.
pub record Adds (w : Setting) (r : Request) (h : List Entry) (t : ℕ) (entries : List Entry) (after : ℕ) (answered : Bool) : Type 0 where
  pub tells : Tells w r entries answered
  pub stamped : Stamped w.seen (clock_of h) t entries after
  pub legal : LegalAfter w.site h entries

-- One event: it adds its entries, and afterwards each column on a node that was known as killed is down.
pub record Event (w : Setting) (r : Request) (h : List Entry) (t : ℕ) (entries : List Entry) (after : ℕ) (answered : Bool) : Type 0 where
  pub adds : Adds w r h t entries after answered
  pub swept : IsSwept w.known w.site (h ++ entries)
