-- A printed text is that of one list of chronicles.
use Rattle.std.specs.Prelude.{◌≡◌, ℕ, ◌<◌, ◌≤◌, ◌^◌, List, [], ◌∷◌, length, slice_index_or}
use Rattle.std.specs.List.{AllByRecursion}
use Rattle.hex.specs.Hex.{IsBytes}
use Rattle.cod_types.specs.declared.call.Call.{Call as Asked}
use Rattle.cod_types.specs.declared.call.Call.TheVariants.{Read, Write, Swap, Put, Merge, Tick, Rebuild, Upgrade, Drain}
use Rattle.cod_types.specs.declared.call.Reply.{Reply}
use Rattle.cod_types.specs.declared.call.Reply.TheVariants.{Bytes, Done, Range, Long, Lost, Whole, Rebuilt, NoSpare, NoMem, Differs, Shifted, Clear}
use Rattle.cod_types.specs.declared.reasons.Why.{Why}
use Rattle.cod_types.specs.declared.reasons.Why.TheVariants as why
use Rattle.cod_chronicle.specs.declared.entry.Entry.{Entry}
use Rattle.cod_chronicle.specs.declared.entry.Entry.TheVariants.{Call, Down, Up, Move}
use Rattle.cod_chronicle.specs.declared.entry.Cause.{Cause}
use Rattle.cod_chronicle.specs.declared.entry.Cause.TheVariants.{Killed, Fault}
use Rattle.cod_chronicle.specs.Said.{StampsRise}
use Rattle.cod_chronicle.specs.Order.{placed}
use Rattle.cod_script.specs.Script.{Script, nobody}
use Rattle.cod_script.specs.Sound.{IsScenario}
use Rattle.cod_text.specs.Printed.{chronicle_text}

-- bytes that a line's word may have
abbrev pub IsWord : List ℕ → Type 0
IsWord w = AllByRecursion (λ c. 33 ≤ c) w

-- a word that begins with a lower case letter
abbrev pub IsName : List ℕ → Type 0
IsName [] = ⊥
IsName (c ∷ w) = (97 ≤ c) × ((c ≤ 122) × IsWord w)

-- Segments and clients have names, and no two segments and no two clients have one name.
pub record HasNames (x : Script) : Type 0 where
  pub segments : AllByRecursion IsName x.segments
  pub segments_differ : (s t : ℕ) → s < length x.segments → t < length x.segments → slice_index_or x.segments s [] ≡ slice_index_or x.segments t [] → s ≡ t
  pub clients : AllByRecursion (λ c. IsName c.name) x.clients
  pub clients_differ : (c d : ℕ) → c < length x.clients → d < length x.clients
      → (slice_index_or x.clients c nobody).name ≡ (slice_index_or x.clients d nobody).name → c ≡ d

-- The numbers fit their types.
abbrev pub Fits : ℕ → Type 0
Fits n = n < 2 ^ 64

abbrev pub CallFits : Asked → Type 0
CallFits (Read off len) = Fits off × Fits len
CallFits (Write off bytes) = Fits off × IsBytes bytes
CallFits (Swap off before after) = Fits off × (IsBytes before × IsBytes after)
CallFits (Put bytes) = IsBytes bytes
CallFits Merge = Unit {0}
CallFits Tick = Unit {0}
CallFits Rebuild = Unit {0}
CallFits Upgrade = Unit {0}
CallFits (Drain node) = Fits node.0

abbrev pub WhyFits : Why → Type 0
WhyFits (why.Down line) = Fits line
WhyFits (why.Free bytes) = Fits bytes
WhyFits (why.Fault count) = Fits count

abbrev pub ReplyFits : Reply → Type 0
ReplyFits (Bytes bytes) = IsBytes bytes
ReplyFits Done = Unit {0}
ReplyFits Range = Unit {0}
ReplyFits Long = Unit {0}
ReplyFits Lost = Unit {0}
ReplyFits Whole = Unit {0}
ReplyFits (Rebuilt col node) = Fits col × Fits node.0
ReplyFits (NoSpare reasons) = AllByRecursion (λ r. Fits r.node.0 × WhyFits r.why) reasons
ReplyFits NoMem = Unit {0}
ReplyFits (Differs bytes) = IsBytes bytes
ReplyFits (Shifted col node) = Fits col × Fits node.0
ReplyFits Clear = Unit {0}

abbrev pub CauseFits : Cause → Type 0
CauseFits (Killed line) = Fits line
CauseFits (Fault count) = Fits count

abbrev pub EntryFits : Entry → Type 0
EntryFits (Call caller number stamp call reply) = Fits stamp × (Fits caller.0 × (Fits number × (CallFits call × ReplyFits reply)))
EntryFits (Down stamp col node cause) = Fits stamp × (Fits col × (Fits node.0 × CauseFits cause))
EntryFits (Up stamp col node) = Fits stamp × (Fits col × Fits node.0)
EntryFits (Move stamp col node) = Fits stamp × (Fits col × Fits node.0)

-- One chronicle for each segment: the stamps of each rise, and the numbers in all fit their types.
pub record HasChronicles (x : Script) (hs : List (List Entry)) : Type 0 where
  pub count : length hs ≡ length x.segments
  pub rise : AllByRecursion StampsRise hs
  pub fit : AllByRecursion (λ p. EntryFits p.entry) (placed hs)

-- For one scenario, chronicles with equal text are equal.
abbrev pub IsReadOneWay : Type 0
IsReadOneWay = (x : Script) (hs ks : List (List Entry)) → HasNames x → HasChronicles x hs → HasChronicles x ks → chronicle_text x hs ≡ chronicle_text x ks
    → hs ≡ ks

-- every scenario has names
abbrev pub ScenarioHasNames : Type 0
ScenarioHasNames = (x : Script) → IsScenario x → HasNames x
