-- Laws of legal chronicles.
use Rattle.std.specs.Prelude.{◌≡◌, ℕ, ◌+◌, ◌*◌, ◌<◌, ◌≤◌, ◌==◌, ◌↔◌, if◌then◌else◌, Bool, true, false, None, Some, List, [], ◌∷◌, ◌++◌, length, map, slice_get}
use Rattle.std.specs.List.{AllByRecursion, filter, last_or}
use Rattle.cod_types.specs.Limits.{Shape, segment_length}
use Rattle.cod_types.specs.Plain.{refusal}
use Rattle.cod_types.specs.declared.call.Caller.{Caller}
use Rattle.cod_types.specs.declared.call.Call.{Call as Asked}
use Rattle.cod_types.specs.declared.call.Call.TheVariants.{Write, Merge, Tick, Upgrade}
use Rattle.cod_types.specs.declared.call.Reply.{Reply}
use Rattle.cod_types.specs.declared.call.Reply.TheVariants.{Done, Lost}
use Rattle.cod_chronicle.specs.declared.entry.Entry.{Entry}
use Rattle.cod_chronicle.specs.declared.entry.Entry.TheVariants.{Call, Down, Up, Move}
use Rattle.cod_chronicle.specs.Said.{Site, site_as, stamp_of, clock_of, StampFollows, NumberFollows, StampsRise, IsChronicle, is_call_by, counts, call_count}
use Rattle.cod_chronicle.specs.Said.{is_down, down_next}
use Rattle.cod_chronicle.specs.Said.{is_over, node_of, node_next, fault_of, fault_next, bytes_of, bytes_next, is_refused}
use Rattle.cod_chronicle.specs.Legal.{IsAnswer, IsLegal, LegalAfter, up_of, move_of}
use Rattle.cod_chronicle.specs.Order.{Placed, stamp_at, place, order}

-- a call that was refused, or a column that went down
abbrev pub IsInVain : Entry → Type 0
IsInVain (Call caller number stamp call reply) = is_refused reply ≡ true
IsInVain (Down stamp col node cause) = Unit {0}
IsInVain _ = ⊥

-- Once too many columns are down no column comes up, and each later call is answered Range, Long or Lost.
abbrev pub IsLostForGood : Type 0
IsLostForGood = (site : Site) (h rest : List Entry) → IsLegal site (h ++ rest) → is_over site h ≡ true → AllByRecursion IsInVain rest

-- it ends with no Up and no Move
abbrev pub IsSettled : List Entry → Type 0
IsSettled h = (up_of (last_or None h) ≡ None) × (move_of (last_or None h) ≡ None)

-- A legal chronicle was legal all along, but between an Up or a Move and its call.
abbrev pub WasLegal : Type 0
WasLegal = (site : Site) (h rest : List Entry) → IsLegal site (h ++ rest) → IsSettled h → IsLegal site h

-- A legal chronicle ends with no Up and no Move, since each has its call behind it.
abbrev pub EndsSettled : Type 0
EndsSettled = (site : Site) (h : List Entry) → IsLegal site h → IsSettled h

-- Behind a legal chronicle may stand exactly those entries that fit one after another.
abbrev pub IsLegalBehind : Type 0
IsLegalBehind = (site : Site) (h more : List Entry) → IsLegal site h → (IsLegal site (h ++ more)) ↔ (LegalAfter site h more)

-- Behind a chronicle may stand exactly an entry whose stamp follows the last, and whose number its caller's.
abbrev pub IsChronicleBehind : Type 0
IsChronicleBehind = (h : List Entry) (e : Entry) → IsChronicle h → (IsChronicle (h ++ e ∷ [])) ↔ (StampFollows h (stamp_of e) × NumberFollows h e)

-- What a chronicle says with one more entry is a step from what it said.
pub record SaysNext (site : Site) (h : List Entry) (e : Entry) : Type 0 where
  pub clock : clock_of (h ++ e ∷ []) ≡ stamp_of e
  pub down : (i : ℕ) → is_down (h ++ e ∷ []) i ≡ down_next i (is_down h i) e
  pub node : (i : ℕ) → node_of site (h ++ e ∷ []) i ≡ node_next i (node_of site h i) e
  pub bytes : bytes_of site (h ++ e ∷ []) ≡ bytes_next (bytes_of site h) e
  pub calls : call_count (h ++ e ∷ []) ≡ call_count h + counts e
  pub fault : (i : ℕ) → fault_of (h ++ e ∷ []) i ≡ fault_next i (fault_of h i) e

abbrev pub SaysEachNext : Type 0
SaysEachNext = (site : Site) (h : List Entry) (e : Entry) → SaysNext site h e

-- A segment has as many bytes as at first.
abbrev pub KeepsLength : Type 0
KeepsLength = (site : Site) (h : List Entry) → IsLegal site h → length (bytes_of site h) ≡ segment_length site.shape

-- What is legal over regions that tell what they hold is legal over others too.
abbrev pub IsLegalIfTold : Type 0
IsLegalIfTold = (g : Shape) (nodes s : ℕ) (h : List Entry) → IsLegal (site_as true g nodes s) h → IsLegal (site_as false g nodes s) h

-- each call of it is of a caller and a number below these
abbrev pub CallsBelow : ℕ → ℕ → Entry → Type 0
CallsBelow callers numbers (Call caller number stamp call reply) = (caller.0 < callers) × (number < numbers)
CallsBelow callers numbers _ = Unit {0}

-- A legal chronicle has few entries: each Up and each Move has its call, and each Down but the first n its Up.
abbrev pub HasFewEntries : Type 0
HasFewEntries = (site : Site) (h : List Entry) → IsLegal site h → length h ≤ 3 * call_count h + site.shape.n

-- So many callers, none of which uses a number twice, have made at most so many calls.
abbrev pub HasFewCalls : Type 0
HasFewCalls = (callers numbers : ℕ) (h : List Entry) → IsChronicle h → AllByRecursion (CallsBelow callers numbers) h → call_count h ≤ callers * numbers

-- Columns are on different nodes, each of which there is.
pub record AreApart (site : Site) (h : List Entry) : Type 0 where
  pub differ : (i j : ℕ) → i < site.shape.n → j < site.shape.n → node_of site h i ≡ node_of site h j → i ≡ j
  pub there : (i : ℕ) → i < site.shape.n → node_of site h i < site.nodes

-- The columns of a legal chronicle are apart, where there are at least as many nodes as columns.
abbrev pub NodesAreApart : Type 0
NodesAreApart = (site : Site) (h : List Entry) → site.shape.n ≤ site.nodes → IsLegal site h → AreApart site h

-- a call that changes no byte and is done, as long as the segment has its bytes
abbrev pub IsQuiet : Asked → Type 0
IsQuiet (Write off bytes) = bytes ≡ []
IsQuiet Merge = Unit {0}
IsQuiet Tick = Unit {0}
IsQuiet Upgrade = Unit {0}
IsQuiet _ = ⊥

-- its reply
abbrev pub quiet_reply : Site → List Entry → Reply
quiet_reply site h = if is_over site h then Lost else Done

-- That reply is right, and its entry leaves the bytes as they are.
pub record IsQuietAnswer (site : Site) (h : List Entry) (call : Asked) : Type 0 where
  pub answer : IsAnswer site h call (quiet_reply site h)
  pub bytes : (b : List ℕ) (caller : Caller) (number stamp : ℕ) → bytes_next b (Call caller number stamp call (quiet_reply site h)) ≡ b

abbrev pub AnswersQuietly : Type 0
AnswersQuietly = (site : Site) (h : List Entry) (call : Asked) → IsQuiet call → refusal site.shape call ≡ None → IsQuietAnswer site h call

-- an entry of this segment
abbrev pub is_at : ℕ → Placed → Bool
is_at s p = p.segment == s

-- a call of this caller
abbrev pub is_by : ℕ → Placed → Bool
is_by who p = is_call_by who p.entry

-- each stamp is smaller than all later ones
abbrev pub Climbs : List Placed → Type 0
Climbs [] = Unit {0}
Climbs (p ∷ ps) = AllByRecursion (λ q. stamp_at p < stamp_at q) ps × Climbs ps

-- a caller's own calls, as it made them, have rising stamps, and each segment has those that it made there
pub record AreOwn (who : ℕ) (hs : List (List Entry)) (own : List Placed) : Type 0 where
  pub climbs : Climbs own
  pub there : (s : ℕ) (h : List Entry) → slice_get hs s ≡ Some h → filter (is_by who) (map (λ e. place s e) h) ≡ filter (is_at s) own
  pub within : AllByRecursion (λ p. p.segment < length hs) own

-- In the order of all entries a caller's calls stand as it made them.
abbrev pub KeepsEachOrder : Type 0
KeepsEachOrder = (who : ℕ) (hs : List (List Entry)) (own : List Placed) → AllByRecursion StampsRise hs → AreOwn who hs own → filter (is_by who) (order hs) ≡ own
