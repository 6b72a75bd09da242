-- Which chronicles are legal.
use Rattle.std.specs.Prelude.{◌≡◌, ◌≢◌, ◌↔◌, ◌⊎◌, ℕ, ◌<◌, ◌≤◌, not, IsTrue, Bool, true, false, Option, Some, None, IfSome}
use Rattle.std.specs.Prelude.{IsNone, List, [], ◌∷◌, ◌++◌, length, map, All}
use Rattle.std.specs.List.{filter, last_or}
use Rattle.cod_types.specs.Limits.{Shape}
use Rattle.cod_types.specs.Columns.{column_size, nodes_after}
use Rattle.cod_types.specs.Plain.{refusal, plain_reply}
use Rattle.cod_types.specs.declared.call.NodeId.{NodeId}
use Rattle.cod_types.specs.declared.call.Call.{Call as Asked}
use Rattle.cod_types.specs.declared.call.Call.TheVariants.{Read, Swap, Rebuild, Drain}
use Rattle.cod_types.specs.declared.call.Reply.{Reply}
use Rattle.cod_types.specs.declared.call.Reply.TheVariants.{Bytes, Done, Differs, Lost, Whole, Rebuilt, NoSpare, NoMem, Shifted, Clear}
use Rattle.cod_types.specs.declared.reasons.Reason.{Reason}
use Rattle.cod_types.specs.declared.reasons.Why.{Why}
use Rattle.cod_types.specs.declared.reasons.Why.TheVariants as why
use Rattle.cod_chronicle.specs.declared.entry.Entry.{Entry}
use Rattle.cod_chronicle.specs.declared.entry.Entry.TheVariants.{Call, Down, Up, Move}
use Rattle.cod_chronicle.specs.Said.{Site, is_down, downs, is_over, node_of, is_taken, bytes_of}

-- the nodes that no column is on, in cyclic order after x
abbrev pub others : Site → List Entry → ℕ → List ℕ
others site h x = filter (λ y. not (is_taken site h y)) (nodes_after x site.nodes)

-- why a node can't take column c: a failure's line, too few free bytes, or a count of faults
abbrev pub IsWhy : Shape → ℕ → Why → Type 0
IsWhy g c (why.Down line) = 1 ≤ line
IsWhy g c (why.Free bytes) = bytes < column_size g c
IsWhy g c (why.Fault count) = 1 ≤ count

-- each node that could take column c has its reason, in cyclic order after the node that c had last
pub record IsReasons (site : Site) (h : List Entry) (c : ℕ) (reasons : List Reason) : Type 0 where
  pub nodes : map (λ r. r.node.0) reasons ≡ others site h (node_of site h c)
  pub whys : All (λ r. IsWhy site.shape c r.why) reasons

-- a column came to a node
pub record Arrival : Type 0 where
  pub col : ℕ
  pub node : NodeId

-- what the last entry brought, where it is an Up
abbrev pub up_of : Option Entry → Option Arrival
up_of (Some (Up stamp col node)) = Some (record { col = col; node = node })
up_of _ = None

-- what the last entry brought, where it is a Move
abbrev pub move_of : Option Entry → Option Arrival
move_of (Some (Move stamp col node)) = Some (record { col = col; node = node })
move_of _ = None

-- a rebuild's reply: what the Up just before it says, and where none is there, why nothing came up
abbrev pub IsRebuild : Site → List Entry → Option Arrival → Reply → Type 0
IsRebuild site before (Some up) reply = reply ≡ Rebuilt up.col up.node
IsRebuild site before None Whole = downs site before ≡ []
IsRebuild site before None (NoSpare reasons) = (c : ℕ) × (is_down before c ≡ true) × IsReasons site before c reasons
IsRebuild site before None NoMem = downs site before ≢ []
IsRebuild site before None _ = ⊥

-- column c is live and on node x
pub record IsLiveOn (site : Site) (h : List Entry) (x c : ℕ) : Type 0 where
  pub column : c < site.shape.n
  pub live : is_down h c ≡ false
  pub there : node_of site h c ≡ x

-- the reply to a drain of node x: what the Move just before it says, and where none is there, why nothing moved
abbrev pub IsDrain : Site → List Entry → ℕ → Option Arrival → Reply → Type 0
IsDrain site before x (Some moved) reply = reply ≡ Shifted moved.col moved.node
IsDrain site before x None Clear = (c : ℕ) → ¬ (IsLiveOn site before x c)
IsDrain site before x None (NoSpare reasons) = (c : ℕ) × IsLiveOn site before x c × IsReasons site before c reasons
IsDrain site before x None NoMem = (c : ℕ) × IsLiveOn site before x c
IsDrain site before x None _ = ⊥

-- The reply of a plain segment that holds b. Where regions don't tell what they hold, the bytes of a reply are left open,
-- and so is which of Done and Differs a swap has.
abbrev pub IsPlain : (told : Bool) (b : List ℕ) → Asked → Reply → Type 0
IsPlain true b call reply = plain_reply b call ≡ Some reply
IsPlain false b (Read off len) reply = (bytes : List ℕ) × (reply ≡ Bytes bytes) × (length bytes ≡ len)
IsPlain false b (Swap off old new) reply = (reply ≡ Done) ⊎ ((bytes : List ℕ) × (reply ≡ Differs bytes) × (length bytes ≡ length old))
IsPlain false b call reply = plain_reply b call ≡ Some reply

-- The reply of a segment that still has its bytes. But for a rebuild and a drain it is that of a plain segment.
abbrev pub IsServed : Site → List Entry → Asked → Reply → Type 0
IsServed site before Rebuild reply = IsRebuild site before (up_of (last_or None before)) reply
IsServed site before (Drain node) reply = IsDrain site before node.0 (move_of (last_or None before)) reply
IsServed site before call reply = IsPlain site.told (bytes_of site before) call reply

-- A call's reply: first the refusals by its numbers, then lost, then what was served.
pub record IsAnswer (site : Site) (before : List Entry) (call : Asked) (reply : Reply) : Type 0 where
  pub refused : IfSome (refusal site.shape call) (λ r. reply ≡ r)
  pub lost : IsNone (refusal site.shape call) → (reply ≡ Lost) ↔ IsTrue (is_over site before)
  pub served : IsNone (refusal site.shape call) → is_over site before ≡ false → IsServed site before call reply

-- what comes next is this call with this reply
abbrev pub IsNext : Asked → Reply → List Entry → Type 0
IsNext asked told ((Call caller number stamp call reply) ∷ h) = (call ≡ asked) × (reply ≡ told)
IsNext asked told _ = ⊥

-- a column goes down where it is
pub record IsDownMark (site : Site) (before : List Entry) (col node : ℕ) : Type 0 where
  pub column : col < site.shape.n
  pub live : is_down before col ≡ false
  pub there : node ≡ node_of site before col

-- a node takes a column while the segment still has its bytes
pub record IsArrival (site : Site) (before : List Entry) (node : ℕ) : Type 0 where
  pub enough : is_over site before ≡ false
  pub there : node < site.nodes
  pub free : is_taken site before node ≡ false

-- a column that is down comes up on another node, and the rebuild that brought it is the next entry
pub record IsUpMark (site : Site) (before : List Entry) (col : ℕ) (node : NodeId) (after : List Entry) : Type 0 where
  pub down : is_down before col ≡ true
  pub arrives : IsArrival site before node.0
  pub rebuild : IsNext Rebuild (Rebuilt col node) after

abbrev pub node_id : ℕ → NodeId
node_id x = record { 0 = x }

-- a live column moves to another node, and the drain of its old node is the next entry
pub record IsMoveMark (site : Site) (before : List Entry) (col : ℕ) (node : NodeId) (after : List Entry) : Type 0 where
  pub column : col < site.shape.n
  pub live : is_down before col ≡ false
  pub arrives : IsArrival site before node.0
  pub drain : IsNext (Drain (node_id (node_of site before col))) (Shifted col node) after

-- An entry fits those before it and those after it.
abbrev pub Fits : Site → List Entry → Entry → List Entry → Type 0
Fits site before (Call caller number stamp call reply) after = IsAnswer site before call reply
Fits site before (Down stamp col node cause) after = IsDownMark site before col node.0
Fits site before (Up stamp col node) after = IsUpMark site before col node after
Fits site before (Move stamp col node) after = IsMoveMark site before col node after

-- each of these entries fits, where those before them are given
abbrev pub LegalAfter : Site → (before entries : List Entry) → Type 0
LegalAfter site before [] = Unit {0}
LegalAfter site before (e ∷ h) = Fits site before e h × LegalAfter site (before ++ e ∷ []) h

-- Each entry fits. So a legal chronicle ends with no Up and no Move.
abbrev pub IsLegal : Site → List Entry → Type 0
IsLegal site h = LegalAfter site [] h
