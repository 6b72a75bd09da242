-- The steps of a segment's events.
use Rattle.std.specs.Prelude.{◌≡◌, ◌≢◌, ◌⊎◌, nat_lt, ℕ, zero, suc, ◌+◌, ◌<◌, ◌≤◌, List, [], ◌∷◌, ◌++◌, length, slice_index, bit_xor, true, false}
use Rattle.std.specs.Prelude.{if◌then◌else◌, Option, Some, None, is_some, ⊤, All, map}
use Rattle.std.specs.Option.{option_map}
use Rattle.atomic_table.specs.Seated.{TableId}
use Rattle.cod_types.specs.Limits.{floor, segment_length, Shape}
use Rattle.cod_types.specs.Overwritten.{byte_of, overwritten}
use Rattle.cod_types.specs.Plain.{bytes_at, refusal}
use Rattle.cod_types.specs.declared.call.Call.{Call as Asked}
use Rattle.cod_types.specs.declared.call.Call.TheVariants.{Drain, Put, Rebuild, Upgrade}
use Rattle.cod_types.specs.declared.call.Caller.{Caller}
use Rattle.cod_types.specs.declared.call.Reply.{Reply}
use Rattle.cod_types.specs.declared.call.Reply.TheVariants.{Done, Lost, Rebuilt, Shifted}
use Rattle.cod_region.specs.Device.{Device}
use Rattle.cod_field.specs.Field.{product}
use Rattle.cod_code.specs.Codewords.{AreBytes}
use Rattle.cod_code.specs.Columns.{gamma}
use Rattle.cod_code.specs.Segments.{column_byte}
use Rattle.cod_layout.specs.Parts.{parts_of, place_of}
use Rattle.cod_record.specs.declared.parts.Head.{Head}
use Rattle.cod_chronicle.specs.declared.entry.Cause.{Cause}
use Rattle.cod_chronicle.specs.declared.entry.Cause.TheVariants.{Killed, Fault}
use Rattle.cod_chronicle.specs.declared.entry.Entry.{Entry}
use Rattle.cod_chronicle.specs.declared.entry.Entry.TheVariants.{Call, Down, Up, Move}
use Rattle.cod_chronicle.specs.Legal.{IsAnswer, IsPlain, node_id}
use Rattle.cod_chronicle.specs.Said.{bytes_next, bytes_of, is_over, node_of, numbers_by, Precedes, Site, StampFollows}
use Rattle.cod_claims.specs.Changes.{Change, IsDelta, new_bytes, new_in}
use Rattle.cod_claims.specs.declared.claim.Claim.{Claim}
use Rattle.cod_claims.specs.Claimed.{claim_at, delta_of, HasNone, is_applied, is_noted, is_of, with_applied, with_claims, with_note, without_claims}
use Rattle.cod_claims.specs.Claimed.{without_marks}
use Rattle.cod_data.specs.Values.{HasValue}
use Rattle.cod_parity.specs.Held.{Holds, no_pieces, Piece, raised_cut, with_piece}
use Rattle.cod_parity.specs.Log.{logged_length, scaled}
use Rattle.cod_parity.specs.State.{empty, IsKept}
use Rattle.cod_place.specs.Room.{Room}
use Rattle.cod_seg.specs.Seg.{Col, col_at, node_in, Rebuilding, Seg, Target, with_col}
use Rattle.cod_seg.specs.Sound.{begin_of, is_frail, IsFilled, IsOther, IsSingle, is_update, MayRebuild, piece_on}

-- the cuts with those of the caller's blocks, of the first n, one higher
abbrev pub raised_to : (n caller : ℕ) → List (Option Claim) → (cuts : List ℕ) → List ℕ
raised_to zero caller claims cuts = cuts
raised_to (suc n) caller claims cuts =
    if is_of caller (claim_at claims n) then raised_cut (raised_to n caller claims cuts) n else raised_to n caller claims cuts

-- what the caller's claim adds to block j at a place
abbrev pub own_byte : (caller : ℕ) → List (Option Claim) → (x j : ℕ) → ℕ
own_byte caller claims x j = if is_of caller (claim_at claims j) then byte_of (delta_of (claim_at claims j)) x else 0

-- what the caller's claims of the first n blocks add to column i at a place
abbrev pub added_to : (n k i caller : ℕ) → List (Option Claim) → (x : ℕ) → ℕ
added_to zero k i caller claims x = 0
added_to (suc n) k i caller claims x = bit_xor (added_to n k i caller claims x) (product (gamma k i n) (own_byte caller claims x n))

-- what a write that has not failed leaves of a target beside its bytes
pub record KeepsTarget (old new : Target) : Type 0 where
  pub tells : is_some new.device.content ≡ is_some old.device.content
  pub full : (held : List ℕ) → new.device.content ≡ Some held → length held ≡ new.device.size
  pub size : new.device.size ≡ old.device.size
  pub faults : new.device.faults ≡ old.device.faults
  pub never_fails : new.device.never_fails ≡ old.device.never_fails
  pub same : new ≡ record old { device = new.device }

-- the target's bytes that are there have what the caller's claims add to its column
pub record IsCorrected (k col caller : ℕ) (claims : List (Option Claim)) (old new : Target) : Type 0 where
  pub bytes : (before after : List ℕ) → old.device.content ≡ Some before → new.device.content ≡ Some after
      → (x : ℕ) → x < old.filled → slice_index after x ≡ bit_xor (slice_index before x) (added_to k k col caller claims x)
  pub keeps : KeepsTarget old new

abbrev pub CorrectsTarget : (k col caller : ℕ) (claims : List (Option Claim)) (old new : Option Target) → Type 0
CorrectsTarget k col caller claims None new = new ≡ None
CorrectsTarget k col caller claims (Some t) new = (u : Target) × (new ≡ Some u) × IsCorrected k col caller claims t u

-- the target of a rebuild in progress is corrected, where there is one
abbrev pub Corrects : (k caller : ℕ) (claims : List (Option Claim)) (old new : Option Rebuilding) → Type 0
Corrects k caller claims None new = new ≡ None
Corrects k caller claims (Some r) new = (target : Option Target) × (new ≡ Some (record r { target = target }))
    × CorrectsTarget k r.col caller claims r.target target

-- A caller's update has been done on each column that is up: its claims were applied on data columns, and noted on all
-- parity columns.
pub record IsEverywhere (k n caller : ℕ) (cols : List Col) (claims : List (Option Claim)) : Type 0 where
  pub applied : (j : ℕ) → is_of caller (claim_at claims j) ≡ true → (col_at cols j).is_up ≡ true → is_applied (claim_at claims j) ≡ true
  pub noted : (j i : ℕ) → is_of caller (claim_at claims j) ≡ true → k ≤ i → i < n → (col_at cols i).is_up ≡ true → is_noted i (claim_at claims j) ≡ true

-- An update that has been done everywhere is committed: the cuts of its blocks rise, its claims end, it is answered, and the
-- target of a rebuild is corrected.
pub record Commits (before after : Seg) : Type 0 where
  pub caller : Caller
  pub number : ℕ
  pub stamp : ℕ
  pub call : Asked
  pub block : ℕ
  pub claim : Claim
  pub there : claim_at before.claims block ≡ Some claim
  pub owner : claim.owner.0 ≡ caller.0
  pub asked : claim.delta.call ≡ call
  pub numbered : claim.number ≡ number
  pub enough : is_over before.site before.log ≡ false
  pub follows : StampFollows before.log stamp
  pub everywhere : IsEverywhere before.site.shape.k before.site.shape.n caller.0 before.cols before.claims
  pub corrects : Corrects before.site.shape.k caller.0 before.claims before.rebuild after.rebuild
  pub becomes : after ≡ record before {
    cuts = raised_to before.site.shape.k caller.0 before.claims before.cuts;
    claims = without_claims caller.0 before.claims;
    log = before.log ++ Call caller number stamp call Done ∷ [];
    rebuild = after.rebuild;
  }

-- What no call of a column's region changes, and what holds of its numbers still. Of a column's room bytes may be given back,
-- but no more than its region gave up; where the shelf may fail, the room may be longer than the region: a cut that failed
-- leaves it so.
pub record KeepsColumn (g : Shape) (frail : List ℕ) (i : ℕ) (old new : Col) : Type 0 where
  pub node : new.room.node ≡ old.room.node
  pub owned : new.room.of ≡ old.room.of
  pub shape : new.state.shape ≡ old.state.shape
  pub tells : is_some new.state.device.content ≡ is_some old.state.device.content
  pub never_fails : new.state.device.never_fails ≡ old.state.device.never_fails
  pub full : (held : List ℕ) → new.state.device.content ≡ Some held → length held ≡ new.state.device.size
  pub fits : old.state.device.size ≤ old.room.bytes → new.state.device.size ≤ new.room.bytes
  pub roomy : frail ≡ [] → old.room.bytes ≡ old.state.device.size → new.room.bytes ≡ new.state.device.size
  pub long : i < g.k → new.state.device.size ≡ old.state.device.size
  pub plain : i < g.k → new.state ≡ record old.state { device = new.state.device }
  pub kept : g.k ≤ i → IsKept old.state → IsKept new.state
  pub exact : g.k ≤ i → new.is_up ≡ true → old.state.device.size ≡ g.block + old.state.size → new.state.device.size ≡ g.block + new.state.size

-- A column is worked on, without a fault: it keeps its value and what is in flight. So do reads, merges and ticks.
pub record Works (i : ℕ) (before after : Seg) : Type 0 where
  pub column : Col
  pub keeps : KeepsColumn before.site.shape before.frail i (col_at before.cols i) column
  pub live : column.is_up ≡ (col_at before.cols i).is_up
  pub faults : column.state.device.faults ≡ (col_at before.cols i).state.device.faults
  pub blocks : i < before.site.shape.k → (kept value : ℕ → ℕ) → HasValue (col_at before.cols i).state.device kept value
      → HasValue column.state.device kept value
  pub parities : before.site.shape.k ≤ i → (v : ℕ → ℕ) (p : ℕ → Option Piece) → Holds (col_at before.cols i).state before.cuts v p
      → Holds column.state before.cuts v p
  pub becomes : after ≡ record before { cols = with_col before.cols i column }

-- an update's new bytes are written in place, by one write
abbrev pub applied_to : Claim → (writes : ℕ) → Col → Col
applied_to c writes old =
    record old {
      state = record old.state {
        device = record old.state.device {
          content = option_map (overwritten c.delta.part.off (new_in c.delta)) old.state.device.content;
          writes = writes;
        };
      };
    }

-- The update that has claimed block j is applied there.
pub record Applies (j : ℕ) (before after : Seg) : Type 0 where
  pub claim : Claim
  pub writes : ℕ
  pub there : claim_at before.claims j ≡ Some claim
  pub fresh : claim.applied ≡ false
  pub live : (col_at before.cols j).is_up ≡ true
  pub becomes : after ≡ record before {
    cols = with_col before.cols j (applied_to claim writes (col_at before.cols j));
    claims = with_applied j before.claims;
  }

-- the head of the record that block j's claim gets
abbrev pub head_for : (cuts : List ℕ) (j : ℕ) → Claim → Head
head_for cuts j c = record { block = j; number = slice_index cuts j + 1; off = c.delta.part.off; len = length c.delta.bytes }

-- how many bytes that record has on column i
abbrev pub length_for : (k version : ℕ) (cuts : List ℕ) (j i : ℕ) → Claim → ℕ
length_for k version cuts j i c = logged_length version (head_for cuts j c) (scaled (gamma k i j) c.delta.bytes)

-- The update that has claimed block j is noted on parity column i.
pub record Notes (j i : ℕ) (before after : Seg) : Type 0 where
  pub claim : Claim
  pub column : Col
  pub len : ℕ
  pub there : claim_at before.claims j ≡ Some claim
  pub fresh : is_noted i (Some claim) ≡ false
  pub live : (col_at before.cols i).is_up ≡ true
  pub keeps : KeepsColumn before.site.shape before.frail i (col_at before.cols i) column
  pub still : column.is_up ≡ (col_at before.cols i).is_up
  pub faults : column.state.device.faults ≡ (col_at before.cols i).state.device.faults
  pub long : len ≡ length_for before.site.shape.k before.version before.cuts j i claim
  pub holds : (v : ℕ → ℕ) (p : ℕ → Option Piece) → Holds (col_at before.cols i).state before.cuts v p → p j ≡ None
      → Holds column.state before.cuts v (with_piece p j (piece_on before.site.shape.k i j len claim))
  pub becomes : after ≡ record before { cols = with_col before.cols i column; claims = with_note j i len before.claims }

-- why a column goes down: its node was killed, or its region has now failed so many times
abbrev pub IsCause : (frail : List ℕ) (c : Col) → Cause → Type 0
IsCause frail c (Killed line) = ⊤
IsCause frail c (Fault count) = (1 ≤ count) × (is_frail frail (node_in c) ≡ true) × (c.state.device.faults ≡ count)

-- A column that was up is down from now on, whatever a failed call has left of it.
pub record Marks (i : ℕ) (before after : Seg) : Type 0 where
  pub column : Col
  pub stamp : ℕ
  pub cause : Cause
  pub was : (col_at before.cols i).is_up ≡ true
  pub down : column.is_up ≡ false
  pub keeps : KeepsColumn before.site.shape before.frail i (col_at before.cols i) column
  pub why : IsCause before.frail column cause
  pub follows : StampFollows before.log stamp
  pub becomes : after ≡ record before {
    cols = with_col before.cols i column;
    log = before.log ++ Down stamp i (node_id (node_in (col_at before.cols i))) cause ∷ [];
  }

-- A call that changes no byte is answered. Its caller has no claim. An upgrade sets the version of records to 2. Where regions don't tell
-- what they hold, a swap may be answered that other bytes were found, whichever bytes its chronicle leaves.
pub record Answers (before after : Seg) : Type 0 where
  pub caller : Caller
  pub number : ℕ
  pub stamp : ℕ
  pub call : Asked
  pub reply : Reply
  pub follows : StampFollows before.log stamp
  pub newest : All (λ m. m < number) (numbers_by caller.0 before.log)
  pub idle : HasNone caller.0 before.claims
  pub answer : IsAnswer before.site before.log call reply
  pub quiet : before.site.told ≡ true
      → bytes_next (bytes_of before.site before.log) (Call caller number stamp call reply) ≡ bytes_of before.site before.log
  pub plain : AreBytes (bytes_of before.site before.log) → AreBytes (bytes_next (bytes_of before.site before.log) (Call caller number stamp call reply))
  pub dated : (after.version ≡ before.version) ⊎ ((call ≡ Upgrade) × (after.version ≡ 2) × (before.site.shape.version ≡ 2))
  pub becomes : after ≡ record before { version = after.version; log = before.log ++ Call caller number stamp call reply ∷ [] }

-- A caller begins an update: it claims each block that the update meets, and there the delta between the bytes and the
-- update's is kept. The changes are those of the parts of the update's range, one after another.
pub record Begins (before after : Seg) : Type 0 where
  pub caller : Caller
  pub number : ℕ
  pub call : Asked
  pub changes : List Change
  pub idle : HasNone caller.0 before.claims
  pub single : IsOther caller.0 before.rebuild
  pub newest : All (λ m. m < number) (numbers_by caller.0 before.log)
  pub update : is_update call ≡ true
  pub free : refusal before.site.shape call ≡ None
  pub done : IsPlain before.site.told (bytes_of before.site before.log) call Done
  pub bytes : AreBytes (new_bytes call)
  pub parts : map (λ c. c.part) changes ≡ parts_of before.site.shape.k before.site.shape.block (begin_of call) (length (new_bytes call))
  pub vacant : All (λ c. claim_at before.claims c.part.block ≡ None) changes
  pub asked : All (λ c. c.call ≡ call) changes
  pub from : All (λ c. c.at + begin_of call ≡ place_of before.site.shape.block c.part) changes
  pub sized : All (λ c. length c.bytes ≡ c.part.len) changes
  pub delta : before.site.told ≡ true
      → All (λ c. IsDelta (bytes_at (bytes_of before.site before.log) (place_of before.site.shape.block c.part) c.part.len) (new_in c) c.bytes) changes
  pub becomes : after ≡ record before { claims = with_claims caller number changes before.claims }

-- An update finds too many columns down: it is answered Lost, and its caller's claims end.
pub record Loses (before after : Seg) : Type 0 where
  pub caller : Caller
  pub number : ℕ
  pub stamp : ℕ
  pub call : Asked
  pub over : is_over before.site before.log ≡ true
  pub follows : StampFollows before.log stamp
  pub newest : All (λ m. m < number) (numbers_by caller.0 before.log)
  pub free : refusal before.site.shape call ≡ None
  pub becomes : after ≡ record before { claims = without_claims caller.0 before.claims; log = before.log ++ Call caller number stamp call Lost ∷ [] }

-- one rebuild is the other: it is of the same call, and of the column that this call chose at first
pub record IsSameRebuild (old new : Rebuilding) : Type 0 where
  pub caller : new.caller ≡ old.caller
  pub number : new.number ≡ old.number
  pub col : new.col ≡ old.col

-- A rebuild begins, by a caller without a claim, takes another target or lets go of the one it has, or ends without having
-- brought its column up.
pub record Aims (before after : Seg) : Type 0 where
  pub goal : MayRebuild before.site before.frail before.pools before.log after.rebuild
  pub idle : IsSingle before.claims after.rebuild
  pub same : (r q : Rebuilding) → before.rebuild ≡ Some r → after.rebuild ≡ Some q → IsSameRebuild r q
  pub nothing : (r : Rebuilding) (t : Target) → after.rebuild ≡ Some r → r.target ≡ Some t → t.filled ≡ 0
  pub becomes : after ≡ record before { rebuild = after.rebuild }

-- the target after these bytes more were written behind the ones that are there
abbrev pub filled_with : (piece : List ℕ) (writes : ℕ) → Target → Target
filled_with piece writes t =
    record t {
      filled = t.filled + length piece;
      device = record t.device { content = option_map (overwritten t.filled piece) t.device.content; writes = writes };
    }

-- The next piece of the column is written on the target.
pub record Fills (before after : Seg) : Type 0 where
  pub r : Rebuilding
  pub t : Target
  pub piece : List ℕ
  pub writes : ℕ
  pub was : before.rebuild ≡ Some r
  pub goal : r.target ≡ Some t
  pub within : t.filled + length piece ≤ before.site.shape.block
  pub each : before.site.told ≡ true → is_over before.site before.log ≡ false → (y : ℕ) → y < length piece
      → slice_index piece y ≡ column_byte before.site.shape.k before.site.shape.block r.col (bytes_of before.site before.log) (t.filled + y)
  pub becomes : after ≡ record before { rebuild = Some (record r { target = Some (filled_with piece writes t) }) }

-- A column comes to a node, with a region that holds its bytes: it is up there, with no record.
pub record Place : Type 0 where
  pub room : Room
  pub size : ℕ
  pub average : ℕ
  pub device : Device

abbrev pub placed_col : Shape → Place → Col
placed_col g p = record { room = p.room; is_up = true; state = empty g p.size p.average p.device }

-- the place is one that column i may come to
pub record IsPlace (site : Site) (frail : List ℕ) (pools : Option TableId) (log : List Entry) (i : ℕ) (p : Place) : Type 0 where
  pub alone : (m : ℕ) → m < site.shape.n → node_of site log m ≢ p.room.node.0
  pub known : p.room.node.0 < site.nodes
  pub owned : p.room.of ≡ pools
  pub tells : is_some p.device.content ≡ site.told
  pub full : (held : List ℕ) → p.device.content ≡ Some held → length held ≡ p.device.size
  pub clean : p.device.faults ≡ 0
  pub sure : is_frail frail p.room.node.0 ≡ false → p.device.never_fails ≡ true
  pub fits : p.device.size ≤ p.room.bytes
  pub roomy : frail ≡ [] → p.room.bytes ≡ p.device.size
  pub block : i < site.shape.k → (p.device.size ≡ site.shape.block) × (p.size ≡ 0) × (p.average ≡ 10000)
  pub reserve : site.shape.k ≤ i → p.device.size ≡ site.shape.block + p.size
  pub least : site.shape.k ≤ i → floor site.shape ≤ p.size
  pub most : site.shape.k ≤ i → p.size ≤ site.shape.reserve
  pub average : p.average ≤ 10000

-- where a rebuilt column comes: the target, with all the reserve
abbrev pub risen : (g : Shape) (col : ℕ) → Target → Place
risen g col t = record { room = t.room; size = if nat_lt col g.k then 0 else g.reserve; average = 10000; device = t.device }

-- A rebuild whose target is filled ends, by its caller: its column is up on the target's node, and the rebuild is answered.
pub record Rises (before after : Seg) : Type 0 where
  pub r : Rebuilding
  pub t : Target
  pub caller : Caller
  pub first : ℕ
  pub second : ℕ
  pub was : before.rebuild ≡ Some r
  pub goal : r.target ≡ Some t
  pub whole : t.filled ≡ before.site.shape.block
  pub few : is_over before.site before.log ≡ false
  pub owner : caller.0 ≡ r.caller
  pub newest : All (λ m. m < r.number) (numbers_by caller.0 before.log)
  pub follows : StampFollows before.log first
  pub next : Precedes first second
  pub becomes : after ≡ record before {
    cols = with_col before.cols r.col (placed_col before.site.shape (risen before.site.shape r.col t));
    claims = without_marks r.col before.claims;
    log = (before.log ++ Up first r.col t.room.node ∷ []) ++ Call caller r.number second Rebuild (Rebuilt r.col t.room.node) ∷ [];
    rebuild = None;
  }

-- A live column moves to another node, with its value at the cut, and the drain is answered. No rebuild is in progress.
pub record Moves (i : ℕ) (before after : Seg) : Type 0 where
  pub place : Place
  pub caller : Caller
  pub number : ℕ
  pub first : ℕ
  pub second : ℕ
  pub live : (col_at before.cols i).is_up ≡ true
  pub few : is_over before.site before.log ≡ false
  pub idle : HasNone caller.0 before.claims
  pub newest : All (λ m. m < number) (numbers_by caller.0 before.log)
  pub follows : StampFollows before.log first
  pub next : Precedes first second
  pub calm : before.rebuild ≡ None
  pub is : IsPlace before.site before.frail before.pools before.log i place
  pub copied : before.site.told ≡ true → (held : List ℕ) → place.device.content ≡ Some held → (x : ℕ) → x < before.site.shape.block
      → slice_index held x ≡ column_byte before.site.shape.k before.site.shape.block i (bytes_of before.site before.log) x
  pub becomes : after ≡ record before {
    cols = with_col before.cols i (placed_col before.site.shape place);
    claims = without_marks i before.claims;
    log = (before.log ++ Move first i place.room.node ∷ [])
        ++ Call caller number second (Drain (node_id (node_of before.site before.log i))) (Shifted i place.room.node) ∷ [];
  }

-- what a put does to a column: if it is up it holds its bytes of b, and no record
pub record PutsColumn (g : Shape) (frail : List ℕ) (i : ℕ) (b cuts : List ℕ) (old new : Col) : Type 0 where
  pub keeps : KeepsColumn g frail i old new
  pub live : new.is_up ≡ old.is_up
  pub faults : new.state.device.faults ≡ old.state.device.faults
  pub block : i < g.k → old.is_up ≡ true → (held : List ℕ) → new.state.device.content ≡ Some held → (x : ℕ) → x < g.block
      → slice_index held x ≡ column_byte g.k g.block i b x
  pub parity : g.k ≤ i → old.is_up ≡ true → (v : ℕ → ℕ) (p : ℕ → Option Piece) → Holds old.state cuts v p
      → Holds new.state cuts (column_byte g.k g.block i b) no_pieces

-- and to a target: its bytes that are there are those of b
pub record PutsTarget (g : Shape) (col : ℕ) (b : List ℕ) (old new : Target) : Type 0 where
  pub each : IsFilled g b col (record old { device = new.device })
  pub keeps : KeepsTarget old new

abbrev pub MayPut : (g : Shape) (col : ℕ) (b : List ℕ) (old new : Option Target) → Type 0
MayPut g col b None new = new ≡ None
MayPut g col b (Some t) new = (u : Target) × (new ≡ Some u) × PutsTarget g col b t u

abbrev pub PutsRebuild : (g : Shape) (b : List ℕ) (old new : Option Rebuilding) → Type 0
PutsRebuild g b None new = new ≡ None
PutsRebuild g b (Some r) new = (target : Option Target) × (new ≡ Some (record r { target = target })) × MayPut g r.col b r.target target

-- All bytes are replaced. No block is claimed.
pub record Puts (before after : Seg) : Type 0 where
  pub caller : Caller
  pub number : ℕ
  pub stamp : ℕ
  pub bytes : List ℕ
  pub long : length bytes ≡ segment_length before.site.shape
  pub plain : AreBytes bytes
  pub few : is_over before.site before.log ≡ false
  pub vacant : (j : ℕ) → claim_at before.claims j ≡ None
  pub newest : All (λ m. m < number) (numbers_by caller.0 before.log)
  pub follows : StampFollows before.log stamp
  pub size : length after.cols ≡ length before.cols
  pub each : (i : ℕ) → i < before.site.shape.n → PutsColumn before.site.shape before.frail i bytes before.cuts (col_at before.cols i) (col_at after.cols i)
  pub target : PutsRebuild before.site.shape bytes before.rebuild after.rebuild
  pub becomes : after ≡ record before { cols = after.cols; rebuild = after.rebuild; log = before.log ++ Call caller number stamp (Put bytes) Done ∷ [] }

-- any bytes may be there
abbrev pub MaySpoil : (old new : Option Target) → Type 0
MaySpoil None new = new ≡ None
MaySpoil (Some t) new = (u : Target) × (new ≡ Some u) × KeepsTarget t u

abbrev pub SpoilsRebuild : (old new : Option Rebuilding) → Type 0
SpoilsRebuild None new = new ≡ None
SpoilsRebuild (Some r) new = (target : Option Target) × (new ≡ Some (record r { target = target })) × MaySpoil r.target target

-- More columns are down than the code makes up for: from then on what the others hold may be any bytes, and so may a target's.
-- A put leaves this that finds too many columns down after it has written others. It is answered Lost.
pub record Spoils (before after : Seg) : Type 0 where
  pub over : is_over before.site before.log ≡ true
  pub size : length after.cols ≡ length before.cols
  pub keeps : (i : ℕ) → i < before.site.shape.n → KeepsColumn before.site.shape before.frail i (col_at before.cols i) (col_at after.cols i)
  pub live : (i : ℕ) → i < before.site.shape.n → (col_at after.cols i).is_up ≡ (col_at before.cols i).is_up
  pub faults : (i : ℕ) → i < before.site.shape.n → (col_at after.cols i).state.device.faults ≡ (col_at before.cols i).state.device.faults
  pub target : SpoilsRebuild before.rebuild after.rebuild
  pub becomes : after ≡ record before { cols = after.cols; rebuild = after.rebuild }

-- One step of a segment.
pub data Step : Seg → Seg → Type 0 where
  begins : {s t : Seg} → Begins s t → Step s t
  applies : {s t : Seg} (j : ℕ) → Applies j s t → Step s t
  notes : {s t : Seg} (j i : ℕ) → s.site.shape.k ≤ i → i < s.site.shape.n → Notes j i s t → Step s t
  commits : {s t : Seg} → Commits s t → Step s t
  puts : {s t : Seg} → Puts s t → Step s t
  spoils : {s t : Seg} → Spoils s t → Step s t
  answers : {s t : Seg} → Answers s t → Step s t
  loses : {s t : Seg} → Loses s t → Step s t
  marks : {s t : Seg} (i : ℕ) → i < s.site.shape.n → Marks i s t → Step s t
  works : {s t : Seg} (i : ℕ) → i < s.site.shape.n → Works i s t → Step s t
  aims : {s t : Seg} → Aims s t → Step s t
  fills : {s t : Seg} → Fills s t → Step s t
  rises : {s t : Seg} → Rises s t → Step s t
  moves : {s t : Seg} (i : ℕ) → i < s.site.shape.n → Moves i s t → Step s t

-- any number of steps
pub data Goes : Seg → Seg → Type 0 where
  stays : (s : Seg) → Goes s s
  goes : (s t u : Seg) → Goes s t → Step t u → Goes s u

-- the site stays, and the chronicle has these entries more
pub record Grows (before after : Seg) : Type 0 where
  pub site : after.site ≡ before.site
  pub frail : after.frail ≡ before.frail
  pub pools : after.pools ≡ before.pools
  pub more : List Entry
  pub log : after.log ≡ before.log ++ more
