-- The memory of a call.
use Rattle.std.specs.Prelude.{◌≡◌, ℕ, ◌+◌, ◌*◌, ◌≤◌, ◌<◌, Bool, true, false, if◌then◌else◌, Option, Some, None, is_some, unwrap_or, List, [], length, map}
use Rattle.std.specs.Prelude.{replicate, slice_set, slice_index_or, All}
use Rattle.cod_types.specs.Limits.{Shape}
use Rattle.cod_types.specs.Plain.{refusal}
use Rattle.cod_types.specs.declared.call.Call.{Call}
use Rattle.cod_types.specs.declared.call.Call.TheVariants.{Read, Write, Swap, Rebuild, Drain, Merge}
use Rattle.cod_types.specs.declared.call.Reply.{Reply}
use Rattle.cod_types.specs.declared.reasons.Reason.{Reason}
use Rattle.cod_layout.specs.Parts.{parts_of}
use Rattle.cod_claims.specs.Changes.{Change, LiesInside, blank, joined, made}

-- What a call has at hand: itself, until it goes into its entry; how many links; the changes of its parts, until they are
-- claimed, and whether they are made; two buffers and two lists of reasons, until they are taken; and its reply.
pub record Paper : Type 0 where
  pub call : Option Call
  pub links : ℕ
  pub changes : Option (List Change)
  pub are_made : Bool
  pub buffers : Option (List ℕ × List ℕ)
  pub reasons : Option (List Reason × List Reason)
  pub reply : Option Reply

-- how many entries a call may need
abbrev pub links_for : Call → ℕ
links_for Rebuild = 3
links_for (Drain node) = 2
links_for _ = 1

-- the changes of the parts of an update, not made yet
abbrev pub changes_for : Shape → Call → Option (List Change)
changes_for g (Write off bytes) = Some (map (blank (Write off bytes) g.block off) (parts_of g.k g.block off (length bytes)))
changes_for g (Swap off old new) = Some (map (blank (Swap off old new) g.block off) (parts_of g.k g.block off (length new)))
changes_for g _ = None

-- two buffers for the bytes that are found in the range
abbrev pub buffers_for : Call → Option (List ℕ × List ℕ)
buffers_for (Read off len) = Some (replicate len 0, replicate len 0)
buffers_for (Swap off old new) = Some (replicate (length old) 0, replicate (length old) 0)
buffers_for _ = None

-- two lists of reasons, with none yet
abbrev pub reasons_for : Call → Option (List Reason × List Reason)
reasons_for Rebuild = Some ([], [])
reasons_for (Drain node) = Some ([], [])
reasons_for _ = None

-- What a call has before it begins. One that its own numbers refuse has its link alone.
abbrev pub prepared : Shape → Call → Paper
prepared g call =
    record {
      call = Some call;
      links = links_for call;
      changes = if is_some (refusal g call) then None else changes_for g call;
      are_made = false;
      buffers = if is_some (refusal g call) then None else buffers_for call;
      reasons = reasons_for call;
      reply = None;
    }

-- the changes that are there
abbrev pub changes_of : Paper → List Change
changes_of s = unwrap_or s.changes []

-- the i-th of them
abbrev pub change_at : List Change → ℕ → Change
change_at cs i = slice_index_or cs i (blank Merge 0 0 (record { block = 0; off = 0; len = 0 }))

-- with other bytes for the i-th change
abbrev pub with_bytes : ℕ → List ℕ → Paper → Paper
with_bytes i bytes s = record s { changes = Some (slice_set (changes_of s) i (record (change_at (changes_of s) i) { bytes = bytes })) }

-- each change has as many bytes as its part
abbrev pub AreWhole : List Change → Type 0
AreWhole cs = All (λ c. length c.bytes ≡ c.part.len) cs

-- with all changes made
abbrev pub with_made : Paper → Paper
with_made s = record s { changes = Some (map made (changes_of s)); are_made = true }

-- The changes are those of this call, each in one of 16 blocks, and each part lies in the call's new bytes.
pub record AreChanges (call : Call) (cs : List Change) : Type 0 where
  pub same : All (λ c. c.call ≡ call) cs
  pub blocks : All (λ c. c.part.block < 16) cs
  pub inside : All LiesInside cs

-- the changes of a paper are those of its call, while both are there
abbrev pub IsPaper : Option Call → Option (List Change) → Type 0
IsPaper (Some call) (Some cs) = AreChanges call cs
IsPaper (Some call) None = Unit {0}
IsPaper None _ = Unit {0}

-- the bytes of whole changes for the parts of a range are, end to end, as many as the range's
abbrev pub JoinsRange : Type 0
JoinsRange =
    (k block off len : ℕ) (cs : List Change) → off + len ≤ k * block → map (λ c. c.part) cs ≡ parts_of k block off len → AreWhole cs → length (joined cs) ≡ len
