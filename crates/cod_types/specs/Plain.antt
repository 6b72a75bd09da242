-- A segment as a list of bytes, and what each call does to it. This is the whole data model.
use Rattle.std.specs.Prelude.{ℕ, ◌+◌, nat_lt, ◌==◌, not, ◌||◌, if◌then◌else◌, List, length, take, drop, replicate, bytes_eq, Option, Some, None}
use Rattle.cod_types.specs.Limits.{Shape, segment_length}
use Rattle.cod_types.specs.Overwritten.{overwritten}
use Rattle.cod_types.specs.declared.call.Call.{Call}
use Rattle.cod_types.specs.declared.call.Call.TheVariants.{Read, Write, Swap, Put, Merge, Tick, Rebuild, Upgrade, Drain}
use Rattle.cod_types.specs.declared.call.Reply.{Reply}
use Rattle.cod_types.specs.declared.call.Reply.TheVariants.{Bytes, Done, Range, Long, Differs}

-- at first all bytes are zero
abbrev pub zeros : Shape → List ℕ
zeros g = replicate (segment_length g) 0

-- the len bytes from off on
abbrev pub bytes_at : List ℕ → (off len : ℕ) → List ℕ
bytes_at b off len = take len (drop off b)

-- The refusal that a call's own numbers give it: a range past the segment's end, then too many bytes or not as many
-- as they have to be.
abbrev pub refusal : Shape → Call → Option Reply
refusal g (Read off len) = if nat_lt (segment_length g) (off + len) then Some Range else None
refusal g (Write off bytes) =
    if nat_lt (segment_length g) (off + length bytes) then Some Range
    else if nat_lt g.update (length bytes) then Some Long
    else None
refusal g (Swap off old new) =
    if nat_lt (segment_length g) (off + length old) then Some Range
    else if nat_lt g.update (length new) || not (length new == length old) then Some Long
    else None
refusal g (Put bytes) = if length bytes == segment_length g then None else Some Long
refusal g Merge = None
refusal g Tick = None
refusal g Rebuild = None
refusal g Upgrade = None
refusal g (Drain node) = None

-- The reply of a plain segment that holds b to a call that isn't refused, where the bytes decide it. A rebuild's and a
-- drain's reply is decided by what happened to the columns.
abbrev pub plain_reply : List ℕ → Call → Option Reply
plain_reply b (Read off len) = Some (Bytes (bytes_at b off len))
plain_reply b (Write off bytes) = Some Done
plain_reply b (Swap off old new) = if bytes_eq (bytes_at b off (length old)) old then Some Done else Some (Differs (bytes_at b off (length old)))
plain_reply b (Put bytes) = Some Done
plain_reply b Merge = Some Done
plain_reply b Tick = Some Done
plain_reply b Rebuild = None
plain_reply b Upgrade = Some Done
plain_reply b (Drain node) = None

-- and what it holds afterwards
abbrev pub plain_next : List ℕ → Call → List ℕ
plain_next b (Read off len) = b
plain_next b (Write off bytes) = overwritten off bytes b
plain_next b (Swap off old new) = if bytes_eq (bytes_at b off (length old)) old then overwritten off new b else b
plain_next b (Put bytes) = bytes
plain_next b Merge = b
plain_next b Tick = b
plain_next b Rebuild = b
plain_next b Upgrade = b
plain_next b (Drain node) = b
