-- The texts that are printed of a run: its chronicles, its columns and its nodes.
use Rattle.std.specs.Prelude.{ℕ, Bool, true, false, Option, Some, None, ◌-◌, nat_lt, if◌then◌else◌, List, [], ◌∷◌, ◌++◌, length, map, codes, decimal}
use Rattle.std.specs.Prelude.{slice_index_or}
use Rattle.std.specs.List.{flat_map, join_with_byte}
use Rattle.cod_print.specs.Pieces.{hex_word}
use Rattle.cod_types.specs.declared.call.Call.{Call as Asked}
use Rattle.cod_types.specs.declared.call.Call.TheVariants.{Read, Write, Swap, Put, Merge, Tick, Rebuild, Upgrade, Drain}
use Rattle.cod_types.specs.declared.call.Reply.{Reply}
use Rattle.cod_types.specs.declared.call.Reply.TheVariants.{Bytes, Done, Range, Long, Lost, Whole, Rebuilt, NoSpare, NoMem, Differs, Shifted, Clear}
use Rattle.cod_types.specs.declared.reasons.Reason.{Reason}
use Rattle.cod_types.specs.declared.reasons.Why.{Why}
use Rattle.cod_types.specs.declared.reasons.Why.TheVariants as why
use Rattle.cod_chronicle.specs.declared.entry.Entry.{Entry}
use Rattle.cod_chronicle.specs.declared.entry.Entry.TheVariants.{Call, Down, Up, Move}
use Rattle.cod_chronicle.specs.declared.entry.Cause.{Cause}
use Rattle.cod_chronicle.specs.declared.entry.Cause.TheVariants.{Killed, Fault}
use Rattle.cod_chronicle.specs.Said.{stamp_of}
use Rattle.cod_chronicle.specs.Order.{Placed, order}
use Rattle.cod_types.specs.declared.layout.LayoutLine.{LayoutLine}
use Rattle.cod_types.specs.declared.layout.ParityLine.{ParityLine}
use Rattle.cod_script.specs.Script.{Script, nobody}

-- words with a space between two of them, and the line's end
abbrev pub line_of : List (List ℕ) → List ℕ
line_of words = join_with_byte 32 words ++ 10 ∷ []

abbrev pub call_words : Asked → List (List ℕ)
call_words (Read off len) = codes "read" ∷ decimal off ∷ decimal len ∷ []
call_words (Write off bytes) = codes "write" ∷ decimal off ∷ hex_word bytes ∷ []
call_words (Swap off before after) = codes "swap" ∷ decimal off ∷ hex_word before ∷ hex_word after ∷ []
call_words (Put bytes) = codes "put" ∷ hex_word bytes ∷ []
call_words Merge = codes "merge" ∷ []
call_words Tick = codes "tick" ∷ []
call_words Rebuild = codes "rebuild" ∷ []
call_words Upgrade = codes "upgrade" ∷ []
call_words (Drain node) = codes "drain" ∷ decimal node.0 ∷ []

abbrev pub why_text : Why → List ℕ
why_text (why.Down line) = codes "down:" ++ decimal line
why_text (why.Free bytes) = codes "free:" ++ decimal bytes
why_text (why.Fault count) = codes "fault:" ++ decimal count

abbrev pub reason_word : Reason → List ℕ
reason_word r = decimal r.node.0 ++ 58 ∷ why_text r.why

abbrev pub reply_words : Reply → List (List ℕ)
reply_words (Bytes bytes) = codes "bytes" ∷ hex_word bytes ∷ []
reply_words Done = codes "done" ∷ []
reply_words Range = codes "range" ∷ []
reply_words Long = codes "long" ∷ []
reply_words Lost = codes "lost" ∷ []
reply_words Whole = codes "whole" ∷ []
reply_words (Rebuilt col node) = codes "rebuilt" ∷ decimal col ∷ decimal node.0 ∷ []
reply_words (NoSpare reasons) = codes "nospare" ∷ map (λ r. reason_word r) reasons
reply_words NoMem = codes "nomem" ∷ []
reply_words (Differs bytes) = codes "differs" ∷ hex_word bytes ∷ []
reply_words (Shifted col node) = codes "shifted" ∷ decimal col ∷ decimal node.0 ∷ []
reply_words Clear = codes "clear" ∷ []

abbrev pub cause_words : Cause → List (List ℕ)
cause_words (Killed line) = codes "killed" ∷ decimal line ∷ []
cause_words (Fault count) = codes "fault" ∷ decimal count ∷ []

-- a segment's name
abbrev pub segment_word : Script → ℕ → List ℕ
segment_word x s = slice_index_or x.segments s []

-- a client's name, or +W for a care worker
abbrev pub caller_word : Script → ℕ → List ℕ
caller_word x who =
    if nat_lt who (length x.clients) then (slice_index_or x.clients who nobody).name
    else 43 ∷ decimal (who - length x.clients)

-- an entry behind its stamp and segment
abbrev pub what_words : Script → Entry → List (List ℕ)
what_words x (Call caller number stamp call reply) = caller_word x caller.0 ∷ decimal number ∷ (call_words call ++ codes "->" ∷ reply_words reply)
what_words x (Down stamp col node cause) = codes "=" ∷ codes "down" ∷ decimal col ∷ decimal node.0 ∷ cause_words cause
what_words x (Up stamp col node) = codes "=" ∷ codes "up" ∷ decimal col ∷ decimal node.0 ∷ []
what_words x (Move stamp col node) = codes "=" ∷ codes "move" ∷ decimal col ∷ decimal node.0 ∷ []

abbrev pub entry_words : Script → Placed → List (List ℕ)
entry_words x p = decimal (stamp_of p.entry) ∷ segment_word x p.segment ∷ what_words x p.entry

abbrev pub line_text : Script → Placed → List ℕ
line_text x p = line_of (entry_words x p)

-- a line for each entry, by stamp, segment and place
abbrev pub chronicle_text : Script → List (List Entry) → List ℕ
chronicle_text x hs = flat_map (λ p. line_text x p) (order hs)

abbrev pub state_word : Bool → List ℕ
state_word true = codes "up"
state_word false = codes "down"

-- what a parity column has besides
abbrev pub parity_words : Option ParityLine → List (List ℕ)
parity_words None = []
parity_words (Some p) = codes "used" ∷ decimal p.used ∷ codes "avg" ∷ decimal p.avg ∷ []

-- the line of a column
abbrev pub layout_text : Script → LayoutLine → List ℕ
layout_text x l =
    line_of (codes "layout" ∷ segment_word x l.seg.0 ∷ decimal l.col ∷ decimal l.node.0 ∷ state_word l.up ∷ codes "len" ∷ decimal l.len
    ∷ (parity_words l.parity ++ codes "reads" ∷ decimal l.reads ∷ codes "writes" ∷ decimal l.writes ∷ []))

-- the line of a node
abbrev pub node_text : (node : ℕ) (up : Bool) (taken free : ℕ) → List ℕ
node_text node up taken free = line_of (codes "node" ∷ decimal node ∷ state_word up ∷ codes "taken" ∷ decimal taken ∷ codes "free" ∷ decimal free ∷ [])
