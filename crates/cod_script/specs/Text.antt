-- The canonical text of a scenario.
use Rattle.std.specs.Prelude.{ℕ, ◌==◌, ◌&&◌, if◌then◌else◌, List, [], ◌∷◌, ◌++◌, map, codes, decimal, slice_index_or}
use Rattle.std.specs.List.{flat_map}
use Rattle.cod_types.specs.declared.call.Call.{Call}
use Rattle.cod_types.specs.declared.call.Call.TheVariants.{Read, Write, Swap, Put, Merge, Tick, Rebuild, Upgrade, Drain}
use Rattle.cod_script.specs.declared.line.What.{What}
use Rattle.cod_script.specs.declared.line.What.TheVariants.{Segment, Fail}
use Rattle.cod_script.specs.Script.{Script, Client, nobody}
use Rattle.cod_print.specs.Pieces.{data_word}

-- words with a space before each, and the end of the line
abbrev pub words_text : List (List ℕ) → List ℕ
words_text [] = 10 ∷ []
words_text (w ∷ ws) = 32 ∷ (w ++ words_text ws)

-- a line by its words
abbrev pub line_text : List ℕ → List (List ℕ) → List ℕ
line_text first ws = first ++ words_text ws

abbrev pub call_text : List ℕ → Call → List ℕ
call_text seg (Read off len) = line_text (codes "read") (seg ∷ decimal off ∷ decimal len ∷ [])
call_text seg (Write off bytes) = line_text (codes "write") (seg ∷ decimal off ∷ data_word bytes ∷ [])
call_text seg (Swap off old new) = line_text (codes "swap") (seg ∷ decimal off ∷ data_word old ∷ data_word new ∷ [])
call_text seg (Put bytes) = line_text (codes "put") (seg ∷ data_word bytes ∷ [])
call_text seg Merge = line_text (codes "merge") (seg ∷ [])
call_text seg Tick = line_text (codes "tick") (seg ∷ [])
call_text seg Rebuild = line_text (codes "rebuild") (seg ∷ [])
call_text seg Upgrade = line_text (codes "upgrade") (seg ∷ [])
call_text seg (Drain node) = line_text (codes "drain") (seg ∷ decimal node.0 ∷ [])

abbrev pub what_text : List (List ℕ) → What → List ℕ
what_text segments (Segment seg call) = call_text (slice_index_or segments seg.0 []) call
what_text segments (Fail node) = line_text (codes "fail") (decimal node.0 ∷ [])

abbrev pub client_text : List (List ℕ) → Client → List ℕ
client_text segments c = line_text (codes "client") (c.name ∷ []) ++ flat_map (λ l. what_text segments l.what) c.lines

abbrev pub numbers_text : List ℕ → List ℕ → List ℕ
numbers_text first numbers = line_text first (map decimal numbers)

unfoldable pub header_text : Script → List ℕ
header_text p = numbers_text (codes "codfs") (p.shape.version ∷ [])
    ++ (numbers_text (codes "nodes") (p.nodes ∷ p.capacity ∷ [])
    ++ (numbers_text (codes "code") (p.shape.n ∷ p.shape.k ∷ [])
    ++ (numbers_text (codes "block") (p.shape.block ∷ [])
    ++ (numbers_text (codes "update") (p.shape.update ∷ [])
    ++ (numbers_text (codes "reserve") (p.shape.reserve ∷ [])
    ++ (numbers_text (codes "unit") (p.shape.unit ∷ [])
    ++ numbers_text (codes "alpha") (p.shape.alpha ∷ [])))))))

-- no line for 0 0
abbrev pub care_text : (workers rounds : ℕ) → List ℕ
care_text workers rounds = if workers == 0 && rounds == 0 then [] else numbers_text (codes "care") (workers ∷ rounds ∷ [])

-- the name of a client
abbrev pub name_at : List Client → ℕ → List ℕ
name_at clients c = (slice_index_or clients c nobody).name

-- the whole schedule on one line, or no line where it is empty
abbrev pub schedule_text : List Client → List ℕ → List ℕ
schedule_text clients [] = []
schedule_text clients (turn ∷ turns) = line_text (codes "schedule") (map (name_at clients) (turn ∷ turns))

abbrev pub segment_text : List ℕ → List ℕ
segment_text name = line_text (codes "segment") (name ∷ [])

abbrev pub canonical_text : Script → List ℕ
canonical_text p = header_text p
    ++ (flat_map segment_text p.segments
    ++ (flat_map (client_text p.segments) p.clients
    ++ (care_text p.workers p.rounds ++ (schedule_text p.clients p.schedule ++ line_text (codes "end") []))))
