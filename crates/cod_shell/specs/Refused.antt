-- The line that says why a text is no scenario.
use Rattle.std.specs.Prelude.{ℕ, List, [], ◌∷◌, ◌++◌, codes, decimal}
use Rattle.cod_scenario.specs.declared.refusal.Refusal.{Refusal}
use Rattle.cod_scenario.specs.declared.refusal.Refusal.TheVariants.{BadByte, AfterEnd, Word, Order, Count, Number, Field, Name, Twice, Unknown, Node, Data}
use Rattle.cod_scenario.specs.declared.refusal.Refusal.TheVariants.{TooLarge, Room, NoEnd, TooLong, Beyond}

abbrev pub why_word : Refusal → List ℕ
why_word BadByte = codes "badbyte"
why_word AfterEnd = codes "afterend"
why_word Word = codes "word"
why_word Order = codes "order"
why_word Count = codes "count"
why_word Number = codes "number"
why_word Field = codes "field"
why_word Name = codes "name"
why_word Twice = codes "twice"
why_word Unknown = codes "unknown"
why_word Node = codes "node"
why_word Data = codes "data"
why_word TooLarge = codes "toolarge"
why_word Room = codes "room"
why_word NoEnd = codes "noend"
why_word TooLong = codes "toolong"
why_word Beyond = codes "beyond"

-- `line`, the number of the line that is refused, and why
abbrev pub refusal_text : (line : ℕ) → Refusal → List ℕ
refusal_text line why = (codes "line " ++ decimal line) ++ (codes ": " ++ (why_word why ++ 10 ∷ []))
