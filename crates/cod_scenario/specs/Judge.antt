-- Which line is refused, and why: a line is judged by the list of the lines before it.
use Rattle.std.specs.Prelude.{◌≡◌, ℕ, ◌+◌, ◌==◌, ◌&&◌, ◌||◌, not, nat_le, nat_lt, min, Bool, true, false, if◌then◌else◌, List, [], ◌∷◌, ◌++◌, length, drop}
use Rattle.std.specs.Prelude.{slice_index, slice_index_or, slice_get, ◌-◌, codes, Option, Some, None, Result, Ok, Err}
use Rattle.std.specs.List.{list_all, list_any, position}
use Rattle.std.specs.Str.{bytes_eq}
use Rattle.std.specs.Str.Lines.{strip_carriage_return}
use Rattle.cod_types.specs.declared.call.Call.{Call}
use Rattle.cod_types.specs.declared.call.Call.TheVariants as calls
use Rattle.cod_types.specs.declared.call.SegId.{SegId}
use Rattle.cod_words.specs.Words.{words_of, lines_of, number_of, is_name, data_of}
use Rattle.cod_words.specs.declared.data.DataError.{DataError}
use Rattle.cod_words.specs.declared.data.DataError.TheVariants as data_errors
use Rattle.cod_scenario.specs.declared.refusal.Refusal.{Refusal}
use Rattle.cod_scenario.specs.declared.refusal.Refusal.TheVariants.{BadByte, AfterEnd, Word, Order, Count, Number, Field, Name, Twice, Unknown, Node, Data}
use Rattle.cod_scenario.specs.declared.refusal.Refusal.TheVariants.{TooLarge, Room, NoEnd, TooLong}
use Rattle.cod_script.specs.declared.line.What.{What}
use Rattle.cod_script.specs.declared.line.What.TheVariants.{Segment, Fail}
use Rattle.cod_scenario.specs.declared.said.Said.{Said}
use Rattle.cod_scenario.specs.declared.said.Said.TheVariants as said
use Rattle.cod_scenario.specs.declared.said.Keyword.{Keyword}
use Rattle.cod_scenario.specs.declared.said.Keyword.TheVariants as key
use Rattle.cod_scenario.specs.declared.said.Verb.{Verb}
use Rattle.cod_scenario.specs.declared.said.Verb.TheVariants as verb
use Rattle.cod_scenario.specs.declared.said.Header.{Header}
use Rattle.cod_scenario.specs.declared.refusal.LineError.{LineError}
use Rattle.cod_scenario.specs.declared.refusal.LineError.TheVariants as errors
use Rattle.cod_scenario.specs.declared.refusal.ScenarioError.{ScenarioError}
use Rattle.cod_scenario.specs.declared.refusal.ScenarioError.TheVariants as scenario_errors
use Rattle.cod_scenario.specs.Lines.{header_of, segments_of, clients_of, weight_of, holds, bytes_of, floor_of}

-- ---- reasons in their order

infixl 10 ◌>>=◌
abbrev pub ◌>>=◌ : {A B : Type 0} → Result A Refusal → (A → Result B Refusal) → Result B Refusal
(Ok x) >>= f = f x
(Err why) >>= f = Err why

-- the reason, where the test fails
abbrev pub wants : Bool → Refusal → Result (Unit {0}) Refusal
wants true why = Ok tt
wants false why = Err why

abbrev pub found : {A : Type 0} → Option A → Refusal → Result A Refusal
found (Some x) why = Ok x
found None why = Err why

-- ---- the first word

abbrev pub verb_of : List ℕ → Option Verb
verb_of w =
    if bytes_eq w (codes "read") then Some verb.Read
    else if bytes_eq w (codes "write") then Some verb.Write
    else if bytes_eq w (codes "swap") then Some verb.Swap
    else if bytes_eq w (codes "put") then Some verb.Put
    else if bytes_eq w (codes "merge") then Some verb.Merge
    else if bytes_eq w (codes "tick") then Some verb.Tick
    else if bytes_eq w (codes "rebuild") then Some verb.Rebuild
    else if bytes_eq w (codes "upgrade") then Some verb.Upgrade
    else if bytes_eq w (codes "drain") then Some verb.Drain
    else if bytes_eq w (codes "fail") then Some verb.Fail
    else None

abbrev pub as_keyword : Option Verb → Option Keyword
as_keyword (Some v) = Some (key.Does v)
as_keyword None = None

abbrev pub keyword_of : List ℕ → Option Keyword
keyword_of w =
    if bytes_eq w (codes "codfs") then Some key.Codfs
    else if bytes_eq w (codes "nodes") then Some key.Nodes
    else if bytes_eq w (codes "code") then Some key.Code
    else if bytes_eq w (codes "block") then Some key.Block
    else if bytes_eq w (codes "update") then Some key.Update
    else if bytes_eq w (codes "reserve") then Some key.Reserve
    else if bytes_eq w (codes "unit") then Some key.Unit
    else if bytes_eq w (codes "alpha") then Some key.Alpha
    else if bytes_eq w (codes "segment") then Some key.Segment
    else if bytes_eq w (codes "client") then Some key.Client
    else if bytes_eq w (codes "care") then Some key.Care
    else if bytes_eq w (codes "schedule") then Some key.Schedule
    else if bytes_eq w (codes "end") then Some key.End
    else as_keyword (verb_of w)

-- ---- what may stand after which line

-- `upgrade` is a line of version 2
abbrev pub among_clients : ℕ → Keyword → Bool
among_clients version key.Client = true
among_clients version (key.Does verb.Upgrade) = version == 2
among_clients version (key.Does what) = true
among_clients version key.Care = true
among_clients version key.Schedule = true
among_clients version key.End = true
among_clients version _ = false

abbrev pub after_clients : Keyword → Bool
after_clients key.Schedule = true
after_clients key.End = true
after_clients _ = false

abbrev pub after_segment : Keyword → Bool
after_segment key.Segment = true
after_segment key.Client = true
after_segment _ = false

-- where in the order the lines so far have come to
unfoldable pub may_follow : ℕ → Option Said → Keyword → Bool
may_follow version None key.Codfs = true
may_follow version (Some (said.Codfs v)) key.Nodes = true
may_follow version (Some (said.Nodes n cap)) key.Code = true
may_follow version (Some (said.Code n k)) key.Block = true
may_follow version (Some (said.Block b)) key.Update = true
may_follow version (Some (said.Update u)) key.Reserve = true
may_follow version (Some (said.Reserve r)) key.Unit = true
may_follow version (Some (said.Unit x)) key.Alpha = true
may_follow version (Some (said.Alpha a)) key.Segment = true
may_follow version (Some (said.Segment name)) word = after_segment word
may_follow version (Some (said.Client name)) word = among_clients version word
may_follow version (Some (said.Does line what)) word = among_clients version word
may_follow version (Some (said.Care w rounds)) word = after_clients word
may_follow version (Some (said.Schedule turns)) word = after_clients word
may_follow version _ word = false

abbrev pub last_of : List Said → Option Said
last_of lines = slice_get lines (length lines - 1)

-- ---- the other words

unfoldable pub number : List ℕ → Result ℕ Refusal
number w = found (number_of w) Number

-- a number within its limits
unfoldable pub field : ℕ → ℕ → List ℕ → Result ℕ Refusal
field low high w = do
  value ← number w
  within ← wants (nat_le low value && nat_le value high) Field
  Ok value

-- a name that is not there yet
unfoldable pub new_name : List (List ℕ) → List ℕ → Result (Unit {0}) Refusal
new_name names w = do
  name ← wants (is_name w) Name
  wants (not (list_any (bytes_eq w) names)) Twice

-- which of the names it is
unfoldable pub known : List (List ℕ) → List ℕ → Result ℕ Refusal
known names w = do
  name ← wants (is_name w) Name
  found (position (bytes_eq w) names) Unknown

unfoldable pub each_known : List (List ℕ) → List (List ℕ) → Result (List ℕ) Refusal
each_known names [] = Ok []
each_known names (w ∷ ws) = do
  first ← known names w
  others ← each_known names ws
  Ok (first ∷ others)

unfoldable pub node : ℕ → List ℕ → Result ℕ Refusal
node nodes w = do
  value ← number w
  there ← wants (nat_lt value nodes) Node
  Ok value

abbrev pub data_or : Result (List ℕ) DataError → Result (List ℕ) Refusal
data_or (Ok bytes) = Ok bytes
data_or (Err data_errors.Field) = Err Field
data_or (Err _) = Err Data

unfoldable pub data_word : List ℕ → Result (List ℕ) Refusal
data_word w = data_or (data_of w)

-- ---- the lines, by the words after the first one

abbrev pub word : List (List ℕ) → ℕ → List ℕ
word ws i = slice_index_or ws i []

abbrev pub counted : List (List ℕ) → ℕ → Result (Unit {0}) Refusal
counted ws n = wants (length ws == n) Count

abbrev pub seg_call : ℕ → Call → What
seg_call seg call = Segment (record { 0 = seg }) call

unfoldable pub codfs_line : List (List ℕ) → Result Said Refusal
codfs_line ws = do
  count ← counted ws 1
  v ← field 1 2 (word ws 0)
  Ok (said.Codfs v)

unfoldable pub nodes_line : List (List ℕ) → Result Said Refusal
nodes_line ws = do
  count ← counted ws 2
  nodes ← field 1 64 (word ws 0)
  capacity ← field 1 4294967295 (word ws 1)
  Ok (said.Nodes nodes capacity)

unfoldable pub code_line : Header → List (List ℕ) → Result Said Refusal
code_line h ws = do
  count ← counted ws 2
  n ← field 1 (min 16 h.nodes) (word ws 0)
  k ← field 1 n (word ws 1)
  Ok (said.Code n k)

-- the one number of a line, within its limits
unfoldable pub only_field : ℕ → ℕ → List (List ℕ) → Result ℕ Refusal
only_field low high ws = do
  count ← counted ws 1
  field low high (word ws 0)

-- a line of one number within its limits
unfoldable pub field_line : ℕ → ℕ → (ℕ → Said) → List (List ℕ) → Result Said Refusal
field_line low high is ws = do
  value ← only_field low high ws
  Ok (is value)

-- a new name where there are fewer than most
unfoldable pub added_name : ℕ → List (List ℕ) → List (List ℕ) → Result (Unit {0}) Refusal
added_name most names ws = do
  count ← counted ws 1
  new ← new_name names (word ws 0)
  wants (nat_lt (length names) most) Field

unfoldable pub segment_line : List (List ℕ) → List (List ℕ) → Result Said Refusal
segment_line names ws = do
  added ← added_name 1024 names ws
  Ok (said.Segment (word ws 0))

unfoldable pub client_line : List (List ℕ) → List (List ℕ) → Result Said Refusal
client_line names ws = do
  added ← added_name 64 names ws
  Ok (said.Client (word ws 0))

unfoldable pub read_line : List (List ℕ) → List (List ℕ) → Result What Refusal
read_line names ws = do
  count ← counted ws 3
  seg ← known names (word ws 0)
  off ← number (word ws 1)
  len ← number (word ws 2)
  Ok (seg_call seg (calls.Read off len))

unfoldable pub write_line : List (List ℕ) → List (List ℕ) → Result What Refusal
write_line names ws = do
  count ← counted ws 3
  seg ← known names (word ws 0)
  off ← number (word ws 1)
  bytes ← data_word (word ws 2)
  Ok (seg_call seg (calls.Write off bytes))

unfoldable pub swap_line : List (List ℕ) → List (List ℕ) → Result What Refusal
swap_line names ws = do
  count ← counted ws 4
  seg ← known names (word ws 0)
  off ← number (word ws 1)
  old ← data_word (word ws 2)
  new ← data_word (word ws 3)
  Ok (seg_call seg (calls.Swap off old new))

unfoldable pub put_line : List (List ℕ) → List (List ℕ) → Result What Refusal
put_line names ws = do
  count ← counted ws 2
  seg ← known names (word ws 0)
  bytes ← data_word (word ws 1)
  Ok (seg_call seg (calls.Put bytes))

-- `merge`, `tick`, `rebuild`, `upgrade`
unfoldable pub plain_line : Call → List (List ℕ) → List (List ℕ) → Result What Refusal
plain_line call names ws = do
  count ← counted ws 1
  seg ← known names (word ws 0)
  Ok (seg_call seg call)

unfoldable pub drain_line : ℕ → List (List ℕ) → List (List ℕ) → Result What Refusal
drain_line nodes names ws = do
  count ← counted ws 2
  seg ← known names (word ws 0)
  x ← node nodes (word ws 1)
  Ok (seg_call seg (calls.Drain (record { 0 = x })))

unfoldable pub fail_line : ℕ → List (List ℕ) → Result What Refusal
fail_line nodes ws = do
  count ← counted ws 1
  x ← node nodes (word ws 0)
  Ok (Fail (record { 0 = x }))

unfoldable pub care_line : List (List ℕ) → Result Said Refusal
care_line ws = do
  count ← counted ws 2
  workers ← field 0 16 (word ws 0)
  rounds ← field 0 65536 (word ws 1)
  Ok (said.Care workers rounds)

unfoldable pub schedule_line : List (List ℕ) → List (List ℕ) → Result Said Refusal
schedule_line names ws = do
  some ← wants (nat_le 1 (length ws)) Count
  turns ← each_known names ws
  Ok (said.Schedule turns)

unfoldable pub end_line : List (List ℕ) → Result Said Refusal
end_line ws = do
  count ← counted ws 0
  Ok said.End

-- what a line of the client that came last is
unfoldable pub what_says : Header → List (List ℕ) → Verb → List (List ℕ) → Result What Refusal
what_says h segments verb.Read ws = read_line segments ws
what_says h segments verb.Write ws = write_line segments ws
what_says h segments verb.Swap ws = swap_line segments ws
what_says h segments verb.Put ws = put_line segments ws
what_says h segments verb.Merge ws = plain_line calls.Merge segments ws
what_says h segments verb.Tick ws = plain_line calls.Tick segments ws
what_says h segments verb.Rebuild ws = plain_line calls.Rebuild segments ws
what_says h segments verb.Upgrade ws = plain_line calls.Upgrade segments ws
what_says h segments verb.Drain ws = drain_line h.nodes segments ws
what_says h segments verb.Fail ws = fail_line h.nodes ws

unfoldable pub does_line : Header → List (List ℕ) → ℕ → Verb → List (List ℕ) → Result Said Refusal
does_line h segments line word ws = do
  what ← what_says h segments word ws
  Ok (said.Does line what)

-- what the words after the first one say
unfoldable pub rest_says : Header → List (List ℕ) → List (List ℕ) → ℕ → Keyword → List (List ℕ) → Result Said Refusal
rest_says h segments clients line key.Codfs ws = codfs_line ws
rest_says h segments clients line key.Nodes ws = nodes_line ws
rest_says h segments clients line key.Code ws = code_line h ws
rest_says h segments clients line key.Block ws = field_line 1 1048576 said.Block ws
rest_says h segments clients line key.Update ws = field_line 1 (min (bytes_of h) 65536) said.Update ws
rest_says h segments clients line key.Reserve ws = field_line (floor_of h) 4194304 said.Reserve ws
rest_says h segments clients line key.Unit ws = field_line 1 h.reserve said.Unit ws
rest_says h segments clients line key.Alpha ws = field_line 0 10000 said.Alpha ws
rest_says h segments clients line key.Segment ws = segment_line segments ws
rest_says h segments clients line key.Client ws = client_line clients ws
rest_says h segments clients line (key.Does word) ws = does_line h segments line word ws
rest_says h segments clients line key.Care ws = care_line ws
rest_says h segments clients line key.Schedule ws = schedule_line clients ws
rest_says h segments clients line key.End ws = end_line ws

-- ---- weight and room

abbrev pub is_segment : Said → Bool
is_segment (said.Segment name) = true
is_segment _ = false

-- the segment of the line, if it is one, has room on its nodes
abbrev pub is_placed : List Said → Said → Bool
is_placed before line = not (is_segment line) || holds (header_of before) (length (segments_of before) + 1)

-- the line, where it can still be carried
unfoldable pub carried : List Said → Said → Result Said Refusal
carried before line = do
  within ← wants (nat_le (weight_of (before ++ line ∷ [])) 268435456) TooLarge
  room ← wants (is_placed before line) Room
  Ok line

-- `upgrade` is a call of version 2
abbrev pub has_call : ℕ → Call → Bool
has_call version calls.Upgrade = version == 2
has_call version _ = true

-- the next line of the client that came last, which asks this of a segment, where a line that says so would be taken
unfoldable pub called : List Said → ℕ → SegId → Call → Result Said Refusal
called before line seg call = do
  dated ← wants (has_call (header_of before).version call) Order
  carried before (said.Does line (Segment seg call))

-- ---- a line and a text

abbrev pub is_plain_byte : ℕ → Bool
is_plain_byte c = nat_le 32 c && nat_le c 126

abbrev pub is_end : Option Said → Bool
is_end (Some said.End) = true
is_end _ = false

-- a line of a client may come next
abbrev pub is_among : Option Said → Bool
is_among (Some (said.Client name)) = true
is_among (Some (said.Does line what)) = true
is_among _ = false

-- what the words of a line say by themselves
unfoldable pub words_mean : List Said → ℕ → List ℕ → List (List ℕ) → Result Said Refusal
words_mean before line first ws = do
  running ← wants (not (is_end (last_of before))) AfterEnd
  word ← found (keyword_of first) Word
  stands ← wants (may_follow (header_of before).version (last_of before) word) Order
  rest_says (header_of before) (segments_of before) (clients_of before) line word ws

unfoldable pub words_say : List Said → ℕ → List ℕ → List (List ℕ) → Result Said Refusal
words_say before line first ws = do
  read ← words_mean before line first ws
  carried before read

-- no words, or a comment, say nothing
unfoldable pub all_say : List Said → ℕ → List (List ℕ) → Result (List Said) Refusal
all_say before line ws =
    if length ws == 0 || slice_index (word ws 0) 0 == 35 then Ok before
    else (words_say before line (word ws 0) (drop 1 ws) >>= λ new. Ok (before ++ new ∷ []))

-- the lines before with what this one says, or why it is refused
unfoldable pub line_says : List Said → ℕ → List ℕ → Result (List Said) Refusal
line_says before line text = do
  plain ← wants (list_all is_plain_byte (strip_carriage_return text)) BadByte
  all_say before line (words_of (strip_carriage_return text))

abbrev pub at_line : {A : Type 0} → ℕ → Result A Refusal → (A → Result A (ℕ × Refusal)) → Result A (ℕ × Refusal)
at_line line (Ok x) f = f x
at_line line (Err why) f = Err (line, why)

-- what lines say one after the other, the first of them with this number; else the first that is refused
unfoldable pub lines_say : List Said → ℕ → List (List ℕ) → Result (List Said) (ℕ × Refusal)
lines_say before line [] = Ok before
lines_say before line (text ∷ more) = at_line line (line_says before line text) (λ said. lines_say said (line + 1) more)

abbrev pub to_end : ℕ → Result (List Said) (ℕ × Refusal) → Result (List Said) (ℕ × Refusal)
to_end count (Ok said) = if is_end (last_of said) then Ok said else Err (count + 1, NoEnd)
to_end count (Err e) = Err e

-- what a text says, or its refusal
unfoldable pub text_says : List ℕ → Result (List Said) (ℕ × Refusal)
text_says text =
    if nat_lt 16777216 (length text) then Err (0, TooLong)
    else to_end (length (lines_of text)) (lines_say [] 1 (lines_of text))

-- ---- what the code is held to

-- what a reader has read: how many lines, and what they said
pub record Heard : Type 0 where
  pub lines : ℕ
  pub said : List Said

-- What a function returned, seen by view, is what the definition gives, unless memory ran out.
abbrev pub IsRefusal : {Y : Type 0} → LineError → Result Y Refusal → Type 0
IsRefusal errors.OutOfMemory read = Unit {0}
IsRefusal (errors.Refused why) read = read ≡ Err why

abbrev pub Gives : {X Y : Type 0} → (X → Y) → Result X LineError → Result Y Refusal → Type 0
Gives view (Ok x) read = read ≡ Ok (view x)
Gives view (Err e) read = IsRefusal e read

-- the same of lines: the number of the refused line goes with its reason
abbrev pub IsRefusalAt : {Y : Type 0} → ScenarioError → Result Y (ℕ × Refusal) → Type 0
IsRefusalAt scenario_errors.OutOfMemory read = Unit {0}
IsRefusalAt (scenario_errors.Refused line why) read = read ≡ Err (line, why)
