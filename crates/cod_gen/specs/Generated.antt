-- The scenario that a number gives.
use Rattle.std.specs.Prelude.{ℕ, ◌+◌, ◌*◌, ◌/◌, ◌%◌, ◌==◌, ◌&&◌, if◌then◌else◌, List, [], ◌∷◌, ◌++◌, length, map, replicate, decimal}
use Rattle.std.specs.List.{flat_map, range_with_len, sum_by}
use Rattle.cod_types.specs.Limits.{shape}
use Rattle.cod_types.specs.declared.call.Call.{Call}
use Rattle.cod_types.specs.declared.call.Call.TheVariants.{Read, Write, Merge, Tick, Rebuild}
use Rattle.cod_script.specs.declared.line.Line.{Line}
use Rattle.cod_script.specs.declared.line.What.{What}
use Rattle.cod_script.specs.declared.line.What.TheVariants.{Segment, Fail}
use Rattle.cod_script.specs.Script.{Script, Client}
use Rattle.cod_gen.specs.Drawn.{after, drawn}

abbrev pub on_segment : ℕ → Call → What
on_segment seg call = Segment (record { 0 = seg }) call

-- 64 times one byte, to somewhere in a segment where they fit, all drawn from this state on
abbrev pub write_line : ℕ → What
write_line x = on_segment (drawn 40 x) (Write (drawn 262081 (after 1 x)) (replicate 64 (drawn 256 (after 2 x))))

-- 64 bytes from somewhere
abbrev pub read_line : ℕ → What
read_line x = on_segment (drawn 40 x) (Read (drawn 262081 (after 1 x)) 64)

-- one call of each segment
unfoldable pub on_each : Call → List What
on_each call = map (λ s. on_segment s call) (range_with_len 0 40)

-- a node fails, and then each segment is rebuilt
abbrev pub fail_and_rebuild : ℕ → List What
fail_and_rebuild node = Fail (record { 0 = node }) ∷ on_each Rebuild

-- What a client does beside its writes and reads: the first fails nodes 3 and 7, half way and in the end; the second has all segments
-- merged after a quarter, and shrunk after three.
abbrev pub care_lines : (client round : ℕ) → List What
care_lines client round =
    if client == 0 && round == 99 then fail_and_rebuild 3
    else if client == 0 && round == 199 then fail_and_rebuild 7
    else if client == 1 && round == 49 then on_each Merge
    else if client == 1 && round == 149 then on_each Tick
    else []

-- each tenth round has a read behind its write
abbrev pub reads_lines : (round x : ℕ) → List What
reads_lines round x = if round % 10 == 9 then read_line x ∷ [] else []

-- the lines of a client's round, drawn from this state on
abbrev pub round_lines : (client round x : ℕ) → List What
round_lines client round x = write_line x ∷ (reads_lines round (after 3 x) ++ care_lines client round)

-- How much was drawn ahead of a client's round: three numbers for each write and two for each read, by this client and, in 200 rounds
-- each, by those before it.
abbrev pub draws_ahead : (client round : ℕ) → ℕ
draws_ahead client round = client * 640 + (round * 3 + round / 10 * 2)

-- what a client does, where the first state is the number
unfoldable pub client_lines : (number client : ℕ) → List What
client_lines number client = flat_map (λ round. round_lines client round (after (draws_ahead client round) number)) (range_with_len 0 200)

-- lines with their numbers, from this one on
abbrev pub numbered : ℕ → List What → List Line
numbered n [] = []
numbered n (w ∷ ws) = record { line = n; what = w } ∷ numbered (n + 1) ws

-- The number of a client's line `client` in the canonical text: ahead of it stand 48 lines of the header and of the segments, and
-- those of the clients before it.
abbrev pub line_ahead : (number client : ℕ) → ℕ
line_ahead number client = 49 + sum_by (λ c. length (client_lines number c) + 1) (range_with_len 0 client)

-- a letter and a number
abbrev pub name_of : (letter number : ℕ) → List ℕ
name_of letter number = letter ∷ decimal number

-- the client of this number, c0 to c7
abbrev pub client_of : (number client : ℕ) → Client
client_of number client = record { name = name_of 99 client; lines = numbered (line_ahead number client + 1) (client_lines number client) }

-- s0 to s39
unfoldable pub all_segments : List (List ℕ)
all_segments = map (name_of 115) (range_with_len 0 40)

unfoldable pub all_clients : (number : ℕ) → List Client
all_clients number = map (client_of number) (range_with_len 0 8)

-- The scenario: 40 segments on 12 nodes, in which eight clients write, read, fail two nodes and take care of the segments.
abbrev pub generated : ℕ → Script
generated number =
    record {
      shape = shape 1 6 4 65536 4096 65536 4096 5000;
      nodes = 12;
      capacity = 16777216;
      segments = all_segments;
      clients = all_clients number;
      schedule = [];
      workers = 0;
      rounds = 0;
    }
