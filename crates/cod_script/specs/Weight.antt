-- The weight of a scenario: a bound of the bytes that a run of it moves, known before the run.
use Rattle.std.specs.Prelude.{ℕ, ◌+◌, ◌*◌, nat_le, if◌then◌else◌, List, length}
use Rattle.std.specs.List.{sum_by}
use Rattle.cod_types.specs.Limits.{Shape, segment_length}
use Rattle.cod_types.specs.declared.call.Call.{Call}
use Rattle.cod_types.specs.declared.call.Call.TheVariants.{Read, Write, Swap, Put, Rebuild, Drain}
use Rattle.cod_script.specs.declared.line.Line.{Line}
use Rattle.cod_script.specs.declared.line.What.{What}
use Rattle.cod_script.specs.declared.line.What.TheVariants.{Segment, Fail}
use Rattle.cod_script.specs.Script.{Script, Client}

-- a block with the space reserved behind it
abbrev pub region : Shape → ℕ
region g = g.block + g.reserve

-- the bytes that a call moves; a read past the segment's end moves none
unfoldable pub call_weight : Shape → Call → ℕ
call_weight g (Read off len) = if nat_le (off + len) (segment_length g) then len else 0
call_weight g (Write off bytes) = length bytes
call_weight g (Swap off old new) = length old + length new
call_weight g (Put bytes) = length bytes
call_weight g Rebuild = region g
call_weight g (Drain node) = region g
call_weight g _ = 0

unfoldable pub what_weight : Shape → What → ℕ
what_weight g (Segment seg call) = call_weight g call
what_weight g (Fail node) = 0

unfoldable pub lines_weight : Shape → List Line → ℕ
lines_weight g lines = sum_by (λ l. what_weight g l.what) lines

unfoldable pub clients_weight : Shape → List Client → ℕ
clients_weight g clients = sum_by (λ c. lines_weight g c.lines) clients

-- each segment's columns, each line, and a rebuilt column for each round of each care worker
unfoldable pub weight : Script → ℕ
weight p = length p.segments * (p.shape.n * region p.shape) + (clients_weight p.shape p.clients + p.workers * p.rounds * region p.shape)
