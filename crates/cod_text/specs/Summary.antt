-- The summary of a run: how many calls, replies and marks of each kind its chronicles have, and how many bytes were moved.
-- Each number stays at 2^64 - 1 once it is there.
use Rattle.std.specs.Prelude.{ℕ, ◌+◌, ◌-◌, ◌^◌, ◌==◌, min, if◌then◌else◌, List, [], ◌∷◌, ◌++◌, length, codes, decimal}
use Rattle.std.specs.List.{fold, flat_map}
use Rattle.cod_types.specs.Faults.{bump}
use Rattle.cod_types.specs.declared.call.Call.{Call as Asked}
use Rattle.cod_types.specs.declared.call.Call.TheVariants.{Read, Write, Swap, Put, Merge, Tick, Rebuild, Upgrade, Drain}
use Rattle.cod_types.specs.declared.call.Reply.{Reply}
use Rattle.cod_types.specs.declared.call.Reply.TheVariants.{Bytes, Done, Range, Long, Lost, Whole, Rebuilt, NoSpare, NoMem, Differs, Shifted, Clear}
use Rattle.cod_chronicle.specs.declared.entry.Entry.{Entry}
use Rattle.cod_chronicle.specs.declared.entry.Entry.TheVariants.{Call, Down, Up, Move}
use Rattle.cod_text.specs.declared.tally.Tally.{Tally}

-- no entry was counted
abbrev pub no_tally : Tally
no_tally = record {
  calls = 0;
  reads = 0;
  writes = 0;
  swaps = 0;
  puts = 0;
  merges = 0;
  ticks = 0;
  rebuilds = 0;
  upgrades = 0;
  drains = 0;
  bytes = 0;
  done = 0;
  range = 0;
  long = 0;
  lost = 0;
  whole = 0;
  rebuilt = 0;
  no_spare = 0;
  no_memory = 0;
  differs = 0;
  shifted = 0;
  clear = 0;
  downs = 0;
  ups = 0;
  moves = 0;
  bytes_read = 0;
  bytes_written = 0;
}

-- a sum after n more
abbrev pub more : ℕ → ℕ → ℕ
more n sum = min (sum + n) (2 ^ 64 - 1)

-- one more call of its kind
abbrev pub with_call : Tally → Asked → Tally
with_call t (Read off len) = record t { reads = bump t.reads }
with_call t (Write off bytes) = record t { writes = bump t.writes }
with_call t (Swap off old new) = record t { swaps = bump t.swaps }
with_call t (Put bytes) = record t { puts = bump t.puts }
with_call t Merge = record t { merges = bump t.merges }
with_call t Tick = record t { ticks = bump t.ticks }
with_call t Rebuild = record t { rebuilds = bump t.rebuilds }
with_call t Upgrade = record t { upgrades = bump t.upgrades }
with_call t (Drain node) = record t { drains = bump t.drains }

-- one more reply of its kind
abbrev pub with_reply : Tally → Reply → Tally
with_reply t (Bytes bytes) = record t { bytes = bump t.bytes }
with_reply t Done = record t { done = bump t.done }
with_reply t Range = record t { range = bump t.range }
with_reply t Long = record t { long = bump t.long }
with_reply t Lost = record t { lost = bump t.lost }
with_reply t Whole = record t { whole = bump t.whole }
with_reply t (Rebuilt col node) = record t { rebuilt = bump t.rebuilt }
with_reply t (NoSpare reasons) = record t { no_spare = bump t.no_spare }
with_reply t NoMem = record t { no_memory = bump t.no_memory }
with_reply t (Differs bytes) = record t { differs = bump t.differs }
with_reply t (Shifted col node) = record t { shifted = bump t.shifted }
with_reply t Clear = record t { clear = bump t.clear }

-- how many bytes a reply brings to its caller
abbrev pub bytes_brought : Reply → ℕ
bytes_brought (Bytes bytes) = length bytes
bytes_brought _ = 0

-- how many bytes a call replaces that was done
abbrev pub bytes_replaced : Asked → Reply → ℕ
bytes_replaced (Write off bytes) Done = length bytes
bytes_replaced (Swap off old new) Done = length new
bytes_replaced (Put bytes) Done = length bytes
bytes_replaced call reply = 0

abbrev pub with_bytes : Tally → Asked → Reply → Tally
with_bytes t call reply = record t { bytes_read = more (bytes_brought reply) t.bytes_read; bytes_written = more (bytes_replaced call reply) t.bytes_written }

-- one more entry
abbrev pub with_entry : Tally → Entry → Tally
with_entry t (Call caller number stamp call reply) = with_bytes (with_reply (with_call (record t { calls = bump t.calls }) call) reply) call reply
with_entry t (Down stamp col node cause) = record t { downs = bump t.downs }
with_entry t (Up stamp col node) = record t { ups = bump t.ups }
with_entry t (Move stamp col node) = record t { moves = bump t.moves }

-- of all entries of all chronicles
abbrev pub tally_of : List (List Entry) → Tally
tally_of hs = fold with_entry no_tally (flat_map (λ h. h) hs)

-- a number behind its text
abbrev pub count_text : List ℕ × ℕ → List ℕ
count_text c = c.0 ++ decimal c.1

abbrev pub counts_text : List (List ℕ × ℕ) → List ℕ
counts_text counts = flat_map count_text counts

-- five lines, but for the end of the last
unfoldable pub main_counts : (segments : ℕ) → Tally → List (List ℕ × ℕ)
main_counts segments t =
    (codes "segments ", segments)
    ∷ (codes "\ncalls ", t.calls) ∷ (codes " read ", t.reads) ∷ (codes " write ", t.writes) ∷ (codes " put ", t.puts)
    ∷ (codes " merge ", t.merges) ∷ (codes " tick ", t.ticks) ∷ (codes " rebuild ", t.rebuilds)
    ∷ (codes "\nreplies bytes ", t.bytes) ∷ (codes " done ", t.done) ∷ (codes " range ", t.range) ∷ (codes " long ", t.long) ∷ (codes " lost ", t.lost)
    ∷ (codes " whole ", t.whole) ∷ (codes " rebuilt ", t.rebuilt) ∷ (codes " nospare ", t.no_spare) ∷ (codes " nomem ", t.no_memory)
    ∷ (codes "\nmarks down ", t.downs) ∷ (codes " up ", t.ups)
    ∷ (codes "\nmoved read ", t.bytes_read) ∷ (codes " written ", t.bytes_written) ∷ []

-- one line each for swaps, upgrades and drains, where there are any
unfoldable pub swap_counts : Tally → List (List ℕ × ℕ)
swap_counts t = if t.swaps == 0 then [] else (codes "\nswap ", t.swaps) ∷ (codes " differs ", t.differs) ∷ []

unfoldable pub upgrade_counts : Tally → List (List ℕ × ℕ)
upgrade_counts t = if t.upgrades == 0 then [] else (codes "\nupgrade ", t.upgrades) ∷ []

unfoldable pub drain_counts : Tally → List (List ℕ × ℕ)
drain_counts t =
    if t.drains == 0 then []
    else (codes "\ndrain ", t.drains) ∷ (codes " shifted ", t.shifted) ∷ (codes " clear ", t.clear) ∷ (codes " moves ", t.moves) ∷ []

abbrev pub tally_text : (segments : ℕ) → Tally → List ℕ
tally_text segments t =
    counts_text (main_counts segments t)
    ++ (counts_text (swap_counts t) ++ (counts_text (upgrade_counts t) ++ (counts_text (drain_counts t) ++ 10 ∷ [])))

abbrev pub summary_text : List (List Entry) → List ℕ
summary_text hs = tally_text (length hs) (tally_of hs)
