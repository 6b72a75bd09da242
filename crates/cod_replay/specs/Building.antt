-- How the clients of a replay are made.
use Rattle.std.specs.Prelude.{◌≡◌, [], ℕ, ◌<◌, ◌≤◌, List, length, map, slice_index_or}
use Rattle.cod_script.specs.Script.{lines_by, nobody, Script}
use Rattle.cod_replay.specs.State.{play_at}
use Rattle.cod_replay.specs.Tasks.{Play, whole_task}

-- a client that has done nothing
abbrev pub new_play : Script → ℕ → Play
new_play x who = record { caller = who; number = 0; clock = 0; next = 0; tasks = map (whole_task x.shape) (lines_by x who) }

-- so many clients that have
pub record ArePlays (x : Script) (count : ℕ) (plays : List Play) : Type 0 where
  pub size : length plays ≡ count
  pub each : (who : ℕ) → who < count → play_at plays who ≡ new_play x who

-- the lines of so many clients were moved out
pub record IsBareSoFar (whole now : Script) (count : ℕ) : Type 0 where
  pub same : now ≡ record whole { clients = now.clients }
  pub size : length now.clients ≡ length whole.clients
  pub names : (c : ℕ) → (slice_index_or now.clients c nobody).name ≡ (slice_index_or whole.clients c nobody).name
  pub gone : (c : ℕ) → c < count → lines_by now c ≡ []
  pub left : (c : ℕ) → count ≤ c → lines_by now c ≡ lines_by whole c
