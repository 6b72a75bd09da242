-- Rounds of turns, and why they end.
use Rattle.std.specs.Prelude.{◌≡◌, ℕ, zero, suc, ◌+◌, ◌-◌, ◌*◌, ◌<◌, ◌≤◌, List, [], ◌∷◌, ◌++◌, length}
use Rattle.std.specs.List.{range_with_len}
use Rattle.cod_script.specs.Owed.{owed, IsHistory}
use Rattle.cod_script.specs.Script.{Script, lines_by}
use Rattle.cod_script.specs.Sound.{IsScenario}
use Rattle.cod_turns.specs.Open.{AreItsCalls, NothingOpen}
use Rattle.cod_turns.specs.Turns.{World, Course, start, Turn, Turns, AllEnded}
use Rattle.cod_turns.specs.declared.turned.Turned.{Turned}
use Rattle.cod_turns.specs.declared.turned.Turned.TheVariants.{Ended, Killed, Held, Moved, Answered}

-- ---- what a run makes: the turns of the schedule, and then rounds up to the first end of all clients

-- the turns of a round: one of each client, in order
abbrev pub round : Script → List ℕ
round x = range_with_len 0 (length x.clients)

-- so many rounds, until each client has ended
abbrev pub Rounds : Course → (count : ℕ) → World → World → Type 0
Rounds x zero w v = (v ≡ w) × AllEnded x.script w
Rounds x (suc n) w v = (¬ (AllEnded x.script w)) × ((u : World) × Turns x (round x.script) w u × Rounds x n u v)

pub record IsRunFrom (x : Course) (w v : World) : Type 0 where
  pub scheduled : World
  pub schedule : Turns x x.script.schedule w scheduled
  pub count : ℕ
  pub rounds : Rounds x count scheduled v

-- all turns of a run with so many rounds
abbrev pub turns_of : Script → (rounds : ℕ) → List ℕ
turns_of x zero = x.schedule
turns_of x (suc n) = turns_of x n ++ round x

-- turns of these clients, one after another, where it is said what one turn makes of a thing
module _ {M : Type 0} (takes : ℕ → M → M → Type 0) where
  abbrev pub Takings : List ℕ → M → M → Type 0
  Takings [] a b = b ≡ a
  Takings (who ∷ rest) a b = (m : M) × takes who a m × Takings rest m b

-- a whole run, from the start
abbrev pub IsRun : Course → World → Type 0
IsRun x v = IsRunFrom x (start (length x.script.segments)) v

-- A run leaves one legal history, and nothing open.
abbrev pub RunLeavesHistory : Type 0
RunLeavesHistory = (x : Course) (v : World) → IsScenario x.script → IsRun x v → IsHistory x.told x.script x.may (owed x.script) v.chronicles

abbrev pub RunLeavesNothingOpen : Type 0
RunLeavesNothingOpen = (x : Course) (v : World) → IsRun x v → NothingOpen v

-- ---- why rounds end

-- What a turn does to the work that is left for the calls in progress: a call that goes on leaves less, one that waits no more. An
-- answered call and a node's failure may leave others more to do, but never more than `most`.
abbrev pub IsProgress : (most : ℕ) → Turned → (before after : ℕ) → Type 0
IsProgress most Ended a b = b ≡ a
IsProgress most Killed a b = b ≤ most
IsProgress most (Held owner number) a b = b ≤ a
IsProgress most Moved a b = b < a
IsProgress most (Answered position stamp) a b = b ≤ most

-- turns with the work before and after them
abbrev pub TurnsWork : Course → (most : ℕ) → List ℕ → World → World → (before after : ℕ) → Type 0
TurnsWork x most [] w v a b = (v ≡ w) × (b ≡ a)
TurnsWork x most (who ∷ rest) w v a b =
    (u : World) × (m : ℕ) × (turned : Turned) × Turn x who w u turned × IsProgress most turned a m × TurnsWork x most rest u v m b

-- lines that are left to the first n clients
abbrev pub lines_left : Script → (ℕ → ℕ) → (n : ℕ) → ℕ
lines_left x next zero = 0
lines_left x next (suc n) = lines_left x next n + (length (lines_by x n) - next n)

-- what falls with each round
abbrev pub measure : Script → (most : ℕ) → World → (work : ℕ) → ℕ
measure x most w work = lines_left x w.next (length x.clients) * (most + 1) + work

-- turns never raise it
abbrev pub TurnsNeverRaise : Type 0
TurnsNeverRaise = (x : Course) (most : ℕ) (cs : List ℕ) (w v : World) (a b : ℕ) → TurnsWork x most cs w v a b
    → measure x.script most v b ≤ measure x.script most w a

-- and a round in which not all clients have ended lowers it
abbrev pub RoundsFall : Type 0
RoundsFall = (x : Course) (most : ℕ) (w v : World) (a b : ℕ) → AreItsCalls x.script w → TurnsWork x most (round x.script) w v a b
    → ¬ (AllEnded x.script w) → measure x.script most v b < measure x.script most w a
