-- What is promised of the runs of a text.
use Rattle.std.specs.Prelude.{◌≡◌, ℕ, ◌<◌, ◌^◌, All, List, Ok}
use Rattle.cod_chronicle.specs.Order.{stamp_at, placed}
use Rattle.cod_scenario.specs.Reads.{reads}
use Rattle.cod_script.specs.Owed.{owed, IsHistory}
use Rattle.cod_turns.specs.Turns.{World, Course}
use Rattle.cod_turns.specs.Rounds.{IsRun}

-- the runs of a text's scenario leave histories
abbrev pub TextRunsAreHistories : Type 0
TextRunsAreHistories = (text : List ℕ) (x : Course) (v : World) → reads text ≡ Ok x.script → IsRun x v
    → IsHistory x.told x.script x.may (owed x.script) v.chronicles

-- Their stamps are far below 2^32, so each mark of a killed node stands after what the client that failed it had called before.
abbrev pub TextRunsAreSmall : Type 0
TextRunsAreSmall = (text : List ℕ) (x : Course) (v : World) → reads text ≡ Ok x.script → IsRun x v → All (λ p. stamp_at p < 2 ^ 26) (placed v.chronicles)
