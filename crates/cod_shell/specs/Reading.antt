-- What was read of a source.
use Rattle.std.specs.Prelude.{◌≡◌, ℕ, ◌≤◌, List, length, Option, Some, Err}
use Rattle.std.specs.Io.KnownBytes.{prepend_known, IsAtEnd}
use Rattle.cod_script.specs.Script.{Script}
use Rattle.cod_scenario.specs.declared.refusal.Refusal.{Refusal}
use Rattle.cod_scenario.specs.Reads.{reads, IsTextOf}
use Rattle.cod_shell.specs.Refused.{refusal_text}

-- at most so many bytes were read
abbrev pub ReadsAtMost : ℕ → (left left' : Option (List ℕ)) → Type 0
ReadsAtMost most left left' = (bytes : List ℕ) × (left ≡ prepend_known bytes left') × (length bytes ≤ most)

-- the bytes read, to the source's end, are the text of a scenario of which this holds
pub record ReadsScenario (Holds : Script → Type 0) (left left' : Option (List ℕ)) : Type 0 where
  pub bytes : List ℕ
  pub scenario : Script
  pub read : left ≡ prepend_known bytes left'
  pub end : IsAtEnd left'
  pub text : IsTextOf bytes scenario
  pub holds : Holds scenario

-- The bytes read, to the source's end or the first 2^24 + 1, are no text of a scenario, and the first line that is refused was
-- printed, with the reason.
pub record RefusesText (left left' : Option (List ℕ)) (Took : List ℕ → Type 0) : Type 0 where
  pub bytes : List ℕ
  pub read : left ≡ prepend_known bytes left'
  pub most : length bytes ≤ 16777217
  pub end : length bytes ≤ 16777216 → IsAtEnd left'
  pub line : ℕ
  pub why : Refusal
  pub refused : reads bytes ≡ Err (line, why)
  pub printed : Took (refusal_text line why)

-- all that the source has is the text of a scenario
abbrev pub HasScenario : (left : Option (List ℕ)) → Type 0
HasScenario left = (bytes : List ℕ) × (x : Script) × (left ≡ Some bytes) × IsTextOf bytes x
