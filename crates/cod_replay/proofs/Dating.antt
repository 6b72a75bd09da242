-- In a scenario an upgrade is asked for only where the version is 2.
use Rattle.std.proofs.Common.{◌≡◌, inl, inr, ℕ, List, [], length, get_or, ap, arith}
use Rattle.std.proofs.lemmas.Bool.{cases_lt}
use Rattle.std.proofs.lemmas.List.{get_or_past}
use Rattle.cod_types.specs.Limits.{Shape}
use Rattle.cod_script.specs.declared.line.Line.{Line}
use Rattle.cod_script.specs.declared.line.What.{What}
use Rattle.cod_script.specs.declared.line.What.TheVariants as what
use Rattle.cod_script.specs.Script.{Client, lines_by, nobody, Script}
use Rattle.cod_script.specs.Sound.{IsDated as IsDatedWhat, IsScenario}
use Rattle.cod_advance.proofs.Lining.{dated_call}
use Rattle.cod_replay.specs.Standing.{UpgradesAreDated}
use Rattle.cod_replay.specs.Tasks.{IsDatedIn}

dated_what : (g : Shape) (w : What) → IsDatedWhat g.version w → IsDatedIn g w
dated_what g (what.Segment seg c) dated = dated_call g.version c dated
dated_what g (what.Fail node) dated = dated

pub dated_of : (x : Script) → IsScenario x → UpgradesAreDated x
dated_of x scenario who = λ i d small. elim (cases_lt who (length x.clients)) [
  | inl there ↦ dated_what x.shape (get_or (lines_by x who) i d).what (scenario.dated who nobody there i d small)
  | inr past ↦
      let gone : lines_by x who ≡ [] = ap (λ (c : Client). c.lines) (get_or_past x.clients who nobody past) in
      let l = ap (λ (ls : List Line). length ls) gone in
      absurd (omega (arith, l, small))
]
