use Rattle.cod_script.specs.Script.{script_from}
use Rattle.cod_script.proofs.Emptied.{still_scenario}
use Rattle.cod_script.proofs.scenario.Scenario.take_lines.Goals as goal

pub invariant_of-self : goal.invariant_of-self
invariant_of-self c =
    rw c.take_lines.ensures.rest (still_scenario (script_from c.self.inside.geometry c.self.inside.nodes c.self.inside.capacity c.self.inside.body) c.args.client c.self.invariant)
