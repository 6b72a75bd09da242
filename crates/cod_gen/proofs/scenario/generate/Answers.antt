use Rattle.std.proofs.Common.{sym, subst}
use Rattle.cod_types.specs.Limits.{Shape, shape}
use Rattle.cod_script.specs.Script.{Body, script_from}
use Rattle.cod_script.specs.Sound.{IsScenario}
use Rattle.cod_gen.proofs.Sound.{generated_is_scenario}
use Rattle.cod_gen.proofs.scenario.generate.Goals as goal

pub new-requires : goal.new-requires
new-requires c =
    subst (λ (g : Shape). IsScenario (script_from g 12 16777216 c.in_ok-body.field-0)) (sym c.geometry.ensures)
    (subst (λ (b : Body). IsScenario (script_from (shape 1 6 4 65536 4096 65536 4096 5000) 12 16777216 b)) (sym c.in_ok-body.ensures) (generated_is_scenario c.args.number))
