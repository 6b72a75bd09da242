use Rattle.cod_gen.proofs.Sound.{generated_is_scenario}
use Rattle.cod_gen.proofs.laws.generated_is_scenario.Goals as goal

pub returns : goal.returns
returns c = generated_is_scenario
