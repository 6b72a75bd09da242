use Rattle.cod_scenario.proofs.TextSound
use Rattle.cod_scenario.proofs.laws.text_is_scenario.Goals as goal

pub returns-clause-sound : goal.returns-clause-sound
returns-clause-sound c = TextSound.text_is_scenario

pub returns-clause-few : goal.returns-clause-few
returns-clause-few c = TextSound.text_has_few
