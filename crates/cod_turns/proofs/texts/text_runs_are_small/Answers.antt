use Rattle.cod_turns.proofs.Textual.{text_runs_are_small}
use Rattle.cod_turns.proofs.texts.text_runs_are_small.Goals as goal

pub returns : goal.returns
returns c = text_runs_are_small
