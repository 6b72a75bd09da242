use Rattle.std.proofs.lemmas.List.{append-nil}
use Rattle.cod_script.proofs.writing.name.Goals as goal

pub returns-clause-text : goal.returns-clause-text
returns-clause-text g c = rw append-nil at c.pieces.ensures.text
