use Rattle.std.proofs.lemmas.List.{append-nil}
use Rattle.cod_text.proofs.summing.number.Goals as goal

pub returns-clause-text : goal.returns-clause-text
returns-clause-text g c = rw append-nil at c.pieces.ensures.text
