use Rattle.std.proofs.Common.{arith}
use Rattle.cod_drain.proofs.Pieces.{filled_has}
use Rattle.cod_drain.proofs.copying.copy_piece.Goals as goal

pub returns-in-Ok-fill-clause-value : goal.returns-in-Ok-fill-clause-value
returns-in-Ok-fill-clause-value g c = λ v has was.
    let long = c.read_column.auto.into in
    let inside = c.requires.inside in
    let size = c.requires.size in
    let at = c.done.ensures in
    let bytes = c.in-Ok.ensures.value v has in
    filled_has v c.args.target.now c.fill.new.self c.read_column.new.into c.requires.full (omega (arith, long, inside, size)) c.in-Ok-fill.ensures.content c.in-Ok-fill.ensures.filled
    (λ x lt. let b = bytes x (omega (arith, long, lt)) in rw (← at) b) was
