use Rattle.std.proofs.Common.{length, ap, ◌∙◌, arith}
use Rattle.cod_calls.proofs.calling.await_room.Goals as goal

pub returns-then-len-clause-room : goal.returns-then-len-clause-room
returns-then-len-clause-room g c =
    let count = c.len.ensures ∙ ap length c.chronicle.ensures in
    let small = c.if-len.true in
    let most = c.sound.ensures.shape.most_columns in
    omega (arith, count, small, most)
