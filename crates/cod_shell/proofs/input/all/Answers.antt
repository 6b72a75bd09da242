-- What was read is at most one byte more than a text may have, also where there is no memory for it.
use Rattle.std.proofs.Common.{◌++◌, take, arith, length-append}
use Rattle.std.proofs.lemmas.List.{length-take}
use Rattle.cod_shell.proofs.TextRead.{reads_both}
use Rattle.cod_shell.proofs.input.all.Goals as goal

pub returns-in-Err-extend_from_slice-clause-most : goal.returns-in-Err-extend_from_slice-clause-most
returns-in-Err-extend_from_slice-clause-most g c =
    let text = c.pieces.text.items in
    let piece = take c.in-Ok.n c.read.new.into in (
      text ++ piece,
      reads_both text piece _ _ _ c.pieces.invariant.read c.in-Ok.ensures.bytes,
      omega (
        arith,
        length-append text piece,
        length-take c.in-Ok.n c.read.new.into,
        length-take c.min-most.result c.pieces.chunk,
        c.in-Ok.ensures.count,
        c.pieces.invariant.most,
        c.min-most.ensures,
        c.len-in-pieces.ensures,
      ),
    )
