use Rattle.std.proofs.Common.{take, drop, arith}
use Rattle.std.proofs.lemmas.Result.{err_from_is_err_and}
use Rattle.cod_print.proofs.Fronts.{took_front, flat_map_split}
use Rattle.std.proofs.Common.{◌+◌}
use Rattle.std.specs.List.{flat_map}
use Rattle.cod_print.specs.Pieces.{piece_text}
use Rattle.cod_print.proofs.put.pieces.Goals as goal

pub returns-in_err-piece-clause-text : goal.returns-in_err-piece-clause-text
returns-in_err-piece-clause-text g c =
    let p = err_from_is_err_and c.from_residual.result c.from_residual.ensures.1 in
    let h = c.in_err-piece.ensures.text in
    let xs = c.args.pieces.now in
    let i = c.loop-p.p-index in
    rw (p.1) (took_front _ _ _ (flat_map piece_text xs) (flat_map piece_text (take i xs)) _ (flat_map piece_text (drop (i + 1) xs)) c.loop-p.invariant.taken h (flat_map_split piece_text xs i _
    (omega arith)))
