use Rattle.std.proofs.Common.{◌++◌, [], ◌∷◌, ap, List, ℕ, decimal, slice_index_or}
use Rattle.cod_print.specs.Pieces.{piece_text}
use Rattle.cod_text.specs.Printed.{caller_word}
use Rattle.cod_print.proofs.Fronts.{puts_same}
use Rattle.cod_text.proofs.Spacing.{two_joined}
use Rattle.cod_text.proofs.lines.head.Goals as goal

pub returns-clause-text : goal.returns-clause-text
returns-clause-text g c =
    let x = c.args.names.now in
    let s = slice_index_or x.segments c.args.seg.0 [] in
    let n = c.segment_name.ensures in
    let b = c.as_bytes.ensures.value in
    let h = c.pieces.ensures.text in
    puts_same _ _ _ _ _ (ap (λ (l : List ℕ). decimal c.args.stamp ++ 32 ∷ (s ++ l)) (two_joined (piece_text c.caller.result.0) (piece_text c.caller.result.1) (32 ∷ caller_word x c.args.who.0) (32 ∷
    (decimal c.args.number ++ [])) c.caller.ensures)) (rw (b, n) at h)
