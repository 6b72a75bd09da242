use Rattle.std.proofs.Common.{◌≡◌, ◌∙◌, ℕ, ◌+◌, length, sym, ap, arith, refl, take, length-take}
use Rattle.cod_types.specs.Limits.{Shape}
use Rattle.cod_seg.specs.Seg.{Seg}
use Rattle.cod_drain.proofs.Pieces.{copying_starts, copying_on, copy_fails}
use Rattle.cod_drain.proofs.copying.copy_column.Goals as goal

pub pieces-init : goal.pieces-init
pieces-init g c = (copying_starts c.args.bench.now c.args.col c.args.segment.now c.args.target.now c.requires.col c.requires.made c.requires.full c.requires.fresh, refl)

pub pieces-preserved : goal.pieces-preserved
pieces-preserved g c =
    let filled : c.copy_piece.new.target.filled ≡ c.pieces.target.filled + length (take c.min-len.result c.pieces.bytes) = c.in-Ok.ensures.copied.2 in
    let shape : c.segment.inside.shape ≡ c.args.bench.now = ap (λ (s : Seg). s.site.shape) c.segment.view_is ∙ c.requires.shape in
    let i = c.pieces.invariant.0 in
    let test = c.pieces-test.true in
    let done = c.done.ensures in
    let again = c.done-in-pieces.ensures in
    let bench : c.pieces.bench.block ≡ c.args.bench.now.block = ap (λ (s : Shape). s.block) c.pieces.invariant.1 in
    let block : c.block-block.result ≡ c.pieces.bench.block = c.block-block.ensures ∙ ap (λ (s : Shape). s.block) shape ∙ sym bench in
    let len = c.min-len.ensures in
    let taken : length (take c.min-len.result c.pieces.bytes) ≡ c.min-len.result = omega (arith, len, length-take {A = ℕ}) in
    let on = copying_on c.pieces.bench c.args.col c.min-len.result c.args.segment.now c.pieces.segment c.copy_piece.new.segment c.args.target.now c.pieces.target c.copy_piece.new.target c.requires.col i
    (omega (arith, test, done, block)) (omega (arith, len, again, block)) c.in-Ok.ensures.copied.0 c.in-Ok.ensures.copied.1 (omega (arith, filled, taken)) c.in-Ok.ensures.copied.3 c.in-Ok.ensures.value in
    (rw c.copy_piece.ensures.bench on, c.copy_piece.ensures.bench ∙ c.pieces.invariant.1)

pub returns-in-Err-clause-failed : goal.returns-in-Err-clause-failed
returns-in-Err-clause-failed g c = copy_fails c.pieces.bench c.args.col c.in-Err.failed c.args.segment.now c.pieces.segment c.copy_piece.new.segment c.args.target.now c.pieces.target c.copy_piece.new.target
    c.requires.col c.pieces.invariant.0 c.in-Err.ensures.failed
