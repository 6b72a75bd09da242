use Rattle.std.proofs.Common.{◌∙◌, ◌≤◌, ℕ, List, length, sym, ap, arith}
use Rattle.cod_code.proofs.Segments.{column_length, data_column_is_block}
use Rattle.cod_repair.proofs.calls.block_of.Goals as goal

pub returns-clause-bytes : goal.returns-clause-bytes
returns-clause-bytes c =
    let g = c.args.g.now in
    let few : g.k ≤ 256 = omega (arith, c.requires.few) in
    rw c.block-block.ensures (sym (data_column_is_block g.k g.block c.args.col c.args.segment.now few c.requires.segment c.requires.bytes c.requires.col))

pub returns-clause-size : goal.returns-clause-size
returns-clause-size c =
    let g = c.args.g.now in
    let few : g.k ≤ 256 = omega (arith, c.requires.few) in
    rw c.block-block.ensures (ap (λ (l : List ℕ). length l) (sym (data_column_is_block g.k g.block c.args.col c.args.segment.now few c.requires.segment c.requires.bytes c.requires.col))
    ∙ column_length g.k g.block c.args.col c.args.segment.now)
