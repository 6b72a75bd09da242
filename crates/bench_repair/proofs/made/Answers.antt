use Rattle.std.proofs.Common.{◌∙◌, sym, ap}
use Rattle.cod_types.specs.Limits.{Shape}
use Rattle.cod_repair.specs.Columns.{is_source}
use Rattle.bench_repair.proofs.Making.{length-pieced, pieced}
use Rattle.bench_repair.proofs.made.Goals as goal

pub returns-clause-count : goal.returns-clause-count
returns-clause-count c =
    let f = is_source c.args.bench.now.k c.args.columns.now in
    length-pieced c.piece.result f c.args.columns.now c.piece.new.columns c.args.bench.now.n c.piece.ensures.reads ∙ c.requires.count

pub returns-clause-made : goal.returns-clause-made
returns-clause-made c =
    let f = is_source c.args.bench.now.k c.args.columns.now in
    let size = c.requires.count ∙ sym (ap (λ (s : Shape). s.n) c.requires.shape) in
    pieced c.piece.result c.args.g f c.args.columns.now c.piece.new.columns c.args.g.n c.args.bench.now.n size c.piece.ensures.reads c.piece.ensures.cause c.requires.made
