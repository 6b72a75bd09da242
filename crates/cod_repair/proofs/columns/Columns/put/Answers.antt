use Rattle.std.proofs.Common.{◌≡◌, ◌∙◌, ap}
use Rattle.cod_types.specs.Limits.{Shape}
use Rattle.cod_code.specs.Segments.{column}
use Rattle.cod_repair.proofs.Valuing.{given_whole}
use Rattle.cod_repair.proofs.columns.Columns.put.Goals as goal

pub returns-clause-holds : goal.returns-clause-holds
returns-clause-holds g c = λ among was records means cuts.
    let shape = c.args.bench.now in
    let is : c.deref.result.now ≡ column shape.k shape.block c.args.col c.args.segment.now =
    c.deref.ensures.value ∙ given_whole c.bench.inside.block.len c.encode.new.into c.bench.inside.block.items (c.encode.auto.into ∙ c.deref_mut.ensures.len) ∙ c.encode.ensures
    ∙ ap (λ (s : Shape). column s.k s.block c.args.col c.args.segment.now) c.bench.view_is in
    rw (← is) (c.put_base.ensures.holds was records means cuts)
