use Rattle.std.specs.Prelude.{length}
use Rattle.std.proofs.Common.{◌<◌, refl, sym, subst}
use Rattle.cod_seg.specs.Seg.{Seg}
use Rattle.cod_segment.specs.Views.{pools_by, told_by}
use Rattle.cod_update.proofs.OnData.{failed_write}
use Rattle.cod_update.proofs.applying.apply.Goals as goal

pub returns-in-Err-clause-failed : goal.returns-in-Err-clause-failed
returns-in-Err-clause-failed g c =
    let s : Seg = record {
      site = record { shape = c.segment.inside.shape; segment = c.segment.inside.segment.0; nodes = c.segment.inside.nodes; told = told_by c.segment.inside.columns };
      frail = c.segment.inside.frail.items;
      pools = pools_by c.segment.inside.columns;
      log = c.segment.inside.chronicle;
      cols = c.segment.inside.columns;
      cuts = c.segment.inside.cuts;
      claims = c.segment.inside.claims;
      version = c.segment.inside.version;
      rebuild = c.segment.inside.rebuild;
    } in
    let col : c.args.block < length s.cols = subst (λ (x : Seg). c.args.block < length x.cols) (sym c.segment.view_is) c.requires.col in
    let low : c.args.block < s.site.shape.k = subst (λ (x : Seg). c.args.block < x.site.shape.k) (sym c.segment.view_is) c.requires.low in
    rw (← c.segment.view_is)
    (failed_write s c.args.block c.in-Some-Some.off (length c.in-Some-Some.bytes.now) c.apply.new.self col low refl refl c.in-Err.ensures.same c.in-Err.ensures.content c.in-Err.ensures.full
    c.in-Err.ensures.told.cause.failed)
