use Rattle.std.proofs.Common.{◌≡◌, ◌∙◌, ◌<◌, ℕ, length, refl, sym, ap, subst, arith}
use Rattle.std.proofs.lemmas.Result.{err_from_is_err_and}
use Rattle.cod_types.specs.Limits.{Shape}
use Rattle.cod_types.specs.Plain.{bytes_at}
use Rattle.cod_code.specs.Segments.{column}
use Rattle.cod_chronicle.specs.Said.{bytes_of}
use Rattle.cod_seg.specs.Seg.{Seg}
use Rattle.cod_seg.proofs.Living.{enough_are_up}
use Rattle.cod_repair.specs.Columns.{failed_at, were_read}
use Rattle.cod_segment.specs.Views.{pools_by, told_by}
use Rattle.cod_reading.specs.Reads.{HaveValues, is_read_for, MayRead}
use Rattle.cod_reading.proofs.Fetching.{failed_seen, reseen, were_seen}
use Rattle.cod_reading.proofs.Valuing.{piece_brings, values_of}
use Rattle.cod_reading.proofs.parts.fetch.Goals as goal

pub bring-requires-clause-live : goal.bring-requires-clause-live
bring-requires-clause-live g c =
    let may = c.requires.may in
    let e : c.segment.inside.columns ≡ c.args.segment.now.cols = ap (λ (x : Seg). x.cols) c.segment.view_is in
    rw (c.requires.bench, e) (enough_are_up c.args.segment.now may.sound may.few)

pub returns-clause-reads : goal.returns-clause-reads
returns-clause-reads g c =
    let i = c.segment.inside in
    let s : Seg = record {
      site = record { shape = i.shape; segment = i.segment.0; nodes = i.nodes; told = told_by i.columns };
      frail = i.frail.items;
      pools = pools_by i.columns;
      log = i.chronicle;
      cols = i.columns;
      cuts = i.cuts;
      claims = i.claims;
      version = i.version;
      rebuild = i.rebuild;
    } in
    let may : MayRead s c.args.block c.args.off (length c.args.into.now) = rw c.segment.view_is c.requires.may in
    let bench : c.args.bench.now ≡ s.site.shape = c.requires.bench ∙ sym (ap (λ (x : Seg). x.site.shape) c.segment.view_is) in
    let chosen = is_read_for s.site.shape.k s.cols c.args.block in
    let size = may.sound.columns.size in
    let is : c.bring.new.columns ≡ were_read chosen s.cols s.site.shape.n =
    c.in_ok-bring.ensures.reads ∙ ap (λ (x : Shape). were_read (is_read_for x.k s.cols c.args.block) s.cols x.n) bench in
    rw (← c.segment.view_is) (reseen s c.bring.new.columns (were_read chosen s.cols s.site.shape.n) refl refl is (were_seen chosen s.cols s.site.shape.n (omega (arith, size))))

pub returns-in_err-bring-clause-reads : goal.returns-in_err-bring-clause-reads
returns-in_err-bring-clause-reads g c =
    let p = err_from_is_err_and c.from_residual.result c.from_residual.ensures.1 in
    let e = c.in_err-bring.field-0.0 in
    let i = c.segment.inside in
    let s : Seg = record {
      site = record { shape = i.shape; segment = i.segment.0; nodes = i.nodes; told = told_by i.columns };
      frail = i.frail.items;
      pools = pools_by i.columns;
      log = i.chronicle;
      cols = i.columns;
      cuts = i.cuts;
      claims = i.claims;
      version = i.version;
      rebuild = i.rebuild;
    } in
    let may : MayRead s c.args.block c.args.off (length c.args.into.now) = rw c.segment.view_is c.requires.may in
    let bench : c.args.bench.now ≡ s.site.shape = c.requires.bench ∙ sym (ap (λ (x : Seg). x.site.shape) c.segment.view_is) in
    let chosen = is_read_for s.site.shape.k s.cols c.args.block in
    let size = may.sound.columns.size in
    let is : c.bring.new.columns ≡ failed_at chosen s.cols e.col e.count =
    c.in_err-bring.ensures.reads ∙ ap (λ (x : Shape). failed_at (is_read_for x.k s.cols c.args.block) s.cols e.col e.count) bench in
    let below : e.col < s.site.shape.n = subst (λ (x : Shape). e.col < x.n) bench c.in_err-bring.ensures.cause.0 in
    rw (p.1, p.2, ← c.segment.view_is) (reseen s c.bring.new.columns (failed_at chosen s.cols e.col e.count) refl refl is (failed_seen chosen s.cols e.col e.count (omega (arith, size, below))))

pub returns-clause-bytes : goal.returns-clause-bytes
returns-clause-bytes g c =
    let i = c.segment.inside in
    let s : Seg = record {
      site = record { shape = i.shape; segment = i.segment.0; nodes = i.nodes; told = told_by i.columns };
      frail = i.frail.items;
      pools = pools_by i.columns;
      log = i.chronicle;
      cols = i.columns;
      cuts = i.cuts;
      claims = i.claims;
      version = i.version;
      rebuild = i.rebuild;
    } in
    let may : MayRead s c.args.block c.args.off (length c.args.into.now) = rw c.segment.view_is c.requires.may in
    let bench : c.args.bench.now ≡ s.site.shape = c.requires.bench ∙ sym (ap (λ (x : Seg). x.site.shape) c.segment.view_is) in
    let b = bytes_of s.site s.log in
    let low : c.args.block < s.site.shape.k = may.among in
    rw (← c.segment.view_is) (piece_brings s c.args.block c.args.off c.bring.new.into may.sound low (λ told.
    let all : HaveValues c.args.bench.now b s.claims s.cuts s.cols = rw bench (values_of s may.sound told may.few) in
    c.in_ok-bring.ensures.bytes b may.sound.history.plain all
    ∙ ap (λ (x : Shape). bytes_at (column x.k x.block c.args.block b) c.args.off (length c.args.into.now)) bench
    ∙ ap (λ (m : ℕ). bytes_at (column s.site.shape.k s.site.shape.block c.args.block b) c.args.off m) (sym c.bring.auto.into)))
