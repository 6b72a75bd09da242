use Rattle.std.proofs.Common.{◌≡◌, ◌∙◌, ◌<◌, List, length, set, true, false, sym, ap, arith}
use Rattle.std.proofs.lemmas.Result.{err_from_is_err_and}
use Rattle.cod_code.specs.Columns.{has_column}
use Rattle.cod_seg.specs.Seg.{Col}
use Rattle.cod_repair.proofs.Reading.{were_read_more, were_read_skip}
use Rattle.cod_repair.proofs.Valuing.{at_old, failed_cause, failed_reads, inside_from, same_from, same_kept}
use Rattle.cod_repair.proofs.lending.fetch_sources.Goals as goal
use Rattle.cod_repair.proofs.lending.fetch_sources.Goals.{then-has+in_ok-fetch_source, else-has}

pub fetch_source-requires : goal.fetch_source-requires
fetch_source-requires g c =
    let within : c.loop-i.i < length c.loop-i.columns = omega arith in
    let inside : c.loop-i.i < length c.args.columns.now = omega (arith, c.loop-i.auto.columns) in
    let is : has_column c.args.sources c.loop-i.i ≡ true = sym c.has.ensures ∙ c.if-has.true in
    let e = at_old (has_column c.args.sources) c.args.columns.now c.loop-i.columns c.loop-i.i c.index-columns-i.result within c.index-columns-i.is c.loop-i.invariant.reads in
    inside_from c.args.off c.args.len _ _ e (c.requires.range c.loop-i.i inside is)

pub returns-in_err-fetch_source-clause-reads : goal.returns-in_err-fetch_source-clause-reads
returns-in_err-fetch_source-clause-reads g c =
    let p = err_from_is_err_and c.from_residual.result c.from_residual.ensures.1 in
    let within : c.loop-i.i < length c.loop-i.columns = omega arith in
    let e = at_old (has_column c.args.sources) c.args.columns.now c.loop-i.columns c.loop-i.i c.index-columns-i.result within c.index-columns-i.is c.loop-i.invariant.reads in
    let same = same_from c.fetch_source.new.column.state.device.faults c.fetch_source.new.column _ _ e c.fetch_source.ensures.same in
    rw (p.1, p.2) (failed_reads (has_column c.args.sources) c.args.columns.now c.loop-i.columns c.loop-i.i _ _ c.fetch_source.new.column c.loop-i.invariant.reads same
    c.in_err-fetch_source.ensures.failed.0 c.in_err-fetch_source.ensures.failed.1)

pub returns-in_err-fetch_source-clause-cause : goal.returns-in_err-fetch_source-clause-cause
returns-in_err-fetch_source-clause-cause g c =
    let p = err_from_is_err_and c.from_residual.result c.from_residual.ensures.1 in
    let within : c.loop-i.i < length c.loop-i.columns = omega arith in
    let inside : c.loop-i.i < length c.args.columns.now = omega (arith, c.loop-i.auto.columns) in
    let e = at_old (has_column c.args.sources) c.args.columns.now c.loop-i.columns c.loop-i.i c.index-columns-i.result within c.index-columns-i.is c.loop-i.invariant.reads in
    let is : has_column c.args.sources c.loop-i.i ≡ true = sym c.has.ensures ∙ c.if-has.true in
    rw (p.1, p.2) (failed_cause (has_column c.args.sources) c.args.columns.now c.loop-i.i _ _ c.fetch_source.new.column.state.device.faults _
    c.in_err-fetch_source.ensures.failed.0 c.in_err-fetch_source.ensures.failed.1 inside is e c.in_err-fetch_source.ensures.cause.failed)

pub returns-in_err-fetch_source-clause-sure : goal.returns-in_err-fetch_source-clause-sure
returns-in_err-fetch_source-clause-sure g c = λ never.
    let p = err_from_is_err_and c.from_residual.result c.from_residual.ensures.1 in
    let within : c.loop-i.i < length c.loop-i.columns = omega arith in
    let inside : c.loop-i.i < length c.args.columns.now = omega (arith, c.loop-i.auto.columns) in
    let e = at_old (has_column c.args.sources) c.args.columns.now c.loop-i.columns c.loop-i.i c.index-columns-i.result within c.index-columns-i.is c.loop-i.invariant.reads in
    let is : has_column c.args.sources c.loop-i.i ≡ true = sym c.has.ensures ∙ c.if-has.true in
    rw p.1 (c.in_err-fetch_source.ensures.sure (ap (λ (x : Col). x.state.device.never_fails) e ∙ never c.loop-i.i inside is))

pub loop-i-preserved : goal.loop-i-preserved
loop-i-preserved g c =
    let chosen = has_column c.args.sources in
    let old = c.args.columns.now in
    let i = c.loop-i.i in
    let within : i < length c.loop-i.columns = omega arith in
    let inv = c.loop-i.invariant in
    elim c.if-has.branch [
      | then-has+in_ok-fetch_source w ↦
          let e = at_old chosen old c.loop-i.columns i w.index-columns-i.result within w.index-columns-i.is inv.reads in
          let is : chosen i ≡ true = sym c.has.ensures ∙ w.if-has.true in
          let same = same_kept w.fetch_source.new.column _ _ e w.fetch_source.ensures.same w.in_ok-fetch_source.ensures.cause.kept in
          rw w.columns-is (record {
            reads = ap (λ (cs : List Col). set cs i w.fetch_source.new.column) inv.reads ∙ were_read_more chosen old i w.fetch_source.new.column is same;
          })
      | else-has w ↦
          let not : chosen i ≡ false = sym c.has.ensures ∙ w.if-has.false in
          rw w.columns-is (record { reads = inv.reads ∙ were_read_skip chosen old i not })
    ]
