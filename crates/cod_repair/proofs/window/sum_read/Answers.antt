use Rattle.std.proofs.Common.{◌≡◌, ◌∙◌, ◌+◌, ◌<◌, ℕ, List, length, length-set, set, true, false, sym, ap, arith}
use Rattle.std.proofs.lemmas.Result.{err_from_is_err_and}
use Rattle.cod_code.specs.Columns.{has_column}
use Rattle.cod_seg.specs.Seg.{Col}
use Rattle.cod_repair.specs.Pieces.{sum_of}
use Rattle.cod_repair.proofs.Reading.{were_read_more, were_read_skip}
use Rattle.cod_repair.proofs.Summing.{sum_of_skip}
use Rattle.cod_repair.proofs.Windows.{fits_more, source_more}
use Rattle.cod_repair.proofs.Valuing.{at_old, failed_cause, failed_reads, range_from, same_from, same_kept}
use Rattle.cod_repair.proofs.window.sum_read.Goals as goal
use Rattle.cod_repair.proofs.window.sum_read.Goals.{then-has+in_ok-read_source, else-has}

pub read_source-requires-clause-range : goal.read_source-requires-clause-range
read_source-requires-clause-range g c =
    let within : c.loop-i.i < length c.loop-i.columns = omega arith in
    let inside : c.loop-i.i < length c.args.columns.now = omega (arith, c.loop-i.auto.columns) in
    let is : has_column c.args.sources c.loop-i.i ≡ true = sym c.has.ensures ∙ c.if-has.true in
    let e = at_old (has_column c.args.sources) c.args.columns.now c.loop-i.columns c.loop-i.i c.index-columns-i.result within c.index-columns-i.is c.loop-i.invariant.reads in
    let size = c.settled.auto.into ∙ c.loop-i.auto.into in
    rw size (range_from c.args.off (length c.args.into.now) (length c.loop-i.scratch) (length c.args.scratch.now) _ _ e c.loop-i.auto.scratch (c.requires.range c.loop-i.i inside is))

pub returns-in_err-read_source-clause-reads : goal.returns-in_err-read_source-clause-reads
returns-in_err-read_source-clause-reads g c =
    let p = err_from_is_err_and c.from_residual.result c.from_residual.ensures.1 in
    let within : c.loop-i.i < length c.loop-i.columns = omega arith in
    let e = at_old (has_column c.args.sources) c.args.columns.now c.loop-i.columns c.loop-i.i c.index-columns-i.result within c.index-columns-i.is c.loop-i.invariant.reads in
    let same = same_from c.read_source.new.column.state.device.faults c.read_source.new.column _ _ e c.read_source.ensures.same in
    rw (p.1, p.2) (failed_reads (has_column c.args.sources) c.args.columns.now c.loop-i.columns c.loop-i.i _ _ c.read_source.new.column c.loop-i.invariant.reads same
    c.in_err-read_source.ensures.failed.0 c.in_err-read_source.ensures.failed.1)

pub returns-in_err-read_source-clause-cause : goal.returns-in_err-read_source-clause-cause
returns-in_err-read_source-clause-cause g c =
    let p = err_from_is_err_and c.from_residual.result c.from_residual.ensures.1 in
    let within : c.loop-i.i < length c.loop-i.columns = omega arith in
    let inside : c.loop-i.i < length c.args.columns.now = omega (arith, c.loop-i.auto.columns) in
    let e = at_old (has_column c.args.sources) c.args.columns.now c.loop-i.columns c.loop-i.i c.index-columns-i.result within c.index-columns-i.is c.loop-i.invariant.reads in
    let is : has_column c.args.sources c.loop-i.i ≡ true = sym c.has.ensures ∙ c.if-has.true in
    rw (p.1, p.2) (failed_cause (has_column c.args.sources) c.args.columns.now c.loop-i.i _ _ c.read_source.new.column.state.device.faults _
    c.in_err-read_source.ensures.failed.0 c.in_err-read_source.ensures.failed.1 inside is e c.in_err-read_source.ensures.cause.failed)

pub returns-in_err-read_source-clause-sure : goal.returns-in_err-read_source-clause-sure
returns-in_err-read_source-clause-sure g c = λ never.
    let p = err_from_is_err_and c.from_residual.result c.from_residual.ensures.1 in
    let within : c.loop-i.i < length c.loop-i.columns = omega arith in
    let inside : c.loop-i.i < length c.args.columns.now = omega (arith, c.loop-i.auto.columns) in
    let e = at_old (has_column c.args.sources) c.args.columns.now c.loop-i.columns c.loop-i.i c.index-columns-i.result within c.index-columns-i.is c.loop-i.invariant.reads in
    let is : has_column c.args.sources c.loop-i.i ≡ true = sym c.has.ensures ∙ c.if-has.true in
    rw p.1 (c.in_err-read_source.ensures.sure (ap (λ (x : Col). x.state.device.never_fails) e ∙ never c.loop-i.i inside is))

pub loop-i-preserved : goal.loop-i-preserved
loop-i-preserved g c =
    let chosen = has_column c.args.sources in
    let old = c.args.columns.now in
    let n = length c.args.into.now in
    let i = c.loop-i.i in
    let within : i < length c.loop-i.columns = omega arith in
    let inside : i < length old = omega (arith, c.loop-i.auto.columns) in
    let inv = c.loop-i.invariant in
    elim c.if-has.branch [
      | then-has+in_ok-read_source w ↦
          let e = at_old chosen old c.loop-i.columns i w.index-columns-i.result within w.index-columns-i.is inv.reads in
          let is : chosen i ≡ true = sym c.has.ensures ∙ w.if-has.true in
          let same = same_kept w.read_source.new.column _ _ e w.read_source.ensures.same w.in_ok-read_source.ensures.cause.kept in
          let size : length w.settled.new.into ≡ n = w.settled.auto.into ∙ c.loop-i.auto.into in
          let low = w.settled.ensures.few in
          let few : w.settled.result.0 < length c.loop-i.coefs = omega (arith, inv.wide, low) in
          let fits = rw (c.loop-i.auto.into, c.loop-i.auto.windows) at w.settled.ensures.fits in
          let kept = rw c.loop-i.auto.into at w.settled.ensures.same in
          let before = rw size at w.read_source.ensures.before in
          let value = rw size at w.in_ok-read_source.ensures.value in
          rw (w.columns-is, w.into-is, w.windows-is, w.coefs-is, w.held-is, w.fresh-is) (record {
            wide = length-set c.loop-i.coefs w.settled.result.0 _ ∙ inv.wide;
            few = omega (arith, low);
            fits = fits_more w.settled.result.0 n (length c.args.windows.now) fits;
            reads = ap (λ (cs : List Col). set cs i w.read_source.new.column) inv.reads ∙ were_read_more chosen old i w.read_source.new.column is same;
            sum = λ v all x lt.
                source_more w.settled.result.1 w.settled.new.into c.loop-i.coefs c.loop-i.windows w.read_source.new.windows c.args.row.now n w.settled.result.0 x i
                (λ (j : ℕ). v j (c.args.off + x)) few lt before (value (v i) (rw e (all i inside is)) x lt) (kept x lt ∙ inv.sum v all x lt);
          })
      | else-has w ↦
          let not : chosen i ≡ false = sym c.has.ensures ∙ w.if-has.false in
          let sixteen : i < 16 = omega (arith, c.requires.most) in
          rw (w.columns-is, w.into-is, w.windows-is, w.coefs-is, w.held-is, w.fresh-is) (record {
            wide = inv.wide;
            few = inv.few;
            fits = inv.fits;
            reads = inv.reads ∙ were_read_skip chosen old i not;
            sum = λ v all x lt. inv.sum v all x lt ∙ sum_of_skip c.args.row.now (λ (j : ℕ). v j (c.args.off + x)) i (c.requires.elsewhere i sixteen not);
          })
    ]

pub returns-clause-sum : goal.returns-clause-sum
returns-clause-sum g c = λ v all x lt.
    let n : c.loop-i.i ≡ length c.args.columns.now = omega (arith, c.loop-i.auto.columns) in
    let added = rw c.loop-i.auto.into at c.add_windows.ensures in
    added x lt ∙ c.loop-i.invariant.sum v all x lt ∙ ap (sum_of c.args.row.now (λ (j : ℕ). v j (c.args.off + x))) n
