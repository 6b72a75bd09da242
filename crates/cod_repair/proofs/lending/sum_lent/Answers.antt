use Rattle.std.proofs.Common.{◌≡◌, ◌∙◌, ◌+◌, ◌<◌, ℕ, length, length-set, true, false, sym, ap, arith}
use Rattle.std.proofs.lemmas.List.{get_or_read}
use Rattle.cod_code.specs.Columns.{has_column}
use Rattle.cod_seg.specs.Seg.{no_col}
use Rattle.cod_repair.specs.Pieces.{sum_of}
use Rattle.cod_repair.proofs.Lent.{lent_more, long_fewer, long_more, nows}
use Rattle.cod_repair.proofs.Summing.{sum_of_skip}
use Rattle.cod_repair.proofs.lending.sum_lent.Goals as goal
use Rattle.cod_repair.proofs.lending.sum_lent.Goals.{then-has, else-has}

pub loop-i-preserved : goal.loop-i-preserved
loop-i-preserved g c =
    let cols = c.args.columns.now in
    let n = length c.args.into.now in
    let i = c.loop-i.i in
    let within : i < length cols = c.loop-i-test.true in
    let inv = c.loop-i.invariant in
    elim c.if-has.branch [
      | then-has w ↦
          let e = get_or_read cols i w.index-columns-i.result within w.index-columns-i.is no_col in
          let is : has_column c.args.sources i ≡ true = sym c.has.ensures ∙ w.if-has.true in
          let held = w.settled.result.0 in
          let low = w.settled.ensures.few in
          let size : length w.settled.new.into ≡ n = w.settled.auto.into ∙ c.loop-i.auto.into in
          let few : held < length c.loop-i.coefs = omega (arith, inv.wide, low) in
          let there : held < length c.loop-i.lent = omega (arith, inv.places, low) in
          let same = rw c.loop-i.auto.into at w.settled.ensures.same in
          let value = rw size at w.lent.ensures.value in
          rw (w.into-is, w.coefs-is, w.lent-is, w.held-is, w.fresh-is) (record {
            wide = length-set c.loop-i.coefs held _ ∙ inv.wide;
            places = length-set c.loop-i.lent held _ ∙ inv.places;
            few = omega (arith, low);
            long = long_more c.loop-i.lent held n w.lent.result there (w.lent.ensures.length ∙ size) (long_fewer (nows c.loop-i.lent) c.loop-i.held held n w.settled.ensures.held inv.long);
            sum = λ cuts kept v have plain x lt.
                lent_more w.settled.result.1 w.settled.new.into c.loop-i.coefs c.args.row.now c.loop-i.lent w.lent.result held x i (λ (j : ℕ). v j (c.args.off + x)) few there
                (value cuts (kept i) (v i) (rw e (have i within is)) (rw e (plain i within is)) x lt) (same x lt ∙ inv.sum cuts kept v have plain x lt);
          })
      | else-has w ↦
          let not : has_column c.args.sources i ≡ false = sym c.has.ensures ∙ w.if-has.false in
          let sixteen : i < 16 = omega (arith, within, c.requires.most) in
          rw (w.into-is, w.coefs-is, w.lent-is, w.held-is, w.fresh-is) (record {
            wide = inv.wide;
            places = inv.places;
            few = inv.few;
            long = inv.long;
            sum = λ cuts kept v have plain x lt.
                inv.sum cuts kept v have plain x lt ∙ sum_of_skip c.args.row.now (λ (j : ℕ). v j (c.args.off + x)) i (c.requires.elsewhere i sixteen not);
          })
    ]

pub add_lent-requires-clause-long : goal.add_lent-requires-clause-long
add_lent-requires-clause-long g c = rw c.loop-i.auto.into c.loop-i.invariant.long

pub returns : goal.returns
returns g c = record {
  sum = λ cuts kept v have plain x lt.
      let n : c.loop-i.i ≡ length c.args.columns.now = (let e = c.loop-i.auto.i-end in let t = c.loop-i-test.false in omega (arith, e, t)) in
      let added = rw c.loop-i.auto.into at c.add_lent.ensures in
      added x lt ∙ c.loop-i.invariant.sum cuts kept v have plain x lt ∙ ap (sum_of c.args.row.now (λ (j : ℕ). v j (c.args.off + x))) n;
}
