use Rattle.std.proofs.Common.{◌≡◌, ◌∙◌, ◌*◌, ◌<◌, ◌≤◌, ℕ, length, refl, ap, arith, length-set}
use Rattle.cod_code.specs.Columns.{row_at}
use Rattle.cod_repair.proofs.Encoding.{encoded, part, parts_more, sources_long}
use Rattle.cod_repair.proofs.bench.encode.Goals as goal

pub loop-j-preserved : goal.loop-j-preserved
loop-j-preserved c =
    let few : c.loop-j.j < length c.loop-j.sources = (let t = c.loop-j-test.true in let k = c.k-data.ensures.value in let w = c.k-data.ensures.within in
    let a = w.data_among_columns in let b = w.most_columns in omega (arith, c.loop-j.invariant.wide, t, k, a, b)) in
    record {
      wide = length-set c.loop-j.sources c.loop-j.j _ ∙ c.loop-j.invariant.wide;
      each = parts_more c.loop-j.sources c.loop-j.j _ (part c.block-block.result c.args.segment.now) few refl c.loop-j.invariant.each;
    }

pub set_all_scaled-requires-clause-same_length : goal.set_all_scaled-requires-clause-same_length
set_all_scaled-requires-clause-same_length c =
    let all : c.loop-j.j ≡ c.k-data.result = (let e = c.loop-j.auto.j-end in let t = c.loop-j-test.false in omega (arith, e, t)) in
    let long : c.args.g.now.k * c.args.g.now.block ≤ length c.args.segment.now = omega (arith, c.requires.segment) in
    let each = rw (all, c.block-block.ensures, c.k-data.ensures.value) at c.loop-j.invariant.each in
    rw (c.requires.room, c.k-data.ensures.value) (sources_long c.args.segment.now c.args.g.now.k c.args.g.now.block _ long each)

pub returns : goal.returns
returns c =
    let g = c.args.g.now in
    let w = c.k-data.ensures.within in
    let all : c.loop-j.j ≡ c.k-data.result = (let e = c.loop-j.auto.j-end in let t = c.loop-j-test.false in omega (arith, e, t)) in
    let each = rw (all, c.block-block.ensures, c.k-data.ensures.value) at c.loop-j.invariant.each in
    let row : c.row-row.result ≡ row_at g.k c.args.col = c.row-row.ensures.places ∙ ap (λ (k : ℕ). row_at k c.args.col) c.requires.least in
    let few : g.k ≤ 16 = (let a = w.data_among_columns in let b = w.most_columns in omega (arith, a, b)) in
    let size = c.set_all_scaled.auto.dst ∙ c.requires.room in
    let is = rw (c.requires.room, c.k-data.ensures.value) at c.set_all_scaled.ensures in
    encoded g.k g.block c.args.col c.args.segment.now c.set_all_scaled.new.dst c.row-row.result _ few size row c.requires.segment each is
