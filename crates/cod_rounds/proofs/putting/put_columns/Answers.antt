use Rattle.std.proofs.Common.{◌<◌, ◌∙◌, refl, sym, ap, arith}
use Rattle.cod_chronicle.specs.Said.{Site}
use Rattle.cod_types.specs.Limits.{segment_length}
use Rattle.cod_seg.specs.Seg.{Seg}
use Rattle.cod_rounds.proofs.Filling.{given_may, given_more, given_none}
use Rattle.cod_rounds.proofs.putting.put_columns.Goals as goal

pub loop-col-init : goal.loop-col-init
loop-col-init g c = record { given = given_none c.args.bytes.now c.args.segment.now c.args.clock.now c.requires.sound; bench = refl }

pub put_column-requires-clause-turn : goal.put_column-requires-clause-turn
put_column-requires-clause-turn g c =
    let n = c.n-col-end.ensures ∙ ap (λ (x : Seg). x.site.shape.n) c.segment.view_is in
    let below : c.loop-col.col < c.args.segment.now.site.shape.n = (let t = c.loop-col-test.true in omega (arith, t, n)) in
    given_may c.args.bytes.now c.loop-col.col c.args.segment.now c.args.clock.now c.loop-col.segment c.loop-col.clock c.loop-col.invariant.given below c.requires.room

pub put_column-requires-clause-long : goal.put_column-requires-clause-long
put_column-requires-clause-long g c =
    let given = c.loop-col.invariant.given in
    c.requires.long ∙ sym (ap (λ (x : Seg). segment_length x.site.shape) given.becomes ∙ ap (λ (x : Site). segment_length x.shape) given.runs.site)

pub put_column-requires-clause-bench : goal.put_column-requires-clause-bench
put_column-requires-clause-bench g c =
    let given = c.loop-col.invariant.given in
    c.loop-col.invariant.bench ∙ c.requires.bench ∙ sym (ap (λ (x : Seg). x.site.shape) given.becomes ∙ ap (λ (x : Site). x.shape) given.runs.site)

pub loop-col-preserved : goal.loop-col-preserved
loop-col-preserved g c =
    let s = c.args.segment.now in
    let n = c.n-col-end.ensures ∙ ap (λ (x : Seg). x.site.shape.n) c.segment.view_is in
    let below : c.loop-col.col < s.site.shape.n = (let t = c.loop-col-test.true in omega (arith, t, n)) in
    record {
      given = given_more c.args.bytes.now c.loop-col.col s c.args.clock.now c.loop-col.segment c.loop-col.clock c.put_column.new.segment c.put_column.new.clock below c.loop-col.invariant.given
          c.put_column.ensures.turned;
      bench = c.put_column.ensures.bench ∙ c.loop-col.invariant.bench;
    }
