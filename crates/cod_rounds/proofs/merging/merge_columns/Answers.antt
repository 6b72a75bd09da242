use Rattle.std.proofs.Common.{◌<◌, ◌∙◌, refl, sym, ap, arith}
use Rattle.cod_chronicle.specs.Said.{Site}
use Rattle.cod_seg.specs.Seg.{Seg}
use Rattle.cod_rounds.specs.Turns.{IsMerged, IsTended}
use Rattle.cod_rounds.proofs.Passing.{rooms_stay, tended_may, tended_more, tended_none, turned_by}
use Rattle.cod_rounds.proofs.merging.merge_columns.Goals as goal

pub loop-col-init : goal.loop-col-init
loop-col-init g c =
    let k = c.k-col.ensures.value ∙ ap (λ (x : Seg). x.site.shape.k) c.segment.view_is in
    record { tended = rw k (tended_none c.args.segment.now c.args.clock.now c.requires.sound); rooms = refl; bench = refl }

pub merge_column-requires-clause-turn : goal.merge_column-requires-clause-turn
merge_column-requires-clause-turn g c =
    let n = c.n-col-end.ensures ∙ ap (λ (x : Seg). x.site.shape.n) c.segment.view_is in
    let below : c.loop-col.col < c.args.segment.now.site.shape.n = (let t = c.loop-col-test.true in omega (arith, t, n)) in
    tended_may c.loop-col.col c.args.segment.now c.args.clock.now c.loop-col.segment c.loop-col.clock c.loop-col.invariant.tended below c.requires.room

pub merge_column-requires-clause-parity : goal.merge_column-requires-clause-parity
merge_column-requires-clause-parity g c =
    let round = c.loop-col.invariant.tended in
    let from = round.from in
    rw (round.runs.site) (omega (arith, from))

pub merge_column-requires-clause-bench : goal.merge_column-requires-clause-bench
merge_column-requires-clause-bench g c =
    c.loop-col.invariant.bench ∙ c.requires.bench ∙ sym (ap (λ (x : Site). x.shape) c.loop-col.invariant.tended.runs.site)

pub loop-col-preserved : goal.loop-col-preserved
loop-col-preserved g c =
    let s = c.args.segment.now in
    let u = c.loop-col.segment in
    let n = c.n-col-end.ensures ∙ ap (λ (x : Seg). x.site.shape.n) c.segment.view_is in
    let below : c.loop-col.col < s.site.shape.n = (let t = c.loop-col-test.true in omega (arith, t, n)) in
    let round = c.loop-col.invariant.tended in
    let turn = c.merge_column.ensures.turned in
    let merged = IsMerged u.site.shape u.frail u.cuts c.loop-col.col in
    record {
      tended = tended_more c.loop-col.col s c.args.clock.now u c.loop-col.clock c.merge_column.new.segment c.merge_column.new.clock below round
          (turned_by merged (IsTended u.site.shape u.frail u.cuts c.loop-col.col) c.loop-col.col u c.loop-col.clock c.merge_column.new.segment c.merge_column.new.clock (λ old new is. is.tends) turn);
      rooms = (rooms_stay merged c.loop-col.col u c.loop-col.clock c.merge_column.new.segment c.merge_column.new.clock (λ new is. is.room) turn).1 ∙ c.loop-col.invariant.rooms;
      bench = c.merge_column.ensures.bench ∙ c.loop-col.invariant.bench;
    }
