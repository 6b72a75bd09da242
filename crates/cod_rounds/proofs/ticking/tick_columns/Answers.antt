use Rattle.std.proofs.Common.{◌<◌, [], ◌∙◌, refl, sym, ap, subst, arith, append-nil}
use Rattle.cod_chronicle.specs.Said.{Site}
use Rattle.cod_segment.specs.Events.{rooms_of}
use Rattle.cod_segment.proofs.Balancing.{stays, then}
use Rattle.cod_seg.specs.Seg.{Seg}
use Rattle.cod_rounds.proofs.Cutting.{round_fits}
use Rattle.cod_rounds.proofs.Passing.{tended_may, tended_more, tended_none}
use Rattle.cod_rounds.proofs.ticking.tick_columns.Goals as goal

pub loop-col-init : goal.loop-col-init
loop-col-init g c =
    let k = c.k-col.ensures.value ∙ ap (λ (x : Seg). x.site.shape.k) c.segment.view_is in
    record {
      tended = rw k (tended_none c.args.segment.now c.args.clock.now c.requires.sound);
      rooms = λ rest came. came;
      balance = stays (g.P.Pools.free c.args.pools.now) (rooms_of c.args.segment.now);
      pools = (refl, c.requires.pools.0, g.met.P.Pools.same_self c.args.pools.now);
      bench = refl;
    }

pub tick_column-requires-clause-turn : goal.tick_column-requires-clause-turn
tick_column-requires-clause-turn g c =
    let n = c.n-col-end.ensures ∙ ap (λ (x : Seg). x.site.shape.n) c.segment.view_is in
    let below : c.loop-col.col < c.args.segment.now.site.shape.n = (let t = c.loop-col-test.true in omega (arith, t, n)) in
    tended_may c.loop-col.col c.args.segment.now c.args.clock.now c.loop-col.segment c.loop-col.clock c.loop-col.invariant.tended below c.requires.room

pub tick_column-requires-clause-parity : goal.tick_column-requires-clause-parity
tick_column-requires-clause-parity g c =
    let round = c.loop-col.invariant.tended in
    let from = round.from in
    rw (round.runs.site) (omega (arith, from))

pub tick_column-requires-clause-floor : goal.tick_column-requires-clause-floor
tick_column-requires-clause-floor g c = λ up.
    let n = c.n-col-end.ensures ∙ ap (λ (x : Seg). x.site.shape.n) c.segment.view_is in
    let below : c.loop-col.col < c.args.segment.now.site.shape.n = (let t = c.loop-col-test.true in omega (arith, t, n)) in
    round_fits c.loop-col.col c.args.segment.now c.args.clock.now c.loop-col.segment c.loop-col.clock c.requires.sound c.requires.few below c.loop-col.invariant.tended up

pub tick_column-requires-clause-pools : goal.tick_column-requires-clause-pools
tick_column-requires-clause-pools g c = (
  c.loop-col.invariant.pools.1,
  subst (g.P.Pools.Came c.loop-col.pools) (append-nil (rooms_of c.loop-col.segment)) (c.loop-col.invariant.rooms []
      (subst (g.P.Pools.Came c.args.pools.now) (sym (append-nil (rooms_of c.args.segment.now))) c.requires.pools.1)),
)

pub tick_column-requires-clause-bench : goal.tick_column-requires-clause-bench
tick_column-requires-clause-bench g c =
    c.loop-col.invariant.bench ∙ c.requires.bench ∙ sym (ap (λ (x : Site). x.shape) c.loop-col.invariant.tended.runs.site)

pub loop-col-preserved : goal.loop-col-preserved
loop-col-preserved g c =
    let s = c.args.segment.now in
    let n = c.n-col-end.ensures ∙ ap (λ (x : Seg). x.site.shape.n) c.segment.view_is in
    let below : c.loop-col.col < s.site.shape.n = (let t = c.loop-col-test.true in omega (arith, t, n)) in
    let is = c.loop-col.invariant in
    let done = c.tick_column.ensures in
    record {
      tended = tended_more c.loop-col.col s c.args.clock.now c.loop-col.segment c.loop-col.clock c.tick_column.new.segment c.tick_column.new.clock below is.tended done.turned;
      rooms = λ rest came. done.rooms rest (is.rooms rest came);
      balance = then (g.P.Pools.free c.args.pools.now) (g.P.Pools.free c.loop-col.pools) (g.P.Pools.free c.tick_column.new.pools) (rooms_of s) (rooms_of c.loop-col.segment)
          (rooms_of c.tick_column.new.segment) is.balance done.balance;
      pools = (done.pools.0 ∙ is.pools.0, done.pools.1, g.met.P.Pools.same_later c.args.pools.now c.loop-col.pools c.tick_column.new.pools is.pools.2 done.pools.2);
      bench = done.bench ∙ is.bench;
    }
