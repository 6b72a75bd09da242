use Rattle.std.proofs.Common.{◌≡◌, ◌++◌, false, sym, map, subst}
use Rattle.cod_chronicle.specs.Said.{is_over}
use Rattle.cod_seg.specs.Seg.{Col, Seg}
use Rattle.cod_seg.specs.Sound.{Sound}
use Rattle.cod_segment.specs.Events.{rebuild_rooms}
use Rattle.cod_segment.proofs.Balancing.{stays}
use Rattle.cod_update.proofs.Targeted.{balance_with, can_correct}
use Rattle.cod_update.proofs.correcting.correct.Goals as goal
use Rattle.cod_update.proofs.correcting.correct.Goals.{in-Some, in_default}

pub correct_rebuild-requires-clause-can : goal.correct_rebuild-requires-clause-can
correct_rebuild-requires-clause-can g c = λ t goal_is.
    let sound = subst Sound (sym c.segment.view_is) c.requires.sound in
    let few = subst (λ (x : Seg). is_over x.site x.log ≡ false) (sym c.segment.view_is) c.requires.few in
    let bench = subst (λ (x : Seg). c.args.bench.now ≡ x.site.shape) (sym c.segment.view_is) c.requires.bench in
    can_correct _ c.in-Some.rebuild t c.args.bench.now sound few bench c.in-Some.is goal_is

pub returns-clause-balance : goal.returns-clause-balance
returns-clause-balance g c = elim c.match-segment.branch [
  | in-Some w ↦
      rw (w.pools-is, w.segment-inside-is, ← c.segment.view_is)
      (balance_with (g.P.Pools.free c.args.pools.now) (g.P.Pools.free w.correct_rebuild.new.pools) c.segment.inside.columns c.segment.inside.rebuild w.in-Some.rebuild w.correct_rebuild.new.rebuild w.in-Some.is
      w.correct_rebuild.ensures.balance)
  | in_default w ↦
      rw (w.pools-is, w.segment-inside-is, ← c.segment.view_is) (stays (g.P.Pools.free c.args.pools.now) (rebuild_rooms c.segment.inside.rebuild ++ map (λ (d : Col). d.room) c.segment.inside.columns))
]
