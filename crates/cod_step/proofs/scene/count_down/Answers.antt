use Rattle.std.proofs.Common.{arith}
use Rattle.std.specs.Prelude.{not}
use Rattle.cod_step.specs.Live.{count_down, is_live}
use Rattle.cod_step.proofs.Counting.{counted}
use Rattle.cod_step.proofs.scene.count_down.Goals as goal

pub loop-i-preserved : goal.loop-i-preserved
loop-i-preserved c =
    let is = counted (λ m. not (is_live c.args.live.now m)) c.loop-i.count c.down_at-count.result c.loop-i.i c.args.n
    (count_down c.args.live.now c.args.n) (omega arith) c.down_at-count.ensures c.loop-i.invariant.few c.loop-i.invariant.rest in
    record { few = is.few; rest = is.all }
