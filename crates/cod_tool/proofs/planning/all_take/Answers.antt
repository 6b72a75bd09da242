use Rattle.std.proofs.Common.{◌≡◌, ℕ, arith}
use Rattle.cod_script.specs.Room.{taken_by}
use Rattle.cod_tool.proofs.Sums.{sums_more}
use Rattle.cod_tool.proofs.planning.all_take.Goals as goal

pub loop-seg-preserved : goal.loop-seg-preserved
loop-seg-preserved c =
    let f : ℕ → ℕ = taken_by c.args.names.now.shape c.args.names.now.nodes c.args.node in
    let i = c.loop-seg.invariant in
    let here : c.columns_take-size.result ≡ f c.loop-seg.seg = c.columns_take-size.ensures.size in
    record { sum = omega (arith, here, sums_more f c.loop-seg.seg, i.sum); most = omega (arith, i.most, c.columns_take-size.ensures.most) }
