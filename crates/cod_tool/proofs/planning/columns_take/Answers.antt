use Rattle.std.proofs.Common.{◌≡◌, ℕ, arith}
use Rattle.cod_script.specs.Room.{column_on}
use Rattle.cod_tool.proofs.Sums.{sums_more}
use Rattle.cod_tool.proofs.planning.columns_take.Goals as goal

pub loop-col-preserved : goal.loop-col-preserved
loop-col-preserved c =
    let x = c.args.names.now in
    let f : ℕ → ℕ = column_on x.shape x.nodes c.args.node c.args.seg in
    let i = c.loop-col.invariant in
    let here : c.column_takes-size.result ≡ f c.loop-col.col = c.column_takes-size.ensures.size in
    record { sum = omega (arith, here, sums_more f c.loop-col.col, i.sum); most = omega (arith, i.most, c.column_takes-size.ensures.most) }
