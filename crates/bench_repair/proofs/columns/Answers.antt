use Rattle.bench_repair.proofs.Making.{pushed, pushed_count}
use Rattle.bench_repair.proofs.columns.Goals as goal

pub loop-col-preserved : goal.loop-col-preserved
loop-col-preserved c =
    let inv = c.loop-col.invariant in
    rw c.push.ensures (record {
      count = pushed_count c.loop-col.columns c.in_ok-column.column c.loop-col.col inv.count;
      made = pushed c.args.g c.loop-col.columns c.in_ok-column.column c.loop-col.col inv.count c.in_ok-column.ensures inv.made;
    })
