use Rattle.std.proofs.Common.{◌<◌, List, length, ap, arith}
use Rattle.cod_seg.specs.Seg.{Col}
use Rattle.cod_repair.proofs.Naming.{old_col}
use Rattle.cod_repair.proofs.columns.Columns.release.Goals as goal

pub release-requires-clause-room : goal.release-requires-clause-room
release-requires-clause-room g c =
    let items = c.self.inside.slots.items in
    let within : c.args.col < length items = (let n = ap (λ (cs : List Col). length cs) c.self.view_is in let r = c.requires.col in omega (arith, n, r)) in
    rw (old_col items c.args.self.now c.args.col c.index_mut.result.now within c.index_mut.ensures.value c.self.view_is) c.requires.room
