use Rattle.std.proofs.Common.{refl}
use Rattle.cod_kernel.proofs.Windows.{added_window}
use Rattle.cod_kernel.proofs.window.add_window.Goals as goal

pub returns-then-from-to : goal.returns-then-from-to
returns-then-from-to c = added_window c.args.window.now c.add.new.dst c.args.bytes.now c.args.off c.args.place c.max-from.result c.min-to.result _ _ _ _
    c.max-from.ensures c.min-to.ensures c.if-from-to.true refl refl refl refl c.add.ensures
