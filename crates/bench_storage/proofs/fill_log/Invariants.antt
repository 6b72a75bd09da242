use Rattle.std.proofs.Common.{◌≡◌, false}
use Rattle.std.specs.Option.{is_some}
use Rattle.bench_storage.proofs.fill_log.Given as goal

abbrev pub invariant-loop-i : goal.invariant-loop-i
invariant-loop-i l = record {
  untold : is_some l.column.device.content ≡ false;
  shape : l.column.shape ≡ l.g;
}
