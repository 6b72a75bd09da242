use Rattle.std.proofs.Common.{◌≡◌, None, length, take}
use Rattle.cod_stripe.specs.Sharing.{column_rooms, OwnedUpTo, Without}
use Rattle.cod_stripe.proofs.sharing.release_columns.Given as goal

abbrev pub invariant-columns : goal.invariant-columns
invariant-columns g l = record {
  owned : OwnedUpTo None l.col l.fn.columns l.columns;
  seat : Without (column_rooms (take l.col l.fn.columns)) l.seat l.fn.seat;
  count : l.count ≡ length l.fn.columns;
}
