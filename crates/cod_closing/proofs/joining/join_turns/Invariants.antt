use Rattle.std.proofs.Common.{◌≡◌, length, take}
use Rattle.cod_closing.proofs.Seats.{BothFrom}
use Rattle.cod_closing.proofs.joining.join_turns.Given as goal

abbrev pub invariant-seats : goal.invariant-seats
invariant-seats g l = record {
  both : BothFrom (length l.others.items) l.fn.firsts.items l.fn.others.items l.firsts.items;
  front : l.others.items ≡ take (length l.others.items) l.fn.others.items;
}

abbrev pub decreases-seats : goal.decreases-seats
decreases-seats g l = length l.others.items
