use Rattle.std.proofs.Common.{◌≤◌, length, refl, arith}
use Rattle.cod_repair.proofs.Lent.{added_lent, lent_long, set_lent}
use Rattle.cod_repair.proofs.lending.add_lent.Goals as goal

pub set_all_scaled-requires-clause-same_length : goal.set_all_scaled-requires-clause-same_length
set_all_scaled-requires-clause-same_length c =
    let enough : c.args.held ≤ length c.args.lent.now = omega (arith, c.requires.few, c.told-lent) in
    lent_long c.args.lent.now c.args.held (length c.args.into.now) enough c.requires.long

pub add_all_scaled-requires-clause-same_length : goal.add_all_scaled-requires-clause-same_length
add_all_scaled-requires-clause-same_length c =
    let enough : c.args.held ≤ length c.args.lent.now = omega (arith, c.requires.few, c.told-lent) in
    lent_long c.args.lent.now c.args.held (length c.args.into.now) enough c.requires.long

pub returns-then-fresh : goal.returns-then-fresh
returns-then-fresh c = λ x lt.
    let few : c.args.held ≤ length c.args.coefs.now = omega (arith, c.requires.few, c.told-coefs) in
    let enough : c.args.held ≤ length c.args.lent.now = omega (arith, c.requires.few, c.told-lent) in
    rw c.if-fresh.true (set_lent c.args.coefs.now c.args.into.now c.set_all_scaled.new.dst c.args.lent.now c.args.held (length c.args.into.now) few enough c.requires.long
    c.set_all_scaled.ensures x lt)

pub returns-else-fresh : goal.returns-else-fresh
returns-else-fresh c = λ x lt.
    let few : c.args.held ≤ length c.args.coefs.now = omega (arith, c.requires.few, c.told-coefs) in
    let enough : c.args.held ≤ length c.args.lent.now = omega (arith, c.requires.few, c.told-lent) in
    rw c.if-fresh.false (added_lent c.args.coefs.now c.args.into.now c.add_all_scaled.new.dst c.args.lent.now c.args.held (length c.args.into.now) few enough refl c.requires.long
    c.add_all_scaled.ensures x lt)
