use Rattle.std.proofs.Common.{◌≡◌, ◌∙◌, ◌<◌, ◌≤◌, length, refl, arith, length-set}
use Rattle.cod_repair.proofs.Encoding.{part, parts_more, sources_long}
use Rattle.cod_repair.proofs.Windows.{added_windows, set_windows}
use Rattle.cod_repair.proofs.window.add_windows.Goals as goal

pub loop-j-preserved : goal.loop-j-preserved
loop-j-preserved c =
    let few : c.loop-j.j < length c.loop-j.sources = (let t = c.loop-j-test.true in omega (arith, c.loop-j.invariant.wide, t, c.requires.few)) in
    record {
      wide = length-set c.loop-j.sources c.loop-j.j _ ∙ c.loop-j.invariant.wide;
      each = parts_more c.loop-j.sources c.loop-j.j _ (part (length c.args.into.now) c.args.windows.now) few refl c.loop-j.invariant.each;
    }

pub set_all_scaled-requires-clause-same_length : goal.set_all_scaled-requires-clause-same_length
set_all_scaled-requires-clause-same_length c =
    let all : c.loop-j.j ≡ c.args.held = (let e = c.loop-j.auto.j-end in let t = c.loop-j-test.false in omega (arith, e, t)) in
    sources_long c.args.windows.now c.args.held (length c.args.into.now) _ c.requires.held (rw all at c.loop-j.invariant.each)

pub add_all_scaled-requires-clause-same_length : goal.add_all_scaled-requires-clause-same_length
add_all_scaled-requires-clause-same_length c =
    let all : c.loop-j.j ≡ c.args.held = (let e = c.loop-j.auto.j-end in let t = c.loop-j-test.false in omega (arith, e, t)) in
    sources_long c.args.windows.now c.args.held (length c.args.into.now) _ c.requires.held (rw all at c.loop-j.invariant.each)

pub returns-then-fresh : goal.returns-then-fresh
returns-then-fresh c = λ x lt.
    let all : c.loop-j.j ≡ c.args.held = (let e = c.loop-j.auto.j-end in let t = c.loop-j-test.false in omega (arith, e, t)) in
    let few : c.args.held ≤ length c.args.coefs.now = omega (arith, c.requires.few, c.told-coefs) in
    rw c.if-fresh.true (set_windows c.args.coefs.now c.args.windows.now c.args.into.now c.set_all_scaled.new.dst _ (length c.args.into.now) c.args.held few c.requires.held
    (rw all at c.loop-j.invariant.each) c.set_all_scaled.ensures x lt)

pub returns-else-fresh : goal.returns-else-fresh
returns-else-fresh c = λ x lt.
    let all : c.loop-j.j ≡ c.args.held = (let e = c.loop-j.auto.j-end in let t = c.loop-j-test.false in omega (arith, e, t)) in
    let few : c.args.held ≤ length c.args.coefs.now = omega (arith, c.requires.few, c.told-coefs) in
    rw c.if-fresh.false (added_windows c.args.coefs.now c.args.windows.now c.args.into.now c.add_all_scaled.new.dst _ (length c.args.into.now) c.args.held few c.requires.held refl
    (rw all at c.loop-j.invariant.each) c.add_all_scaled.ensures x lt)
