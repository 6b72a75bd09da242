use Rattle.std.proofs.Common.{rules, ◌≡◌, ◌≤◌, ◌-◌, arith, get_or}
use Rattle.std.proofs.lemmas.Grind.{common_steps}
use Rattle.cod_words.proofs.Digits.{so_far_more}
use Rattle.cod_words.proofs.word.word_number.Goals as goal

pub loop-b-preserved : goal.loop-b-preserved
loop-b-preserved c =
    let low : 48 ≤ get_or c.args.w.now c.loop-b.b-index 0 = grind (arith, common_steps) in
    let high : get_or c.args.w.now c.loop-b.b-index 0 ≤ 57 = grind (arith, common_steps) in
    let e : c.from.result ≡ get_or c.args.w.now c.loop-b.b-index 0 - 48 = search rules in
    rw e (so_far_more c.args.w.now c.loop-b.b-index c.loop-b.value c.loop-b-test.true low high c.loop-b.invariant)
