use Rattle.std.proofs.Common.{◌<◌, length, arith}
use Rattle.cod_code.proofs.LowestBits.{marked_more, marked_skip}
use Rattle.cod_code.proofs.choosing.marked.Goals as goal
use Rattle.cod_code.proofs.choosing.marked.Goals.{then-marks-j, else-marks-j}

pub loop-j-preserved : goal.loop-j-preserved
loop-j-preserved c =
    let marks = c.args.marks.now in
    let i = c.loop-j.j in
    let within : i < length marks = omega arith in
    elim c.if-marks-j.branch [
      | then-marks-j w ↦
          let more = marked_more marks i (w.if-marks-j.true) in
          rw w.count-is (record { few = omega (arith, c.loop-j.invariant.few); counted = omega (arith, more, c.loop-j.invariant.counted) })
      | else-marks-j w ↦
          let same = marked_skip marks i (w.if-marks-j.false) in
          rw w.count-is (record { few = omega (arith, c.loop-j.invariant.few); counted = omega (arith, same, c.loop-j.invariant.counted) })
    ]
