use Rattle.std.proofs.Common.{◌≡◌, ◌<◌, ◌≤◌, length, get_or, true, false, arith}
use Rattle.cod_code.specs.Choosing.{is_lowest, marked_below}
use Rattle.cod_code.proofs.LowestBits.{bits_all, bits_bound, bits_more, bits_skip, bound_skip, enough, is_next, marked_less, marked_more, marked_skip, not_marked, sources_count}
use Rattle.cod_code.proofs.choosing.lowest.Goals as goal
use Rattle.cod_code.proofs.choosing.lowest.Goals.{then-left-gt0+then-marks-j, else-left-gt0, else-left-gt0-via-then-left-gt0+else-marks-j, else-left-gt0-via-else-left-gt0}

pub loop-j-preserved : goal.loop-j-preserved
loop-j-preserved c =
    let marks = c.args.marks.now in
    let i = c.loop-j.j in
    let within : i < length marks = omega arith in
    let small : i < 16 = omega (arith, c.requires.most) in
    let old = c.loop-j.invariant.left in
    let src = is_lowest c.args.count marks in
    elim c.if-left-gt0.branch [
      | then-left-gt0+then-marks-j w ↦
          let is : get_or marks i false ≡ true = w.if-marks-j.true in
          let few : marked_below marks i < c.args.count = omega (arith, old, w.if-left-gt0.true) in
          let more = marked_more marks i is in
          rw (w.sources-is, w.left-is) (record {
            bits = bits_more src c.loop-j.sources i small (is_next c.args.count marks i is few) c.loop-j.invariant.bits;
            bound = bits_bound c.loop-j.sources i c.loop-j.invariant.bound;
            left = omega (arith, more, old);
          })
      | else-left-gt0 w ↦ rw (w.sources-is, w.left-is) (elim w.else-left-gt0.branch [
        | else-left-gt0-via-then-left-gt0+else-marks-j u ↦
            let down : get_or marks i false ≡ false = u.if-marks-j.false in
            let same = marked_skip marks i down in
            record {
              bits = bits_skip src c.loop-j.sources i (not_marked c.args.count marks i down) c.loop-j.invariant.bits;
              bound = bound_skip c.loop-j.sources i c.loop-j.invariant.bound;
              left = omega (arith, same, old);
            }
        | else-left-gt0-via-else-left-gt0 u ↦
            let many : c.args.count ≤ marked_below marks i = omega (arith, old, u.if-left-gt0.false) in
            let less = marked_less marks i in
            record {
              bits = bits_skip src c.loop-j.sources i (enough c.args.count marks i many) c.loop-j.invariant.bits;
              bound = bound_skip c.loop-j.sources i c.loop-j.invariant.bound;
              left = omega (arith, less, old, many);
            }
      ])
    ]

pub returns-clause-count : goal.returns-clause-count
returns-clause-count c =
    let n : c.loop-j.j ≡ length c.args.marks.now = omega arith in
    let bits = rw n at c.loop-j.invariant.bits in
    let bound = rw n at c.loop-j.invariant.bound in
    sources_count c.args.count c.args.marks.now c.loop-j.sources c.requires.enough bound (bits_all c.args.count c.args.marks.now c.loop-j.sources bits)
