use Rattle.std.proofs.Common.{◌+◌, ap, arith}
use Rattle.cod_record.proofs.Lengths.{all_left, len_left, more_left, room_left, start_left}
use Rattle.cod_record.proofs.sparse.sparse_len.Goals as goal

pub runs-init : goal.runs-init
runs-init c = λ off. start_left c.args.bytes.now off c.zeros_end-at.result c.zeros_end-at.ensures.high c.zeros_end-at.ensures.some c.zeros_end-at.ensures.zeros

pub range_end-end-requires-clause-some : goal.range_end-end-requires-clause-some
range_end-end-requires-clause-some c = (c.runs.invariant 0).some c.runs-test.true

pub overflow_add-len-in-runs : goal.overflow_add-len-in-runs
overflow_add-len-in-runs c =
    let end = c.range_end-end in
    let room = room_left c.args.bytes.now 0 c.runs.at c.runs.len end.result (c.runs.invariant 0) end.ensures.low end.ensures.high (end.ensures.first 0) in
    omega (arith, room, c.requires)

pub runs-preserved : goal.runs-preserved
runs-preserved c =
    let end = c.range_end-end in
    let next = c.zeros_end-at-in-runs in
    λ off. more_left c.args.bytes.now off c.runs.at c.runs.len end.result next.result (c.runs.invariant off) end.ensures.low end.ensures.high next.ensures.low next.ensures.high
    next.ensures.some (end.ensures.first off) next.ensures.zeros

pub overflow_add-result : goal.overflow_add-result
overflow_add-result c = omega (arith, len_left c.args.bytes.now 0 c.runs.at c.runs.len (c.runs.invariant 0), c.requires)

pub overflow_cast-result : goal.overflow_cast-result
overflow_cast-result c = omega (arith, len_left c.args.bytes.now 0 c.runs.at c.runs.len (c.runs.invariant 0), c.requires)

pub returns-clause-len : goal.returns-clause-len
returns-clause-len c = λ off. ap (λ n. 13 + n) (all_left c.args.bytes.now off c.runs.at c.runs.len (c.runs.invariant off) c.runs-test.false)

pub returns-clause-most : goal.returns-clause-most
returns-clause-most c = omega (arith, len_left c.args.bytes.now 0 c.runs.at c.runs.len (c.runs.invariant 0))
