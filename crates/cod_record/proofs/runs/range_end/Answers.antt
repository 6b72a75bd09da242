use Rattle.std.proofs.Common.{◌≡◌, ◌<◌, ◌≤◌, ◌-◌, ◌+◌, ◌⊎◌, length, inl, inr, arith}
use Rattle.cod_record.proofs.Zeros.{joins_first, joins_more, range_ends}
use Rattle.cod_record.proofs.runs.range_end.Goals as goal
use Rattle.cod_record.proofs.runs.range_end.Goals.{then-next-bytes-via-then-next-bytes, then-next-bytes-via-else-next-bytes+then-next-last-ge-RUN}

pub bytes-init : goal.bytes-init
bytes-init c = record {
  low = omega arith;
  high = c.requires.inside;
  some = c.requires.some;
  joins = joins_first c.args.bytes.now c.args.start c.requires.inside c.requires.some;
}

pub bytes-preserved : goal.bytes-preserved
bytes-preserved c =
    let bytes = c.args.bytes.now in
    let next = c.zeros_end-next in
    let within : next.result < length bytes = omega (arith, next.ensures.high, c.if-next-bytes.false) in
    record {
      low = omega (arith, c.bytes.invariant.low, next.ensures.low);
      high = within;
      some = next.ensures.some within;
      joins = joins_more bytes c.args.start c.bytes.last next.result c.bytes.invariant.joins c.bytes.invariant.low c.bytes.invariant.high c.bytes.invariant.some
          next.ensures.low within (next.ensures.some within) (omega (arith, c.if-next-last-ge-RUN.false)) next.ensures.zeros;
    }

pub returns-then-next-bytes-clause-first : goal.returns-then-next-bytes-clause-first
returns-then-next-bytes-clause-first c =
    let bytes = c.args.bytes.now in
    let next = c.zeros_end-next in
    let far : (next.result ≡ length bytes) ⊎ (8 ≤ next.result - (c.bytes.last + 1)) = elim c.then-next-bytes.branch [
      | then-next-bytes-via-then-next-bytes w ↦ inl w.if-next-bytes.true
      | then-next-bytes-via-else-next-bytes+then-next-last-ge-RUN w ↦ inr w.if-next-last-ge-RUN.true
    ] in
    range_ends bytes c.args.start c.bytes.last next.result c.bytes.invariant.joins c.bytes.invariant.low c.bytes.invariant.high c.bytes.invariant.some
    next.ensures.low next.ensures.high next.ensures.some far next.ensures.zeros
