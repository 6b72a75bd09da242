use Rattle.std.proofs.Common.{◌≡◌, ◌+◌, take, ap, arith}
use Rattle.cod_record.specs.declared.parts.Head.{Head}
use Rattle.cod_record.proofs.Heads.{as_first, is_record, record_long, kind_is, record_here, head_here}
use Rattle.cod_record.proofs.first.read_record.Goals as goal
use Rattle.cod_record.proofs.first.read_record.Goals.{then-from-lt19-via-then-from-lt19, then-from-lt19-via-else-from-lt19+then-from-ne1}

pub returns-then-from-lt19-clause-none : goal.returns-then-from-lt19-clause-none
returns-then-from-lt19-clause-none c = λ r n is.
    let first = as_first r (take n c.args.from.now) is in
    let long = record_long c.args.from.now first.bytes first.head n first.is in
    let kind = kind_is c.args.from.now first.bytes first.head n first.is in
    elim c.then-from-lt19.branch [
      | then-from-lt19-via-then-from-lt19 w ↦ omega arith
      | then-from-lt19-via-else-from-lt19+then-from-ne1 w ↦ w.if-from-ne1.true kind
    ]

pub returns-in_default-clause-none : goal.returns-in_default-clause-none
returns-in_default-clause-none c = λ r n is.
    let first = as_first r (take n c.args.from.now) is in
    let long = record_long c.args.from.now first.bytes first.head n first.is in
    let same = head_here c.args.from.now first.bytes first.head n c.read_head-head.result first.is c.read_head-head.ensures.range c.read_head-head.ensures.text in
    let len : first.head.len ≡ c.read_head-head.result.len = ap (λ (k : Head). k.len) same in
    let found : c.in-Some.whole ≡ c.read_head-head.result.len + 19 = c.in-Some.ensures.1 in
    omega arith

pub returns-in_default-2-clause-none : goal.returns-in_default-2-clause-none
returns-in_default-2-clause-none c = λ r n is.
    let first = as_first r (take n c.args.from.now) is in
    let same = head_here c.args.from.now first.bytes first.head n c.read_head-head.result first.is c.read_head-head.ensures.range c.read_head-head.ensures.text in
    let len : first.head.len ≡ c.read_head-head.result.len = ap (λ (k : Head). k.len) same in
    c.in_default.ensures (omega (arith, first.is.fits.whole))

pub returns-in-Some-clause-found : goal.returns-in-Some-clause-found
returns-in-Some-clause-found c =
    is_record _ _ _ (record_here c.args.from.now c.read_head-head.result c.in-Some.whole c.read_head-head.ensures.range c.read_head-head.ensures.text
    (omega (arith, c.in-Some.ensures.1)) (omega (arith, c.in-Some.ensures.0, c.in-Some.ensures.1)) c.if-whole-from.true)
