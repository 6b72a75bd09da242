use Rattle.std.proofs.Common.{◌≡◌, ap, arith}
use Rattle.cod_record.specs.declared.parts.Found.{Found}
use Rattle.cod_parity.proofs.Records.{found_as, found_some, front, some_pair}
use Rattle.cod_parity.proofs.log.next_record.Goals as goal

pub returns-in-Ok-clause-some : goal.returns-in-Ok-clause-some
returns-in-Ok-clause-some c = found_some c.in-Ok.found c.in-Ok.len c.args.bytes.now c.in-Ok.ensures.found

pub returns-in-Ok-clause-only : goal.returns-in-Ok-clause-only
returns-in-Ok-clause-only c = λ l rest is few front_is.
    found_as c.in-Ok.found c.in-Ok.len l c.read_any.result c.in-Ok.is (c.read_any.ensures.only l.version l.whole _ (front c.args.bytes.now rest l is front_is))

pub returns-in_default-clause-only : goal.returns-in_default-clause-only
returns-in_default-clause-only c = λ l rest is few front_is.
    let same = found_as c.in-Ok.found c.in-Ok.len l c.read_any.result c.in-Ok.is (c.read_any.ensures.only l.version l.whole _ (front c.args.bytes.now rest l is front_is)) in
    let block : c.in-Ok.found.block ≡ l.whole.block = ap (λ (f : Found). f.block) (some_pair _ _ same).0 in
    absurd (omega (arith, block, c.if-found-lt16.false))

pub returns-in_default-2-clause-only : goal.returns-in_default-2-clause-only
returns-in_default-2-clause-only c = λ l rest is few front_is.
    let same = c.read_any.ensures.only l.version l.whole _ (front c.args.bytes.now rest l is front_is) in
    let wrong : ⊥ = cc in absurd wrong
