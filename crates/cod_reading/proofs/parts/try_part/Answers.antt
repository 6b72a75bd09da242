use Rattle.std.proofs.Common.{◌≡◌, List, length, false, ap, subst}
use Rattle.cod_seg.specs.Seg.{Col, col_at, Seg}
use Rattle.cod_reading.proofs.Fetching.{brought, failed_down, has_failed}
use Rattle.cod_reading.proofs.parts.try_part.Goals as goal

pub may_fail-requires-clause-col : goal.may_fail-requires-clause-col
may_fail-requires-clause-col g c =
    let e = c.in-Err.ensures.cause in
    let h = has_failed c.args.segment.now c.fetch.new.segment c.args.block c.in-Err.failed.col c.in-Err.failed.count c.args.off (length c.args.into.now) c.requires.may e.0 e.1 c.in-Err.ensures.reads in
    let cols : c.segment.inside.columns ≡ c.fetch.new.segment.cols = ap (λ (x : Seg). x.cols) c.segment.view_is in
    rw cols h.within

pub may_fail-requires-clause-some : goal.may_fail-requires-clause-some
may_fail-requires-clause-some g c =
    let e = c.in-Err.ensures.cause in
    let h = has_failed c.args.segment.now c.fetch.new.segment c.args.block c.in-Err.failed.col c.in-Err.failed.count c.args.off (length c.args.into.now) c.requires.may e.0 e.1 c.in-Err.ensures.reads in
    let cols : c.segment.inside.columns ≡ c.fetch.new.segment.cols = ap (λ (x : Seg). x.cols) c.segment.view_is in
    rw (cols, h.faults) e.2

pub mark_fault-requires-clause-col : goal.mark_fault-requires-clause-col
mark_fault-requires-clause-col g c =
    let e = c.in-Err.ensures.cause in
    (has_failed c.args.segment.now c.fetch.new.segment c.args.block c.in-Err.failed.col c.in-Err.failed.count c.args.off (length c.args.into.now) c.requires.may e.0 e.1 c.in-Err.ensures.reads).within

pub mark_fault-requires-clause-up : goal.mark_fault-requires-clause-up
mark_fault-requires-clause-up g c =
    let e = c.in-Err.ensures.cause in
    (has_failed c.args.segment.now c.fetch.new.segment c.args.block c.in-Err.failed.col c.in-Err.failed.count c.args.off (length c.args.into.now) c.requires.may e.0 e.1 c.in-Err.ensures.reads).up

pub mark_fault-requires-clause-room : goal.mark_fault-requires-clause-room
mark_fault-requires-clause-room g c =
    let e = c.in-Err.ensures.cause in
    (has_failed c.args.segment.now c.fetch.new.segment c.args.block c.in-Err.failed.col c.in-Err.failed.count c.args.off (length c.args.into.now) c.requires.may e.0 e.1 c.in-Err.ensures.reads).room

pub returns-in-Ok-clause-brought : goal.returns-in-Ok-clause-brought
returns-in-Ok-clause-brought g c = λ is. (
  brought c.args.segment.now c.fetch.new.segment c.args.block c.args.clock.now c.requires.may.sound c.in-Ok.ensures.reads,
  ap (λ (x : Seg). x.log) c.in-Ok.ensures.reads,
  c.in-Ok.ensures.bytes,
)

pub returns-in-Err-clause-failed : goal.returns-in-Err-clause-failed
returns-in-Err-clause-failed g c = λ is.
    let e = c.in-Err.ensures.cause in
    let cols : c.segment.inside.columns ≡ c.fetch.new.segment.cols = ap (λ (x : Seg). x.cols) c.segment.view_is in
    let fails : (col_at c.fetch.new.segment.cols c.in-Err.failed.col).state.device.never_fails ≡ false =
    subst (λ (l : List Col). (col_at l c.in-Err.failed.col).state.device.never_fails ≡ false) cols c.may_fail.ensures in
    failed_down c.args.segment.now c.fetch.new.segment c.mark_fault.new.self c.args.block c.in-Err.failed.col c.in-Err.failed.count c.args.off (length c.args.into.now) c.args.clock.now
    c.mark_fault.new.clock c.requires.may e.0 e.1 e.2 c.in-Err.ensures.reads fails c.mark_fault.ensures.clock c.mark_fault.ensures.follows c.mark_fault.ensures.becomes
