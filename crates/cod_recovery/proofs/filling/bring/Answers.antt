use Rattle.std.proofs.Common.{inl, inr, refl, sym, subst, length, ◌<◌}
use Rattle.cod_seg.specs.Seg.{Seg}
use Rattle.cod_recovery.proofs.Fetching.{brought, failed_below, failed_up, still_rebuilt, stopped}
use Rattle.cod_recovery.specs.Filling.{sources_read}
use Rattle.cod_recovery.proofs.filling.bring.Goals as goal

pub reliable-requires : goal.reliable-requires
reliable-requires g c =
    subst (λ (x : Seg). c.in-Err.failed.col < length x.cols) (sym c.segment-in-Err.view_is)
    (failed_below c.args.segment.now c.fetch.new.segment c.in-Err.failed.col c.in-Err.failed.count c.in-Err.ensures.reads c.requires.sound c.in-Err.ensures.cause)

pub mark_fault-requires-clause-col : goal.mark_fault-requires-clause-col
mark_fault-requires-clause-col g c =
    failed_below c.args.segment.now c.fetch.new.segment c.in-Err.failed.col c.in-Err.failed.count c.in-Err.ensures.reads c.requires.sound c.in-Err.ensures.cause

pub mark_fault-requires-clause-up : goal.mark_fault-requires-clause-up
mark_fault-requires-clause-up g c =
    failed_up c.args.segment.now c.fetch.new.segment c.in-Err.failed.col c.in-Err.failed.count c.in-Err.ensures.reads c.requires.sound c.in-Err.ensures.cause

pub returns-in-Ok-clause-fetched : goal.returns-in-Ok-clause-fetched
returns-in-Ok-clause-fetched g c = λ r t was aimed.
    let s = c.args.segment.now in
    let here = still_rebuilt s _ c.fetch.new.segment (sources_read s) r c.segment.view_is c.in-Ok.ensures.reads was in
    inl (
      brought s _ c.fetch.new.segment r t c.fetch.new.into c.args.col c.args.done c.fill.new.rebuild c.segment.view_is c.in-Ok.ensures.reads c.in-Ok.ensures.bytes
          (c.requires.aim r t was aimed) (c.fill.ensures.fills r t here aimed),
      refl,
    )

pub returns-in-Err-clause-fetched : goal.returns-in-Err-clause-fetched
returns-in-Err-clause-fetched g c = λ r t was aimed.
    inr (stopped c.args.segment.now _ c.fetch.new.segment c.mark_fault.new.self c.in-Err.failed.col c.in-Err.failed.count c.args.clock.now c.mark_fault.new.clock
    c.segment-in-Err.view_is c.in-Err.ensures.reads c.requires.sound c.in-Err.ensures.cause c.reliable.ensures c.mark_fault.ensures.clock c.mark_fault.ensures.follows
    c.mark_fault.ensures.becomes)
