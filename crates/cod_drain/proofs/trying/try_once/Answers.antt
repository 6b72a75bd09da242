use Rattle.std.proofs.Common.{[], ◌∷◌, refl, sym, subst}
use Rattle.cod_place.specs.Room.{Room}
use Rattle.cod_seg.specs.Calls.{piece_count}
use Rattle.cod_segment.specs.Events.{Balances}
use Rattle.cod_drain.proofs.Trials.{back, falls_is, may_again, may_come}
use Rattle.cod_drain.proofs.trying.try_once.Goals as goal

pub returns-in-Ok-copy_column-clause-tried : goal.returns-in-Ok-copy_column-clause-tried
returns-in-Ok-copy_column-clause-tried g c =
    let copied = c.in-Ok-copy_column.ensures.copied in (
      record { times = piece_count c.args.bench.now; becomes = copied.0; clock = refl },
      may_come c.args.segment.now c.args.plan c.args.broken.now (g.B.Board.kills c.place_for.new.board) c.in-Ok.target c.copy_column.new.target c.requires.sound c.requires.served c.requires.plan
          c.in-Ok.ensures.found copied.1 (rw c.requires.bench at copied.2) (rw c.requires.bench at copied.3) c.in-Ok-copy_column.ensures.value,
    )

pub returns-in-Ok-copy_column-clause-balance : goal.returns-in-Ok-copy_column-clause-balance
returns-in-Ok-copy_column-clause-balance g c =
    subst (λ (r : Room). Balances (g.P.Pools.free c.args.pools.now) (g.P.Pools.free c.place_for.new.pools) [] (r ∷ [])) (sym c.in-Ok-copy_column.ensures.copied.1.room) c.in-Ok.ensures.balance

pub returns-in-Err-Old-clause-tried : goal.returns-in-Err-Old-clause-tried
returns-in-Err-Old-clause-tried g c =
    let fails = rw c.in-Err-Old.field-0-is at c.in-Err-Old.ensures.failed in
    falls_is c.args.plan.col c.args.clock.now c.mark_fault.new.clock c.in-Err-Old.failed c.args.segment.now c.copy_column.new.segment c.mark_fault.new.self c.requires.sound c.requires.served.below fails.0
    c.mark_fault.ensures.clock c.mark_fault.ensures.follows c.mark_fault.ensures.becomes

pub returns-in-Err-Old-clause-balance : goal.returns-in-Err-Old-clause-balance
returns-in-Err-Old-clause-balance g c =
    let fails = rw c.in-Err-Old.field-0-is at c.in-Err-Old.ensures.failed in
    back (g.P.Pools.free c.args.pools.now) (g.P.Pools.free c.place_for.new.pools) (g.P.Pools.free c.give_back.new.pools) c.in-Ok.target.room c.copy_column.new.target.room c.in-Ok.ensures.balance fails.1
    c.give_back.ensures.balance

pub returns-in-Err-New-clause-tried : goal.returns-in-Err-New-clause-tried
returns-in-Err-New-clause-tried g c =
    let fails = rw c.in-Err-New.field-0-is at c.in-Err-New.ensures.failed in
    let same = rw (c.node.ensures, c.faults.ensures.value) at c.set.ensures.becomes in
    let broke = rw (c.node.ensures, c.faults.ensures.value) at c.set.ensures.broken in
    may_again c.args.plan c.args.broken.now c.set.new.self (g.B.Board.kills c.place_for.new.board) c.args.clock.now fails.0 c.args.segment.now c.copy_column.new.segment c.in-Ok.target c.copy_column.new.target
    c.requires.sound c.in-Ok.ensures.found c.requires.broken fails.1 fails.2 same broke

pub returns-in-Err-New-clause-balance : goal.returns-in-Err-New-clause-balance
returns-in-Err-New-clause-balance g c =
    let fails = rw c.in-Err-New.field-0-is at c.in-Err-New.ensures.failed in
    back (g.P.Pools.free c.args.pools.now) (g.P.Pools.free c.place_for.new.pools) (g.P.Pools.free c.give_back-in-Err-New.new.pools) c.in-Ok.target.room c.copy_column.new.target.room c.in-Ok.ensures.balance fails.2.room
    c.give_back-in-Err-New.ensures.balance
