use Rattle.std.proofs.Common.{◌∙◌, ap, subst, arith}
use Rattle.cod_types.specs.Limits.{Shape}
use Rattle.cod_parity.specs.Log.{scaled}
use Rattle.cod_parity.specs.State.{IsKept, State}
use Rattle.cod_parity.proofs.Appending.{append_holds}
use Rattle.cod_parity.proofs.Holding.{merges_hold}
use Rattle.cod_parity.proofs.Rooms.{length-scaled}
use Rattle.cod_parity.proofs.column.ParityColumn.append.Goals as goal

pub make_room-requires-clause-room : goal.make_room-requires-clause-room
make_room-requires-clause-room g c = λ base records means.
    let used = ap (λ (s : State). s.used) c.self.view_is in
    let size = ap (λ (s : State). s.size) c.self.view_is in
    let len = c.record_len-len.ensures c.args.head in
    let room = c.requires.room (omega (arith, used, size, len, c.if-len-room.false, c.self.invariant.used)) base records means in
    omega (arith, room, len)

pub returns-then-len-room-clause-holds : goal.returns-then-len-room-clause-holds
returns-then-len-room-clause-holds g c = λ v p h none number.
    let kept = subst IsKept c.self.view_is c.self.invariant in
    let size = length-scaled c.args.coef c.args.delta.now in
    append_holds c.write_record.result _ c.args.cuts.now c.args.version c.args.head (scaled c.args.coef c.args.delta.now) c.args.self.now c.write_record.new.self v p
    (record { first = c.requires.first; last = c.requires.last; second = λ e. (c.requires.second e).0; inside = omega (arith, size, c.requires.len, c.requires.inside, kept.within.most_bytes) })
    c.write_record.ensures.adds number none h

pub returns-clause-holds : goal.returns-clause-holds
returns-clause-holds g c = λ v p h none number.
    let kept = subst IsKept c.self.view_is c.self.invariant in
    let size = length-scaled c.args.coef c.args.delta.now in
    let shape = c.make_room.ensures.same.shape in
    append_holds c.write_record-2.result _ c.args.cuts.now c.args.version c.args.head (scaled c.args.coef c.args.delta.now) c.make_room.new.self c.write_record-2.new.self v p
    (record {
      first = c.requires.first;
      last = c.requires.last;
      second = λ e. ap (λ (s : Shape). s.version) shape
          ∙ (c.requires.second e).0;
      inside = omega (arith, size, c.requires.len, c.requires.inside, kept.within.most_bytes);
    })
    c.write_record-2.ensures.adds number none (merges_hold c.args.cuts.now c.args.self.now c.make_room.new.self v p c.in_ok-make_room.ensures.merges h)
