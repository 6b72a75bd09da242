use Rattle.std.proofs.Common.{◌≡◌, ◌<◌, ◌≤◌, ◌+◌, ◌∙◌, ℕ, List, length, ap, sym, subst, arith}
use Rattle.std.proofs.lemmas.List.{length-take-le}
use Rattle.cod_region.specs.Device.{Device}
use Rattle.cod_parity.specs.Log.{scaled}
use Rattle.cod_parity.specs.State.{IsKept, State}
use Rattle.cod_parity.proofs.Calling.{appended, match_err, not_appended}
use Rattle.cod_parity.proofs.Rooms.{AsksVersion, first_room, length-scaled, second_room, second_short, told_length}
use Rattle.cod_parity.proofs.column.ParityColumn.write_record.Goals as goal

pub write_text-len-requires-clause-fits : goal.write_text-len-requires-clause-fits
write_text-len-requires-clause-fits g c =
    let kept = subst IsKept c.self.view_is c.self.invariant in
    omega (arith, kept.within.most_bytes, c.requires.inside)

pub write_text-len-requires-clause-short : goal.write_text-len-requires-clause-short
write_text-len-requires-clause-short g c = second_short c.args.self.now c.args.version c.args.head.len (subst IsKept c.self.view_is c.self.invariant) c.requires.second

pub write_text-len-requires-clause-room : goal.write_text-len-requires-clause-room
write_text-len-requires-clause-room g c =
    let kept = subst IsKept c.self.view_is c.self.invariant in
    let size : length (scaled c.args.coef c.args.delta.now) ≡ c.args.head.len = length-scaled c.args.coef c.args.delta.now ∙ sym c.requires.len in
    let asks : AsksVersion c.args.self.now c.args.version (length (scaled c.args.coef c.args.delta.now)) = rw size c.requires.second in
    let room = first_room c.args.self.now c.args.version c.args.head (scaled c.args.coef c.args.delta.now) kept asks (omega (arith, c.requires.room)) in
    omega (arith, room, size, c.split_at_mut-bytes.ensures.back_len, c.requires.scratch, c.requires.inside, c.requires.len)

pub write_text-len-requires-clause-more : goal.write_text-len-requires-clause-more
write_text-len-requires-clause-more g c = λ second.
    let kept = subst IsKept c.self.view_is c.self.invariant in
    let room = second_room c.args.self.now c.args.version c.args.head.len kept c.requires.second second in
    omega (arith, room, c.split_at_mut-bytes.ensures.back_len, c.requires.scratch, c.requires.inside, c.requires.len)

pub write_at-requires : goal.write_at-requires
write_at-requires g c =
    let len = told_length c.args.version c.args.head
    (scaled c.args.coef c.args.delta.now) c.set_scaled.new.dst c.write_text-len.result c.requires.first c.requires.last c.set_scaled.ensures c.write_text-len.ensures.len in
    let used = ap (λ (s : State). s.used) c.self.view_is in
    let size = ap (λ (s : State). s.size) c.self.view_is in
    let within : c.write_text-len.result ≤ length c.write_text-len.new.into = omega (arith, c.write_text-len.ensures.within, c.write_text-len.auto.into) in
    let taken = length-take-le c.write_text-len.result c.write_text-len.new.into within in
    omega (arith, len, used, size, taken, c.requires.room, c.self.invariant.whole)

pub overflow_add-self : goal.overflow_add-self
overflow_add-self g c =
    let len = told_length c.args.version c.args.head
    (scaled c.args.coef c.args.delta.now) c.set_scaled.new.dst c.write_text-len.result c.requires.first c.requires.last c.set_scaled.ensures c.write_text-len.ensures.len in
    let used = ap (λ (s : State). s.used) c.self.view_is in
    let size = ap (λ (s : State). s.size) c.self.view_is in
    omega (arith, len, used, size, c.requires.room, c.self.invariant.most, c.self.invariant.within.most_reserve)

pub invariant_of-self-2 : goal.invariant_of-self-2
invariant_of-self-2 g c =
    let len = told_length c.args.version c.args.head
    (scaled c.args.coef c.args.delta.now) c.set_scaled.new.dst c.write_text-len.result c.requires.first c.requires.last c.set_scaled.ensures c.write_text-len.ensures.len in
    let used = ap (λ (s : State). s.used) c.self.view_is in
    let size = ap (λ (s : State). s.size) c.self.view_is in
    let same : (g.R.Region.device c.write_at.new.self).size ≡ (g.R.Region.device c.self.inside.region).size = ap (λ (d : Device). d.size) c.write_at.ensures.same in
    record {
      within = c.self.invariant.within;
      used = omega (arith, len, used, size, c.requires.room);
      least = c.self.invariant.least;
      most = c.self.invariant.most;
      average = c.self.invariant.average;
      whole = omega (arith, same, c.self.invariant.whole);
    }

pub returns-in_err-write_at-clause-adds : goal.returns-in_err-write_at-clause-adds
returns-in_err-write_at-clause-adds g c =
    let len = told_length c.args.version c.args.head
    (scaled c.args.coef c.args.delta.now) c.set_scaled.new.dst c.write_text-len.result c.requires.first c.requires.last c.set_scaled.ensures c.write_text-len.ensures.len in
    let within : c.write_text-len.result ≤ length c.write_text-len.new.into = omega (arith, c.write_text-len.ensures.within, c.write_text-len.auto.into) in
    let taken = length-take-le c.write_text-len.result c.write_text-len.new.into within in
    rw (← c.self.view_is) (match_err c.from_residual.result _ _ c.from_residual.ensures.0 (λ e.
    not_appended _ _ _ (c.block.result + c.self.inside.used) _ (g.R.Region.device c.write_at.new.self) (ap (λ (n : ℕ). n + c.self.inside.used) c.block.ensures) (taken ∙ len)
    c.write_at.ensures.same c.in_err-write_at.ensures.content))

pub returns-clause-adds : goal.returns-clause-adds
returns-clause-adds g c =
    let kept = subst IsKept c.self.view_is c.self.invariant in
    let size : length (scaled c.args.coef c.args.delta.now) ≡ c.args.head.len = length-scaled c.args.coef c.args.delta.now ∙ sym c.requires.len in
    let shape = ap (λ (s : State). s.shape) c.self.view_is in
    let block : c.args.head.block < c.self.inside.shape.k = rw shape c.requires.block in
    let inside : c.args.head.off + c.args.head.len ≤ c.self.inside.shape.block = rw shape c.requires.inside in
    let long : c.args.head.len ≡ length c.set_scaled.new.dst = sym size ∙ ap (λ (b : List ℕ). length b) (sym c.set_scaled.ensures) in
    rw (← c.self.view_is, ← c.set_scaled.ensures) (appended _ c.args.version c.args.head c.set_scaled.new.dst c.write_text-len.new.into c.write_text-len.result
    (c.block.result + c.self.inside.used) c.min.result _
    (g.R.Region.device c.write_at.new.self) c.self.invariant.within c.requires.first c.requires.last block inside long
    c.write_text-len.ensures.record c.write_text-len.ensures.len c.write_text-len.ensures.front (ap (λ (n : ℕ). n + c.self.inside.used) c.block.ensures)
    c.write_at.ensures.same c.in_ok-write_at.ensures.cause.kept c.in_ok-write_at.ensures.content c.min.ensures c.saturating_add-self-inside.ensures)
