use Rattle.std.proofs.Common.{◌≡◌, List, length, refl, ap, ◌∙◌, arith}
use Rattle.cod_chronicle.specs.declared.entry.Entry.{Entry}
use Rattle.cod_turn.specs.Seats.{Seated}
use Rattle.cod_turn.specs.Turning.{callers}
use Rattle.cod_turn.proofs.Numbering.{own_right, own_left, many, first_numbered, joined}
use Rattle.cod_turn.proofs.tests.two.Goals as goal

abbrev of_seat : (s t : Seated (List Entry)) → s ≡ t → s.knows ≡ t.knows
of_seat s t e = ap (λ (u : Seated (List Entry)). u.knows) e

pub split-one-requires-clause-two : goal.split-one-requires-clause-two
split-one-requires-clause-two g c =
    let e = ap (λ (s : Seated (List Entry)). s.knows.own) c.in_ok-turn.ensures in
    let n : length (callers c.in_ok-turn.rest.knows) ≡ 65536 = many c.in_ok-turn.rest.knows 0 65536 65536 c.new.result e refl in
    omega arith

pub split-other-requires-clause-two : goal.split-other-requires-clause-two
split-other-requires-clause-two g c =
    let e = ap (λ (s : Seated (List Entry)). s.knows.own) c.in_ok-turn.ensures in
    let f = own_left c.in_ok-turn.rest.knows c.split-one.new.seat.knows 0 65535 c.new.result e (of_seat _ _ c.split-one.ensures.left) in
    let n : length (callers c.split-one.new.seat.knows) ≡ 65535 = many c.split-one.new.seat.knows 1 65535 65535 c.new.result f refl in
    omega arith

pub join-one-requires-after_bounds : goal.join-one-requires-after_bounds
join-one-requires-after_bounds g c κs within =
    let e = ap (λ (s : Seated (List Entry)). s.knows.own) c.in_ok-turn.ensures in
    let f = own_left c.in_ok-turn.rest.knows c.split-one.new.seat.knows 0 65535 c.new.result e (of_seat _ _ c.split-one.ensures.left) in
    let t = ap (λ (s : Seated (List Entry)). s.of) c.in_ok-turn.ensures in
    let s = c.split-one.ensures in
    let o = c.split-other.ensures in
    let first = own_right c.in_ok-turn.rest.knows c.split-one.result.knows 0 65535 c.new.result e (of_seat _ _ s.right) in
    let second = own_right c.split-one.new.seat.knows c.split-other.result.knows 1 65534 c.new.result f (of_seat _ _ o.right) in
    let of_first = ap (λ (u : Seated (List Entry)). u.of) s.left in (
      (ap (λ (u : Seated (List Entry)). u.of) s.right ∙ t, ap (λ (u : Seated (List Entry)). u.knows.hold) s.right, first_numbered 0 c.split-one.result.knows c.new.result c.new.ensures first),
      (
        ap (λ (u : Seated (List Entry)). u.of) o.right ∙ (of_first ∙ t),
        ap (λ (u : Seated (List Entry)). u.knows.hold) o.right,
        first_numbered 1 c.split-other.result.knows c.new.result c.new.ensures second,
      ),
    )

pub close-requires-clause-all : goal.close-requires-clause-all
close-requires-clause-all g c =
    let e = ap (λ (s : Seated (List Entry)). s.knows.own) c.in_ok-turn.ensures in
    let f = own_left c.in_ok-turn.rest.knows c.split-one.new.seat.knows 0 65535 c.new.result e (of_seat _ _ c.split-one.ensures.left) in
    let h = own_left c.split-one.new.seat.knows c.split-other.new.seat.knows 1 65534 c.new.result f (of_seat _ _ c.split-other.ensures.left) in
    let n : length (callers c.split-other.new.seat.knows) ≡ 65534 = many c.split-other.new.seat.knows 2 65534 65534 c.new.result h refl in
    let a = joined c.split-other.new.seat.knows c.join-one.result.0.knows c.join.new.seat.knows (of_seat _ _ c.join.ensures) in
    let b = joined c.join.new.seat.knows c.join-one.result.1.knows c.join-2.new.seat.knows (of_seat _ _ c.join-2.ensures) in
    let x = c.join-one.ensures.first.2 in
    let y = c.join-one.ensures.second.2 in
    let same = ap (λ (s : Seated (List Entry)). length (callers s.knows)) c.count-count.ensures.seat in
    omega arith
