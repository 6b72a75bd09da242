use Rattle.std.proofs.Common.{◌≡◌, ◌≤◌, ◌+◌, ℕ, length, ap, ◌∙◌, arith}
use Rattle.cod_turn.specs.Seats.{Seated}
use Rattle.cod_turn.specs.Turning.{callers}
use Rattle.cod_turn.proofs.Sitting.{first_callers, left_callers}
use Rattle.bench_turn.specs.declared.meter.Meter.{Meter}
use Rattle.bench_turn.proofs.time_turns.Goals as goal

pub split-a-requires-clause-two : goal.split-a-requires-clause-two
split-a-requires-clause-two g c =
    let n = first_callers _ c.in-Ok.rest.knows (ap (λ (s : Seated Meter). s.knows.own) c.in-Ok.ensures) in
    omega arith

pub split-b-requires-clause-two : goal.split-b-requires-clause-two
split-b-requires-clause-two g c =
    let n = first_callers _ c.in-Ok.rest.knows (ap (λ (s : Seated Meter). s.knows.own) c.in-Ok.ensures) in
    let a_ = left_callers c.in-Ok.rest c.split-a.new.seat c.split-a.ensures.left (omega arith) in
    omega arith

pub split-c-requires-clause-two : goal.split-c-requires-clause-two
split-c-requires-clause-two g c =
    let n = first_callers _ c.in-Ok.rest.knows (ap (λ (s : Seated Meter). s.knows.own) c.in-Ok.ensures) in
    let a_ = left_callers c.in-Ok.rest c.split-a.new.seat c.split-a.ensures.left (omega arith) in
    let b_ = left_callers c.split-a.new.seat c.split-b.new.seat c.split-b.ensures.left (omega arith) in
    omega arith

pub split-d-requires-clause-two : goal.split-d-requires-clause-two
split-d-requires-clause-two g c =
    let n = first_callers _ c.in-Ok.rest.knows (ap (λ (s : Seated Meter). s.knows.own) c.in-Ok.ensures) in
    let a_ = left_callers c.in-Ok.rest c.split-a.new.seat c.split-a.ensures.left (omega arith) in
    let b_ = left_callers c.split-a.new.seat c.split-b.new.seat c.split-b.ensures.left (omega arith) in
    let c_ = left_callers c.split-b.new.seat c.split-c.new.seat c.split-c.ensures.left (omega arith) in
    omega arith
