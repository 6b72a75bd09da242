use Rattle.std.proofs.Common.{ℕ, length, ap, ◌∙◌, arith}
use Rattle.cod_board.specs.Seats.{Seated}
use Rattle.cod_board.proofs.Sitting.{first_numbers, numbers_left, numbers_both}
use Rattle.cod_board.proofs.tests.four.Goals as goal

abbrev N : Seated → ℕ
N s = length s.knows.numbers

pub split-a-requires-clause-two : goal.split-a-requires-clause-two
split-a-requires-clause-two g c = let n = ap N c.in_ok-board.ensures.seat ∙ first_numbers in omega arith

pub split-b-requires-clause-two : goal.split-b-requires-clause-two
split-b-requires-clause-two g c =
    let n = ap N c.in_ok-board.ensures.seat ∙ first_numbers in
    let a = numbers_left c.in_ok-board.rest c.split-a.new.seat c.split-a.ensures.left (omega arith) in
    omega arith

pub split-c-requires-clause-two : goal.split-c-requires-clause-two
split-c-requires-clause-two g c =
    let n = ap N c.in_ok-board.ensures.seat ∙ first_numbers in
    let a = numbers_left c.in_ok-board.rest c.split-a.new.seat c.split-a.ensures.left (omega arith) in
    let b = numbers_left c.split-a.new.seat c.split-b.new.seat c.split-b.ensures.left (omega arith) in
    omega arith

pub split-d-requires-clause-two : goal.split-d-requires-clause-two
split-d-requires-clause-two g c =
    let n = ap N c.in_ok-board.ensures.seat ∙ first_numbers in
    let a = numbers_left c.in_ok-board.rest c.split-a.new.seat c.split-a.ensures.left (omega arith) in
    let b = numbers_left c.split-a.new.seat c.split-b.new.seat c.split-b.ensures.left (omega arith) in
    let d = numbers_left c.split-b.new.seat c.split-c.new.seat c.split-c.ensures.left (omega arith) in
    omega arith

pub close-requires-clause-all : goal.close-requires-clause-all
close-requires-clause-all g c =
    let n = ap N c.in_ok-board.ensures.seat ∙ first_numbers in
    let a = numbers_left c.in_ok-board.rest c.split-a.new.seat c.split-a.ensures.left (omega arith) in
    let b = numbers_left c.split-a.new.seat c.split-b.new.seat c.split-b.ensures.left (omega arith) in
    let d = numbers_left c.split-b.new.seat c.split-c.new.seat c.split-c.ensures.left (omega arith) in
    let e = numbers_left c.split-c.new.seat c.split-d.new.seat c.split-d.ensures.left (omega arith) in
    let p = c.join-a.ensures.first.1 in
    let q = c.join-a.ensures.second.1 in
    let w = numbers_both c.split-d.new.seat c.join-a.result.0.0.seat c.join.new.seat c.join.ensures in
    let x = numbers_both c.join.new.seat c.join-a.result.0.1.seat c.join-2.new.seat c.join-2.ensures in
    let y = numbers_both c.join-2.new.seat c.join-a.result.1.0.seat c.join-3.new.seat c.join-3.ensures in
    let z = numbers_both c.join-3.new.seat c.join-a.result.1.1.seat c.join-4.new.seat c.join-4.ensures in
    let one = p.0 in
    let two = p.1 in
    let three = q.0 in
    let four = q.1 in
    omega arith
