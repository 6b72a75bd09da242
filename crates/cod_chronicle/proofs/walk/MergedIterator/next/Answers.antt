use Rattle.std.proofs.Common.{◌≡◌, ◌∙◌, ◌≤◌, ◌+◌, ◌*◌, ◌/◌, ◌∷◌, length, None, sym, ap, subst, arith}
use Rattle.cod_chronicle.specs.Order.{place, order}
use Rattle.cod_chronicle.specs.Walk.{IsSoonest, lists_of, stamp_left, TakesFirst}
use Rattle.cod_chronicle.proofs.Walking.{refill_whole, rests_are, walk_ends, walk_keeps, walk_rises, walk_steps}
use Rattle.cod_chronicle.proofs.walk.MergedIterator.next.Goals as goal

pub returns-in_err-entry-clause-steps : goal.returns-in_err-entry-clause-steps
returns-in_err-entry-clause-steps c =
    let items = c.self.inside.rests.items in
    let w = c.soonest_of_all-index.result in
    let soonest : IsSoonest items w 0 1024 = subst (λ l. IsSoonest l w 0 1024) c.as_slice.ensures.value c.soonest_of_all-index.ensures in
    let ended : stamp_left items w ≡ None = subst (λ l. stamp_left l w ≡ None) c.as_mut_slice.ensures.value c.in_err-entry.ensures.0 in
    let left : c.take_first.new.rests ≡ items = c.in_err-entry.ensures.1 ∙ c.as_mut_slice.ensures.value in
    let short : length items ≤ 1024 = subst (λ l. length l ≤ 1024) c.as_slice.ensures.value c.as_slice.ensures.fits in
    let none = walk_ends items w short soonest ended in
    rw (c.from_residual.ensures, sym c.self.view_is, refill_whole items c.take_first.new.rests (ap length left), left) (none, none)

pub invariant_of-self-2 : goal.invariant_of-self-2
invariant_of-self-2 c =
    let items = c.self.inside.rests.items in
    let w = c.soonest_of_all-index.result in
    let taken : TakesFirst items c.take_first.new.rests w c.in_ok-entry.entry.now =
    subst (λ l. TakesFirst l c.take_first.new.rests w c.in_ok-entry.entry.now) c.as_mut_slice.ensures.value c.in_ok-entry.ensures in
    let same = rests_are items c.as_mut_slice.result.now c.take_first.new.rests w c.in_ok-entry.entry.now c.as_mut_slice.ensures.value c.in_ok-entry.ensures in
    let soonest = subst (λ l. IsSoonest l c.soonest_in.result (w / 32 * 32) (w / 32 * 32 + 32)) (c.as_slice-2.ensures.value ∙ same) c.soonest_in.ensures in
    rw same (
      walk_rises items c.take_first.new.rests w c.in_ok-entry.entry.now c.self.invariant.0 taken,
      walk_keeps items c.take_first.new.rests w c.in_ok-entry.entry.now c.self.inside.soonest c.soonest_in.result c.soonest_of_all-index.ensures.high c.self.told taken c.self.invariant.1 soonest,
    )

steps_of : goal.returns-clause-steps
steps_of c =
    let items = c.self.inside.rests.items in
    let w = c.soonest_of_all-index.result in
    let taken : TakesFirst items c.take_first.new.rests w c.in_ok-entry.entry.now =
    subst (λ l. TakesFirst l c.take_first.new.rests w c.in_ok-entry.entry.now) c.as_mut_slice.ensures.value c.in_ok-entry.ensures in
    let same = rests_are items c.as_mut_slice.result.now c.take_first.new.rests w c.in_ok-entry.entry.now c.as_mut_slice.ensures.value c.in_ok-entry.ensures in
    let soonest : IsSoonest items w 0 1024 = subst (λ l. IsSoonest l w 0 1024) c.as_slice.ensures.value c.soonest_of_all-index.ensures in
    let short : length items ≤ 1024 = subst (λ l. length l ≤ 1024) c.as_slice.ensures.value c.as_slice.ensures.fits in
    sym c.self.view_is ∙ walk_steps items c.take_first.new.rests w c.in_ok-entry.entry.now short soonest c.self.invariant.0 taken
    ∙ ap (λ l. place w c.in_ok-entry.entry.now ∷ order (lists_of l)) (sym same)

pub returns-clause-steps : goal.returns-clause-steps
returns-clause-steps c = steps_of c

pub returns-clause-goes : goal.returns-clause-goes
returns-clause-goes c = record {
  on = λ _. let e = steps_of c in rw e (tt, tt, omega arith);
  keeps = tt;
  rests = λ _. tt;
}
