use Rattle.std.proofs.Common.{◌≡◌, ◌+◌, ◌<◌, ◌≤◌, ℕ, List, refl, sym, ap, ◌∙◌, subst, arith}
use Rattle.cod_opening.specs.Opening.{ArePasses, IsLeft}
use Rattle.cod_opening.proofs.Splitting.{more_passes}
use Rattle.cod_opening.proofs.seats.passes.Goals as goal

pub pass-requires-clause-left : goal.pass-requires-clause-left
pass-requires-clause-left g c = (c.requires.left.0, c.callers.invariant.left c.requires.left.0 c.requires.left.1)

pub callers-preserved : goal.callers-preserved
callers-preserved g c = record {
  passes = λ segs left.
      let was = c.callers.invariant.left segs left in
      rw c.in_ok-push.ensures.items (more_passes c.args.turns.now segs c.args.g.now c.args.board.now c.args.pools.now.of c.callers.caller c.callers.list.items c.in_ok-pass.field-0
      (c.callers.invariant.passes segs left) (c.in_ok-pass.ensures.pass segs was));
  left = λ segs left. c.in_ok-pass.ensures.left segs (c.callers.invariant.left segs left);
}

pub returns-clause-passes : goal.returns-clause-passes
returns-clause-passes g c = λ segs left.
    let done : c.callers.caller ≡ c.args.callers = (let t = c.callers-test.false in let e = c.callers.auto.caller-end in omega (arith, t, e)) in
    subst (λ (n : ℕ). ArePasses c.args.turns.now segs c.args.g.now c.args.board.now c.args.pools.now.of n c.callers.list.items) done (c.callers.invariant.passes segs left)

pub returns-clause-left : goal.returns-clause-left
returns-clause-left g c = λ segs left.
    let done : c.callers.caller ≡ c.args.callers = (let t = c.callers-test.false in let e = c.callers.auto.caller-end in omega (arith, t, e)) in
    subst (λ (n : ℕ). IsLeft c.args.turns.now segs c.args.board.now c.args.pools.now.of n c.callers.rest) done (c.callers.invariant.left segs left)
