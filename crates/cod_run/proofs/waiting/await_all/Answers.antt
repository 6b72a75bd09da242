use Rattle.std.proofs.Common.{◌≡◌, ◌<◌, ℕ, inl, inr, get_or, sym, ap, ◌∙◌, subst, arith}
use Rattle.std.proofs.lemmas.Bool.{cases_lt}
use Rattle.std.proofs.lemmas.List.{get_or_default}
use Rattle.cod_chronicle.specs.Said.{clock_of, last_stamp}
use Rattle.cod_seg.specs.Seg.{Seg}
use Rattle.cod_run.proofs.waiting.await_all.Goals as goal

pub loop-stripe-preserved : goal.loop-stripe-preserved
loop-stripe-preserved g c = λ k d lt.
    let i = c.loop-stripe.stripe-index in
    let all = c.args.stripes.now in
    elim (cases_lt k i) [
      | inl before ↦ c.loop-stripe.invariant k d before
      | inr here ↦ (
          let same : k ≡ i = omega (arith, lt, here) in
          let is : c.stripe-item.result ≡ get_or all k d =
          c.stripe-item.is ∙ get_or_default all i c.stripe-item.result d (omega arith) ∙ ap (λ (n : ℕ). get_or all n d) (sym same) in
          subst (λ (s : Seg). clock_of s.log < last_stamp) is c.await_one.ensures
          )
    ]
