use Rattle.std.proofs.Common.{rules, ◌≡◌, ◌<◌, ◌≤◌, ℕ, List, [], ◌∷◌, ◌++◌, Some, None, length, sym, ap, ◌∙◌, subst, refl, arith, replicate}
use Rattle.cod_place.specs.declared.view.View.{View}
use Rattle.cod_place.specs.Free.{Seated, Pooled, Counted, at_node, less, after_first}
use Rattle.cod_place.proofs.Keeps.{splits}
use Rattle.cod_place.proofs.Accounts.{nothing_counted, zeros}
use Rattle.cod_place.proofs.shared.SharedPools.split.Goals as goal

pub split_seat-fresh-requires : goal.split_seat-fresh-requires
split_seat-fresh-requires c =
    (ap (λ (s : Seated). s.of) c.seat.view_is ∙ (c.requires.pools ∙ sym (ap (λ (p : Pooled). p.of) c.self.view_is)), c.self.invariant.1, splits _ _ _)

pub invariant_of-result : goal.invariant_of-result
invariant_of-result c = (
  ap (λ m. m.1) c.split_seat-fresh.ensures.4,
  subst (λ (b : List (ℕ × ℕ)). Counted (replicate 64 0) b) (sym (ap (λ m. m.0.bytes) c.split_seat-fresh.ensures.4))
      (nothing_counted (replicate 64 0) refl zeros),
)
