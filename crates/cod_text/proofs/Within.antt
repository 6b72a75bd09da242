-- The entries of all segments are of these segments.
use Rattle.std.proofs.Common.{◌≡◌, ℕ, ◌+◌, ◌<◌, ◌≤◌, List, [], ◌∷◌, ◌++◌, length, map, arith, subst}
use Rattle.std.specs.List.{AllByRecursion}
use Rattle.cod_chronicle.specs.declared.entry.Entry.{Entry}
use Rattle.cod_chronicle.specs.Order.{Placed, place, placed, placed_from, order}
use Rattle.cod_chronicle.proofs.Orders.{Each-append, Each-by_stamp}

abbrev pub IsBelow : ℕ → Placed → Type 0
IsBelow n p = p.segment < n

of_one : (n s : ℕ) (h : List Entry) → s < n → AllByRecursion (IsBelow n) (map (λ e. place s e) h)
of_one n s [] low = tt
of_one n s (e ∷ h) low = (low, of_one n s h low)

of_each : (n s : ℕ) (hs : List (List Entry)) → s + length hs ≤ n → AllByRecursion (IsBelow n) (placed_from s hs)
of_each n s [] few = tt
of_each n s (h ∷ hs) few = Each-append (IsBelow n) (map (λ e. place s e) h) (placed_from (s + 1) hs) (of_one n s h (omega (arith, few))) (of_each n (s + 1) hs (omega (arith, few)))

pub order_within : (hs : List (List Entry)) → AllByRecursion (IsBelow (length hs)) (order hs)
order_within hs = Each-by_stamp (IsBelow (length hs)) (placed hs) (of_each (length hs) 0 hs (omega arith))

behind : (P : Placed → Type 0) (done rest : List Placed) → AllByRecursion P (done ++ rest) → AllByRecursion P rest
behind P [] rest a = a
behind P (p ∷ done) rest a = behind P done rest a.1

-- and so are those that are left of them
pub within_rest : (hs : List (List Entry)) (done rest : List Placed) (n : ℕ) → length hs ≡ n → order hs ≡ done ++ rest → AllByRecursion (IsBelow n) rest
within_rest hs done rest n count is =
    behind (IsBelow n) done rest (subst (AllByRecursion (IsBelow n)) is (subst (λ m. AllByRecursion (IsBelow m) (order hs)) count (order_within hs)))
