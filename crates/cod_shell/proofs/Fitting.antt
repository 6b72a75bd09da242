-- The numbers of the chronicles, in their one order, are within their types.
use Rattle.std.proofs.Common.{◌≡◌, ℕ, suc, ◌+◌, Bool, List, [], ◌∷◌, ◌++◌, All, Some, map, refl, arith}
use Rattle.std.specs.Prelude.{slice_get}
use Rattle.std.specs.List.{AllByRecursion}
use Rattle.cod_chronicle.specs.declared.entry.Entry.{Entry}
use Rattle.cod_chronicle.specs.Said.{StampsRise}
use Rattle.cod_chronicle.specs.Order.{Placed, place, placed_from}
use Rattle.cod_script.specs.Script.{Script, Ask}
use Rattle.cod_script.specs.Owed.{IsHistory}
use Rattle.cod_seg.specs.Seg.{Seg}
use Rattle.cod_text.specs.Unique.{EntryFits, HasChronicles}
use Rattle.cod_shell.specs.Numbers.{AllFit}

by_recursion : {X : Type 0} (P : X → Type 0) (xs : List X) → All P xs → AllByRecursion P xs
by_recursion P [] all = tt
by_recursion P (x ∷ xs) all = (all 0 x (omega arith), by_recursion P xs (λ k d lt. all (suc k) d (omega (arith, lt))))

both_parts : {X : Type 0} (P : X → Type 0) (xs ys : List X) → AllByRecursion P xs → AllByRecursion P ys → AllByRecursion P (xs ++ ys)
both_parts P [] ys a b = b
both_parts P (x ∷ xs) ys a b = (a.0, both_parts P xs ys a.1 b)

placed_fit_one : (s : ℕ) (h : List Entry) → AllByRecursion EntryFits h → AllByRecursion (λ p. EntryFits p.entry) (map (λ e. place s e) h)
placed_fit_one s [] all = tt
placed_fit_one s (e ∷ h) all = (all.0, placed_fit_one s h all.1)

placed_fit : (s : ℕ) (segs : List Seg) → All (λ (t : Seg). All EntryFits t.log) segs → AllByRecursion (λ p. EntryFits p.entry) (placed_from s (map (λ (t : Seg). t.log) segs))
placed_fit s [] all = tt
placed_fit s (t ∷ ts) all =
    both_parts (λ (p : Placed). EntryFits p.entry) (map (λ e. place s e) t.log) (placed_from (s + 1) (map (λ (u : Seg). u.log) ts))
    (placed_fit_one s t.log (by_recursion EntryFits t.log (all 0 t (omega arith)))) (placed_fit (s + 1) ts (λ k d lt. all (suc k) d (omega (arith, lt))))

rises_in : (hs : List (List Entry)) → ((s : ℕ) (h : List Entry) → slice_get hs s ≡ Some h → StampsRise h) → AllByRecursion StampsRise hs
rises_in [] each = tt
rises_in (h ∷ hs) each = (each 0 h refl, rises_in hs (λ s k e. each (suc s) k e))

-- what the printed text needs to have one meaning
pub has_chronicles : (told : Bool) (x : Script) (may : ℕ → Bool) (owes : ℕ → List Ask) (segs : List Seg) → IsHistory told x may owes (map (λ (s : Seg). s.log) segs)
    → AllFit (λ (s : Seg). s.log) segs → HasChronicles x (map (λ (s : Seg). s.log) segs)
has_chronicles told x may owes segs h fit =
    record { count = h.count; rise = rises_in (map (λ (s : Seg). s.log) segs) (λ s k is. (h.whole.each s k is).0.stamps); fit = placed_fit 0 segs fit }
