-- A step of the move of bytes down a log.
use Rattle.std.proofs.Common.{◌≡◌, ℕ, ◌+◌, ◌<◌, ◌≤◌, List, [], ◌∷◌, ◌++◌, length, take, drop, set, get_or, sym, ap, ◌∙◌, arith}
use Rattle.std.proofs.lemmas.List.{append_assoc, drop_more, take_more, take_more_set, get_or-drop, drop-set-lt, length-drop}

pub moved_more : (was log : List ℕ) (to from i len : ℕ) → to ≤ from → i < len → from + len ≤ length was → length log ≡ length was
    → take (to + i) log ≡ take to was ++ take i (drop from was) → drop (from + i) log ≡ drop (from + i) was
    → (take (to + (i + 1)) (set log (to + i) (get_or log (from + i) 0)) ≡ take to was ++ take (i + 1) (drop from was))
    × (drop (from + (i + 1)) (set log (to + i) (get_or log (from + i) 0)) ≡ drop (from + (i + 1)) was)
moved_more was log to from i len down more inside same front rest =
    let v = get_or log (from + i) 0 in
    let there : drop (from + i) log ≡ get_or log (from + i) 0 ∷ drop (from + i + 1) log = drop_more log (from + i) 0 (omega arith) in
    let here : drop (from + i) was ≡ get_or was (from + i) 0 ∷ drop (from + i + 1) was = drop_more was (from + i) 0 (omega arith) in
    let head : v ≡ get_or was (from + i) 0 = cc in
    let tail : drop (from + i + 1) log ≡ drop (from + i + 1) was = cc in
    let read : v ≡ get_or (drop from was) i 0 = head ∙ sym (get_or-drop from was i 0) in
    let j : to + (i + 1) ≡ to + i + 1 = omega arith in
    let k : from + (i + 1) ≡ from + i + 1 = omega arith in
    let next : take i (drop from was) ++ v ∷ [] ≡ take (i + 1) (drop from was) =
    ap (λ (y : ℕ). take i (drop from was) ++ y ∷ []) read ∙ sym (take_more (drop from was) i 0 (omega (arith, length-drop from was))) in (
      ap (λ (m : ℕ). take m (set log (to + i) v)) j ∙ take_more_set log (to + i) v (omega arith)
          ∙ ap (λ (l : List ℕ). l ++ v ∷ []) front ∙ append_assoc (take to was) (take i (drop from was)) (v ∷ []) ∙ ap (λ (l : List ℕ). take to was ++ l) next,
      ap (λ (m : ℕ). drop m (set log (to + i) v)) k ∙ drop-set-lt (from + i + 1) log (to + i) v (omega arith) ∙ tail ∙ ap (λ (m : ℕ). drop m was) (sym k),
    )
