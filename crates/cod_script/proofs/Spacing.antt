-- The words of a schedule's line.
use Rattle.std.proofs.Common.{◌≡◌, ◌++◌, List, [], ◌∷◌, ℕ, refl, sym, ap, ◌∙◌, append_assoc, ◌<◌, length, map, arith}
use Rattle.std.specs.Prelude.{codes}
use Rattle.std.specs.List.{flat_map}
use Rattle.cod_script.specs.Script.{Client}
use Rattle.cod_script.specs.Text.{words_text, schedule_text, name_at}

-- the words of a line, each with its space
words_spaced : (f : ℕ → List ℕ) (ts : List ℕ) → words_text (map f ts) ≡ flat_map (λ t. 32 ∷ f t) ts ++ 10 ∷ []
words_spaced f [] = refl
words_spaced f (t ∷ ts) = ap (λ (l : List ℕ). 32 ∷ (f t ++ l)) (words_spaced f ts) ∙ ap (λ (l : List ℕ). 32 ∷ l) (sym (append_assoc (f t) (flat_map (λ t. 32 ∷ f t) ts) (10 ∷ [])))

pub schedule_parts : (clients : List Client) (ts : List ℕ) → 0 < length ts
    → schedule_text clients ts ≡ codes "schedule" ++ (flat_map (λ t. 32 ∷ name_at clients t) ts ++ 10 ∷ [])
schedule_parts clients [] h = absurd (omega (arith, h))
schedule_parts clients (t ∷ ts) h = ap (λ (l : List ℕ). codes "schedule" ++ l) (words_spaced (name_at clients) (t ∷ ts))
