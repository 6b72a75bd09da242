-- The words of a line, with a space between two of them.
use Rattle.std.proofs.Common.{◌≡◌, ◌++◌, List, [], ◌∷◌, ℕ, refl, sym, ap, ◌∙◌, append_assoc, map}
use Rattle.std.specs.List.{flat_map, join_with_byte}
use Rattle.std.proofs.lemmas.List.{append-nil}
use Rattle.std.proofs.lemmas.List.Concat.{flat_map-append}
use Rattle.cod_print.specs.Pieces.{spaced}
use Rattle.cod_types.specs.declared.reasons.Reason.{Reason}
use Rattle.cod_text.specs.Printed.{line_of, reason_word}

-- a word, and the others with a space before each
join_spaced : (w : List ℕ) (ws : List (List ℕ)) → join_with_byte 32 (w ∷ ws) ≡ w ++ spaced ws
join_spaced w [] = sym (append-nil w)
join_spaced w (v ∷ vs) = ap (λ (l : List ℕ). w ++ 32 ∷ l) (join_spaced v vs)

-- a line, its first word apart
pub line_spaced : (w : List ℕ) (ws : List (List ℕ)) → line_of (w ∷ ws) ≡ w ++ (spaced ws ++ 10 ∷ [])
line_spaced w ws = ap (λ (l : List ℕ). l ++ 10 ∷ []) (join_spaced w ws) ∙ append_assoc w (spaced ws) (10 ∷ [])

pub spaced-append : (vs ws : List (List ℕ)) → spaced (vs ++ ws) ≡ spaced vs ++ spaced ws
spaced-append vs ws = flat_map-append (λ (w : List ℕ). 32 ∷ w) vs ws

-- two pieces that are one text, with more behind them
pub two_joined : (a b both more : List ℕ) → a ++ b ≡ both → a ++ (b ++ more) ≡ both ++ more
two_joined a b both more e = sym (append_assoc a b more) ∙ ap (λ (l : List ℕ). l ++ more) e

-- the words of a line in three parts
pub line_parts : (w : List ℕ) (ws vs us : List (List ℕ)) → line_of (w ∷ (ws ++ (vs ++ us))) ≡ (w ++ spaced ws) ++ (spaced vs ++ (spaced us ++ 10 ∷ []))
line_parts w ws vs us =
    line_spaced w (ws ++ (vs ++ us))
    ∙ ap (λ (l : List ℕ). w ++ (l ++ 10 ∷ [])) (spaced-append ws (vs ++ us) ∙ ap (λ (l : List ℕ). spaced ws ++ l) (spaced-append vs us))
    ∙ ap (λ (l : List ℕ). w ++ l) (append_assoc (spaced ws) (spaced vs ++ spaced us) (10 ∷ []) ∙ ap (λ (l : List ℕ). spaced ws ++ l) (append_assoc (spaced vs) (spaced us) (10 ∷ [])))
    ∙ sym (append_assoc w (spaced ws) (spaced vs ++ (spaced us ++ 10 ∷ [])))

-- a line of two numbers, its end apart
pub line_end : (head a mid b : List ℕ) → head ++ (a ++ (mid ++ (b ++ 10 ∷ []))) ≡ head ++ ((a ++ (mid ++ b)) ++ 10 ∷ [])
line_end head a mid b = ap (λ (l : List ℕ). head ++ l) (ap (λ (l : List ℕ). a ++ l) (sym (append_assoc mid b (10 ∷ []))) ∙ sym (append_assoc a (mid ++ b) (10 ∷ [])))

-- the words of a line in two parts
pub line_two : (w : List ℕ) (ws vs : List (List ℕ)) → line_of (w ∷ (ws ++ vs)) ≡ (w ++ spaced ws) ++ (spaced vs ++ 10 ∷ [])
line_two w ws vs =
    line_spaced w (ws ++ vs) ∙ ap (λ (l : List ℕ). w ++ (l ++ 10 ∷ [])) (spaced-append ws vs) ∙ ap (λ (l : List ℕ). w ++ l) (append_assoc (spaced ws) (spaced vs) (10 ∷ []))
    ∙ sym (append_assoc w (spaced ws) (spaced vs ++ 10 ∷ []))

-- reasons, each with its space
pub reasons_spaced : (rs : List Reason) → flat_map (λ r. 32 ∷ reason_word r) rs ≡ spaced (map (λ r. reason_word r) rs)
reasons_spaced [] = refl
reasons_spaced (r ∷ rs) = ap (λ (l : List ℕ). 32 ∷ (reason_word r ++ l)) (reasons_spaced rs)
