-- The lines of checks and plans, in pieces.
use Rattle.std.proofs.Common.{◌≡◌, ℕ, ◌-◌, List, [], ◌∷◌, ◌++◌, map, codes, decimal, sym, ap, ◌∙◌, append_assoc}
use Rattle.std.specs.List.{flat_map, range_with_len}
use Rattle.cod_types.specs.Columns.{home_of}
use Rattle.cod_script.specs.Script.{Script}
use Rattle.cod_print.specs.Pieces.{spaced}
use Rattle.cod_text.specs.Printed.{line_of, segment_word}
use Rattle.cod_text.proofs.Spacing.{line_spaced}
use Rattle.cod_tool.specs.Planned.{all_take, first_node_line, home_line}
use Rattle.cod_tool.proofs.Rows.{spaced_map}

-- three texts with two between them, and an end
joined : (a u b v c e : List ℕ) → (a ++ (u ++ (b ++ (v ++ c)))) ++ e ≡ a ++ (u ++ (b ++ (v ++ (c ++ e))))
joined a u b v c e =
    append_assoc a (u ++ (b ++ (v ++ c))) e
    ∙ ap (λ (l : List ℕ). a ++ l) (append_assoc u (b ++ (v ++ c)) e ∙ ap (λ (l : List ℕ). u ++ l) (append_assoc b (v ++ c) e ∙ ap (λ (l : List ℕ). b ++ l) (append_assoc v c e)))

pub check_parts : (a b c : List ℕ) → line_of (codes "ok" ∷ codes "segments" ∷ a ∷ codes "clients" ∷ b ∷ codes "calls" ∷ c ∷ [])
    ≡ (codes "ok segments " ++ a) ++ ((codes " clients " ++ b) ++ ((codes " calls " ++ c) ++ 10 ∷ []))
check_parts a b c = ap (λ (l : List ℕ). codes "ok segments " ++ l) (joined a (codes " clients ") b (codes " calls ") c (10 ∷ []))

node_pieces : (a b c : List ℕ) → line_of (codes "node" ∷ a ∷ codes "up" ∷ codes "taken" ∷ b ∷ codes "free" ∷ c ∷ [])
    ≡ (codes "node " ++ a) ++ ((codes " up taken " ++ b) ++ ((codes " free " ++ c) ++ 10 ∷ []))
node_pieces a b c = ap (λ (l : List ℕ). codes "node " ++ l) (joined a (codes " up taken ") b (codes " free ") c (10 ∷ []))

pub node_parts : (x : Script) (y taken free : ℕ) → taken ≡ all_take x y → free ≡ x.capacity - taken
    → first_node_line x y ≡ (codes "node " ++ decimal y) ++ ((codes " up taken " ++ decimal taken) ++ ((codes " free " ++ decimal free) ++ 10 ∷ []))
unfolding first_node_line
node_parts x y taken free t f =
    ap (λ (k : ℕ). line_of (codes "node" ∷ decimal y ∷ codes "up" ∷ codes "taken" ∷ decimal k ∷ codes "free" ∷ decimal (x.capacity - k) ∷ [])) (sym t)
    ∙ ap (λ (k : ℕ). line_of (codes "node" ∷ decimal y ∷ codes "up" ∷ codes "taken" ∷ decimal taken ∷ codes "free" ∷ decimal k ∷ [])) (sym f)
    ∙ node_pieces (decimal y) (decimal taken) (decimal free)

pub home_parts : (x : Script) (s : ℕ) → home_line x s ≡ (codes "plan " ++ segment_word x s) ++ (flat_map (λ i. 32 ∷ decimal (home_of s i x.nodes)) (range_with_len 0 x.shape.n) ++ 10 ∷ [])
unfolding home_line
home_parts x s =
    let word : ℕ → List ℕ = λ i. decimal (home_of s i x.nodes) in
    let places = range_with_len 0 x.shape.n in
    line_spaced (codes "plan") (segment_word x s ∷ map word places)
    ∙ ap (λ (l : List ℕ). codes "plan " ++ l) (append_assoc (segment_word x s) (spaced (map word places)) (10 ∷ []) ∙ ap (λ (l : List ℕ). segment_word x s ++ (l ++ 10 ∷ [])) (spaced_map word places))
