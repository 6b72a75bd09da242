-- Lines that are added, and numbers that are drawn, one after another.
use Rattle.std.proofs.Common.{◌≡◌, ℕ, zero, suc, ◌+◌, List, [], ◌∷◌, ◌++◌, length, refl, sym, ap, ◌∙◌, arith}
use Rattle.std.specs.List.{flat_map}
use Rattle.std.proofs.lemmas.List.{append-nil, append_assoc}
use Rattle.cod_script.specs.declared.line.Line.{Line}
use Rattle.cod_script.specs.declared.line.What.{What}
use Rattle.cod_script.specs.Script.{Client, Body, onto_last}
use Rattle.cod_gen.specs.Drawn.{next_state, after}
use Rattle.cod_gen.specs.Drafting.{Draft, with_line, with_lines, with_state}
use Rattle.cod_gen.specs.Generated.{numbered}

pub lines-append : (d : Draft) (xs ys : List What) → with_lines d (xs ++ ys) ≡ with_lines (with_lines d xs) ys
lines-append d [] ys = refl
lines-append d (x ∷ xs) ys = lines-append (with_line d x) xs ys

-- how many lines more
pub line_after : (d : Draft) (ws : List What) → (with_lines d ws).line ≡ d.line + length ws
line_after d [] = omega arith
line_after d (w ∷ ws) = let h = line_after (with_line d w) ws in omega (arith, h)

pub state_after : (d : Draft) (ws : List What) → (with_lines d ws).state ≡ d.state
state_after d [] = refl
state_after d (w ∷ ws) = state_after (with_line d w) ws

pub lines-state : (d : Draft) (x : ℕ) (ws : List What) → with_lines (with_state d x) ws ≡ with_state (with_lines d ws) x
lines-state d x [] = refl
lines-state d x (w ∷ ws) = lines-state (with_line d w) x ws

pub after-add : (a b x : ℕ) → after (a + b) x ≡ after b (after a x)
unfolding after
after-add a zero x = let z : a + 0 ≡ a = omega arith in rw z refl
after-add a (suc b) x = let z : a + suc b ≡ suc (a + b) = omega arith in rw z (ap next_state (after-add a b x))

pub flat-push : (f : ℕ → List What) (xs : List ℕ) (y : ℕ) → flat_map f (xs ++ y ∷ []) ≡ flat_map f xs ++ f y
flat-push f [] y = append-nil (f y)
flat-push f (x ∷ xs) y = ap (λ (l : List What). f x ++ l) (flat-push f xs y) ∙ sym (append_assoc (f x) (flat_map f xs) (f y))

-- ---- the last client gets them

onto_last-push : (cs : List Client) (c : Client) (l : Line) → onto_last (cs ++ c ∷ []) l ≡ cs ++ (record c { lines = c.lines ++ l ∷ [] }) ∷ []
onto_last-push [] c l = refl
onto_last-push (b ∷ []) c l = refl
onto_last-push (b ∷ d ∷ more) c l = ap (λ (k : List Client). b ∷ k) (onto_last-push (d ∷ more) c l)

abbrev draft_of : Body → List Client → Client → ℕ → ℕ → Draft
draft_of b cs c n x = record { body = record b { clients = cs ++ c ∷ [] }; line = n; state = x }

pub lines_are : (b : Body) (cs : List Client) (c : Client) (n x : ℕ) (ws : List What)
    → with_lines (draft_of b cs c n x) ws ≡ draft_of b cs (record c { lines = c.lines ++ numbered n ws }) (n + length ws) x
lines_are b cs c n x [] =
    let e = append-nil c.lines in
    let z : n + 0 ≡ n = omega arith in
    sym (ap (λ (ls : List Line). draft_of b cs (record c { lines = ls }) (n + 0) x) e ∙ ap (λ (m : ℕ). draft_of b cs c m x) z)
lines_are b cs c n x (w ∷ ws) =
    let l : Line = record { line = n; what = w } in
    let one = ap (λ (k : List Client). with_lines (record { body = record b { clients = k }; line = n + 1; state = x }) ws) (onto_last-push cs c l) in
    let more = lines_are b cs (record c { lines = c.lines ++ l ∷ [] }) (n + 1) x ws in
    let e = append_assoc c.lines (l ∷ []) (numbered (n + 1) ws) in
    let z : n + 1 + length ws ≡ n + suc (length ws) = omega arith in
    one ∙ more ∙ ap (λ (ls : List Line). draft_of b cs (record c { lines = ls }) (n + 1 + length ws) x) e
    ∙ ap (λ (m : ℕ). draft_of b cs (record c { lines = c.lines ++ numbered n (w ∷ ws) }) m x) z
