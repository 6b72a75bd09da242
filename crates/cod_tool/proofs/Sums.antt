-- Sums over the numbers below a number, and the calls of some lines.
use Rattle.std.proofs.Common.{◌≡◌, ℕ, ◌+◌, ◌-◌, ◌<◌, ◌≤◌, List, [], ◌∷◌, ◌++◌, length, take, get_or, sym, ap, ◌∙◌, arith}
use Rattle.std.specs.List.{range_with_len, sum_by}
use Rattle.std.proofs.lemmas.List.{length-append, take_more}
use Rattle.std.proofs.lemmas.List.Elements.{filter_map-append}
use Rattle.std.proofs.lemmas.List.Sums.{sum_by-append, sum_by_push}
use Rattle.cod_script.specs.declared.line.Line.{Line}
use Rattle.cod_script.specs.Script.{ask_of, asks}
use Rattle.cod_shell.proofs.Texts.{range_split}

-- one term more
pub sums_more : (f : ℕ → ℕ) (i : ℕ) → sum_by f (range_with_len 0 (i + 1)) ≡ sum_by f (range_with_len 0 i) + f i
sums_more f i =
    let z : 0 + i ≡ i = omega arith in
    ap (sum_by f) (range_split 0 i 1 ∙ ap (λ (k : ℕ). range_with_len 0 i ++ k ∷ []) z) ∙ sum_by_push f (range_with_len 0 i) i

-- the terms up to one are within the sum
pub sums_within : (f : ℕ → ℕ) (n i : ℕ) → i < n → sum_by f (range_with_len 0 i) + f i ≤ sum_by f (range_with_len 0 n)
sums_within f n i lt =
    let e : n ≡ (i + 1) + (n - (i + 1)) = omega arith in
    let whole : sum_by f (range_with_len 0 n) ≡ sum_by f (range_with_len 0 (i + 1)) + sum_by f (range_with_len (0 + (i + 1)) (n - (i + 1))) =
    ap (λ (k : ℕ). sum_by f (range_with_len 0 k)) e ∙ ap (sum_by f) (range_split 0 (i + 1) (n - (i + 1))) ∙ sum_by-append f (range_with_len 0 (i + 1)) (range_with_len (0 + (i + 1)) (n - (i + 1))) in
    let more = sums_more f i in
    omega arith

-- the calls of one line more
pub calls_next : (lines : List Line) (i n r : ℕ) (line : Line) → n ≡ length (asks (take i lines)) → r ≡ length (asks (line ∷ [])) → i < length lines → line ≡ get_or lines i line
    → n + r ≡ length (asks (take (i + 1) lines))
calls_next lines i n r line before here lt is =
    let whole : asks (take (i + 1) lines) ≡ asks (take i lines) ++ asks (line ∷ []) =
    ap asks (take_more lines i line lt) ∙ filter_map-append (λ (l : Line). ask_of l.what) (take i lines) (get_or lines i line ∷ [])
    ∙ ap (λ (l : Line). asks (take i lines) ++ asks (l ∷ [])) (sym is) in
    omega (arith, ap length whole, length-append (asks (take i lines)) (asks (line ∷ [])))
