-- A line's number tells where it stands.
use Rattle.std.proofs.Common.{◌≡◌, ℕ, zero, suc, ◌<◌, List, [], ◌∷◌, ◌++◌, map, refl, sym, ap, ◌∙◌, subst, arith}
use Rattle.std.specs.List.{AllByRecursion}
use Rattle.std.specs.Prelude.{slice_index_or}
use Rattle.cod_chronicle.proofs.Orders.{Each-left, Each-right}
use Rattle.cod_script.specs.declared.line.Line.{Line}
use Rattle.cod_script.specs.declared.line.What.TheVariants.{Fail}
use Rattle.cod_script.specs.Script.{Client, nobody}
use Rattle.cod_script.specs.Sound.{NumbersRise, line_numbers}
use Rattle.cod_script.proofs.Emptied.{rise_from_less, rise_behind}
use Rattle.cod_turns.specs.Whole_runs.{LinesAreApart}

above : (t : ℕ) (ns : List ℕ) → NumbersRise t ns → AllByRecursion (λ n. t < n) ns
above t [] r = tt
above t (n ∷ ns) r = (r.0, above t ns (rise_from_less n t ns (let a = r.0 in omega (arith, a)) r.1))

left_of : (t : ℕ) (xs ys : List ℕ) → NumbersRise t (xs ++ ys) → NumbersRise t xs
left_of t [] ys r = tt
left_of t (x ∷ xs) ys r = (r.0, left_of x xs ys r.1)

-- all in front are smaller than all behind
crossed : (t m : ℕ) (xs ys : List ℕ) → NumbersRise t (xs ++ ys) → AllByRecursion (λ x. AllByRecursion (λ y. x < y) ys) xs
crossed t m [] ys r = tt
crossed t m (x ∷ xs) ys r = (above x ys (rise_behind x xs ys r.1), crossed x m xs ys r.1)

abbrev numbers : List Line → List ℕ
numbers ls = map (λ l. l.line) ls

named : (P : ℕ → Type 0) (front rest : List Line) (l : Line) → AllByRecursion P (numbers (front ++ l ∷ rest)) → P l.line
named P [] rest l a = a.0
named P (f ∷ front) rest l a = named P front rest l a.1

one_place : (t : ℕ) (front front' rest rest' : List Line) (l l' : Line) → NumbersRise t (numbers (front ++ l ∷ rest)) → front ++ l ∷ rest ≡ front' ++ l' ∷ rest' → l.line ≡ l'.line
    → front ≡ front'
one_place t [] [] rest rest' l l' r e same = refl
one_place t [] (g ∷ front') rest rest' l l' r e same =
    let more : rest ≡ front' ++ l' ∷ rest' = cc in
    let a = named (λ n. l.line < n) front' rest' l' (subst (λ (ls : List Line). AllByRecursion (λ n. l.line < n) (numbers ls)) more (above l.line (numbers rest) r.1)) in
    absurd (omega (arith, a, same))
one_place t (f ∷ front) [] rest rest' l l' r e same =
    let first : f ≡ l' = cc in
    let a = named (λ n. f.line < n) front rest l (above f.line (numbers (front ++ l ∷ rest)) r.1) in
    let b : f.line ≡ l'.line = ap (λ (k : Line). k.line) first in
    absurd (omega (arith, a, b, same))
one_place t (f ∷ front) (g ∷ front') rest rest' l l' r e same =
    let first : f ≡ g = cc in
    let more : front ++ l ∷ rest ≡ front' ++ l' ∷ rest' = cc in
    let h = one_place f.line front front' rest rest' l l' r.1 more same in
    cc (first, h)

no_line : (front rest : List Line) (l : Line) → [] ≡ front ++ l ∷ rest → ⊥
no_line [] rest l e = cc
no_line (f ∷ front) rest l e = cc

abbrev lines_at : List Client → ℕ → List Line
lines_at cs who = (slice_index_or cs who nobody).lines

-- the number of a client's line is among all
among : (P : ℕ → Type 0) (cs : List Client) (who : ℕ) (front rest : List Line) (l : Line) → lines_at cs who ≡ front ++ l ∷ rest → AllByRecursion P (line_numbers cs) → P l.line
among P [] who front rest l e a = absurd (no_line front rest l e)
among P (c ∷ cs) zero front rest l e a =
    named P front rest l (subst (λ (ls : List Line). AllByRecursion P (numbers ls)) e (Each-left P (numbers c.lines) (line_numbers cs) a))
among P (c ∷ cs) (suc who) front rest l e a = among P cs who front rest l e (Each-right P (numbers c.lines) (line_numbers cs) a)

apart_in : (t : ℕ) (cs : List Client) (who who' : ℕ) (front front' rest rest' : List Line) (l l' : Line) → NumbersRise t (line_numbers cs)
    → lines_at cs who ≡ front ++ l ∷ rest → lines_at cs who' ≡ front' ++ l' ∷ rest' → l.line ≡ l'.line → (who ≡ who') × (front ≡ front')
apart_in t [] who who' front front' rest rest' l l' r e e' same = absurd (no_line front rest l e)
apart_in t (c ∷ cs) zero zero front front' rest rest' l l' r e e' same =
    (refl, one_place t front front' rest rest' l l' (subst (λ (ls : List Line). NumbersRise t (numbers ls)) e (left_of t (numbers c.lines) (line_numbers cs) r)) (sym e ∙ e') same)
apart_in t (c ∷ cs) zero (suc who') front front' rest rest' l l' r e e' same =
    let x = crossed t 0 (numbers c.lines) (line_numbers cs) r in
    let a = named (λ n. AllByRecursion (λ y. n < y) (line_numbers cs)) front rest l
    (subst (λ (ls : List Line). AllByRecursion (λ n. AllByRecursion (λ y. n < y) (line_numbers cs)) (numbers ls)) e x) in
    let b = among (λ y. l.line < y) cs who' front' rest' l' e' a in
    absurd (omega (arith, b, same))
apart_in t (c ∷ cs) (suc who) zero front front' rest rest' l l' r e e' same =
    let x = crossed t 0 (numbers c.lines) (line_numbers cs) r in
    let a = named (λ n. AllByRecursion (λ y. n < y) (line_numbers cs)) front' rest' l'
    (subst (λ (ls : List Line). AllByRecursion (λ n. AllByRecursion (λ y. n < y) (line_numbers cs)) (numbers ls)) e' x) in
    let b = among (λ y. l'.line < y) cs who front rest l e a in
    absurd (omega (arith, b, same))
apart_in t (c ∷ cs) (suc who) (suc who') front front' rest rest' l l' r e e' same =
    let h = apart_in t cs who who' front front' rest rest' l l' (rise_behind t (numbers c.lines) (line_numbers cs) r) e e' same in
    (ap suc h.0, h.1)

pub lines_are_apart : LinesAreApart
lines_are_apart x X line node other_node who other front other_front f g =
    apart_in 0 x.clients who other front other_front f.rest g.rest (record { line = line; what = Fail f.at }) (record { line = line; what = Fail g.at }) X.lines_rise f.lines_are g.lines_are refl
