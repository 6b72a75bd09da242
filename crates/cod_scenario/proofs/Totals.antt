-- What one more line does to the totals.
use Rattle.std.proofs.Common.{◌≡◌, ℕ, zero, suc, ◌+◌, ◌<◌, ◌≤◌, true, false, List, [], ◌∷◌, ◌++◌, length, take, drop, refl, sym, ap, ◌∙◌, arith, inl, inr, Ok, Err, map, min, ◌^◌, ◌-◌}
use Rattle.std.proofs.Math.Seq.{take-nil, drop-nil}
use Rattle.std.specs.Prelude.{nat_le, IfOk}
use Rattle.std.proofs.lemmas.Bool.{cases_lt, le-ltb, lt-ltb, le-leb, lt-leb, leb-true}
use Rattle.std.proofs.lemmas.List.Sums.{sum_by-append, fold-append}
use Rattle.std.proofs.lemmas.List.{map_push}
use Rattle.cod_scenario.specs.declared.said.Said.{Said}
use Rattle.cod_scenario.specs.declared.said.Said.TheVariants as said
use Rattle.cod_scenario.specs.declared.said.Header.{Header}
use Rattle.cod_script.specs.declared.line.Line.{Line}
use Rattle.cod_script.specs.Script.{Client, Body, onto_last}
use Rattle.cod_scenario.specs.Lines.{header_of, body_of, segments_of, clients_of, client_names, with_line, weight_of, line_weight, noted, no_header, holds}
use Rattle.cod_scenario.specs.Judge.{wants, carried, is_segment, is_placed}
use Rattle.cod_scenario.specs.declared.refusal.Refusal.TheVariants.{TooLarge, Room}
use Rattle.cod_scenario.specs.Reading.{AddsTo, IsCarried, with_segment, with_client, with_header}
use Rattle.cod_scenario.proofs.Gathering.{body_more}
use Rattle.cod_scenario.proofs.Accepting.{bind, wanted}

take_early : {A : Type 0} (n : ℕ) (xs : List A) (x : A) → length xs < n → take n (xs ++ x ∷ []) ≡ take n xs ++ x ∷ []
take_early zero xs x h = absurd (omega (arith, h))
take_early (suc n) [] x h = ap (λ l. x ∷ l) (take-nil n)
take_early (suc n) (y ∷ ys) x h = ap (λ l. y ∷ l) (take_early n ys x (omega (arith, h)))

take_late : {A : Type 0} (n : ℕ) (xs : List A) (x : A) → n ≤ length xs → take n (xs ++ x ∷ []) ≡ take n xs
take_late zero xs x h = refl
take_late (suc n) [] x h = absurd (omega (arith, h))
take_late (suc n) (y ∷ ys) x h = ap (λ l. y ∷ l) (take_late n ys x (omega (arith, h)))

drop_early : {A : Type 0} (n : ℕ) (xs : List A) (x : A) → length xs < n → drop n (xs ++ x ∷ []) ≡ []
drop_early zero xs x h = absurd (omega (arith, h))
drop_early (suc n) [] x h = drop-nil n
drop_early (suc n) (y ∷ ys) x h = drop_early n ys x (omega (arith, h))

drop_late : {A : Type 0} (n : ℕ) (xs : List A) (x : A) → n ≤ length xs → drop n (xs ++ x ∷ []) ≡ drop n xs ++ x ∷ []
drop_late zero xs x h = refl
drop_late (suc n) [] x h = absurd (omega (arith, h))
drop_late (suc n) (y ∷ ys) x h = drop_late n ys x (omega (arith, h))

drop_all : {A : Type 0} (n : ℕ) (xs : List A) → length xs ≤ n → drop n xs ≡ []
drop_all zero [] h = refl
drop_all (suc n) [] h = refl
drop_all zero (y ∷ ys) h = absurd (omega (arith, h))
drop_all (suc n) (y ∷ ys) h = drop_all n ys (omega (arith, h))

pub header_early : (lines : List Said) (s : Said) → length lines < 8 → header_of (lines ++ s ∷ []) ≡ noted (header_of lines) s
unfolding header_of
header_early lines s h = rw (take_early 8 lines s h) (fold-append noted no_header (take 8 lines) (s ∷ []))

pub header_late : (lines : List Said) (s : Said) → 8 ≤ length lines → header_of (lines ++ s ∷ []) ≡ header_of lines
unfolding header_of
header_late lines s h = rw (take_late 8 lines s h) refl

pub weight_early : (lines : List Said) (s : Said) → length lines < 8 → weight_of (lines ++ s ∷ []) ≡ 0
unfolding weight_of
weight_early lines s h = rw (drop_early 8 lines s h) refl

pub weight_none : (lines : List Said) → length lines < 8 → weight_of lines ≡ 0
unfolding weight_of
weight_none lines h = rw (drop_all 8 lines (omega (arith, h))) refl

pub weight_late : (lines : List Said) (s : Said) → 8 ≤ length lines → weight_of (lines ++ s ∷ []) ≡ weight_of lines + line_weight (header_of lines) s
unfolding weight_of
weight_late lines s h = rw (header_late lines s h, drop_late 8 lines s h, sum_by-append (line_weight (header_of lines)) (drop 8 lines) (s ∷ [])) (grind arith)

segments_step : (p : Body) (s : Said) → (with_line p s).segments ≡ with_segment p.segments s
segments_step p (said.Segment name) = refl
segments_step p _ = refl

names_onto : (cs : List Client) (l : Line) → map (λ (c : Client). c.name) (onto_last cs l) ≡ map (λ (c : Client). c.name) cs
names_onto [] l = refl
names_onto (c ∷ []) l = refl
names_onto (c ∷ d ∷ more) l = ap (λ ns. c.name ∷ ns) (names_onto (d ∷ more) l)

pub clients_step : (p : Body) (s : Said) → client_names (with_line p s) ≡ with_client (client_names p) s
clients_step p (said.Client name) = map_push (λ (c : Client). c.name) p.clients (record { name = name; lines = [] })
clients_step p (said.Does line what) = names_onto p.clients (record { line = line; what = what })
clients_step p _ = refl

pub segments_more : (lines : List Said) (s : Said) → segments_of (lines ++ s ∷ []) ≡ with_segment (segments_of lines) s
segments_more lines s = ap (λ (p : Body). p.segments) (body_more lines s) ∙ segments_step (body_of lines) s

pub clients_more : (lines : List Said) (s : Said) → clients_of (lines ++ s ∷ []) ≡ with_client (clients_of lines) s
clients_more lines s = ap client_names (body_more lines s) ∙ clients_step (body_of lines) s

is_early : (n : ℕ) (h : Header) (s : Said) → n < 8 → with_header n h s ≡ noted h s
is_early n h s lt = rw (lt-ltb n 8 lt) refl

pub is_late : (n : ℕ) (h : Header) (s : Said) → 8 ≤ n → with_header n h s ≡ h
is_late n h s le = rw (le-ltb n 8 le) refl

pub header_more : (lines : List Said) (s : Said) → header_of (lines ++ s ∷ []) ≡ with_header (length lines) (header_of lines) s
header_more lines s = elim (cases_lt (length lines) 8) [
  | inl lt ↦ header_early lines s lt ∙ sym (is_early _ _ s lt)
  | inr le ↦ header_late lines s le ∙ sym (is_late _ _ s le)
]

-- the weight by its running total
pub adds_early : (lines : List Said) (s : Said) (w more total : ℕ) → length lines < 8 → w ≡ weight_of lines → more ≡ 0
    → total ≡ min (w + more) (2 ^ 128 - 1) → AddsTo lines s total
adds_early lines s w more total h e d t =
    let a = weight_early lines s h in let b = weight_none lines h in (λ l. omega (arith, a, b, e, d, t), λ l. absurd (omega (arith, a, b, e, d, t, l)))

pub adds_late : (lines : List Said) (s : Said) (w more total : ℕ) → 8 ≤ length lines → w ≡ weight_of lines → more ≡ line_weight (header_of lines) s
    → total ≡ min (w + more) (2 ^ 128 - 1) → AddsTo lines s total
adds_late lines s w more total h e d t = let a = weight_late lines s h in (λ l. omega (arith, a, e, d, t, l), λ l. omega (arith, a, e, d, t, l))

pub too_heavy : (lines : List Said) (s : Said) (total : ℕ) → 268435456 < total → AddsTo lines s total → carried lines s ≡ Err TooLarge
unfolding carried
too_heavy lines s total h a = rw (lt-leb _ _ (a.1 h)) refl

pub no_place : (lines : List Said) (s : Said) (total : ℕ) → total ≤ 268435456 → AddsTo lines s total → is_placed lines s ≡ false → carried lines s ≡ Err Room
unfolding carried
no_place lines s total h a full = let e = a.0 h in rw (le-leb (weight_of (lines ++ s ∷ [])) 268435456 (omega (arith, e, h)), full) refl

pub is_carried : (lines : List Said) (s : Said) (total : ℕ) → total ≤ 268435456 → AddsTo lines s total → is_placed lines s ≡ true → carried lines s ≡ Ok s
unfolding carried
is_carried lines s total h a room = let e = a.0 h in rw (le-leb (weight_of (lines ++ s ∷ [])) 268435456 (omega (arith, e, h)), room) refl

pub carried_in : (lines : List Said) (s : Said) (P : Said → Type 0) → (IsCarried lines s → P s) → IfOk (carried lines s) P
unfolding carried
carried_in lines s P f =
    bind (wants (nat_le (weight_of (lines ++ s ∷ [])) 268435456) TooLarge) _ (λ _. nat_le (weight_of (lines ++ s ∷ [])) 268435456 ≡ true) P (wanted _ TooLarge) (λ u light.
    bind (wants (is_placed lines s) Room) _ (λ _. is_placed lines s ≡ true) P (wanted _ Room) (λ v placed.
    f (record { light = leb-true (weight_of (lines ++ s ∷ [])) 268435456 light; placed = placed })))

pub was_carried : (lines : List Said) (s : Said) → carried lines s ≡ Ok s → IsCarried lines s
was_carried lines s e = let h = carried_in lines s (λ _. IsCarried lines s) (λ c. c) in rw e at h

-- there is room where a segment was carried
pub has_place : (lines : List Said) (s : Said) → is_segment s ≡ true → carried lines s ≡ Ok s → holds (header_of lines) (length (segments_of lines) + 1) ≡ true
has_place lines s is e = let k = (was_carried lines s e).placed in rw is at k

pub placed_other : (lines : List Said) (s : Said) → is_segment s ≡ false → is_placed lines s ≡ true
placed_other lines s e = rw e refl

pub placed_at : (lines : List Said) (s : Said) → is_segment s ≡ true → is_placed lines s ≡ holds (header_of lines) (length (segments_of lines) + 1)
placed_at lines s e = rw e refl
