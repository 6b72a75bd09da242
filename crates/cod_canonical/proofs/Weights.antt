-- The weight and the room of a scenario by its parts.
use Rattle.std.proofs.Common.{◌≡◌, ℕ, zero, suc, ◌+◌, ◌*◌, ◌-◌, ◌<◌, ◌≤◌, true, List, [], ◌∷◌, length, refl, arith, add-one, ◌∙◌}
use Rattle.std.specs.Prelude.{nat_le}
use Rattle.std.specs.List.{list_all, range_with_len, sum_by}
use Rattle.std.proofs.lemmas.List.Sums.{sum_by-append}
use Rattle.cod_types.specs.Limits.{Shape}
use Rattle.cod_script.specs.declared.line.Line.{Line}
use Rattle.cod_script.specs.Room.{taken_on}
use Rattle.cod_script.specs.Script.{Client, Body}
use Rattle.cod_script.specs.Weight as weigh
use Rattle.cod_script.proofs.RoomSums.{taken_on_more, fits_more, all_fit, room_at}
use Rattle.cod_scenario.specs.declared.said.Header.{Header}
use Rattle.cod_scenario.specs.declared.said.Said.TheVariants as said
use Rattle.cod_scenario.specs.Lines.{line_weight, holds, script_with, shape_of}

-- ---- the weight

unfoldable pub segments_weight : Header → List (List ℕ) → ℕ
segments_weight h [] = 0
segments_weight h (name ∷ names) = line_weight h (said.Segment name) + segments_weight h names

unfoldable pub lines_weight : Header → List Line → ℕ
lines_weight h [] = 0
lines_weight h (l ∷ ls) = line_weight h (said.Does 0 l.what) + lines_weight h ls

unfoldable pub clients_weight : Header → List Client → ℕ
clients_weight h [] = 0
clients_weight h (c ∷ cs) = lines_weight h c.lines + clients_weight h cs

unfoldable pub parts_weight : Header → Body → ℕ
parts_weight h p = segments_weight h p.segments + (clients_weight h p.clients + line_weight h (said.Care p.workers p.rounds))

sum_cons : {A : Type 0} (f : A → ℕ) (x : A) (xs : List A) → sum_by f (x ∷ xs) ≡ f x + sum_by f xs
sum_cons f x xs = sum_by-append f (x ∷ []) xs ∙ grind arith

one_more : (n k : ℕ) → suc n * k ≡ k + n * k
one_more n k = grind arith

same_segments : (h : Header) (names : List (List ℕ)) → segments_weight h names ≡ length names * (h.n * weigh.region (shape_of h))
unfolding segments_weight line_weight
same_segments h [] = omega arith
same_segments h (name ∷ names) =
    let i = same_segments h names in let e = one_more (length names) (h.n * weigh.region (shape_of h)) in omega (arith, i, e)

same_lines : (h : Header) (ls : List Line) → lines_weight h ls ≡ weigh.lines_weight (shape_of h) ls
unfolding lines_weight line_weight weigh.lines_weight
same_lines h [] = refl
same_lines h (l ∷ ls) = let i = same_lines h ls in let e = sum_cons (λ (k : Line). weigh.what_weight (shape_of h) k.what) l ls in omega (arith, i, e)

same_clients : (h : Header) (cs : List Client) → clients_weight h cs ≡ weigh.clients_weight (shape_of h) cs
unfolding clients_weight weigh.clients_weight
same_clients h [] = refl
same_clients h (c ∷ cs) =
    let i = same_clients h cs in
    let l = same_lines h c.lines in
    let e = sum_cons (λ (k : Client). weigh.lines_weight (shape_of h) k.lines) c cs in
    omega (arith, i, l, e)

-- the weight of the lines is that of the scenario
pub same_weight : (h : Header) (q : Body) → parts_weight h q ≡ weigh.weight (script_with h q)
unfolding parts_weight line_weight weigh.weight
same_weight h q = let a = same_segments h q.segments in let b = same_clients h q.clients in omega (arith, a, b)

-- ---- the room

more_taken : (g : Shape) (nodes x a d b : ℕ) → a + d ≡ b → taken_on g nodes a x ≤ taken_on g nodes b x
more_taken g nodes x a zero b e = let s : a ≡ b = omega (arith, e) in rw s (omega arith)
more_taken g nodes x a (suc d) b e =
    let m = more_taken g nodes x (a + 1) d b (omega (arith, e)) in
    let t = taken_on_more g nodes a x in
    omega (arith, m, t)

fits_to : (g : Shape) (nodes capacity a : ℕ) → ((x : ℕ) → x < nodes → taken_on g nodes a x ≤ capacity) → (x : ℕ) → x ≤ nodes
    → list_all (λ y. nat_le (taken_on g nodes a y) capacity) (range_with_len 0 x) ≡ true
fits_to g nodes capacity a fits zero lt = refl
fits_to g nodes capacity a fits (suc x) lt =
    let f = fits_more g nodes capacity a x (fits x (omega (arith, lt))) (fits_to g nodes capacity a fits x (omega (arith, lt))) in
    rw add-one at f

-- where the columns of so many segments fit on each node, there is room
pub room_of : (h : Header) (a : ℕ) → ((x : ℕ) → x < h.nodes → taken_on (shape_of h) h.nodes a x ≤ h.capacity) → holds h a ≡ true
room_of h a fits = all_fit (shape_of h) h.nodes h.capacity a h.nodes refl (fits_to (shape_of h) h.nodes h.capacity a fits h.nodes (omega arith))

-- fewer segments have room where more have it
pub room_for_fewer : (h : Header) (a b : ℕ) → a ≤ b → holds h b ≡ true → holds h a ≡ true
room_for_fewer h a b le room =
    room_of h a (λ x lt.
    let m = more_taken (shape_of h) h.nodes x a (b - a) b (omega (arith, le)) in
    let r = room_at (shape_of h) h.nodes h.capacity b x lt room in
    omega (arith, m, r))
