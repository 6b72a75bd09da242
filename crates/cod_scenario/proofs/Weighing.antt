-- What the lines of a scenario weigh is at most what they were weighed at, line by line; and its columns have room.
use Rattle.std.proofs.Common.{◌≡◌, ℕ, ◌+◌, ◌*◌, ◌<◌, ◌≤◌, true, List, [], ◌∷◌, ◌++◌, length, ◌∙◌, arith}
use Rattle.std.specs.List.{sum_by}
use Rattle.std.proofs.lemmas.List.Sums.{sum_by-append}
use Rattle.cod_types.specs.Limits.{Shape}
use Rattle.cod_script.specs.declared.line.Line.{Line}
use Rattle.cod_script.specs.Room.{taken_on}
use Rattle.cod_script.specs.Script.{Client, Body, onto_last}
use Rattle.cod_script.specs.Weight.{region, weight, clients_weight, lines_weight, what_weight}
use Rattle.cod_script.proofs.RoomSums.{taken_on_none, room_at}
use Rattle.cod_scenario.specs.declared.said.Header.{Header}
use Rattle.cod_scenario.specs.declared.said.Said.{Said}
use Rattle.cod_scenario.specs.declared.said.Said.TheVariants as said
use Rattle.cod_scenario.specs.Judge.{is_placed}
use Rattle.cod_scenario.specs.Lines.{line_weight, no_body, script_with, shape_of, with_line, header_of, body_of, segments_of, holds}
use Rattle.cod_scenario.proofs.Gathering.{length_more}

sum_push : {A : Type 0} (f : A → ℕ) (xs : List A) (x : A) → sum_by f (xs ++ x ∷ []) ≡ sum_by f xs + f x
sum_push f xs x = sum_by-append f xs (x ∷ []) ∙ grind arith

sum_cons : {A : Type 0} (f : A → ℕ) (x : A) (xs : List A) → sum_by f (x ∷ xs) ≡ f x + sum_by f xs
sum_cons f x xs = sum_by-append f (x ∷ []) xs ∙ grind arith

lines_push : (g : Shape) (ls : List Line) (l : Line) → lines_weight g (ls ++ l ∷ []) ≡ lines_weight g ls + what_weight g l.what
unfolding lines_weight
lines_push g ls l = sum_push (λ (k : Line). what_weight g k.what) ls l

clients_push : (g : Shape) (cs : List Client) (name : List ℕ) → clients_weight g (cs ++ (record { name = name; lines = [] }) ∷ []) ≡ clients_weight g cs
unfolding clients_weight lines_weight
clients_push g cs name = let e = sum_push (λ (c : Client). lines_weight g c.lines) cs (record { name = name; lines = [] }) in omega (arith, e)

clients_cons : (g : Shape) (c : Client) (cs : List Client) → clients_weight g (c ∷ cs) ≡ lines_weight g c.lines + clients_weight g cs
unfolding clients_weight
clients_cons g c cs = sum_cons (λ (d : Client). lines_weight g d.lines) c cs

clients_onto : (g : Shape) (cs : List Client) (l : Line) → clients_weight g (onto_last cs l) ≤ clients_weight g cs + what_weight g l.what
clients_onto g [] l = omega arith
clients_onto g (c ∷ []) l =
    let a = clients_cons g c [] in
    let b = clients_cons g (record c { lines = c.lines ++ l ∷ [] }) [] in
    let r = lines_push g c.lines l in
    omega (arith, a, b, r)
clients_onto g (c ∷ d ∷ more) l =
    let a = clients_cons g c (d ∷ more) in
    let b = clients_cons g c (onto_last (d ∷ more) l) in
    let r = clients_onto g (d ∷ more) l in
    omega (arith, a, b, r)

one_more : (n m k : ℕ) → m ≡ n + 1 → m * k ≡ n * k + k
one_more n m k e = rw e (grind arith)

pub weight_step : (h : Header) (p : Body) (s : Said) → weight (script_with h (with_line p s)) ≤ weight (script_with h p) + line_weight h s
unfolding weight line_weight
weight_step h p (said.Segment name) =
    let e = one_more (length p.segments) (length (p.segments ++ name ∷ [])) (h.n * region (shape_of h)) (length_more p.segments name) in
    omega (arith, e)
weight_step h p (said.Client name) = let e = clients_push (shape_of h) p.clients name in omega (arith, e)
weight_step h p (said.Does line what) = let e = clients_onto (shape_of h) p.clients (record { line = line; what = what }) in omega (arith, e)
weight_step h p (said.Care workers rounds) = omega arith
weight_step h p _ = omega arith

pub no_weight : (h : Header) → weight (script_with h no_body) ≡ 0
unfolding weight clients_weight
no_weight h = omega arith

-- ---- the room

abbrev pub HasRoom : Header → Body → Type 0
HasRoom h p = (x : ℕ) → x < h.nodes → taken_on (shape_of h) h.nodes (length p.segments) x ≤ h.capacity

pub no_room_taken : (h : Header) → HasRoom h no_body
no_room_taken h x lt = let e = taken_on_none (shape_of h) h.nodes x in omega (arith, e)

held : (h : Header) (n m : ℕ) → m ≡ n + 1 → holds h (n + 1) ≡ true → (x : ℕ) → x < h.nodes → taken_on (shape_of h) h.nodes m x ≤ h.capacity
held h n m e room x lt = rw e (room_at (shape_of h) h.nodes h.capacity (n + 1) x lt room)

pub room_step : (lines : List Said) (s : Said) → HasRoom (header_of lines) (body_of lines) → is_placed lines s ≡ true
    → HasRoom (header_of lines) (with_line (body_of lines) s)
room_step lines (said.Segment name) old placed =
    held (header_of lines) (length (segments_of lines)) (length (segments_of lines ++ name ∷ [])) (length_more (segments_of lines) name) placed
room_step lines _ old placed = old
