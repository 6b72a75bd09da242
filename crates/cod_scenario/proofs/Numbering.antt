-- The numbers of the clients' lines rise.
use Rattle.std.proofs.Common.{◌≡◌, ℕ, ◌+◌, ◌<◌, ◌≤◌, List, [], ◌∷◌, ◌++◌, map, refl, sym, ap, ◌∙◌, subst, arith}
use Rattle.std.specs.List.{AllByRecursion}
use Rattle.std.proofs.lemmas.List.{append-nil, append_assoc, map-append}
use Rattle.cod_script.specs.declared.line.Line.{Line}
use Rattle.cod_script.specs.Script.{Client, Body, onto_last}
use Rattle.cod_script.specs.Sound.{NumbersRise, line_numbers}
use Rattle.cod_scenario.specs.declared.said.Said.{Said}
use Rattle.cod_scenario.specs.declared.said.Said.TheVariants as said
use Rattle.cod_scenario.specs.Lines.{with_line}
use Rattle.cod_scenario.specs.Reading.{AreBefore, IsNumbered}

each_wider : (n m : ℕ) (ns : List ℕ) → n ≤ m → AllByRecursion (λ k. k < n) ns → AllByRecursion (λ k. k < m) ns
each_wider n m [] le a = tt
each_wider n m (k ∷ ns) le a = let lt = a.0 in (omega (arith, lt, le), each_wider n m ns le a.1)

each_push : (n : ℕ) (ns : List ℕ) (k : ℕ) → AllByRecursion (λ m. m < n) ns → k < n → AllByRecursion (λ m. m < n) (ns ++ k ∷ [])
each_push n [] k a lt = (lt, tt)
each_push n (m ∷ ns) k a lt = (a.0, each_push n ns k a.1 lt)

rise_push : (t n : ℕ) (ns : List ℕ) → NumbersRise t ns → AllByRecursion (λ m. m < n) ns → t < n → NumbersRise t (ns ++ n ∷ [])
rise_push t n [] r a l = (l, tt)
rise_push t n (m ∷ ns) r a l = (r.0, rise_push m n ns r.1 a.1 a.0)

abbrev numbers : List Line → List ℕ
numbers ls = map (λ l. l.line) ls

-- a line more for the last client, if there is one, is a number more at the end
onto_numbers : (P : List ℕ → Type 0) (cs : List Client) (l : Line) → P (line_numbers cs) → P (line_numbers cs ++ l.line ∷ []) → P (line_numbers (onto_last cs l))
onto_numbers P [] l a b = a
onto_numbers P (c ∷ []) l a b =
    let e : numbers (c.lines ++ l ∷ []) ++ [] ≡ (numbers c.lines ++ []) ++ l.line ∷ [] =
    append-nil (numbers (c.lines ++ l ∷ [])) ∙ map-append (λ (k : Line). k.line) c.lines (l ∷ []) ∙ ap (λ (ns : List ℕ). ns ++ l.line ∷ []) (sym (append-nil (numbers c.lines))) in
    subst P (sym e) b
onto_numbers P (c ∷ d ∷ more) l a b =
    onto_numbers (λ ns. P (numbers c.lines ++ ns)) (d ∷ more) l a
    (subst P (append_assoc (numbers c.lines) (line_numbers (d ∷ more)) (l.line ∷ [])) b)

one_more : (cs : List Client) (c : Client) → line_numbers (cs ++ c ∷ []) ≡ line_numbers cs ++ line_numbers (c ∷ [])
one_more [] c = refl
one_more (b ∷ cs) c =
    ap (λ (ns : List ℕ). numbers b.lines ++ ns) (one_more cs c) ∙ sym (append_assoc (numbers b.lines) (line_numbers cs) (line_numbers (c ∷ [])))

pub client_numbers : (cs : List Client) (name : List ℕ) → line_numbers (cs ++ (record { name = name; lines = [] }) ∷ []) ≡ line_numbers cs
client_numbers cs name = one_more cs (record { name = name; lines = [] }) ∙ append-nil (line_numbers cs)

pub rise_onto : (cs : List Client) (l : Line) → 1 ≤ l.line → AreBefore l.line cs → NumbersRise 0 (line_numbers cs) → NumbersRise 0 (line_numbers (onto_last cs l))
rise_onto cs l some smaller r = onto_numbers (NumbersRise 0) cs l r (rise_push 0 l.line (line_numbers cs) r smaller (omega (arith, some)))

pub before_wider : (n m : ℕ) (cs : List Client) → n ≤ m → AreBefore n cs → AreBefore m cs
before_wider n m cs le a = each_wider n m (line_numbers cs) le a

-- a line of this number may be followed by one of the next
pub before_more : (n : ℕ) (p : Body) (s : Said) → IsNumbered n s → AreBefore n p.clients → AreBefore (n + 1) (with_line p s).clients
before_more n p (said.Does line what) is a =
    let l : Line = record { line = line; what = what } in
    let w = before_wider n (n + 1) p.clients (omega arith) a in
    onto_numbers (λ ns. AllByRecursion (λ m. m < n + 1) ns) p.clients l w (each_push (n + 1) (line_numbers p.clients) line w (omega (arith, is)))
before_more n p (said.Client name) is a = subst (λ ns. AllByRecursion (λ m. m < n + 1) ns) (sym (client_numbers p.clients name)) (before_wider n (n + 1) p.clients (omega arith) a)
before_more n p (said.Codfs v) is a = before_wider n (n + 1) p.clients (omega arith) a
before_more n p (said.Nodes b c) is a = before_wider n (n + 1) p.clients (omega arith) a
before_more n p (said.Code b c) is a = before_wider n (n + 1) p.clients (omega arith) a
before_more n p (said.Block b) is a = before_wider n (n + 1) p.clients (omega arith) a
before_more n p (said.Update b) is a = before_wider n (n + 1) p.clients (omega arith) a
before_more n p (said.Reserve b) is a = before_wider n (n + 1) p.clients (omega arith) a
before_more n p (said.Unit b) is a = before_wider n (n + 1) p.clients (omega arith) a
before_more n p (said.Alpha b) is a = before_wider n (n + 1) p.clients (omega arith) a
before_more n p (said.Segment name) is a = before_wider n (n + 1) p.clients (omega arith) a
before_more n p (said.Care b c) is a = before_wider n (n + 1) p.clients (omega arith) a
before_more n p (said.Schedule turns) is a = before_wider n (n + 1) p.clients (omega arith) a
before_more n p said.End is a = before_wider n (n + 1) p.clients (omega arith) a
