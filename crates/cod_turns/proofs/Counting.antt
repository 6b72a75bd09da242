-- How many entries a run has.
use Rattle.std.proofs.Common.{◌≡◌, ℕ, zero, suc, ◌+◌, ◌*◌, ◌<◌, ◌≤◌, true, eqb, Option, Some, None, List, [], ◌∷◌, ◌++◌, length, take, map, refl, sym, ap, ◌∙◌, subst, inl}
use Rattle.std.proofs.Common.{inr, arith}
use Rattle.std.specs.Prelude.{slice_index_or}
use Rattle.std.specs.List.{filter_map, AllByRecursion, cons_option}
use Rattle.std.proofs.lemmas.Bool.{cases_lt, cases_eq, eq-eqb}
use Rattle.std.proofs.lemmas.List.{length-append, length-map}
use Rattle.std.proofs.lemmas.List.Elements.{filter_map-append, All-from_recursion}
use Rattle.std.proofs.lemmas.List.FromFn.{length-range_with_len}
use Rattle.std.proofs.lemmas.List.Sums.{sum_by-cons}
use Rattle.cod_chronicle.specs.declared.entry.Entry.{Entry}
use Rattle.cod_chronicle.specs.declared.entry.Entry.TheVariants.{Call, Down, Up, Move}
use Rattle.cod_chronicle.specs.Said.{site_as, number_by, numbers_by, call_count}
use Rattle.cod_chronicle.specs.Order.{Placed, stamp_at, place, placed, placed_from, put, by_stamp}
use Rattle.cod_chronicle.specs.Whole.{numbers_of}
use Rattle.cod_chronicle.specs.Laws.{CallsBelow}
use Rattle.cod_chronicle.proofs.Entry_count.{has_few_entries}
use Rattle.cod_chronicle.proofs.Orders.{put_later, put_here}
use Rattle.cod_script.specs.Script.{Client, nobody, asks, lines_by}
use Rattle.cod_script.specs.Sound.{line_count}
use Rattle.cod_turns.specs.Turns.{World, Course, start}
use Rattle.cod_turns.specs.Whole_runs.{IsSmall, RunsAreSmall}
use Rattle.cod_turns.proofs.Running.{Sound, turns, start_sound, each_of, fewer_asks}

-- the sum of f over the first n numbers
sum_to : (ℕ → ℕ) → ℕ → ℕ
sum_to f zero = 0
sum_to f (suc n) = sum_to f n + f n

sum_mono : (f g : ℕ → ℕ) (n : ℕ) → ((i : ℕ) → f i ≤ g i) → sum_to f n ≤ sum_to g n
unfolding sum_to
sum_mono f g zero h = omega arith
sum_mono f g (suc n) h = (let a = sum_mono f g n h in let b = h n in omega arith)

sum_one : (f g : ℕ → ℕ) (c n : ℕ) → c < n → ((i : ℕ) → f i ≤ g i) → f c + 1 ≤ g c → sum_to f n + 1 ≤ sum_to g n
unfolding sum_to
sum_one f g c zero l h one = absurd (omega arith)
sum_one f g c (suc n) l h one = elim (cases_eq c n) [
  | inl same ↦ (let a = sum_mono f g n h in let b : f n + 1 ≤ g n = subst (λ (i : ℕ). f i + 1 ≤ g i) same one in omega arith)
  | inr diff ↦ (let a = sum_one f g c n (elim (cases_lt c n) [ inl lt ↦ lt | inr ge ↦ absurd (diff (omega arith)) ]) h one in let b = h n in omega arith)
]

-- the calls, caller by caller
by_callers : (callers numbers : ℕ) (h : List Entry) → AllByRecursion (CallsBelow callers numbers) h → call_count h ≤ sum_to (λ c. length (filter_map (number_by c) h)) callers
unfolding call_count
by_callers callers numbers [] a = omega arith
by_callers callers numbers ((Call caller number stamp call reply) ∷ h) a =
    let r = by_callers callers numbers h a.1 in
    let l = a.0.0 in
    let s = sum_one (λ c. length (filter_map (number_by c) h)) (λ c. length (filter_map (number_by c) ((Call caller number stamp call reply) ∷ h))) caller.0 callers l
    (λ i. longer (number_by i (Call caller number stamp call reply)) (filter_map (number_by i) h))
    (let e : eqb caller.0 caller.0 ≡ true = eq-eqb caller.0 caller.0 refl in rw e (omega arith)) in
    omega arith where
      longer : (o : Option ℕ) (xs : List ℕ) → length xs ≤ length (cons_option o xs)
      longer None xs = omega arith
      longer (Some x) xs = omega arith
by_callers callers numbers ((Down stamp col node cause) ∷ h) a = (let r = by_callers callers numbers h a.1 in omega (arith, r))
by_callers callers numbers ((Up stamp col node) ∷ h) a = (let r = by_callers callers numbers h a.1 in omega (arith, r))
by_callers callers numbers ((Move stamp col node) ∷ h) a = (let r = by_callers callers numbers h a.1 in omega (arith, r))

-- ---- all segments

all_calls : List (List Entry) → ℕ
all_calls [] = 0
all_calls (h ∷ hs) = call_count h + all_calls hs

in_all : (n i : ℕ) (hs : List (List Entry)) → AllByRecursion (λ h. length h ≤ 3 * call_count h + n) hs → length (placed_from i hs) ≤ 3 * all_calls hs + length hs * n
unfolding all_calls
in_all n i [] a = omega arith
in_all n i (h ∷ hs) a =
    let r = in_all n (i + 1) hs a.1 in
    let l = length-append (map (λ e. place i e) h) (placed_from (i + 1) hs) in
    let m = length-map h (λ e. place i e) in
    let one = a.0 in
    omega (arith, r, l, m, one)

numbers_by-placed : (c i : ℕ) (h : List Entry) → numbers_of c (map (λ e. place i e) h) ≡ numbers_by c h
numbers_by-placed c i [] = refl
numbers_by-placed c i (e ∷ h) = ap (cons_option (number_by c e)) (numbers_by-placed c i h)

sum_two : (f g k : ℕ → ℕ) (n : ℕ) → ((c : ℕ) → k c ≡ f c + g c) → sum_to k n ≡ sum_to f n + sum_to g n
unfolding sum_to
sum_two f g k zero e = refl
sum_two f g k (suc n) e = (let r = sum_two f g k n e in let o = e n in omega (arith, r, o))

-- the calls of all segments, caller by caller
by_all : (callers numbers i : ℕ) (hs : List (List Entry)) → AllByRecursion (AllByRecursion (CallsBelow callers numbers)) hs
    → all_calls hs ≤ sum_to (λ c. length (numbers_of c (placed_from i hs))) callers
unfolding all_calls
by_all callers numbers i [] a = omega arith
by_all callers numbers i (h ∷ hs) a =
    let r = by_all callers numbers (i + 1) hs a.1 in
    let s = by_callers callers numbers h a.0 in
    let t = sum_two (λ c. length (filter_map (number_by c) h)) (λ c. length (numbers_of c (placed_from (i + 1) hs))) (λ c. length (numbers_of c (placed_from i (h ∷ hs)))) callers
    (λ c. ap length (filter_map-append (λ p. number_by c p.entry) (map (λ e. place i e) h) (placed_from (i + 1) hs)
    ∙ ap (λ (l : List ℕ). l ++ numbers_of c (placed_from (i + 1) hs)) (numbers_by-placed c i h))
    ∙ length-append (numbers_by c h) (numbers_of c (placed_from (i + 1) hs))) in
    omega (arith, r, s, t)

-- the order of the entries doesn't matter
length_put : (f : Placed → Option ℕ) (p : Placed) (qs : List Placed) → length (filter_map f (put p qs)) ≡ length (cons_option (f p) (filter_map f qs))
length_put f p [] = refl
length_put f p (q ∷ qs) = elim (cases_lt (stamp_at q) (stamp_at p)) [
  | inl h ↦ ap (λ (l : List Placed). length (filter_map f l)) (put_later p q qs h) ∙ swapped (f p) (f q) (filter_map f (put p qs)) (filter_map f qs) (length_put f p qs)
  | inr h ↦ ap (λ (l : List Placed). length (filter_map f l)) (put_here p q qs h)
] where
  swapped : (o k : Option ℕ) (xs ys : List ℕ) → length xs ≡ length (cons_option o ys) → length (cons_option k xs) ≡ length (cons_option o (cons_option k ys))
  swapped None None xs ys h = h
  swapped None (Some b) xs ys h = ap suc h
  swapped (Some a) None xs ys h = h
  swapped (Some a) (Some b) xs ys h = ap suc h

length_by_stamp : (f : Placed → Option ℕ) (ps : List Placed) → length (filter_map f (by_stamp ps)) ≡ length (filter_map f ps)
length_by_stamp f [] = refl
length_by_stamp f (p ∷ ps) = length_put f p (by_stamp ps) ∙ by (f p) (length_by_stamp f ps) where
  by : (o : Option ℕ) → length (filter_map f (by_stamp ps)) ≡ length (filter_map f ps) → length (cons_option o (filter_map f (by_stamp ps))) ≡ length (cons_option o (filter_map f ps))
  by None h = h
  by (Some a) h = ap suc h

-- ---- the lines of all clients

-- a sum from the front
sum_front : (f : ℕ → ℕ) (n : ℕ) → sum_to f (suc n) ≡ f 0 + sum_to (λ i. f (suc i)) n
unfolding sum_to
sum_front f zero = omega arith
sum_front f (suc n) = (let r = sum_front f n in omega (arith, r))

sum_none : (f : ℕ → ℕ) → sum_to f 0 ≡ 0
unfolding sum_to
sum_none f = refl

all_lines : (cs : List Client) → sum_to (λ c. length ((slice_index_or cs c nobody).lines)) (length cs) ≡ line_count cs
all_lines [] = sum_none (λ c. length ((slice_index_or [] c nobody).lines))
all_lines (c ∷ cs) =
    let a = sum_front (λ i. length ((slice_index_or (c ∷ cs) i nobody).lines)) (length cs) in
    let r = all_lines cs in
    let b = sum_by-cons (λ (d : Client). length d.lines) c cs in
    omega (arith, a, r, b)

-- ---- a run

length_take : {X : Type 0} (n : ℕ) (xs : List X) → length (take n xs) ≤ length xs
length_take zero xs = omega arith
length_take (suc n) [] = omega arith
length_take (suc n) (x ∷ xs) = (let r = length_take n xs in omega (arith, r))

pub entries_at_most : (x : Course) (w : World) → Sound x w → length (placed w.chronicles) ≤ 3 * line_count x.script.clients + length x.script.segments * x.script.shape.n
entries_at_most x w S =
    let each = each_of (λ h. length h ≤ 3 * call_count h + x.script.shape.n) w.chronicles
    (λ s h is. has_few_entries (site_as x.told x.script.shape x.script.nodes s) h (S.legal s h is)) in
    let all = in_all x.script.shape.n 0 w.chronicles each in
    let below = each_of (AllByRecursion (CallsBelow (length x.script.clients) (line_count x.script.clients))) w.chronicles S.calls in
    let c = by_all (length x.script.clients) (line_count x.script.clients) 0 w.chronicles below in
    let d = sum_mono (λ c. length (numbers_of c (placed w.chronicles))) (λ c. length ((slice_index_or x.script.clients c nobody).lines)) (length x.script.clients)
    (λ c.
    let e : length (numbers_of c (placed w.chronicles)) ≡ length (asks (take (w.next c) (lines_by x.script c))) =
    sym (length_by_stamp (λ p. number_by c p.entry) (placed w.chronicles)) ∙ ap length (S.kept.numbers c) ∙ length-range_with_len 0 (length (asks (take (w.next c) (lines_by x.script c)))) in
    let f = fewer_asks (take (w.next c) (lines_by x.script c)) in
    let t = length_take (w.next c) (lines_by x.script c) in
    omega (arith, e, f, t)) in
    let l = all_lines x.script.clients in
    let n : length w.chronicles * x.script.shape.n ≡ length x.script.segments * x.script.shape.n = ap (λ (k : ℕ). k * x.script.shape.n) S.count in
    omega (arith, all, c, d, l, n)

pub sound_is_small : (x : Course) (w : World) → Sound x w → IsSmall x w
sound_is_small x w S = record { entries = entries_at_most x w S; stamps = All-from_recursion (λ p. stamp_at p ≤ length (placed w.chronicles)) (placed w.chronicles) S.kept.small }

pub runs_are_small : RunsAreSmall
runs_are_small x cs w X t = sound_is_small x w (turns x X cs (start (length x.script.segments)) w t (start_sound x))
