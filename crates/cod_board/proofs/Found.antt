-- The kill in a word, and what is known of kills.
use Rattle.std.proofs.Common.{◌≡◌, ◌≢◌, ℕ, suc, zero, ◌+◌, ◌*◌, ◌/◌, ◌%◌, ◌<◌, ◌≤◌, List, [], ◌∷◌, ◌++◌, get_or, eqb, eq-eqb, ne_eqb, Bool, true, false, cond, Option, Some, None, sym, ap, ◌∙◌, arith}
use Rattle.std.proofs.Common.{subst}
use Rattle.std.specs.Prelude.{IsSome, IfSome}
use mathlib.Core.Logic.{dite}
use native.Mathlib.Decide.{ℕ_discrete}
use Rattle.cod_seats.specs.Totals.{Has}
use Rattle.cod_board.specs.declared.kill.Kill.{Kill}
use Rattle.cod_board.specs.Words.{in_word, kill_in, word_of, known, AreWords}

pub found_none : (n : ℕ) → n ≡ 0 → None ≡ in_word n
found_none n none = sym (ap (λ (b : Bool). cond b None (Some (kill_in n))) (eq-eqb n 0 none))

pub found_some : (n : ℕ) → n ≢ 0 → Some (kill_in n) ≡ in_word n
found_some n some = sym (ap (λ (b : Bool). cond b None (Some (kill_in n))) (ne_eqb n 0 some))

-- a kill that was read is in a word
pub in_some_word : (w : ℕ) (k : Kill) → in_word w ≡ Some k → (0 < w) × (kill_in w ≡ k)
in_some_word w k e = dite (ℕ_discrete w 0)
    (λ none. let bad : None ≡ Some k = found_none w none ∙ e in absurd (cc bad))
    (λ some. let t : Some (kill_in w) ≡ Some k = found_some w some ∙ e in let u : kill_in w ≡ k = cc t in (omega arith, u))

-- a word that is 0 or large has a kill with a line
pub word_line : (w : ℕ) (o : Option Kill) → (0 < w → 4294967296 ≤ w) → o ≡ in_word w → IfSome o (λ k. 1 ≤ k.line)
word_line w None big is = tt
word_line w (Some k) big is =
    let r = in_some_word w k (sym is) in
    let b = big r.0 in
    let line : w / 4294967296 ≡ k.line = ap (λ (x : Kill). x.line) r.1 in
    omega arith

-- a kill is the one in its word
pub kill_in_word : (k : Kill) → k.clock < 4294967296 → kill_in (word_of k) ≡ k
kill_in_word k small =
    let line : (k.line * 4294967296 + k.clock) / 4294967296 ≡ k.line = omega arith in
    let clock : (k.line * 4294967296 + k.clock) % 4294967296 ≡ k.clock = omega arith in
    λ i. record { line = line i; clock = clock i }

-- what is known of a node is the kill in its word
pub known_is : (ws : List ℕ) (i : ℕ) (xs : List (ℕ × Kill)) → AreWords ws xs → IsSome (known i xs) → in_word (get_or ws i 0) ≡ known i xs
known_is ws i [] a some = absurd (cc some)
known_is ws i (x ∷ xs) a some = dite (ℕ_discrete x.0 i)
    (λ e. ap (λ (j : ℕ). in_word (get_or ws j 0)) (sym e) ∙ (a.0 ∙ sym (ap (λ (b : Bool). cond b (Some x.1) (known i xs)) (eq-eqb x.0 i e))))
    (λ other.
    let off : cond (eqb x.0 i) (Some x.1) (known i xs) ≡ known i xs = ap (λ (b : Bool). cond b (Some x.1) (known i xs)) (ne_eqb x.0 i other) in
    known_is ws i xs a.1 (subst (λ (o : Option Kill). IsSome o) off some) ∙ sym off)

pub known_stays : (x : ℕ) (k : Kill) (xs ys : List (ℕ × Kill)) → known x xs ≡ Some k → known x (xs ++ ys) ≡ Some k
known_stays x k [] ys e = absurd (cc e)
known_stays x k (p ∷ xs) ys e = by_case (eqb p.0 x) e (known_stays x k xs ys)
  where
    by_case : (b : Bool) → cond b (Some p.1) (known x xs) ≡ Some k → (known x xs ≡ Some k → known x (xs ++ ys) ≡ Some k) → cond b (Some p.1) (known x (xs ++ ys)) ≡ Some k
    by_case true e more = e
    by_case false e more = more e

-- what is known was seen
pub known_has : (node : ℕ) (kill : Kill) (xs : List (ℕ × Kill)) → known node xs ≡ Some kill → Has (node, kill) xs
known_has node kill [] e = absurd (cc e)
known_has node kill (x ∷ xs) e = dite (ℕ_discrete x.0 node)
    (λ is.
    let t : Some x.1 ≡ Some kill = sym (ap (λ (b : Bool). cond b (Some x.1) (known node xs)) (eq-eqb x.0 node is)) ∙ e in
    let u : x.1 ≡ kill = cc t in
    (zero, λ i. mathlib.Core.Option.some (is i, u i)))
    (λ other.
    let more = known_has node kill xs (sym (ap (λ (b : Bool). cond b (Some x.1) (known node xs)) (ne_eqb x.0 node other)) ∙ e) in
    (suc more.0, more.1))
