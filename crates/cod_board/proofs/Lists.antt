-- What is known of nodes, as a list with a place for each.
use Rattle.std.proofs.Common.{◌≡◌, ◌≢◌, ℕ, ◌<◌, ◌≤◌, List, [], ◌∷◌, ◌++◌, length, set, get_or, refl, sym, ap, ◌∙◌, subst, arith, length-set, get_or-set_other, get_or-set_same, eqb, eq-eqb, ne_eqb}
use Rattle.std.proofs.Common.{cond, Bool, true, false, Option, Some, None, append-nil}
use Rattle.std.specs.Prelude.{IsSome, slice_set}
use Rattle.std.proofs.lemmas.List.{ext_get_or}
use Rattle.std.proofs.lemmas.List.FromFn.{get_or-map-range_with_len, length-map-range_with_len}
use Rattle.std.proofs.Math.ListN.{get_or-eq_default}
use mathlib.Core.Logic.{dite}
use native.Mathlib.Decide.{ℕ_discrete, dec_lt}
use Rattle.cod_board.specs.declared.kill.Kill.{Kill}
use Rattle.cod_board.specs.declared.view.View.{View}
use Rattle.cod_board.specs.Kills.{kill_of, Keeps}
use Rattle.cod_board.specs.Words.{known, after_down, after_kill}
use Rattle.cod_board.specs.Seats.{Seated, kills_in, Asked}
use Rattle.cod_board.proofs.Found.{known_stays}

abbrev Seen : Type 0
Seen = List (ℕ × Kill)

kill_in_list : (n : ℕ) (seen : Seen) (x : ℕ) → x < n → kill_of (kills_in n seen) x ≡ known x seen
kill_in_list n seen x h = get_or-map-range_with_len (λ node. known node seen) 0 n x x None h (omega arith)

beyond : (n : ℕ) (seen : Seen) (x : ℕ) → n ≤ x → kill_of (kills_in n seen) x ≡ None
beyond n seen x h = let l = length-map-range_with_len (λ node. known node seen) 0 n in get_or-eq_default (kills_in n seen) None (omega arith)

pub inside_list : (n node : ℕ) (seen : Seen) → node < length (kills_in n seen) → node < n
inside_list n node seen h = let l = length-map-range_with_len (λ x. known x seen) 0 n in omega arith

-- what is known of one node alone may change
one_changed : (n : ℕ) (seen more : Seen) (node : ℕ) (o : Option Kill) → ((x : ℕ) → x ≢ node → known x more ≡ known x seen) → known node more ≡ o → kills_in n more ≡ slice_set (kills_in n seen) node o
one_changed n seen more node o others is =
    let l = length-map-range_with_len (λ x. known x seen) 0 n in
    let l' = length-map-range_with_len (λ x. known x more) 0 n in
    let s = length-set (kills_in n seen) node o in
    ext_get_or None (kills_in n more) (slice_set (kills_in n seen) node o) (omega arith)
    (λ x h.
    let inside : x < n = omega arith in
    let left = kill_in_list n more x inside in
    let right = kill_in_list n seen x inside in
    dite (ℕ_discrete x node)
    (λ e. left ∙ (ap (λ (y : ℕ). known y more) e ∙ (is ∙ sym (subst (λ (y : ℕ). get_or (set (kills_in n seen) node o) y None ≡ o) (sym e)
    (get_or-set_same (kills_in n seen) node o None (let t : node ≡ x = sym e in omega arith))))))
    (λ other. left ∙ (others x other ∙ (sym right ∙ sym (get_or-set_other (kills_in n seen) node x o None other)))))

-- a kill more
known_other : (x node : ℕ) (k : Kill) (seen : Seen) → x ≢ node → known x (seen ++ (node, k) ∷ []) ≡ known x seen
known_other x node k [] other = ap (λ (b : Bool). cond b (Some k) None) (ne_eqb node x (λ e. other (sym e)))
known_other x node k (p ∷ seen) other = by_case (eqb p.0 x) (known_other x node k seen other)
  where
    by_case : (b : Bool) → known x (seen ++ (node, k) ∷ []) ≡ known x seen → cond b (Some p.1) (known x (seen ++ (node, k) ∷ [])) ≡ cond b (Some p.1) (known x seen)
    by_case true e = refl
    by_case false e = e

known_new : (node : ℕ) (k : Kill) (seen : Seen) → known node seen ≡ None → known node (seen ++ (node, k) ∷ []) ≡ Some k
known_new node k [] no_kill = ap (λ (b : Bool). cond b (Some k) None) (eq-eqb node node refl)
known_new node k (p ∷ seen) no_kill = by_case (eqb p.0 node) no_kill (known_new node k seen)
  where
    by_case : (b : Bool) → cond b (Some p.1) (known node seen) ≡ None → (known node seen ≡ None → known node (seen ++ (node, k) ∷ []) ≡ Some k)
        → cond b (Some p.1) (known node (seen ++ (node, k) ∷ [])) ≡ Some k
    by_case true e more = absurd (cc e)
    by_case false e more = more e

known_now : (node : ℕ) (k : Kill) (seen : Seen) → IsSome (known node (seen ++ (node, k) ∷ []))
known_now node k seen = by_case (known node seen) refl
  where
    by_case : (o : Option Kill) → known node seen ≡ o → IsSome (known node (seen ++ (node, k) ∷ []))
    by_case None e = subst (λ (o : Option Kill). IsSome o) (sym (known_new node k seen e)) refl
    by_case (Some before) e = subst (λ (o : Option Kill). IsSome o) (sym (known_stays node before seen ((node, k) ∷ []) e)) refl

-- what was known stays
still : (x : ℕ) (seen more : Seen) → IsSome (known x seen) → known x (seen ++ more) ≡ known x seen
still x seen more some = by_case (known x seen) refl some
  where
    by_case : (o : Option Kill) → known x seen ≡ o → IsSome o → known x (seen ++ more) ≡ known x seen
    by_case None e some = absurd (cc some)
    by_case (Some k) e some = known_stays x k seen more e ∙ sym e

keeps_more : (n : ℕ) (seen more : Seen) → Keeps (kills_in n seen) (kills_in n (seen ++ more))
keeps_more n seen more x some =
    dite (dec_lt x n)
    (λ inside.
    let left = kill_in_list n (seen ++ more) x inside in
    let right = kill_in_list n seen x inside in
    left ∙ (still x seen more (subst (λ (o : Option Kill). IsSome o) right some) ∙ sym right))
    (λ outside. beyond n (seen ++ more) x (omega arith) ∙ sym (beyond n seen x (omega arith)))

-- a `down` adds to what is seen or looked at, and changes nothing else
asked_by : (s : Seated) (node : ℕ) (o : Option Kill) → Asked s record { of = s.of; knows = after_down s.knows node o }
asked_by s node None = record { of = refl; seen = ([], append-nil s.knows.seen); made = refl; numbers = refl; looks = (node ∷ [], refl) }
asked_by s node (Some k) = record { of = refl; seen = ((node, k) ∷ [], refl); made = refl; numbers = refl; looks = ([], append-nil s.knows.looks) }

pub down_asked : (s t : Seated) (node : ℕ) (o : Option Kill) → t ≡ record { of = s.of; knows = after_down s.knows node o } → Asked s t
down_asked s t node o is = subst (Asked s) (sym is) (asked_by s node o)

pub asked_keeps : (n : ℕ) (s t : Seated) → Asked s t → Keeps (kills_in n s.knows.seen) (kills_in n t.knows.seen)
asked_keeps n s t a = subst (λ (l : Seen). Keeps (kills_in n s.knows.seen) (kills_in n l)) a.seen.1 (keeps_more n s.knows.seen a.seen.0)

pub down_known : (n node : ℕ) (seen : Seen) (o : Option Kill) → node < n → (IsSome (known node seen) → o ≡ known node seen) → IsSome (kill_of (kills_in n seen) node)
    → o ≡ kill_of (kills_in n seen) node
down_known n node seen o inside is some =
    let e = kill_in_list n seen node inside in
    is (subst (λ (k : Option Kill). IsSome k) e some) ∙ sym e

-- a kill that is seen once more, or for the first time
seen_again : (node : ℕ) (k : Kill) (seen : Seen) → (IsSome (known node seen) → Some k ≡ known node seen) → known node (seen ++ (node, k) ∷ []) ≡ Some k
seen_again node k seen agrees = by_case (known node seen) refl
  where
    by_case : (o : Option Kill) → known node seen ≡ o → known node (seen ++ (node, k) ∷ []) ≡ Some k
    by_case None e = known_new node k seen e
    by_case (Some before) e = known_stays node before seen ((node, k) ∷ []) e ∙ (sym e ∙ sym (agrees (subst (λ (z : Option Kill). IsSome z) (sym e) refl)))

not_seen : (node : ℕ) (seen : Seen) → (IsSome (known node seen) → None ≡ known node seen) → known node seen ≡ None
not_seen node seen agrees = by_case (known node seen) refl
  where
    by_case : (o : Option Kill) → known node seen ≡ o → known node seen ≡ None
    by_case None e = e
    by_case (Some k) e = sym (agrees (subst (λ (z : Option Kill). IsSome z) (sym e) refl))

-- what a `down` answers is what is known then
learned_by : (n node : ℕ) (o : Option Kill) (v : View) → (IsSome (known node v.seen) → o ≡ known node v.seen) → kills_in n (after_down v node o).seen ≡ slice_set (kills_in n v.seen) node o
learned_by n node None v agrees = one_changed n v.seen v.seen node None (λ x other. refl) (not_seen node v.seen agrees)
learned_by n node (Some k) v agrees = one_changed n v.seen (v.seen ++ (node, k) ∷ []) node (Some k) (λ x other. known_other x node k v.seen other) (seen_again node k v.seen agrees)

pub down_learned : (n node : ℕ) (o : Option Kill) (s t : Seated) → t ≡ record { of = s.of; knows = after_down s.knows node o } → (IsSome (known node s.knows.seen) → o ≡ known node s.knows.seen)
    → kills_in n t.knows.seen ≡ slice_set (kills_in n s.knows.seen) node o
down_learned n node o s t is agrees = ap (λ (u : Seated). kills_in n u.knows.seen) is ∙ learned_by n node o s.knows agrees

-- a `kill` adds a kill to what is seen
pub record AddsKill (node : ℕ) (s t : Seated) : Type 0 where
  pub kill : Kill
  pub seen : t.knows.seen ≡ s.knows.seen ++ (node, kill) ∷ []

adds_by : (node : ℕ) (k : Kill) (o : Option Kill) (s : Seated) → AddsKill node s record { of = s.of; knows = after_kill s.knows node k o }
adds_by node k None s = record { kill = k; seen = refl }
adds_by node k (Some before) s = record { kill = before; seen = refl }

pub kill_adds : (node : ℕ) (k : Kill) (o : Option Kill) (s t : Seated) → t ≡ record { of = s.of; knows = after_kill s.knows node k o } → AddsKill node s t
kill_adds node k o s t is = subst (AddsKill node s) (sym is) (adds_by node k o s)

pub kill_known : (n node : ℕ) (s t : Seated) → node < n → AddsKill node s t → IsSome (kill_of (kills_in n t.knows.seen) node)
kill_known n node s t inside a =
    subst (λ (l : Seen). IsSome (kill_of (kills_in n l) node)) (sym a.seen) (subst (λ (o : Option Kill). IsSome o) (sym (kill_in_list n (s.knows.seen ++ (node, a.kill) ∷ []) node inside))
    (known_now node a.kill s.knows.seen))

pub kill_others : (n node : ℕ) (s t : Seated) → node < n → AddsKill node s t → kills_in n t.knows.seen ≡ slice_set (kills_in n s.knows.seen) node (kill_of (kills_in n t.knows.seen) node)
kill_others n node s t inside a =
    let more : Seen = s.knows.seen ++ (node, a.kill) ∷ [] in
    subst (λ (l : Seen). kills_in n l ≡ slice_set (kills_in n s.knows.seen) node (kill_of (kills_in n l) node)) (sym a.seen)
    (one_changed n s.knows.seen more node (kill_of (kills_in n more) node) (λ x other. known_other x node a.kill s.knows.seen other) (sym (kill_in_list n more node inside)))

pub kill_keeps : (n node : ℕ) (s t : Seated) → AddsKill node s t → Keeps (kills_in n s.knows.seen) (kills_in n t.knows.seen)
kill_keeps n node s t a = subst (λ (l : Seen). Keeps (kills_in n s.knows.seen) (kills_in n l)) (sym a.seen) (keeps_more n s.knows.seen ((node, a.kill) ∷ []))

pub kills_length : (n : ℕ) (seen : Seen) → length (kills_in n seen) ≡ n
kills_length n seen = length-map-range_with_len (λ node. known node seen) 0 n
