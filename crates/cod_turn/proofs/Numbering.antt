-- A seat of one caller, which numbers its calls, over chronicles.
use Rattle.std.proofs.Common.{◌≡◌, ℕ, suc, ◌+◌, ◌-◌, ◌^◌, ◌<◌, List, [], ◌∷◌, ◌++◌, length, Bool, true, false, cond, eqb, Option, Some, None, is_some, refl, sym, ap, ◌∙◌, subst}
use Rattle.std.proofs.Common.{inl, inr, arith, min}
use Rattle.std.specs.List.{All, cons_option}
use Rattle.std.proofs.lemmas.List.{append-nil, length-append}
use Rattle.std.proofs.lemmas.List.Elements.{All-push, All-nil}
use mathlib.Core.Logic.{dite}
use native.Mathlib.Decide.{dec_lt}
use Rattle.cod_chronicle.specs.declared.entry.Entry.{Entry}
use Rattle.cod_chronicle.specs.declared.entry.Entry.TheVariants.{Call, Down, Up, Move}
use Rattle.cod_chronicle.specs.Said.{calls_by, numbers_by, number_by, clock_of, StampFollows}
use Rattle.cod_chronicle.proofs.Growth.{numbers_by-push, stamp_follows}
use Rattle.cod_chronicle.specs.Standing.{IsNoCallBut, OpenCalls}
use Rattle.cod_turn.specs.declared.view.View.{View}
use Rattle.cod_turn.specs.Turning.{both_of, FollowsByOne, left_of, right_of, Stays, firsts, callers, number, all_at}
use Rattle.cod_seats.specs.Totals.{range}
use Rattle.cod_seats.specs.Least.{least_of, all_but_least}
use Rattle.cod_seats.proofs.Least.{lowest_first, range_at_least}
use Rattle.cod_seats.proofs.Totals.{times-here, range_head, length-range}
use Rattle.cod_turn.proofs.Totals.{firsts-all_at, firsts-append, length-firsts, all_at_least}
use Rattle.cod_turn.specs.Numbered.{Numbered}

-- the numbers stand in the calls
number_in : (c : ℕ) (e : Entry) (h : List Entry) → numbers_by c (calls_by c h) ≡ numbers_by c h → numbers_by c (calls_by c (e ∷ h)) ≡ numbers_by c (e ∷ h)
number_in c (Call caller number stamp call reply) h more = by_case (eqb caller.0 c) refl
  where
    found : Bool → Option ℕ
    found b = cond b (Some number) None

    kept : Bool → List Entry
    kept b = cond (is_some (found b)) (Call caller number stamp call reply ∷ calls_by c h) (calls_by c h)

    by_case : (b : Bool) → eqb caller.0 c ≡ b → numbers_by c (kept (eqb caller.0 c)) ≡ cons_option (found (eqb caller.0 c)) (numbers_by c h)
    by_case true e =
        ap (λ (b : Bool). numbers_by c (kept b)) e
        ∙ (ap (λ (b : Bool). cons_option (found b) (numbers_by c (calls_by c h))) e
        ∙ (ap (λ (l : List ℕ). number ∷ l) more ∙ sym (ap (λ (b : Bool). cons_option (found b) (numbers_by c h)) e)))
    by_case false e = ap (λ (b : Bool). numbers_by c (kept b)) e ∙ (more ∙ sym (ap (λ (b : Bool). cons_option (found b) (numbers_by c h)) e))
number_in c (Down stamp col node cause) h more = more
number_in c (Up stamp col node) h more = more
number_in c (Move stamp col node) h more = more

pub numbers_of_calls : (c : ℕ) (h : List Entry) → numbers_by c (calls_by c h) ≡ numbers_by c h
numbers_of_calls c [] = refl
numbers_of_calls c (e ∷ h) = number_in c e h (numbers_of_calls c h)

abbrev pub Below : ℕ → ℕ → List Entry → Type 0
Below c n h = All (λ m. m < n) (numbers_by c h)

still_below : (c n : ℕ) (h x : List Entry) → calls_by c x ≡ calls_by c h → Below c n h → Below c n x
still_below c n h x same below = subst (λ (ms : List ℕ). All (λ m. m < n) ms) (sym (numbers_of_calls c h) ∙ (ap (numbers_by c) (sym same) ∙ numbers_of_calls c x)) below

abbrev pub no_name : List Entry → List ℕ
no_name h = []

abbrev pub whole : List Entry → List Entry
whole h = h

abbrev pub nothing_open : List Entry → OpenCalls
nothing_open h c = None

-- what the seat's numbers say of the value that it takes
pub taken_below : (c n : ℕ) (v : View (List Entry)) (x : List Entry) → Numbered c n v → Stays no_name whole nothing_open x v.own → Below c n x
taken_below c n v x k s =
    let t = subst (λ (ps : List (ℕ × List Entry)). Stays no_name whole nothing_open x ps) k.1 s in
    still_below c n k.0 x t.1 k.2

pub all_weaker : (n : ℕ) (ms : List ℕ) → All (λ m. m < n) ms → All (λ m. m < n + 1) ms
all_weaker n ms a k d small = let h = a k d small in omega arith

pub below_more : (c n stamp : ℕ) (x : List Entry) (e : Entry) → number_by c e ≡ Some n → Below c n x → Below c (n + 1) (x ++ e ∷ [])
below_more c n stamp x e is below =
    subst (λ (ms : List ℕ). All (λ m. m < n + 1) ms) (sym (numbers_by-push c x e ∙ ap (λ (o : Option ℕ). numbers_by c x ++ cons_option o []) is))
    (All-push (λ m. m < n + 1) (numbers_by c x) n (all_weaker n (numbers_by c x) below) (omega arith))

-- the stamp after the last one
pub stamp_next : (h : List Entry) (t : ℕ) → t ≡ min (clock_of h + 1) (2 ^ 64 - 1) → clock_of h < 2 ^ 64 → StampFollows h t
stamp_next h t is small = stamp_follows h t (dite (dec_lt (clock_of h + 1) (2 ^ 64))
    (λ low. inl (omega arith))
    (λ high. inr (omega arith, omega arith)))

abbrev pub Happens : ℕ → List Entry → List ℕ → OpenCalls → List Entry → List ℕ → OpenCalls → Type 0
Happens by h g o h' g' o' = Unit {0}

-- nothing was added, or one entry of the caller's
pub follows_same : (c : ℕ) (x : List Entry) → FollowsByOne no_name whole no_name nothing_open Happens (c ∷ []) x x
follows_same c x = record {
  by = c;
  mine = times-here c [];
  step = record { name_stays = refl; added = []; grown = sym (append-nil x); calls = tt; others = λ d off. refl; happens = tt };
}

pub follows_more : (c : ℕ) (x : List Entry) (e : Entry) → IsNoCallBut c e → FollowsByOne no_name whole no_name nothing_open Happens (c ∷ []) x (x ++ e ∷ [])
follows_more c x e own = record {
  by = c;
  mine = times-here c [];
  step = record { name_stays = refl; added = e ∷ []; grown = refl; calls = (own, tt); others = λ d off. refl; happens = tt };
}

-- after a hold the seat's one value is the one given back
pub numbered_then : (c n : ℕ) (v : View (List Entry)) (ps : List (ℕ × List Entry)) (y : List Entry) → callers v ≡ c ∷ [] → ps ≡ all_at y (callers v) → Below c n y → (h : List Entry)
    × (ps ≡ (c, h) ∷ []) × Below c n h
numbered_then c n v ps y one is below = (y, is ∙ ap (all_at y) one, below)

pub caller_of : (c n : ℕ) (v : View (List Entry)) → Numbered c n v → callers v ≡ c ∷ []
caller_of c n v k = ap firsts k.1

pub numbered_one : (c n : ℕ) (v : View (List Entry)) → Numbered c n v → length v.own ≡ 1
numbered_one c n v k = ap length k.1

-- of numbers in order the first is the least
first_least : (a n : ℕ) (x : List Entry) → least_of number (all_at x (range a (suc n))) ≡ (a, x) ∷ []
first_least a n x =
    let low = lowest_first number (a, x) (all_at x (range (suc a) n)) (all_at_least a x (range (suc a) n) (range_at_least a (suc a) n (omega arith))) in
    ap (λ (cs : List ℕ). least_of number (all_at x cs)) (range_head a n) ∙ ap (λ (p : ℕ × List Entry). p ∷ []) low.0

others_left : (a n : ℕ) (x : List Entry) → all_but_least number (all_at x (range a (suc n))) ≡ all_at x (range (suc a) n)
others_left a n x =
    let low = lowest_first number (a, x) (all_at x (range (suc a) n)) (all_at_least a x (range (suc a) n) (range_at_least a (suc a) n (omega arith))) in
    ap (λ (cs : List ℕ). all_but_least number (all_at x cs)) (range_head a n) ∙ low.1

-- seats that are split off in turn
pub own_right : (v w : View (List Entry)) (a n : ℕ) (x : List Entry) → v.own ≡ all_at x (range a (suc n)) → w ≡ right_of v → w.own ≡ (a, x) ∷ []
own_right v w a n x e is = ap (λ (u : View (List Entry)). u.own) is ∙ (ap (least_of number) e ∙ first_least a n x)

pub own_left : (v w : View (List Entry)) (a n : ℕ) (x : List Entry) → v.own ≡ all_at x (range a (suc n)) → w ≡ left_of v → w.own ≡ all_at x (range (suc a) n)
own_left v w a n x e is = ap (λ (u : View (List Entry)). u.own) is ∙ (ap (all_but_least number) e ∙ others_left a n x)

pub many : (v : View (List Entry)) (a n m : ℕ) (x : List Entry) → v.own ≡ all_at x (range a n) → n ≡ m → length (callers v) ≡ m
many v a n m x e is = ap (λ (ps : List (ℕ × List Entry)). length (firsts ps)) e ∙ (ap length (firsts-all_at x (range a n)) ∙ (length-range a n ∙ is))

pub first_numbered : (c : ℕ) (w : View (List Entry)) (x : List Entry) → x ≡ [] → w.own ≡ (c, x) ∷ [] → Numbered c 0 w
first_numbered c w x none own = (x, own, subst (λ (h : List Entry). Below c 0 h) (sym none) (All-nil (λ m. m < 0)))

pub joined : (v w u : View (List Entry)) → u ≡ both_of v w → length (callers u) ≡ length (callers v) + length w.own
joined v w u is = ap (λ (x : View (List Entry)). length (callers x)) is ∙ (ap length (firsts-append v.own w.own)
    ∙ (length-append (firsts v.own) (firsts w.own) ∙ ap (λ (n : ℕ). length (firsts v.own) + n) (length-firsts w.own)))
