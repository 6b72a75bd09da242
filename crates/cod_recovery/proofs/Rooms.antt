-- Rooms in another order, and one in the place of another.
use Rattle.std.proofs.Common.{◌≡◌, ℕ, zero, suc, ◌<◌, List, [], ◌∷◌, ◌++◌, length, map, get_or, set, Option, Some, None, refl, sym, ap, ◌∙◌, subst, arith, append-nil}
use Rattle.std.specs.Prelude.{IsPermutation}
use Rattle.std.proofs.lemmas.List.{map-set, length-map, get_or-map}
use Rattle.std.proofs.lemmas.List.Sorted.{IsPermutation-append_left, IsPermutation-cons, IsPermutation-middle, IsPermutation-trans, sum_by-IsPermutation}
use Rattle.cod_place.specs.Room.{Room}
use Rattle.cod_place.proofs.Rooms.{part}
use Rattle.cod_seg.specs.Seg.{Col, col_at, no_col, Rebuilding, Seg, Target, with_col}
use Rattle.cod_segment.specs.Events.{Balances, goal_rooms, rebuild_rooms, rooms_of}
use Rattle.cod_segment.proofs.Balancing.{beside, then}

abbrev pub rooms_in : List Col → List Room
rooms_in cols = map (λ (c : Col). c.room) cols

-- one that comes in goes into the place of another, which comes out
swapped : (xs : List Room) (i : ℕ) (a d : Room) → i < length xs → IsPermutation (a ∷ xs) (get_or xs i d ∷ set xs i a)
swapped [] i a d below = absurd (omega (arith, below))
swapped (x ∷ xs) zero a d below = IsPermutation-middle (a ∷ []) x xs
swapped (x ∷ xs) (suc i) a d below =
    IsPermutation-trans (a ∷ x ∷ xs) (x ∷ a ∷ xs) (get_or xs i d ∷ x ∷ set xs i a) (IsPermutation-middle (a ∷ []) x xs)
    (IsPermutation-trans (x ∷ a ∷ xs) (x ∷ get_or xs i d ∷ set xs i a) (get_or xs i d ∷ x ∷ set xs i a)
    (IsPermutation-cons x (a ∷ xs) (get_or xs i d ∷ set xs i a) (swapped xs i a d (omega (arith, below))))
    (IsPermutation-middle (x ∷ []) (get_or xs i d) (set xs i a)))

-- a column takes the place of another
pub replaced : (cols : List Col) (i : ℕ) (c : Col) (rest : List Room) → i < length cols
    → IsPermutation ((c.room ∷ rooms_in cols) ++ rest) ((col_at cols i).room ∷ (rooms_in (with_col cols i c) ++ rest))
replaced cols i c rest below =
    let long = length-map cols (λ (x : Col). x.room) in
    let at : get_or (rooms_in cols) i no_col.room ≡ (col_at cols i).room = get_or-map (λ (x : Col). x.room) cols i no_col no_col.room below in
    let swap = swapped (rooms_in cols) i c.room no_col.room (omega (arith, long, below)) in
    let now : IsPermutation (c.room ∷ rooms_in cols) ((col_at cols i).room ∷ rooms_in (with_col cols i c)) =
    subst (λ (rooms : List Room). IsPermutation (c.room ∷ rooms_in cols) ((col_at cols i).room ∷ rooms)) (sym (map-set (λ (x : Col). x.room) cols i c))
    (subst (λ (room : Room). IsPermutation (c.room ∷ rooms_in cols) (room ∷ set (rooms_in cols) i c.room)) at swap) in
    IsPermutation-append_left rest (c.room ∷ rooms_in cols) ((col_at cols i).room ∷ rooms_in (with_col cols i c)) now

replaced_alone : (cols : List Col) (i : ℕ) (c : Col) → i < length cols → IsPermutation (c.room ∷ rooms_in cols) ((col_at cols i).room ∷ rooms_in (with_col cols i c))
replaced_alone cols i c below =
    subst (λ (rooms : List Room). IsPermutation (c.room ∷ rooms_in cols) ((col_at cols i).room ∷ rooms)) (append-nil (rooms_in (with_col cols i c)))
    (subst (λ (rooms : List Room). IsPermutation rooms ((col_at cols i).room ∷ (rooms_in (with_col cols i c) ++ []))) (append-nil (c.room ∷ rooms_in cols)) (replaced cols i c [] below))

-- the order doesn't matter
pub reordered : (free : Option (List ℕ)) (xs ys : List Room) → IsPermutation xs ys → Balances free free xs ys
reordered free xs ys order f e = (f, e, refl, λ node small. let s = sum_by-IsPermutation (part node) xs ys order in omega (arith, s))

-- the old room of a column that another takes the place of is given back
pub swap_balances : (before after : Option (List ℕ)) (cols : List Col) (i : ℕ) (c : Col) → i < length cols → Balances before after ((col_at cols i).room ∷ []) []
    → Balances before after (c.room ∷ rooms_in cols) (rooms_in (with_col cols i c))
swap_balances before after cols i c below given =
    let order : IsPermutation (c.room ∷ rooms_in cols) ((col_at cols i).room ∷ rooms_in (with_col cols i c)) = replaced_alone cols i c below in
    then before before after (c.room ∷ rooms_in cols) ((col_at cols i).room ∷ rooms_in (with_col cols i c)) (rooms_in (with_col cols i c))
    (reordered before (c.room ∷ rooms_in cols) ((col_at cols i).room ∷ rooms_in (with_col cols i c)) order)
    (beside before after [] ((col_at cols i).room ∷ []) [] (rooms_in (with_col cols i c)) given)

-- with a target its room comes first
pub rooms_with : (s : Seg) (r : Rebuilding) (t : Target) → s.rebuild ≡ Some r → r.target ≡ Some t → rooms_of s ≡ t.room ∷ rooms_in s.cols
rooms_with s r t was goal =
    ap (λ (o : Option Rebuilding). rebuild_rooms o ++ rooms_in s.cols) was ∙ ap (λ (o : Option Target). goal_rooms o ++ rooms_in s.cols) goal

-- ---- rooms that came from pools, of which these laws hold

abbrev pub KeepsOrder : (List Room → Type 0) → Type 0
KeepsOrder came = (rooms others : List Room) → IsPermutation rooms others → came rooms → came others

abbrev pub KeepsFront : (List Room → Type 0) → Type 0
KeepsFront came = (rooms others : List Room) → came (rooms ++ others) → came rooms

-- the room of a column did
pub column_came : (came : List Room → Type 0) (s : Seg) (r : Rebuilding) (t : Target) (c : Col) → KeepsOrder came → KeepsFront came → s.rebuild ≡ Some r → r.target ≡ Some t
    → c.room ≡ t.room → r.col < length s.cols → came (rooms_of s) → came ((col_at s.cols r.col).room ∷ [])
column_came came s r t c order front was goal room below all =
    front ((col_at s.cols r.col).room ∷ []) (rooms_in (with_col s.cols r.col c))
    (order (c.room ∷ rooms_in s.cols) ((col_at s.cols r.col).room ∷ rooms_in (with_col s.cols r.col c)) (replaced_alone s.cols r.col c below)
    (subst (λ (x : Room). came (x ∷ rooms_in s.cols)) (sym room) (subst came (rooms_with s r t was goal) all)))

-- where its room is given back, and the target becomes the column, all others still did
pub settled_came : (before after : List Room → Type 0) (s u : Seg) (r : Rebuilding) (t : Target) (c : Col) (rest : List Room) → KeepsOrder before → s.rebuild ≡ Some r → r.target ≡ Some t
    → c.room ≡ t.room → r.col < length s.cols → u.cols ≡ with_col s.cols r.col c → u.rebuild ≡ None
    → ((rooms : List Room) → before ((col_at s.cols r.col).room ∷ rooms) → after rooms) → before (rooms_of s ++ rest) → after (rooms_of u ++ rest)
settled_came before after s u r t c rest order was goal room below cols none given all =
    let here : before ((c.room ∷ rooms_in s.cols) ++ rest) =
    subst (λ (x : Room). before ((x ∷ rooms_in s.cols) ++ rest)) (sym room) (subst (λ (rooms : List Room). before (rooms ++ rest)) (rooms_with s r t was goal) all) in
    let now : rooms_of u ≡ rooms_in (with_col s.cols r.col c) =
    ap (λ (o : Option Rebuilding). rebuild_rooms o ++ rooms_in u.cols) none ∙ ap rooms_in cols in
    subst (λ (rooms : List Room). after (rooms ++ rest)) (sym now)
    (given (rooms_in (with_col s.cols r.col c) ++ rest)
    (order ((c.room ∷ rooms_in s.cols) ++ rest) ((col_at s.cols r.col).room ∷ (rooms_in (with_col s.cols r.col c) ++ rest)) (replaced s.cols r.col c rest below) here))

pub settled_balance : (before after : Option (List ℕ)) (s u : Seg) (r : Rebuilding) (t : Target) (c : Col) → s.rebuild ≡ Some r → r.target ≡ Some t
    → c.room ≡ t.room → r.col < length s.cols → u.cols ≡ with_col s.cols r.col c → u.rebuild ≡ None → Balances before after ((col_at s.cols r.col).room ∷ []) []
    → Balances before after (rooms_of s) (rooms_of u)
settled_balance before after s u r t c was goal room below cols none given =
    let now : rooms_of u ≡ rooms_in (with_col s.cols r.col c) =
    ap (λ (o : Option Rebuilding). rebuild_rooms o ++ rooms_in u.cols) none ∙ ap rooms_in cols in
    let old : rooms_of s ≡ c.room ∷ rooms_in s.cols = rooms_with s r t was goal ∙ ap (λ (x : Room). x ∷ rooms_in s.cols) (sym room) in
    subst (λ (rooms : List Room). Balances before after rooms (rooms_of u)) (sym old)
    (subst (λ (rooms : List Room). Balances before after (c.room ∷ rooms_in s.cols) rooms) (sym now) (swap_balances before after s.cols r.col c below given))
