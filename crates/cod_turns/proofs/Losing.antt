-- Where calls are lost.
use Rattle.std.proofs.Common.{◌≡◌, ◌≢◌, ◌⊎◌, ℕ, zero, suc, ◌+◌, ◌-◌, ◌<◌, ◌≤◌, Bool, true, false, not, cond, eqb, ltb, ◌||◌, Option, Some, None, List, [], ◌∷◌, ◌++◌, length, map}
use Rattle.std.proofs.Common.{refl, sym, ap, ◌∙◌, subst, inl, inr, arith}
use Rattle.std.specs.Prelude.{slice_get, IfSome, IsNone}
use Rattle.std.specs.List.{filter, range_with_len, last_or, AllByRecursion}
use Rattle.std.proofs.lemmas.Bool.{cases_eq, eq-eqb, ne_eqb, ltb-true, lt-ltb, false≢true}
use Rattle.std.proofs.lemmas.List.{append_assoc, length-map}
use Rattle.std.proofs.lemmas.List.Elements.{All-from_recursion, All-weaker, recursion_from_All}
use Rattle.cod_types.specs.Limits.{Shape, segment_length}
use Rattle.cod_types.specs.Plain.{refusal}
use Rattle.cod_types.specs.declared.call.Caller.{Caller}
use Rattle.cod_types.specs.declared.call.Call.{Call as Asked}
use Rattle.cod_types.specs.declared.call.Call.TheVariants.{Read, Write, Swap, Put, Merge, Tick, Rebuild, Upgrade, Drain}
use Rattle.cod_types.specs.declared.call.Reply.{Reply}
use Rattle.cod_types.specs.declared.call.Reply.TheVariants.{Range, Long, Lost}
use Rattle.cod_chronicle.specs.declared.entry.Entry.{Entry}
use Rattle.cod_chronicle.specs.declared.entry.Entry.TheVariants.{Call, Down, Up, Move}
use Rattle.cod_chronicle.specs.declared.entry.Cause.TheVariants.{Killed, Fault}
use Rattle.cod_chronicle.specs.Said.{Site, site_as, is_down, down_next, downs, is_over, node_of, node_next}
use Rattle.cod_chronicle.specs.Legal.{IsLegal, Fits, IsAnswer, up_of, move_of}
use Rattle.cod_chronicle.specs.Order.{Placed, place, placed, placed_from}
use Rattle.cod_chronicle.specs.Laws.{AreApart}
use Rattle.cod_chronicle.proofs.Nodes.{nodes_are_apart}
use Rattle.cod_chronicle.proofs.Legality.{legal_right, was_legal}
use Rattle.cod_chronicle.proofs.Growth.{is_down-push, node_of-push}
use Rattle.cod_chronicle.proofs.Orders.{Each-append, Each-left, Each-right, Each-weaker}
use Rattle.cod_script.specs.Owed.{IsLicensed}
use Rattle.cod_turns.specs.Losses.{IsOneOf, DownsOn, IsNotLost, IsNoFault, IsLostExactly, NeverLost, NoFaultsWhereNoneMay, FewFailsLoseNothing}

-- ---- different numbers, each one of some others, are no more than those

abbrev Differ : List ℕ → Type 0
Differ [] = Unit {0}
Differ (x ∷ xs) = AllByRecursion (λ y. x ≢ y) xs × Differ xs

abbrev is_other : ℕ → ℕ → Bool
is_other y x = not (eqb x y)

other_yes : (x y : ℕ) → x ≢ y → is_other y x ≡ true
other_yes x y ne = ap not (ne_eqb x y ne)

other_no : (x y : ℕ) → x ≡ y → is_other y x ≡ false
other_no x y is = ap not (eq-eqb x y is)

keeps_all : (y : ℕ) (xs : List ℕ) → AllByRecursion (λ x. y ≢ x) xs → filter (is_other y) xs ≡ xs
keeps_all y [] a = refl
keeps_all y (x ∷ xs) a = ap (λ (b : Bool). cond b (x ∷ filter (is_other y) xs) (filter (is_other y) xs)) (other_yes x y (λ e. a.0 (sym e))) ∙ ap (λ (l : List ℕ). x ∷ l) (keeps_all y xs a.1)

loses_one : (y : ℕ) (xs : List ℕ) → Differ xs → length xs ≤ length (filter (is_other y) xs) + 1
loses_one y [] d = omega arith
loses_one y (x ∷ xs) d = elim (cases_eq x y) [
  | inl same ↦
      let f : filter (is_other y) (x ∷ xs) ≡ filter (is_other y) xs = ap (λ (b : Bool). cond b (x ∷ filter (is_other y) xs) (filter (is_other y) xs)) (other_no x y same) in
      let k : filter (is_other y) xs ≡ xs = keeps_all y xs (subst (λ (z : ℕ). AllByRecursion (λ x. z ≢ x) xs) same d.0) in
      let l : length (filter (is_other y) (x ∷ xs)) ≡ length xs = ap length (f ∙ k) in
      omega (arith, l)
  | inr diff ↦
      let f : filter (is_other y) (x ∷ xs) ≡ x ∷ filter (is_other y) xs = ap (λ (b : Bool). cond b (x ∷ filter (is_other y) xs) (filter (is_other y) xs)) (other_yes x y diff) in
      let l : length (filter (is_other y) (x ∷ xs)) ≡ suc (length (filter (is_other y) xs)) = ap length f in
      let h = loses_one y xs d.1 in
      omega (arith, l, h)
]

filter_keeps : (P : ℕ → Type 0) (k : ℕ → Bool) (xs : List ℕ) → AllByRecursion P xs → AllByRecursion P (filter k xs)
filter_keeps P k [] a = tt
filter_keeps P k (x ∷ xs) a = by (k x) (filter_keeps P k xs a.1) where
  by : (b : Bool) → AllByRecursion P (filter k xs) → AllByRecursion P (cond b (x ∷ filter k xs) (filter k xs))
  by true r = (a.0, r)
  by false r = r

filter_differs : (k : ℕ → Bool) (xs : List ℕ) → Differ xs → Differ (filter k xs)
filter_differs k [] d = tt
filter_differs k (x ∷ xs) d = by (k x) (filter_differs k xs d.1) where
  by : (b : Bool) → Differ (filter k xs) → Differ (cond b (x ∷ filter k xs) (filter k xs))
  by true r = (filter_keeps (λ y. x ≢ y) k xs d.0, r)
  by false r = r

rest_of : (y : ℕ) (ys xs : List ℕ) → AllByRecursion (IsOneOf (y ∷ ys)) xs → AllByRecursion (IsOneOf ys) (filter (is_other y) xs)
rest_of y ys [] a = tt
rest_of y ys (x ∷ xs) a = elim (cases_eq x y) [
  | inl same ↦ subst (AllByRecursion (IsOneOf ys)) (sym (ap (λ (b : Bool). cond b (x ∷ filter (is_other y) xs) (filter (is_other y) xs)) (other_no x y same))) (rest_of y ys xs a.1)
  | inr diff ↦ subst (AllByRecursion (IsOneOf ys)) (sym (ap (λ (b : Bool). cond b (x ∷ filter (is_other y) xs) (filter (is_other y) xs)) (other_yes x y diff)))
      (elim (a.0) [ inl e ↦ absurd (diff e) | inr o ↦ o ], rest_of y ys xs a.1)
]

no_more : (ys xs : List ℕ) → Differ xs → AllByRecursion (IsOneOf ys) xs → length xs ≤ length ys
no_more [] [] d a = omega arith
no_more [] (x ∷ xs) d a = absurd a.0
no_more (y ∷ ys) xs d a =
    let h = no_more ys (filter (is_other y) xs) (filter_differs (is_other y) xs d) (rest_of y ys xs a) in
    let l = loses_one y xs d in
    omega (arith, h, l)

-- ---- what a function gives at some of the numbers from a on

module _ (f : ℕ → ℕ) (p : ℕ → Bool) where
  each_given : (P : ℕ → Type 0) (m a : ℕ) → ((j : ℕ) → a ≤ j → j < a + m → p j ≡ true → P (f j)) → AllByRecursion P (map f (filter p (range_with_len a m)))
  each_given P zero a h = tt
  each_given P (suc m) a h = by (p a) refl (each_given P m (a + 1) (λ j l u t. h j (omega (arith, l)) (omega (arith, u)) t)) where
    by : (b : Bool) → p a ≡ b → AllByRecursion P (map f (filter p (range_with_len (a + 1) m)))
        → AllByRecursion P (map f (cond b (a ∷ filter p (range_with_len (a + 1) m)) (filter p (range_with_len (a + 1) m))))
    by true e r = (h a (omega arith) (omega arith) e, r)
    by false e r = r

  differ_given : (m a : ℕ) → ((i j : ℕ) → a ≤ i → i < a + m → a ≤ j → j < a + m → f i ≡ f j → i ≡ j) → Differ (map f (filter p (range_with_len a m)))
  differ_given zero a h = tt
  differ_given (suc m) a h =
      by (p a) (differ_given m (a + 1) (λ i j l u l2 u2 e. h i j (omega (arith, l)) (omega (arith, u)) (omega (arith, l2)) (omega (arith, u2)) e)) where
        apart : AllByRecursion (λ y. f a ≢ y) (map f (filter p (range_with_len (a + 1) m)))
        apart = each_given (λ y. f a ≢ y) m (a + 1) (λ j l u t e. let same : a ≡ j = h a j (omega arith) (omega arith) (omega (arith, l)) (omega (arith, u)) e in absurd (omega (arith, same, l)))

        by : (b : Bool) → Differ (map f (filter p (range_with_len (a + 1) m))) → Differ (map f (cond b (a ∷ filter p (range_with_len (a + 1) m)) (filter p (range_with_len (a + 1) m))))
        by true r = (apart, r)
        by false r = r

last_or-push : (o : Option Entry) (h : List Entry) (e : Entry) → last_or o (h ++ e ∷ []) ≡ Some e
last_or-push o [] e = refl
last_or-push o (d ∷ h) e = last_or-push (Some d) h e

-- ---- what each entry keeps

module _ (site : Site) (nodes : List ℕ) where
  -- each column that is down is on one of these nodes
  abbrev Among : List Entry → Type 0
  Among h = (i : ℕ) → i < site.shape.n → is_down h i ≡ true → IsOneOf nodes (node_of site h i)

  -- an entry that changes no node, and brings down no column but on one of the nodes
  quiet : (h : List Entry) (e : Entry) → ((i x : ℕ) → node_next i x e ≡ x)
      → ((i : ℕ) → down_next i (is_down h i) e ≡ true → (is_down h i ≡ true) ⊎ IsOneOf nodes (node_of site h i)) → Among h → Among (h ++ e ∷ [])
  quiet h e same down s i l d =
      let n : node_of site (h ++ e ∷ []) i ≡ node_of site h i = node_of-push site h e i ∙ same i (node_of site h i) in
      subst (IsOneOf nodes) (sym n) (elim (down i (sym (is_down-push h e i) ∙ d)) [ inl was ↦ s i l was | inr on ↦ on ])

  -- a column comes to a node, and is live there
  arrives : (h : List Entry) (e : Entry) (col node : ℕ) → ((i x : ℕ) → node_next i x e ≡ cond (eqb col i) node x)
      → ((i : ℕ) → i ≢ col → down_next i (is_down h i) e ≡ is_down h i) → (down_next col (is_down h col) e ≡ false) → Among h → Among (h ++ e ∷ [])
  arrives h e col node at down up s i l d = elim (cases_eq i col) [
    | inl ic ↦ absurd (false≢true (sym up ∙ ap (λ (k : ℕ). down_next k (is_down h k) e) (sym ic) ∙ sym (is_down-push h e i) ∙ d))
    | inr id ↦
        let there : node_of site (h ++ e ∷ []) i ≡ node_of site h i =
        node_of-push site h e i ∙ at i (node_of site h i) ∙ ap (λ (b : Bool). cond b node (node_of site h i)) (ne_eqb col i (λ q. id (sym q))) in
        subst (IsOneOf nodes) (sym there) (s i l (sym (down i id) ∙ sym (is_down-push h e i) ∙ d))
  ]

  among_next : (h : List Entry) (e : Entry) (after : List Entry) → Fits site h e after → DownsOn nodes e → Among h → Among (h ++ e ∷ [])
  among_next h (Call caller number stamp call reply) after f on s = quiet h (Call caller number stamp call reply) (λ i x. refl) (λ i d. inl d) s
  among_next h (Down stamp col node cause) after f on s =
      quiet h (Down stamp col node cause) (λ i x. refl) (λ i d. elim (cases_eq col i) [
        | inl same ↦ inr (let there = f.there in subst (IsOneOf nodes) (there ∙ ap (node_of site h) same) on)
        | inr diff ↦ inl (sym (ap (λ (b : Bool). cond b true (is_down h i)) (ne_eqb col i diff)) ∙ d)
      ]) s
  among_next h (Up stamp col node) after f on s =
      arrives h (Up stamp col node) col node.0 (λ i x. refl)
      (λ i ne. ap (λ (b : Bool). cond b false (is_down h i)) (ne_eqb col i (λ q. ne (sym q))))
      (ap (λ (b : Bool). cond b false (is_down h col)) (eq-eqb col col refl)) s
  among_next h (Move stamp col node) after f on s = arrives h (Move stamp col node) col node.0 (λ i x. refl) (λ i ne. refl) f.live s

  -- so few are down, where the columns are on different nodes
  few_down : (h : List Entry) → AreApart site h → Among h → length nodes ≤ site.shape.n - site.shape.k → is_over site h ≡ true → ⊥
  few_down h apart s few over =
      let f : ℕ → ℕ = λ i. node_of site h i in
      let p : ℕ → Bool = λ i. is_down h i in
      let d = differ_given f p site.shape.n 0 (λ i j li ui lj uj e. apart.differ i j (omega (arith, ui)) (omega (arith, uj)) e) in
      let a = each_given f p (IsOneOf nodes) site.shape.n 0 (λ j l u t. s j (omega (arith, u)) t) in
      let m = no_more nodes (map f (downs site h)) d a in
      let l = length-map (downs site h) f in
      let o = ltb-true (site.shape.n - site.shape.k) (length (downs site h)) over in
      omega (arith, m, l, o, few)

  -- ahead of a call the columns are on different nodes
  apart_ahead : (before rest : List Entry) (caller : Caller) (number stamp : ℕ) (call : Asked) (reply : Reply) → site.shape.n ≤ site.nodes
      → IsLegal site (before ++ (Call caller number stamp call reply) ∷ rest) → AreApart site before
  apart_ahead before rest caller number stamp call reply fits l =
      let e : Entry = Call caller number stamp call reply in
      let last : last_or None (before ++ e ∷ []) ≡ Some e = last_or-push None before e in
      let whole : IsLegal site ((before ++ e ∷ []) ++ rest) = subst (IsLegal site) (sym (append_assoc before (e ∷ []) rest)) l in
      let a = nodes_are_apart site (before ++ e ∷ []) fits (was_legal site (before ++ e ∷ []) rest whole (ap up_of last, ap move_of last)) in
      let same : (i : ℕ) → node_of site (before ++ e ∷ []) i ≡ node_of site before i = λ i. node_of-push site before e i in
      record {
        differ = λ i j li lj q. a.differ i j li lj (same i ∙ q ∙ sym (same j));
        there = λ i li. subst (λ (x : ℕ). x < site.nodes) (same i) (a.there i li);
      }

refusal_not_lost : (g : Shape) (call : Asked) → refusal g call ≡ Some Lost → ⊥
refusal_not_lost g (Read off len) is = by (ltb (segment_length g) (off + len)) is where
  by : (b : Bool) → cond b (Some Range) None ≡ Some Lost → ⊥
  by true e = cc
  by false e = cc
refusal_not_lost g (Write off bytes) is = by (ltb (segment_length g) (off + length bytes)) (ltb g.update (length bytes)) is where
  by : (b c : Bool) → cond b (Some Range) (cond c (Some Long) None) ≡ Some Lost → ⊥
  by true c e = cc
  by false true e = cc
  by false false e = cc
refusal_not_lost g (Swap off old new) is = by (ltb (segment_length g) (off + length old)) (ltb g.update (length new) || not (eqb (length new) (length old))) is where
  by : (b c : Bool) → cond b (Some Range) (cond c (Some Long) None) ≡ Some Lost → ⊥
  by true c e = cc
  by false true e = cc
  by false false e = cc
refusal_not_lost g (Put bytes) is = by (eqb (length bytes) (segment_length g)) is where
  by : (b : Bool) → cond b None (Some Long) ≡ Some Lost → ⊥
  by true e = cc
  by false e = cc
refusal_not_lost g Merge is = cc
refusal_not_lost g Tick is = cc
refusal_not_lost g Rebuild is = cc
refusal_not_lost g Upgrade is = cc
refusal_not_lost g (Drain node) is = cc

not_lost : (site : Site) (h : List Entry) (call : Asked) (reply : Reply) → (is_over site h ≡ true → ⊥) → IsAnswer site h call reply → reply ≢ Lost
not_lost site h call reply fine a lost = by (refusal site.shape call) refl where
  by : (o : Option Reply) → refusal site.shape call ≡ o → ⊥
  by None e = (let n : IsNone (refusal site.shape call) = rw e refl in fine ((a.lost n).0 lost))
  by (Some r) e = (let q : IfSome (Some r) (λ r. reply ≡ r) = subst (λ (o : Option Reply). IfSome o (λ r. reply ≡ r)) e a.refused in
      let same : reply ≡ r = q in refusal_not_lost site.shape call (e ∙ ap (λ (r : Reply). let o : Option Reply = Some r in o) (sym same ∙ lost)))

module _ (site : Site) (nodes : List ℕ) (fits : site.shape.n ≤ site.nodes) (few : length nodes ≤ site.shape.n - site.shape.k) where
  none_lost : (before rest : List Entry) → Among site nodes before → IsLegal site (before ++ rest) → AllByRecursion (DownsOn nodes) rest → AllByRecursion IsNotLost rest
  none_lost before [] s l on = tt
  none_lost before (e ∷ rest) s l on =
      let f = legal_right site [] before (e ∷ rest) l in
      (here e l f.0, none_lost (before ++ e ∷ []) rest (among_next site nodes before e rest f.0 on.0 s) (subst (IsLegal site) (sym (append_assoc before (e ∷ []) rest)) l) on.1) where
        here : (e : Entry) → IsLegal site (before ++ e ∷ rest) → Fits site before e rest → IsNotLost e
        here (Call caller number stamp call reply) l f =
            not_lost site before call reply (few_down site nodes before (apart_ahead site nodes before rest caller number stamp call reply fits l) s few) f
        here (Down stamp col node cause) l f = tt
        here (Up stamp col node) l f = tt
        here (Move stamp col node) l f = tt

pub never_lost : NeverLost
never_lost site nodes h fits few l on = none_lost site nodes fits few [] h (λ i l d. absurd (cc)) l on

pub lost_exactly : IsLostExactly
lost_exactly site before rest caller number stamp call reply l none =
    let a = (legal_right site [] before ((Call caller number stamp call reply) ∷ rest) l).0 in
    let n : IsNone (refusal site.shape call) = rw none refl in
    let b = a.lost n in
    (λ e. ltb-true (site.shape.n - site.shape.k) (length (downs site before)) (b.0 e), λ lt. b.1 (lt-ltb (site.shape.n - site.shape.k) (length (downs site before)) lt))

-- ---- a whole history

in_segment : (P : Placed → Type 0) (s : ℕ) (h : List Entry) → AllByRecursion P (map (λ e. place s e) h) → AllByRecursion (λ e. P (place s e)) h
in_segment P s [] a = tt
in_segment P s (e ∷ h) a = (a.0, in_segment P s h a.1)

of_segment : (P : Placed → Type 0) (s : ℕ) (h : List Entry) → AllByRecursion (λ e. P (place s e)) h → AllByRecursion P (map (λ e. place s e) h)
of_segment P s [] a = tt
of_segment P s (e ∷ h) a = (a.0, of_segment P s h a.1)

pub by_segments : (P Q : Placed → Type 0) (i : ℕ) (hs : List (List Entry)) → AllByRecursion P (placed_from i hs)
    → ((s : ℕ) (h : List Entry) → slice_get hs s ≡ Some h → AllByRecursion (λ e. P (place (i + s) e)) h → AllByRecursion (λ e. Q (place (i + s) e)) h)
    → AllByRecursion Q (placed_from i hs)
by_segments P Q i [] a f = tt
by_segments P Q i (h ∷ hs) a f =
    let z : i + 0 ≡ i = omega arith in
    let first : AllByRecursion (λ e. Q (place i e)) h = subst (λ (k : ℕ). AllByRecursion (λ e. Q (place k e)) h) z
    (f 0 h refl (subst (λ (k : ℕ). AllByRecursion (λ e. P (place k e)) h) (sym z) (in_segment P i h (Each-left P (map (λ e. place i e) h) (placed_from (i + 1) hs) a)))) in
    Each-append Q (map (λ e. place i e) h) (placed_from (i + 1) hs) (of_segment Q i h first)
    (by_segments P Q (i + 1) hs (Each-right P (map (λ e. place i e) h) (placed_from (i + 1) hs) a)
    (λ s k is b.
    let e : i + suc s ≡ i + 1 + s = omega arith in
    subst (λ (j : ℕ). AllByRecursion (λ e. Q (place j e)) k) e (f (suc s) k is (subst (λ (j : ℕ). AllByRecursion (λ e. P (place j e)) k) (sym e) b))))

pub few_fails_lose_nothing : FewFailsLoseNothing
few_fails_lose_nothing told x may owes hs nodes X H few all no_faults =
    let P : Placed → Type 0 = λ p. IsLicensed x may p.entry × IsNoFault p.entry in
    let a = recursion_from_All (λ p. IsLicensed x may p.entry) (placed hs) H.licensed in
    let b = recursion_from_All (λ p. IsNoFault p.entry) (placed hs) no_faults in
    All-from_recursion (λ p. IsNotLost p.entry) (placed hs)
    (by_segments P (λ p. IsNotLost p.entry) 0 hs (both (placed hs) a b)
    (λ s h is c. never_lost (site_as told x.shape x.nodes s) nodes h X.columns few ((H.whole.each s h is).1)
    (Each-weaker (λ e. IsLicensed x may e × IsNoFault e) (DownsOn nodes) (λ e q. on e q.0 q.1) h c))) where
      both : (ps : List Placed) → AllByRecursion (λ p. IsLicensed x may p.entry) ps → AllByRecursion (λ p. IsNoFault p.entry) ps
          → AllByRecursion (λ p. IsLicensed x may p.entry × IsNoFault p.entry) ps
      both [] a b = tt
      both (p ∷ ps) a b = ((a.0, b.0), both ps a.1 b.1)

      on : (e : Entry) → IsLicensed x may e → IsNoFault e → DownsOn nodes e
      on (Down stamp col node (Killed line)) l n = all line node.0 l
      on (Down stamp col node (Fault count)) l n = absurd n
      on (Call caller number stamp call reply) l n = tt
      on (Up stamp col node) l n = tt
      on (Move stamp col node) l n = tt

-- a shelf that may fail nowhere has no fault
pub no_faults_where_none_may : NoFaultsWhereNoneMay
no_faults_where_none_may told x may owes hs H none =
    All-weaker (λ p. IsLicensed x may p.entry) (λ p. IsNoFault p.entry) (λ p l. one p.entry l) (placed hs) H.licensed where
      one : (e : Entry) → IsLicensed x may e → IsNoFault e
      one (Down stamp col node (Fault count)) l = (let yes = l.1 in false≢true (sym (none node.0) ∙ yes))
      one (Down stamp col node (Killed line)) l = tt
      one (Call caller number stamp call reply) l = tt
      one (Up stamp col node) l = tt
      one (Move stamp col node) l = tt
