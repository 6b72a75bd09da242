-- A chronicle with one more entry.
use Rattle.std.proofs.Common.{◌≡◌, ℕ, ◌+◌, ◌<◌, Bool, false, cond, Option, Some, None, List, [], ◌∷◌, ◌++◌, length, get_or, refl, sym, ap, ◌∙◌, subst, inl, inr}
use Rattle.std.proofs.Common.{arith}
use Rattle.std.specs.List.{fold, cons_option, All, AllPairs}
use Rattle.std.proofs.lemmas.Bool.{cases_eq, eq-eqb, ne_eqb}
use Rattle.std.proofs.lemmas.List.{append-nil, length-append, get_or_append_left, get_or-append-add}
use Rattle.std.proofs.lemmas.List.Elements.{filter_map-append}
use Rattle.std.proofs.lemmas.List.Quantifiers.{all_pairs_push}
use Rattle.std.proofs.lemmas.List.Sums.{fold-append}
use Rattle.cod_types.specs.Columns.{home_of}
use Rattle.cod_types.specs.Plain.{zeros}
use Rattle.cod_chronicle.specs.declared.entry.Entry.{Entry}
use Rattle.cod_chronicle.specs.declared.entry.Entry.TheVariants.{Call, Down, Up, Move}
use Rattle.cod_chronicle.specs.Said.{Site, stamp_of, clock_of, Precedes, StampFollows, RisesFrom, StampsRise, number_by, numbers_by, NumberFollows, IsChronicle}
use Rattle.cod_chronicle.specs.Said.{counts, call_count, is_down, down_next, fault_of, fault_next, node_of, node_next, bytes_of, bytes_next}
use Rattle.cod_chronicle.specs.Laws.{IsChronicleBehind, SaysEachNext}

pub clock_of-push : (h : List Entry) (e : Entry) → clock_of (h ++ e ∷ []) ≡ stamp_of e
clock_of-push h e = fold-append (λ t e. stamp_of e) 0 h (e ∷ [])

pub is_down-push : (h : List Entry) (e : Entry) (i : ℕ) → is_down (h ++ e ∷ []) i ≡ down_next i (is_down h i) e
is_down-push h e i = fold-append (λ d e. down_next i d e) false h (e ∷ [])

pub node_of-push : (site : Site) (h : List Entry) (e : Entry) (i : ℕ) → node_of site (h ++ e ∷ []) i ≡ node_next i (node_of site h i) e
node_of-push site h e i = fold-append (λ x e. node_next i x e) (home_of site.segment i site.nodes) h (e ∷ [])

pub fault_of-push : (h : List Entry) (e : Entry) (i : ℕ) → fault_of (h ++ e ∷ []) i ≡ fault_next i (fault_of h i) e
fault_of-push h e i = fold-append (λ f e. fault_next i f e) None h (e ∷ [])

pub call_count-push : (h : List Entry) (e : Entry) → call_count (h ++ e ∷ []) ≡ call_count h + counts e
unfolding call_count
call_count-push [] e = omega arith
call_count-push (x ∷ h) e = (let b = call_count-push h e in omega (arith, b))

pub bytes_of-push : (site : Site) (h : List Entry) (e : Entry) → bytes_of site (h ++ e ∷ []) ≡ bytes_next (bytes_of site h) e
bytes_of-push site h e = fold-append (λ b e. bytes_next b e) (zeros site.shape) h (e ∷ [])

pub says_next : SaysEachNext
says_next site h e = record { clock = clock_of-push h e; down = is_down-push h e; node = node_of-push site h e; bytes = bytes_of-push site h e; calls = call_count-push h e; fault = fault_of-push h e }

-- a stamp that follows the clock may come
pub stamp_follows : (h : List Entry) (t : ℕ) → Precedes (clock_of h) t → StampFollows h t
stamp_follows [] t f = tt
stamp_follows (e ∷ h) t f = f

pub rises_push : (t : ℕ) (h : List Entry) (e : Entry) → RisesFrom t h → Precedes (fold (λ t e. stamp_of e) t h) (stamp_of e) → RisesFrom t (h ++ e ∷ [])
rises_push t [] e r f = (f, tt)
rises_push t (x ∷ h) e r f = (r.0, rises_push (stamp_of x) h e r.1 f)

rises_last : (t : ℕ) (h : List Entry) (e : Entry) → RisesFrom t (h ++ e ∷ []) → Precedes (fold (λ t e. stamp_of e) t h) (stamp_of e)
rises_last t [] e r = r.0
rises_last t (x ∷ h) e r = rises_last (stamp_of x) h e r.1

stamps_push : (h : List Entry) (e : Entry) → StampsRise h → StampFollows h (stamp_of e) → StampsRise (h ++ e ∷ [])
stamps_push [] e r f = tt
stamps_push (x ∷ h) e r f = rises_push (stamp_of x) h e r f

stamps_last : (h : List Entry) (e : Entry) → StampsRise (h ++ e ∷ []) → StampFollows h (stamp_of e)
stamps_last [] e r = tt
stamps_last (x ∷ h) e r = rises_last (stamp_of x) h e r

pub numbers_by-push : (who : ℕ) (h : List Entry) (e : Entry) → numbers_by who (h ++ e ∷ []) ≡ numbers_by who h ++ cons_option (number_by who e) []
numbers_by-push who h e = filter_map-append (number_by who) h (e ∷ [])

-- a mark adds no number
pub numbers_same : (who : ℕ) (h : List Entry) (e : Entry) → number_by who e ≡ None → numbers_by who (h ++ e ∷ []) ≡ numbers_by who h
numbers_same who h e none = numbers_by-push who h e ∙ ap (λ (o : Option ℕ). numbers_by who h ++ cons_option o []) none ∙ append-nil (numbers_by who h)

abbrev Rises : List ℕ → Type 0
Rises ms = AllPairs (λ m n. m < n) ms

numbers_push : (who : ℕ) (h : List Entry) (e : Entry) → Rises (numbers_by who h) → NumberFollows h e → Rises (numbers_by who (h ++ e ∷ []))
numbers_push who h (Call caller number stamp call reply) r f =
    let e : Entry = Call caller number stamp call reply in
    elim (cases_eq caller.0 who) [
      | inl same ↦
          let is : number_by who e ≡ Some number = ap (λ (b : Bool). cond b (Some number) None) (eq-eqb caller.0 who same) in
          let l : numbers_by who (h ++ e ∷ []) ≡ numbers_by who h ++ number ∷ [] = numbers_by-push who h e ∙ ap (λ (o : Option ℕ). numbers_by who h ++ cons_option o []) is in
          let a : All (λ m. m < number) (numbers_by who h) = subst (λ (c : ℕ). All (λ m. m < number) (numbers_by c h)) same f in
          subst Rises (sym l) (all_pairs_push (λ m n. m < n) (numbers_by who h) number r a)
      | inr other ↦ subst Rises (sym (numbers_same who h e (ap (λ (b : Bool). cond b (Some number) None) (ne_eqb caller.0 who other)))) r
    ]
numbers_push who h (Down stamp col node cause) r f = subst Rises (sym (numbers_same who h (Down stamp col node cause) refl)) r
numbers_push who h (Up stamp col node) r f = subst Rises (sym (numbers_same who h (Up stamp col node) refl)) r
numbers_push who h (Move stamp col node) r f = subst Rises (sym (numbers_same who h (Move stamp col node) refl)) r

-- the last of rising numbers is above the others
rising_last : (ms : List ℕ) (n : ℕ) → Rises (ms ++ n ∷ []) → All (λ m. m < n) ms
rising_last ms n r k d lt =
    let len = length-append ms (n ∷ []) in
    let h = r k (length ms) d lt (omega arith) in
    let a = get_or_append_left ms (n ∷ []) d k lt in
    let z : length ms + 0 ≡ length ms = omega arith in
    let b : get_or (ms ++ n ∷ []) (length ms) d ≡ n = ap (λ (j : ℕ). get_or (ms ++ n ∷ []) j d) (sym z) ∙ get_or-append-add ms (n ∷ []) 0 d in
    omega arith

numbers_last : (h : List Entry) (e : Entry) → ((who : ℕ) → Rises (numbers_by who (h ++ e ∷ []))) → NumberFollows h e
numbers_last h (Call caller number stamp call reply) r =
    let e : Entry = Call caller number stamp call reply in
    let is : number_by caller.0 e ≡ Some number = ap (λ (b : Bool). cond b (Some number) None) (eq-eqb caller.0 caller.0 refl) in
    let l : numbers_by caller.0 (h ++ e ∷ []) ≡ numbers_by caller.0 h ++ number ∷ [] = numbers_by-push caller.0 h e ∙ ap (λ (o : Option ℕ). numbers_by caller.0 h ++ cons_option o []) is in
    rising_last (numbers_by caller.0 h) number (subst Rises l (r caller.0))
numbers_last h (Down stamp col node cause) r = tt
numbers_last h (Up stamp col node) r = tt
numbers_last h (Move stamp col node) r = tt

-- no entry is a chronicle
pub chronicle-nil : IsChronicle []
chronicle-nil = record { stamps = tt; numbers = λ who i j d lt within. absurd (omega arith) }

pub chronicle-push : (h : List Entry) (e : Entry) → IsChronicle h → StampFollows h (stamp_of e) → NumberFollows h e → IsChronicle (h ++ e ∷ [])
chronicle-push h e c s n = record { stamps = stamps_push h e c.stamps s; numbers = λ who. numbers_push who h e (c.numbers who) n }

pub chronicle_behind : IsChronicleBehind
chronicle_behind h e c = (λ k. (stamps_last h e k.stamps, numbers_last h e k.numbers), λ f. chronicle-push h e c f.0 f.1)
