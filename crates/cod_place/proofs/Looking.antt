-- A seat that only looks keeps its bytes.
use Rattle.std.proofs.Common.{◌≡◌, ◌≢◌, ℕ, ◌-◌, ◌%◌, ◌^◌, List, [], ◌∷◌, ◌++◌, length, refl, sym, ap, ◌∙◌, subst, eqb, ne_eqb, Bool, cond, append_assoc}
use Rattle.std.proofs.lemmas.List.{append-nil}
use Rattle.std.specs.Prelude.{Result, Ok, Err, IfErr}
use mathlib.Core.List.{IsPrefix}
use mathlib.Core.Option as maybe
use lib.ListN.{get_elem?}
use Rattle.atomic_table.specs.Table.{Me}
use Rattle.atomic_table.proofs.Lists.{at_last, at_longer}
use Rattle.atomic_table.specs.Seated.{TableId}
use Rattle.cod_place.specs.declared.view.View.{View}
use Rattle.cod_place.specs.Free.{Seated, After, Counted, looked, took, both_of, nobody, HasSeen}
use Rattle.cod_seats.specs.Totals.{Has}
use Rattle.cod_seats.proofs.Found.{has_left}

abbrev M : Type 0
M = Me (Unit {0}) View

abbrev Looks : Type 0
Looks = List (ℕ × ℕ)

pub record Looking (m m' : M) : Type 0 where
  pub held : m'.1 ≡ m.1
  pub bytes : m'.0.bytes ≡ m.0.bytes
  pub looks : IsPrefix m.0.looks m'.0.looks

pub looking_self : (m : M) → Looking m m
looking_self m = record { held = refl; bytes = refl; looks = ([], append-nil m.0.looks) }

pub looking_same : (m m' : M) → m' ≡ m → Looking m m'
looking_same m m' e = subst (Looking m) (sym e) (looking_self m)

pub looking_load : (m m' : M) (node found : ℕ) → m' ≡ (looked m.0 node found, m.1) → Looking m m'
looking_load m m' node found e = record {
  held = ap (λ (x : M). x.1) e;
  bytes = ap (λ (x : M). x.0.bytes) e;
  looks = ((node, found) ∷ [], sym (ap (λ (x : M). x.0.looks) e));
}

pub looking_join : (m m' : M) (w : View) → w.bytes ≡ [] → m' ≡ (both_of m.0 w, m.1) → Looking m m'
looking_join m m' w none e = record {
  held = ap (λ (x : M). x.1) e;
  bytes = ap (λ (x : M). x.0.bytes) e ∙ (ap (λ (bs : Looks). m.0.bytes ++ bs) none ∙ append-nil m.0.bytes);
  looks = ([], append-nil m.0.looks ∙ sym (ap (λ (x : M). x.0.looks) e));
}

pub looking_then : (a b c : M) → Looking a b → Looking b c → Looking a c
looking_then a b c p q = record {
  held = q.held ∙ p.held;
  bytes = q.bytes ∙ p.bytes;
  looks = (p.looks.0 ++ q.looks.0, sym (append_assoc a.0.looks p.looks.0 q.looks.0) ∙ (ap (λ (w : Looks). w ++ q.looks.0) p.looks.1 ∙ q.looks.1));
}

pub still_counted : (counts counts' : List ℕ) (bytes bytes' : Looks) → counts' ≡ counts → bytes' ≡ bytes → Counted counts bytes → Counted counts' bytes'
still_counted counts counts' bytes bytes' e f c = subst (λ (z : List ℕ × Looks). Counted z.0 z.1) (λ i. (sym e i, sym f i)) c

abbrev pub seated : TableId → View → Seated
seated of v = record { of = of; bytes = v.bytes; looks = v.looks }

pub after_looking : (of of' : TableId) (m m' : M) (s : Seated) → seated of m.0 ≡ s → of' ≡ of → Looking m m' → After s (seated of' m'.0)
after_looking of of' m m' s is same l = subst (λ (z : Seated). After z (seated of' m'.0)) is record { of = same; bytes = l.bytes; looks = l.looks }

pub last_seen : (s l l' : Looks) (node found : ℕ) → IsPrefix s l → l' ≡ l ++ (node, found) ∷ [] → (more : Looks) × (s ++ more ≡ l') × Has (node, found) more
last_seen s l l' node found p e =
    (p.0 ++ (node, found) ∷ [], sym (append_assoc s p.0 ((node, found) ∷ [])) ∙ (ap (λ (w : Looks). w ++ (node, found) ∷ []) p.1 ∙ sym e), (length p.0, at_last p.0 (node, found) (length p.0) refl))

-- where the word had changed, nothing was taken
pub missed : (m m' : M) (node first second found : ℕ) → m.0.bytes ≡ [] → found ≢ first → m' ≡ (took m.0 node first second found, m.1) → m'.0.bytes ≡ []
missed m m' node first second found none miss e =
    ap (λ (x : M). x.0.bytes) e ∙ (ap (λ (b : Bool). (cond {A = View} b record { bytes = (node, first - second) ∷ m.0.bytes; looks = m.0.looks } m.0).bytes) (ne_eqb found first miss) ∙ none)

pub seen_later : (since s t : Seated) (node bytes : ℕ) → After s t → HasSeen since s node bytes → HasSeen since t node bytes
seen_later since s t node bytes a h =
    (h.0 ++ a.looks.0, sym (append_assoc since.looks h.0 a.looks.0) ∙ (ap (λ (w : Looks). w ++ a.looks.0) h.1 ∙ a.looks.1), has_left (node, bytes) h.0 a.looks.0 h.2)

pub if_err : {A E P : Type 0} (r : Result A E) → P → IfErr r (λ _. P)
if_err (Ok a) p = tt
if_err (Err e) p = p
