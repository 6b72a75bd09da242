-- On which nodes the columns of a legal chronicle are.
use Rattle.std.proofs.Common.{◌≡◌, ◌≢◌, ℕ, ◌+◌, ◌<◌, ◌≤◌, Bool, true, false, cond, eqb, List, [], ◌∷◌, ◌++◌, get_or, refl, sym, ap, ◌∙◌, subst, inl, inr}
use Rattle.std.proofs.Common.{arith}
use Rattle.std.specs.List.{range_with_len}
use Rattle.std.proofs.lemmas.Bool.{cases_eq, eq-eqb, ne_eqb, false≢true}
use Rattle.std.proofs.lemmas.List.{append-nil, append_assoc}
use Rattle.std.proofs.lemmas.List.Folds.{list_any_at}
use Rattle.std.proofs.lemmas.List.FromFn.{length-range_with_len, get_or-range_with_len}
use Rattle.cod_chronicle.specs.declared.entry.Entry.{Entry}
use Rattle.cod_chronicle.specs.declared.entry.Entry.TheVariants.{Call, Down, Up, Move}
use Rattle.cod_chronicle.specs.Said.{Site, node_of, node_next, is_taken}
use Rattle.cod_chronicle.specs.Legal.{LegalAfter, Fits, IsArrival}
use Rattle.cod_chronicle.specs.Laws.{AreApart, NodesAreApart}
use Rattle.cod_chronicle.proofs.Growth.{node_of-push}
use Rattle.cod_types.proofs.Homes.{same_place}

module _ (site : Site) where
  at_first : site.shape.n ≤ site.nodes → AreApart site []
  at_first fits = record {
    differ = λ i j li lj e. same_place site.segment site.nodes i j (omega (arith, li, fits)) (omega (arith, lj, fits)) e;
    there = λ i l. (let some : 0 < site.nodes = omega (arith, l, fits) in omega arith);
  }

  -- an entry that changes no node
  quiet : (h : List Entry) (e : Entry) → ((i x : ℕ) → node_next i x e ≡ x) → AreApart site h → AreApart site (h ++ e ∷ [])
  quiet h e same s =
      let n : (i : ℕ) → node_of site (h ++ e ∷ []) i ≡ node_of site h i = λ i. node_of-push site h e i ∙ same i (node_of site h i) in
      record {
        differ = λ i j li lj q. s.differ i j li lj (sym (n i) ∙ q ∙ n j);
        there = λ i l. subst (λ (x : ℕ). x < site.nodes) (sym (n i)) (s.there i l);
      }

  not_taken : (h : List Entry) (x : ℕ) → is_taken site h x ≡ false → (i : ℕ) → i < site.shape.n → node_of site h i ≢ x
  not_taken h x free i l e =
      let g : get_or (range_with_len 0 site.shape.n) i 0 ≡ i = (let r = get_or-range_with_len 0 site.shape.n i 0 l in let z : 0 + i ≡ i = omega arith in r
      ∙ z) in
      let t : eqb (node_of site h (get_or (range_with_len 0 site.shape.n) i 0)) x ≡ true =
      ap (λ (k : ℕ). eqb (node_of site h k) x) g ∙ eq-eqb (node_of site h i) x e in
      let len = length-range_with_len 0 site.shape.n in
      let some : is_taken site h x ≡ true = list_any_at (λ i. eqb (node_of site h i) x) (range_with_len 0 site.shape.n) i 0 (omega (arith, len, l)) t in
      false≢true (sym free ∙ some)

  -- a column comes to a node where none is
  arrives : (h : List Entry) (e : Entry) (col node : ℕ) → ((i x : ℕ) → node_next i x e ≡ cond (eqb col i) node x)
      → IsArrival site h node → AreApart site h → AreApart site (h ++ e ∷ [])
  arrives h e col node at a s =
      let free = a.free in
      let here : (i : ℕ) → i ≡ col → node_of site (h ++ e ∷ []) i ≡ node =
      λ i is. node_of-push site h e i ∙ at i (node_of site h i) ∙ ap (λ (b : Bool). cond b node (node_of site h i)) (eq-eqb col i (sym is)) in
      let away : (i : ℕ) → i ≢ col → node_of site (h ++ e ∷ []) i ≡ node_of site h i =
      λ i ne. node_of-push site h e i ∙ at i (node_of site h i) ∙ ap (λ (b : Bool). cond b node (node_of site h i)) (ne_eqb col i (λ q. ne (sym q))) in
      record {
        differ = λ i j li lj q. elim (cases_eq i col) [
          | inl ic ↦ elim (cases_eq j col) [
            | inl jc ↦ ic ∙ sym jc
            | inr jd ↦ absurd (not_taken h node free j lj (sym (away j jd) ∙ sym q ∙ here i ic))
          ]
          | inr id ↦ elim (cases_eq j col) [
            | inl jc ↦ absurd (not_taken h node free i li (sym (away i id) ∙ q ∙ here j jc))
            | inr jd ↦ s.differ i j li lj (sym (away i id) ∙ q ∙ away j jd)
          ]
        ];
        there = λ i l. elim (cases_eq i col) [
          | inl ic ↦ subst (λ (x : ℕ). x < site.nodes) (sym (here i ic)) a.there
          | inr id ↦ subst (λ (x : ℕ). x < site.nodes) (sym (away i id)) (s.there i l)
        ];
      }

  apart_next : (h : List Entry) (e : Entry) (after : List Entry) → Fits site h e after → AreApart site h → AreApart site (h ++ e ∷ [])
  apart_next h (Call caller number stamp call reply) after f s = quiet h (Call caller number stamp call reply) (λ i x. refl) s
  apart_next h (Down stamp col node cause) after f s = quiet h (Down stamp col node cause) (λ i x. refl) s
  apart_next h (Up stamp col node) after f s = arrives h (Up stamp col node) col node.0 (λ i x. refl) f.arrives s
  apart_next h (Move stamp col node) after f s = arrives h (Move stamp col node) col node.0 (λ i x. refl) f.arrives s

  apart_after : (before rest : List Entry) → AreApart site before → LegalAfter site before rest → AreApart site (before ++ rest)
  apart_after before [] s l = subst (AreApart site) (sym (append-nil before)) s
  apart_after before (e ∷ rest) s l =
      subst (AreApart site) (append_assoc before (e ∷ []) rest) (apart_after (before ++ e ∷ []) rest (apart_next before e rest l.0 s) l.1)

pub nodes_are_apart : NodesAreApart
nodes_are_apart site h fits l = apart_after site [] h (at_first site fits) l
