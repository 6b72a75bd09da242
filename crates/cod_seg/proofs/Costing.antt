-- What events cost.
use Rattle.std.proofs.Common.{◌≡◌, ℕ, zero, suc, ◌+◌, ◌<◌, List, get_or, Bool, true, false, cond, find, refl, sym, ap, ◌∙◌, inl, inr, arith}
use Rattle.std.specs.Prelude.{◌&&◌, nat_le, nat_lt, min}
use Rattle.std.specs.List.{range_with_len}
use Rattle.std.proofs.lemmas.Bool.{cases_Bool, cases_eq, cases_lt, eq-eqb, le-ltb, leb-false, leb-true, lt-ltb, ltb-false, ltb-true, ne_eqb}
use Rattle.cod_types.specs.Limits.{Shape}
use Rattle.cod_layout.specs.Parts.{length_in}
use Rattle.cod_claims.proofs.Finding.{found_passes, found_range, none_found}
use Rattle.cod_parity.specs.Log.{IsDue}
use Rattle.cod_seg.specs.Seg.{Col, col_at}
use Rattle.cod_seg.specs.Laws.{up_below}
use Rattle.cod_seg.specs.Calls.{block_reads, range_reads, is_due, ReadsDirectly, sources_below, SourcesAreEnough, TestsDue}
use Rattle.cod_seg.proofs.Living.{enough_are_up}
use Rattle.cod_seg.proofs.Choosing.{none_is, some_is}

-- sources are those that are up, up to k of them
sources_are : (k n : ℕ) (cols : List Col) → sources_below k n cols ≡ min (up_below n cols) k
sources_are k zero cols = omega arith
sources_are k (suc n) cols =
    let before = sources_are k n cols in
    by (col_at cols n).is_up (nat_lt (up_below n cols) k) refl before where
      by : (u l : Bool) → nat_lt (up_below n cols) k ≡ l → sources_below k n cols ≡ min (up_below n cols) k
          → sources_below k n cols + cond (u && l) 1 0 ≡ min (up_below n cols + cond u 1 0) k
      by true true e before = (let less = ltb-true (up_below n cols) k e in omega (arith, before, less))
      by true false e before = (let more = ltb-false (up_below n cols) k e in omega (arith, before, more))
      by false l e before = omega (arith, before)

pub sources_are_enough : SourcesAreEnough
sources_are_enough s sound few =
    let all = sources_are s.site.shape.k s.site.shape.n s.cols in
    let enough = enough_are_up s sound few in
    omega (arith, all, enough)

-- a range's reads of column i in the first m blocks
direct : (m : ℕ) (g : Shape) (cols : List Col) (off len i : ℕ) → ((j : ℕ) → j < m → 0 < length_in g.block off len j → (col_at cols j).is_up ≡ true)
    → range_reads m g cols off len i ≡ cond (nat_lt i m && nat_lt 0 (length_in g.block off len i)) 1 0
direct zero g cols off len i up = rw (le-ltb i 0 (omega arith)) refl
direct (suc m) g cols off len i up =
    let before = direct m g cols off len i (λ j lt some. up j (omega arith) some) in
    elim (cases_eq m i) [
      | inl same ↦
          let none : range_reads m g cols off len i ≡ 0 = before ∙ ap (λ (b : Bool). cond (b && nat_lt 0 (length_in g.block off len i)) 1 0) (le-ltb i m (omega (arith, same))) in
          let now : nat_lt i (suc m) ≡ true = lt-ltb i (suc m) (omega (arith, same)) in
          here same none now
      | inr other ↦
          let still : nat_lt i (suc m) ≡ nat_lt i m = elim (cases_lt i m) [
            | inl below ↦ lt-ltb i (suc m) (omega arith) ∙ sym (lt-ltb i m below)
            | inr past ↦ le-ltb i (suc m) (omega (arith, past, other)) ∙ sym (le-ltb i m past)
          ] in
          there other before still
    ] where
      mine : nat_lt 0 (length_in g.block off len m) ≡ true → m ≡ i → block_reads g.k cols m i ≡ 1
      mine some same = rw (up m (omega arith) (ltb-true 0 (length_in g.block off len m) some), eq-eqb m i same) refl

      theirs : nat_lt 0 (length_in g.block off len m) ≡ true → (m ≡ i → ⊥) → block_reads g.k cols m i ≡ 0
      theirs some other = rw (up m (omega arith) (ltb-true 0 (length_in g.block off len m) some), ne_eqb m i other) refl

      here : m ≡ i → range_reads m g cols off len i ≡ 0 → nat_lt i (suc m) ≡ true
          → range_reads m g cols off len i + cond (nat_lt 0 (length_in g.block off len m)) (block_reads g.k cols m i) 0 ≡ cond (nat_lt i (suc m) && nat_lt 0 (length_in g.block off len i)) 1 0
      here same none now =
          let at : length_in g.block off len i ≡ length_in g.block off len m = ap (length_in g.block off len) (sym same) in
          rw (none, now, at) (elim (cases_Bool (nat_lt 0 (length_in g.block off len m))) [
            | inl some ↦ rw (some, mine some same) refl
            | inr out ↦ rw out refl
          ])

      there : (m ≡ i → ⊥) → range_reads m g cols off len i ≡ cond (nat_lt i m && nat_lt 0 (length_in g.block off len i)) 1 0 → nat_lt i (suc m) ≡ nat_lt i m
          → range_reads m g cols off len i + cond (nat_lt 0 (length_in g.block off len m)) (block_reads g.k cols m i) 0 ≡ cond (nat_lt i (suc m) && nat_lt 0 (length_in g.block off len i)) 1 0
      there other before still = rw (still, ← before) (elim (cases_Bool (nat_lt 0 (length_in g.block off len m))) [
        | inl some ↦ rw (some, theirs some other) (omega arith)
        | inr out ↦ rw out (omega arith)
      ])

pub reads_directly : ReadsDirectly
reads_directly g cols off len i up = direct g.k g cols off len i up

pub tests_due : TestsDue
tests_due low cuts = (
  (λ due.
      let f = some_is (find (λ j. nat_le (get_or low j 0) (get_or cuts j 0)) (range_with_len 0 16)) due in
      let high = (found_range (λ j. nat_le (get_or low j 0) (get_or cuts j 0)) 0 16 f.0 f.1).1 in
      (f.0, omega (arith, high), leb-true (get_or low f.0 0) (get_or cuts f.0 0) (found_passes (λ j. nat_le (get_or low j 0) (get_or cuts j 0)) 0 16 f.0 f.1))),
  (λ due. by (is_due low cuts) refl due),
) where
  by : (b : Bool) → is_due low cuts ≡ b → IsDue low cuts → is_due low cuts ≡ true
  by true e due = e
  by false e due =
      let none = none_found (λ j. nat_le (get_or low j 0) (get_or cuts j 0)) 0 16 (none_is (find (λ j. nat_le (get_or low j 0) (get_or cuts j 0)) (range_with_len 0 16)) e) due.0
      (omega arith) due.1 in
      absurd (let more = leb-false (get_or low due.0 0) (get_or cuts due.0 0) none in let less = due.2 in omega (arith, more, less))
