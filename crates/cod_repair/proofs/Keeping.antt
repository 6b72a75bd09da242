-- What reads leave of the columns.
use Rattle.std.proofs.Common.{◌≡◌, ◌≢◌, ℕ, zero, suc, ◌<◌, ◌≤◌, ◌&&◌, nat_lt, List, length, set, Bool, true, false, cond, refl, sym, ap, ◌∙◌, arith, inl, inr}
use Rattle.std.proofs.lemmas.Bool.{cases_eq, cases_lt, lt-ltb, le-ltb}
use Rattle.std.proofs.lemmas.List.{get_or-set_same, get_or-set_other}
use Rattle.cod_seg.specs.Seg.{Col, col_at, no_col}
use Rattle.cod_repair.specs.Columns.{faults_at, was_read, were_read}
use Rattle.cod_repair.specs.Laws.{ReadKeepsValue, WereReadAt}
use Rattle.cod_repair.proofs.Reading.{length-were_read, were_read_rest}

pub read_keeps_value : ReadKeepsValue
read_keeps_value c cuts kept value faults h = record {
  block = λ none. let b = h.block none in record { held = b.held; told = b.told; each = b.each };
  parity = λ some. let v = h.parity some in let s = v.holds in let m = s.means in record {
    pending = v.pending;
    holds = record {
      base = s.base;
      records = s.records;
      means = record { rest = m.rest; content = m.content; base_size = m.base_size; used = m.used; each = m.each; noted = m.noted };
      value_is = s.value_is;
      in_flight = s.in_flight;
    };
  };
}

at_here : (t : Bool) (cols old : List Col) (m : ℕ) (c : Col) → m < length cols → col_at cols m ≡ col_at old m → col_at (cond t (set cols m c) cols) m ≡ cond t c (col_at old m)
at_here true cols old m c within e = get_or-set_same cols m c no_col within
at_here false cols old m c within e = e

at_other : (t : Bool) (cols : List Col) (m i : ℕ) (c : Col) → i ≢ m → col_at (cond t (set cols m c) cols) i ≡ col_at cols i
at_other true cols m i c other = get_or-set_other cols m i c no_col other
at_other false cols m i c other = refl

test_same : (m i : ℕ) → i ≢ m → nat_lt i m ≡ nat_lt i (suc m)
test_same m i other = elim (cases_lt i m) [
  | inl low ↦ let high : i < suc m = omega arith in lt-ltb i m low ∙ sym (lt-ltb i (suc m) high)
  | inr from ↦ let past : suc m ≤ i = omega arith in le-ltb i m from ∙ sym (le-ltb i (suc m) past)
]

pub were_read_at : WereReadAt
were_read_at chosen cols zero i le = rw (le-ltb i 0 (omega arith)) refl
were_read_at chosen cols (suc m) i le =
    let c = was_read (faults_at cols m) (col_at cols m) in
    let within : m < length (were_read chosen cols m) = omega (arith, length-were_read chosen cols m) in
    elim (cases_eq i m) [
      | inl here ↦ let low : m < suc m = omega arith in
          rw (here, lt-ltb m (suc m) low) (at_here (chosen m) (were_read chosen cols m) cols m c within (were_read_rest chosen cols m m (omega arith)))
      | inr other ↦
          at_other (chosen m) (were_read chosen cols m) m i c other ∙ were_read_at chosen cols m i (omega arith)
          ∙ ap (λ (t : Bool). cond (t && chosen i) (was_read (faults_at cols i) (col_at cols i)) (col_at cols i)) (test_same m i other)
    ]
