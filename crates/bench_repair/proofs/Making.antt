-- Columns that are made for a geometry stay so.
use Rattle.std.proofs.Common.{◌≡◌, ℕ, ◌+◌, ◌<◌, ◌≤◌, ◌&&◌, nat_lt, List, [], ◌∷◌, ◌++◌, length, set, Bool, true, false, cond, sym, ap, subst, ◌∙◌, arith, inl, inr, Result, Ok, Err, MatchResult, IfErr, length-set}
use Rattle.std.proofs.lemmas.Bool.{cases_eq, cases_lt}
use Rattle.std.proofs.lemmas.List.{length-append, get_or_append_left, get_or-set_same, get_or-set_other}
use Rattle.std.proofs.Math.Seq.{get_or-append_seam}
use Rattle.cod_types.specs.Faults.{Rose}
use Rattle.cod_types.specs.Limits.{Shape}
use Rattle.cod_seg.specs.Seg.{Col, col_at, no_col}
use Rattle.cod_repair.specs.declared.columns.ColumnFailed.{ColumnFailed}
use Rattle.cod_repair.specs.Columns.{failed_at, faults_at, IsMadeFor, was_read, were_read}
use Rattle.cod_repair.proofs.Keeping.{were_read_at}
use Rattle.cod_repair.proofs.Reading.{length-were_read}

abbrev pub AllMade : Shape → ℕ → List Col → Type 0
AllMade g m cols = (i : ℕ) → i < m → IsMadeFor g i (col_at cols i)

pub pushed : (g : Shape) (cols : List Col) (c : Col) (m : ℕ) → length cols ≡ m → IsMadeFor g m c → AllMade g m cols → AllMade g (m + 1) (cols ++ c ∷ [])
pushed g cols c m size made all i lt = elim (cases_lt i m) [
  | inl low ↦ let within : i < length cols = omega arith in
      subst (IsMadeFor g i) (sym (get_or_append_left cols (c ∷ []) no_col i within)) (all i low)
  | inr from ↦
      let last : i ≡ m = omega arith in
      let at : col_at (cols ++ c ∷ []) i ≡ c = ap (col_at (cols ++ c ∷ [])) (last ∙ sym size) ∙ get_or-append_seam cols c [] no_col in
      rw (at, last) made
]

-- a column that went down, or was read
replaced : (g : Shape) (cols : List Col) (j m : ℕ) (c : Col) → j < length cols → (j < m → IsMadeFor g j c) → AllMade g m cols → AllMade g m (set cols j c)
replaced g cols j m c within made all i lt = elim (cases_eq i j) [
  | inl here ↦
      let low : j < m = omega arith in
      let at : col_at (set cols j c) i ≡ c = ap (col_at (set cols j c)) here ∙ get_or-set_same cols j c no_col within in
      rw (at, here) (made low)
  | inr other ↦ subst (IsMadeFor g i) (sym (get_or-set_other cols j i c no_col other)) (all i lt)
]

pub went_down : (g : Shape) (cols : List Col) (m : ℕ) → 0 < length cols → AllMade g m cols → AllMade g m (set cols 0 (record (col_at cols 0) { is_up = false }))
went_down g cols m within all =
    replaced g cols 0 m (record (col_at cols 0) { is_up = false }) within
    (λ lt. let h = all 0 lt in record { shape = h.shape; bare = h.bare; block = h.block; parity = h.parity }) all

read_once : (g : Shape) (i faults : ℕ) (c : Col) → IsMadeFor g i c → IsMadeFor g i (was_read faults c)
read_once g i faults c h = record { shape = h.shape; bare = h.bare; block = h.block; parity = h.parity }

were_made : (g : Shape) (f : ℕ → Bool) (cols : List Col) (m n : ℕ) → n ≤ length cols → AllMade g m cols → AllMade g m (were_read f cols n)
were_made g f cols m n le all i lt =
    subst (IsMadeFor g i) (sym (were_read_at f cols n i le)) (either (nat_lt i n && f i))
  where
    either : (t : Bool) → IsMadeFor g i (cond t (was_read (faults_at cols i) (col_at cols i)) (col_at cols i))
    either true = read_once g i (faults_at cols i) (col_at cols i) (all i lt)
    either false = all i lt

-- after a piece
pub length-pieced : (e : Result (Unit {0}) ColumnFailed) (f : ℕ → Bool) (old new : List Col) (n : ℕ)
    → MatchResult e (λ _. new ≡ were_read f old n) (λ x. new ≡ failed_at f old x.col x.count) → length new ≡ length old
length-pieced (Ok u) f old new n reads = ap length reads ∙ length-were_read f old n
length-pieced (Err x) f old new n reads =
    ap length reads ∙ length-set (were_read f old x.col) x.col (was_read x.count (col_at old x.col)) ∙ length-were_read f old x.col

pub pieced : (e : Result (Unit {0}) ColumnFailed) (g : Shape) (f : ℕ → Bool) (old new : List Col) (m n : ℕ) → length old ≡ n
    → MatchResult e (λ _. new ≡ were_read f old n) (λ x. new ≡ failed_at f old x.col x.count)
    → IfErr e (λ x. (x.col < n) × (f x.col ≡ true) × Rose (faults_at old x.col) x.count) → AllMade g m old → AllMade g m new
pieced (Ok u) g f old new m n size reads cause all = rw reads (were_made g f old m n (omega arith) all)
pieced (Err x) g f old new m n size reads cause all =
    let low : x.col < n = cause.0 in
    let within : x.col < length (were_read f old x.col) = omega (arith, length-were_read f old x.col) in
    rw reads (replaced g (were_read f old x.col) x.col m (was_read x.count (col_at old x.col)) within
    (λ lt. read_once g x.col x.count (col_at old x.col) (all x.col lt))
    (were_made g f old m x.col (omega arith) all))

pub pushed_count : (cols : List Col) (c : Col) (m : ℕ) → length cols ≡ m → length (cols ++ c ∷ []) ≡ m + 1
pushed_count cols c m size = omega (arith, length-append cols (c ∷ []))
