-- The column that a loop is at, and what a loop over columns leaves.
use Rattle.std.proofs.Common.{◌≡◌, ℕ, ◌+◌, ◌<◌, ◌≤◌, Bool, true, List, length, take, drop, get_or, refl, sym, ap, subst, ◌∙◌, arith, set, ◌++◌, Option, Some, None}
use Rattle.std.proofs.Common.{Result, Ok, Err, inl, inr, Bor, MatchOption, MatchResult, IfErr}
use Rattle.std.proofs.lemmas.Bool.{cases_lt}
use Rattle.std.proofs.lemmas.List.{take_at, get_or_read}
use Rattle.cod_types.specs.Limits.{Shape}
use Rattle.cod_types.specs.Overwritten.{byte_of}
use Rattle.cod_types.specs.Faults.{Rose}
use Rattle.cod_data.specs.Values.{placed}
use Rattle.cod_seg.specs.Seg.{Col, col_at, no_col}
use Rattle.cod_repair.specs.declared.columns.ColumnFailed.{ColumnFailed}
use Rattle.cod_repair.specs.Columns.{failed_at, faults_at, HasValue, IsInside, IsMadeFor, IsReadable, was_read, were_read}
use Rattle.cod_repair.proofs.Reading.{failed_at_same, were_read_rest, were_read_same}

-- a claim's delta as a data column takes it, and as the claims tell it
pub kept_same : (r : Option (ℕ × Bor (List ℕ))) (k : Option (ℕ × List ℕ)) → MatchOption r (k ≡ None) (λ d. k ≡ Some (d.0, d.1.now)) → (x : ℕ) → byte_of (placed r) x ≡ byte_of k x
kept_same None k e x = rw e refl
kept_same (Some d) k e x = rw e refl

-- the same kept bytes, told otherwise
pub value_same : (c : Col) (cuts : List ℕ) (kept other v : ℕ → ℕ) → HasValue c cuts kept v → ((x : ℕ) → other x ≡ kept x) → HasValue c cuts other v
value_same c cuts kept other v h same = record {
  block = λ none. let d = h.block none in record { held = d.held; told = d.told; each = λ x small. rw (same x) (d.each x small) };
  parity = h.parity;
}

pub at_old : (chosen : ℕ → Bool) (old columns : List Col) (i : ℕ) (r : Col) → i < length columns → r ≡ get_or columns i r → columns ≡ were_read chosen old i → get_or columns i r ≡ col_at old i
at_old chosen old columns i r within is reads =
    sym is ∙ get_or_read columns i r within is no_col ∙ ap (λ (cs : List Col). col_at cs i) reads ∙ were_read_rest chosen old i i (omega arith)

pub same_from : (f : ℕ) (new a b : Col) → a ≡ b → new ≡ was_read f a → new ≡ was_read f b
same_from f new a b e h = h ∙ ap (was_read f) e

pub same_kept : (new a b : Col) → a ≡ b → new ≡ was_read new.state.device.faults a → new.state.device.faults ≡ a.state.device.faults → new ≡ was_read b.state.device.faults b
same_kept new a b e h kept = h ∙ ap (λ (f : ℕ). was_read f a) kept ∙ ap (λ (c : Col). was_read c.state.device.faults c) e

pub range_from : (off len s t : ℕ) (a b : Col) → a ≡ b → s ≡ t → IsReadable off len t b → IsReadable off len s a
range_from off len s t a b e size h = rw (e, size) h

pub inside_from : (off len : ℕ) (a b : Col) → a ≡ b → IsInside off len b → IsInside off len a
inside_from off len a b e h = rw e h

pub failed_reads : (chosen : ℕ → Bool) (old columns : List Col) (i col count : ℕ) (new : Col) → columns ≡ were_read chosen old i → new ≡ was_read new.state.device.faults (col_at old i)
    → col ≡ i → count ≡ new.state.device.faults → set columns i new ≡ failed_at chosen old col count
failed_reads chosen old columns i col count new reads same at risen =
    ap (λ (cs : List Col). set cs i new) reads ∙ ap (set (were_read chosen old i) i) (same ∙ ap (λ (f : ℕ). was_read f (col_at old i)) (sym risen))
    ∙ ap (λ (j : ℕ). failed_at chosen old j count) (sym at)

pub failed_cause : (chosen : ℕ → Bool) (old : List Col) (i col count now : ℕ) (a : Col) → col ≡ i → count ≡ now → i < length old → chosen i ≡ true → a ≡ col_at old i
    → Rose a.state.device.faults now → (col < length old) × (chosen col ≡ true) × Rose (faults_at old col) count
failed_cause chosen old i col count now a at risen within is e rose = rw (at, risen) (within, is, subst (λ (c : Col). Rose c.state.device.faults now) e rose)

-- ---- the columns of one geometry

pub readable : (g : Shape) (i : ℕ) (c : Col) (off len scratch : ℕ) → i < g.n → IsMadeFor g i c → off + len ≤ g.block → scratch ≡ g.block + g.reserve → IsReadable off len scratch c
readable g i c off len scratch among made inside room = record {
  block = λ none. elim (cases_lt i g.k) [
    | inl low ↦ made.block low ∙ ap (λ (s : Shape). s.block) (sym made.shape)
    | inr high ↦ let some = made.parity high in absurd (omega arith)
  ];
  inside = rw made.shape inside;
  scratch_size = rw made.shape (omega arith);
}

pub piece_reads : (e : Result (Unit {0}) ColumnFailed) (f g : ℕ → Bool) (old new : List Col) (n m : ℕ) → ((j : ℕ) → f j ≡ g j) → n ≡ m
    → MatchResult e (λ _. new ≡ were_read f old n) (λ x. new ≡ failed_at f old x.col x.count) → MatchResult e (λ _. new ≡ were_read g old m) (λ x. new ≡ failed_at g old x.col x.count)
piece_reads (Ok u) f g old new n m same size h = h ∙ were_read_same f g old n same ∙ ap (were_read g old) size
piece_reads (Err x) f g old new n m same size h = h ∙ failed_at_same f g old x.col x.count same

pub piece_cause : (e : Result (Unit {0}) ColumnFailed) (f g : ℕ → Bool) (old : List Col) (n m : ℕ) → ((j : ℕ) → f j ≡ g j) → n ≡ m
    → IfErr e (λ x. (x.col < n) × (f x.col ≡ true) × Rose (faults_at old x.col) x.count)
    → IfErr e (λ x. (x.col < m) × (g x.col ≡ true) × Rose (faults_at old x.col) x.count)
piece_cause (Ok u) f g old n m same size h = tt
piece_cause (Err x) f g old n m same size h = (rw (← size) h.0, sym (same x.col) ∙ h.1, h.2)

-- what was lent as a slice has what the slice was left with
pub given_whole : (n : ℕ) (new old : List ℕ) → length new ≡ n → take n (new ++ drop (length new) old) ≡ new
given_whole n new old size = ap (λ (m : ℕ). take m (new ++ drop (length new) old)) (sym size) ∙ take_at new (drop (length new) old) (length new) refl

pub given_columns : (n : ℕ) (new old : List Col) → length new ≡ n → take n (new ++ drop (length new) old) ≡ new
given_columns n new old size = ap (λ (m : ℕ). take m (new ++ drop (length new) old)) (sym size) ∙ take_at new (drop (length new) old) (length new) refl
