-- The columns after reads.
use Rattle.std.proofs.Common.{◌≡◌, ◌≢◌, ℕ, zero, suc, ◌+◌, ◌≤◌, List, length, set, Bool, true, false, cond, refl, sym, ap, ◌∙◌, arith, add-one, length-set}
use Rattle.std.proofs.lemmas.List.{get_or-set_other}
use Rattle.cod_seg.specs.Seg.{Col, col_at, no_col}
use Rattle.cod_repair.specs.Columns.{faults_at, was_read, were_read, failed_at}

stepped : (t : Bool) (cols : List Col) (m : ℕ) (c : Col) → length (cond t (set cols m c) cols) ≡ length cols
stepped true cols m c = length-set cols m c
stepped false cols m c = refl

pub length-were_read : (chosen : ℕ → Bool) (cols : List Col) (m : ℕ) → length (were_read chosen cols m) ≡ length cols
length-were_read chosen cols zero = refl
length-were_read chosen cols (suc m) =
    stepped (chosen m) (were_read chosen cols m) m (was_read (faults_at cols m) (col_at cols m)) ∙ length-were_read chosen cols m

kept_at : (t : Bool) (cols : List Col) (m j : ℕ) (c : Col) → j ≢ m → col_at (cond t (set cols m c) cols) j ≡ col_at cols j
kept_at true cols m j c other = get_or-set_other cols m j c no_col other
kept_at false cols m j c other = refl

-- the columns from m on are as they were
pub were_read_rest : (chosen : ℕ → Bool) (cols : List Col) (m j : ℕ) → m ≤ j → col_at (were_read chosen cols m) j ≡ col_at cols j
were_read_rest chosen cols zero j h = refl
were_read_rest chosen cols (suc m) j h =
    let other : j ≢ m = omega arith in
    kept_at (chosen m) (were_read chosen cols m) m j (was_read (faults_at cols m) (col_at cols m)) other ∙ were_read_rest chosen cols m j (omega arith)

-- one chosen column more
pub were_read_more : (chosen : ℕ → Bool) (cols : List Col) (m : ℕ) (c : Col) → chosen m ≡ true → c ≡ was_read (faults_at cols m) (col_at cols m)
    → set (were_read chosen cols m) m c ≡ were_read chosen cols (m + 1)
were_read_more chosen cols m c is e = rw (add-one m, e) (sym (rw is refl))

-- one that isn't chosen
pub were_read_skip : (chosen : ℕ → Bool) (cols : List Col) (m : ℕ) → chosen m ≡ false → were_read chosen cols m ≡ were_read chosen cols (m + 1)
were_read_skip chosen cols m is = rw (add-one m) (sym (rw is refl))

pub were_read_same : (f g : ℕ → Bool) (cols : List Col) (m : ℕ) → ((j : ℕ) → f j ≡ g j) → were_read f cols m ≡ were_read g cols m
were_read_same f g cols zero same = refl
were_read_same f g cols (suc m) same = rw (same m, were_read_same f g cols m same) refl

pub failed_at_same : (f g : ℕ → Bool) (cols : List Col) (m faults : ℕ) → ((j : ℕ) → f j ≡ g j) → failed_at f cols m faults ≡ failed_at g cols m faults
failed_at_same f g cols m faults same = ap (λ (cs : List Col). set cs m (was_read faults (col_at cols m))) (were_read_same f g cols m same)
