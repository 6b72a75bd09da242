-- The columns after their bytes were fetched.
use Rattle.std.proofs.Common.{◌≡◌, ℕ, ◌<◌, ◌&&◌, Bool, true, false, List, length, Option, Some, None, Bor, cond, sym, ap, ap₂, subst, ◌∙◌, arith}
use Rattle.std.specs.Prelude.{IfNone, is_some, not}
use Rattle.std.proofs.lemmas.Bool.{lt-ltb}
use Rattle.cod_claims.specs.declared.claim.Claim.{Claim}
use Rattle.cod_seg.specs.Seg.{Col, col_at}
use Rattle.cod_repair.specs.Columns.{faults_at, HasValue, IsInside, IsPlain, IsReadable, was_read, were_read}
use Rattle.cod_repair.specs.Pieces.{kept_byte}
use Rattle.cod_repair.proofs.Keeping.{read_keeps_value, were_read_at}

-- what can be read is inside
pub readable_inside : (off len scratch : ℕ) (c : Col) → IsReadable off len scratch c → IsInside off len c
readable_inside off len scratch c h = record { block = h.block; inside = h.inside }

-- a chosen column has one read more
fetched_at : (chosen : ℕ → Bool) (old : List Col) (i : ℕ) → i < length old → chosen i ≡ true
    → col_at (were_read chosen old (length old)) i ≡ was_read (faults_at old i) (col_at old i)
fetched_at chosen old i within is =
    were_read_at chosen old (length old) i (omega arith)
    ∙ ap (λ (t : Bool). cond t (was_read (faults_at old i) (col_at old i)) (col_at old i))
    (ap₂ (λ (a b : Bool). a && b) (lt-ltb i (length old) within) is)

-- and is otherwise as it was
module _ (chosen : ℕ → Bool) (old new : List Col) (i : ℕ) (reads : new ≡ were_read chosen old (length old)) (within : i < length old) (is : chosen i ≡ true) where
  now_at : col_at new i ≡ was_read (faults_at old i) (col_at old i)
  now_at = ap (λ (cs : List Col). col_at cs i) reads ∙ fetched_at chosen old i within is

  pub fetched_inside : (off len : ℕ) → IsInside off len (col_at old i) → IsInside off len (col_at new i)
  fetched_inside off len h = subst (λ (c : Col). IsInside off len c) (sym now_at) (record { block = h.block; inside = h.inside })

  pub fetched_plain : (kept : ℕ → ℕ) → IsPlain (col_at old i) kept → IsPlain (col_at new i) kept
  fetched_plain kept h = subst (λ (c : Col). IsPlain c kept) (sym now_at) (record { bare = h.bare; no_record = h.no_record })

  pub fetched_value : (cuts : List ℕ) (kept value : ℕ → ℕ) → HasValue (col_at old i) cuts kept value → HasValue (col_at new i) cuts kept value
  fetched_value cuts kept value h =
      subst (λ (c : Col). HasValue c cuts kept value) (sym now_at) (read_keeps_value (col_at old i) cuts kept value (faults_at old i) h)

-- ---- whether columns are plain

pub none_kept : (r : Option (ℕ × Bor (List ℕ))) (P : Type 0) (t : Bool) → IfNone r P → is_some r ≡ not t → t ≡ true → P
none_kept None P t h e none = h
none_kept (Some d) P t h e none = let both : true ≡ false = e ∙ ap not none in cc

pub plain_at : (cols : List Col) (claims : List (Option Claim)) (i m : ℕ) (c : Col) → i ≡ m → c ≡ col_at cols i → IsPlain c (kept_byte claims i)
    → IsPlain (col_at cols m) (kept_byte claims m)
plain_at cols claims i m c here is h = subst (λ (j : ℕ). IsPlain (col_at cols j) (kept_byte claims j)) here (subst (λ (d : Col). IsPlain d (kept_byte claims i)) is h)
