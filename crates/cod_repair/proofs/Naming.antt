-- One column is worked on, and its failure is named.
use Rattle.std.proofs.Common.{◌≡◌, ℕ, ◌<◌, List, length, get_or, set, true, false, sym, ap, ◌∙◌, Result, Ok, Err, OnOk, OnErr, MatchResult}
use Rattle.std.specs.Prelude.{is_err}
use Rattle.std.proofs.lemmas.List.{get_or_read, get_or-set_same}
use Rattle.cod_types.specs.declared.errors.Failed.{Failed}
use Rattle.cod_types.specs.Faults.{HasCause}
use Rattle.cod_seg.specs.Seg.{Col, col_at, no_col}
use Rattle.cod_repair.specs.declared.columns.ColumnFailed.{ColumnFailed}
use Rattle.cod_repair.specs.Columns.{faults_at, IsTold}

pub old_col : (items now : List Col) (i : ℕ) (r : Col) → i < length items → r ≡ get_or items i r → items ≡ now → r ≡ col_at now i
old_col items now i r within is same = get_or_read items i r within is no_col ∙ ap (λ (cs : List Col). col_at cs i) same

pub new_col : (items : List Col) (i : ℕ) (c : Col) → i < length items → col_at (set items i c) i ≡ c
new_col items i c within = get_or-set_same items i c no_col within

-- what holds where a call failed, and where it didn't
pub err_only : {T E : Type 0} (r : Result T E) (P : T → Type 0) {Q : Type 0} → is_err r ≡ true → MatchResult r P (λ x. Q) → Q
err_only (Ok x) P is m = absurd (cc)
err_only (Err x) P is m = m

pub ok_only : {T E : Type 0} (r : Result T E) {P : Type 0} (Q : E → Type 0) → is_err r ≡ false → MatchResult r (λ x. P) Q → P
ok_only (Ok x) Q is m = m
ok_only (Err x) Q is m = absurd (cc)

pub ok_of : {T E : Type 0} (r : Result T E) {P : Type 0} → is_err r ≡ false → OnOk r P → P
ok_of (Ok x) is p = p
ok_of (Err x) is p = absurd (cc)

err_of : {T E : Type 0} (r : Result T E) {P : Type 0} → is_err r ≡ true → OnErr r P → P
err_of (Ok x) is p = absurd (cc)
err_of (Err x) is p = p

pub told_err : {T U : Type 0} (r : Result U Failed) (i : ℕ) (old new : List Col) (a b : Col) (f : ColumnFailed) → a ≡ col_at old i → col_at new i ≡ b → is_err r ≡ true
    → HasCause a.state.device.faults b.state.device.faults r → f ≡ record { col = i; count = b.state.device.faults } → IsTold {T = T} i old new (Err f)
told_err r i old new a b f before after is cause named =
    let was : a.state.device.faults ≡ faults_at old i = ap (λ (c : Col). c.state.device.faults) before in
    let now : faults_at new i ≡ b.state.device.faults = ap (λ (c : Col). c.state.device.faults) after in
    record {
      cause = record {
        later = rw (← was, now) cause.later;
        failed = rw (← was, now) (err_of r is cause.failed);
        kept = tt;
      };
      named = (ap (λ (e : ColumnFailed). e.col) named, ap (λ (e : ColumnFailed). e.count) named ∙ sym now);
    }

pub told_ok : {T U : Type 0} (r : Result U Failed) (x : T) (i : ℕ) (old new : List Col) (a b : Col) → a ≡ col_at old i → col_at new i ≡ b → is_err r ≡ false
    → HasCause a.state.device.faults b.state.device.faults r → IsTold {T = T} i old new (Ok x)
told_ok r x i old new a b before after is cause =
    let was : a.state.device.faults ≡ faults_at old i = ap (λ (c : Col). c.state.device.faults) before in
    let now : faults_at new i ≡ b.state.device.faults = ap (λ (c : Col). c.state.device.faults) after in
    record {
      cause = record { later = rw (← was, now) cause.later; failed = tt; kept = now ∙ ok_of r is cause.kept ∙ was };
      named = tt;
    }
