-- Steps after steps, rounds over the columns, and what reads were answered.
use Rattle.std.specs.Prelude.{◌↔◌, IfSome, IsNone, IsTrue, nat_lt}
use Rattle.std.proofs.Common.{cond, ◌≡◌, ℕ, ◌+◌, ◌<◌, ◌≤◌, List, [], ◌∷◌, ◌++◌, length, Bool, true, false, Some, None, refl, sym, ap, ◌∙◌, subst, inl, inr, arith}
use Rattle.std.proofs.lemmas.List.{length-append}
use Rattle.cod_types.specs.Limits.{segment_length}
use Rattle.cod_types.specs.Plain.{bytes_at}
use Rattle.cod_types.specs.declared.call.Call.TheVariants.{Read}
use Rattle.cod_types.specs.declared.call.Reply.TheVariants.{Bytes, Lost, Range}
use Rattle.cod_chronicle.specs.declared.entry.Entry.{Entry}
use Rattle.cod_chronicle.specs.declared.entry.Entry.TheVariants.{Call, Down}
use Rattle.cod_chronicle.specs.Legal.{IsAnswer, IsLegal, IsPlain, LegalAfter}
use Rattle.cod_chronicle.specs.Said.{bytes_of, is_over, numbers_by, Site}
use Rattle.cod_chronicle.proofs.Growth.{numbers_same}
use Rattle.cod_chronicle.proofs.Legality.{legal_right}
use Rattle.cod_seg.specs.Seg.{Col, col_at, Seg, with_col}
use Rattle.cod_seg.specs.Sound.{Sound}
use Rattle.cod_seg.specs.Steps.{Goes, goes, marks, stays, works}
use Rattle.cod_seg.specs.Runs.{GoesOn, ReadsArePlain, Runs, RunsOn, RunsStart}
use Rattle.cod_seg.proofs.Falling.{marks_keep}
use Rattle.cod_seg.proofs.Keeping.{col_there, works_keep}

pub goes_on : GoesOn
goes_on s t u before (stays v) = before
goes_on s t u before (goes a b c later step) = goes s b c (goes_on s a b before later) step

pub runs_start : RunsStart
runs_start from s sound = record {
  goes = stays s;
  sound = sound;
  site = refl;
  frail = refl;
  pools = refl;
  cuts = refl;
  claims = refl;
  version = refl;
  rebuild = refl;
  log = omega arith;
  numbers = λ who. refl;
  rest = λ j high. refl;
}

behind : (from m i j : ℕ) → i ≡ from + m → from + (m + 1) ≤ j → j ≡ i → ⊥
behind from m i j at high e = omega (arith, at, high, e)

-- one column more is changed, and the chronicle has these entries
changed : (from m i : ℕ) (s t u : Seg) (c : Col) (log : List Entry) → i ≡ from + m → Runs from m s t → Goes t u → Sound u → u ≡ record t { cols = with_col t.cols i c; log = log }
    → length log ≤ length t.log + 1 → ((who : ℕ) → numbers_by who log ≡ numbers_by who t.log) → Runs from (m + 1) s u
changed from m i s t u c log at run then sound becomes few numbers =
    let less = run.log in
    let long = ap (λ (x : Seg). length x.log) becomes in
    record {
      goes = goes_on s t u run.goes then;
      sound = sound;
      site = ap (λ (x : Seg). x.site) becomes ∙ run.site;
      frail = ap (λ (x : Seg). x.frail) becomes ∙ run.frail;
      pools = ap (λ (x : Seg). x.pools) becomes ∙ run.pools;
      cuts = ap (λ (x : Seg). x.cuts) becomes ∙ run.cuts;
      claims = ap (λ (x : Seg). x.claims) becomes ∙ run.claims;
      version = ap (λ (x : Seg). x.version) becomes ∙ run.version;
      rebuild = ap (λ (x : Seg). x.rebuild) becomes ∙ run.rebuild;
      log = omega (arith, less, long, few);
      numbers = λ who. ap (λ (x : Seg). numbers_by who x.log) becomes ∙ numbers who ∙ run.numbers who;
      rest = λ j high. ap (λ (x : Seg). col_at x.cols j) becomes ∙ col_there t.cols i j c (behind from m i j at high) ∙ run.rest j (omega (arith, high));
    }

pub runs_on : RunsOn
runs_on from m i s t u at below run (inl same) =
    let less = run.log in
    let long = ap (λ (x : Seg). length x.log) same in
    record {
      goes = subst (λ (x : Seg). Goes s x) (sym same) run.goes;
      sound = subst Sound (sym same) run.sound;
      site = ap (λ (x : Seg). x.site) same ∙ run.site;
      frail = ap (λ (x : Seg). x.frail) same ∙ run.frail;
      pools = ap (λ (x : Seg). x.pools) same ∙ run.pools;
      cuts = ap (λ (x : Seg). x.cuts) same ∙ run.cuts;
      claims = ap (λ (x : Seg). x.claims) same ∙ run.claims;
      version = ap (λ (x : Seg). x.version) same ∙ run.version;
      rebuild = ap (λ (x : Seg). x.rebuild) same ∙ run.rebuild;
      log = omega (arith, less, long);
      numbers = λ who. ap (λ (x : Seg). numbers_by who x.log) same ∙ run.numbers who;
      rest = λ j high. ap (λ (x : Seg). col_at x.cols j) same ∙ run.rest j (omega (arith, high));
    }
runs_on from m i s t u at below run (inr (inl w)) =
    let here : i < t.site.shape.n = rw run.site below in
    changed from m i s t u w.column t.log at run (goes t t u (stays t) (works i here w)) (works_keep t u i here run.sound w) w.becomes (omega arith) (λ who. refl)
runs_on from m i s t u at below run (inr (inr fall)) =
    let here : i < t.site.shape.n = rw run.site below in
    let e : Entry = Down fall.stamp i (col_at t.cols i).room.node fall.cause in
    let more = length-append t.log (e ∷ []) in
    changed from m i s t u fall.column (t.log ++ e ∷ []) at run (goes t t u (stays t) (marks i here fall)) (marks_keep t u i here run.sound fall) fall.becomes (omega (arith, more))
    (λ who. numbers_same who t.log e refl)

-- what a read was answered
plain_read : (told : Bool) (b : List ℕ) (off len : ℕ) (bytes : List ℕ) → told ≡ true → IsPlain told b (Read off len) (Bytes bytes) → bytes ≡ bytes_at b off len
plain_read true b off len bytes t is = cc
plain_read false b off len bytes t is = cc

read_plain : (site : Site) (before : List Entry) (off len : ℕ) (bytes : List ℕ) → site.told ≡ true → IsAnswer site before (Read off len) (Bytes bytes)
    → bytes ≡ bytes_at (bytes_of site before) off len
read_plain site before off len bytes told answer = by (nat_lt (segment_length site.shape) (off + len)) answer.refused answer.lost answer.served where
  over : (v : Bool) → (Bytes bytes ≡ Lost) ↔ (IsTrue v) → (v ≡ false → IsPlain site.told (bytes_of site before) (Read off len) (Bytes bytes)) → bytes ≡ bytes_at (bytes_of site before) off len
  over true lost served = (let e : Bytes bytes ≡ Lost = lost.1 refl in cc)
  over false lost served = plain_read site.told (bytes_of site before) off len bytes told (served refl)

  by : (o : Bool) → IfSome (cond o (Some Range) None) (λ r. Bytes bytes ≡ r) → (IsNone (cond o (Some Range) None) → (Bytes bytes ≡ Lost) ↔ (IsTrue (is_over site before)))
      → (IsNone (cond o (Some Range) None) → is_over site before ≡ false → IsPlain site.told (bytes_of site before) (Read off len) (Bytes bytes)) → bytes ≡ bytes_at (bytes_of site before) off len
  by true refused lost served = (let e : Bytes bytes ≡ Range = refused in cc)
  by false refused lost served = over (is_over site before) (lost refl) (served refl)

pub reads_are_plain : ReadsArePlain
reads_are_plain s before after caller number stamp off len bytes sound told is =
    let call : Entry = Call caller number stamp (Read off len) (Bytes bytes) in
    let legal : LegalAfter s.site [] (before ++ call ∷ after) = subst (IsLegal s.site) is sound.history.legal in
    read_plain s.site before off len bytes told (legal_right s.site [] before (call ∷ after) legal).0
