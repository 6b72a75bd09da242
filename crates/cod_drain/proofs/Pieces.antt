-- A live column is read, and its bytes are written on a target.
use Rattle.std.proofs.Common.{◌≡◌, ℕ, zero, suc, ◌+◌, ◌-◌, ◌*◌, ◌<◌, ◌≤◌, ◌^◌, min, List, length, get_or, true, Option, Some, None, inl, inr, refl, sym, ap, ◌∙◌, subst, arith}
use Rattle.std.specs.Option.{option_map}
use Rattle.std.specs.Prelude.{IsOk, Result, Ok, Err}
use Rattle.std.proofs.lemmas.Bool.{cases_lt}
use Rattle.std.proofs.lemmas.List.{get_or-set_same, length-set, set-get_or, set-set}
use Rattle.cod_types.specs.Faults.{bump, grown, Rose}
use Rattle.cod_types.specs.Limits.{Shape}
use Rattle.cod_types.specs.Overwritten.{overwritten}
use Rattle.cod_types.proofs.Replaced.{byte_before, byte_in, get_or-overwritten}
use Rattle.cod_seg.specs.Calls.{piece_count}
use Rattle.cod_seg.specs.Seg.{Col, col_at, no_col, Seg, Target, with_col}
use Rattle.cod_repair.specs.Columns.{faults_at, HasValue, IsFull, IsMadeFor, IsTold, state_at}
use Rattle.cod_repair.specs.Pieces.{kept_byte}
use Rattle.cod_repair.specs.declared.columns.ColumnFailed.{ColumnFailed}
use Rattle.cod_drain.specs.Copies.{FailsCopy, FailsRead, HasBytes, KeepsGoal, read_times, WasRead, with_faults}
use Rattle.cod_drain.specs.declared.copying.CopyFailed.{CopyFailed}
use Rattle.cod_drain.specs.declared.copying.CopyFailed.TheVariants.{Old, New}

-- ---- a column after some reads

pub grown_more : (a b n : ℕ) → grown b (grown a n) ≡ grown (a + b) n
grown_more a zero n = let e : a + 0 ≡ a = omega arith in rw e refl
grown_more a (suc b) n = let e : a + suc b ≡ suc (a + b) = omega arith in rw e (ap bump (grown_more a b n))

pub read_more : (a b : ℕ) (c : Col) → read_times b (read_times a c) ≡ read_times (a + b) c
read_more a b c =
    ap (λ (n : ℕ). record c { state = record c.state { device = record c.state.device { reads = n } } }) (grown_more a b c.state.device.reads)

pub here : (s u : Seg) (i : ℕ) (c : Col) → i < length s.cols → u ≡ record s { cols = with_col s.cols i c } → col_at u.cols i ≡ c
here s u i c below becomes = ap (λ (x : Seg). col_at x.cols i) becomes ∙ get_or-set_same s.cols i c no_col below

pub read_none : (i : ℕ) (s : Seg) → WasRead i 0 s s
read_none i s = ap (λ (cols : List Col). record s { cols = cols }) (sym (set-get_or s.cols i no_col))

-- columns with another one in a place, and then with another there
pub twice : (i : ℕ) (s t : Seg) (c d : Col) → t ≡ record s { cols = with_col s.cols i c } → record t { cols = with_col t.cols i d } ≡ record s { cols = with_col s.cols i d }
twice i s t c d first = ap (λ (x : Seg). record x { cols = with_col x.cols i d }) first ∙ ap (λ (cols : List Col). record s { cols = cols }) (set-set s.cols i c d)

pub was_read_on : (i a b : ℕ) (s t u : Seg) → i < length s.cols → WasRead i a s t → WasRead i b t u → WasRead i (a + b) s u
was_read_on i a b s t u below first then_ =
    let at = here s t i (read_times a (col_at s.cols i)) below first in
    then_ ∙ ap (λ (c : Col). record t { cols = with_col t.cols i (read_times b c) }) at
    ∙ twice i s t (read_times a (col_at s.cols i)) (read_times b (read_times a (col_at s.cols i))) first
    ∙ ap (λ (c : Col). record s { cols = with_col s.cols i c }) (read_more a b (col_at s.cols i))

pub fails_on : (i a : ℕ) (e : ColumnFailed) (s t u : Seg) → i < length s.cols → WasRead i a s t → FailsRead i e t u → FailsRead i e s u
fails_on i a e s t u below first fails =
    let c = col_at s.cols i in
    let at = here s t i (read_times a c) below first in
    record {
      times = a + fails.times;
      named = fails.named;
      some = fails.some;
      unsure = λ sure. fails.unsure (ap (λ (x : Col). x.state.device.never_fails) at ∙ sure);
      becomes = fails.becomes ∙ ap (λ (x : Col). record t { cols = with_col t.cols i (with_faults e.count (read_times fails.times x)) }) at
          ∙ twice i s t (read_times a c) (with_faults e.count (read_times fails.times (read_times a c))) first
          ∙ ap (λ (x : Col). record s { cols = with_col s.cols i (with_faults e.count x) }) (read_more a fails.times c);
    }

pub value_read : (times : ℕ) (c : Col) (cuts : List ℕ) (kept value : ℕ → ℕ) → HasValue c cuts kept value → HasValue (read_times times c) cuts kept value
value_read times c cuts kept value h = record {
  block = λ none. let b = h.block none in record { held = b.held; told = b.told; each = b.each };
  parity = λ some. let v = h.parity some in let s = v.holds in let m = s.means in record {
    pending = v.pending;
    holds = record {
      base = s.base;
      records = s.records;
      means = record { rest = m.rest; content = m.content; base_size = m.base_size; used = m.used; each = m.each; noted = m.noted };
      value_is = s.value_is;
      in_flight = s.in_flight;
    };
  };
}

pub made_read : (g : Shape) (i times : ℕ) (c : Col) → IsMadeFor g i c → IsMadeFor g i (read_times times c)
made_read g i times c made = record { shape = made.shape; bare = made.bare; block = made.block; parity = made.parity }

-- few counts stop nowhere
pub grown_few : (n : ℕ) → n < 2 ^ 64 - 1 → grown n 0 ≡ n
grown_few zero few = refl
grown_few (suc n) few = let before = grown_few n (omega (arith, few)) in omega (arith, before, few)

-- ---- one read

at_least : (before now : ℕ) → Rose before now → 1 ≤ now
at_least before now rose = omega (arith, rose)

-- of a read that was answered with bytes
pub read_done : (i : ℕ) (s u : Seg) (result : Result Unit ColumnFailed) → result ≡ Ok tt → u ≡ record s { cols = with_col s.cols i (with_faults (faults_at u.cols i) (read_times 1 (col_at s.cols i))) }
    → IsTold i s.cols u.cols result → WasRead i 1 s u
read_done i s u result is becomes told =
    let kept : faults_at u.cols i ≡ faults_at s.cols i = let t = subst (IsTold i s.cols u.cols) is told in t.cause.kept in
    becomes ∙ ap (λ (n : ℕ). record s { cols = with_col s.cols i (with_faults n (read_times 1 (col_at s.cols i))) }) kept

pub read_failed : (i : ℕ) (s u : Seg) (e : ColumnFailed) (result : Result Unit ColumnFailed) → result ≡ Err e
    → u ≡ record s { cols = with_col s.cols i (with_faults (faults_at u.cols i) (read_times 1 (col_at s.cols i))) }
    → IsTold i s.cols u.cols result → ((state_at s.cols i).device.never_fails ≡ true → IsOk result) → FailsRead i e s u
read_failed i s u e result is becomes told sure =
    let t = subst (IsTold i s.cols u.cols) is told in
    let counted = t.named.1 in
    record {
      times = 1;
      named = t.named.0;
      some = at_least (faults_at s.cols i) e.count (subst (Rose (faults_at s.cols i)) (sym counted) t.cause.failed);
      unsure = λ never. let wrong = subst IsOk is (sure never) in cc;
      becomes = becomes ∙ ap (λ (n : ℕ). record s { cols = with_col s.cols i (with_faults n (read_times 1 (col_at s.cols i))) }) (sym counted);
    }

-- ---- bytes that are written behind others

pub filled_has : (v : ℕ → ℕ) (t u : Target) (piece : List ℕ) → IsFull t.device → t.filled + length piece ≤ t.device.size
    → u.device.content ≡ option_map (overwritten t.filled piece) t.device.content → u.filled ≡ t.filled + length piece
    → ((x : ℕ) → x < length piece → get_or piece x 0 ≡ v (t.filled + x)) → HasBytes v t → HasBytes v u
filled_has v t u piece full fits content filled each has held told x lt = by t.device.content refl content where
  by : (o : Option (List ℕ)) → t.device.content ≡ o → u.device.content ≡ option_map (overwritten t.filled piece) o → get_or held x 0 ≡ v x
  by None at is = (let wrong : Some held ≡ None = sym told ∙ is in cc)
  by (Some before) at is =
      let now : held ≡ overwritten t.filled piece before = (let e : Some held ≡ Some (overwritten t.filled piece before) = sym told ∙ is in cc) in
      let long = full before at in
      let room : t.filled + length piece ≤ length before = omega (arith, long, fits) in
      ap (λ (bytes : List ℕ). get_or bytes x 0) now ∙ get_or-overwritten t.filled piece before x room
      ∙ elim (cases_lt x t.filled) [
        | inl low ↦ byte_before x (get_or before x 0) t.filled piece low ∙ has before at x low
        | inr high ↦
            let inside : x < t.filled + length piece = omega (arith, filled, lt) in
            let back : t.filled + (x - t.filled) ≡ x = omega (arith, high) in
            byte_in x (get_or before x 0) t.filled piece high inside ∙ each (x - t.filled) (omega (arith, high, inside)) ∙ ap v back
      ]

-- ---- piece by piece

-- the column was read for each piece that is there
pub record IsCopying (g : Shape) (i : ℕ) (s u : Seg) (t v : Target) : Type 0 where
  pub times : ℕ
  pub read : WasRead i times s u
  pub filled : v.filled ≡ min (4096 * times) g.block
  pub less : 4096 * times < g.block + 4096
  pub written : v.device.writes ≡ grown times t.device.writes
  pub keeps : KeepsGoal t v
  pub below : i < length u.cols
  pub made : IsMadeFor g i (col_at u.cols i)
  pub bytes : (value : ℕ → ℕ) → HasValue (col_at s.cols i) s.cuts (kept_byte s.claims i) value → HasBytes value v

pub keeps_same : (t : Target) → IsFull t.device → KeepsGoal t t
keeps_same t full = record { room = refl; size = refl; reads = refl; faults = refl; never_fails = refl; tells = refl; full = full }

pub keeps_on : (t u v : Target) → KeepsGoal t u → KeepsGoal u v → KeepsGoal t v
keeps_on t u v first then_ = record {
  room = then_.room ∙ first.room;
  size = then_.size ∙ first.size;
  reads = then_.reads ∙ first.reads;
  faults = then_.faults ∙ first.faults;
  never_fails = then_.never_fails ∙ first.never_fails;
  tells = then_.tells ∙ first.tells;
  full = then_.full;
}

pub copying_starts : (g : Shape) (i : ℕ) (s : Seg) (t : Target) → i < length s.cols → IsMadeFor g i (col_at s.cols i) → IsFull t.device → t.filled ≡ 0 → IsCopying g i s s t t
copying_starts g i s t below made full fresh = record {
  times = 0;
  read = read_none i s;
  filled = omega (arith, fresh);
  less = omega arith;
  written = refl;
  keeps = keeps_same t full;
  below = below;
  made = made;
  bytes = λ value has held told x lt. absurd (omega (arith, fresh, lt));
}

pub copying_on : (g : Shape) (i len : ℕ) (s u w : Seg) (t v z : Target) → i < length s.cols → IsCopying g i s u t v → v.filled < g.block → len ≡ min 4096 (g.block - v.filled)
    → WasRead i 1 u w → KeepsGoal v z → z.filled ≡ v.filled + len → z.device.writes ≡ bump v.device.writes
    → ((value : ℕ → ℕ) → HasValue (col_at u.cols i) u.cuts (kept_byte u.claims i) value → HasBytes value v → HasBytes value z) → IsCopying g i s w t z
copying_on g i len s u w t v z below is more long read keeps filled written bytes =
    let c = col_at s.cols i in
    let at = here s u i (read_times is.times c) below is.read in
    let then_ = here u w i (read_times 1 (col_at u.cols i)) is.below read in
    let was = is.filled in
    let wide = ap (λ (x : Seg). length x.cols) read ∙ length-set u.cols i (read_times 1 (col_at u.cols i)) in
    let room = is.below in
    record {
      times = is.times + 1;
      read = was_read_on i is.times 1 s u w below is.read read;
      filled = omega (arith, was, more, long, filled);
      less = omega (arith, was, more);
      written = written ∙ ap bump is.written ∙ grown_more is.times 1 t.device.writes;
      keeps = keeps_on t v z is.keeps keeps;
      below = omega (arith, wide, room);
      made = subst (IsMadeFor g i) (sym then_) (made_read g i 1 (col_at u.cols i) is.made);
      bytes = λ value has.
          let now : HasValue (col_at u.cols i) s.cuts (kept_byte s.claims i) value = subst (λ (x : Col). HasValue x s.cuts (kept_byte s.claims i) value) (sym at)
          (value_read is.times c s.cuts (kept_byte s.claims i) value has) in
          let cut = ap (λ (x : Seg). x.cuts) is.read in
          let claims = ap (λ (x : Seg). x.claims) is.read in
          bytes value (rw (cut, claims) now) (is.bytes value has);
    }

pub copied_all : (g : Shape) (i : ℕ) (s u : Seg) (t v : Target) → IsCopying g i s u t v → g.block ≤ v.filled → WasRead i (piece_count g) s u × KeepsGoal t v × (v.filled ≡ g.block) × (v.device.writes ≡ grown (piece_count g) t.device.writes)
copied_all g i s u t v is whole =
    let was = is.filled in
    let less = is.less in
    let all : is.times ≡ piece_count g = omega (arith, was, less, whole) in
    (subst (λ (n : ℕ). WasRead i n s u) all is.read, is.keeps, omega (arith, was, whole), is.written ∙ ap (λ (n : ℕ). grown n t.device.writes) all)

pub copy_fails : (g : Shape) (i : ℕ) (e : CopyFailed) (s u w : Seg) (t v z : Target) → i < length s.cols → IsCopying g i s u t v → FailsCopy i e u w v z → FailsCopy i e s w t z
copy_fails g i (Old e) s u w t v z below is fails = (fails_on i is.times e s u w below is.read fails.0, fails.1 ∙ is.keeps.room)
copy_fails g i New s u w t v z below is fails =
    let b = fails.2 in (
      is.times + fails.0,
      was_read_on i is.times fails.0 s u w below is.read fails.1,
      record { room = b.room ∙ is.keeps.room; some = b.some; unsure = λ sure. b.unsure (is.keeps.never_fails ∙ sure) },
    )
