-- The log of records, one record after another.
use Rattle.std.proofs.Common.{◌≡◌, ℕ, ◌+◌, ◌<◌, ◌≤◌, List, [], ◌∷◌, ◌++◌, length, take, drop, get_or, refl, sym, ap, ◌∙◌, arith, bit_xor, cond, Some, Ok, Result}
use Rattle.std.specs.Option.{unwrap_or}
use Rattle.std.specs.Int.Bits.{xor_zero_r}
use Rattle.std.specs.Result.{result_ok}
use Rattle.cod_record.specs.declared.parts.NotARecord.{NotARecord}
use Rattle.cod_record.specs.Reading.{BeginsRecord, found_of, IsFound}
use Rattle.std.specs.List.{flat_map, filter}
use Rattle.std.proofs.lemmas.Bool.{lt-ltb, le-ltb}
use Rattle.std.proofs.lemmas.List.{append-nil, take_at, drop_at, drop-drop, length-take-le}
use Rattle.cod_record.specs.Record.{IsRecord, range_byte, record_text}
use Rattle.cod_record.specs.declared.parts.Found.{Found}
use Rattle.cod_record.proofs.Texts.{text_is}
use Rattle.cod_parity.specs.Log.{Logged, text, is_past, share}

pub text_of : (l : Logged) → text l ≡ record_text l.version l.whole
unfolding text
text_of l = refl

-- a record's text isn't empty
pub text_some : (l : Logged) → 0 < length (text l)
text_some l = omega (arith, ap length (text_of l ∙ text_is l.version l.whole))

-- a record's text at the front is a record
pub front : (bytes rest : List ℕ) (l : Logged) → IsRecord l.version l.whole (text l) → bytes ≡ text l ++ rest
    → IsRecord l.version l.whole (take (length (text l)) bytes)
front bytes rest l is front_is =
    let same : take (length (text l)) bytes ≡ text l = ap (λ (b : List ℕ). take (length (text l)) b) front_is ∙ take_at (text l) rest (length (text l)) refl in
    rw same is

-- the whole text
pub text_at : (log rest : List ℕ) (l : Logged) (at n : ℕ) → n ≡ length (text l) → drop at log ≡ text l ++ rest
    → (take n (drop at log) ≡ text l) × (drop (at + n) log ≡ rest)
text_at log rest l at n len is = (
  ap (λ (b : List ℕ). take n b) is ∙ take_at (text l) rest n (sym len),
  sym (drop-drop n at log) ∙ ap (λ (b : List ℕ). drop n b) is ∙ drop_at (text l) rest n (sym len),
)

pub share_past : (cuts : List ℕ) (l : Logged) (x : ℕ) → get_or cuts l.whole.block 0 < l.whole.number → share cuts l x ≡ 0
unfolding share
share_past cuts l x past = ap (λ b. cond b 0 (range_byte l.whole.ranges x)) (lt-ltb (get_or cuts l.whole.block 0) l.whole.number past)

pub share_in : (cuts : List ℕ) (l : Logged) (x : ℕ) → l.whole.number ≤ get_or cuts l.whole.block 0 → share cuts l x ≡ range_byte l.whole.ranges x
unfolding share
share_in cuts l x within = ap (λ b. cond b 0 (range_byte l.whole.ranges x)) (le-ltb (get_or cuts l.whole.block 0) l.whole.number within)

-- a record past the cut is kept, and another one isn't
pub kept_past : (cuts : List ℕ) (l : Logged) (ls : List Logged) → get_or cuts l.whole.block 0 < l.whole.number → filter (is_past cuts) (l ∷ ls) ≡ l ∷ filter (is_past cuts) ls
kept_past cuts l ls past = ap (λ b. cond b (l ∷ filter (is_past cuts) ls) (filter (is_past cuts) ls)) (lt-ltb (get_or cuts l.whole.block 0) l.whole.number past)

pub kept_in : (cuts : List ℕ) (l : Logged) (ls : List Logged) → l.whole.number ≤ get_or cuts l.whole.block 0 → filter (is_past cuts) (l ∷ ls) ≡ filter (is_past cuts) ls
kept_in cuts l ls within = ap (λ b. cond b (l ∷ filter (is_past cuts) ls) (filter (is_past cuts) ls)) (le-ltb (get_or cuts l.whole.block 0) l.whole.number within)

abbrev pub pair : Found → ℕ → Found × ℕ
pair found n = (found, n)

pub some_pair : {A B : Type 0} (p q : A × B) → Some p ≡ Some q → (p.0 ≡ q.0) × (p.1 ≡ q.1)
some_pair p q e = (ap (λ o. (unwrap_or o p).0) e, ap (λ o. (unwrap_or o p).1) e)

-- the record that was found isn't empty, and lies inside the text
pub found_some : (f : Found) (n : ℕ) (from : List ℕ) → IsFound f n from → (0 < n) × (n ≤ length from)
found_some f n from is = (
  omega (arith, ap length (is.is.text_is ∙ text_is is.version is.whole), length-take-le n from is.within),
  is.within,
)

-- a found record is the one that begins the text
pub found_as : (f : Found) (n : ℕ) (l : Logged) (r : Result (Found × ℕ) NotARecord) → r ≡ Ok (f, n) → r ≡ Ok (found_of l.version l.whole, length (record_text l.version l.whole))
    → Some (pair f n) ≡ Some (pair (found_of l.version l.whole) (length (text l)))
found_as f n l r is only = ap result_ok (sym is ∙ only) ∙ ap (λ (b : List ℕ). Some (pair (found_of l.version l.whole) (length b))) (sym (text_of l))

pub found_begins : (f : Found) (n : ℕ) (from : List ℕ) → IsFound f n from → BeginsRecord from
found_begins f n from is = record { version = is.version; whole = is.whole; size = n; is = is.is }

-- a record at or below the cut isn't kept, and one past it is
pub kept_none : (cuts start : List ℕ) (l : Logged) (f : Found) → f ≡ found_of l.version l.whole → f.number ≤ get_or cuts f.block 0
    → start ≡ start ++ flat_map text (filter (is_past cuts) (l ∷ []))
kept_none cuts start l f same within =
    let w : l.whole.number ≤ get_or cuts l.whole.block 0 = rw same at within in
    sym (ap (λ (ls : List Logged). start ++ flat_map text ls) (kept_in cuts l [] w) ∙ append-nil start)

pub kept_one : (cuts start : List ℕ) (l : Logged) (f : Found) (bytes : List ℕ) → f ≡ found_of l.version l.whole → (f.number ≤ get_or cuts f.block 0 → ⊥)
    → bytes ≡ text l → start ++ bytes ≡ start ++ flat_map text (filter (is_past cuts) (l ∷ []))
kept_one cuts start l f bytes same past is =
    let p : get_or cuts l.whole.block 0 < l.whole.number = let q = rw same at past in omega (arith, q) in
    ap (λ (b : List ℕ). start ++ b) (is ∙ sym (ap (flat_map text) (kept_past cuts l [] p) ∙ append-nil (text l)))

pub sum_in : (cuts : List ℕ) (l : Logged) (f : Found) (x y now later : ℕ) → f ≡ found_of l.version l.whole → f.number ≤ get_or cuts f.block 0 → y ≡ x
    → later ≡ bit_xor now (range_byte l.whole.ranges y) → later ≡ bit_xor now (share cuts l x)
sum_in cuts l f x y now later same within place is =
    let w : l.whole.number ≤ get_or cuts l.whole.block 0 = rw same at within in
    is ∙ ap (λ (z : ℕ). bit_xor now (range_byte l.whole.ranges z)) place ∙ ap (bit_xor now) (sym (share_in cuts l x w))

pub sum_past : (cuts : List ℕ) (l : Logged) (f : Found) (x now : ℕ) → f ≡ found_of l.version l.whole → (f.number ≤ get_or cuts f.block 0 → ⊥)
    → now ≡ bit_xor now (share cuts l x)
sum_past cuts l f x now same past =
    let p : get_or cuts l.whole.block 0 < l.whole.number = let q = rw same at past in omega (arith, q) in
    sym (ap (bit_xor now) (share_past cuts l x p) ∙ xor_zero_r now)
