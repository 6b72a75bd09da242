-- A walk over the records of a log: what is left of them stands from a place on, and keeps a fact.
use Rattle.std.proofs.Common.{◌≡◌, ℕ, ◌+◌, ◌<◌, ◌≤◌, List, [], ◌∷◌, ◌++◌, length, drop, get_or, set, Some, refl, sym, ap, ◌∙◌, min, bit_xor, arith}
use Rattle.std.specs.List.{flat_map, filter, AllByRecursion}
use Rattle.std.specs.Int.Bits.{xor_assoc}
use Rattle.std.proofs.lemmas.List.{append_assoc}
use Rattle.std.proofs.lemmas.List.Elements.{filter-append}
use Rattle.std.proofs.lemmas.Grind.{flat_map-append}
use Rattle.cod_types.specs.Limits.{Shape}
use Rattle.cod_record.specs.declared.parts.Found.{Found}
use Rattle.cod_record.specs.Reading.{found_of}
use Rattle.cod_record.specs.Record.{IsRecord}
use Rattle.cod_parity.specs.Log.{Logged, IsIn, text, is_past, note, lowest_from, share, change}
use Rattle.cod_parity.proofs.Records.{text_at, some_pair, pair, kept_past}

pub record Scan (g : Shape) (log : List ℕ) (at : ℕ) (I : List Logged → Type 0) : Type 0 where
  pub left : List Logged
  pub each : AllByRecursion (IsIn g) left
  pub ahead : drop at log ≡ flat_map text left
  pub holds : I left

-- what `next_record` says of a record that begins the bytes
abbrev pub Only : (bytes : List ℕ) (found : Found) (n : ℕ) → Type 0
Only bytes found n = (l : Logged) (rest : List ℕ) → IsRecord l.version l.whole (text l) → l.whole.block < 16 → bytes ≡ text l ++ rest
    → Some (pair found n) ≡ Some (pair (found_of l.version l.whole) (length (text l)))

-- what is known of the record that was read
pub record IsNext (g : Shape) (log : List ℕ) (at : ℕ) (found : Found) (n : ℕ) (l : Logged) (ls : List Logged) : Type 0 where
  pub found_is : found ≡ found_of l.version l.whole
  pub long : n ≡ length (text l)
  pub is_in : IsIn g l
  pub ahead : drop at log ≡ text l ++ flat_map text ls

module _ (g : Shape) (few : g.k ≤ 16) (log : List ℕ) (at : ℕ) (I : List Logged → Type 0) where
  step : (log2 : List ℕ) (J : List Logged → Type 0) (found : Found) (n : ℕ) (left : List Logged)
      → 0 < n → n ≤ length (drop at log) → Only (drop at log) found n → drop (at + n) log2 ≡ drop (at + n) log
      → ((l : Logged) (ls : List Logged) → IsNext g log at found n l ls → I (l ∷ ls) → J ls)
      → AllByRecursion (IsIn g) left → drop at log ≡ flat_map text left → I left → Scan g log2 (at + n) J
  step log2 J found n [] some within only rest on each ahead holds = absurd (omega (arith, ap length ahead))
  step log2 J found n (l ∷ ls) some within only rest on each ahead holds =
      let is = some_pair (found, n) (found_of l.version l.whole, length (text l)) (only l (flat_map text ls) each.0.is (omega (arith, each.0.block, few)) ahead) in
      record {
        left = ls;
        each = each.1;
        ahead = rest ∙ (text_at log (flat_map text ls) l at n is.1 ahead).1;
        holds = on l ls (record { found_is = is.0; long = is.1; is_in = each.0; ahead = ahead }) holds;
      }

  pub scan_next : (log2 : List ℕ) (J : List Logged → Type 0) (found : Found) (n : ℕ)
      → 0 < n → n ≤ length (drop at log) → Only (drop at log) found n → drop (at + n) log2 ≡ drop (at + n) log
      → ((l : Logged) (ls : List Logged) → IsNext g log at found n l ls → I (l ∷ ls) → J ls)
      → Scan g log at I → Scan g log2 (at + n) J
  scan_next log2 J found n some within only rest on s = step log2 J found n s.left some within only rest on s.each s.ahead s.holds

  -- where no record begins what is left
  abbrev pub NoneBegins : Type 0
  NoneBegins = (l : Logged) (rest : List ℕ) → IsRecord l.version l.whole (text l) → l.whole.block < 16 → drop at log ≡ text l ++ rest → ⊥

  finish : (left : List Logged) → NoneBegins → AllByRecursion (IsIn g) left → drop at log ≡ flat_map text left → I left → I []
  finish [] none each ahead holds = holds
  finish (l ∷ ls) none each ahead holds = absurd (none l (flat_map text ls) each.0.is (omega (arith, each.0.block, few)) ahead)

  pub scan_done : NoneBegins → Scan g log at I → I []
  scan_done none s = finish s.left none s.each s.ahead s.holds

-- the least numbers, with more records
pub lowest-append : (low : List ℕ) (ls ms : List Logged) → lowest_from low (ls ++ ms) ≡ lowest_from (lowest_from low ls) ms
lowest-append low [] ms = refl
lowest-append low (l ∷ ls) ms = lowest-append (note low l) ls ms

-- one record, and then the others
pub split : (cuts : List ℕ) (l : Logged) (ls : List Logged) → filter (is_past cuts) (l ∷ ls) ≡ filter (is_past cuts) (l ∷ []) ++ filter (is_past cuts) ls
split cuts l ls = filter-append (is_past cuts) (l ∷ []) ls

pub low_next : (cuts low low2 was : List ℕ) (l : Logged) (ls : List Logged) → low2 ≡ lowest_from low (filter (is_past cuts) (l ∷ []))
    → lowest_from low (filter (is_past cuts) (l ∷ ls)) ≡ was → lowest_from low2 (filter (is_past cuts) ls) ≡ was
low_next cuts low low2 was l ls is before =
    ap (λ (m : List ℕ). lowest_from m (filter (is_past cuts) ls)) is ∙ sym (lowest-append low (filter (is_past cuts) (l ∷ [])) (filter (is_past cuts) ls))
    ∙ ap (lowest_from low) (sym (split cuts l ls)) ∙ before

pub kept_next : (cuts front front2 whole : List ℕ) (l : Logged) (ls : List Logged) → front2 ≡ front ++ flat_map text (filter (is_past cuts) (l ∷ []))
    → front ++ flat_map text (filter (is_past cuts) (l ∷ ls)) ≡ whole → front2 ++ flat_map text (filter (is_past cuts) ls) ≡ whole
kept_next cuts front front2 whole l ls is before =
    let one : List Logged = filter (is_past cuts) (l ∷ []) in
    let others : List Logged = filter (is_past cuts) ls in
    ap (λ (b : List ℕ). b ++ flat_map text others) is ∙ append_assoc front (flat_map text one) (flat_map text others)
    ∙ ap (λ (b : List ℕ). front ++ b) (sym (flat_map-append text one others) ∙ ap (flat_map text) (sym (split cuts l ls))) ∙ before

pub sum_next : (cuts : List ℕ) (l : Logged) (ls : List Logged) (x now later all : ℕ) → later ≡ bit_xor now (share cuts l x)
    → bit_xor now (change cuts (l ∷ ls) x) ≡ all → bit_xor later (change cuts ls x) ≡ all
sum_next cuts l ls x now later all is before = ap (λ (y : ℕ). bit_xor y (change cuts ls x)) is ∙ xor_assoc now (share cuts l x) (change cuts ls x) ∙ before

-- the least numbers, one record on
pub low_one : (cuts low : List ℕ) (l : Logged) (found : Found) (n : ℕ) → found ≡ found_of l.version l.whole → (found.number ≤ get_or cuts found.block 0 → ⊥)
    → n ≡ min (get_or low found.block 0) found.number → set low found.block n ≡ lowest_from low (filter (is_past cuts) (l ∷ []))
unfolding note
low_one cuts low l found n same past is =
    let p : get_or cuts l.whole.block 0 < l.whole.number = let q = rw same at past in omega (arith, q) in
    let b : found.block ≡ l.whole.block = ap (λ (f : Found). f.block) same in
    let m : found.number ≡ l.whole.number = ap (λ (f : Found). f.number) same in
    rw (kept_past cuts l [] p, is, b, m) refl
