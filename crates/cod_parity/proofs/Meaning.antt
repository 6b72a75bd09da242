-- What the calls of a column leave of its meaning.
use Rattle.std.proofs.Common.{◌≡◌, ℕ, ◌+◌, ◌-◌, ◌<◌, ◌≤◌, List, [], ◌∷◌, ◌++◌, length, take, drop, min, get_or, Option, Some, Bool, true, false, nat_lt, refl, sym, ap, ◌∙◌, subst, cond, bit_xor}
use Rattle.std.proofs.Common.{arith, length-append}
use Rattle.std.specs.Int.Bits.{xor_zero_r}
use Rattle.std.proofs.lemmas.List.{take_at, take_all, drop_at, drop-append-le, length-drop, drop-drop, drop-take, get_or-take, get_or-drop, get_or_append_left, take-append-le, length-take-le}
use Rattle.std.proofs.lemmas.List.{append_assoc, append-nil, take-append-drop}
use Rattle.std.proofs.lemmas.Grind.{flat_map-append}
use Rattle.std.proofs.Math.Seq.{take-append-add}
use Rattle.std.specs.List.{flat_map, filter, AllByRecursion}
use Rattle.std.specs.Option.{option_map}
use Rattle.cod_types.specs.Limits.{Shape}
use Rattle.cod_types.specs.Overwritten.{overwritten}
use Rattle.cod_region.specs.Device.{Device, Reads}
use Rattle.cod_parity.specs.Log.{change, IsIn, IsValue, is_past, Logged, lowest_from, no_lowest, note, text}
use Rattle.cod_parity.specs.State.{cut_to, empty, Means, State, with_base, with_record}
use Rattle.cod_parity.proofs.Scan.{lowest-append}
use Rattle.cod_parity.proofs.Records.{text_some}

pub all_filter : (P : Logged → Type 0) (p : Logged → Bool) (ls : List Logged) → AllByRecursion P ls → AllByRecursion P (filter p ls)
all_filter P p [] all = tt
all_filter P p (l ∷ ls) all =
    elim (p l) as (λ b. AllByRecursion P (cond b (l ∷ filter p ls) (filter p ls))) [
      | true ↦ (all.0, all_filter P p ls all.1)
      | false ↦ all_filter P p ls all.1
    ]

all_push : (P : Logged → Type 0) (ls : List Logged) (l : Logged) → AllByRecursion P ls → P l → AllByRecursion P (ls ++ l ∷ [])
all_push P [] l all one = (one, tt)
all_push P (m ∷ ls) l all one = (all.0, all_push P ls l all.1 one)

-- a column of no record
pub empty_means : (g : Shape) (size average : ℕ) (d : Device) (held : List ℕ) → d.content ≡ Some held → length held ≡ d.size → g.block ≤ d.size
    → Means (empty g size average d) (take g.block held) []
empty_means g size average d held told long room = record {
  rest = drop g.block held;
  content = told ∙ ap (λ (b : List ℕ). Some b) (sym (take-append-drop g.block held) ∙ ap (λ (b : List ℕ). b ++ drop g.block held) (sym (append-nil (take g.block held))));
  base_size = length-take-le g.block held (omega arith);
  used = refl;
  each = tt;
  noted = refl;
}

-- another base and no record
pub base_means : (s : State) (base was : List ℕ) (records : List Logged) → length base ≡ s.shape.block → Means s was records → Means (with_base base s) base []
unfolding with_base
base_means s base was records long means =
    let whole : List ℕ = (was ++ flat_map text records) ++ means.rest in
    record {
      rest = drop (0 + length base) whole;
      content = ap (option_map (overwritten 0 base)) means.content ∙ ap (λ (b : List ℕ). Some (b ++ drop (0 + length base) whole)) (sym (append-nil base));
      base_size = long;
      used = refl;
      each = tt;
      noted = refl;
    }

-- a record behind the log
pub record_means : (s : State) (l : Logged) (base : List ℕ) (records : List Logged) → IsIn s.shape l → Means s base records → Means (with_record l s) base (records ++ l ∷ [])
unfolding with_record
record_means s l base records is_in means =
    let flat : List ℕ = flat_map text records in
    let start : List ℕ = base ++ flat in
    let whole : List ℕ = start ++ means.rest in
    let place : ℕ = s.shape.block + s.used in
    let behind : List ℕ = drop (place + length (text l)) whole in
    let size : length start ≡ place = omega (arith, length-append base flat, means.base_size, means.used) in
    let cut : take place whole ≡ start = take_at start means.rest place size in
    let more : flat_map text (records ++ l ∷ []) ≡ flat ++ text l = flat_map-append text records (l ∷ []) ∙ ap (λ (b : List ℕ). flat ++ b) (append-nil (text l)) in
    record {
      rest = behind;
      content = ap (option_map (overwritten place (text l))) means.content
          ∙ ap (λ (b : List ℕ). Some ((b ++ text l) ++ behind)) cut
          ∙ ap (λ (b : List ℕ). Some (b ++ behind)) (append_assoc base flat (text l) ∙ ap (λ (b : List ℕ). base ++ b) (sym more));
      base_size = means.base_size;
      used = omega (arith, ap length more, length-append flat (text l), means.used);
      each = all_push (IsIn s.shape) records l means.each is_in;
      noted = ap (λ (b : List ℕ). note b l) means.noted ∙ sym (lowest-append no_lowest records (l ∷ []));
    }

-- a cut behind the log
pub cut_means : (s : State) (size : ℕ) (base : List ℕ) (records : List Logged) → s.used ≤ size → Means s base records → Means (cut_to size s) base records
unfolding cut_to
cut_means s size base records fits means =
    elim (nat_lt size s.size) as (λ b. Means (cond b (record s {
      size = size;
      used = min s.used size;
      device = record s.device {
        size = s.shape.block + size;
        content = option_map (take
            (s.shape.block + size)) s.device.content;
      };
    }) s) base records) [
      | true ↦
          let start : List ℕ = base ++ flat_map text records in
          let long : length start ≡ s.shape.block + s.used = omega (arith, length-append base (flat_map text records), means.base_size, means.used) in
          let n : ℕ = size - s.used in
          let count : s.shape.block + size ≡ length start + n = omega (arith, long) in
          let keep : take (s.shape.block + size) (start ++ means.rest) ≡ start ++ take n means.rest =
          ap (λ (m : ℕ). take m (start ++ means.rest)) count ∙ take-append-add start means.rest n in
          record {
            rest = take n means.rest;
            content = ap (option_map (take (s.shape.block + size))) means.content ∙ ap (λ (b : List ℕ). Some b) keep;
            base_size = means.base_size;
            used = omega (arith, means.used);
            each = means.each;
            noted = means.noted;
          }
      | false ↦ means
    ]

-- the base and the log, as a read from the front gives them
pub read_front : (s : State) (base : List ℕ) (records : List Logged) (into : List ℕ) → Means s base records
    → Reads s.device.content 0 into → length into ≡ s.shape.block + s.used → into ≡ base ++ flat_map text records
read_front s base records into means read size =
    let flat : List ℕ = flat_map text records in
    let got : into ≡ take (length into) ((base ++ flat) ++ means.rest) = subst (λ o. Reads o 0 into) means.content read in
    got ∙ take_at (base ++ flat) means.rest (length into) (omega (arith, length-append base flat, means.base_size, means.used))

-- the buffer was read, folded and written back
pub merge_means : (cuts : List ℕ) (s new : State) (base : List ℕ) (records : List Logged) (content : Option (List ℕ)) (b end : ℕ) (into tail buffer tail2 low : List ℕ) (kept : ℕ)
    → Means s base records → s.shape.k ≤ 16 → b ≡ s.shape.block → content ≡ s.device.content → end ≡ b + s.used
    → Reads s.device.content 0 into → length into ≡ end
    → b + kept ≤ length buffer
    → ((g : Shape) (base : List ℕ) (records : List Logged) → g.k ≤ 16 → g.block ≡ b → length base ≡ b → AllByRecursion (IsIn g) records → take end (into ++ tail) ≡ base ++ flat_map text records
    → low ≡ lowest_from no_lowest (filter (is_past cuts) records))
    → ((g : Shape) (base : List ℕ) (records : List Logged) → g.k ≤ 16 → g.block ≡ b → length base ≡ b → AllByRecursion (IsIn g) records → take end (into ++ tail) ≡ base ++ flat_map text records
    → (next : List ℕ) × (take (b + kept) buffer ≡ next ++ flat_map text (filter (is_past cuts) records)) × IsValue cuts base records next)
    → new.device.content ≡ option_map (overwritten 0 (take (b + kept) (buffer ++ tail2))) content
    → new.shape ≡ s.shape → new.used ≡ kept → new.lowest ≡ low
    → (next : List ℕ) × Means new next (filter (is_past cuts) records) × IsValue cuts base records next
merge_means cuts s new base records content b end into tail buffer tail2 low kept means few b_is same end_is read size most lows fold put shape used low2 =
    let left : List Logged = filter (is_past cuts) records in
    let whole : List ℕ = (base ++ flat_map text records) ++ means.rest in
    let got = read_front s base records into means read (omega (arith, size, end_is, b_is)) in
    let cut : take end (into ++ tail) ≡ base ++ flat_map text records = take_at into tail end size ∙ got in
    let base_size : length base ≡ b = means.base_size ∙ sym b_is in
    let folded = fold s.shape base records few (sym b_is) base_size means.each cut in
    let next : List ℕ = folded.0 in
    let bytes : List ℕ = next ++ flat_map text left in
    let stop : ℕ = b + kept in
    let wrote : take stop (buffer ++ tail2) ≡ bytes = take-append-le stop buffer tail2 most ∙ folded.1 in
    let size2 : stop ≡ length next + length (flat_map text left) = sym (length-take-le stop buffer most) ∙ ap length folded.1 ∙ length-append next (flat_map text left) in
    let next_size : length next ≡ b = folded.2.size ∙ base_size in (
      next,
      record {
        rest = drop (0 + length bytes) whole;
        content = put ∙ ap (option_map (overwritten 0 (take stop (buffer ++ tail2)))) same
            ∙ ap (λ (l : List ℕ). option_map (overwritten 0 l) s.device.content) wrote ∙ ap (option_map (overwritten 0 bytes)) means.content;
        base_size = next_size ∙ b_is ∙ ap (λ (g : Shape). g.block) (sym shape);
        used = omega (arith, size2, next_size, used);
        each = subst (λ (g : Shape). AllByRecursion (IsIn g) left) (sym shape) (all_filter (IsIn s.shape) (is_past cuts) records means.each);
        noted = low2 ∙ lows s.shape base records few (sym b_is) base_size means.each cut;
      },
      folded.2,
    )

no_records : (records : List Logged) → length (flat_map text records) ≡ 0 → records ≡ []
no_records [] none = refl
no_records (l ∷ ls) none = absurd (omega (arith, length-append (text l) (flat_map text ls), text_some l))

-- what is read of the base
read_base : (base flat rest read : List ℕ) (off x : ℕ) → read ≡ take (length read) (drop off ((base ++ flat) ++ rest)) → off + x < length base → x < length read
    → get_or read x 0 ≡ get_or base (off + x) 0
read_base base flat rest read off x is inside within =
    let whole : List ℕ = (base ++ flat) ++ rest in
    let far : off + x < length (base ++ flat) = omega (arith, length-append base flat) in
    ap (λ (b : List ℕ). get_or b x 0) is ∙ get_or-take (length read) (drop off whole) x 0 within ∙ get_or-drop off whole x 0
    ∙ get_or_append_left (base ++ flat) rest 0 (off + x) far ∙ get_or_append_left base flat 0 (off + x) inside

-- a read where there is no record gives the value
pub read_plain : (cuts : List ℕ) (s : State) (base : List ℕ) (records : List Logged) (into : List ℕ) (off : ℕ) → Means s base records
    → s.used ≡ 0 → off + length into ≤ s.shape.block → Reads s.device.content off into
    → (x : ℕ) → x < length into → get_or into x 0 ≡ bit_xor (get_or base (off + x) 0) (change cuts records (off + x))
read_plain cuts s base records into off means none inside read x small =
    let got : into ≡ take (length into) (drop off ((base ++ flat_map text records) ++ means.rest)) = subst (λ o. Reads o off into) means.content read in
    let nil : records ≡ [] = no_records records (means.used ∙ none) in
    let nothing : change cuts records (off + x) ≡ 0 = ap (λ (ls : List Logged). change cuts ls (off + x)) nil in
    let here = read_base base (flat_map text records) means.rest into off x got (omega (arith, means.base_size)) small in
    here ∙ sym (ap (λ (y : ℕ). bit_xor (get_or base (off + x) 0) y) nothing ∙ xor_zero_r (get_or base (off + x) 0))

-- a read from a place to the end of the log gives the log behind the base
read_log : (s : State) (base : List ℕ) (records : List Logged) (read : List ℕ) (off behind : ℕ) → Means s base records
    → off + behind ≡ s.shape.block → length read ≡ behind + s.used → Reads s.device.content off read
    → (take s.used (drop behind read) ≡ flat_map text records)
    × ((x : ℕ) → off + x < length base → x < length read → get_or read x 0 ≡ get_or base (off + x) 0)
read_log s base records read off behind means at size got =
    let flat : List ℕ = flat_map text records in
    let whole : List ℕ = (base ++ flat) ++ means.rest in
    let is : read ≡ take (length read) (drop off whole) = subst (λ o. Reads o off read) means.content got in
    let cut : read ≡ take (behind + s.used) (drop off whole) = is ∙ ap (λ (n : ℕ). take n (drop off whole)) size in
    let rest : drop behind (drop off whole) ≡ flat ++ means.rest =
    drop-drop behind off whole ∙ ap (λ (n : ℕ). drop n whole) at ∙ ap (λ (b : List ℕ). drop s.shape.block b) (append_assoc base flat means.rest)
    ∙ drop_at base (flat ++ means.rest) s.shape.block means.base_size in (
      ap (λ (b : List ℕ). take s.used b) (ap (λ (b : List ℕ). drop behind b) cut ∙ drop-take behind s.used (drop off whole) ∙ ap (λ (b : List ℕ). take s.used b) rest
          ∙ take_at flat means.rest s.used means.used)
          ∙ take_all s.used flat (omega (arith, means.used)),
      (λ x inside within. read_base base flat means.rest read off x is inside within),
    )

-- the front of what was read, with what the log behind the base adds to it
pub read_done : (cuts : List ℕ) (s : State) (base : List ℕ) (records : List Logged) (read tail into window : List ℕ) (off behind used end m : ℕ)
    → Means s base records → s.shape.k ≤ 16 → used ≡ s.used → off + behind ≡ s.shape.block → end ≡ behind + used → off + m ≤ s.shape.block
    → length read ≡ end → Reads s.device.content off read → into ≡ take m (read ++ tail) → length into ≡ m
    → ((g : Shape) (ls : List Logged) → g.k ≤ 16 → AllByRecursion (IsIn g) ls → take (end - behind) (drop behind (read ++ tail)) ≡ flat_map text ls
    → (x : ℕ) → x < length into → get_or window x 0 ≡ bit_xor (get_or into x 0) (change cuts ls (off + x)))
    → (x : ℕ) → x < m → get_or window x 0 ≡ bit_xor (get_or base (off + x) 0) (change cuts records (off + x))
read_done cuts s base records read tail into window off behind used end m means few used_is at end_is inside size got copied len added x small =
    let parts = read_log s base records read off behind means at (omega (arith, size, used_is, end_is)) got in
    let count : end - behind ≡ s.used = omega (arith, used_is, end_is) in
    let log_is : take (end - behind) (drop behind (read ++ tail)) ≡ flat_map text records =
    ap (λ (n : ℕ). take n (drop behind (read ++ tail))) count
    ∙ ap (λ (b : List ℕ). take s.used b) (drop-append-le behind read tail (omega (arith, size, end_is)))
    ∙ take-append-le s.used (drop behind read) tail (omega (arith, length-drop behind read, size, used_is, end_is)) ∙ parts.0 in
    let here : get_or into x 0 ≡ get_or base (off + x) 0 =
    ap (λ (b : List ℕ). get_or b x 0) copied ∙ get_or-take m (read ++ tail) x 0 small ∙ get_or_append_left read tail 0 x (omega (arith, size, end_is, at, inside, small))
    ∙ parts.1 x (omega (arith, means.base_size)) (omega (arith, size, end_is, at, inside, small)) in
    added s.shape records few means.each log_is x (omega (arith, len)) ∙ ap (λ (y : ℕ). bit_xor y (change cuts records (off + x))) here
