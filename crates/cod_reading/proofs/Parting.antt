-- The parts of a range, one behind the other.
use Rattle.std.proofs.Common.{◌≡◌, ℕ, zero, suc, ◌+◌, ◌<◌, ◌≤◌, List, [], ◌∷◌, ◌++◌, length, get_or, take, drop, Bool, true, false, cond, refl, sym, ap, ◌∙◌, subst, arith}
use Rattle.std.specs.Prelude.{nat_lt, not, ◌-◌}
use Rattle.std.specs.List.{filter, range_with_len}
use Rattle.std.proofs.lemmas.List.{take_all, take_at, take_more, length-append, length-take, append-nil}
use Rattle.std.proofs.lemmas.List.FromFn.{get_or-map-range_with_len}
use Rattle.std.proofs.lemmas.Grind.{flat_map-append}
use Rattle.cod_types.specs.Overwritten.{overwritten}
use Rattle.cod_types.specs.Plain.{bytes_at}
use Rattle.cod_layout.specs.declared.parts.Part.{Part}
use Rattle.cod_layout.specs.Blocks.{block_of, blocks_of, bytes_in, read_parts}
use Rattle.cod_chronicle.specs.Said.{bytes_of, is_down, is_over, Site}
use Rattle.cod_seg.specs.Calls.{block_reads}
use Rattle.cod_seg.specs.Laws.{up_below}
use Rattle.cod_seg.specs.Seg.{Col, Seg}
use Rattle.cod_seg.specs.Sound.{Sound}
use Rattle.cod_segment.specs.Events.{NoneFails}
use Rattle.cod_reading.specs.Reads.{Brings, BringsAll, MayRead, MayReadAll, part_bytes, part_reads, Reads}
use Rattle.cod_reading.proofs.Chaining.{block_reads_same, brings_before, reads_then, same_up, SameUp, site_after}

-- ---- sums over parts

pub reads_append : (k : ℕ) (cols : List Col) (parts more : List Part) (i : ℕ) → part_reads k cols (parts ++ more) i ≡ part_reads k cols parts i + part_reads k cols more i
reads_append k cols [] more i = omega arith
reads_append k cols (part ∷ parts) more i = (let rest = reads_append k cols parts more i in omega (arith, rest))

bytes_append : (parts more : List Part) → part_bytes (parts ++ more) ≡ part_bytes parts + part_bytes more
bytes_append [] more = omega arith
bytes_append (part ∷ parts) more = (let rest = bytes_append parts more in omega (arith, rest))

pub reads_one_more : (k : ℕ) (cols : List Col) (parts : List Part) (x : ℕ) (d : Part) (i : ℕ) → x < length parts
    → part_reads k cols (take (x + 1) parts) i ≡ part_reads k cols (take x parts) i + block_reads k cols (get_or parts x d).block i
reads_one_more k cols parts x d i within =
    let e = ap (λ (l : List Part). part_reads k cols l i) (take_more parts x d within) ∙ reads_append k cols (take x parts) (get_or parts x d ∷ []) i in
    omega (arith, e)

pub bytes_one_more : (parts : List Part) (x : ℕ) (d : Part) → x < length parts → part_bytes (take (x + 1) parts) ≡ part_bytes (take x parts) + (get_or parts x d).len
bytes_one_more parts x d within =
    let e = ap part_bytes (take_more parts x d within) ∙ bytes_append (take x parts) (get_or parts x d ∷ []) in
    omega (arith, e)

take_less : (parts : List Part) (x : ℕ) → part_bytes (take x parts) ≤ part_bytes parts
take_less [] zero = omega arith
take_less [] (suc x) = omega arith
take_less (part ∷ parts) zero = omega arith
take_less (part ∷ parts) (suc x) = (let rest = take_less parts x in omega (arith, rest))

pub part_fits : (parts : List Part) (x : ℕ) (d : Part) → x < length parts → part_bytes (take x parts) + (get_or parts x d).len ≤ part_bytes parts
part_fits parts x d within =
    let e = bytes_one_more parts x d within in
    let most = take_less parts (x + 1) in
    omega (arith, e, most)

-- ---- whether too many are down

filter_same : (p q : ℕ → Bool) (a n : ℕ) → ((i : ℕ) → a ≤ i → i < a + n → p i ≡ q i) → filter p (range_with_len a n) ≡ filter q (range_with_len a n)
filter_same p q a zero same = refl
filter_same p q a (suc n) same =
    let rest = filter_same p q (a + 1) n (λ i low high. same i (omega (arith, low)) (omega (arith, high))) in
    ap (λ (b : Bool). cond b (a ∷ filter p (range_with_len (a + 1) n)) (filter p (range_with_len (a + 1) n))) (same a (omega arith) (omega arith))
    ∙ ap (λ (l : List ℕ). cond (q a) (a ∷ l) l) rest

not_same : (a b : Bool) → not a ≡ not b → a ≡ b
not_same true true e = refl
not_same true false e = cc
not_same false true e = cc
not_same false false e = refl

pub same_over : (s u : Seg) → Sound s → Sound u → u.site ≡ s.site → SameUp s u → is_over u.site u.log ≡ is_over s.site s.log
same_over s u sound after site same =
    let n = s.site.shape.n in
    ap (λ (x : Site). is_over x u.log) site
    ∙ ap (λ (l : List ℕ). nat_lt (n - s.site.shape.k) (length l)) (filter_same (is_down u.log) (is_down s.log) 0 n (λ i low high.
    let below : i < n = omega (arith, high) in
    let later = (after.columns.each i (subst (λ (x : Site). i < x.shape.n) (sym site) below)).up in
    not_same (is_down u.log i) (is_down s.log i) (sym later ∙ same i below ∙ (sound.columns.each i below).up)))

-- where none failed, no more are down than before
pub none_over : (count : ℕ → ℕ) (t after : ℕ) (s u : Seg) → Sound s → Reads count t after s u → NoneFails s u → is_over u.site u.log ≡ is_over s.site s.log
none_over count t after s u sound is none = same_over s u sound is.sound (site_after count t after s u is) (same_up count t after s u is none)

-- so where too many are, some failed, and the counts say nothing
pub lost_reads : (count other : ℕ → ℕ) (t after : ℕ) (s u : Seg) → Sound s → is_over s.site s.log ≡ false → is_over u.site u.log ≡ true → Reads count t after s u → Reads other t after s u
lost_reads count other t after s u sound few over is = record {
  makes = is.makes;
  sound = is.sound;
  becomes = is.becomes;
  rooms = is.rooms;
  falls = is.falls;
  long = is.long;
  numbers = is.numbers;
  bytes = is.bytes;
  counts = λ none i below. let wrong : false ≡ true = sym few ∙ sym (none_over count t after s u sound is none) ∙ over in absurd (let no : ⊥ = cc in no);
}

-- ---- one part more

-- a part may be read next
pub may_next : (count : ℕ → ℕ) (t mid : ℕ) (s v : Seg) (parts : List Part) (m x : ℕ) (d : Part) → MayReadAll s parts m → Reads count t mid s v → is_over v.site v.log ≡ false → x < length parts
    → MayRead v (get_or parts x d).block (get_or parts x d).off (get_or parts x d).len
may_next count t mid s v parts m x d may is few within =
    let site = site_after count t mid s v is in
    let part = may.inside x d within in
    record {
      sound = is.sound;
      few = few;
      room = let r = may.room in let l = is.long in
          let e : up_below v.site.shape.n v.cols ≡ up_below s.site.shape.n v.cols = ap (λ (q : Site). up_below q.shape.n v.cols) site in
          omega (arith, r, l, e);
      among = subst (λ (q : Site). (get_or parts x d).block < q.shape.k) (sym site) part.among;
      inside = subst (λ (q : Site). (get_or parts x d).off + (get_or parts x d).len ≤ q.shape.block) (sym site) part.within;
    }

pub reads_next : (t mid after : ℕ) (s v u : Seg) (parts : List Part) (m x : ℕ) (d : Part) → MayReadAll s parts m → x < length parts
    → Reads (part_reads s.site.shape.k s.cols (take x parts)) t mid s v → Reads (block_reads v.site.shape.k v.cols (get_or parts x d).block) mid after v u
    → Reads (part_reads s.site.shape.k s.cols (take (x + 1) parts)) t after s u
reads_next t mid after s v u parts m x d may within one two =
    let j = (get_or parts x d).block in
    let k = ap (λ (q : Site). q.shape.k) (site_after (part_reads s.site.shape.k s.cols (take x parts)) t mid s v one) in
    let low = (may.inside x d within).among in
    let n = may.sound.shape.data_among_columns in
    reads_then (part_reads s.site.shape.k s.cols (take x parts)) (block_reads v.site.shape.k v.cols j) (part_reads s.site.shape.k s.cols (take (x + 1) parts)) t mid after s v u one two
    (λ same i lt.
    let e = ap (λ (y : ℕ). block_reads y v.cols j i) k ∙ block_reads_same s.site.shape.k s.site.shape.n v.cols s.cols same j i (omega (arith, low, n)) lt in
    let more = reads_one_more s.site.shape.k s.cols parts x d i within in
    omega (arith, e, more))

-- a block of these bytes
pub block_is : (k block j : ℕ) (b : List ℕ) → j < k → get_or (blocks_of k block b) j [] ≡ block_of block j b
block_is k block j b low = get_or-map-range_with_len (λ (i : ℕ). block_of block i b) 0 k j j [] low (omega arith)

front_more : (at : ℕ) (piece into new : List ℕ) → at + length piece ≤ length into → new ≡ overwritten at piece into → take (at + length piece) new ≡ take at into ++ piece
front_more at piece into new fits wrote =
    let l = length-take at into in
    let a = length-append (take at into) piece in
    let size : length (take at into ++ piece) ≡ at + length piece = omega (arith, l, a, fits) in
    ap (take (at + length piece)) wrote ∙ take_at (take at into ++ piece) (drop (at + length piece) into) (at + length piece) size

pub brings_next : (count : ℕ → ℕ) (t mid : ℕ) (s v : Seg) (parts : List Part) (m x at : ℕ) (d : Part) (piece into new : List ℕ) → MayReadAll s parts m → length into ≡ m → x < length parts
    → Reads count t mid s v → at ≡ part_bytes (take x parts) → BringsAll s (take x parts) (take at into)
    → length piece ≡ (get_or parts x d).len → new ≡ overwritten at piece into → Brings v (get_or parts x d).block (get_or parts x d).off piece
    → BringsAll s (take (x + 1) parts) (take (at + (get_or parts x d).len) new)
brings_next count t mid s v parts m x at d piece into new may size within is from front long wrote brings told =
    let g = s.site.shape in
    let b = bytes_of s.site s.log in
    let part = get_or parts x d in
    let blocks = blocks_of g.k g.block b in
    let room = part_fits parts x d within in
    let fits = may.fits in
    let more = front_more at piece into new (omega (arith, size, from, long, room, fits)) wrote in
    let own : piece ≡ bytes_in blocks part =
    brings_before count t mid s v part.block part.off piece is brings told ∙ ap (bytes_at (block_of g.block part.block b) part.off) long
    ∙ ap (λ (l : List ℕ). bytes_at l part.off part.len) (sym (block_is g.k g.block part.block b (may.inside x d within).among)) in
    ap (λ (y : ℕ). take (at + y) new) (sym long) ∙ more ∙ ap (λ (l : List ℕ). l ++ piece) (front told) ∙ ap (λ (l : List ℕ). read_parts blocks (take x parts) ++ l) own
    ∙ last blocks part (take x parts) ∙ ap (read_parts blocks) (sym (take_more parts x d within)) where
      last : (blocks : List (List ℕ)) (part : Part) (parts : List Part) → read_parts blocks parts ++ bytes_in blocks part ≡ read_parts blocks (parts ++ part ∷ [])
      last blocks part parts = ap (λ (l : List ℕ). read_parts blocks parts ++ l) (sym (append-nil (bytes_in blocks part))) ∙ sym (flat_map-append (bytes_in blocks) parts (part ∷ []))

-- all of them
pub brings_all : (s : Seg) (parts : List Part) (m x at : ℕ) (into : List ℕ) → MayReadAll s parts m → length into ≡ m → length parts ≤ x → at ≡ part_bytes (take x parts)
    → BringsAll s (take x parts) (take at into) → BringsAll s parts into
brings_all s parts m x at into may size past from front told =
    let whole : take x parts ≡ parts = take_all x parts past in
    let all : part_bytes (take x parts) ≡ part_bytes parts = ap part_bytes whole in
    let fits = may.fits in
    sym (take_all at into (omega (arith, size, from, all, fits))) ∙ front told ∙ ap (read_parts (blocks_of s.site.shape.k s.site.shape.block (bytes_of s.site s.log))) whole
