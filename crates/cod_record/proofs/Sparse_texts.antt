-- The second version's texts as they are written.
use Rattle.std.proofs.Common.{◌≡◌, ℕ, ◌+◌, ◌-◌, ◌<◌, ◌≤◌, ◌^◌, List, [], ◌∷◌, ◌++◌, length, take, drop, refl, sym, ap, ◌∙◌, arith, inr, length-append, length-drop}
use Rattle.std.proofs.lemmas.List.{append_assoc, take_at, drop_at, take-append-drop, length-take-le}
use Rattle.byteorder.specs.Endian.{big_bytes}
use borrow.Rule.Slice.PartMut.{put_mid}
use Rattle.cod_record.specs.Record.{Range, Record, range_text, ranges_text, count_text, record_text, AreSparse, IsRecord}
use Rattle.cod_record.specs.Sparse.{ranges_length, ranges_of, sparse_record}
use Rattle.cod_record.proofs.Bytes.{written}
use Rattle.cod_record.proofs.Lengths.{counted, length-ranges_text, most}
use Rattle.cod_record.proofs.Places.{less}
use Rattle.cod_record.proofs.Splitting.{ranges_of-sparse}

-- what a write of w into the rest of a buffer leaves
pub record Wrote (into s w after : List ℕ) (len : ℕ) : Type 0 where
  pub front : take (len + length w) after ≡ take len into ++ w
  pub rest : drop (len + length w) after ≡ drop (len + length w) s
  pub size : length after ≡ length into

pub wrote : (into s w new : List ℕ) (len : ℕ) → len + length w ≤ length into → length into ≡ length s → drop len into ≡ drop len s
    → new ≡ w ++ drop (length w) (take (length into - len) (drop len into)) → Wrote into s w (put_mid len (length into - len) into new) len
wrote into s w new len room same rest is =
    let n = length w in
    let split : into ≡ take len into ++ drop len s = sym (take-append-drop len into) ∙ ap (λ (l : List ℕ). take len into ++ l) rest in
    let front_len : length (take len into) ≡ len = length-take-le len into (omega arith) in
    let whole : put_mid len (length into - len) into new ≡ (take len into ++ w) ++ drop (len + n) s = written s into new (take len into) w len n split front_len is in
    let len_is : length (take len into ++ w) ≡ len + n = omega (arith, front_len, length-append (take len into) w) in
    record {
      front = ap (take (len + n)) whole ∙ take_at (take len into ++ w) (drop (len + n) s) (len + n) len_is;
      rest = ap (drop (len + n)) whole ∙ drop_at (take len into ++ w) (drop (len + n) s) (len + n) len_is;
      size = omega (arith, ap length whole, length-append (take len into ++ w) (drop (len + n) s), len_is, length-drop (len + n) s);
    }

-- the text of a range joins those of the ranges behind it
pub text_more : (front : List ℕ) (g : Range) (gs left : List Range) (all : List ℕ) → left ≡ g ∷ gs → front ++ ranges_text left ≡ all → (front ++ range_text g) ++ ranges_text gs ≡ all
text_more front g gs left all is text = append_assoc front (range_text g) (ranges_text gs) ∙ ap (λ (l : List Range). front ++ ranges_text l) (sym is) ∙ text

length-record_text : (r : Record) → length (record_text 2 r) ≡ 13 + ranges_length r.ranges
unfolding record_text count_text
length-record_text r = omega (arith, length-ranges_text r.ranges)

pub sparse_is_record : (block number off : ℕ) (bytes : List ℕ) → block < 2 ^ 16 → number < 2 ^ 64 → off + length bytes < 2 ^ 32 → length bytes ≤ 65536
    → IsRecord 2 (sparse_record block number off bytes) (record_text 2 (sparse_record block number off bytes))
sparse_is_record block number off bytes block_fits number_fits fits short =
    let gs = ranges_of off bytes in
    let are : AreSparse off gs = ranges_of-sparse off bytes fits in
    let few : length gs < 2 ^ 16 = omega (arith, counted gs off are, most off bytes) in
    record {
      known = inr refl;
      block = block_fits;
      number = number_fits;
      first_version = λ one. absurd (omega arith);
      second_version = λ _. less gs off 0 (omega arith) are;
      count = few;
      size = omega (arith, length-record_text (sparse_record block number off bytes), most off bytes);
      text_is = refl;
    }

-- the numbers before the ranges, the ranges, and what was behind them
pub fronted : (block number count : ℕ) (gs : List Range) (rest : List ℕ) → count ≡ length gs
    → (((2 ∷ [] ++ big_bytes 2 block) ++ big_bytes 8 number) ++ big_bytes 2 count) ++ (ranges_text gs ++ rest)
    ≡ record_text 2 (record { block = block; number = number; ranges = gs }) ++ rest
unfolding record_text count_text
fronted block number count gs rest is =
    let whole : ((big_bytes 2 block ++ big_bytes 8 number) ++ big_bytes 2 count) ++ (ranges_text gs ++ rest)
    ≡ (big_bytes 2 block ++ (big_bytes 8 number ++ (big_bytes 2 count ++ ranges_text gs))) ++ rest = simp append_assoc in
    ap (λ (l : List ℕ). 2 ∷ l) whole ∙ ap (λ (n : ℕ). 2 ∷ ((big_bytes 2 block ++ (big_bytes 8 number ++ (big_bytes 2 n ++ ranges_text gs))) ++ rest)) is
