-- The text of a head, and the records of the first version.
use Rattle.std.proofs.Common.{◌≡◌, ℕ, ◌+◌, ◌^◌, ◌<◌, ◌≤◌, List, [], ◌∷◌, ◌++◌, length, take, drop, get_or, refl, sym, ap, ◌∙◌, arith, length-append, inl}
use Rattle.std.proofs.Math.Seq.{take-add}
use Rattle.std.proofs.lemmas.List.{append_assoc, append-nil, length-drop, length-take-le, take-append-drop}
use Rattle.byteorder.specs.Endian.{big_number, big_bytes}
use Rattle.cod_record.specs.declared.parts.Head.{Head}
use Rattle.cod_record.specs.Record.{Record, range, range_text, count_text, record_text, IsRecord}
use Rattle.cod_record.specs.Head.{head_text, head_record, InRange}
use Rattle.cod_record.proofs.Bytes.{IsBytes, read_back, same_bytes, bytes_drop}

-- what has a text: the numbers fit their places, and the length is that of the bytes
pub record Fits (h : Head) (bytes : List ℕ) : Type 0 where
  pub block : h.block < 2 ^ 16
  pub number : h.number < 2 ^ 64
  pub off : h.off < 2 ^ 32
  pub whole : 19 + h.len < 2 ^ 32
  pub len : h.len ≡ length bytes

-- the text is that of the head, and the bytes
pub record IsFirst (h : Head) (bytes text : List ℕ) : Type 0 where
  pub fits : Fits h bytes
  pub text_is : text ≡ head_text h ++ bytes

pub length-head_text : (h : Head) → length (head_text h) ≡ 19
unfolding head_text
length-head_text h = refl

abbrev pub mk : ℕ → ℕ → ℕ → ℕ → Head
mk b n o l = record { block = b; number = n; off = o; len = l }

four : {a b c d e f g h : List ℕ} → a ≡ e → b ≡ f → c ≡ g → d ≡ h → ((a ++ b) ++ c) ++ d ≡ ((e ++ f) ++ g) ++ h
four p q r s = cc

field : (s : List ℕ) → IsBytes s → 19 ≤ length s → (i n : ℕ) → i + n ≤ 19 → take n (drop i s) ≡ big_bytes n (big_number n (drop i s))
field s small long i n within = sym (read_back n (drop i s) (omega (arith, length-drop i s)) (bytes_drop i s small))

-- the head that 19 bytes spell
pub read_head_text : (s : List ℕ) → IsBytes s → 19 ≤ length s → get_or s 0 0 ≡ 1
    → take 19 s ≡ head_text record { block = big_number 2 (drop 1 s); number = big_number 8 (drop 3 s); off = big_number 4 (drop 11 s); len = big_number 4 (drop 15 s) }
unfolding head_text
read_head_text [] small long kind = absurd (omega arith)
read_head_text (x ∷ xs) small long kind =
    let s : List ℕ = x ∷ xs in
    let one : take 18 xs ≡ take 14 xs ++ take 4 (drop 15 s) = take-add 14 4 xs in
    let two : take 14 xs ≡ take 10 xs ++ take 4 (drop 11 s) = take-add 10 4 xs in
    let three : take 10 xs ≡ take 2 xs ++ take 8 (drop 3 s) = take-add 2 8 xs in
    let whole : take 18 xs ≡ ((take 2 (drop 1 s) ++ take 8 (drop 3 s)) ++ take 4 (drop 11 s)) ++ take 4 (drop 15 s) =
    one ∙ ap (λ (l : List ℕ). l ++ take 4 (drop 15 s)) (two ∙ ap (λ (l : List ℕ). l ++ take 4 (drop 11 s)) three) in
    let fields = four (field s small long 1 2 (omega arith)) (field s small long 3 8 (omega arith)) (field s small long 11 4 (omega arith)) (field s small long 15 4 (omega arith)) in
    let kind_is : x ≡ 1 = kind in
    ap (λ (b : ℕ). b ∷ take 18 xs) kind_is ∙ ap (λ (l : List ℕ). 1 ∷ l) (whole ∙ fields)

regroup : (a b c d p : List ℕ) → (((a ++ b) ++ c) ++ d) ++ p ≡ a ++ (b ++ (c ++ (d ++ p)))
regroup a b c d p = simp append_assoc

-- a head's text says which head it is
pub same_head : (h g : Head) (p q : List ℕ) → InRange h → InRange g → head_text h ++ p ≡ head_text g ++ q → (h ≡ g) × (p ≡ q)
unfolding head_text
same_head h g p q rh rg e =
    let e1 : big_bytes 2 h.block ++ (big_bytes 8 h.number ++ (big_bytes 4 h.off ++ (big_bytes 4 h.len ++ p)))
    ≡ big_bytes 2 g.block ++ (big_bytes 8 g.number ++ (big_bytes 4 g.off ++ (big_bytes 4 g.len ++ q)))
    = sym (regroup (big_bytes 2 h.block) (big_bytes 8 h.number) (big_bytes 4 h.off) (big_bytes 4 h.len) p)
    ∙ ap (λ (l : List ℕ). drop 1 l) e
    ∙ regroup (big_bytes 2 g.block) (big_bytes 8 g.number) (big_bytes 4 g.off) (big_bytes 4 g.len) q in
    let s1 = same_bytes 2 h.block g.block _ _ rh.block rg.block e1 in
    let s2 = same_bytes 8 h.number g.number _ _ rh.number rg.number s1.1 in
    let s3 = same_bytes 4 h.off g.off _ _ rh.off rg.off s2.1 in
    let s4 = same_bytes 4 h.len g.len _ _ rh.len rg.len s3.1 in
    ((λ i. record { block = s1.0 i; number = s2.0 i; off = s3.0 i; len = s4.0 i }), s4.1)

pub fits_range : (h : Head) (bytes : List ℕ) → Fits h bytes → InRange h
fits_range h bytes fits = record { block = fits.block; number = fits.number; off = fits.off; len = omega (arith, fits.whole) }

-- a list that begins with a record's text has its 19 bytes and its bytes
pub record_long : (s bytes : List ℕ) (h : Head) (n : ℕ) → IsFirst h bytes (take n s) → 19 + h.len ≤ length s
record_long s bytes h n is =
    let cut : length s ≡ length (take n s) + length (drop n s) = ap length (sym (take-append-drop n s)) ∙ length-append (take n s) (drop n s) in
    omega (arith, cut, ap length is.text_is, length-append (head_text h) bytes, length-head_text h, is.fits.len)

pub record_begins : (s bytes : List ℕ) (h : Head) (n : ℕ) → IsFirst h bytes (take n s) → s ≡ head_text h ++ (bytes ++ drop n s)
record_begins s bytes h n is =
    sym (take-append-drop n s) ∙ ap (λ (l : List ℕ). l ++ drop n s) is.text_is ∙ append_assoc (head_text h) bytes (drop n s)

pub kind_is : (s bytes : List ℕ) (h : Head) (n : ℕ) → IsFirst h bytes (take n s) → get_or s 0 0 ≡ 1
unfolding head_text
kind_is s bytes h n is = ap (λ (l : List ℕ). get_or l 0 0) (record_begins s bytes h n is)

pub same_fields : {b n o l b' n' o' l' : ℕ} → b ≡ b' → n ≡ n' → o ≡ o' → l ≡ l' → mk b n o l ≡ mk b' n' o' l'
same_fields p q r s = λ i. mk (p i) (q i) (r i) (s i)

-- the head that stands at the front is the record's
pub head_here : (s bytes : List ℕ) (h : Head) (n : ℕ) (g : Head) → IsFirst h bytes (take n s) → InRange g → take 19 s ≡ head_text g → h ≡ g
head_here s bytes h n g is rg front =
    let other : s ≡ head_text g ++ drop 19 s = sym (take-append-drop 19 s) ∙ ap (λ (l : List ℕ). l ++ drop 19 s) front in
    (same_head h g (bytes ++ drop n s) (drop 19 s) (fits_range h bytes is.fits) rg (sym (record_begins s bytes h n is) ∙ other)).0

-- a head and enough bytes behind it are a record
pub record_here : (s : List ℕ) (g : Head) (whole : ℕ) → InRange g → take 19 s ≡ head_text g → whole ≡ 19 + g.len → whole < 2 ^ 32 → whole ≤ length s
    → IsFirst g (take g.len (drop 19 s)) (take whole s)
record_here s g whole rg front is small long = record {
  fits = record { block = rg.block; number = rg.number; off = rg.off; whole = omega arith; len = sym (length-take-le g.len (drop 19 s) (omega (arith, length-drop 19 s))) };
  text_is = ap (λ (k : ℕ). take k s) is ∙ take-add 19 g.len s ∙ ap (λ (l : List ℕ). l ++ take g.len (drop 19 s)) front;
}

-- a head, and what stands behind it
behind_head : (h : Head) (bytes : List ℕ) → length bytes ≡ h.len → record_text 1 (head_record h bytes) ≡ head_text h ++ bytes
unfolding head_text record_text count_text range_text
behind_head h bytes len =
    let last : big_bytes 4 (length bytes) ≡ big_bytes 4 h.len = ap (big_bytes 4) len in
    let whole : (((big_bytes 2 h.block ++ big_bytes 8 h.number) ++ big_bytes 4 h.off) ++ big_bytes 4 h.len) ++ bytes
    ≡ big_bytes 2 h.block ++ (big_bytes 8 h.number ++ ([] ++ ((big_bytes 4 h.off ++ (big_bytes 4 h.len ++ bytes)) ++ [])))
    = simp (append_assoc, append-nil) in
    sym (ap (λ (l : List ℕ). 1 ∷ l) whole ∙ ap (λ (l : List ℕ). 1 ∷ (big_bytes 2 h.block ++ (big_bytes 8 h.number ++ ([] ++ ((big_bytes 4 h.off ++ (l ++ bytes)) ++ []))))) (sym last))

length-first : (h : Head) (bytes : List ℕ) → length (head_text h ++ bytes) ≡ 19 + length bytes
length-first h bytes = omega (arith, length-append (head_text h) bytes, length-head_text h)

-- a head and as many bytes as it tells are a record
pub is_record : (h : Head) (bytes text : List ℕ) → IsFirst h bytes text → IsRecord 1 (head_record h bytes) text
is_record h bytes text is = record {
  known = inl refl;
  block = is.fits.block;
  number = is.fits.number;
  first_version = λ _. record { one = range h.off bytes; is = refl; fits = is.fits.off };
  second_version = λ two. absurd (omega arith);
  count = omega arith;
  size = omega (arith, ap length is.text_is, length-first h bytes, is.fits.len, is.fits.whole);
  text_is = is.text_is ∙ sym (behind_head h bytes (sym is.fits.len));
}

-- a record of the first version has a head
pub record AsFirst (text : List ℕ) : Type 0 where
  pub head : Head
  pub bytes : List ℕ
  pub is : IsFirst head bytes text

pub as_first : (r : Record) (text : List ℕ) → IsRecord 1 r text → AsFirst text
as_first r text is =
    let it = is.first_version refl in
    let h : Head = record { block = r.block; number = r.number; off = it.one.off; len = length it.one.bytes } in
    let same : r ≡ head_record h it.one.bytes = (λ i. record { block = r.block; number = r.number; ranges = it.is i }) in
    let text_is : text ≡ head_text h ++ it.one.bytes = is.text_is ∙ ap (record_text 1) same ∙ behind_head h it.one.bytes refl in
    record {
      head = h;
      bytes = it.one.bytes;
      is = record {
        fits = record { block = is.block; number = is.number; off = it.fits; whole = omega (arith, ap length text_is, length-first h it.one.bytes, is.size); len = refl };
        text_is = text_is;
      };
    }

pub head_begins_record : (h : Head) (bytes : List ℕ) → InRange h → 19 + h.len < 2 ^ 32 → length bytes ≡ h.len → IsRecord 1 (head_record h bytes) (head_text h ++ bytes)
head_begins_record h bytes range whole len = is_record h bytes (head_text h ++ bytes) (record {
  fits = record { block = range.block; number = range.number; off = range.off; whole = whole; len = sym len };
  text_is = refl;
})
