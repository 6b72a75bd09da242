-- A column's meaning is one.
use Rattle.std.proofs.Common.{◌≡◌, ℕ, ◌+◌, ◌<◌, List, [], ◌∷◌, ◌++◌, length, take, drop, Option, get_or, bit_xor, refl, sym, ap, ap₂, ◌∙◌, arith, length-append}
use Rattle.std.proofs.lemmas.List.{take_at, drop_at, get_or-take}
use Rattle.std.specs.List.{flat_map, AllByRecursion}
use Rattle.cod_types.specs.Limits.{Shape}
use Rattle.cod_record.proofs.Texts.{same_record}
use Rattle.cod_parity.specs.Log.{change, Logged, IsIn, text}
use Rattle.cod_parity.specs.State.{State, Means}
use Rattle.cod_parity.specs.Held.{HasValue, Holds, no_pieces, Piece}
use Rattle.cod_parity.proofs.Holding.{empty_holds}
use Rattle.cod_parity.proofs.Records.{text_some}

same_texts : (g : Shape) (ls ms : List Logged) → AllByRecursion (IsIn g) ls → AllByRecursion (IsIn g) ms → flat_map text ls ≡ flat_map text ms → ls ≡ ms
same_texts g [] [] el em same = refl
same_texts g [] (m ∷ ms) el em same = absurd (omega (arith, ap length same, length-append (text m) (flat_map text ms), text_some m))
same_texts g (l ∷ ls) [] el em same = absurd (omega (arith, ap length same, length-append (text l) (flat_map text ls), text_some l))
same_texts g (l ∷ ls) (m ∷ ms) el em same =
    let one = same_record l.version m.version l.whole m.whole (text l) (text m) (flat_map text ls) (flat_map text ms) el.0.is em.0.is same in
    let rest = same_texts g ls ms el.1 em.1 one.2 in
    let first : l ≡ m = λ i. record { version = one.0 i; whole = one.1 i } in
    λ i. first i ∷ rest i

-- what a state means is determined
pub one_meaning : (s : State) (base other : List ℕ) (records others : List Logged) → Means s base records → Means s other others → (base ≡ other) × (records ≡ others)
one_meaning s base other records others m n =
    let whole : (base ++ flat_map text records) ++ m.rest ≡ (other ++ flat_map text others) ++ n.rest = let e = sym m.content ∙ n.content in cc in
    let size : ℕ = s.shape.block in
    let front : base ++ flat_map text records ≡ other ++ flat_map text others =
    sym (take_at (base ++ flat_map text records) m.rest (size + s.used) (omega (arith, length-append base (flat_map text records), m.base_size, m.used)))
    ∙ ap (λ (l : List ℕ). take (size + s.used) l) whole
    ∙ take_at (other ++ flat_map text others) n.rest (size + s.used) (omega (arith, length-append other (flat_map text others), n.base_size, n.used)) in
    let same : base ≡ other = sym (take_at base (flat_map text records) size m.base_size) ∙ ap (λ (l : List ℕ). take size l) front ∙ take_at other (flat_map text others) size n.base_size in
    let texts : flat_map text records ≡ flat_map text others = sym (drop_at base (flat_map text records) size m.base_size) ∙ ap (λ (l : List ℕ). drop size l) front
    ∙ drop_at other (flat_map text others) size n.base_size in
    (same, same_texts s.shape records others m.each n.each texts)

pub one_value : (s : State) (cuts : List ℕ) (v w : ℕ → ℕ) → HasValue s cuts v → HasValue s cuts w → (x : ℕ) → x < s.shape.block → v x ≡ w x
one_value s cuts v w h k x inside =
    let same = one_meaning s h.holds.base k.holds.base h.holds.records k.holds.records h.holds.means k.holds.means in
    sym (h.holds.value_is x inside) ∙ ap₂ (λ (b : List ℕ) (ls : List Logged). bit_xor (get_or b x 0) (change cuts ls x)) same.0 same.1 ∙ k.holds.value_is x inside

pub held_again : (s : State) (cuts : List ℕ) (v w : ℕ → ℕ) (p q : ℕ → Option Piece) → ((x : ℕ) → x < s.shape.block → v x ≡ w x) → ((j : ℕ) → p j ≡ q j) → Holds s cuts v p → Holds s cuts w q
held_again s cuts v w p q values pieces h = record {
  base = h.base;
  records = h.records;
  means = h.means;
  value_is = λ x inside. h.value_is x inside ∙ values x inside;
  in_flight = λ j. rw (← pieces j) (h.in_flight j);
}

-- what is held is told by the geometry, the bytes in use, the least numbers and the content alone
pub held_elsewhere : (s t : State) (cuts : List ℕ) (v : ℕ → ℕ) (p : ℕ → Option Piece) → t.shape ≡ s.shape → t.used ≡ s.used → t.lowest ≡ s.lowest
    → t.device.content ≡ s.device.content → Holds s cuts v p → Holds t cuts v p
held_elsewhere s t cuts v p shape used lowest content h =
    let block : t.shape.block ≡ s.shape.block = ap (λ (g : Shape). g.block) shape in
    record {
      base = h.base;
      records = h.records;
      means = record {
        rest = h.means.rest;
        content = content ∙ h.means.content;
        base_size = h.means.base_size ∙ sym block;
        used = h.means.used ∙ sym used;
        each = rw shape h.means.each;
        noted = lowest ∙ h.means.noted;
      };
      value_is = λ x inside. h.value_is x (omega (arith, block, inside));
      in_flight = λ j. rw shape (h.in_flight j);
    }

-- a column of no record holds the front of its region
pub front_holds : (cuts : List ℕ) (block : ℕ) (held : List ℕ) (s : State) → s.shape.block ≡ block → Means s (take block held) [] → Holds s cuts (λ x. get_or held x 0) no_pieces
front_holds cuts block held s size means =
    held_again s cuts (λ x. get_or (take block held) x 0) (λ x. get_or held x 0) no_pieces no_pieces (λ x inside. get_or-take block held x 0 (omega (arith, size, inside))) (λ j. refl)
    (empty_holds cuts (take block held) s means)
