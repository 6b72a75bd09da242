-- What a segment's name tells.
use Rattle.std.proofs.Common.{◌≡◌, ◌≢◌, ℕ, zero, suc, Bool, true, false, Option, Some, None, List, [], ◌∷◌, ◌++◌, length, refl, sym, ap, ◌∙◌, arith}
use Rattle.atomic_table.specs.Seated.{TableId}
use Rattle.cod_types.specs.Limits.{Shape, shape}
use Rattle.cod_chronicle.specs.Said.{Site, site_as}
use Rattle.cod_seg.specs.Seg.{Seg}
use Rattle.cod_stripe.specs.Standing.{bit, name_of, pools_numbers, shape_numbers}
use Rattle.cod_pass.specs.Places.{NamesTell, SamePlace}

-- lists with fronts that are equally long
parts_same : {A : Type 0} (xs ys us vs : List A) → length xs ≡ length ys → xs ++ us ≡ ys ++ vs → (xs ≡ ys) × (us ≡ vs)
parts_same [] [] us vs long e = (refl, e)
parts_same [] (y ∷ ys) us vs long e = absurd (omega arith)
parts_same (x ∷ xs) [] us vs long e = absurd (omega arith)
parts_same (x ∷ xs) (y ∷ ys) us vs long e =
    let head : x ≡ y = cc e in
    let rest = parts_same xs ys us vs (omega arith) (cc e) in (cc (head, rest.0), rest.1)

bit_same : (a b : Bool) → bit a ≡ bit b → a ≡ b
bit_same true true e = refl
bit_same true false e = absurd (omega arith)
bit_same false true e = absurd (omega arith)
bit_same false false e = refl

-- what stands behind the pools
abbrev rest_of : Shape → (segment : ℕ) → (told : Bool) → (frail : List ℕ) → List ℕ
rest_of g segment told frail = shape_numbers g ++ (segment ∷ bit told ∷ frail)

record SameRest (g h : Shape) (i j : ℕ) (a b : Bool) (xs ys : List ℕ) : Type 0 where
  shape_is : h ≡ g
  segment : j ≡ i
  told : b ≡ a
  frail : ys ≡ xs

rest_same : (g h : Shape) (i j : ℕ) (a b : Bool) (xs ys : List ℕ) → rest_of h j b ys ≡ rest_of g i a xs → SameRest g h i j a b xs ys
rest_same g h i j a b xs ys e =
    let version : h.version ≡ g.version = cc e in
    let n : h.n ≡ g.n = cc e in
    let k : h.k ≡ g.k = cc e in
    let block : h.block ≡ g.block = cc e in
    let update : h.update ≡ g.update = cc e in
    let reserve : h.reserve ≡ g.reserve = cc e in
    let unit : h.unit ≡ g.unit = cc e in
    let alpha : h.alpha ≡ g.alpha = cc e in
    let bits : bit b ≡ bit a = cc e in
    let same : shape h.version h.n h.k h.block h.update h.reserve h.unit h.alpha ≡ shape g.version g.n g.k g.block g.update g.reserve g.unit g.alpha =
    rw (version, n, k, block, update, reserve, unit, alpha) refl in
    record { shape_is = same; segment = cc e; told = bit_same b a bits; frail = cc e }

site_same : (p q : Site) → q.shape ≡ p.shape → q.segment ≡ p.segment → q.nodes ≡ p.nodes → q.told ≡ p.told → q ≡ p
site_same p q shape segment nodes told =
    let same : site_as q.told q.shape q.nodes q.segment ≡ site_as p.told p.shape p.nodes p.segment = rw (shape, segment, nodes, told) refl in same

table_same : (a b : TableId) → b.words ≡ a.words → b.slots ≡ a.slots → b.views_name ≡ a.views_name → b.atom ≡ a.atom → b.block ≡ a.block → b.offset ≡ a.offset
    → b.slot_names ≡ a.slot_names → b ≡ a
table_same a b words slots views_name atom block offset slot_names =
    let make : ℕ → ℕ → ℕ → ℕ → ℕ → ℕ → List ℕ → TableId = λ w s v t k o l.
    record { words = w; slots = s; views_name = v; atom = t; block = k; offset = o; slot_names = l } in
    let same : make b.words b.slots b.views_name b.atom b.block b.offset b.slot_names ≡ make a.words a.slots a.views_name a.atom a.block a.offset a.slot_names =
    rw (words, slots, views_name, atom, block, offset, slot_names) refl in same

record Split (p q : Option TableId) (xs ys : List ℕ) : Type 0 where
  pools : q ≡ p
  behind : ys ≡ xs

split : (p q : Option TableId) (xs ys : List ℕ) → pools_numbers q ++ ys ≡ pools_numbers p ++ xs → Split p q xs ys
split None None xs ys e = record { pools = refl; behind = cc e }
split None (Some b) xs ys e = absurd (let bad : ◌≡◌ {A = ℕ} 1 0 = cc e in omega arith)
split (Some a) None xs ys e = absurd (let bad : ◌≡◌ {A = ℕ} 0 1 = cc e in omega arith)
split (Some a) (Some b) xs ys e =
    let long : length b.slot_names ≡ length a.slot_names = cc e in
    let parts = parts_same b.slot_names a.slot_names ys xs long (cc e) in
    record {
      pools = ap (λ (x : TableId). Some x) (table_same a b (cc e) (cc e) (cc e) (cc e) (cc e) (cc e) parts.0);
      behind = parts.1;
    }

pub names_tell : NamesTell
names_tell s t e =
    let nodes : t.site.nodes ≡ s.site.nodes = cc e in
    let parts = split s.pools t.pools (rest_of s.site.shape s.site.segment s.site.told s.frail) (rest_of t.site.shape t.site.segment t.site.told t.frail) (cc e) in
    let rest = rest_same s.site.shape t.site.shape s.site.segment t.site.segment s.site.told t.site.told s.frail t.frail parts.behind in
    record {
      site = site_same s.site t.site rest.shape_is rest.segment nodes rest.told;
      frail = rest.frail;
      pools = parts.pools;
    }

-- and a place all of the name
pub same_name : (s t : Seg) → SamePlace s t → name_of t ≡ name_of s
same_name s t p = rw (p.site, p.pools, p.frail) refl
