-- New columns, one after another.
use Rattle.std.proofs.Common.{◌≡◌, ◌≢◌, inl, inr, ℕ, ◌+◌, ◌<◌, ◌≤◌, List, [], ◌∷◌, ◌++◌, Bool, true, false, Option, Some, None, length, length-append, refl, sym, ap, ◌∙◌, subst, arith}
use Rattle.std.specs.Prelude.{nat_lt, if◌then◌else◌, is_some, slice_index}
use Rattle.std.proofs.lemmas.Bool.{cases_eq}
use Rattle.std.proofs.lemmas.List.{get_or_append_left}
use Rattle.std.proofs.Math.Seq.{get_or-append_seam}
use Rattle.cod_types.proofs.Homes.{homes_differ}
use Rattle.cod_types.specs.Columns.{column_size, home_of}
use Rattle.cod_types.specs.Limits.{Shape}
use Rattle.cod_region.specs.Device.{Device, Zeros}
use Rattle.cod_chronicle.specs.Said.{Site}
use Rattle.cod_parity.specs.State.{empty}
use Rattle.cod_place.specs.Room.{Room}
use Rattle.cod_seg.specs.Seg.{Col, col_at, no_col}
use Rattle.cod_seg.specs.Sound.{is_frail}
use Rattle.cod_seg.specs.Start.{IsNewColumn}
use Rattle.cod_stripe.specs.Building.{AreNew, HomesHaveRoom, IsUntouched}

-- a column of zeros on a region that was just made, in a room at its home
pub new_column : (site : Site) (frail : List ℕ) (i node bytes : ℕ) (g : Shape) (room : Room) (d : Device) (never told : Bool)
    → site.shape ≡ g → home_of site.segment i site.nodes ≡ node → room.node.0 ≡ node → room.bytes ≡ bytes → room.of ≡ None → bytes ≡ column_size g i
    → d ≡ record { size = bytes; content = d.content; reads = 0; writes = 0; faults = 0; never_fails = never }
    → is_some d.content ≡ told → site.told ≡ told → ((held : List ℕ) → d.content ≡ Some held → length held ≡ d.size) → Zeros d.content bytes
    → (is_frail frail node ≡ false → never ≡ true)
    → (c made : Col) (size : ℕ) → size ≡ (if nat_lt i g.k then 0 else g.reserve) → c ≡ made → made ≡ record { room = room; is_up = true; state = empty g size 10000 d }
    → IsNewColumn site frail None i c
new_column site frail i node bytes g room d never told shape home on long plain wide fresh tells same full zeros sure c made size reserve is state =
    let size_is : d.size ≡ bytes = ap (λ (x : Device). x.size) fresh in
    subst (λ (x : Col). IsNewColumn site frail None i x) (sym (is ∙ state)) (record {
      home = on ∙ sym home;
      owned = plain;
      live = refl;
      is = rw shape (ap (λ (n : ℕ). empty g n 10000 d) reserve);
      tells = tells ∙ sym same;
      full = full;
      clean = ap (λ (x : Device). x.faults) fresh;
      sure = λ none. ap (λ (x : Device). x.never_fails) fresh ∙ sure (subst (λ (n : ℕ). is_frail frail n ≡ false) on none);
      room = long ∙ sym size_is;
      long = rw shape (size_is ∙ wide);
      zeros = subst (Zeros d.content) (sym size_is) zeros;
    })

-- a column on a region that was just made is untouched
pub untouched_column : (room : Room) (d : Device) (g : Shape) (size average : ℕ) (content : Option (List ℕ)) (long : ℕ) (never : Bool) (c made : Col)
    → d ≡ record { size = long; content = content; reads = 0; writes = 0; faults = 0; never_fails = never } → c ≡ made → made ≡ record { room = room; is_up = true; state = empty g size average d }
    → IsUntouched c
untouched_column room d g size average content long never c made fresh is state =
    subst IsUntouched (sym (is ∙ state)) (ap (λ (x : Device). x.reads) fresh, ap (λ (x : Device). x.writes) fresh)

-- what holds of so many columns, each by itself, holds of one more
at_more : (P : ℕ → Col → Type 0) (cols : List Col) (count : ℕ) (c : Col) → length cols ≡ count → ((i : ℕ) → i < count → P i (col_at cols i)) → P count c
    → (i : ℕ) → i < count + 1 → P i (col_at (cols ++ c ∷ []) i)
at_more P cols count c size each next = λ i below. elim (cases_eq i count) [
  | inl same ↦ subst (λ (j : ℕ). P j (col_at (cols ++ c ∷ []) j)) (sym same)
      (subst (λ (x : Col). P count x) (sym (subst (λ (j : ℕ). col_at (cols ++ c ∷ []) j ≡ c) size (get_or-append_seam cols c [] no_col))) next)
  | inr diff ↦ (let lower : i < count = omega (arith, below, diff) in
      subst (λ (x : Col). P i x) (sym (get_or_append_left cols (c ∷ []) no_col i (omega (arith, lower, size)))) (each i lower))
]

pub one_more : (site : Site) (frail : List ℕ) (cols : List Col) (count : ℕ) (c : Col) → AreNew site frail cols count → IsNewColumn site frail None count c → IsUntouched c
    → AreNew site frail (cols ++ c ∷ []) (count + 1)
one_more site frail cols count c new next clean = record {
  size = let l = length-append cols (c ∷ []) in let s = new.size in omega arith;
  each = at_more (λ i x. IsNewColumn site frail None i x) cols count c new.size new.each next;
  untouched = at_more (λ i x. IsUntouched x) cols count c new.size new.untouched clean;
}

-- the room of one column leaves the others theirs, since their homes differ
pub room_left : (g : Shape) (segment nodes col : ℕ) (old new : List ℕ) → g.n ≤ nodes → col < g.n → HomesHaveRoom g segment nodes col old
    → ((x : ℕ) → x ≢ home_of segment col nodes → slice_index new x ≡ slice_index old x) → HomesHaveRoom g segment nodes (col + 1) new
room_left g segment nodes col old new enough there room same = λ i low high.
    let differ = homes_differ segment nodes i col (omega (arith, high, enough)) (omega (arith, there, enough)) (λ e. omega (arith, low, e)) in
    let e = same (home_of segment i nodes) differ in
    let r = room i (omega (arith, low)) high in
    rw e r
