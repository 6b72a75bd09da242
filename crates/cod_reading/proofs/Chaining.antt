-- Reads after reads.
use Rattle.std.proofs.Common.{◌≡◌, ℕ, zero, suc, ◌+◌, ◌<◌, ◌≤◌, List, length, Bool, true, false, cond, refl, sym, ap, ◌∙◌, subst, arith}
use Rattle.cod_types.specs.Faults.{bump, grown}
use Rattle.std.specs.Prelude.{◌&&◌, ◌==◌, nat_lt}
use Rattle.cod_types.specs.Plain.{bytes_at}
use Rattle.cod_layout.specs.Blocks.{block_of}
use Rattle.cod_region.specs.Device.{Device}
use Rattle.cod_chronicle.specs.Event.{Request, Setting}
use Rattle.cod_chronicle.specs.Said.{bytes_of, Site}
use Rattle.cod_seg.specs.Calls.{block_reads, costs, is_source}
use Rattle.cod_seg.specs.Happens.{Happened, Happens}
use Rattle.cod_seg.specs.Laws.{up_below}
use Rattle.cod_seg.specs.Seg.{Col, col_at, Seg}
use Rattle.cod_seg.specs.Sound.{is_frail, Sound}
use Rattle.cod_seg.specs.Steps.{Goes, goes, stays, Step}
use Rattle.cod_segment.specs.Events.{Counts, IsSettingOf, Makes, NoneFails}
use Rattle.cod_reading.specs.Reads.{Brings, Reads}

-- ---- chains of steps

pub makes_none : (w : Setting) (r : Request) (t : ℕ) (s : Seg) → Makes w r t t false s s
makes_none w r t s = record { steps = stays s; happened = record { clock = refl; goes_on = refl } }

pub makes_more : (w : Setting) (r : Request) (t mid after : ℕ) (done : Bool) (s v u : Seg) → Makes w r t mid false s v → (step : Step v u) → Happens w r mid after done v u step
    → Makes w r t after done s u
makes_more w r t mid after done s v u before step is = record { steps = goes s v u before.steps step; happened = (mid, before.happened, is) }

goes_then : (w : Setting) (r : Request) (t mid after : ℕ) (done : Bool) (s v u : Seg) → Makes w r t mid false s v → (steps : Goes v u) → Happened w r mid after done v u steps
    → Makes w r t after done s u
goes_then w r t mid after done s v u before (stays x) is = rw (is.clock, is.goes_on) before
goes_then w r t mid after done s v u before (goes a b c later step) is =
    makes_more w r t is.0 after done s b c (goes_then w r t mid is.0 false s a b before later is.1) step is.2

pub makes_then : (w : Setting) (r : Request) (t mid after : ℕ) (done : Bool) (s v u : Seg) → Makes w r t mid false s v → Makes w r mid after done v u → Makes w r t after done s u
makes_then w r t mid after done s v u before later = goes_then w r t mid after done s v u before later.steps later.happened

-- a setting of one is one of the other
pub setting_after : (w : Setting) (s v : Seg) → v.site ≡ s.site → v.frail ≡ s.frail → IsSettingOf w s → IsSettingOf w v
setting_after w s v site frail is = record { site = is.site ∙ sym site; may = λ node e. is.may node (sym (ap (λ (l : List ℕ). is_frail l node) frail) ∙ e) }

-- ---- counts

pub grown_then : (a b x : ℕ) → grown b (grown a x) ≡ grown (a + b) x
grown_then a zero x = (let e : a + 0 ≡ a = omega arith in rw e refl)
grown_then a (suc b) x = (let e : a + suc b ≡ suc (a + b) = omega arith in rw e (ap bump (grown_then a b x)))

pub counts_then : (a b : ℕ) (x y z : Device) → Counts (costs a 0) x y → Counts (costs b 0) y z → Counts (costs (a + b) 0) x z
counts_then a b x y z first second = (
  second.0 ∙ ap (grown b) first.0 ∙ grown_then a b x.reads,
  second.1 ∙ first.1,
)

-- as many columns are up, where the same are
pub up_same : (n : ℕ) (a b : List Col) → ((i : ℕ) → i < n → (col_at a i).is_up ≡ (col_at b i).is_up) → up_below n a ≡ up_below n b
up_same zero a b same = refl
up_same (suc n) a b same =
    let before = up_same n a b (λ i lt. same i (omega (arith, lt))) in
    let here : ◌≡◌ {A = ℕ} (cond (col_at a n).is_up 1 0) (cond (col_at b n).is_up 1 0) = ap (λ (u : Bool). cond u 1 0) (same n (omega arith)) in
    omega (arith, before, here)

-- ---- reads after reads

pub reads_none : (t : ℕ) (s : Seg) → Sound s → Reads (λ i. 0) t t s s
reads_none t s sound = record {
  makes = λ w r is. makes_none w r t s;
  sound = sound;
  becomes = refl;
  rooms = λ i. refl;
  falls = λ i up. up;
  long = omega arith;
  numbers = λ who. refl;
  bytes = refl;
  counts = λ none i below. (refl, refl);
}

pub site_after : (count : ℕ → ℕ) (t after : ℕ) (s u : Seg) → Reads count t after s u → u.site ≡ s.site
site_after count t after s u is = ap (λ (x : Seg). x.site) is.becomes

pub frail_after : (count : ℕ → ℕ) (t after : ℕ) (s u : Seg) → Reads count t after s u → u.frail ≡ s.frail
frail_after count t after s u is = ap (λ (x : Seg). x.frail) is.becomes

falls_true : (a b : Bool) → (a ≡ true → b ≡ true) → (b ≡ true → a ≡ true) → a ≡ b
falls_true true b on back = sym (on refl)
falls_true false true on back = back refl
falls_true false false on back = refl

-- where none failed the same columns are up
pub same_up : (count : ℕ → ℕ) (t after : ℕ) (s u : Seg) → Reads count t after s u → NoneFails s u → (i : ℕ) → i < s.site.shape.n → (col_at u.cols i).is_up ≡ (col_at s.cols i).is_up
same_up count t after s u is none i below = falls_true (col_at u.cols i).is_up (col_at s.cols i).is_up (is.falls i) (none i below)

abbrev pub SameUp : (s u : Seg) → Type 0
SameUp s u = (i : ℕ) → i < s.site.shape.n → (col_at u.cols i).is_up ≡ (col_at s.cols i).is_up

pub reads_then : (first second both : ℕ → ℕ) (t mid after : ℕ) (s v u : Seg) → Reads first t mid s v → Reads second mid after v u
    → (SameUp s v → (i : ℕ) → i < s.site.shape.n → both i ≡ first i + second i) → Reads both t after s u
reads_then first second both t mid after s v u one two sums =
    let site = site_after first t mid s v one in
    let n : v.site.shape.n ≡ s.site.shape.n = ap (λ (x : Site). x.shape.n) site in
    record {
      makes = λ w r is. makes_then w r t mid after false s v u (one.makes w r is) (two.makes w r (setting_after w s v site (frail_after first t mid s v one) is));
      sound = two.sound;
      becomes = two.becomes ∙ ap (λ (x : Seg). record x { cols = u.cols; log = u.log }) one.becomes;
      rooms = λ i. two.rooms i ∙ one.rooms i;
      falls = λ i up. one.falls i (two.falls i up);
      long =
          let a = one.long in
          let b : length u.log + up_below s.site.shape.n u.cols ≤ length v.log + up_below s.site.shape.n v.cols = subst (λ (m : ℕ). length u.log + up_below m u.cols ≤ length v.log + up_below m v.cols) n two.long in
          omega (arith, a, b);
      numbers = λ who. two.numbers who ∙ one.numbers who;
      bytes = subst (λ (x : Site). bytes_of x u.log ≡ bytes_of x v.log) site two.bytes ∙ one.bytes;
      counts = λ none i below.
          let first_none : NoneFails s v = λ m lt up. two.falls m (none m lt up) in
          let second_none : NoneFails v u = λ m lt up. none m (subst (λ (x : ℕ). m < x) n lt) (one.falls m up) in
          let counted = counts_then (first i) (second i) (col_at s.cols i).state.device (col_at v.cols i).state.device (col_at u.cols i).state.device
          (one.counts first_none i below) (two.counts second_none i (subst (λ (x : ℕ). i < x) (sym n) below)) in
          subst (λ (m : ℕ). Counts (costs m 0) (col_at s.cols i).state.device (col_at u.cols i).state.device) (sym (sums (same_up first t mid s v one first_none) i below)) counted;
    }

-- other counts, where they are the same
pub reads_as : (count other : ℕ → ℕ) (t after : ℕ) (s u : Seg) → ((i : ℕ) → i < s.site.shape.n → other i ≡ count i) → Reads count t after s u → Reads other t after s u
reads_as count other t after s u same is = record {
  makes = is.makes;
  sound = is.sound;
  becomes = is.becomes;
  rooms = is.rooms;
  falls = is.falls;
  long = is.long;
  numbers = is.numbers;
  bytes = is.bytes;
  counts = λ none i below. rw (same i below) (is.counts none i below);
}

-- ---- the same columns

source_same : (k n : ℕ) (a b : List Col) → ((i : ℕ) → i < n → (col_at a i).is_up ≡ (col_at b i).is_up) → (i : ℕ) → i < n → is_source k a i ≡ is_source k b i
source_same k n a b same i below =
    ap (λ (u : Bool). u && nat_lt (up_below i a) k) (same i below)
    ∙ ap (λ (m : ℕ). (col_at b i).is_up && nat_lt m k) (up_same i a b (λ x lt. same x (omega (arith, lt, below))))

pub block_reads_same : (k n : ℕ) (a b : List Col) → ((i : ℕ) → i < n → (col_at a i).is_up ≡ (col_at b i).is_up) → (j i : ℕ) → j < n → i < n → block_reads k a j i ≡ block_reads k b j i
block_reads_same k n a b same j i among below =
    ap (λ (u : Bool). cond {A = ℕ} u (cond (j == i) 1 0) (cond (is_source k a i) 1 0)) (same j among)
    ∙ ap (λ (u : Bool). cond {A = ℕ} (col_at b j).is_up (cond (j == i) 1 0) (cond u 1 0)) (source_same k n a b same i below)

-- bytes of block j that are brought later are those that it had
pub brings_before : (count : ℕ → ℕ) (t after : ℕ) (s v : Seg) (j off : ℕ) (bytes : List ℕ) → Reads count t after s v → Brings v j off bytes → Brings s j off bytes
brings_before count t after s v j off bytes is brings told =
    let site = site_after count t after s v is in
    brings (ap (λ (x : Site). x.told) site ∙ told) ∙ ap (λ (x : Site). bytes_at (block_of x.shape.block j (bytes_of x v.log)) off (length bytes)) site
    ∙ ap (λ (l : List ℕ). bytes_at (block_of s.site.shape.block j l) off (length bytes)) is.bytes

-- one part's reads, after some marks
pub reads_part : (j t mid after : ℕ) (s v u : Seg) → Sound s → j < s.site.shape.k → Reads (λ i. 0) t mid s v → Reads (block_reads v.site.shape.k v.cols j) mid after v u
    → Reads (block_reads s.site.shape.k s.cols j) t after s u
reads_part j t mid after s v u sound low one two =
    let k = ap (λ (x : Site). x.shape.k) (site_after (λ (i : ℕ). 0) t mid s v one) in
    let n = sound.shape.data_among_columns in
    reads_then (λ (i : ℕ). 0) (block_reads v.site.shape.k v.cols j) (block_reads s.site.shape.k s.cols j) t mid after s v u one two
    (λ same i lt.
    let e = ap (λ (x : ℕ). block_reads x v.cols j i) k ∙ block_reads_same s.site.shape.k s.site.shape.n v.cols s.cols same j i (omega (arith, low, n)) lt in
    omega (arith, e))
