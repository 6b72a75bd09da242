-- A segment that was just built is sound.
use Rattle.cod_types.specs.Overwritten.{byte_of}
use Rattle.std.proofs.Common.{◌≡◌, ℕ, ◌+◌, ◌*◌, ◌<◌, List, [], get_or, replicate, Bool, cond, sym, ap, ap₂, ◌∙◌, subst, inl, inr, bit_xor, arith, Some, None, Option}
use Rattle.std.specs.Prelude.{nat_lt}
use Rattle.std.specs.Int.Bits.{xor_zero_r}
use Rattle.std.proofs.lemmas.Bool.{cases_lt, lt-ltb, le-ltb}
use Rattle.std.proofs.lemmas.List.{get_or-replicate, get_or_past, length-replicate}
use Rattle.cod_types.specs.Limits.{segment_length}
use Rattle.cod_region.specs.Device.{Zeros}
use Rattle.cod_code.specs.Segments.{column_byte}
use Rattle.cod_code.proofs.Segments.{column_at, zeros_have_zero_columns}
use Rattle.cod_chronicle.proofs.Growth.{chronicle-nil}
use Rattle.cod_chronicle.proofs.Nodes.{nodes_are_apart}
use Rattle.cod_claims.specs.declared.claim.Claim.{Claim}
use Rattle.cod_claims.specs.Claimed.{claim_at, kept_of, unclaimed}
use Rattle.cod_claims.proofs.Claiming.{none_at, unclaimed_are}
use Rattle.cod_parity.specs.Held.{Holds}
use Rattle.cod_parity.specs.State.{empty, State}
use Rattle.cod_seg.specs.Seg.{col_at}
use Rattle.cod_seg.specs.Sound.{noted_piece, pending_on}
use Rattle.cod_seg.specs.Laws.{NewIsSound}
use Rattle.cod_seg.proofs.Arriving.{empty_holds, told_content}

zero_at : (n i : ℕ) → ◌≡◌ {A = ℕ} (get_or (replicate n 0) i 0) 0
zero_at n i = elim (cases_lt i n) [
  | inl below ↦ get_or-replicate {A = ℕ} n i 0 0 below
  | inr past ↦ get_or_past (replicate {A = ℕ} n 0) i 0 (let l = length-replicate {A = ℕ} n 0 in omega (arith, l, past))
]

zero_column : (k block i x : ℕ) → x < block → ◌≡◌ {A = ℕ} (column_byte k block i (replicate (k * block) 0) x) 0
zero_column k block i x lt =
    sym (column_at k block i (replicate {A = ℕ} (k * block) 0) x lt) ∙ ap (λ (l : List ℕ). get_or l x 0) (zeros_have_zero_columns k block i) ∙ zero_at block x

zero_held : (o : Option (List ℕ)) (n x : ℕ) (held : List ℕ) → Zeros o n → o ≡ Some held → ◌≡◌ {A = ℕ} (get_or held x 0) 0
zero_held None n x held z e = cc
zero_held (Some h) n x held z e =
    let same : h ≡ held = cc in
    ap (λ (l : List ℕ). get_or l x 0) (sym same ∙ z) ∙ zero_at n x

unclaimed_at : (j : ℕ) → claim_at unclaimed j ≡ None
unclaimed_at j = none_at 16 j

pub new_is_sound : NewIsSound
new_is_sound s is =
    let g = s.site.shape in
    rw is.begins (record {
      shape = is.within;
      dated = record { first = omega arith; last = omega arith; second = λ two. absurd (omega (arith, two)) };
      history = record { chronicle = chronicle-nil; legal = tt; honest = tt; plain = λ i. let z = zero_at (segment_length g) i in rw z (omega arith) };
      columns = record {
        size = is.size;
        most = is.most_nodes;
        each = λ i lt.
            let c = is.each i lt in
            record {
              there = c.home;
              owned = c.owned;
              up = c.live;
              shape = ap (λ (t : State). t.shape) c.is;
              tells = c.tells;
              full = c.full;
              clean = λ u. c.clean;
              marked = λ count e. cc;
              sure = c.sure;
              fits = let r = c.room in omega (arith, r);
              roomy = λ e. c.room;
              block = λ low. c.long ∙ ap (λ (b : Bool). cond b g.block (g.block + g.reserve)) (lt-ltb i g.k low);
              plain = λ low. c.is ∙ ap (λ (b : Bool). empty g (cond b 0 g.reserve) 10000 (col_at s.cols i).state.device) (lt-ltb i g.k low);
              reserve = λ high.
                  let long : (col_at s.cols i).state.device.size ≡ g.block + g.reserve = c.long ∙ ap (λ (b : Bool). cond b g.block (g.block + g.reserve)) (le-ltb i g.k high) in
                  let size : cond (nat_lt i g.k) 0 g.reserve ≡ g.reserve = ap (λ (b : Bool). cond b 0 g.reserve) (le-ltb i g.k high) in
                  let least = is.within.least_reserve in
                  rw c.is (record {
                    within = is.within;
                    used = omega arith;
                    least = omega (arith, size, least);
                    most = omega (arith, size);
                    average = omega arith;
                    whole =
                        omega (arith, size, long);
                  });
              exact = λ high u.
                  c.long ∙ ap (λ (b : Bool). cond b g.block (g.block + g.reserve)) (le-ltb i g.k high)
                  ∙ sym (ap (λ (b : Bool). g.block + cond b 0 g.reserve) (le-ltb i g.k high)) ∙ ap (λ (q : State). g.block + q.size) (sym c.is);
            };
        apart = λ i j a b e. (nodes_are_apart s.site [] is.enough_nodes tt).differ i j a b e;
        known = λ i lt. (nodes_are_apart s.site [] is.enough_nodes tt).there i lt;
      };
      cut = record { size = length-replicate {A = ℕ} 16 0; each = λ j. let z = zero_at 16 j in omega (arith, z) };
      claimed = record { sixteen = unclaimed_are; each = λ j c here. absurd (let e = sym (unclaimed_at j) ∙ here in cc) };
      rebuilt = tt;
      single = tt;
      holds = λ told enough. record {
        blocks = λ i low live.
            let c = is.each i (let m = is.within.data_among_columns in omega (arith, m, low)) in
            let t = told_content (col_at s.cols i).state.device.content (c.tells ∙ told) in
            let size = c.long ∙ ap (λ (b : Bool). cond b g.block (g.block + g.reserve)) (lt-ltb i g.k low) in
            record {
              held = t.0;
              told = t.1;
              each = λ x lt.
                  zero_held (col_at s.cols i).state.device.content (col_at s.cols i).state.device.size x t.0 c.zeros t.1
                  ∙ sym (ap₂ bit_xor (zero_column g.k g.block i x (omega (arith, size, lt))) (ap (λ (o : Option Claim). byte_of (kept_of o) x) (unclaimed_at i)) ∙ xor_zero_r 0);
            };
        parities = λ i high below live.
            let c = is.each i below in
            let d = (col_at s.cols i).state.device in
            let t = told_content d.content (c.tells ∙ told) in
            let f = c.full t.0 t.1 in
            let long : d.size ≡ g.block + g.reserve = c.long ∙ ap (λ (b : Bool). cond b g.block (g.block + g.reserve)) (le-ltb i g.k high) in
            subst (λ (q : State). Holds q (replicate 16 0) (column_byte g.k g.block i (replicate (g.k * g.block) 0)) (pending_on g.k unclaimed i)) (sym c.is)
            (empty_holds g (replicate 16 0) (cond (nat_lt i g.k) 0 g.reserve) 10000 d t.0 (column_byte g.k g.block i (replicate (g.k * g.block) 0)) (pending_on g.k unclaimed i) t.1
            (omega (arith, f, long))
            (λ x lt. zero_held d.content d.size x t.0 c.zeros t.1 ∙ sym (zero_column g.k g.block i x lt))
            (λ j. ap (noted_piece g.k i j) (unclaimed_at j)));
        target = tt;
      };
    })
