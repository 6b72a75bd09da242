-- A piece of a rebuild.
use Rattle.std.proofs.Common.{◌≡◌, ◌≢◌, ◌⊎◌, inl, inr, ℕ, zero, suc, ◌+◌, ◌-◌, ◌<◌, ◌≤◌, min, List, [], ◌∷◌, ◌++◌, length, take, Bool, true, false, cond, Option, Some, None, refl, sym, ap, ◌∙◌, subst, arith}
use Rattle.std.specs.Prelude.{◌&&◌, ◌==◌, nat_lt, slice_index_or, slice_set, IsTrue, IsSome}
use Rattle.std.proofs.Math.Seq.{map-set_same}
use Rattle.std.proofs.lemmas.Bool.{cases_Bool, cases_eq, lt-ltb}
use Rattle.std.proofs.lemmas.List.{append_assoc, get_or-set_other, length-take, length-take-le, set-set}
use Rattle.cod_types.specs.Faults.{bump}
use Rattle.cod_types.specs.declared.call.Call.{Call as Asked}
use Rattle.cod_types.specs.declared.call.Call.TheVariants.{Rebuild}
use Rattle.cod_chronicle.specs.declared.entry.Cause.TheVariants.{Fault}
use Rattle.cod_chronicle.specs.declared.entry.Entry.TheVariants.{Down}
use Rattle.cod_chronicle.specs.Event.{Request, Setting}
use Rattle.cod_claims.specs.Claimed.{open_call}
use Rattle.cod_claims.specs.declared.claim.Claim.{Claim}
use Rattle.cod_claims.specs.Slips.{Paper}
use Rattle.cod_place.specs.Room.{Room}
use Rattle.cod_repair.specs.Columns.{faults_at, is_source, was_read, were_read}
use Rattle.cod_repair.proofs.Choosing.{source_up}
use Rattle.cod_repair.proofs.Keeping.{were_read_at}
use Rattle.cod_repair.proofs.Reading.{length-were_read, were_read_rest}
use Rattle.cod_seg.specs.Calls.{column_costs, costs, nothing}
use Rattle.cod_seg.specs.Happens.{IsOwnAim}
use Rattle.cod_seg.specs.Next.{open_in, open_of}
use Rattle.cod_seg.specs.Seg.{Col, col_at, no_col, node_in, Rebuilding, Seg, Target, with_col}
use Rattle.cod_seg.specs.Sound.{AreBroken, is_frail, IsSingle, Sound}
use Rattle.cod_seg.specs.Steps.{Aims, aims, Fills, fills, filled_with, KeepsColumn, Marks, marks}
use Rattle.cod_seg.specs.declared.next.Step.TheVariants as step
use Rattle.cod_seg.proofs.Keeping.{col_here}
use Rattle.cod_segment.specs.Events.{Balances, Costs, Counts, CountsRebuild, CountsTarget, HasBegun, IsSettingOf, Makes, NoneFails, rebuild_rooms, request_of, rooms_of}
use Rattle.cod_segment.specs.Exact.{Breaks, Brings, Falls, Fetches}
use Rattle.cod_segment.proofs.Balancing.{beside}
use Rattle.cod_recovery.specs.Filling.{AreBytesOf, IsBrokenOff, IsBrought, IsFailing, IsFetched, IsFilledBy, IsStopped, source_failed, sources_read, target_in}
use Rattle.cod_recovery.proofs.Bringing.{IsBringingUp}
use Rattle.cod_recovery.proofs.Fetching.{at_failed}
use Rattle.cod_recovery.proofs.Losses.{more}
use Rattle.cod_recovery.proofs.Rooms.{rooms_in}
use Rattle.cod_recovery.proofs.Sourcing.{read_keeps, read_seg, reads_made}

abbrev chosen_of : Seg → ℕ → Bool
chosen_of s = is_source s.site.shape.k s.cols

-- ---- the target has the bytes

abbrev filled_rebuild : (piece : List ℕ) → Rebuilding → Target → Rebuilding
filled_rebuild piece r t = record r { target = Some (filled_with piece (bump t.device.writes) t) }

abbrev broken_rebuild : (faults : ℕ) → Rebuilding → Target → Rebuilding
broken_rebuild faults r t = record r { broken = slice_set r.broken t.room.node.0 (Some faults); target = None }

-- what a segment is when its sources were read, with a rebuild that goes on
abbrev going_on : Seg → Rebuilding → Seg
going_on s q = record s { cols = sources_read s; rebuild = Some q }

filled_is : (piece : List ℕ) (r : Rebuilding) (t : Target) (s u : Seg) (b : IsBrought piece r t s u) → IsFilledBy piece t r b.q → u ≡ going_on s (filled_rebuild piece r t)
filled_is piece r t s u b filled = b.becomes ∙ ap (going_on s) filled

broken_is : (piece : List ℕ) (r : Rebuilding) (t : Target) (s u : Seg) (b : IsBrought piece r t s u) (off : IsBrokenOff t r b.q) → u ≡ going_on s (broken_rebuild off.faults r t)
broken_is piece r t s u b off = b.becomes ∙ ap (going_on s) off.becomes

abbrev the_fill : (s : Seg) (caller number : ℕ) (p : Paper) (call : Asked) (r : Rebuilding) (t : Target) (piece : List ℕ) → IsBringingUp s caller number p call r t
    → (s.site.told ≡ true → AreBytesOf s r.col t.filled piece) → t.filled + length piece ≤ s.site.shape.block → Fills (read_seg (chosen_of s) s s.site.shape.n) (going_on s (filled_rebuild piece r t))
the_fill s caller number p call r t piece up each within = record {
  r = r;
  t = t;
  piece = piece;
  writes = bump t.device.writes;
  was = up.was;
  goal = up.goal;
  within = within;
  each = λ told few. each told;
  becomes = refl;
}

-- ---- its node broke

honest_after : (s : Seg) (caller number : ℕ) (p : Paper) (call : Asked) (r q : Rebuilding) (t : Target) → IsBringingUp s caller number p call r t → (off : IsBrokenOff t r q)
    → AreBroken s.frail (slice_set r.broken t.room.node.0 (Some off.faults))
honest_after s caller number p call r q t up off node count is = by (cases_eq node t.room.node.0) where
  broke : slice_index_or (slice_set r.broken t.room.node.0 (Some off.faults)) t.room.node.0 None ≡ Some off.faults
  broke = ap (λ (x : Rebuilding). slice_index_or x.broken t.room.node.0 None) (sym off.becomes) ∙ off.broke

  frail : is_frail s.frail t.room.node.0 ≡ true
  frail = elim (cases_Bool (is_frail s.frail t.room.node.0)) [
    | inl some ↦ some
    | inr none ↦ absurd (off.unsure (up.at.sure none))
  ]

  by : (node ≡ t.room.node.0) ⊎ (node ≢ t.room.node.0) → (1 ≤ count) × (is_frail s.frail node ≡ true)
  by (inl here) =
      let e : Some off.faults ≡ Some count = sym broke ∙ ap (λ (n : ℕ). slice_index_or (slice_set r.broken t.room.node.0 (Some off.faults)) n None) (sym here) ∙ is in
      let same : off.faults ≡ count = cc in
      let rose = off.rose in
      (omega (arith, same, rose), rw here frail)
  by (inr there) = up.is.honest node count (sym (get_or-set_other r.broken t.room.node.0 node (Some off.faults) None there) ∙ is)

the_break : (s : Seg) (caller number : ℕ) (p : Paper) (call : Asked) (r q : Rebuilding) (t : Target) → Sound s → IsBringingUp s caller number p call r t → (off : IsBrokenOff t r q)
    → Aims (read_seg (chosen_of s) s s.site.shape.n) (going_on s (broken_rebuild off.faults r t))
the_break s caller number p call r q t sound up off = record {
  goal = record { column = up.is.column; down = up.is.down; honest = honest_after s caller number p call r q t up off; goal = tt };
  idle = subst (IsSingle s.claims) up.was sound.single;
  same = λ x y was is.
      let first : Some r ≡ Some x = sym up.was ∙ was in
      let old : r ≡ x = cc in
      let new : broken_rebuild off.faults r t ≡ y = cc in
      record {
        caller = sym (ap (λ (z : Rebuilding). z.caller) new) ∙ ap (λ (z : Rebuilding). z.caller) old;
        number = sym (ap (λ (z : Rebuilding). z.number) new) ∙ ap (λ (z : Rebuilding). z.number) old;
        col = sym (ap (λ (z : Rebuilding). z.col) new) ∙ ap (λ (z : Rebuilding). z.col) old;
      };
  nothing = λ x v is goal.
      let new : broken_rebuild off.faults r t ≡ x = cc in
      let wrong : None ≡ Some v = ap (λ (z : Rebuilding). z.target) new ∙ goal in
      absurd (let no_way : ⊥ = cc in no_way);
  becomes = refl;
}

goes_on_aim : (r : Request) (o : Option Rebuilding) (x q : Rebuilding) → o ≡ Some x → IsOwnAim r o (Some q)
goes_on_aim r o x q is = rw is tt

-- ---- a source failed

abbrev stopped_cols : Seg → (col count : ℕ) → List Col
stopped_cols s col count = with_col (source_failed s col count) col (record (col_at (source_failed s col count) col) { is_up = false })

stopped_are : (s : Seg) (col count : ℕ) → Sound s → IsFailing s col count
    → stopped_cols s col count ≡ with_col (were_read (chosen_of s) s.cols col) col (record (was_read count (col_at s.cols col)) { is_up = false })
stopped_are s col count sound fails =
    set-set (were_read (chosen_of s) s.cols col) col (was_read count (col_at s.cols col)) (record (col_at (source_failed s col count) col) { is_up = false })
    ∙ ap (λ (c : Col). with_col (were_read (chosen_of s) s.cols col) col (record c { is_up = false })) (at_failed s col count sound fails)

the_mark : (s u : Seg) (t after : ℕ) → Sound s → (x : IsStopped t after s u) → (is : Marks x.col (read_seg (chosen_of s) s x.col) u) × (is.stamp ≡ after) × (is.cause ≡ Fault x.count)
the_mark s u t after sound x = (
  record {
    column = record (was_read x.count (col_at s.cols x.col)) { is_up = false };
    stamp = after;
    cause = Fault x.count;
    was = ap (λ (c : Col). c.is_up) same ∙ source_up s.site.shape.k s.cols x.col x.fails.source;
    down = refl;
    keeps = subst (λ (c : Col). KeepsColumn s.site.shape s.frail x.col c (record (was_read x.count (col_at s.cols x.col)) { is_up = false })) (sym same) keeps;
    why = (let rose = x.fails.rose in omega (arith, rose), x.frail, refl);
    follows = x.follows;
    becomes = x.becomes
        ∙ ap (λ (l : List Col). record s { cols = l; log = s.log ++ Down after x.col (col_at (source_failed s x.col x.count) x.col).room.node (Fault x.count) ∷ [] })
        (stopped_are s x.col x.count sound x.fails)
        ∙ ap (λ (c : Col). record s {
          cols = with_col (were_read (chosen_of s) s.cols x.col) x.col (record (was_read x.count (col_at s.cols x.col)) { is_up = false });
          log = s.log ++ Down after x.col c.room.node (Fault x.count) ∷ [];
        }) (at_failed s x.col x.count sound x.fails)
        ∙ ap (λ (c : Col). record s {
          cols = with_col (were_read (chosen_of s) s.cols x.col) x.col (record (was_read x.count (col_at s.cols x.col)) { is_up = false });
          log = s.log ++ Down after x.col c.room.node (Fault x.count) ∷ [];
        }) (sym same);
  },
  refl,
  refl,
) where
  same : col_at (were_read (chosen_of s) s.cols x.col) x.col ≡ col_at s.cols x.col
  same = were_read_rest (chosen_of s) s.cols x.col x.col (omega arith)

  keeps : KeepsColumn s.site.shape s.frail x.col (col_at s.cols x.col) (record (was_read x.count (col_at s.cols x.col)) { is_up = false })
  keeps =
      let k = read_keeps s x.col x.count (sound.columns.each x.col x.fails.below) in
      record {
        node = k.node;
        owned = k.owned;
        shape = k.shape;
        tells = k.tells;
        never_fails = k.never_fails;
        full = k.full;
        fits = k.fits;
        roomy = k.roomy;
        long = k.long;
        plain = k.plain;
        kept = k.kept;
        exact = λ high live. (let wrong : false ≡ true = live in absurd (let no_way : ⊥ = cc in no_way));
      }

-- ---- the steps

makes_brought : (w : Setting) (s u : Seg) (caller number : ℕ) (p : Paper) (call : Asked) (r : Rebuilding) (t : Target) (piece : List ℕ) (clock : ℕ) → Sound s
    → IsBringingUp s caller number p call r t → t.filled + length piece ≤ s.site.shape.block → IsBrought piece r t s u
    → Makes w (request_of caller number call) clock clock false s u
makes_brought w s u caller number p call r t piece clock sound up within b = by b.fills where
  q : Request
  q = request_of caller number call

  mid : Seg
  mid = read_seg (chosen_of s) s s.site.shape.n

  before : Makes w q clock clock false s mid
  before = reads_made w q clock (chosen_of s) s s.site.shape.n (omega arith) sound

  by : IsFilledBy piece t r b.q ⊎ IsBrokenOff t r b.q → Makes w q clock clock false s u
  by (inl filled) = subst (λ (x : Seg). Makes w q clock clock false s x) (sym (filled_is piece r t s u b filled))
      (more w q clock clock clock false s mid (going_on s (filled_rebuild piece r t)) before (fills (the_fill s caller number p call r t piece up b.each within))
      (up.mine, record { clock = refl; goes_on = refl }))
  by (inr off) = subst (λ (x : Seg). Makes w q clock clock false s x) (sym (broken_is piece r t s u b off))
      (more w q clock clock clock false s mid (going_on s (broken_rebuild off.faults r t)) before (aims (the_break s caller number p call r b.q t sound up off))
      (goes_on_aim q s.rebuild r (broken_rebuild off.faults r t) up.was, record { clock = refl; goes_on = refl }))

makes_stopped : (w : Setting) (s u : Seg) (q : Request) (t after : ℕ) → IsSettingOf w s → Sound s → IsStopped t after s u → Makes w q t after false s u
makes_stopped w s u q t after setting sound x =
    let mid = read_seg (chosen_of s) s x.col in
    let below = x.fails.below in
    let before = reads_made w q t (chosen_of s) s x.col (omega (arith, below)) sound in
    let mark = the_mark s u t after sound x in
    let same : col_at (were_read (chosen_of s) s.cols x.col) x.col ≡ col_at s.cols x.col = were_read_rest (chosen_of s) s.cols x.col x.col (omega arith) in
    let rose = x.fails.rose in
    let may : IsTrue (w.may (node_in (col_at mid.cols x.col))) = subst (λ (c : Col). IsTrue (w.may (node_in c))) (sym same) (setting.may (node_in (col_at s.cols x.col)) x.frail) in
    more w q t t after false s mid u before (marks x.col x.fails.below mark.0)
    (rw mark.2 (omega (arith, rose), may), rw (mark.1, mark.2) (record { stamp_is = x.clock; clock = refl; goes_on = refl }))

pub makes_piece : (w : Setting) (s u : Seg) (caller number : ℕ) (p : Paper) (call : Asked) (r : Rebuilding) (t : Target) (piece : List ℕ) (clock after : ℕ) → IsSettingOf w s → Sound s
    → IsBringingUp s caller number p call r t → t.filled + length piece ≤ s.site.shape.block → IsFetched piece r t clock after s u
    → Makes w (request_of caller number call) clock after false s u
makes_piece w s u caller number p call r t piece clock after setting sound up within (inl b) =
    rw b.1 (makes_brought w s u caller number p call r t piece clock sound up within b.0)
makes_piece w s u caller number p call r t piece clock after setting sound up within (inr x) = makes_stopped w s u (request_of caller number call) clock after setting sound x

-- ---- what has come of it

broke_at : (o : Option ℕ) (n : ℕ) → o ≡ Some n → IsSome o
broke_at o n is = rw is refl

pub fetches : (s u : Seg) (caller number : ℕ) (p : Paper) (call : Asked) (r : Rebuilding) (t : Target) (piece : List ℕ) (clock after : ℕ) → Sound s
    → IsBringingUp s caller number p call r t → length piece ≡ min 4096 (s.site.shape.block - t.filled) → IsFetched piece r t clock after s u → Fetches s u
fetches s u caller number p call r t piece clock after sound up long (inl b) = record { claims = ap (λ (x : Seg). x.claims) b.0.becomes; ends = by b.0.fills } where
  by : IsFilledBy piece t r b.0.q ⊎ IsBrokenOff t r b.0.q → Brings s u ⊎ (Falls s u ⊎ Breaks s u)
  by (inl filled) = inl (record {
    r = r;
    t = t;
    piece = piece;
    writes = bump t.device.writes;
    was = up.was;
    goal = up.goal;
    long = long;
    now = ap (λ (x : Seg). x.rebuild) (filled_is piece r t s u b.0 filled);
  })
  by (inr off) = inr (inr (record {
    r = r;
    t = t;
    q = broken_rebuild off.faults r t;
    was = up.was;
    goal = up.goal;
    now = ap (λ (x : Seg). x.rebuild) (broken_is piece r t s u b.0 off);
    dropped = refl;
    broke = broke_at (slice_index_or (slice_set r.broken t.room.node.0 (Some off.faults)) t.room.node.0 None) off.faults
        (ap (λ (x : Rebuilding). slice_index_or x.broken t.room.node.0 None) (sym off.becomes) ∙ off.broke);
    others = λ x other. get_or-set_other r.broken t.room.node.0 x (Some off.faults) None other;
  }))
fetches s u caller number p call r t piece clock after sound up long (inr x) =
    let mark = the_mark s u clock after sound x in
    let size = sound.columns.size in
    let below = x.fails.below in
    let many = length-were_read (chosen_of s) s.cols x.col in
    record {
      claims = ap (λ (z : Seg). z.claims) mark.0.becomes;
      ends = inr (inl (record {
        col = x.col;
        among = x.fails.below;
        was = source_up s.site.shape.k s.cols x.col x.fails.source;
        down = ap (λ (z : Seg). (col_at z.cols x.col).is_up) mark.0.becomes
            ∙ ap (λ (c : Col). c.is_up) (col_here (were_read (chosen_of s) s.cols x.col) x.col mark.0.column (omega (arith, size, below, many)))
            ∙ mark.0.down;
        same = ap (λ (z : Seg). z.rebuild) mark.0.becomes;
      }));
    }

open_alike : (caller : ℕ) (claims : List (Option Claim)) (r q : Rebuilding) → q.caller ≡ r.caller → q.number ≡ r.number → open_of caller claims (Some q) ≡ open_of caller claims (Some r)
open_alike caller claims r q same number =
    ap (λ (n : ℕ). cond (n == caller) (Some (q.number, Rebuild)) (open_call caller claims)) same
    ∙ ap (λ (n : ℕ). cond (r.caller == caller) (Some (n, Rebuild)) (open_call caller claims)) number

open_going : (s u : Seg) (caller : ℕ) (r q : Rebuilding) → s.rebuild ≡ Some r → u ≡ going_on s q → q.caller ≡ r.caller → q.number ≡ r.number → open_in u caller ≡ open_in s caller
open_going s u caller r q was becomes same number =
    ap (λ (x : Seg). open_in x caller) becomes ∙ open_alike caller s.claims r q same number ∙ sym (ap (λ (o : Option Rebuilding). open_of caller s.claims o) was)

pub still_open : (s u : Seg) (caller number : ℕ) (p : Paper) (call : Asked) (r : Rebuilding) (t : Target) (piece : List ℕ) (clock after : ℕ) → Sound s
    → IsBringingUp s caller number p call r t → IsFetched piece r t clock after s u → (open_in u caller ≡ Some (number, call)) × HasBegun p call
still_open s u caller number p call r t piece clock after sound up (inl b) = (by b.0.fills ∙ up.open_is, up.begun) where
  by : IsFilledBy piece t r b.0.q ⊎ IsBrokenOff t r b.0.q → open_in u caller ≡ open_in s caller
  by (inl filled) = open_going s u caller r (filled_rebuild piece r t) up.was (filled_is piece r t s u b.0 filled) refl refl
  by (inr off) = open_going s u caller r (broken_rebuild off.faults r t) up.was (broken_is piece r t s u b.0 off) refl refl
still_open s u caller number p call r t piece clock after sound up (inr x) =
    (ap (λ (z : Seg). open_in z caller) (the_mark s u clock after sound x).0.becomes ∙ up.open_is, up.begun)

-- ---- its device calls

counts_one : (u b : Bool) (old : Col) → (b ≡ true → u ≡ true)
    → Counts (cond u (cond b (costs 1 0) nothing) nothing) old.state.device (cond b (was_read old.state.device.faults old) old).state.device
counts_one true true old up = (refl, refl)
counts_one true false old up = (refl, refl)
counts_one false true old up = (let wrong : false ≡ true = up refl in absurd (let no_way : ⊥ = cc in no_way))
counts_one false false old up = (refl, refl)

counts_at : (l b : Bool) (old : Col) → l ≡ true → Counts (cond old.is_up (cond b (costs 1 0) nothing) nothing) old.state.device (cond b (was_read old.state.device.faults old) old).state.device
    → Counts (cond old.is_up (cond b (costs 1 0) nothing) nothing) old.state.device (cond (l && b) (was_read old.state.device.faults old) old).state.device
counts_at true b old e counts = counts
counts_at false b old e counts = (let no_way : ⊥ = cc in absurd no_way)

costs_going : (s u : Seg) (call : Asked) (q : Rebuilding) (i : ℕ) → Sound s → u ≡ going_on s q → i < s.site.shape.n
    → Counts (column_costs s call step.RebuildPiece i) (col_at s.cols i).state.device (col_at u.cols i).state.device
costs_going s u call q i sound becomes below =
    let size = sound.columns.size in
    let at : col_at u.cols i ≡ cond (nat_lt i s.site.shape.n && chosen_of s i) (was_read (faults_at s.cols i) (col_at s.cols i)) (col_at s.cols i) =
    ap (λ (x : Seg). col_at x.cols i) becomes ∙ were_read_at (chosen_of s) s.cols s.site.shape.n i (omega (arith, size)) in
    subst (λ (c : Col). Counts (column_costs s call step.RebuildPiece i) (col_at s.cols i).state.device c.state.device) (sym at)
    (counts_at (nat_lt i s.site.shape.n) (chosen_of s i) (col_at s.cols i) (lt-ltb i s.site.shape.n below)
    (counts_one (col_at s.cols i).is_up (chosen_of s i) (col_at s.cols i) (source_up s.site.shape.k s.cols i)))

target_counts : (s : Seg) (caller : ℕ) (o left : Option Rebuilding) (r q : Rebuilding) (t : Target) → o ≡ Some r → left ≡ Some q → r.target ≡ Some t
    → ((v : Target) → q.target ≡ Some v → Counts (costs 0 1) t.device v.device) → CountsRebuild s caller step.RebuildPiece o left
target_counts s caller o left r q t was now goal each = rw (was, now) (λ v is. by r.target q.target goal refl) where
  by : (x y : Option Target) → x ≡ Some t → q.target ≡ y → CountsTarget (costs 0 1) x y
  by None y e f = tt
  by (Some v) None e f = tt
  by (Some v) (Some z) e f = (let same : v ≡ t = cc in subst (λ (a : Target). Counts (costs 0 1) a.device z.device) (sym same) (each z f))

pub piece_costs : (s u : Seg) (caller number : ℕ) (p : Paper) (call : Asked) (r : Rebuilding) (t : Target) (piece : List ℕ) (clock after : ℕ) → Sound s
    → IsBringingUp s caller number p call r t → IsFetched piece r t clock after s u → NoneFails s u → Costs s caller call step.RebuildPiece u
piece_costs s u caller number p call r t piece clock after sound up (inl b) none = by b.0.fills where
  by : IsFilledBy piece t r b.0.q ⊎ IsBrokenOff t r b.0.q → Costs s caller call step.RebuildPiece u
  by (inl filled) =
      let becomes = filled_is piece r t s u b.0 filled in
      record {
        columns = λ i below same. costs_going s u call (filled_rebuild piece r t) i sound becomes below;
        target = target_counts s caller s.rebuild u.rebuild r (filled_rebuild piece r t) t up.was (ap (λ (x : Seg). x.rebuild) becomes) up.goal
            (λ v is. (let same : filled_with piece (bump t.device.writes) t ≡ v = cc in subst (λ (x : Target). Counts (costs 0 1) t.device x.device) same (refl, refl)));
      }
  by (inr off) =
      let becomes = broken_is piece r t s u b.0 off in
      record {
        columns = λ i below same. costs_going s u call (broken_rebuild off.faults r t) i sound becomes below;
        target = target_counts s caller s.rebuild u.rebuild r (broken_rebuild off.faults r t) t up.was (ap (λ (x : Seg). x.rebuild) becomes) up.goal
            (λ v is. (let no_way : ⊥ = cc in absurd no_way));
      }
piece_costs s u caller number p call r t piece clock after sound up (inr x) none =
    let mark = the_mark s u clock after sound x in
    let size = sound.columns.size in
    let below = x.fails.below in
    let many = length-were_read (chosen_of s) s.cols x.col in
    let down : (col_at u.cols x.col).is_up ≡ false = ap (λ (z : Seg). (col_at z.cols x.col).is_up) mark.0.becomes
    ∙ ap (λ (c : Col). c.is_up) (col_here (were_read (chosen_of s) s.cols x.col) x.col mark.0.column (omega (arith, size, below, many)))
    ∙ mark.0.down in
    let live = none x.col x.fails.below (source_up s.site.shape.k s.cols x.col x.fails.source) in
    let wrong : false ≡ true = sym down ∙ live in
    absurd (let no_way : ⊥ = cc in no_way)

-- ---- its rooms

rooms_read : (chosen : ℕ → Bool) (cols : List Col) (m : ℕ) → rooms_in (were_read chosen cols m) ≡ rooms_in cols
rooms_read chosen cols zero = refl
rooms_read chosen cols (suc m) = by (chosen m) ∙ rooms_read chosen cols m where
  by : (b : Bool) → rooms_in (cond b (with_col (were_read chosen cols m) m (was_read (faults_at cols m) (col_at cols m))) (were_read chosen cols m)) ≡ rooms_in (were_read chosen cols m)
  by true = map-set_same (λ (c : Col). c.room) (were_read chosen cols m) m (was_read (faults_at cols m) (col_at cols m)) no_col
      (sym (ap (λ (c : Col). c.room) (were_read_rest chosen cols m m (omega arith))))
  by false = refl

pub rooms_same : (s u : Seg) (r : Rebuilding) (t : Target) (piece : List ℕ) (clock after : ℕ) → Sound s → IsFetched piece r t clock after s u → rooms_in u.cols ≡ rooms_in s.cols
unfolding the_mark
rooms_same s u r t piece clock after sound (inl b) = ap (λ (x : Seg). rooms_in x.cols) b.0.becomes ∙ rooms_read (chosen_of s) s.cols s.site.shape.n
rooms_same s u r t piece clock after sound (inr x) =
    ap (λ (z : Seg). rooms_in z.cols) (the_mark s u clock after sound x).0.becomes
    ∙ map-set_same (λ (c : Col). c.room) (were_read (chosen_of s) s.cols x.col) x.col (record (was_read x.count (col_at s.cols x.col)) { is_up = false }) no_col
    (sym (ap (λ (c : Col). c.room) (were_read_rest (chosen_of s) s.cols x.col x.col (omega arith))))
    ∙ rooms_read (chosen_of s) s.cols x.col

-- where the rooms of columns stay, those of a rebuild decide
pub came_then : (before after : List Room → Type 0) (s u : Seg) (rest : List Room) → rooms_in u.cols ≡ rooms_in s.cols
    → ((rooms : List Room) → before (rebuild_rooms s.rebuild ++ rooms) → after (rebuild_rooms u.rebuild ++ rooms)) → before (rooms_of s ++ rest) → after (rooms_of u ++ rest)
came_then before after s u rest same given came =
    subst after (sym (append_assoc (rebuild_rooms u.rebuild) (rooms_in u.cols) rest))
    (subst (λ (rooms : List Room). after (rebuild_rooms u.rebuild ++ (rooms ++ rest))) (sym same)
    (given (rooms_in s.cols ++ rest) (subst before (append_assoc (rebuild_rooms s.rebuild) (rooms_in s.cols) rest) came)))

pub balance_then : (before after : Option (List ℕ)) (s u : Seg) → rooms_in u.cols ≡ rooms_in s.cols
    → Balances before after (rebuild_rooms s.rebuild) (rebuild_rooms u.rebuild) → Balances before after (rooms_of s) (rooms_of u)
balance_then before after s u same balances =
    subst (λ (rooms : List Room). Balances before after (rooms_of s) (rebuild_rooms u.rebuild ++ rooms)) (sym same)
    (beside before after [] (rebuild_rooms s.rebuild) (rebuild_rooms u.rebuild) (rooms_in s.cols) balances)

-- ---- how many bytes it has

pub some_aim : (o : Option Rebuilding) (r : Rebuilding) (t : Target) → o ≡ Some r → r.target ≡ Some t → IsSome (target_in o)
some_aim o r t was goal = rw (was, goal) refl

pub piece_inside : (done block n : ℕ) (xs : List ℕ) → done + n ≤ block → done + length (take n xs) ≤ block
piece_inside done block n xs within = let short = length-take n xs in omega (arith, within, short)

pub piece_long : (n m : ℕ) (xs : List ℕ) → length xs ≡ m → n ≤ m → length (take n xs) ≡ n
piece_long n m xs all few = length-take-le n xs (omega (arith, all, few))

-- ---- a setting of it

-- one in which nothing is killed, and any region may fail that may
abbrev pub setting_of : Seg → Setting
setting_of s = record { site = s.site; known = λ x. None; seen = λ x. None; may = is_frail s.frail }

pub is_setting_of : (s : Seg) → IsSettingOf (setting_of s) s
is_setting_of s = record { site = refl; may = λ node is. is }
