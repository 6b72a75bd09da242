-- The end of a rebuild: its target becomes the column, and the call is answered.
use Rattle.std.proofs.Common.{◌≡◌, ◌≢◌, ◌⊎◌, inl, inr, ℕ, ◌<◌, List, [], ◌∷◌, ◌++◌, length, Bool, true, false, All, cond, Option, Some, None, refl, sym, ap, ◌∙◌, subst, arith}
use Rattle.std.proofs.lemmas.Bool.{cases_eq}
use Rattle.atomic_table.specs.Seated.{TableId}
use Rattle.cod_types.specs.declared.call.Call.{Call as Asked}
use Rattle.cod_types.specs.declared.call.Caller.{Caller}
use Rattle.cod_types.specs.declared.call.NodeId.{NodeId}
use Rattle.cod_types.specs.declared.call.Reply.TheVariants.{Rebuilt}
use Rattle.cod_chronicle.specs.declared.entry.Entry.{Entry}
use Rattle.cod_chronicle.specs.declared.entry.Entry.TheVariants.{Call, Up}
use Rattle.cod_chronicle.specs.Event.{Request, Setting}
use Rattle.cod_chronicle.specs.Said.{clock_of, next_stamp, numbers_by, Precedes, StampFollows}
use Rattle.cod_chronicle.proofs.Growth.{clock_of-push, numbers_same}
use Rattle.cod_claims.specs.declared.claim.Claim.{Claim}
use Rattle.cod_claims.specs.Claimed.{without_marks}
use Rattle.cod_claims.specs.Slips.{Paper}
use Rattle.cod_region.specs.Device.{Device}
use Rattle.cod_seg.specs.Calls.{column_costs, Cost, nothing}
use Rattle.cod_seg.specs.Happens.{Happened}
use Rattle.cod_seg.specs.Next.{open_in}
use Rattle.cod_seg.specs.Seg.{Col, col_at, Rebuilding, Seg, Target, with_col}
use Rattle.cod_seg.specs.Sound.{Sound}
use Rattle.cod_seg.specs.Steps.{Goes, goes, placed_col, Rises, risen, rises, stays}
use Rattle.cod_seg.specs.declared.next.Step.{Step}
use Rattle.cod_seg.specs.declared.next.Step.TheVariants as step
use Rattle.cod_seg.proofs.Going.{goes_keep}
use Rattle.cod_seg.proofs.Happening.{answer_ends}
use Rattle.cod_seg.proofs.Keeping.{col_here, col_there}
use Rattle.cod_segment.specs.declared.asking.Outcome.TheVariants.{Answered}
use Rattle.cod_segment.specs.Events.{Costs, Counts, CountsRebuild, IsAsked, IsOutcome, Makes, request_of}
use Rattle.cod_segment.specs.Views.{pools_by, told_by}
use Rattle.cod_recovery.proofs.Bringing.{IsBringingUp}
use Rattle.cod_recovery.proofs.Losses.{more, nothing_made}
use Rattle.cod_recovery.proofs.Views.{pools_with, told_with}

-- what comes of a segment
abbrev pub risen_seg : Seg → Rebuilding → Target → Caller → (number first second : ℕ) → Asked → Seg
risen_seg s r t caller number first second call = record s {
  cols = with_col s.cols r.col (placed_col s.site.shape (risen s.site.shape r.col t));
  claims = without_marks r.col s.claims;
  log = (s.log ++ Up first r.col t.room.node ∷ []) ++ Call caller number second call (Rebuilt r.col t.room.node) ∷ [];
  rebuild = None;
}

-- the segment with these columns, as it is seen
abbrev pub seen_with : Seg → List Col → List (Option Claim) → List Entry → Option Rebuilding → Seg
seen_with s cols claims log left = record s {
  site = record s.site { told = told_by cols };
  pools = pools_by cols;
  cols = cols;
  claims = claims;
  log = log;
  rebuild = left;
}

pub risen_is : (s u : Seg) (r : Rebuilding) (t : Target) (caller : Caller) (number : ℕ) (p : Paper) (first second col : ℕ) (node : NodeId) (call : Asked) (cols : List Col)
    (claims : List (Option Claim)) (log : List Entry) (left : Option Rebuilding) → col ≡ r.col → node ≡ t.room.node
    → cols ≡ with_col s.cols col (placed_col s.site.shape (risen s.site.shape col t)) → claims ≡ without_marks col s.claims → log ≡ s.log ++ Up first col node ∷ [] → left ≡ None
    → IsBringingUp s caller.0 number p call r t → Sound s
    → u ≡ seen_with s cols claims (log ++ Call caller number second call (Rebuilt col node) ∷ []) left
    → u ≡ risen_seg s r t caller number first second call
risen_is s u r t caller number p first second col node call cols claims log left at there placed unmarked marked none up sound becomes =
    let c : ℕ → Col = λ i. placed_col s.site.shape (risen s.site.shape i t) in
    let told : told_by (with_col s.cols col (c col)) ≡ s.site.told = told_with s col (c col) sound up.at.tells in
    let pools : pools_by (with_col s.cols col (c col)) ≡ s.pools = pools_with s col (c col) sound up.at.owned in
    let f : ℕ → NodeId → Seg = λ i n. record s {
      cols = with_col s.cols i (c i);
      claims = without_marks i s.claims;
      rebuild = None;
      log = (s.log ++ Up first i n ∷ []) ++ Call caller number second call (Rebuilt i n) ∷ [];
    } in
    let g : Bool → Option TableId → Seg = λ b o. record s {
      site = record s.site { told = b };
      pools = o;
      cols = with_col s.cols col (c col);
      claims = without_marks col s.claims;
      rebuild = None;
      log = (s.log ++ Up first col node ∷ []) ++ Call caller number second call (Rebuilt col node) ∷ [];
    } in
    becomes
    ∙ ap (λ (x : List Col). seen_with s x claims (log ++ Call caller number second call (Rebuilt col node) ∷ []) left) placed
    ∙ ap (λ (x : List (Option Claim)). seen_with s (with_col s.cols col (c col)) x (log ++ Call caller number second call (Rebuilt col node) ∷ []) left) unmarked
    ∙ ap (λ (x : List Entry). seen_with s (with_col s.cols col (c col)) (without_marks col s.claims) (x ++ Call caller number second call (Rebuilt col node) ∷ []) left) marked
    ∙ ap (λ (x : Option Rebuilding). seen_with s (with_col s.cols col (c col)) (without_marks col s.claims)
    ((s.log ++ Up first col node ∷ []) ++ Call caller number second call (Rebuilt col node) ∷ []) x) none
    ∙ ap (λ (b : Bool). g b (pools_by (with_col s.cols col (c col)))) told
    ∙ ap (g s.site.told) pools
    ∙ ap (λ (i : ℕ). f i node) at
    ∙ ap (f r.col) there

-- a stamp that follows an entry comes after its stamp
behind : (log : List Entry) (e : Entry) (t : ℕ) → StampFollows (log ++ e ∷ []) t → Precedes (clock_of (log ++ e ∷ [])) t
behind [] e t follows = follows
behind (x ∷ log) e t follows = follows

pub after_up : (log : List Entry) (first col second : ℕ) (node : NodeId) → StampFollows (log ++ Up first col node ∷ []) second → Precedes first second
after_up log first col second node follows =
    subst (λ (n : ℕ). Precedes n second) (clock_of-push log (Up first col node)) (behind log (Up first col node) second follows)

-- the mark isn't a call
pub newest_then : (log : List Entry) (who number first col : ℕ) (node : NodeId) → All (λ m. m < number) (numbers_by who log)
    → All (λ m. m < number) (numbers_by who (log ++ Up first col node ∷ []))
newest_then log who number first col node newest = subst (All (λ m. m < number)) (sym (numbers_same who log (Up first col node) refl)) newest

-- what the end of a rebuild is about
pub record IsEnding (s u : Seg) (caller : Caller) (number : ℕ) (p : Paper) (call : Asked) (r : Rebuilding) (t : Target) (clock first second : ℕ) : Type 0 where
  pub sound : Sound s
  pub asked : IsAsked s caller.0 number p call
  pub up : IsBringingUp s caller.0 number p call r t
  pub whole : t.filled ≡ s.site.shape.block
  pub first_is : first ≡ next_stamp (clock_of s.log) clock
  pub first_follows : StampFollows s.log first
  pub second_is : second ≡ next_stamp (clock_of (s.log ++ Up first r.col t.room.node ∷ [])) first
  pub second_follows : StampFollows (s.log ++ Up first r.col t.room.node ∷ []) second
  pub becomes : u ≡ risen_seg s r t caller number first second call

abbrev pub the_rise : (s u : Seg) (caller : Caller) (number : ℕ) (p : Paper) (call : Asked) (r : Rebuilding) (t : Target) (clock first second : ℕ)
    → IsEnding s u caller number p call r t clock first second → Rises s u
the_rise s u caller number p call r t clock first second is = record {
  r = r;
  t = t;
  caller = caller;
  first = first;
  second = second;
  was = is.up.was;
  goal = is.up.goal;
  whole = is.whole;
  few = is.up.few;
  owner = sym is.up.mine;
  newest = subst (λ (n : ℕ). All (λ m. m < n) (numbers_by caller.0 s.log)) (sym is.up.number_is) is.asked.newest;
  follows = is.first_follows;
  next = after_up s.log first r.col second t.room.node is.second_follows;
  becomes = is.becomes ∙ ap (λ (n : ℕ). risen_seg s r t caller n first second call) (sym is.up.number_is)
      ∙ ap (λ (c : Asked). risen_seg s r t caller r.number first second c) is.up.call_is;
}

-- ---- what comes of it

pub makes_rise : (w : Setting) (s u : Seg) (caller : Caller) (number : ℕ) (p : Paper) (call : Asked) (r : Rebuilding) (t : Target) (clock first second : ℕ)
    → IsEnding s u caller number p call r t clock first second → Makes w (request_of caller.0 number call) clock second true s u
makes_rise w s u caller number p call r t clock first second is =
    let q = request_of caller.0 number call in
    more w q clock clock second true s s u (nothing_made w q clock s s refl) (rises (the_rise s u caller number p call r t clock first second is)) (record {
      caller_is = refl;
      number_is = is.up.number_is;
      call_is = sym is.up.call_is;
      first_is = is.first_is;
      second_is = is.second_is ∙ ap (λ (n : ℕ). next_stamp n first) (clock_of-push s.log (Up first r.col t.room.node));
      clock = refl;
      ends = refl;
    })

-- what was open by the request is open no more
pub ends_open : (w : Setting) (r : Request) (t after : ℕ) (s u : Seg) → Sound s → Makes w r t after true s u → open_in u r.caller ≡ None
ends_open w r t after s u sound made = by u made.steps made.happened where
  by : (v : Seg) (steps : Goes s v) → Happened w r t after true s v steps → open_in v r.caller ≡ None
  by v (stays a) is = (let e = is.goes_on in cc)
  by v (goes a b c before step) is = answer_ends w r is.0 after b c step (goes_keep a b sound before) is.2

pub rise_outcome : (w : Setting) (s u : Seg) (caller : Caller) (number : ℕ) (p now : Paper) (call : Asked) (r : Rebuilding) (t : Target) (clock first second : ℕ)
    → IsEnding s u caller number p call r t clock first second → now.reply ≡ Some (Rebuilt r.col t.room.node)
    → IsOutcome (Answered (length (s.log ++ Up first r.col t.room.node ∷ [])) second) (request_of caller.0 number call) second u now
rise_outcome w s u caller number p now call r t clock first second is told = (
  ends_open w (request_of caller.0 number call) clock second s u is.sound (makes_rise w s u caller number p call r t clock first second is),
  refl,
  (
    s.log ++ Up first r.col t.room.node ∷ [],
    Call caller number second call (Rebuilt r.col t.room.node),
    ap (λ (x : Seg). x.log) is.becomes,
    refl,
    rw told refl,
  ),
)

idle_column : (s : Seg) (call : Asked) (i : ℕ) (b : Bool) → cond b nothing nothing ≡ nothing
idle_column s call i true = refl
idle_column s call i false = refl

alike : (d e : Device) (c : Cost) → c ≡ nothing → e ≡ d → Counts c d e
alike d e c none same = rw (none, same) (refl, refl)

no_rebuild : (s : Seg) (caller : ℕ) (next : Step) (old new : Option Rebuilding) → new ≡ None → CountsRebuild s caller next old new
no_rebuild s caller next None new none = tt
no_rebuild s caller next (Some r) new none = rw none tt

-- the target's node isn't the column's
pub rise_costs : (s u : Seg) (caller : Caller) (number : ℕ) (p : Paper) (call : Asked) (r : Rebuilding) (t : Target) (clock first second : ℕ)
    → IsEnding s u caller number p call r t clock first second → Costs s caller.0 call step.RebuildEnd u
rise_costs s u caller number p call r t clock first second is = record {
  columns = λ i below same. by i below same (cases_eq i r.col);
  target = no_rebuild s caller.0 step.RebuildEnd s.rebuild u.rebuild (ap (λ (x : Seg). x.rebuild) is.becomes);
} where
  now : Col
  now = placed_col s.site.shape (risen s.site.shape r.col t)

  at : (i : ℕ) → col_at u.cols i ≡ col_at (with_col s.cols r.col now) i
  at i = ap (λ (x : Seg). col_at x.cols i) is.becomes

  by : (i : ℕ) → i < s.site.shape.n → (col_at u.cols i).room.node ≡ (col_at s.cols i).room.node → (i ≡ r.col) ⊎ (i ≢ r.col)
      → Counts (column_costs s call step.RebuildEnd i) (col_at s.cols i).state.device (col_at u.cols i).state.device
  by i below same (inl here) =
      let size = is.sound.columns.size in
      let inside : r.col < length s.cols = omega (arith, size, below, here) in
      let moved : col_at u.cols i ≡ now = at i ∙ ap (col_at (with_col s.cols r.col now)) here ∙ col_here s.cols r.col now inside in
      let node : t.room.node.0 ≡ (col_at s.cols i).room.node.0 = ap (λ (c : Col). c.room.node.0) (sym moved) ∙ ap (λ (n : NodeId). n.0) same in
      absurd (is.up.at.alone i below (sym (is.sound.columns.each i below).there ∙ sym node))
  by i below same (inr there) =
      alike (col_at s.cols i).state.device (col_at u.cols i).state.device (column_costs s call step.RebuildEnd i) (idle_column s call i (col_at s.cols i).is_up)
      (ap (λ (c : Col). c.state.device) (at i ∙ col_there s.cols r.col i now there))
