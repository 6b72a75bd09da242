-- The commit of an update.
use Rattle.std.proofs.Common.{◌≡◌, ℕ, ◌<◌, ◌≤◌, ◌^◌, List, [], ◌∷◌, ◌++◌, length, get_or, Bool, true, false, Option, Some, None, refl, sym, ap, ◌∙◌, subst, inl, inr, bit_xor, arith}
use Rattle.std.specs.Prelude.{◌⊎◌, is_some, nat_lt, slice_index, slice_set}
use Rattle.std.proofs.lemmas.Bool.{cases_eq, cases_lt, ltb-true, true_from_ne_false}
use Rattle.std.proofs.lemmas.List.{get_or_past, get_or-set_other, get_or-set_same, length-set}
use Rattle.cod_types.specs.declared.call.Call.{Call as Asked}
use Rattle.cod_types.specs.declared.call.Caller.{Caller}
use Rattle.cod_types.specs.declared.call.Reply.TheVariants.{Done}
use Rattle.cod_chronicle.specs.declared.entry.Entry.{Entry}
use Rattle.cod_chronicle.specs.declared.entry.Entry.TheVariants.{Call}
use Rattle.cod_chronicle.specs.Event.{Setting}
use Rattle.cod_chronicle.specs.Said.{clock_of, is_over, next_stamp, StampFollows}
use Rattle.cod_claims.specs.declared.claim.Claim.{Claim}
use Rattle.cod_claims.specs.Claimed.{claim_at, HasNone, without_claims}
use Rattle.cod_claims.specs.Slips.{Paper}
use Rattle.cod_claims.proofs.Opening.{nothing_open}
use Rattle.cod_seg.specs.Choices.{IsToCommit}
use Rattle.cod_seg.specs.Next.{next_step, open_in}
use Rattle.cod_seg.specs.Seg.{Rebuilding, Seg, Target}
use Rattle.cod_seg.specs.Sound.{AreBroken, is_frail, IsOther, IsRebuilding, IsSingle, Sound}
use Rattle.cod_seg.specs.Steps.{Aims, aims, Commits, commits, Corrects, CorrectsTarget, goes, IsCorrected, added_to, IsEverywhere, IsSameRebuild, own_byte, raised_to, stays}
use Rattle.cod_seg.specs.declared.next.Step.TheVariants as step
use Rattle.cod_seg.proofs.Choosing.{commit_where_everywhere}
use Rattle.cod_seg.specs.Happens.{IsOwnAim}
use Rattle.cod_seg.proofs.Going.{step_keeps}
use Rattle.cod_seg.proofs.Happening.{open_alone}
use Rattle.cod_seg.proofs.Rooms.{adds_to_data}
use Rattle.cod_segment.specs.declared.asking.Outcome.TheVariants.{Answered}
use Rattle.cod_segment.specs.Events.{HasRoom, IsAsked, IsOutcome, Makes, request_of}
use Rattle.cod_update.specs.Correcting.{changed_by, HasClaims, IsCorrectedTo, LetsGo, SettlesEach}
use Rattle.cod_update.proofs.OnParity.{count_most}
use Rattle.cod_update.proofs.Opened.{begun, other_rebuild, owned}
use Rattle.cod_update.proofs.Targeted.{its_rebuild, its_target}

-- ---- what is to be committed

pub record CanCommit (s : Seg) (caller number : ℕ) (call : Asked) : Type 0 where
  pub few : is_over s.site s.log ≡ false
  pub block : ℕ
  pub claim : Claim
  pub there : claim_at s.claims block ≡ Some claim
  pub owner : claim.owner.0 ≡ caller
  pub called : claim.delta.call ≡ call
  pub numbered : claim.number ≡ number
  pub everywhere : IsEverywhere s.site.shape.k s.site.shape.n caller s.cols s.claims
  pub alone : IsOther caller s.rebuild

pub can_commit : (s : Seg) (caller number : ℕ) (p : Paper) (call : Asked) → Sound s → IsAsked s caller number p call → next_step s caller call ≡ step.Commit → CanCommit s caller number call
can_commit s caller number p call sound asked next =
    let is : IsToCommit s caller = commit_where_everywhere s caller call sound next in
    let own = owned caller (claim_at s.claims is.block) is.mine in
    let b = begun s caller number is.block p call sound asked own in
    record {
      few = is.few;
      block = is.block;
      claim = own.claim;
      there = own.there;
      owner = own.owner;
      called = b.called;
      numbered = b.numbered;
      everywhere = is.everywhere;
      alone = other_rebuild s caller is.block sound is.mine;
    }

pub small_cuts : (s m : Seg) → Sound s → HasRoom 2 s → m ≡ record s { rebuild = m.rebuild } → (j : ℕ) → slice_index m.cuts j < 2 ^ 63
small_cuts s m sound room becomes j =
    let few = sound.cut.each j in
    let most = count_most s.log in
    let same : slice_index m.cuts j ≡ slice_index s.cuts j = ap (λ (x : Seg). slice_index x.cuts j) becomes in
    omega (arith, few, most, room, same)

-- ---- the target

-- a target that has the caller's claims is corrected
is_corrected : (s : Seg) (r : Rebuilding) (t u : Target) (caller : ℕ) → Sound s → s.rebuild ≡ Some r → r.target ≡ Some t
    → IsCorrectedTo s.site.shape.k s.site.shape.k r.col caller s.claims t u → IsCorrected s.site.shape.k r.col caller s.claims t u
is_corrected s r t u caller sound was goal is = record {
  bytes = λ before after old new x inside. is.bytes before after old new x inside ∙ ap (bit_xor (get_or before x 0)) (changed before old x);
  keeps = is.keeps;
} where
  k : ℕ
  k = s.site.shape.k

  changed : (before : List ℕ) → t.device.content ≡ Some before → (x : ℕ) → changed_by k k r.col caller s.claims x ≡ added_to k k r.col caller s.claims x
  changed before old x = by (nat_lt r.col k) refl where
    by : (b : Bool) → nat_lt r.col k ≡ b → changed_by k k r.col caller s.claims x ≡ added_to k k r.col caller s.claims x
    by false e = rw e refl
    by true e =
        let told : s.site.told ≡ true = sym (its_target s r t sound was goal).tells ∙ ap is_some old in
        let after : changed_by k k r.col caller s.claims x ≡ own_byte caller s.claims x r.col = rw e refl in
        after ∙ sym (adds_to_data s r.col caller x sound told (ltb-true r.col k e))

corrects_target : (s : Seg) (r : Rebuilding) (caller : ℕ) (o new : Option Target) → Sound s → s.rebuild ≡ Some r → r.target ≡ o → HasClaims s.site.shape.k r.col caller s.claims o new
    → CorrectsTarget s.site.shape.k r.col caller s.claims o new
corrects_target s r caller None new sound was goal is = is
corrects_target s r caller (Some t) new sound was goal is = (is.0, is.1, is_corrected s r t is.0 caller sound was goal is.2)

-- ---- a target that is let go

-- the node broke, with its count
broken_honest : (frail : List ℕ) (broken : List (Option ℕ)) (node count : ℕ) → AreBroken frail broken → 1 ≤ count → is_frail frail node ≡ true → AreBroken frail (slice_set broken node (Some count))
broken_honest frail broken node count honest counted there x n is = elim (cases_eq x node) [
  | inr other ↦ honest x n (sym (get_or-set_other broken node x (Some count) None other) ∙ is)
  | inl same ↦ elim (cases_lt node (length broken)) [
    | inl inside ↦
        let now : get_or (slice_set broken node (Some count)) x None ≡ Some count = ap (λ (y : ℕ). get_or (slice_set broken node (Some count)) y None) same ∙ get_or-set_same broken node (Some count) None inside in
        let one : ◌≡◌ {A = Option ℕ} (Some n) (Some count) = sym is ∙ now in
        let equal : n ≡ count = cc in
        rw (equal, same) (counted, there)
    | inr past ↦
        let size = length-set broken node (Some count) in
        let none : get_or (slice_set broken node (Some count)) x None ≡ None = get_or_past (slice_set broken node (Some count)) x None (omega (arith, size, past, same)) in
        let wrong : ◌≡◌ {A = Option ℕ} (Some n) None = sym is ∙ none in
        absurd (let no_way : ⊥ = cc in no_way)
  ]
]

still_rebuilding : (s : Seg) (r q : Rebuilding) → Sound s → s.rebuild ≡ Some r → LetsGo r q → IsRebuilding s.site s.frail s.pools s.log q
still_rebuilding s r q sound was l =
    let is = its_rebuild s r sound was in
    let t = its_target s r l.t sound was l.goal in
    let there : is_frail s.frail l.t.room.node.0 ≡ true = true_from_ne_false (is_frail s.frail l.t.room.node.0) (λ sure. l.frail (t.sure sure)) in
    rw l.now (record { column = is.column; down = is.down; honest = broken_honest s.frail r.broken l.t.room.node.0 l.count is.honest l.counted there; goal = tt })

lets_go : (s m : Seg) (r q : Rebuilding) → Sound s → s.rebuild ≡ Some r → m.rebuild ≡ Some q → LetsGo r q → m ≡ record s { rebuild = m.rebuild } → Aims s m
lets_go s m r q sound was now l becomes =
    let single : HasNone r.caller s.claims = subst (IsSingle s.claims) was sound.single in
    let same : IsSameRebuild r q = rw l.now (record { caller = refl; number = refl; col = refl }) in
    record {
      goal = rw now (still_rebuilding s r q sound was l);
      idle = rw (now, l.now) single;
      same = λ a b at later. (
          let first : a ≡ r = some_rebuild a r (sym at ∙ was) in
          let second : b ≡ q = some_rebuild b q (sym later ∙ now) in
          rw (first, second) same);
      nothing = λ a t later goal. (
          let one : a ≡ q = some_rebuild a q (sym later ∙ now) in
          let none : a.target ≡ None = ap (λ (x : Rebuilding). x.target) one ∙ ap (λ (x : Rebuilding). x.target) l.now in
          let wrong : ◌≡◌ {A = Option Target} None (Some t) = sym none ∙ goal in
          absurd (let no_way : ⊥ = cc in no_way));
      becomes = becomes;
    } where
      some_rebuild : (a b : Rebuilding) → ◌≡◌ {A = Option Rebuilding} (Some a) (Some b) → a ≡ b
      some_rebuild a b e = cc

-- ---- what came of the target

-- it was corrected, if there is one; or it was let go, and there is nothing to correct
pub record IsLetGo (caller : ℕ) (s m : Seg) : Type 0 where
  pub aims : Aims s m
  pub corrects : Corrects m.site.shape.k caller m.claims m.rebuild m.rebuild

pub settled : (s m : Seg) (caller : ℕ) → Sound s → SettlesEach s.site.shape.k caller s.claims s.rebuild m.rebuild → m ≡ record s { rebuild = m.rebuild }
    → Corrects s.site.shape.k caller s.claims s.rebuild m.rebuild ⊎ IsLetGo caller s m
settled s m caller sound settles becomes = by s.rebuild refl settles where
  gone : (k : ℕ) (claims : List (Option Claim)) (r q : Rebuilding) (o : Option Rebuilding) → o ≡ Some q → LetsGo r q → Corrects k caller claims o o
  gone k claims r q o now l =
      let none : q.target ≡ None = ap (λ (x : Rebuilding). x.target) l.now in
      rw now (None, ap (λ (x : Option Target). Some (record q { target = x })) none, rw none refl)

  by : (o : Option Rebuilding) → s.rebuild ≡ o → SettlesEach s.site.shape.k caller s.claims o m.rebuild → Corrects s.site.shape.k caller s.claims o m.rebuild ⊎ IsLetGo caller s m
  by None was is = inl is
  by (Some r) was is = elim is.2 [
    | inl kept ↦ inl (is.0.target, is.1 ∙ ap (λ (x : Rebuilding). Some x) kept.0, corrects_target s r caller r.target is.0.target sound was refl kept.1)
    | inr l ↦ inr (record { aims = lets_go s m r is.0 sound was is.1 l becomes; corrects = gone m.site.shape.k m.claims r is.0 m.rebuild is.1 l })
  ]

-- the caller has no rebuild still
pub still_alone : (s m : Seg) (caller : ℕ) → SettlesEach s.site.shape.k caller s.claims s.rebuild m.rebuild → IsOther caller s.rebuild → IsOther caller m.rebuild
still_alone s m caller settles alone = by s.rebuild settles alone where
  by : (o : Option Rebuilding) → SettlesEach s.site.shape.k caller s.claims o m.rebuild → IsOther caller o → IsOther caller m.rebuild
  by None is other = rw is tt
  by (Some r) is other = rw is.1 (elim is.2 [
    | inl kept ↦ rw kept.0 other
    | inr l ↦ rw l.now other
  ])

-- ---- the commit

-- the segment with the update committed
abbrev pub closed : Seg → Caller → (number stamp : ℕ) → Asked → Seg
closed m caller number stamp call =
    record m {
      cuts = raised_to m.site.shape.k caller.0 m.claims m.cuts;
      claims = without_claims caller.0 m.claims;
      log = m.log ++ Call caller number stamp call Done ∷ [];
    }

commits_at : (x u : Seg) (caller : Caller) (number stamp : ℕ) (call : Asked) → CanCommit x caller.0 number call → StampFollows x.log stamp
    → Corrects x.site.shape.k caller.0 x.claims x.rebuild u.rebuild → u ≡ record (closed x caller number stamp call) { rebuild = u.rebuild } → Commits x u
commits_at x u caller number stamp call can follows corrects becomes = record {
  caller = caller;
  number = number;
  stamp = stamp;
  call = call;
  block = can.block;
  claim = can.claim;
  there = can.there;
  owner = can.owner;
  asked = can.called;
  numbered = can.numbered;
  enough = can.few;
  follows = follows;
  everywhere = can.everywhere;
  corrects = corrects;
  becomes = becomes;
}

-- the same update is to be committed once the target is let go
can_later : (s m : Seg) (caller number : ℕ) (call : Asked) → CanCommit s caller number call → IsOther caller m.rebuild → m ≡ record s { rebuild = m.rebuild } → CanCommit m caller number call
can_later s m caller number call can alone becomes = subst (λ (x : Seg). CanCommit x caller number call) (sym becomes) (record {
  few = can.few;
  block = can.block;
  claim = can.claim;
  there = can.there;
  owner = can.owner;
  called = can.called;
  numbered = can.numbered;
  everywhere = can.everywhere;
  alone = alone;
})

-- What comes of a commit.
pub record Committed (s u : Seg) (caller : Caller) (number t stamp : ℕ) (call : Asked) : Type 0 where
  pub sound : Sound u
  pub makes : (w : Setting) → Makes w (request_of caller.0 number call) t stamp true s u

-- by one step, where the target is corrected
at_once : (s u : Seg) (caller : Caller) (number t stamp : ℕ) (call : Asked) → Sound s → CanCommit s caller.0 number call → IsOther caller.0 u.rebuild
    → stamp ≡ next_stamp (clock_of s.log) t → StampFollows s.log stamp → Corrects s.site.shape.k caller.0 s.claims s.rebuild u.rebuild
    → u ≡ record (closed s caller number stamp call) { rebuild = u.rebuild } → Committed s u caller number t stamp call
unfolding commits_at
at_once s u caller number t stamp call sound can alone next follows corrects becomes =
    let c : Commits s u = commits_at s u caller number stamp call can follows corrects becomes in
    record {
      sound = step_keeps s u sound (commits c);
      makes = λ w. record {
        steps = goes s s u (stays s) (commits (commits_at s u caller number stamp call can follows corrects becomes));
        happened = (
          t,
          record { clock = refl; goes_on = refl },
          record { caller_is = refl; number_is = refl; call_is = refl; seen = tt; stamp_is = next; clock = refl; ends = refl; alone = alone },
        );
      };
    }

-- by two, where it was let go before
own_aim : (caller number : ℕ) (call : Asked) (k : ℕ) (claims : List (Option Claim)) (o new : Option Rebuilding) → SettlesEach k caller claims o new → IsOwnAim (request_of caller number call) o new
own_aim caller number call k claims None new is = rw is tt
own_aim caller number call k claims (Some r) new is = rw is.1 tt

after_that : (s m u : Seg) (caller : Caller) (number t stamp : ℕ) (call : Asked) → Sound s → CanCommit m caller.0 number call → IsOther caller.0 u.rebuild
    → stamp ≡ next_stamp (clock_of m.log) t → StampFollows m.log stamp → Aims s m → IsOwnAim (request_of caller.0 number call) s.rebuild m.rebuild
    → Corrects m.site.shape.k caller.0 m.claims m.rebuild u.rebuild → u ≡ record (closed m caller number stamp call) { rebuild = u.rebuild }
    → Committed s u caller number t stamp call
unfolding commits_at
after_that s m u caller number t stamp call sound can alone next follows aim own corrects becomes =
    let c : Commits m u = commits_at m u caller number stamp call can follows corrects becomes in
    record {
      sound = step_keeps m u (step_keeps s m sound (aims aim)) (commits c);
      makes = λ w. record {
        steps = goes s m u (goes s s m (stays s) (aims aim)) (commits (commits_at m u caller number stamp call can follows corrects becomes));
        happened = (
          t,
          (t, record { clock = refl; goes_on = refl }, (own, record { clock = refl; goes_on = refl })),
          record { caller_is = refl; number_is = refl; call_is = refl; seen = tt; stamp_is = next; clock = refl; ends = refl; alone = alone },
        );
      };
    }

pub committed : (s m u : Seg) (caller : Caller) (number t stamp : ℕ) (call : Asked) → Sound s → CanCommit s caller.0 number call
    → SettlesEach s.site.shape.k caller.0 s.claims s.rebuild m.rebuild → m ≡ record s { rebuild = m.rebuild } → u ≡ closed m caller number stamp call
    → stamp ≡ next_stamp (clock_of m.log) t → StampFollows m.log stamp → Committed s u caller number t stamp call
committed s m u caller number t stamp call sound can settles becomes closes next follows =
    let log : m.log ≡ s.log = ap (λ (x : Seg). x.log) becomes in
    let rebuild : m.rebuild ≡ u.rebuild = sym (ap (λ (x : Seg). x.rebuild) closes) in
    let alone : IsOther caller.0 m.rebuild = still_alone s m caller.0 settles can.alone in
    let alone_now : IsOther caller.0 u.rebuild = subst (IsOther caller.0) rebuild alone in
    elim (settled s m caller.0 sound settles becomes) [
      | inl corrects ↦ at_once s u caller number t stamp call sound can alone_now (subst (λ (l : List Entry). stamp ≡ next_stamp (clock_of l) t) log next)
          (subst (λ (l : List Entry). StampFollows l stamp) log follows) (subst (Corrects s.site.shape.k caller.0 s.claims s.rebuild) rebuild corrects)
          (closes ∙ ap (λ (x : Seg). closed x caller number stamp call) becomes ∙ ap (λ (o : Option Rebuilding). record (closed s caller number stamp call) { rebuild = o }) rebuild)
      | inr gone ↦ after_that s m u caller number t stamp call sound (can_later s m caller.0 number call can alone becomes) alone_now next follows gone.aims
          (own_aim caller.0 number call s.site.shape.k s.claims s.rebuild m.rebuild settles) (subst (Corrects m.site.shape.k caller.0 m.claims m.rebuild) rebuild gone.corrects)
          (closes ∙ ap (λ (o : Option Rebuilding). record (closed m caller number stamp call) { rebuild = o }) rebuild)
    ]

-- the answer, and that nothing is open
pub answered : (s m u : Seg) (caller : Caller) (number stamp : ℕ) (call : Asked) (p : Paper) → CanCommit s caller.0 number call
    → SettlesEach s.site.shape.k caller.0 s.claims s.rebuild m.rebuild → u ≡ closed m caller number stamp call → p.reply ≡ Some Done
    → IsOutcome (Answered (length m.log) stamp) (request_of caller.0 number call) stamp u p
answered s m u caller number stamp call p can settles closes told = (
  ap (λ (x : Seg). open_in x caller.0) closes ∙ open_alone caller.0 (without_claims caller.0 m.claims) m.rebuild (still_alone s m caller.0 settles can.alone) ∙ nothing_open caller.0 m.claims,
  refl,
  (m.log, Call caller number stamp call Done, ap (λ (x : Seg). x.log) closes, refl, rw told refl),
)
