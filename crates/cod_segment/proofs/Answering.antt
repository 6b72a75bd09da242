-- Calls that are answered at once, and change no byte.
use Rattle.std.proofs.Common.{◌≡◌, ◌≢◌, ◌⊎◌, inl, inr, ℕ, ◌<◌, ◌≤◌, List, [], ◌∷◌, ◌++◌, length, All, Bool, true, false, cond, Option, Some, None, refl, sym, ap, ◌∙◌, subst, arith}
use Rattle.std.specs.Prelude.{◌==◌, ◌+◌, ◌||◌, is_some, nat_lt, not}
use Rattle.std.proofs.lemmas.Bool.{eqb-true}
use Rattle.std.proofs.lemmas.Bool.Decides.{nat_tests}
use Rattle.cod_types.specs.Limits.{segment_length, Shape}
use Rattle.cod_types.specs.Plain.{refusal}
use Rattle.cod_types.specs.declared.call.Call.{Call as Asked}
use Rattle.cod_types.specs.declared.call.Call.TheVariants.{Read, Write, Swap, Put, Merge, Tick, Rebuild, Upgrade, Drain}
use Rattle.cod_types.specs.declared.call.Caller.{Caller}
use Rattle.cod_types.specs.declared.call.NodeId.{NodeId}
use Rattle.cod_types.specs.declared.call.Reply.{Reply}
use Rattle.cod_types.specs.declared.call.Reply.TheVariants.{Done, Long, Lost, Range}
use Rattle.cod_code.specs.Codewords.{AreBytes}
use Rattle.cod_chronicle.specs.declared.entry.Entry.TheVariants.{Call}
use Rattle.cod_chronicle.specs.Event.{IsSeenReply, Request, Setting}
use Rattle.cod_chronicle.specs.Legal.{IsAnswer}
use Rattle.cod_chronicle.specs.Said.{bytes_next, bytes_of, clock_of, is_over, next_stamp, numbers_by, StampFollows}
use Rattle.cod_claims.specs.declared.claim.Claim.{Claim}
use Rattle.cod_claims.specs.declared.claims.Held.{Held}
use Rattle.cod_claims.specs.Claimed.{AreClaims, claim_at, HasNone, is_of, IsOpenBy, open_call}
use Rattle.cod_claims.specs.Slips.{links_for, Paper, prepared}
use Rattle.cod_claims.proofs.Opening.{opens_by_claim, opens_call}
use Rattle.cod_seg.specs.Next.{block_holder, has_claim, live_on, next_part, next_piece, next_served, next_step, next_update, open_in, open_of, rebuild_holder, unless_held}
use Rattle.cod_seg.specs.Seg.{Rebuilding, Seg}
use Rattle.cod_seg.specs.Sound.{is_update, IsOther, Sound}
use Rattle.cod_seg.specs.Steps.{Answers, answers, goes, stays}
use Rattle.cod_seg.specs.declared.next.Step.{Step}
use Rattle.cod_seg.specs.declared.next.Step.TheVariants as step
use Rattle.cod_seg.proofs.Choosing.{IsBringing, IsPart, next_is, piece_is, served, some_is}
use Rattle.cod_seg.proofs.Going.{goes_keep}
use Rattle.cod_seg.proofs.Keeping.{of_each}
use Rattle.cod_chronicle.specs.Said.{downs}
use Rattle.cod_chronicle.specs.Laws.{quiet_reply}
use Rattle.cod_chronicle.proofs.Answering.{answer_refused, answers_quietly}
use Rattle.cod_segment.specs.declared.asking.Outcome.TheVariants.{Answered}
use Rattle.cod_segment.specs.Events.{HasBegun, IsAsked, IsOutcome, Makes, request_of}

-- ---- who has nothing open

not_mine : (caller m : ℕ) (claims : List (Option Claim)) (c : Claim) → AreClaims claims → open_call caller claims ≡ None → claim_at claims m ≡ Some c
    → (b : Bool) → (c.owner.0 == caller) ≡ b → (c.owner.0 == caller) ≡ false
not_mine caller m claims c are none at false e = e
not_mine caller m claims c are none at true e =
    let own : c.owner.0 ≡ caller = eqb-true c.owner.0 caller e in
    let opened : open_call caller claims ≡ Some (c.number, c.delta.call) = subst (λ (n : ℕ). open_call n claims ≡ Some (c.number, c.delta.call)) own (opens_call claims m c are at) in
    let wrong : None ≡ Some (c.number, c.delta.call) = sym none ∙ opened in
    absurd (let no_way : ⊥ = cc in no_way)

claimless : (caller : ℕ) (claims : List (Option Claim)) → AreClaims claims → open_call caller claims ≡ None → HasNone caller claims
claimless caller claims are none = of_each caller claims (λ m. by m (claim_at claims m) refl) where
  by : (m : ℕ) (o : Option Claim) → claim_at claims m ≡ o → is_of caller o ≡ false
  by m None at = refl
  by m (Some c) at = not_mine caller m claims c are none at (c.owner.0 == caller) refl

apart_from : (a b : ℕ) → (a == b) ≡ false → a ≢ b
apart_from a b e same = let t : (a == b) ≡ true = grind (arith, nat_tests, same) in let wrong : true ≡ false = sym t ∙ e in cc

-- has no claim, and no rebuild
idle_by : (caller : ℕ) (claims : List (Option Claim)) (o : Option Rebuilding) → AreClaims claims → open_of caller claims o ≡ None → HasNone caller claims × IsOther caller o
idle_by caller claims None are none = (claimless caller claims are none, tt)
idle_by caller claims (Some r) are none = by (r.caller == caller) refl none where
  by : (b : Bool) → (r.caller == caller) ≡ b → cond b (Some (r.number, Rebuild)) (open_call caller claims) ≡ None → HasNone caller claims × (r.caller ≢ caller)
  by true e is = absurd (let wrong : ⊥ = cc in wrong)
  by false e is = (claimless caller claims are is, apart_from r.caller caller e)

pub idle : (s : Seg) (caller : ℕ) → Sound s → open_in s caller ≡ None → HasNone caller s.claims × IsOther caller s.rebuild
idle s caller sound none = idle_by caller s.claims s.rebuild sound.claimed.sixteen none

-- what is open is a claim's call, or a rebuild
opened_by : (caller number : ℕ) (call : Asked) (claims : List (Option Claim)) (o : Option Rebuilding) → open_of caller claims o ≡ Some (number, call)
    → IsOpenBy caller number call claims ⊎ ((r : Rebuilding) × (o ≡ Some r) × (call ≡ Rebuild))
opened_by caller number call claims None is = inl (opens_by_claim claims caller number call is)
opened_by caller number call claims (Some r) is = by (r.caller == caller) is where
  by : (b : Bool) → cond b (Some (r.number, Rebuild)) (open_call caller claims) ≡ Some (number, call)
      → IsOpenBy caller number call claims ⊎ ((q : Rebuilding) × (Some r ≡ Some q) × (call ≡ Rebuild))
  by true e = let p : ◌≡◌ {A = ℕ × Asked} (r.number, Rebuild) (number, call) = cc in inr (r, refl, sym (ap (λ (x : ℕ × Asked). x.1) p))
  by false e = inl (opens_by_claim claims caller number call e)

-- A caller whose call can be neither a claim's nor a rebuild's has nothing open.
pub unopened : (s : Seg) (caller number : ℕ) (p : Paper) (call : Asked) → IsAsked s caller number p call
    → ((j : ℕ) (c : Claim) → claim_at s.claims j ≡ Some c → c.delta.call ≡ call → ⊥)
    → ((r : Rebuilding) → s.rebuild ≡ Some r → call ≡ Rebuild → ⊥) → open_in s caller ≡ None
unopened s caller number p call asked claim rebuild = by asked.state where
  by : ((open_in s caller ≡ None) × (p ≡ prepared s.site.shape call)) ⊎ ((open_in s caller ≡ Some (number, call)) × HasBegun p call) → open_in s caller ≡ None
  by (inl a) = a.0
  by (inr a) = absurd (elim (opened_by caller number call s.claims s.rebuild a.0) [ inl o ↦ claim o.block o.claim o.there o.call_is | inr o ↦ rebuild o.0 o.1 o.2 ])

-- ---- the event

-- Its entry is the next, with the next stamp. Where regions don't tell what they hold, the bytes that the chronicle leaves need not stay,
-- but are bytes.
pub spoken : (w : Setting) (s u : Seg) (caller : Caller) (number stamp t version : ℕ) (call : Asked) (reply : Reply) → HasNone caller.0 s.claims → IsOther caller.0 s.rebuild
    → All (λ m. m < number) (numbers_by caller.0 s.log) → IsAnswer s.site s.log call reply
    → (s.site.told ≡ true → bytes_next (bytes_of s.site s.log) (Call caller number stamp call reply) ≡ bytes_of s.site s.log)
    → (AreBytes (bytes_of s.site s.log) → AreBytes (bytes_next (bytes_of s.site s.log) (Call caller number stamp call reply)))
    → (version ≡ s.version) ⊎ ((call ≡ Upgrade) × (version ≡ 2) × (s.site.shape.version ≡ 2))
    → IsSeenReply w.seen w.may reply → stamp ≡ next_stamp (clock_of s.log) t → StampFollows s.log stamp
    → u ≡ record s { version = version; log = s.log ++ Call caller number stamp call reply ∷ [] }
    → Makes w (request_of caller.0 number call) t stamp true s u
spoken w s u caller number stamp t version call reply idle alone newest answer quiet plain dated seen next follows becomes =
    let is : Answers s u = record {
      caller = caller;
      number = number;
      stamp = stamp;
      call = call;
      reply = reply;
      follows = follows;
      newest = newest;
      idle = idle;
      answer = answer;
      quiet = quiet;
      plain = plain;
      dated = rw becomes dated;
      becomes = rw becomes refl;
    } in
    record {
      steps = goes s s u (stays s) (answers is);
      happened = (
        t,
        record { clock = refl; goes_on = refl },
        record {
          caller_is = refl;
          number_is = refl;
          call_is = refl;
          seen = seen;
          stamp_is = next;
          clock = refl;
          ends = refl;
          alone = rw becomes alone;
        },
      );
    }

pub answered : (w : Setting) (s u : Seg) (caller : Caller) (number stamp t version : ℕ) (call : Asked) (reply : Reply) → HasNone caller.0 s.claims → IsOther caller.0 s.rebuild
    → All (λ m. m < number) (numbers_by caller.0 s.log) → IsAnswer s.site s.log call reply
    → bytes_next (bytes_of s.site s.log) (Call caller number stamp call reply) ≡ bytes_of s.site s.log
    → (version ≡ s.version) ⊎ ((call ≡ Upgrade) × (version ≡ 2) × (s.site.shape.version ≡ 2))
    → IsSeenReply w.seen w.may reply → stamp ≡ next_stamp (clock_of s.log) t → StampFollows s.log stamp
    → u ≡ record s { version = version; log = s.log ++ Call caller number stamp call reply ∷ [] }
    → Makes w (request_of caller.0 number call) t stamp true s u
answered w s u caller number stamp t version call reply idle alone newest answer quiet dated seen next follows becomes =
    spoken w s u caller number stamp t version call reply idle alone newest answer (λ told. quiet) (λ bytes. rw quiet bytes) dated seen next follows becomes

-- what is made of a sound segment is sound
pub sound_after : (w : Setting) (r : Request) (t after : ℕ) (done : Bool) (s u : Seg) → Sound s → Makes w r t after done s u → Sound u
sound_after w r t after done s u sound is = goes_keep s u sound is.steps

-- a setting in which nothing is killed
pub calm_setting : Seg → Setting
calm_setting s = record { site = s.site; known = λ x. None; seen = λ x. None; may = λ x. false }

-- ---- what a step says of its call

abbrev pub IsStepOf : Asked → Step → Type 0
IsStepOf call step.Whole = call ≡ Rebuild
IsStepOf call step.Clear = (node : NodeId) × (call ≡ Drain node)
IsStepOf call step.Upgrade = call ≡ Upgrade
IsStepOf call step.Merge = call ≡ Merge
IsStepOf call step.Tick = call ≡ Tick
IsStepOf call step.Refuse = ⊥
IsStepOf call step.Lost = ⊥
IsStepOf call _ = Unit {0}

part_of : (call : Asked) (x : Step) → IsPart x → IsStepOf call x
part_of call (step.Data j) is = tt
part_of call (step.Parity j i) is = tt
part_of call step.Commit is = tt
part_of call x is = absurd is

bring_of : (call : Asked) (x : Step) → IsBringing x → IsStepOf call x
bring_of call step.RebuildStart is = tt
bring_of call step.RebuildPiece is = tt
bring_of call step.RebuildEnd is = tt
bring_of call x is = absurd is

held_of : (call : Asked) (o : Option Held) (x : Step) → IsStepOf call x → IsStepOf call (unless_held o x)
held_of call None x is = is
held_of call (Some h) x is = tt

update_of : (s : Seg) (caller : ℕ) (call : Asked) → IsStepOf call (next_update s caller call)
update_of s caller call = by (has_claim caller s.claims) where
  by : (b : Bool) → IsStepOf call (cond b (next_part s.site.shape.k s.site.shape.n s.cols s.claims caller) (unless_held (block_holder s.site.shape call caller s.claims) step.Begin))
  by true = part_of call (next_part s.site.shape.k s.site.shape.n s.cols s.claims caller) (next_is s.site.shape.k s.site.shape.n s.cols s.claims caller)
  by false = held_of call (block_holder s.site.shape call caller s.claims) step.Begin tt

pub step_of : (s : Seg) (caller : ℕ) (call : Asked) → IsStepOf call (next_served s caller call)
step_of s caller (Read off len) = tt
step_of s caller (Write off bytes) = update_of s caller (Write off bytes)
step_of s caller (Swap off old new) = update_of s caller (Swap off old new)
step_of s caller (Put bytes) = held_of (Put bytes) (block_holder s.site.shape (Put bytes) caller s.claims) step.Put tt
step_of s caller Merge = refl
step_of s caller Tick = refl
step_of s caller Upgrade = refl
step_of s caller Rebuild = by (length (downs s.site s.log) == 0) where
  by : (b : Bool) → IsStepOf Rebuild (cond b step.Whole (unless_held (rebuild_holder caller s.rebuild) (next_piece s.site.shape.block s.rebuild)))
  by true = refl
  by false = held_of Rebuild (rebuild_holder caller s.rebuild) (next_piece s.site.shape.block s.rebuild) (bring_of Rebuild (next_piece s.site.shape.block s.rebuild) (piece_is s.site.shape.block s.rebuild))
step_of s caller (Drain node) = by (is_some (live_on s.site s.log node.0)) where
  by : (b : Bool) → IsStepOf (Drain node) (cond b (unless_held (rebuild_holder caller s.rebuild) step.Drain) step.Clear)
  by true = held_of (Drain node) (rebuild_holder caller s.rebuild) step.Drain tt
  by false = (node, refl)

-- ---- the slip

pub record IsReady (p : Paper) (call : Asked) : Type 0 where
  pub call_is : p.call ≡ Some call
  pub links : 1 ≤ p.links
  pub unanswered : p.reply ≡ None

some_links : (call : Asked) → 1 ≤ links_for call
some_links Rebuild = omega arith
some_links (Drain node) = omega arith
some_links (Read off len) = omega arith
some_links (Write off bytes) = omega arith
some_links (Swap off old new) = omega arith
some_links (Put bytes) = omega arith
some_links Merge = omega arith
some_links Tick = omega arith
some_links Upgrade = omega arith

pub ready : (s : Seg) (caller number : ℕ) (p : Paper) (call : Asked) → IsAsked s caller number p call → IsReady p call
ready s caller number p call asked = by asked.state where
  by : ((open_in s caller ≡ None) × (p ≡ prepared s.site.shape call)) ⊎ ((open_in s caller ≡ Some (number, call)) × HasBegun p call) → IsReady p call
  by (inl a) = rw a.1 (record { call_is = refl; links = some_links call; unanswered = refl })
  by (inr a) = let e = a.1.link in record { call_is = a.1.call_is; links = omega (arith, e); unanswered = a.1.unanswered }

-- ---- refusals and upgrades

pub refused : (s : Seg) (caller : ℕ) (call : Asked) → next_step s caller call ≡ step.Refuse → (reply : Reply) × (refusal s.site.shape call ≡ Some reply)
refused s caller call is = by (is_some (refusal s.site.shape call)) (is_over s.site s.log) refl is where
  by : (a o : Bool) → is_some (refusal s.site.shape call) ≡ a → cond a step.Refuse (cond o step.Lost (next_served s caller call)) ≡ step.Refuse
      → (reply : Reply) × (refusal s.site.shape call ≡ Some reply)
  by true o e f = some_is (refusal s.site.shape call) e
  by false true e f = cc
  by false false e f = (let wrong : ⊥ = subst (IsStepOf call) f (step_of s caller call) in absurd wrong)

abbrev IsRefusal : Option Reply → Type 0
IsRefusal None = Unit {0}
IsRefusal (Some r) = (r ≡ Range) ⊎ (r ≡ Long)

refusals : (g : Shape) (call : Asked) → IsRefusal (refusal g call)
refusals g (Read off len) = by (nat_lt (segment_length g) (off + len)) where
  by : (b : Bool) → IsRefusal (cond b (Some Range) None)
  by true = inl refl
  by false = tt
refusals g (Write off bytes) = by (nat_lt (segment_length g) (off + length bytes)) (nat_lt g.update (length bytes)) where
  by : (a b : Bool) → IsRefusal (cond a (Some Range) (cond b (Some Long) None))
  by true b = inl refl
  by false true = inr refl
  by false false = tt
refusals g (Swap off old new) = by (nat_lt (segment_length g) (off + length old)) (nat_lt g.update (length new) || not (length new == length old)) where
  by : (a b : Bool) → IsRefusal (cond a (Some Range) (cond b (Some Long) None))
  by true b = inl refl
  by false true = inr refl
  by false false = tt
refusals g (Put bytes) = by (length bytes == segment_length g) where
  by : (b : Bool) → IsRefusal (cond b None (Some Long))
  by true = tt
  by false = inr refl
refusals g Merge = tt
refusals g Tick = tt
refusals g Rebuild = tt
refusals g Upgrade = tt
refusals g (Drain node) = tt

pub refusal_kind : (g : Shape) (call : Asked) (reply : Reply) → refusal g call ≡ Some reply → (reply ≡ Range) ⊎ (reply ≡ Long)
refusal_kind g call reply is = subst IsRefusal is (refusals g call)

seen_refusal : (w : Setting) (reply : Reply) → (reply ≡ Range) ⊎ (reply ≡ Long) → IsSeenReply w.seen w.may reply
seen_refusal w reply (inl e) = rw e tt
seen_refusal w reply (inr e) = rw e tt

quiet_refusal : (b : List ℕ) (caller : Caller) (number stamp : ℕ) (call : Asked) (reply : Reply) → (reply ≡ Range) ⊎ (reply ≡ Long) → bytes_next b (Call caller number stamp call reply) ≡ b
quiet_refusal b caller number stamp call reply (inl e) = rw e refl
quiet_refusal b caller number stamp call reply (inr e) = rw e refl

pub refusal_idle : (s : Seg) (caller number : ℕ) (p : Paper) (call : Asked) (reply : Reply) → Sound s → IsAsked s caller number p call → refusal s.site.shape call ≡ Some reply → open_in s caller ≡ None
refusal_idle s caller number p call reply sound asked is = unopened s caller number p call asked
    (λ j c there e. let free : refusal s.site.shape call ≡ None = subst (λ (x : Asked). refusal s.site.shape x ≡ None) e (sound.claimed.each j c there).free in
    let wrong : None ≡ Some reply = sym free ∙ is in cc)
    (λ r was e. let wrong : None ≡ Some reply = subst (λ (x : Asked). refusal s.site.shape x ≡ Some reply) e is in cc)

pub makes_refusal : (w : Setting) (s u : Seg) (caller : Caller) (number stamp t : ℕ) (p : Paper) (call : Asked) (reply : Reply) → Sound s → IsAsked s caller.0 number p call
    → refusal s.site.shape call ≡ Some reply → stamp ≡ next_stamp (clock_of s.log) t → StampFollows s.log stamp
    → u ≡ record s { log = s.log ++ Call caller number stamp call reply ∷ [] }
    → Makes w (request_of caller.0 number call) t stamp true s u
makes_refusal w s u caller number stamp t p call reply sound asked is next follows becomes =
    let none = refusal_idle s caller.0 number p call reply sound asked is in
    let calm = idle s caller.0 sound none in
    let kind = refusal_kind s.site.shape call reply is in
    answered w s u caller number stamp t s.version call reply calm.0 calm.1 asked.newest (answer_refused s.site s.log call reply is)
    (quiet_refusal (bytes_of s.site s.log) caller number stamp call reply kind) (inl refl) (seen_refusal w reply kind) next follows becomes

pub upgrade_idle : (s : Seg) (caller number : ℕ) (p : Paper) (call : Asked) → call ≡ Upgrade → Sound s → IsAsked s caller number p call → open_in s caller ≡ None
upgrade_idle s caller number p call is sound asked = unopened s caller number p call asked
    (λ j c there e. let update : is_update Upgrade ≡ true = subst (λ (x : Asked). is_update x ≡ true) (e ∙ is) (sound.claimed.each j c there).update in cc)
    (λ r was e. let wrong : Rebuild ≡ Upgrade = sym e ∙ is in cc)

pub upgraded : (s : Seg) (caller : ℕ) (call : Asked) → next_step s caller call ≡ step.Upgrade → (call ≡ Upgrade) × (is_over s.site s.log ≡ false)
upgraded s caller call is = let v = served s caller call step.Upgrade tt is in (subst (IsStepOf call) v.is (step_of s caller call), v.few)

pub makes_upgrade : (w : Setting) (s u : Seg) (caller : Caller) (number stamp t : ℕ) (p : Paper) (call : Asked) → Sound s → IsAsked s caller.0 number p call
    → next_step s caller.0 call ≡ step.Upgrade → stamp ≡ next_stamp (clock_of s.log) t → StampFollows s.log stamp
    → u ≡ record s { version = 2; log = s.log ++ Call caller number stamp call Done ∷ [] }
    → Makes w (request_of caller.0 number call) t stamp true s u
makes_upgrade w s u caller number stamp t p call sound asked is next follows becomes =
    let up = upgraded s caller.0 call is in
    let none = upgrade_idle s caller.0 number p call up.0 sound asked in
    let calm = idle s caller.0 sound none in
    let quiet = answers_quietly s.site s.log Upgrade tt refl in
    let reply : quiet_reply s.site s.log ≡ Done = ap (λ (b : Bool). cond b Lost Done) up.1 in
    answered w s u caller number stamp t 2 call Done calm.0 calm.1 asked.newest
    (subst (λ (x : Asked). IsAnswer s.site s.log x Done) (sym up.0) (subst (IsAnswer s.site s.log Upgrade) reply quiet.answer))
    (rw up.0 refl) (inr (up.0, refl, asked.dated up.0)) tt next follows becomes

-- ---- the outcome

pub outcome : (s u : Seg) (caller : Caller) (number stamp version : ℕ) (call : Asked) (reply : Reply) (p : Paper) → open_in s caller.0 ≡ None
    → u ≡ record s { version = version; log = s.log ++ Call caller number stamp call reply ∷ [] } → p.reply ≡ Some reply
    → IsOutcome (Answered (length s.log) stamp) (request_of caller.0 number call) stamp u p
outcome s u caller number stamp version call reply p none becomes told = (
  ap (λ (x : Seg). open_in x caller.0) becomes ∙ none,
  refl,
  (s.log, Call caller number stamp call reply, ap (λ (x : Seg). x.log) becomes, refl, rw told refl),
)
