-- Steps of one request's event.
use Rattle.std.proofs.Common.{◌≡◌, ◌≢◌, ℕ, zero, suc, ◌<◌, ◌≤◌, List, [], ◌∷◌, ◌++◌, length, get_or, map, set, All, Bool, false, cond, Option, Some, None, refl, sym, ap, ◌∙◌, subst}
use Rattle.std.proofs.Common.{arith, append_assoc}
use Rattle.std.specs.Prelude.{◌==◌}
use Rattle.std.specs.List.{AllPairs}
use Rattle.std.proofs.lemmas.Bool.{ne_eqb}
use Rattle.std.proofs.lemmas.List.{get_or-map, length-map}
use Rattle.cod_types.specs.Limits.{Shape}
use Rattle.cod_types.specs.declared.call.Call.{Call as Asked}
use Rattle.cod_types.specs.declared.call.Call.TheVariants.{Drain, Put, Rebuild}
use Rattle.cod_types.specs.declared.call.Caller.{Caller}
use Rattle.cod_types.specs.declared.call.Reply.{Reply}
use Rattle.cod_types.specs.declared.call.Reply.TheVariants.{Done, Lost, Rebuilt, Shifted}
use Rattle.cod_layout.specs.declared.parts.Part.{Part}
use Rattle.cod_layout.specs.Parts.{IsInside, parts_of}
use Rattle.cod_layout.proofs.Splitting.{parts_rise, parts_split}
use Rattle.cod_chronicle.specs.declared.entry.Entry.{Entry}
use Rattle.cod_chronicle.specs.declared.entry.Entry.TheVariants.{Call, Down, Up, Move}
use Rattle.cod_chronicle.specs.Adding.{IsArriving}
use Rattle.cod_chronicle.specs.Event.{IsSeenReply, Request, Setting}
use Rattle.cod_chronicle.specs.Growing.{HasGrown}
use Rattle.cod_chronicle.specs.Legal.{Fits, IsAnswer, IsLegal, LegalAfter, node_id}
use Rattle.cod_chronicle.specs.Said.{clock_of, next_stamp, node_of, Site, stamp_of}
use Rattle.cod_chronicle.proofs.Growing.{grows_by_arrival, grows_by_call, grows_by_mark, grows_not}
use Rattle.cod_chronicle.proofs.Legality.{legal_right}
use Rattle.cod_claims.specs.declared.claim.Claim.{Claim}
use Rattle.cod_claims.specs.Changes.{Change, new_bytes}
use Rattle.cod_claims.specs.Claimed.{applied, claim_at, forgotten, HasNone, is_of, noted, open_call, with_applied, with_claims, with_note, without_claims, without_marks}
use Rattle.cod_claims.proofs.Joining.{joins_range}
use Rattle.cod_claims.proofs.Opening.{claims_leave_others, claims_open, nothing_open, opens_none, others_stay}
use Rattle.cod_seg.specs.Seg.{col_at, node_in, Rebuilding, Seg}
use Rattle.cod_seg.specs.Sound.{begin_of, IsOther, IsSingle, Sound}
use Rattle.cod_seg.specs.Steps.{aims, answers, applies, Begins, begins, commits, Corrects, fills, goes, IsSameRebuild, loses, marks, moves, notes, puts, PutsRebuild, rises, spoils, SpoilsRebuild}
use Rattle.cod_seg.specs.Steps.{stays, works}
use Rattle.cod_seg.specs.Next.{open_in, open_of}
use Rattle.cod_seg.specs.Happens.{AnswerEnds, BeginOpens, EventGrows, EventKeepsOpen, IsArrived, IsEntered, IsOwnAim, IsSilent, OthersKeepOpen, StepGrows}
use Rattle.cod_seg.proofs.Arriving.{owner_forgotten}
use Rattle.cod_seg.proofs.Claims.{none_mapped}
use Rattle.cod_seg.proofs.Updates.{accepted}
use Rattle.cod_seg.proofs.Going.{goes_keep, step_keeps}
use Rattle.cod_seg.proofs.Growing.{goes_grows}
use Rattle.cod_seg.proofs.Keeping.{of_each}

silent : (w : Setting) (r : Request) (old log later : List Entry) (start t after : ℕ) (answered : Bool) → later ≡ log → IsSilent t after answered → HasGrown w r old start log t false
    → HasGrown w r old start later after answered
silent w r old log later start t after answered same is grown = rw (same, is.clock, is.goes_on) grown

-- what fits behind a legal chronicle that is legal with it
fits_last : (site : Site) (log : List Entry) (e : Entry) → IsLegal site (log ++ e ∷ []) → Fits site log e []
fits_last site log e legal = (legal_right site [] log (e ∷ []) legal).0

fits_two : (site : Site) (log : List Entry) (mark e : Entry) → IsLegal site ((log ++ mark ∷ []) ++ e ∷ []) → Fits site log mark (e ∷ []) × Fits site (log ++ mark ∷ []) e []
fits_two site log mark e legal =
    let two : LegalAfter site log (mark ∷ e ∷ []) = legal_right site [] log (mark ∷ e ∷ []) (subst (IsLegal site) (append_assoc log (mark ∷ []) (e ∷ [])) legal) in
    (two.0, two.1.0)

-- a step's chronicle is legal at the site where it began
legal_after : (s u : Seg) (later : List Entry) → Sound u → u.site ≡ s.site → u.log ≡ later → IsLegal s.site later
legal_after s u later sound site log = subst (IsLegal s.site) log (subst (λ (q : Site). IsLegal q u.log) site sound.history.legal)

entered : (w : Setting) (r : Request) (old log later : List Entry) (start t after : ℕ) (answered : Bool) (site : Site) (caller : Caller) (number stamp : ℕ) (call : Asked) (reply : Reply)
    (left : Option Rebuilding)
    → w.site ≡ site → later ≡ log ++ Call caller number stamp call reply ∷ [] → IsLegal site (log ++ Call caller number stamp call reply ∷ [])
    → IsEntered w r (clock_of log) t after answered caller number stamp call reply left → HasGrown w r old start log t false → HasGrown w r old start later after answered
entered w r old log later start t after answered site caller number stamp call reply left at then legal is grown =
    let answer : IsAnswer site log call reply = fits_last site log (Call caller number stamp call reply) legal in
    let asked : IsAnswer w.site log r.call reply = subst (λ (q : Site). IsAnswer q log r.call reply) (sym at) (subst (λ (c : Asked). IsAnswer site log c reply) is.call_is answer) in
    let g = grows_by_call w r old log start t stamp caller reply grown is.caller_is is.seen asked is.stamp_is in
    rw (then, is.clock, is.ends, is.number_is, is.call_is) g

arrived : (w : Setting) (r : Request) (old log later : List Entry) (start t after : ℕ) (answered : Bool) (site : Site) (mark : Entry) (caller : Caller) (number first second : ℕ) (call : Asked)
    (reply : Reply)
    → w.site ≡ site → IsArriving mark → stamp_of mark ≡ first → IsSeenReply w.seen w.may reply → later ≡ (log ++ mark ∷ []) ++ Call caller number second call reply ∷ []
    → IsLegal site ((log ++ mark ∷ []) ++ Call caller number second call reply ∷ [])
    → IsArrived w r (clock_of log) t after answered caller number first second call → HasGrown w r old start log t false → HasGrown w r old start later after answered
arrived w r old log later start t after answered site mark caller number first second call reply at arriving stamp seen then legal is grown =
    let e : Entry = Call caller number second call reply in
    let wanted : Entry = Call caller r.number second r.call reply in
    let same : e ≡ wanted = ap (λ (n : ℕ). Call caller n second call reply) is.number_is ∙ ap (λ (c : Asked). Call caller r.number second c reply) is.call_is in
    let two = fits_two site log mark e legal in
    let fits : Fits w.site log mark (wanted ∷ []) = subst (λ (q : Site). Fits q log mark (wanted ∷ [])) (sym at) (subst (λ (x : Entry). Fits site log mark (x ∷ [])) same two.0) in
    let answer : IsAnswer site (log ++ mark ∷ []) call reply = two.1 in
    let asked : IsAnswer w.site (log ++ mark ∷ []) r.call reply =
    subst (λ (q : Site). IsAnswer q (log ++ mark ∷ []) r.call reply) (sym at) (subst (λ (c : Asked). IsAnswer site (log ++ mark ∷ []) c reply) is.call_is answer) in
    let g = grows_by_arrival w r old log start t mark caller second reply grown arriving is.caller_is seen fits asked (stamp ∙ is.first_is) (is.second_is
    ∙ sym (ap (λ (n : ℕ). next_stamp n n) stamp)) in
    rw (then, is.clock, is.ends, is.number_is, is.call_is) g

pub step_grows_event : StepGrows
step_grows_event w r old start t after answered s u (begins b) at sound is grown = silent w r old s.log u.log start t after answered (ap (λ (x : Seg). x.log) b.becomes) is.3 grown
step_grows_event w r old start t after answered s u (applies j a) at sound is grown = silent w r old s.log u.log start t after answered (ap (λ (x : Seg). x.log) a.becomes) is.1 grown
step_grows_event w r old start t after answered s u (notes j i high below n) at sound is grown = silent w r old s.log u.log start t after answered (ap (λ (x : Seg). x.log) n.becomes) is.1 grown
step_grows_event w r old start t after answered s u (spoils x) at sound is grown = silent w r old s.log u.log start t after answered (ap (λ (q : Seg). q.log) x.becomes) is grown
step_grows_event w r old start t after answered s u (works i below x) at sound is grown = silent w r old s.log u.log start t after answered (ap (λ (q : Seg). q.log) x.becomes) is grown
step_grows_event w r old start t after answered s u (aims a) at sound is grown = silent w r old s.log u.log start t after answered (ap (λ (x : Seg). x.log) a.becomes) is.1 grown
step_grows_event w r old start t after answered s u (fills f) at sound is grown = silent w r old s.log u.log start t after answered (ap (λ (x : Seg). x.log) f.becomes) is.1 grown
step_grows_event w r old start t after answered s u (commits c) at sound is grown =
    let then = ap (λ (x : Seg). x.log) c.becomes in
    entered w r old s.log u.log start t after answered s.site c.caller c.number c.stamp c.call Done u.rebuild at then
    (legal_after s u (s.log ++ Call c.caller c.number c.stamp c.call Done ∷ []) (step_keeps s u sound (commits c)) (ap (λ (x : Seg). x.site) c.becomes) then) is grown
step_grows_event w r old start t after answered s u (puts p) at sound is grown =
    let then = ap (λ (x : Seg). x.log) p.becomes in
    entered w r old s.log u.log start t after answered s.site p.caller p.number p.stamp (Put p.bytes) Done u.rebuild at then
    (legal_after s u (s.log ++ Call p.caller p.number p.stamp (Put p.bytes) Done ∷ []) (step_keeps s u sound (puts p)) (ap (λ (x : Seg). x.site) p.becomes) then) is grown
step_grows_event w r old start t after answered s u (answers a) at sound is grown =
    let then = ap (λ (x : Seg). x.log) a.becomes in
    entered w r old s.log u.log start t after answered s.site a.caller a.number a.stamp a.call a.reply u.rebuild at then
    (legal_after s u (s.log ++ Call a.caller a.number a.stamp a.call a.reply ∷ []) (step_keeps s u sound (answers a)) (ap (λ (x : Seg). x.site) a.becomes) then) is grown
step_grows_event w r old start t after answered s u (loses l) at sound is grown =
    let then = ap (λ (x : Seg). x.log) l.becomes in
    entered w r old s.log u.log start t after answered s.site l.caller l.number l.stamp l.call Lost u.rebuild at then
    (legal_after s u (s.log ++ Call l.caller l.number l.stamp l.call Lost ∷ []) (step_keeps s u sound (loses l)) (ap (λ (x : Seg). x.site) l.becomes) then) is grown
step_grows_event w r old start t after answered s u (marks i below m) at sound is grown =
    let then = ap (λ (x : Seg). x.log) m.becomes in
    let node = node_id (node_in (col_at s.cols i)) in
    let e : Entry = Down m.stamp i node m.cause in
    let legal = legal_after s u (s.log ++ e ∷ []) (step_keeps s u sound (marks i below m)) (ap (λ (x : Seg). x.site) m.becomes) then in
    let g = grows_by_mark w r old s.log start t m.stamp i node m.cause grown is.0 (subst (λ (q : Site). Fits q s.log e []) (sym at) (fits_last s.site s.log e legal)) is.1.stamp_is in
    rw (then, is.1.clock, is.1.goes_on) g
step_grows_event w r old start t after answered s u (rises x) at sound is grown =
    let then = ap (λ (q : Seg). q.log) x.becomes in
    let mark : Entry = Up x.first x.r.col x.t.room.node in
    let reply : Reply = Rebuilt x.r.col x.t.room.node in
    arrived w r old s.log u.log start t after answered s.site mark x.caller x.r.number x.first x.second Rebuild reply at tt refl tt then
    (legal_after s u ((s.log ++ mark ∷ []) ++ Call x.caller x.r.number x.second Rebuild reply ∷ []) (step_keeps s u sound (rises x)) (ap (λ (q : Seg). q.site) x.becomes) then) is grown
step_grows_event w r old start t after answered s u (moves i below m) at sound is grown =
    let then = ap (λ (q : Seg). q.log) m.becomes in
    let mark : Entry = Move m.first i m.place.room.node in
    let call : Asked = Drain (node_id (node_of s.site s.log i)) in
    let reply : Reply = Shifted i m.place.room.node in
    arrived w r old s.log u.log start t after answered s.site mark m.caller m.number m.first m.second call reply at tt refl tt then
    (legal_after s u ((s.log ++ mark ∷ []) ++ Call m.caller m.number m.second call reply ∷ []) (step_keeps s u sound (moves i below m)) (ap (λ (q : Seg). q.site) m.becomes) then) is grown

-- what is open by claims, where they changed in their marks alone
head_same : (who : ℕ) (c : Option Claim) (cs ds : List (Option Claim)) → open_call who cs ≡ open_call who ds → open_call who (c ∷ cs) ≡ open_call who (c ∷ ds)
head_same who None cs ds e = e
head_same who (Some c) cs ds e = ap (cond (c.owner.0 == who) (Some (c.number, c.delta.call))) e

-- a change of a claim that leaves what it opens
abbrev LeavesOpen : (Option Claim → Option Claim) → Type 0
LeavesOpen f = (who : ℕ) (c : Option Claim) (cs : List (Option Claim)) → open_call who (f c ∷ cs) ≡ open_call who (c ∷ cs)

applied_leaves : LeavesOpen applied
applied_leaves who None cs = refl
applied_leaves who (Some c) cs = refl

noted_leaves : (i len : ℕ) → LeavesOpen (noted i len)
noted_leaves i len who None cs = refl
noted_leaves i len who (Some c) cs = refl

forgotten_leaves : (i : ℕ) → LeavesOpen (forgotten i)
forgotten_leaves i who None cs = refl
forgotten_leaves i who (Some c) cs = refl

open_one : (f : Option Claim → Option Claim) → LeavesOpen f → (who : ℕ) (cs : List (Option Claim)) (b : ℕ) → open_call who (set cs b (f (claim_at cs b))) ≡ open_call who cs
open_one f leaves who [] b = refl
open_one f leaves who (c ∷ cs) zero = leaves who c cs
open_one f leaves who (c ∷ cs) (suc b) = head_same who c (set cs b (f (claim_at cs b))) cs (open_one f leaves who cs b)

open_each : (f : Option Claim → Option Claim) → LeavesOpen f → (who : ℕ) (cs : List (Option Claim)) → open_call who (map f cs) ≡ open_call who cs
open_each f leaves who [] = refl
open_each f leaves who (c ∷ cs) = leaves who c (map f cs) ∙ head_same who c (map f cs) cs (open_each f leaves who cs)

open_same : (who : ℕ) (claims later : List (Option Claim)) (o : Option Rebuilding) → open_call who later ≡ open_call who claims → open_of who later o ≡ open_of who claims o
open_same who claims later None e = e
open_same who claims later (Some r) e = ap (cond (r.caller == who) (Some (r.number, Rebuild))) e

-- who has no rebuild has open what it has claims for
pub open_alone : (who : ℕ) (claims : List (Option Claim)) (o : Option Rebuilding) → IsOther who o → open_of who claims o ≡ open_call who claims
open_alone who claims None other = refl
open_alone who claims (Some r) other = ap (λ (b : Bool). cond b (Some (r.number, Rebuild)) (open_call who claims)) (ne_eqb r.caller who other)

corrected_open : (who k caller : ℕ) (claims shown : List (Option Claim)) (o new : Option Rebuilding) → Corrects k caller claims o new → open_of who shown new ≡ open_of who shown o
corrected_open who k caller claims shown None new is = rw is refl
corrected_open who k caller claims shown (Some r) new is = rw is.1 refl

put_open : (who : ℕ) (shown : List (Option Claim)) (g : Shape) (b : List ℕ) (o new : Option Rebuilding) → PutsRebuild g b o new → open_of who shown new ≡ open_of who shown o
put_open who shown g b None new is = rw is refl
put_open who shown g b (Some r) new is = rw is.1 refl

spoiled_open : (who : ℕ) (shown : List (Option Claim)) (o new : Option Rebuilding) → SpoilsRebuild o new → open_of who shown new ≡ open_of who shown o
spoiled_open who shown None new is = rw is refl
spoiled_open who shown (Some r) new is = rw is.1 refl

aimed_open : (who : ℕ) (r : Request) (shown : List (Option Claim)) (o new : Option Rebuilding) → IsOwnAim r o new → ((p q : Rebuilding) → o ≡ Some p → new ≡ Some q → IsSameRebuild p q)
    → who ≢ r.caller
    → open_of who shown new ≡ open_of who shown o
aimed_open who r shown None None own same other = refl
aimed_open who r shown None (Some q) own same other = open_alone who shown (Some q) (λ e. other (sym e ∙ own.0))
aimed_open who r shown (Some p) None own same other = sym (open_alone who shown (Some p) (λ e. other (sym e ∙ own)))
aimed_open who r shown (Some p) (Some q) own same other =
    let is = same p q refl refl in
    ap (λ (n : ℕ). cond (n == who) (Some (q.number, Rebuild)) (open_call who shown)) is.caller ∙ ap (λ (n : ℕ). cond (p.caller == who) (Some (n, Rebuild)) (open_call who shown)) is.number

-- the blocks of changes that are made for a range's parts differ
changes_differ : (k block off len : ℕ) (changes : List Change) → map (λ (c : Change). c.part) changes ≡ parts_of k block off len
    → AllPairs (λ (c later : Change). c.part.block ≢ later.part.block) changes
changes_differ k block off len changes parts i j d lt within e =
    let size = length-map changes (λ (c : Change). c.part) in
    let first : get_or (map (λ (c : Change). c.part) changes) i d.part ≡ (get_or changes i d).part = get_or-map (λ (c : Change). c.part) changes i d d.part (omega (arith, lt, within)) in
    let second : get_or (map (λ (c : Change). c.part) changes) j d.part ≡ (get_or changes j d).part = get_or-map (λ (c : Change). c.part) changes j d d.part within in
    let rise = subst (AllPairs (λ (part later : Part). part.block < later.block)) (sym parts) (parts_rise block off len 0 k) i j d.part lt (omega (arith, size, within)) in
    let less : (get_or changes i d).part.block < (get_or changes j d).part.block =
    subst (λ (p : Part). (get_or changes i d).part.block < p.block) second (subst (λ (p : Part). p.block < (get_or (map (λ (c : Change). c.part) changes) j d.part).block) first rise) in
    omega (arith, less, e)

pub others_keep_open : OthersKeepOpen
others_keep_open w r t after other answered s u (begins b) sound is apart =
    ap (λ (x : Seg). open_in x other) b.becomes
    ∙ open_same other s.claims (with_claims b.caller b.number b.changes s.claims) s.rebuild
    (claims_leave_others b.caller b.number other b.changes s.claims (λ e. apart (sym e ∙ is.0))
    (changes_differ s.site.shape.k s.site.shape.block (begin_of b.call) (length (new_bytes b.call)) b.changes b.parts) b.vacant)
others_keep_open w r t after other answered s u (applies j a) sound is apart =
    ap (λ (x : Seg). open_in x other) a.becomes ∙ open_same other s.claims (with_applied j s.claims) s.rebuild (open_one applied applied_leaves other s.claims j)
others_keep_open w r t after other answered s u (notes j i high below n) sound is apart =
    ap (λ (x : Seg). open_in x other) n.becomes ∙ open_same other s.claims (with_note j i n.len s.claims) s.rebuild (open_one (noted i n.len) (noted_leaves i n.len) other s.claims j)
others_keep_open w r t after other answered s u (commits c) sound is apart =
    ap (λ (x : Seg). open_in x other) c.becomes
    ∙ corrected_open other s.site.shape.k c.caller.0 s.claims (without_claims c.caller.0 s.claims) s.rebuild u.rebuild c.corrects
    ∙ open_same other s.claims (without_claims c.caller.0 s.claims) s.rebuild (others_stay c.caller.0 other s.claims (λ e. apart (e ∙ is.caller_is)))
others_keep_open w r t after other answered s u (puts p) sound is apart =
    ap (λ (x : Seg). open_in x other) p.becomes ∙ put_open other s.claims s.site.shape p.bytes s.rebuild u.rebuild p.target
others_keep_open w r t after other answered s u (spoils x) sound is apart = ap (λ (q : Seg). open_in q other) x.becomes ∙ spoiled_open other s.claims s.rebuild u.rebuild x.target
others_keep_open w r t after other answered s u (answers a) sound is apart = ap (λ (x : Seg). open_in x other) a.becomes
others_keep_open w r t after other answered s u (loses l) sound is apart =
    ap (λ (x : Seg). open_in x other) l.becomes
    ∙ open_same other s.claims (without_claims l.caller.0 s.claims) s.rebuild (others_stay l.caller.0 other s.claims (λ e. apart (e ∙ is.caller_is)))
others_keep_open w r t after other answered s u (marks i below m) sound is apart = ap (λ (x : Seg). open_in x other) m.becomes
others_keep_open w r t after other answered s u (works i below x) sound is apart = ap (λ (q : Seg). open_in q other) x.becomes
others_keep_open w r t after other answered s u (aims a) sound is apart = ap (λ (x : Seg). open_in x other) a.becomes ∙ aimed_open other r s.claims s.rebuild u.rebuild is.0 a.same apart
others_keep_open w r t after other answered s u (fills f) sound is apart =
    ap (λ (x : Seg). open_in x other) f.becomes ∙ sym (ap (λ (o : Option Rebuilding). open_of other s.claims o) f.was)
others_keep_open w r t after other answered s u (rises x) sound is apart =
    ap (λ (q : Seg). open_in q other) x.becomes ∙ open_each (forgotten x.r.col) (forgotten_leaves x.r.col) other s.claims
    ∙ sym (open_alone other s.claims (Some x.r) (λ e. apart (sym e ∙ sym x.owner ∙ is.caller_is))) ∙ sym (ap (λ (o : Option Rebuilding). open_of other s.claims o) x.was)
others_keep_open w r t after other answered s u (moves i below m) sound is apart =
    ap (λ (q : Seg). open_in q other) m.becomes ∙ open_same other s.claims (without_marks i s.claims) s.rebuild (open_each (forgotten i) (forgotten_leaves i) other s.claims)

-- who has no claim, and no rebuild, has nothing open
pub nothing : (who : ℕ) (claims : List (Option Claim)) (o : Option Rebuilding) → HasNone who claims → IsOther who o → open_of who claims o ≡ None
nothing who claims o none other = open_alone who claims o other ∙ opens_none claims who none

none_kept : (f : Option Claim → Option Claim) → f None ≡ None → ((who : ℕ) (o : Option Claim) → is_of who (f o) ≡ is_of who o) → (who : ℕ) (claims : List (Option Claim)) → HasNone who claims
    → HasNone who (map f claims)
none_kept f none same who claims has = none_mapped who f none (λ o e. same who o ∙ e) claims has

pub answer_ends : AnswerEnds
answer_ends w r t after s u (begins b) sound is = (let e = is.3.goes_on in cc)
answer_ends w r t after s u (applies j a) sound is = (let e = is.1.goes_on in cc)
answer_ends w r t after s u (notes j i high below n) sound is = (let e = is.1.goes_on in cc)
answer_ends w r t after s u (commits c) sound is =
    let claims : u.claims ≡ without_claims r.caller s.claims = ap (λ (x : Seg). x.claims) c.becomes ∙ ap (λ (n : ℕ). without_claims n s.claims) is.caller_is in
    open_alone r.caller u.claims u.rebuild is.alone ∙ ap (open_call r.caller) claims ∙ nothing_open r.caller s.claims
answer_ends w r t after s u (puts p) sound is =
    let claims : u.claims ≡ s.claims = ap (λ (x : Seg). x.claims) p.becomes in
    nothing r.caller u.claims u.rebuild (subst (HasNone r.caller) (sym claims) (of_each r.caller s.claims (λ m. ap (is_of r.caller) (p.vacant m)))) is.alone
answer_ends w r t after s u (spoils x) sound is = (let e = is.goes_on in cc)
answer_ends w r t after s u (answers a) sound is =
    let claims : u.claims ≡ s.claims = ap (λ (x : Seg). x.claims) a.becomes in
    nothing r.caller u.claims u.rebuild (subst (HasNone r.caller) (sym claims) (subst (λ (n : ℕ). HasNone n s.claims) is.caller_is a.idle)) is.alone
answer_ends w r t after s u (loses l) sound is =
    let claims : u.claims ≡ without_claims r.caller s.claims = ap (λ (x : Seg). x.claims) l.becomes ∙ ap (λ (n : ℕ). without_claims n s.claims) is.caller_is in
    open_alone r.caller u.claims u.rebuild is.alone ∙ ap (open_call r.caller) claims ∙ nothing_open r.caller s.claims
answer_ends w r t after s u (marks i below m) sound is = (let e = is.1.goes_on in cc)
answer_ends w r t after s u (works i below x) sound is = (let e = is.goes_on in cc)
answer_ends w r t after s u (aims a) sound is = (let e = is.1.goes_on in cc)
answer_ends w r t after s u (fills f) sound is = (let e = is.1.goes_on in cc)
answer_ends w r t after s u (rises x) sound is =
    let single : HasNone x.r.caller s.claims = subst (IsSingle s.claims) x.was sound.single in
    let mine : HasNone r.caller s.claims = subst (λ (n : ℕ). HasNone n s.claims) (sym x.owner ∙ is.caller_is) single in
    ap (λ (q : Seg). open_in q r.caller) x.becomes ∙ opens_none (without_marks x.r.col s.claims) r.caller (none_kept (forgotten x.r.col) refl (owner_forgotten x.r.col) r.caller s.claims mine)
answer_ends w r t after s u (moves i below m) sound is =
    let mine : HasNone r.caller s.claims = subst (λ (n : ℕ). HasNone n s.claims) is.caller_is m.idle in
    ap (λ (q : Seg). open_in q r.caller) m.becomes ∙ ap (λ (o : Option Rebuilding). open_of r.caller (without_marks i s.claims) o) m.calm
    ∙ opens_none (without_marks i s.claims) r.caller (none_kept (forgotten i) refl (owner_forgotten i) r.caller s.claims mine)

begins_open : (s u : Seg) (b : Begins s u) (xs : List Change) → b.changes ≡ xs → Sound s → 1 ≤ length (new_bytes b.call)
    → open_call b.caller.0 (with_claims b.caller b.number b.changes s.claims) ≡ Some (b.number, b.call)
begins_open s u b [] e sound some =
    let g = s.site.shape in
    let within = (accepted g b.call b.update b.free).inside in
    let none : map (λ (c : Change). c.part) [] ≡ parts_of g.k g.block (begin_of b.call) (length (new_bytes b.call)) =
    subst (λ (l : List Change). map (λ (c : Change). c.part) l ≡ parts_of g.k g.block (begin_of b.call) (length (new_bytes b.call))) e b.parts in
    let long = joins_range g.k g.block (begin_of b.call) (length (new_bytes b.call)) [] within none (λ i d lt. absurd (omega (arith, lt))) in
    absurd (omega (arith, long, some))
begins_open s u b (x ∷ xs) e sound some =
    let g = s.site.shape in
    let within = (accepted g b.call b.update b.free).inside in
    let size = length-map b.changes (λ (c : Change). c.part) in
    let inside : All (IsInside g.k g.block) (map (λ (c : Change). c.part) b.changes) =
    subst (All (IsInside g.k g.block)) (sym b.parts) (parts_split g.k g.block (begin_of b.call) (length (new_bytes b.call)) within).inside in
    let few : g.k ≤ 16 = let n = sound.shape.most_columns in let m = sound.shape.data_among_columns in omega (arith, n, m) in
    let blocks : All (λ (c : Change). c.part.block < 16) b.changes = λ i d lt.
    let at = inside i d.part (omega (arith, size, lt)) in
    let low = at.among in
    let same : (get_or (map (λ (c : Change). c.part) b.changes) i d.part).block ≡ (get_or b.changes i d).part.block =
    ap (λ (p : Part). p.block) (get_or-map (λ (c : Change). c.part) b.changes i d d.part lt) in
    omega (arith, low, same, few) in
    ap (λ (l : List Change). open_call b.caller.0 (with_claims b.caller b.number l s.claims)) e
    ∙ claims_open b.caller b.number b.call x xs s.claims sound.claimed.sixteen b.idle (subst (All (λ (c : Change). c.part.block < 16)) e blocks)
    (subst (All (λ (c : Change). c.call ≡ b.call)) e b.asked)

pub begin_opens : BeginOpens
begin_opens s u b sound some =
    ap (λ (x : Seg). open_in x b.caller.0) b.becomes ∙ open_alone b.caller.0 (with_claims b.caller b.number b.changes s.claims) s.rebuild b.single ∙ begins_open s u b b.changes refl sound some

pub event_grows : EventGrows
event_grows w r t after answered s u (stays v) at sound is = silent w r s.log s.log s.log t t after answered refl is (grows_not w r s.log t)
event_grows w r t after answered s u (goes a b c before step) at sound is =
    let grown = event_grows w r t is.0 false a b before at sound is.1 in
    let same = (goes_grows a b before).site in
    step_grows_event w r a.log t is.0 after answered b c step (at ∙ sym same) (goes_keep a b sound before) is.2 grown

pub event_keeps_open : EventKeepsOpen
event_keeps_open w r t after other answered s u (stays v) sound is apart = refl
event_keeps_open w r t after other answered s u (goes a b c before step) sound is apart =
    others_keep_open w r is.0 after other answered b c step (goes_keep a b sound before) is.2 apart ∙ event_keeps_open w r t is.0 other false a b before sound is.1 apart
