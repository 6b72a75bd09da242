-- Which call a caller has open.
use Rattle.std.proofs.Common.{◌≡◌, ◌≢◌, ℕ, zero, suc, ◌<◌, ◌==◌, Bool, true, false, cond, length, List, [], ◌∷◌, All, Option, Some, None, get_or, set, refl, sym, ap, ◌∙◌, arith, length-set}
use Rattle.std.proofs.lemmas.Bool.{cond-true, cond-false}
use Rattle.std.proofs.lemmas.Bool.Decides.{nat_tests}
use Rattle.std.proofs.lemmas.List.{get_or-set_other}
use Rattle.std.proofs.lemmas.List.Recursion.{found_set_other}
use Rattle.cod_types.specs.declared.call.Call.{Call}
use Rattle.cod_types.specs.declared.call.Caller.{Caller}
use Rattle.cod_claims.specs.Changes.{Change}
use Rattle.cod_claims.specs.declared.claim.Claim.{Claim}
use Rattle.cod_claims.specs.Claimed.{ClaimsLeaveOthers, ClaimsOpen, OpensByClaim, OpensCall, OpensNone, IsOpenBy, ReleasesOne, claim_at, claim_of, is_of, open_call, with_claims, without_claims}
use Rattle.cod_claims.proofs.Claiming.{IsOnlyFor, at_set, claimed_only, only_none}

pub opens_none : OpensNone
opens_none [] caller none = refl
opens_none (None ∷ cs) caller none = opens_none cs caller (λ i d lt. none (suc i) d (omega arith))
opens_none (Some c ∷ cs) caller none =
    let other : (c.owner.0 == caller) ≡ false = none 0 None (omega arith) in
    cond-false (c.owner.0 == caller) (Some (c.number, c.delta.call)) (open_call caller cs) other ∙ opens_none cs caller (λ i d lt. none (suc i) d (omega arith))

-- the open call is that of some claim of the caller's
pub record Opens (caller : ℕ) (cs : List (Option Claim)) : Type 0 where
  pub at : ℕ
  pub claim : Claim
  pub here : claim_at cs at ≡ Some claim
  pub owner : claim.owner.0 ≡ caller
  pub opened : open_call caller cs ≡ Some (claim.number, claim.delta.call)

opens_next : (caller : ℕ) (c : Option Claim) (cs : List (Option Claim)) → open_call caller (c ∷ cs) ≡ open_call caller cs → Opens caller cs → Opens caller (c ∷ cs)
opens_next caller c cs same o = record { at = suc o.at; claim = o.claim; here = o.here; owner = o.owner; opened = same ∙ o.opened }

opens_either : (caller : ℕ) (d : Claim) (cs : List (Option Claim)) (b : Bool) → (d.owner.0 == caller) ≡ b → Opens caller cs → Opens caller (Some d ∷ cs)
opens_either caller d cs true is rest =
    record { at = 0; claim = d; here = refl; owner = grind (arith, nat_tests, is); opened = cond-true (d.owner.0 == caller) (Some (d.number, d.delta.call)) (open_call caller cs) is }
opens_either caller d cs false is rest = opens_next caller (Some d) cs (cond-false (d.owner.0 == caller) (Some (d.number, d.delta.call)) (open_call caller cs) is) rest

pub opens : (caller : ℕ) (cs : List (Option Claim)) (j : ℕ) (c : Claim) → claim_at cs j ≡ Some c → c.owner.0 ≡ caller → Opens caller cs
opens caller [] j c here owner = let gone : None ≡ Some c = here in cc
opens caller (None ∷ cs) zero c here owner = cc
opens caller (None ∷ cs) (suc j) c here owner = opens_next caller None cs refl (opens caller cs j c here owner)
opens caller (Some d ∷ cs) zero c here owner =
    let e : d ≡ c = cc in
    let mine : d.owner.0 ≡ caller = ap (λ (x : Claim). x.owner.0) e ∙ owner in
    record { at = 0; claim = d; here = refl; owner = mine; opened = cond-true (d.owner.0 == caller) (Some (d.number, d.delta.call)) (open_call caller cs) (grind (arith, nat_tests, mine)) }
opens caller (Some d ∷ cs) (suc j) c here owner = opens_either caller d cs (d.owner.0 == caller) refl (opens caller cs j c here owner)

pub opens_call : OpensCall
opens_call cs j c are here =
    let o = opens c.owner.0 cs j c here refl in
    let one = are.one_call o.at j o.claim c o.here here o.owner in
    o.opened ∙ ap (λ (n : ℕ). Some (n, o.claim.delta.call)) one.0 ∙ ap (λ (k : Call). Some (c.number, k)) one.1

-- the converse

open_by_next : (caller number : ℕ) (call : Call) (c : Option Claim) (cs : List (Option Claim)) → IsOpenBy caller number call cs → IsOpenBy caller number call (c ∷ cs)
open_by_next caller number call c cs o =
    record { block = suc o.block; claim = o.claim; there = o.there; owner = o.owner; number_is = o.number_is; call_is = o.call_is }

open_by_either : (caller number : ℕ) (call : Call) (c : Claim) (cs : List (Option Claim)) (b : Bool) → (c.owner.0 == caller) ≡ b
    → cond b (Some (c.number, c.delta.call)) (open_call caller cs) ≡ Some (number, call) → (open_call caller cs ≡ Some (number, call) → IsOpenBy caller number call cs)
    → IsOpenBy caller number call (Some c ∷ cs)
open_by_either caller number call c cs true is found later =
    let mine : c.owner.0 ≡ caller = grind (arith, nat_tests, is) in
    let e : (c.number, c.delta.call) ≡ (number, call) = cc in
    record {
      block = 0;
      claim = c;
      there = refl;
      owner = mine;
      number_is = ap (λ (p : ℕ × Call). p.0) e;
      call_is = ap (λ (p : ℕ × Call). p.1) e;
    }
open_by_either caller number call c cs false is found later = open_by_next caller number call (Some c) cs (later found)

pub opens_by_claim : OpensByClaim
opens_by_claim [] caller number call is = cc
opens_by_claim (None ∷ cs) caller number call is = open_by_next caller number call None cs (opens_by_claim cs caller number call is)
opens_by_claim (Some c ∷ cs) caller number call is = open_by_either caller number call c cs (c.owner.0 == caller) refl is (opens_by_claim cs caller number call)

-- claims that are made

-- the caller has a claim
pub record HasClaim (caller : ℕ) (cs : List (Option Claim)) : Type 0 where
  pub at : ℕ
  pub claim : Claim
  pub here : claim_at cs at ≡ Some claim
  pub owner : claim.owner.0 ≡ caller

has_made : (caller : Caller) (number : ℕ) (change : Change) (cs : List (Option Claim)) → change.part.block < length cs
    → HasClaim caller.0 (set cs change.part.block (Some (claim_of caller number change)))
has_made caller number change cs below =
    record { at = change.part.block; claim = claim_of caller number change; here = (at_set cs change.part.block (Some (claim_of caller number change)) change.part.block below).1 refl; owner = refl }

has_made_all : (caller : Caller) (number : ℕ) (changes : List Change) (cs : List (Option Claim)) → All (λ (x : Change). x.part.block < length cs) changes → HasClaim caller.0 cs
    → HasClaim caller.0 (with_claims caller number changes cs)
has_made_all caller number [] cs inside has = has
has_made_all caller number (x ∷ changes) cs inside has =
    let next = set cs x.part.block (Some (claim_of caller number x)) in
    let size : length next ≡ length cs = length-set cs x.part.block (Some (claim_of caller number x)) in
    has_made_all caller number changes next (λ i d lt. let at = inside (suc i) d (omega arith) in omega (arith, size, at)) (has_made caller number x cs (inside 0 x (omega arith)))

only_made : (caller : Caller) (number : ℕ) (call : Call) (changes : List Change) (cs : List (Option Claim)) → All (λ (x : Change). x.part.block < length cs) changes
    → All (λ (x : Change). x.call ≡ call) changes
    → IsOnlyFor caller.0 number call cs → IsOnlyFor caller.0 number call (with_claims caller number changes cs)
only_made caller number call [] cs inside same only = only
only_made caller number call (x ∷ changes) cs inside same only =
    let next = set cs x.part.block (Some (claim_of caller number x)) in
    let size : length next ≡ length cs = length-set cs x.part.block (Some (claim_of caller number x)) in
    only_made caller number call changes next (λ i d lt. let at = inside (suc i) d (omega arith) in omega (arith, size, at)) (λ i d lt. same (suc i) d (omega arith))
    (claimed_only caller number call x cs (inside 0 x (omega arith)) (same 0 x (omega arith)) only)

open_for : (caller number : ℕ) (call : Call) (cs : List (Option Claim)) → IsOnlyFor caller number call cs → HasClaim caller cs → open_call caller cs ≡ Some (number, call)
open_for caller number call cs only has =
    let o = opens caller cs has.at has.claim has.here has.owner in
    let for = only.only o.at o.claim o.here o.owner in
    o.opened ∙ ap (λ (n : ℕ). Some (n, o.claim.delta.call)) for.0 ∙ ap (λ (k : Call). Some (number, k)) for.1

pub claims_open : ClaimsOpen
claims_open caller number call change changes cs are none inside same =
    let below : All (λ (x : Change). x.part.block < length cs) (change ∷ changes) = λ i d lt. let at = inside i d lt in omega (arith, are.blocks, at) in
    let size = length-set cs change.part.block (Some (claim_of caller number change)) in
    open_for caller.0 number call (with_claims caller number (change ∷ changes) cs)
    (only_made caller number call (change ∷ changes) cs below same (only_none caller.0 number call cs none))
    (has_made_all caller number changes (set cs change.part.block (Some (claim_of caller number change))) (λ i d lt. let at = below (suc i) d (omega arith) in
    omega (arith, size, at)) (has_made caller number change cs (below 0 change (omega arith))))

-- what others have open

opened_by : Option Claim → Option (ℕ × Call)
opened_by None = None
opened_by (Some c) = Some (c.number, c.delta.call)

open_step : (other : ℕ) (x : Option Claim) (xs : List (Option Claim)) → open_call other (x ∷ xs) ≡ cond (is_of other x) (opened_by x) (open_call other xs)
unfolding opened_by
open_step other None xs = refl
open_step other (Some c) xs = refl

open_set : (other : ℕ) (cs : List (Option Claim)) (b : ℕ) (c : Claim) → claim_at cs b ≡ None → (c.owner.0 == other) ≡ false → open_call other (set cs b (Some c)) ≡ open_call other cs
open_set other cs b c free others =
    found_set_other (open_call other) (is_of other) opened_by None refl (open_step other) cs b (Some c) None (ap (is_of other) free) others

pub claims_leave_others : ClaimsLeaveOthers
claims_leave_others caller number other [] cs apart distinct free = refl
claims_leave_others caller number other (x ∷ changes) cs apart distinct free =
    let mine : (caller.0 == other) ≡ false = grind (arith, nat_tests, apart) in
    let here : claim_at cs x.part.block ≡ None = free 0 x (omega arith) in
    claims_leave_others caller number other changes (set cs x.part.block (Some (claim_of caller number x))) apart
    (λ i j d lt within. distinct (suc i) (suc j) d (omega arith) (omega arith))
    (λ i d lt.
    let far : x.part.block ≢ (get_or changes i d).part.block = distinct 0 (suc i) d (omega arith) (omega arith) in
    get_or-set_other cs x.part.block (get_or changes i d).part.block (Some (claim_of caller number x)) None (λ e. far (sym e)) ∙ free (suc i) d (omega arith))
    ∙ open_set other cs x.part.block (claim_of caller number x) here mine

-- released

released_none : (caller : ℕ) (b : Bool) (c : Claim) (cs : List (Option Claim)) → (c.owner.0 == caller) ≡ b → open_call caller cs ≡ None → open_call caller (cond b None (Some c) ∷ cs) ≡ None
released_none caller true c cs is none = none
released_none caller false c cs is none = cond-false (c.owner.0 == caller) (Some (c.number, c.delta.call)) (open_call caller cs) is ∙ none

pub nothing_open : (caller : ℕ) (cs : List (Option Claim)) → open_call caller (without_claims caller cs) ≡ None
nothing_open caller [] = refl
nothing_open caller (None ∷ cs) = nothing_open caller cs
nothing_open caller (Some c ∷ cs) = released_none caller (c.owner.0 == caller) c (without_claims caller cs) refl (nothing_open caller cs)

released_other : (caller other : ℕ) (b : Bool) (c : Claim) (cs ds : List (Option Claim)) → other ≢ caller → (c.owner.0 == caller) ≡ b → open_call other ds ≡ open_call other cs
    → open_call other (cond b None (Some c) ∷ ds) ≡ open_call other (Some c ∷ cs)
released_other caller other true c cs ds apart is same =
    let out : (c.owner.0 == other) ≡ false = grind (arith, nat_tests, is, apart) in
    same ∙ sym (cond-false (c.owner.0 == other) (Some (c.number, c.delta.call)) (open_call other cs) out)
released_other caller other false c cs ds apart is same = ap (cond (c.owner.0 == other) (Some (c.number, c.delta.call))) same

pub others_stay : (caller other : ℕ) (cs : List (Option Claim)) → other ≢ caller → open_call other (without_claims caller cs) ≡ open_call other cs
others_stay caller other [] apart = refl
others_stay caller other (None ∷ cs) apart = others_stay caller other cs apart
others_stay caller other (Some c ∷ cs) apart = released_other caller other (c.owner.0 == caller) c cs (without_claims caller cs) apart refl (others_stay caller other cs apart)

pub releases_one : ReleasesOne
releases_one caller other cs = (nothing_open caller cs, others_stay caller other cs)
