-- What the caller of an update has open.
use Rattle.std.proofs.Common.{◌≡◌, ℕ, zero, suc, List, [], ◌∷◌, set, true, false, cond, Option, Some, None, refl, sym, ap, ◌∙◌, subst, inl, inr}
use Rattle.std.specs.Prelude.{◌==◌, ◌⊎◌}
use Rattle.std.proofs.lemmas.Bool.{both_ways, eq-eqb, eqb-true}
use Rattle.cod_types.specs.declared.call.Call.{Call as Asked}
use Rattle.cod_types.specs.declared.call.Call.TheVariants.{Rebuild}
use Rattle.cod_claims.specs.declared.claim.Claim.{Claim}
use Rattle.cod_claims.specs.Claimed.{applied, claim_at, is_of, noted, open_call, with_applied, with_note}
use Rattle.cod_claims.specs.Slips.{Paper, prepared}
use Rattle.cod_claims.proofs.Opening.{opens_call}
use Rattle.cod_seg.specs.Next.{open_in, open_of}
use Rattle.cod_seg.specs.Seg.{Rebuilding, Seg}
use Rattle.cod_seg.specs.Sound.{IsOther, IsSingle, Sound}
use Rattle.cod_seg.proofs.Happening.{open_alone}
use Rattle.cod_seg.proofs.Keeping.{has_none}
use Rattle.cod_segment.specs.Events.{HasBegun, IsAsked}

-- a claim of the caller's
pub record Owns (caller : ℕ) (o : Option Claim) : Type 0 where
  pub claim : Claim
  pub there : o ≡ Some claim
  pub owner : claim.owner.0 ≡ caller

pub owned : (caller : ℕ) (o : Option Claim) → is_of caller o ≡ true → Owns caller o
owned caller None is = cc
owned caller (Some c) is = record { claim = c; there = refl; owner = eqb-true c.owner.0 caller is }

-- whoever has a claim has no rebuild in progress
pub other_rebuild : (s : Seg) (caller j : ℕ) → Sound s → is_of caller (claim_at s.claims j) ≡ true → IsOther caller s.rebuild
other_rebuild s caller j sound mine = by s.rebuild sound.single where
  by : (o : Option Rebuilding) → IsSingle s.claims o → IsOther caller o
  by None single = tt
  by (Some r) single = λ e. both_ways (is_of caller (claim_at s.claims j)) (subst (λ (n : ℕ). is_of n (claim_at s.claims j) ≡ false) e (has_none r.caller s.claims single j)) mine

-- and has the claim's call open
pub claim_open : (s : Seg) (caller j : ℕ) → Sound s → (own : Owns caller (claim_at s.claims j)) → open_in s caller ≡ Some (own.claim.number, own.claim.delta.call)
claim_open s caller j sound own =
    let mine : is_of caller (claim_at s.claims j) ≡ true = ap (is_of caller) own.there ∙ eq-eqb own.claim.owner.0 caller own.owner in
    open_alone caller s.claims s.rebuild (other_rebuild s caller j sound mine)
    ∙ subst (λ (n : ℕ). open_call n s.claims ≡ Some (own.claim.number, own.claim.delta.call)) own.owner (opens_call s.claims j own.claim sound.claimed.sixteen own.there)

-- So its call has begun, and is the one that is asked for.
pub record IsBegun (s : Seg) (caller number : ℕ) (p : Paper) (call : Asked) (c : Claim) : Type 0 where
  pub opened : open_in s caller ≡ Some (number, call)
  pub begun : HasBegun p call
  pub numbered : c.number ≡ number
  pub called : c.delta.call ≡ call

pub begun : (s : Seg) (caller number j : ℕ) (p : Paper) (call : Asked) → Sound s → IsAsked s caller number p call → (own : Owns caller (claim_at s.claims j))
    → IsBegun s caller number p call own.claim
begun s caller number j p call sound asked own = by asked.state where
  by : ((open_in s caller ≡ None) × (p ≡ prepared s.site.shape call)) ⊎ ((open_in s caller ≡ Some (number, call)) × HasBegun p call) → IsBegun s caller number p call own.claim
  by (inl a) = absurd (let wrong : None ≡ Some (own.claim.number, own.claim.delta.call) = sym a.0 ∙ claim_open s caller j sound own in let no_way : ⊥ = cc in no_way)
  by (inr a) =
      let same : ◌≡◌ {A = Option (ℕ × Asked)} (Some (own.claim.number, own.claim.delta.call)) (Some (number, call)) = sym (claim_open s caller j sound own) ∙ a.0 in
      let pair : ◌≡◌ {A = ℕ × Asked} (own.claim.number, own.claim.delta.call) (number, call) = cc in
      record { opened = a.0; begun = a.1; numbered = ap (λ (x : ℕ × Asked). x.0) pair; called = ap (λ (x : ℕ × Asked). x.1) pair }

-- ---- marks of claims leave it

head_same : (who : ℕ) (c : Option Claim) (cs ds : List (Option Claim)) → open_call who cs ≡ open_call who ds → open_call who (c ∷ cs) ≡ open_call who (c ∷ ds)
head_same who None cs ds e = e
head_same who (Some c) cs ds e = ap (cond (c.owner.0 == who) (Some (c.number, c.delta.call))) e

abbrev LeavesOpen : (Option Claim → Option Claim) → Type 0
LeavesOpen f = (who : ℕ) (c : Option Claim) (cs : List (Option Claim)) → open_call who (f c ∷ cs) ≡ open_call who (c ∷ cs)

applied_leaves : LeavesOpen applied
applied_leaves who None cs = refl
applied_leaves who (Some c) cs = refl

noted_leaves : (i len : ℕ) → LeavesOpen (noted i len)
noted_leaves i len who None cs = refl
noted_leaves i len who (Some c) cs = refl

open_one : (f : Option Claim → Option Claim) → LeavesOpen f → (who : ℕ) (cs : List (Option Claim)) (b : ℕ) → open_call who (set cs b (f (claim_at cs b))) ≡ open_call who cs
open_one f leaves who [] b = refl
open_one f leaves who (c ∷ cs) zero = leaves who c cs
open_one f leaves who (c ∷ cs) (suc b) = head_same who c (set cs b (f (claim_at cs b))) cs (open_one f leaves who cs b)

open_same : (who : ℕ) (claims later : List (Option Claim)) (o : Option Rebuilding) → open_call who later ≡ open_call who claims → open_of who later o ≡ open_of who claims o
open_same who claims later None e = e
open_same who claims later (Some r) e = ap (cond (r.caller == who) (Some (r.number, Rebuild))) e

pub open_applied : (who j : ℕ) (claims : List (Option Claim)) (o : Option Rebuilding) → open_of who (with_applied j claims) o ≡ open_of who claims o
open_applied who j claims o = open_same who claims (with_applied j claims) o (open_one applied applied_leaves who claims j)

pub open_noted : (who j i len : ℕ) (claims : List (Option Claim)) (o : Option Rebuilding) → open_of who (with_note j i len claims) o ≡ open_of who claims o
open_noted who j i len claims o = open_same who claims (with_note j i len claims) o (open_one (noted i len) (noted_leaves i len) who claims j)
