-- Claims that are made, marked and ended.
use Rattle.std.proofs.Common.{◌≡◌, ◌≢◌, ℕ, zero, suc, ◌<◌, ◌==◌, Bool, true, false, cond, length, map, replicate, List, [], ◌∷◌, All, Option, Some, None, IsSome, is_some, ◌⊎◌, get_or, set, refl, sym}
use Rattle.std.proofs.Common.{ap, ◌∙◌, subst, arith, inl, inr, length-set}
use Rattle.std.proofs.lemmas.Grind.{get_or-set_at}
use Rattle.std.proofs.lemmas.Bool.{cases_lt}
use Rattle.std.proofs.lemmas.Bool.Decides.{nat_tests}
use Rattle.std.proofs.lemmas.List.{get_or-map, get_or_default, get_or_past, get_or-set_other, length-map}
use Rattle.cod_types.specs.Overwritten.{byte_of}
use Rattle.cod_types.specs.declared.call.Call.{Call}
use Rattle.cod_types.specs.declared.call.Caller.{Caller}
use Rattle.cod_claims.specs.Changes.{Change, LiesInside}
use Rattle.cod_claims.specs.declared.claim.Claim.{Claim}
use Rattle.cod_claims.specs.Claimed.{AreClaims, HasNone, KeepsApplied, claim_at, claim_of, delta_of, applied, forgotten, is_of, noted, released, unclaimed, with_claims}

-- a claim comes from another but for its marks
pub record IsFrom (was now : Claim) : Type 0 where
  pub owner : now.owner ≡ was.owner
  pub number : now.number ≡ was.number
  pub delta : now.delta ≡ was.delta
  pub marks : length now.noted ≡ length was.noted

-- and it is the claim of block j
pub record ComesFrom (cs : List (Option Claim)) (j : ℕ) (now : Claim) : Type 0 where
  pub was : Claim
  pub here : claim_at cs j ≡ Some was
  pub from : IsFrom was now

pub kept_by : (cs ds : List (Option Claim)) → AreClaims cs → length ds ≡ length cs → ((j : ℕ) (d : Claim) → claim_at ds j ≡ Some d → ComesFrom cs j d) → AreClaims ds
kept_by cs ds are size from = record {
  blocks = size ∙ are.blocks;
  inside = λ j d here. let f = from j d here in subst LiesInside (sym f.from.delta) (are.inside j f.was f.here);
  own = λ j d here. let f = from j d here in ap (λ (x : Change). x.part.block) f.from.delta ∙ are.own j f.was f.here;
  marks = λ j d here. let f = from j d here in f.from.marks ∙ are.marks j f.was f.here;
  one_call = λ i j c d first second same.
      let f = from i c first in
      let e = from j d second in
      let owners : f.was.owner.0 ≡ e.was.owner.0 = ap (λ (x : Caller). x.0) (sym f.from.owner) ∙ same ∙ ap (λ (x : Caller). x.0) e.from.owner in
      let one = are.one_call i j f.was e.was f.here e.here owners in
      (f.from.number ∙ one.0 ∙ sym e.from.number, ap (λ (x : Change). x.call) f.from.delta ∙ one.1 ∙ sym (ap (λ (x : Change). x.call) e.from.delta));
}

-- what a change of one claim leaves of the others
pub at_set : (cs : List (Option Claim)) (b : ℕ) (x : Option Claim) (j : ℕ) → b < length cs → (j ≢ b → claim_at (set cs b x) j ≡ claim_at cs j) × (j ≡ b → claim_at (set cs b x) j ≡ x)
at_set cs b x j below = (λ other. get_or-set_other cs b j x None other, λ same. get_or-set_at cs b j x None same below)

-- a change at each block
pub at_map : (f : Option Claim → Option Claim) → f None ≡ None → (cs : List (Option Claim)) (j : ℕ) → claim_at (map f cs) j ≡ f (claim_at cs j)
at_map f none cs j = elim (cases_lt j (length cs)) [
  | inl below ↦ get_or-map f cs j None None below
  | inr past ↦ get_or_past (map f cs) j None (omega (arith, length-map cs f)) ∙ sym (ap f (get_or_past cs j None past) ∙ none)
]

-- where each claim is changed in its marks alone
abbrev pub KeepsClaim : (Option Claim → Option Claim) → Type 0
KeepsClaim f = (c : Option Claim) (d : Claim) → f c ≡ Some d → (was : Claim) × (c ≡ Some was) × IsFrom was d

pub comes_from_one : (f : Option Claim → Option Claim) → KeepsClaim f → (cs : List (Option Claim)) (b : ℕ) → b < length cs
    → (j : ℕ) (d : Claim) → claim_at (set cs b (f (claim_at cs b))) j ≡ Some d → ComesFrom cs j d
comes_from_one f keeps cs b inside j d here =
    elim (cases_lt j b) [
      | inl before ↦ record { was = d; here = sym ((at_set cs b (f (claim_at cs b)) j inside).0 (omega arith)) ∙ here; from = record { owner = refl; number = refl; delta = refl; marks = refl } }
      | inr from ↦ elim (cases_lt b j) [
        | inl after ↦ record { was = d; here = sym ((at_set cs b (f (claim_at cs b)) j inside).0 (omega arith)) ∙ here; from = record { owner = refl; number = refl; delta = refl; marks = refl } }
        | inr to ↦
            let same : j ≡ b = omega arith in
            let k = keeps (claim_at cs b) d (sym ((at_set cs b (f (claim_at cs b)) j inside).1 same) ∙ here) in
            record { was = k.0; here = ap (claim_at cs) same ∙ k.1; from = k.2 }
      ]
    ]

pub kept_by_one : (f : Option Claim → Option Claim) → KeepsClaim f → (cs : List (Option Claim)) (b : ℕ) → AreClaims cs → b < 16 → AreClaims (set cs b (f (claim_at cs b)))
kept_by_one f keeps cs b are below =
    kept_by cs (set cs b (f (claim_at cs b))) are (length-set cs b (f (claim_at cs b))) (comes_from_one f keeps cs b (omega (arith, are.blocks)))

pub kept_by_each : (f : Option Claim → Option Claim) → f None ≡ None → KeepsClaim f → (cs : List (Option Claim)) → AreClaims cs → AreClaims (map f cs)
kept_by_each f none keeps cs are =
    kept_by cs (map f cs) are (length-map cs f)
    (λ j d here. let k = keeps (claim_at cs j) d (sym (at_map f none cs j) ∙ here) in record { was = k.0; here = k.1; from = k.2 })

-- no claim

pub none_at : (n j : ℕ) → claim_at (replicate n None) j ≡ None
none_at zero j = refl
none_at (suc n) zero = refl
none_at (suc n) (suc j) = none_at n j

none_is_none : (j : ℕ) (c : Claim) → claim_at unclaimed j ≡ Some c → ⊥
none_is_none j c here = let gone : None ≡ Some c = sym (none_at 16 j) ∙ here in cc

pub unclaimed_are : AreClaims unclaimed
unclaimed_are = record {
  blocks = refl;
  inside = λ j c here. absurd (none_is_none j c here);
  own = λ j c here. absurd (none_is_none j c here);
  marks = λ j c here. absurd (none_is_none j c here);
  one_call = λ i j c d first second same. absurd (none_is_none i c first);
}

-- each of the setters

pub applied_keeps : KeepsClaim applied
applied_keeps None d is = cc
applied_keeps (Some c) d is = (c, refl, let e : record c { applied = true } ≡ d = cc in subst (λ (x : Claim). IsFrom c x) e (record { owner = refl; number = refl; delta = refl; marks = refl }))

pub noted_keeps : (col len : ℕ) → KeepsClaim (noted col len)
noted_keeps col len None d is = cc
noted_keeps col len (Some c) d is = (
  c,
  refl,
  let e : record c { noted = set c.noted col (Some len) } ≡ d = cc in
      subst (λ (x : Claim). IsFrom c x) e (record { owner = refl; number = refl; delta = refl; marks = length-set c.noted col (Some len) }),
)

pub forgotten_keeps : (col : ℕ) → KeepsClaim (forgotten col)
forgotten_keeps col None d is = cc
forgotten_keeps col (Some c) d is = (
  c,
  refl,
  let e : record c { applied = cond (c.delta.part.block == col) false c.applied; noted = set c.noted col None } ≡ d = cc in
      subst (λ (x : Claim). IsFrom c x) e (record { owner = refl; number = refl; delta = refl; marks = length-set c.noted col None }),
)

released_some : (caller : ℕ) (b : Bool) (c d : Claim) → cond b None (Some c) ≡ Some d → c ≡ d
released_some caller true c d is = cc
released_some caller false c d is = cc

pub released_keeps : (caller : ℕ) → KeepsClaim (released caller)
released_keeps caller None d is = cc
released_keeps caller (Some c) d is =
    (c, refl, subst (λ (x : Claim). IsFrom c x) (released_some caller (c.owner.0 == caller) c d is) (record { owner = refl; number = refl; delta = refl; marks = refl }))

-- one slot edited, as the code does it
pub slot_edited : (f : Option Claim → Option Claim) (cs : List (Option Claim)) (b : ℕ) (x y : Option Claim) → b < length cs → y ≡ f (get_or cs b x)
    → set cs b y ≡ set cs b (f (claim_at cs b))
slot_edited f cs b x y below by = ap (set cs b) (by ∙ ap f (get_or_default cs b x None below))

pub slot_kept : (f : Option Claim → Option Claim) → KeepsClaim f → (cs : List (Option Claim)) (b : ℕ) (x y : Option Claim) → AreClaims cs → b < 16 → y ≡ f (get_or cs b x) → AreClaims (set cs b y)
slot_kept f keeps cs b x y are below by =
    rw (slot_edited f cs b x y (omega (arith, are.blocks)) by) (kept_by_one f keeps cs b are below)

-- a block past the last has no claim
pub has_claim_below : (cs : List (Option Claim)) (b : ℕ) → length cs ≡ 16 → IsSome (claim_at cs b) → b < 16
has_claim_below cs b size some = elim (cases_lt b 16) [
  | inl below ↦ below
  | inr past ↦ let none : is_some (claim_at cs b) ≡ false = ap is_some (get_or_past cs b None (omega (arith, size))) in cc
]

-- the caller's claims are all for this call
pub record IsOnlyFor (caller number : ℕ) (call : Call) (cs : List (Option Claim)) : Type 0 where
  pub only : (j : ℕ) (c : Claim) → claim_at cs j ≡ Some c → c.owner.0 ≡ caller → (c.number ≡ number) × (c.delta.call ≡ call)

pub only_none : (caller number : ℕ) (call : Call) (cs : List (Option Claim)) → HasNone caller cs → IsOnlyFor caller number call cs
only_none caller number call cs none = record {
  only = λ j c here owner. elim (cases_lt j (length cs)) [
    | inl below ↦
        let other : is_of caller (Some c) ≡ false = ap (is_of caller) (sym here) ∙ none j None below in
        absurd (grind (arith, nat_tests, other, owner))
    | inr past ↦ let gone : None ≡ Some c = sym (get_or_past cs j None past) ∙ here in cc
  ];
}

-- what stands at block j after a claim on block b
pub claimed_at : (cs : List (Option Claim)) (b : ℕ) (x d : Claim) (j : ℕ) → b < length cs → claim_at (set cs b (Some x)) j ≡ Some d → ((j ≡ b) × (x ≡ d)) ⊎ (claim_at cs j ≡ Some d)
claimed_at cs b x d j below here = elim (cases_lt j b) [
  | inl before ↦ inr (sym ((at_set cs b (Some x) j below).0 (omega arith)) ∙ here)
  | inr from ↦ elim (cases_lt b j) [
    | inl after ↦ inr (sym ((at_set cs b (Some x) j below).0 (omega arith)) ∙ here)
    | inr to ↦
        let same : j ≡ b = omega arith in
        let e : Some x ≡ Some d = sym ((at_set cs b (Some x) j below).1 same) ∙ here in
        inl (same, cc)
  ]
]

pub claimed_only : (caller : Caller) (number : ℕ) (call : Call) (change : Change) (cs : List (Option Claim)) → change.part.block < length cs → change.call ≡ call
    → IsOnlyFor caller.0 number call cs → IsOnlyFor caller.0 number call (set cs change.part.block (Some (claim_of caller number change)))
claimed_only caller number call change cs below same only = record {
  only = λ j c here owner. elim (claimed_at cs change.part.block (claim_of caller number change) c j below here) [
    | inl new ↦ (ap (λ (x : Claim). x.number) (sym new.1), ap (λ (x : Claim). x.delta.call) (sym new.1) ∙ same)
    | inr old ↦ only.only j c old owner
  ];
}

pub claimed_are : (caller : Caller) (number : ℕ) (call : Call) (change : Change) (cs : List (Option Claim)) → change.part.block < 16 → change.call ≡ call
    → LiesInside change → IsOnlyFor caller.0 number call cs → AreClaims cs → AreClaims (set cs change.part.block (Some (claim_of caller number change)))
claimed_are caller number call change cs inside same lies only are =
    let below : change.part.block < length cs = omega (arith, are.blocks) in
    let x : Claim = claim_of caller number change in
    let all = claimed_only caller number call change cs below same only in
    let at = claimed_at cs change.part.block x in
    record {
      blocks = length-set cs change.part.block (Some x) ∙ are.blocks;
      inside = λ j c here. elim (at c j below here) [
        | inl new ↦ subst (λ (y : Claim). LiesInside y.delta) new.1 lies
        | inr old ↦ are.inside j c old
      ];
      own = λ j c here. elim (at c j below here) [
        | inl new ↦ ap (λ (y : Claim). y.delta.part.block) (sym new.1) ∙ sym new.0
        | inr old ↦ are.own j c old
      ];
      marks = λ j c here. elim (at c j below here) [
        | inl new ↦ ap (λ (y : Claim). length y.noted) (sym new.1)
        | inr old ↦ are.marks j c old
      ];
      one_call = λ i j c d first second owners. elim (at c i below first) [
        | inl new ↦
            let mine : d.owner.0 ≡ caller.0 = sym owners ∙ ap (λ (y : Claim). y.owner.0) (sym new.1) in
            let o = all.only j d second mine in
            (ap (λ (y : Claim). y.number) (sym new.1) ∙ sym o.0, ap (λ (y : Claim). y.delta.call) (sym new.1) ∙ same ∙ sym o.1)
        | inr old ↦ elim (at d j below second) [
          | inl late ↦
              let mine : c.owner.0 ≡ caller.0 = owners ∙ ap (λ (y : Claim). y.owner.0) (sym late.1) in
              let o = all.only i c first mine in
              (o.0 ∙ sym (ap (λ (y : Claim). y.number) (sym late.1)), o.1 ∙ sym (ap (λ (y : Claim). y.delta.call) (sym late.1) ∙ same))
          | inr both ↦ are.one_call i j c d old both owners
        ]
      ];
    }

pub claims_are : (caller : Caller) (number : ℕ) (call : Call) (changes : List Change) (cs : List (Option Claim)) → All (λ (x : Change). x.part.block < 16) changes
    → All (λ (x : Change). x.call ≡ call) changes → All LiesInside changes
    → IsOnlyFor caller.0 number call cs → AreClaims cs → AreClaims (with_claims caller number changes cs)
claims_are caller number call [] cs inside same lies only are = are
claims_are caller number call (x ∷ changes) cs inside same lies only are =
    let here : x.part.block < 16 = inside 0 x (omega arith) in
    let mine : x.call ≡ call = same 0 x (omega arith) in
    claims_are caller number call changes (set cs x.part.block (Some (claim_of caller number x)))
    (λ i d lt. inside (suc i) d (omega arith)) (λ i d lt. same (suc i) d (omega arith)) (λ i d lt. lies (suc i) d (omega arith))
    (claimed_only caller number call x cs (omega (arith, are.blocks)) mine only) (claimed_are caller number call x cs here mine (lies 0 x (omega arith)) only are)

-- going over changes

pub rest_inside : (all rest : List Change) (x : Change) (n m : ℕ) → all ≡ x ∷ rest → m ≡ n → All (λ (y : Change). y.part.block < n) all → All (λ (y : Change). y.part.block < m) rest
rest_inside all rest x n m is same inside = λ i d lt.
    let more : suc i < length all = rw is (omega arith) in
    let at : get_or all (suc i) d ≡ get_or rest i d = rw is refl in
    omega (arith, same, ap (λ (y : Change). y.part.block) at, inside (suc i) d more)

pub empty_list : {A : Type 0} (xs : List A) → length xs ≡ 0 → xs ≡ []
empty_list [] none = refl
empty_list (x ∷ xs) none = absurd (omega arith)

-- what a kept delta adds
pub keeps_applied : KeepsApplied
keeps_applied None x = refl
keeps_applied (Some c) x = by c.applied where
  by : (b : Bool) → byte_of (cond b (Some (c.delta.part.off, c.delta.bytes)) None) x ≡ cond b (byte_of (delta_of (Some c)) x) 0
  by true = refl
  by false = refl
