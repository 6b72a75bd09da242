-- The claims that a call's changes make, block by block.
use Rattle.std.proofs.Common.{◌≡◌, ◌≢◌, ℕ, zero, suc, ◌+◌, ◌<◌, ◌≤◌, List, [], ◌∷◌, length, set, map, All, Bool, cond, refl, sym, ap, ◌∙◌, subst, inl, inr, arith, Some, None, Option}
use Rattle.std.proofs.lemmas.Bool.{cases_eq, cases_lt, ne_eqb, eq-eqb}
use Rattle.std.proofs.lemmas.List.{get_or-set_same, get_or-set_other, length-set}
use Rattle.cod_types.specs.declared.call.Caller.{Caller}
use Rattle.cod_layout.specs.declared.parts.Part.{Part}
use Rattle.cod_layout.specs.Parts.{length_in, part_in, parts_among}
use Rattle.cod_layout.proofs.Splitting.{among_none, among_some}
use Rattle.cod_claims.specs.declared.claim.Claim.{Claim}
use Rattle.cod_claims.specs.Changes.{Change}
use Rattle.cod_claims.specs.Claimed.{claim_at, claim_of, with_claims}
use Rattle.cod_claims.specs.Left.{change_on, IsAmong, ClaimsLeave}

-- what claims for the parts of n blocks from the a-th on leave
record Leave (caller : Caller) (number block off len a n : ℕ) (xs : List Change) (cs after : List (Option Claim)) : Type 0 where
  claimed : (j : ℕ) → a ≤ j → j < a + n → 0 < length_in block off len j → claim_at after j ≡ Some (claim_of caller number (change_on j xs))
  among : (j : ℕ) → a ≤ j → j < a + n → 0 < length_in block off len j → IsAmong j xs
  place : (j : ℕ) → a ≤ j → j < a + n → 0 < length_in block off len j → (change_on j xs).part ≡ part_in block off len j
  others : (j : ℕ) → (a ≤ j → j < a + n → length_in block off len j ≤ 0) → claim_at after j ≡ claim_at cs j
  size : length after ≡ length cs

no_changes : (xs : List Change) → map (λ (c : Change). c.part) xs ≡ [] → xs ≡ []
no_changes [] e = refl
no_changes (x ∷ xs) e = cc

-- with a part in the first of them
one : (caller : Caller) (number block off len a n : ℕ) (cs : List (Option Claim)) → 0 < length_in block off len a → a + suc n ≤ length cs
    → ((xs : List Change) (ds : List (Option Claim)) → map (λ (c : Change). c.part) xs ≡ parts_among block off len (a + 1) n → a + 1 + n ≤ length ds
    → Leave caller number block off len (a + 1) n xs ds (with_claims caller number xs ds))
    → (xs : List Change) → map (λ (c : Change). c.part) xs ≡ part_in block off len a ∷ parts_among block off len (a + 1) n
    → Leave caller number block off len a (suc n) xs cs (with_claims caller number xs cs)
one caller number block off len a n cs some fits ih [] e = cc
one caller number block off len a n cs some fits ih (x ∷ xs) e =
    let first : x.part ≡ part_in block off len a = cc in
    let tail : map (λ (c : Change). c.part) xs ≡ parts_among block off len (a + 1) n = cc in
    let at : x.part.block ≡ a = ap (λ (p : Part). p.block) first in
    let set_cs : List (Option Claim) = set cs x.part.block (Some (claim_of caller number x)) in
    let long : length set_cs ≡ length cs = length-set cs x.part.block (Some (claim_of caller number x)) in
    let rest = ih xs set_cs tail (omega (arith, long, fits)) in
    let mine : (j : ℕ) → j ≡ a → change_on j (x ∷ xs) ≡ x = λ j here. ap (λ (b : Bool). cond b x (change_on j xs)) (eq-eqb x.part.block j (at ∙ sym here)) in
    let theirs : (j : ℕ) → j ≢ a → change_on j (x ∷ xs) ≡ change_on j xs = λ j other. ap (λ (b : Bool). cond b x (change_on j xs)) (ne_eqb x.part.block j (λ q. other (sym q ∙ at))) in
    record {
      claimed = λ j low high s. elim (cases_eq j a) [
        | inl here ↦
            let same : claim_at set_cs a ≡ Some (claim_of caller number x) = ap (claim_at set_cs) (sym at)
            ∙ get_or-set_same cs x.part.block (Some (claim_of caller number x)) None (omega (arith, at, fits)) in
            ap (claim_at (with_claims caller number xs set_cs)) here ∙ rest.others a (λ l h. absurd (omega (arith, l))) ∙ same
            ∙ ap (λ (c : Change). Some (claim_of caller number c)) (sym (mine j here))
        | inr other ↦ rest.claimed j (omega (arith, low, other)) (omega (arith, high)) s ∙ ap (λ (c : Change). Some (claim_of caller number c)) (sym (theirs j other))
      ];
      among = λ j low high s. elim (cases_eq j a) [
        | inl here ↦ record { at = 0; below = omega arith; is = λ d. sym (mine j here) }
        | inr other ↦ (let r = rest.among j (omega (arith, low, other)) (omega (arith, high)) s in let b = r.below in record {
          at = suc r.at;
          below = omega (arith, b);
          is = λ d. r.is d
              ∙ sym (theirs j other);
        })
      ];
      place = λ j low high s. elim (cases_eq j a) [
        | inl here ↦ ap (λ (c : Change). c.part) (mine j here) ∙ first ∙ ap (part_in block off len) (sym here)
        | inr other ↦ ap (λ (c : Change). c.part) (theirs j other) ∙ rest.place j (omega (arith, low, other)) (omega (arith, high)) s
      ];
      others = λ j out.
          let other : j ≢ a = λ here. absurd (let z = out (omega (arith, here)) (omega (arith, here)) in let l = ap (length_in block off len) here in omega (arith, z, l, some)) in
          rest.others j (λ low high. out (omega (arith, low)) (omega (arith, high))) ∙ get_or-set_other cs x.part.block j (Some (claim_of caller number x)) None (λ q. other (q ∙ at));
      size = rest.size ∙ long;
    }

leave : (caller : Caller) (number block off len a n : ℕ) (xs : List Change) (cs : List (Option Claim)) → map (λ (c : Change). c.part) xs ≡ parts_among block off len a n → a + n ≤ length cs
    → Leave caller number block off len a n xs cs (with_claims caller number xs cs)
leave caller number block off len a zero xs cs parts fits =
    let e = no_changes xs parts in
    rw e (record {
      claimed = λ j low high some. absurd (omega (arith, low, high));
      among = λ j low high some. absurd (omega (arith, low, high));
      place = λ j low high some. absurd (omega (arith, low, high));
      others = λ j out. refl;
      size = refl;
    })
leave caller number block off len a (suc n) xs cs parts fits = elim (cases_lt 0 (length_in block off len a)) [
  | inl some ↦ one caller number block off len a n cs some fits (λ ys ds. leave caller number block off len (a + 1) n ys ds) xs (parts ∙ among_some block off len a n some)
  | inr none ↦
      let rest = leave caller number block off len (a + 1) n xs cs (parts ∙ among_none block off len a n none) (omega (arith, fits)) in
      let past : (j : ℕ) → a ≤ j → 0 < length_in block off len j → a + 1 ≤ j = λ j low s. elim (cases_eq j a) [
        | inl here ↦ absurd (let l = ap (length_in block off len) here in omega (arith, l, s, none))
        | inr other ↦ omega (arith, low, other)
      ] in
      record {
        claimed = λ j low high s. rest.claimed j (past j low s) (omega (arith, high)) s;
        among = λ j low high s. rest.among j (past j low s) (omega (arith, high)) s;
        place = λ j low high s. rest.place j (past j low s) (omega (arith, high)) s;
        others = λ j out. rest.others j (λ low high. out (omega (arith, low)) (omega (arith, high)));
        size = rest.size;
      }
]

-- what holds of all holds of the change of a block
pub of_all : (P : Change → Type 0) (j : ℕ) (xs : List Change) → IsAmong j xs → All P xs → P (change_on j xs)
of_all P j xs is all = let d : Change = change_on j xs in subst P (is.is d) (all is.at d is.below)

pub claims_leave : ClaimsLeave
claims_leave caller number k block off len xs cs parts fits =
    let l = leave caller number block off len 0 k xs cs parts (omega arith) in
    record {
      claimed = λ j lt some. l.claimed j (omega arith) (omega (arith, lt)) some;
      among = λ j lt some. l.among j (omega arith) (omega (arith, lt)) some;
      place = λ j lt some. l.place j (omega arith) (omega (arith, lt)) some;
      others = λ j out. l.others j (λ low high. out (omega (arith, high)));
      size = l.size;
    }
