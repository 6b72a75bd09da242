-- What the choice of the next step says.
use Rattle.std.proofs.Common.{◌≡◌, ◌≢◌, ℕ, ◌-◌, ◌<◌, List, [], ◌∷◌, length, Bool, true, false, cond, find, Option, Some, None, refl, sym, ap, ◌∙◌, subst, arith}
use Rattle.std.specs.Prelude.{◌&&◌, ◌==◌, not, is_some, nat_lt}
use Rattle.std.specs.List.{range_with_len}
use Rattle.std.proofs.lemmas.Bool.{both_ways, eqb-true, ne_eqb}
use Rattle.cod_types.specs.Plain.{refusal}
use Rattle.cod_types.specs.declared.call.Call.{Call as Asked}
use Rattle.cod_types.specs.declared.call.Call.TheVariants.{Read, Write, Swap, Put, Merge, Tick, Rebuild, Upgrade, Drain}
use Rattle.cod_chronicle.specs.Said.{downs, is_over}
use Rattle.cod_claims.specs.declared.claim.Claim.{Claim}
use Rattle.cod_claims.specs.declared.claims.Held.{Held}
use Rattle.cod_claims.specs.Claimed.{claim_at, is_applied, is_noted, is_of}
use Rattle.cod_claims.proofs.Finding.{found_passes, found_range, none_found, second_true}
use Rattle.cod_seg.specs.Seg.{Col, col_at, Rebuilding, Seg, Target}
use Rattle.cod_seg.specs.Sound.{Sound}
use Rattle.cod_seg.specs.Steps.{IsEverywhere}
use Rattle.cod_seg.specs.Next.{after_data, at_data, bare_of, block_holder, data_due, has_claim, is_bare, is_data_due, is_parity_due, live_on, next_part, next_piece, next_served}
use Rattle.cod_seg.specs.Next.{next_step, next_target, next_update, parity_due, parity_on, rebuild_holder, unless_held}
use Rattle.cod_seg.specs.Choices.{CommitWhereEverywhere, DataWhereDue}
use Rattle.cod_seg.specs.Choices.{ParityWhereDue}
use Rattle.cod_seg.specs.declared.next.Step.{Step}
use Rattle.cod_seg.specs.declared.next.Step.TheVariants as step

pub first_true : (a b : Bool) → (a && b) ≡ true → a ≡ true
first_true true b is = refl
first_true false b is = cc

pub second_false : (a b : Bool) → (a && b) ≡ false → a ≡ true → b ≡ false
second_false true b is on = is
second_false false b is on = cc

not_false : (b : Bool) → not b ≡ false → b ≡ true
not_false true is = refl
not_false false is = cc

pub not_true : (b : Bool) → not b ≡ true → b ≡ false
not_true true is = cc
not_true false is = refl

pub none_is : {A : Type 0} (o : Option A) → is_some o ≡ false → o ≡ None
none_is None e = refl
none_is (Some x) e = cc

pub some_is : {A : Type 0} (o : Option A) → is_some o ≡ true → (x : A) × (o ≡ Some x)
some_is None e = cc
some_is (Some x) e = (x, refl)

-- a step that is neither of the first two is that of a call that is served
pub record IsServed (s : Seg) (caller : ℕ) (call : Asked) (x : Step) : Type 0 where
  pub free : refusal s.site.shape call ≡ None
  pub few : is_over s.site s.log ≡ false
  pub is : next_served s caller call ≡ x

-- one of these steps
abbrev pub IsLater : Step → Type 0
IsLater step.Refuse = ⊥
IsLater step.Lost = ⊥
IsLater _ = Unit {0}

pub served : (s : Seg) (caller : ℕ) (call : Asked) (x : Step) → IsLater x → next_step s caller call ≡ x → IsServed s caller call x
served s caller call x later is = by (is_some (refusal s.site.shape call)) (is_over s.site s.log) refl refl is where
  by : (a o : Bool) → is_some (refusal s.site.shape call) ≡ a → is_over s.site s.log ≡ o → cond a step.Refuse (cond o step.Lost (next_served s caller call)) ≡ x → IsServed s caller call x
  by true o e f g = let wrong : ⊥ = subst IsLater (sym g) later in absurd wrong
  by false true e f g = let wrong : ⊥ = subst IsLater (sym g) later in absurd wrong
  by false false e f g = record { free = none_is (refusal s.site.shape call) e; few = f; is = g }

-- the steps of an update that has its claims
abbrev pub IsPart : Step → Type 0
IsPart (step.Data j) = Unit {0}
IsPart (step.Parity j i) = Unit {0}
IsPart step.Commit = Unit {0}
IsPart _ = ⊥

-- those of a rebuild
abbrev pub IsBringing : Step → Type 0
IsBringing step.RebuildStart = Unit {0}
IsBringing step.RebuildPiece = Unit {0}
IsBringing step.RebuildEnd = Unit {0}
IsBringing _ = ⊥

held_no_part : (o : Option Held) (next : Step) → (IsPart next → ⊥) → IsPart (unless_held o next) → ⊥
held_no_part None next never is = never is
held_no_part (Some h) next never is = is

target_no_part : (block : ℕ) (o : Option Target) → IsPart (next_target block o) → ⊥
target_no_part block None is = is
target_no_part block (Some t) is = by (nat_lt t.filled block) is where
  by : (b : Bool) → IsPart (cond b step.RebuildPiece step.RebuildEnd) → ⊥
  by true p = p
  by false p = p

piece_no_part : (block : ℕ) (o : Option Rebuilding) → IsPart (next_piece block o) → ⊥
piece_no_part block None is = is
piece_no_part block (Some r) is = target_no_part block r.target is

update_part : (s : Seg) (caller : ℕ) (call : Asked) → IsPart (next_update s caller call)
    → (has_claim caller s.claims ≡ true) × (next_update s caller call ≡ next_part s.site.shape.k s.site.shape.n s.cols s.claims caller)
update_part s caller call is = by (has_claim caller s.claims) refl is where
  by : (b : Bool) → has_claim caller s.claims ≡ b
      → IsPart (cond b (next_part s.site.shape.k s.site.shape.n s.cols s.claims caller) (unless_held (block_holder s.site.shape call caller s.claims) step.Begin))
      → (b ≡ true) × (cond b (next_part s.site.shape.k s.site.shape.n s.cols s.claims caller) (unless_held (block_holder s.site.shape call caller s.claims) step.Begin)
      ≡ next_part s.site.shape.k s.site.shape.n s.cols s.claims caller)
  by true e p = (refl, refl)
  by false e p = absurd (held_no_part (block_holder s.site.shape call caller s.claims) step.Begin (λ q. q) p)

pub empty : (l : List ℕ) → (length l == 0) ≡ true → l ≡ []
empty l e = by l (eqb-true (length l) 0 e) where
  by : (k : List ℕ) → length k ≡ 0 → k ≡ []
  by [] z = refl
  by (x ∷ k) z = absurd (omega (arith, z))

pub not_empty : (l : List ℕ) → (length l == 0) ≡ false → l ≢ []
not_empty l e is = both_ways (length l == 0) e (ap (λ (k : List ℕ). length k == 0) is)

pub filled : (l : List ℕ) → l ≢ [] → (length l == 0) ≡ false
filled l some = ne_eqb (length l) 0 (λ z. some (by l z)) where
  by : (k : List ℕ) → length k ≡ 0 → k ≡ []
  by [] z = refl
  by (x ∷ k) z = absurd (omega (arith, z))

served_part : (s : Seg) (caller : ℕ) (call : Asked) → IsPart (next_served s caller call)
    → (has_claim caller s.claims ≡ true) × (next_served s caller call ≡ next_part s.site.shape.k s.site.shape.n s.cols s.claims caller)
served_part s caller (Read off len) is = absurd is
served_part s caller (Write off bytes) is = update_part s caller (Write off bytes) is
served_part s caller (Swap off old new) is = update_part s caller (Swap off old new) is
served_part s caller (Put bytes) is = absurd (held_no_part (block_holder s.site.shape (Put bytes) caller s.claims) step.Put (λ q. q) is)
served_part s caller Merge is = absurd is
served_part s caller Tick is = absurd is
served_part s caller Rebuild is = absurd (by (length (downs s.site s.log) == 0) is) where
  by : (b : Bool) → IsPart (cond b step.Whole (unless_held (rebuild_holder caller s.rebuild) (next_piece s.site.shape.block s.rebuild))) → ⊥
  by true p = p
  by false p = held_no_part (rebuild_holder caller s.rebuild) (next_piece s.site.shape.block s.rebuild) (piece_no_part s.site.shape.block s.rebuild) p
served_part s caller Upgrade is = absurd is
served_part s caller (Drain node) is = absurd (by (is_some (live_on s.site s.log node.0)) is) where
  by : (b : Bool) → IsPart (cond b (unless_held (rebuild_holder caller s.rebuild) step.Drain) step.Clear) → ⊥
  by true p = held_no_part (rebuild_holder caller s.rebuild) step.Drain (λ q. q) p
  by false p = p

-- one of these steps is the next part of an update that has its claims
record IsPartOf (s : Seg) (caller : ℕ) (x : Step) : Type 0 where
  few : is_over s.site s.log ≡ false
  claimed : has_claim caller s.claims ≡ true
  is : next_part s.site.shape.k s.site.shape.n s.cols s.claims caller ≡ x

part_is : (s : Seg) (caller : ℕ) (call : Asked) (x : Step) → IsLater x → IsPart x → next_step s caller call ≡ x → IsPartOf s caller x
part_is s caller call x later part is =
    let v = served s caller call x later is in
    let p = served_part s caller call (subst IsPart (sym v.is) part) in
    record { few = v.few; claimed = p.0; is = sym p.1 ∙ v.is }

-- the commit comes only where nothing is due
no_data : (k n : ℕ) (cols : List Col) (claims : List (Option Claim)) (caller : ℕ) (o : Option ℕ) → at_data k n cols claims caller o ≡ step.Commit
    → (o ≡ None) × (after_data k n cols claims (parity_due k n cols claims caller) ≡ step.Commit)
no_data k n cols claims caller None is = (refl, is)
no_data k n cols claims caller (Some j) is = cc

no_column : (j : ℕ) (o : Option ℕ) → parity_on j o ≡ step.Commit → o ≡ None
no_column j None is = refl
no_column j (Some i) is = cc

no_parity : (k n : ℕ) (cols : List Col) (claims : List (Option Claim)) (caller : ℕ) (o : Option ℕ) → parity_due k n cols claims caller ≡ o → after_data k n cols claims o ≡ step.Commit → o ≡ None
no_parity k n cols claims caller None found is = refl
no_parity k n cols claims caller (Some j) found is =
    let some = second_true (is_of caller (claim_at claims j)) (is_some (bare_of k n cols claims j)) (found_passes (is_parity_due k n cols claims caller) 0 k j found) in
    let none = no_column j (bare_of k n cols claims j) is in
    let wrong : false ≡ true = sym (ap is_some none) ∙ some in
    cc

pub claimed_low : (s : Seg) (caller j : ℕ) → Sound s → is_of caller (claim_at s.claims j) ≡ true → j < s.site.shape.k
claimed_low s caller j sound mine = go (claim_at s.claims j) refl mine where
  go : (c : Option Claim) → claim_at s.claims j ≡ c → is_of caller c ≡ true → j < s.site.shape.k
  go None there own = cc
  go (Some c) there own = (sound.claimed.each j c there).among

-- where no data column is due, each that is up has its part
all_applied : (s : Seg) (caller : ℕ) → Sound s → data_due s.site.shape.k s.cols s.claims caller ≡ None
    → (j : ℕ) → is_of caller (claim_at s.claims j) ≡ true → (col_at s.cols j).is_up ≡ true → is_applied (claim_at s.claims j) ≡ true
all_applied s caller sound none j mine up =
    let low = claimed_low s caller j sound mine in
    let free = none_found (is_data_due s.cols s.claims caller) 0 s.site.shape.k none j (omega arith) (omega (arith, low)) in
    not_false (is_applied (claim_at s.claims j)) (second_false (col_at s.cols j).is_up (not (is_applied (claim_at s.claims j)))
    (second_false (is_of caller (claim_at s.claims j)) ((col_at s.cols j).is_up && not (is_applied (claim_at s.claims j))) free mine) up)

everywhere : (s : Seg) (caller : ℕ) → Sound s → next_part s.site.shape.k s.site.shape.n s.cols s.claims caller ≡ step.Commit
    → IsEverywhere s.site.shape.k s.site.shape.n caller s.cols s.claims
everywhere s caller sound is =
    let k = s.site.shape.k in
    let n = s.site.shape.n in
    let first = no_data k n s.cols s.claims caller (data_due k s.cols s.claims caller) is in
    let second = no_parity k n s.cols s.claims caller (parity_due k n s.cols s.claims caller) refl first.1 in
    record {
      applied = all_applied s caller sound first.0;
      noted = λ j i mine high below up.
          let low = claimed_low s caller j sound mine in
          let free = none_found (is_parity_due k n s.cols s.claims caller) 0 k second j (omega arith) (omega (arith, low)) in
          let none = none_is (bare_of k n s.cols s.claims j) (second_false (is_of caller (claim_at s.claims j)) (is_some (bare_of k n s.cols s.claims j)) free mine) in
          let bare = none_found (is_bare s.cols s.claims j) k (n - k) none i high (omega (arith, high, below)) in
          not_false (is_noted i (claim_at s.claims j)) (second_false (col_at s.cols i).is_up (not (is_noted i (claim_at s.claims j))) bare up);
    }

-- a caller with a claim has one somewhere
claim_somewhere : (caller : ℕ) (claims : List (Option Claim)) → has_claim caller claims ≡ true → (j : ℕ) × (is_of caller (claim_at claims j) ≡ true)
claim_somewhere caller claims has =
    let f = some_is (find (λ j. is_of caller (claim_at claims j)) (range_with_len 0 16)) has in
    (f.0, found_passes (λ j. is_of caller (claim_at claims j)) 0 16 f.0 f.1)

pub commit_where_everywhere : CommitWhereEverywhere
commit_where_everywhere s caller call sound is =
    let p = part_is s caller call step.Commit tt tt is in
    let c = claim_somewhere caller s.claims p.claimed in
    record { few = p.few; block = c.0; mine = c.1; everywhere = everywhere s caller sound p.is }

on_no_data : (m j : ℕ) (o : Option ℕ) → parity_on m o ≡ step.Data j → ⊥
on_no_data m j None e = cc
on_no_data m j (Some i) e = cc

some_data : (k n : ℕ) (cols : List Col) (claims : List (Option Claim)) (caller j : ℕ) (o : Option ℕ) → at_data k n cols claims caller o ≡ step.Data j → o ≡ Some j
some_data k n cols claims caller j None is = absurd (go (parity_due k n cols claims caller) is) where
  go : (o : Option ℕ) → after_data k n cols claims o ≡ step.Data j → ⊥
  go None e = cc
  go (Some m) e = on_no_data m j (bare_of k n cols claims m) e
some_data k n cols claims caller j (Some m) is = cc

pub data_where_due : DataWhereDue
data_where_due s caller j call is =
    let k = s.site.shape.k in
    let p = part_is s caller call (step.Data j) tt tt is in
    let found = some_data k s.site.shape.n s.cols s.claims caller j (data_due k s.cols s.claims caller) p.is in
    let due = found_passes (is_data_due s.cols s.claims caller) 0 k j found in
    let rest = second_true (is_of caller (claim_at s.claims j)) ((col_at s.cols j).is_up && not (is_applied (claim_at s.claims j))) due in
    let range = found_range (is_data_due s.cols s.claims caller) 0 k j found in
    let high = range.1 in
    record {
      few = p.few;
      among = omega (arith, high);
      mine = first_true (is_of caller (claim_at s.claims j)) ((col_at s.cols j).is_up && not (is_applied (claim_at s.claims j))) due;
      up = first_true (col_at s.cols j).is_up (not (is_applied (claim_at s.claims j))) rest;
      fresh = not_true (is_applied (claim_at s.claims j)) (second_true (col_at s.cols j).is_up (not (is_applied (claim_at s.claims j))) rest);
    }

parity_here : (j i m : ℕ) (o : Option ℕ) → parity_on m o ≡ step.Parity j i → (m ≡ j) × (o ≡ Some i)
parity_here j i m None e = cc
parity_here j i m (Some x) e = (cc, cc)

parity_then : (k n : ℕ) (cols : List Col) (claims : List (Option Claim)) (j i : ℕ) (o : Option ℕ) → after_data k n cols claims o ≡ step.Parity j i
    → (o ≡ Some j) × (bare_of k n cols claims j ≡ Some i)
parity_then k n cols claims j i None e = cc
parity_then k n cols claims j i (Some m) e =
    let both = parity_here j i m (bare_of k n cols claims m) e in
    (ap (λ (x : ℕ). Some x) both.0, sym (ap (bare_of k n cols claims) both.0) ∙ both.1)

some_parity : (k n : ℕ) (cols : List Col) (claims : List (Option Claim)) (caller j i : ℕ) (o : Option ℕ) → at_data k n cols claims caller o ≡ step.Parity j i
    → (o ≡ None) × (after_data k n cols claims (parity_due k n cols claims caller) ≡ step.Parity j i)
some_parity k n cols claims caller j i None is = (refl, is)
some_parity k n cols claims caller j i (Some m) is = cc

pub parity_where_due : ParityWhereDue
parity_where_due s caller j i call sound is =
    let k = s.site.shape.k in
    let n = s.site.shape.n in
    let most = sound.shape.data_among_columns in
    let p = part_is s caller call (step.Parity j i) tt tt is in
    let first = some_parity k n s.cols s.claims caller j i (data_due k s.cols s.claims caller) p.is in
    let both = parity_then k n s.cols s.claims j i (parity_due k n s.cols s.claims caller) first.1 in
    let due = found_passes (is_parity_due k n s.cols s.claims caller) 0 k j both.0 in
    let bare = found_passes (is_bare s.cols s.claims j) k (n - k) i both.1 in
    let low = (found_range (is_parity_due k n s.cols s.claims caller) 0 k j both.0).1 in
    let range = found_range (is_bare s.cols s.claims j) k (n - k) i both.1 in
    let high = range.1 in
    record {
      few = p.few;
      among = omega (arith, low);
      mine = first_true (is_of caller (claim_at s.claims j)) (is_some (bare_of k n s.cols s.claims j)) due;
      from = range.0;
      below = omega (arith, high, most);
      up = first_true (col_at s.cols i).is_up (not (is_noted i (claim_at s.claims j))) bare;
      fresh = not_true (is_noted i (claim_at s.claims j)) (second_true (col_at s.cols i).is_up (not (is_noted i (claim_at s.claims j))) bare);
      applied = all_applied s caller sound first.0;
    }

-- the next part is a part, and a rebuild brings
on_is : (j : ℕ) (o : Option ℕ) → IsPart (parity_on j o)
on_is j None = tt
on_is j (Some i) = tt

after_is : (k n : ℕ) (cols : List Col) (claims : List (Option Claim)) (o : Option ℕ) → IsPart (after_data k n cols claims o)
after_is k n cols claims None = tt
after_is k n cols claims (Some j) = on_is j (bare_of k n cols claims j)

at_is : (k n : ℕ) (cols : List Col) (claims : List (Option Claim)) (caller : ℕ) (o : Option ℕ) → IsPart (at_data k n cols claims caller o)
at_is k n cols claims caller (Some j) = tt
at_is k n cols claims caller None = after_is k n cols claims (parity_due k n cols claims caller)

pub next_is : (k n : ℕ) (cols : List Col) (claims : List (Option Claim)) (caller : ℕ) → IsPart (next_part k n cols claims caller)
next_is k n cols claims caller = at_is k n cols claims caller (data_due k cols claims caller)

target_is : (block : ℕ) (o : Option Target) → IsBringing (next_target block o)
target_is block None = tt
target_is block (Some t) = by (nat_lt t.filled block) where
  by : (b : Bool) → IsBringing (cond b step.RebuildPiece step.RebuildEnd)
  by true = tt
  by false = tt

pub piece_is : (block : ℕ) (o : Option Rebuilding) → IsBringing (next_piece block o)
piece_is block None = tt
piece_is block (Some r) = target_is block r.target
