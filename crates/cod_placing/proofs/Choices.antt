-- Which rebuild a call that is to start one begins, or goes on with.
use Rattle.std.proofs.Common.{◌≡◌, ◌≢◌, ◌⊎◌, inl, inr, ℕ, zero, suc, ◌+◌, ◌<◌, ◌≤◌, Bool, true, false, cond, List, [], ◌∷◌, length, Option, Some, None, refl, sym, ap, ◌∙◌, subst, arith}
use Rattle.std.specs.Prelude.{filter, IsSome, is_some, not, replicate, slice_index_or, unwrap_or}
use Rattle.std.specs.List.{range_with_len}
use Rattle.std.proofs.lemmas.Bool.{eq-eqb}
use Rattle.cod_types.specs.declared.call.Call.{Call as Asked}
use Rattle.cod_types.specs.declared.call.Call.TheVariants.{Read, Write, Swap, Put, Merge, Tick, Rebuild, Upgrade, Drain}
use Rattle.cod_chronicle.specs.Said.{downs, is_down, is_over}
use Rattle.cod_claims.specs.declared.claim.Claim.{Claim}
use Rattle.cod_claims.specs.Claimed.{HasNone, open_call}
use Rattle.cod_claims.specs.Slips.{Paper, prepared}
use Rattle.cod_claims.proofs.Finding.{found_passes, found_range, none_found}
use Rattle.cod_claims.proofs.Opening.{opens_by_claim}
use Rattle.cod_repair.specs.Columns.{first_down}
use Rattle.cod_seg.specs.Next.{block_holder, has_claim, live_on, next_part, next_served, next_step, next_update, open_in, open_of, rebuild_holder, unless_held}
use Rattle.cod_seg.specs.Seg.{col_at, Rebuilding, Seg}
use Rattle.cod_seg.specs.Sound.{IsRebuilding, IsSingle, is_update, MayRebuild, Sound}
use Rattle.cod_seg.specs.declared.next.Step.TheVariants as step
use Rattle.cod_seg.proofs.Choosing.{IsBringing, IsPart, next_is, served}
use Rattle.cod_seg.proofs.Serving.{not_held, start_where_no_target}
use Rattle.cod_segment.specs.Events.{HasBegun, IsAsked}
use Rattle.cod_segment.specs.Exact.{fault_at}
use Rattle.cod_segment.proofs.Answering.{idle}
use Rattle.cod_placing.specs.Starts.{chosen, slip_for}

-- ---- only a rebuild starts one

update_not : (s : Seg) (caller : ℕ) (call : Asked) → next_update s caller call ≡ step.RebuildStart → ⊥
update_not s caller call is = by (has_claim caller s.claims) is where
  by : (b : Bool) → cond b (next_part s.site.shape.k s.site.shape.n s.cols s.claims caller) (unless_held (block_holder s.site.shape call caller s.claims) step.Begin) ≡ step.RebuildStart → ⊥
  by true e = subst IsPart e (next_is s.site.shape.k s.site.shape.n s.cols s.claims caller)
  by false e = (not_held IsBringing (block_holder s.site.shape call caller s.claims) step.Begin (λ h q. q) (subst IsBringing (sym e) tt)).1

is_rebuild : (s : Seg) (caller : ℕ) (call : Asked) → next_served s caller call ≡ step.RebuildStart → call ≡ Rebuild
is_rebuild s caller (Read off len) e = cc
is_rebuild s caller (Write off bytes) e = absurd (update_not s caller (Write off bytes) e)
is_rebuild s caller (Swap off old new) e = absurd (update_not s caller (Swap off old new) e)
is_rebuild s caller (Put bytes) e = absurd (not_held IsBringing (block_holder s.site.shape (Put bytes) caller s.claims) step.Put (λ h q. q) (subst IsBringing (sym e) tt)).1
is_rebuild s caller Merge e = cc
is_rebuild s caller Tick e = cc
is_rebuild s caller Rebuild e = refl
is_rebuild s caller Upgrade e = cc
is_rebuild s caller (Drain node) e = absurd (by (is_some (live_on s.site s.log node.0)) e) where
  by : (b : Bool) → cond b (unless_held (rebuild_holder caller s.rebuild) step.Drain) step.Clear ≡ step.RebuildStart → ⊥
  by true f = (not_held IsBringing (rebuild_holder caller s.rebuild) step.Drain (λ h q. q) (subst IsBringing (sym f) tt)).1
  by false f = cc

-- ---- the lowest column that is down

none_passes : (p : ℕ → Bool) (a n : ℕ) → ((j : ℕ) → a ≤ j → j < a + n → p j ≡ false) → filter p (range_with_len a n) ≡ []
none_passes p a zero none = refl
none_passes p a (suc n) none =
    ap (λ (b : Bool). cond b (a ∷ filter p (range_with_len (a + 1) n)) (filter p (range_with_len (a + 1) n))) (none a (omega arith) (omega arith))
    ∙ none_passes p (a + 1) n (λ j low high. none j (omega (arith, low)) (omega (arith, high)))

-- the lowest column that is down
record IsLowest (s : Seg) (i : ℕ) : Type 0 where
  found : first_down s.cols ≡ Some i
  among : i < s.site.shape.n
  down : is_down s.log i ≡ true

not_not : (d : Bool) → not (not d) ≡ true → d ≡ true
not_not true e = refl
not_not false e = cc

not_up : (d : Bool) → not (not d) ≡ false → d ≡ false
not_up true e = cc
not_up false e = refl

lowest : (s : Seg) → Sound s → downs s.site s.log ≢ [] → (i : ℕ) × IsLowest s i
lowest s sound some = by (first_down s.cols) refl where
  size : length s.cols ≡ s.site.shape.n
  size = sound.columns.size

  by : (o : Option ℕ) → first_down s.cols ≡ o → (i : ℕ) × IsLowest s i
  by None e = absurd (some (none_passes (λ j. is_down s.log j) 0 s.site.shape.n (λ j low high.
      let lt : j < s.site.shape.n = omega (arith, high) in
      let up = none_found (λ (m : ℕ). not (col_at s.cols m).is_up) 0 (length s.cols) e j low (omega (arith, size, lt)) in
      not_up (is_down s.log j) (sym (ap not (sound.columns.each j lt).up) ∙ up))))
  by (Some i) e =
      let passes = found_passes (λ (m : ℕ). not (col_at s.cols m).is_up) 0 (length s.cols) i e in
      let range = found_range (λ (m : ℕ). not (col_at s.cols m).is_up) 0 (length s.cols) i e in
      let high = range.1 in
      let lt : i < s.site.shape.n = omega (arith, size, high) in
      (i, record { found = e; among = lt; down = not_not (is_down s.log i) (sym (ap not (sound.columns.each i lt).up) ∙ passes) })

-- ---- what the caller has open

abbrev HasOpen : (s : Seg) (number : ℕ) → Paper → Option Rebuilding → Type 0
HasOpen s number p None = p ≡ prepared s.site.shape Rebuild
HasOpen s number p (Some r) = (r.number ≡ number) × HasBegun p Rebuild

own_open : (r : Rebuilding) (caller : ℕ) (claims : List (Option Claim)) → r.caller ≡ caller → open_of caller claims (Some r) ≡ Some (r.number, Rebuild)
own_open r caller claims mine = ap (λ (b : Bool). cond b (Some (r.number, Rebuild)) (open_call caller claims)) (eq-eqb r.caller caller mine)

has_open : (s : Seg) (caller number : ℕ) (p : Paper) (o : Option Rebuilding) → Sound s → s.rebuild ≡ o → ((r : Rebuilding) → o ≡ Some r → r.caller ≡ caller) → IsAsked s caller number p Rebuild
    → HasOpen s number p o × HasNone caller s.claims
has_open s caller number p o sound was mine asked = by o was mine asked.state where
  by : (o : Option Rebuilding) → s.rebuild ≡ o → ((r : Rebuilding) → o ≡ Some r → r.caller ≡ caller)
      → ((open_in s caller ≡ None) × (p ≡ prepared s.site.shape Rebuild)) ⊎ ((open_in s caller ≡ Some (number, Rebuild)) × HasBegun p Rebuild) → HasOpen s number p o × HasNone caller s.claims
  by None e own (inl a) = (a.1, (idle s caller sound a.0).0)
  by None e own (inr a) =
      let opened : open_call caller s.claims ≡ Some (number, Rebuild) = sym (ap (λ (x : Option Rebuilding). open_of caller s.claims x) e) ∙ a.0 in
      let of = opens_by_claim s.claims caller number Rebuild opened in
      let update : is_update Rebuild ≡ true = subst (λ (x : Asked). is_update x ≡ true) of.call_is (sound.claimed.each of.block of.claim of.there).update in
      absurd (let wrong : ⊥ = cc in wrong)
  by (Some r) e own (inl a) =
      let opened = ap (λ (x : Option Rebuilding). open_of caller s.claims x) e ∙ own_open r caller s.claims (own r refl) in
      let wrong : ◌≡◌ {A = Option (ℕ × Asked)} None (Some (r.number, Rebuild)) = sym a.0 ∙ opened in
      absurd (let no_way : ⊥ = cc in no_way)
  by (Some r) e own (inr a) =
      let opened = ap (λ (x : Option Rebuilding). open_of caller s.claims x) e ∙ own_open r caller s.claims (own r refl) in
      let same : ◌≡◌ {A = Option (ℕ × Asked)} (Some (r.number, Rebuild)) (Some (number, Rebuild)) = sym opened ∙ a.0 in
      let pair : ◌≡◌ {A = ℕ × Asked} (r.number, Rebuild) (number, Rebuild) = cc in
      ((ap (λ (x : ℕ × Asked). x.0) pair, a.1), subst (λ (n : ℕ). HasNone n s.claims) (own r refl) (subst (IsSingle s.claims) e sound.single))

-- ---- the rebuild

none_of : (n node : ℕ) → ◌≡◌ {A = Option ℕ} (slice_index_or (replicate n None) node None) None
none_of zero node = refl
none_of (suc n) zero = refl
none_of (suc n) (suc node) = none_of n node

-- A rebuild that is in progress goes on, or else one begins. It has no target.
pub record IsChosen (s : Seg) (caller number : ℕ) (o : Option Rebuilding) (r : Rebuilding) : Type 0 where
  pub is : IsRebuilding s.site s.frail s.pools s.log r
  pub mine : r.caller ≡ caller
  pub numbered : r.number ≡ number
  pub bare : r.target ≡ None
  pub broken : (x : ℕ) → fault_at (Some r) x ≡ fault_at o x
  pub same : (q : Rebuilding) → o ≡ Some q → r ≡ q

-- What is known where the start of a rebuild is next.
pub record IsStart (s : Seg) (caller number : ℕ) (p : Paper) (call : Asked) : Type 0 where
  pub asked : call ≡ Rebuild
  pub few : is_over s.site s.log ≡ false
  pub some : downs s.site s.log ≢ []
  pub idle : HasNone caller s.claims
  pub bare : (r : Rebuilding) → s.rebuild ≡ Some r → r.target ≡ None
  pub found : s.rebuild ≡ None → IsSome (first_down s.cols)
  pub links : s.rebuild ≡ None → 2 ≤ p.links
  pub begun : HasBegun (slip_for s.rebuild p) call
  pub chosen : IsChosen s caller number s.rebuild (chosen caller number s.cols s.rebuild)

pub start : (s : Seg) (caller number : ℕ) (p : Paper) (call : Asked) → Sound s → next_step s caller call ≡ step.RebuildStart → IsAsked s caller number p call → IsStart s caller number p call
start s caller number p call sound next asked =
    let v = served s caller call step.RebuildStart tt next in
    let is = is_rebuild s caller call v.is in
    let aim = start_where_no_target s caller call next in
    let low = lowest s sound aim.some in
    let opened = has_open s caller number p s.rebuild sound refl (λ r was. (aim.goal r was).0) (subst (IsAsked s caller number p) is asked) in
    record {
      asked = is;
      few = v.few;
      some = aim.some;
      idle = opened.1;
      bare = λ r was. (aim.goal r was).1;
      found = λ none. ap is_some low.1.found;
      links = λ none. links s.rebuild none opened.0;
      begun = subst (HasBegun (slip_for s.rebuild p)) (sym is) (begun s.rebuild opened.0);
      chosen = by s.rebuild refl opened.0;
    } where
      links : (o : Option Rebuilding) → o ≡ None → HasOpen s number p o → 2 ≤ p.links
      links None none has = let l : p.links ≡ 3 = ap (λ (x : Paper). x.links) has in omega (arith, l)
      links (Some r) none has = absurd (let wrong : ⊥ = cc in wrong)

      begun : (o : Option Rebuilding) → HasOpen s number p o → HasBegun (slip_for o p) Rebuild
      begun None has = rw has (record { call_is = refl; link = refl; lists = λ e. ([], [], refl); unanswered = refl })
      begun (Some r) has = has.1

      by : (o : Option Rebuilding) → s.rebuild ≡ o → HasOpen s number p o → IsChosen s caller number o (chosen caller number s.cols o)
      by None was has =
          let some = lowest s sound (start_where_no_target s caller call next).some in
          let col : unwrap_or (first_down s.cols) 0 ≡ some.0 = ap (λ (x : Option ℕ). unwrap_or x 0) some.1.found in
          record {
            is = record {
              column = subst (λ (x : ℕ). x < s.site.shape.n) (sym col) some.1.among;
              down = subst (λ (x : ℕ). is_down s.log x ≡ true) (sym col) some.1.down;
              honest = λ node count e. absurd (let wrong : None ≡ Some count = sym (none_of 64 node) ∙ e in let no_way : ⊥ = cc in no_way);
              goal = tt;
            };
            mine = refl;
            numbered = refl;
            bare = refl;
            broken = none_of 64;
            same = λ q e. absurd (let no_way : ⊥ = cc in no_way);
          }
      by (Some r) was has = record {
        is = subst (MayRebuild s.site s.frail s.pools s.log) was sound.rebuilt;
        mine = ((start_where_no_target s caller call next).goal r was).0;
        numbered = has.0;
        bare = ((start_where_no_target s caller call next).goal r was).1;
        broken = λ x. refl;
        same = λ q e. (let is : r ≡ q = cc in is);
      }
