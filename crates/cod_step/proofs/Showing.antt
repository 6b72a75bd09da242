-- The rules over a scene are those over the segment that it shows.
use Rattle.std.proofs.Common.{◌≡◌, ℕ, zero, suc, ◌+◌, ◌-◌, ◌<◌, ◌≤◌, ◌==◌, List, length, Bool, true, false, find, Option, Some, None, refl, sym, ap, ◌∙◌, arith, inl, inr, nat_lt}
use Rattle.std.specs.Prelude.{◌&&◌, not, is_some, if◌then◌else◌, option_map, option_and_then}
use Rattle.std.specs.List.{filter, range_with_len}
use Rattle.std.proofs.lemmas.Bool.{cases_lt, lt-ltb, le-ltb}
use Rattle.std.proofs.Math.Nat.{mul-le-mul_right}
use Rattle.cod_types.specs.Limits.{segment_length, Shape}
use Rattle.cod_types.specs.Plain.{refusal}
use Rattle.cod_types.specs.declared.call.Call.{Call}
use Rattle.cod_types.specs.declared.call.Call.TheVariants as call
use Rattle.cod_types.specs.declared.call.NodeId.{NodeId}
use Rattle.cod_types.specs.declared.call.Reply.{Reply}
use Rattle.cod_types.proofs.Refusals.{swaps_update, writes_update}
use Rattle.cod_chronicle.specs.Said.{downs, is_down, is_over, node_of}
use Rattle.cod_layout.specs.Parts.{length_in}
use Rattle.cod_claims.specs.declared.claim.Claim.{Claim}
use Rattle.cod_claims.specs.declared.claims.Held.{Held}
use Rattle.cod_claims.specs.Claimed.{claim_at, holder, is_of, is_others}
use Rattle.cod_seg.specs.Next as seg
use Rattle.cod_seg.specs.Seg.{Col, col_at, Rebuilding, Seg, Target}
use Rattle.cod_seg.specs.Sound.{Sound}
use Rattle.cod_seg.specs.declared.next.Step.{Step}
use Rattle.cod_seg.specs.declared.next.Step.TheVariants as step
use Rattle.cod_step.specs.declared.scene.Job.{Job}
use Rattle.cod_step.specs.Live.{column_on, count_down, is_live, is_lost, is_node, node_at}
use Rattle.cod_step.specs.Next.{after_data, at_data, bare_of, call_step, data_due, drain_step, has_claim, holder_among, is_bare, is_data_due, is_parity_due, next_step, next_update, own_rebuild_step, parity_due, parity_on, rebuild_of_other, rebuild_step, touches, unless_held, write_step}
use Rattle.cod_step.specs.Scenes.{AreLive, job_in, Shows}

-- ---- tests that agree

filter_same : (p q : ℕ → Bool) (a n : ℕ) → ((i : ℕ) → a ≤ i → i < a + n → p i ≡ q i) → filter p (range_with_len a n) ≡ filter q (range_with_len a n)
filter_same p q a zero same = refl
filter_same p q a (suc n) same =
    let one : p a ≡ q a = same a (omega arith) (omega arith) in
    let rest = filter_same p q (a + 1) n (λ i low high. same i (omega arith) (omega arith)) in
    rw (one, rest) refl

find_same : (p q : ℕ → Bool) (a n : ℕ) → ((i : ℕ) → a ≤ i → i < a + n → p i ≡ q i) → find p (range_with_len a n) ≡ find q (range_with_len a n)
find_same p q a zero same = refl
find_same p q a (suc n) same =
    let one : p a ≡ q a = same a (omega arith) (omega arith) in
    let rest = find_same p q (a + 1) n (λ i low high. same i (omega arith) (omega arith)) in
    rw (one, rest) refl

not_not : (b : Bool) → not (not b) ≡ b
not_not true = refl
not_not false = refl

some_if : (b : Bool) (x : NodeId) → is_some (if b then Some x else None) ≡ b
some_if true x = refl
some_if false x = refl

node_if : (b : Bool) (x : NodeId) (node : ℕ) → is_node node (if b then Some x else None) ≡ (b && (x.0 == node))
node_if true x node = refl
node_if false x node = refl

-- ---- the columns

up_is : (live : List (Option NodeId)) (cols : List Col) → AreLive live cols → (i : ℕ) → is_live live i ≡ (col_at cols i).is_up
up_is live cols shown i = ap is_some (shown i) ∙ some_if (col_at cols i).is_up (col_at cols i).room.node

down_is : (s : Seg) (live : List (Option NodeId)) → Sound s → AreLive live s.cols → (i : ℕ) → i < s.site.shape.n → not (is_live live i) ≡ is_down s.log i
down_is s live sound shown i low =
    ap not (up_is live s.cols shown i ∙ (sound.columns.each i low).up) ∙ not_not (is_down s.log i)

count_is : (s : Seg) (live : List (Option NodeId)) → Sound s → AreLive live s.cols → count_down live s.site.shape.n ≡ length (downs s.site s.log)
count_is s live sound shown =
    ap (λ (l : List ℕ). length l)
    (filter_same (λ i. not (is_live live i)) (λ i. is_down s.log i) 0 s.site.shape.n (λ i low high. down_is s live sound shown i (omega (arith, high))))

lost_is : (s : Seg) (live : List (Option NodeId)) → Sound s → AreLive live s.cols → is_lost s.site.shape live ≡ is_over s.site s.log
lost_is s live sound shown = ap (λ (m : ℕ). nat_lt (s.site.shape.n - s.site.shape.k) m) (count_is s live sound shown)

on_is : (s : Seg) (live : List (Option NodeId)) (node : ℕ) → Sound s → AreLive live s.cols → (i : ℕ) → i < s.site.shape.n
    → is_node node (node_at live i) ≡ (not (is_down s.log i) && (node_of s.site s.log i == node))
on_is s live node sound shown i low =
    let c = col_at s.cols i in
    let column = sound.columns.each i low in
    ap (is_node node) (shown i) ∙ node_if c.is_up c.room.node node
    ∙ rw (column.up, column.there) refl

column_is : (s : Seg) (live : List (Option NodeId)) (node : ℕ) → Sound s → AreLive live s.cols → column_on s.site.shape.n live node ≡ seg.live_on s.site s.log node
column_is s live node sound shown =
    find_same (λ i. is_node node (node_at live i)) (λ i. not (is_down s.log i) && (node_of s.site s.log i == node)) 0 s.site.shape.n
    (λ i low high. on_is s live node sound shown i (omega (arith, high)))

-- ---- an update that has its claims

data_is : (k : ℕ) (live : List (Option NodeId)) (cols : List Col) (claims : List (Option Claim)) (caller : ℕ) → AreLive live cols
    → data_due k live claims caller ≡ seg.data_due k cols claims caller
data_is k live cols claims caller shown =
    find_same (is_data_due live claims caller) (seg.is_data_due cols claims caller) 0 k (λ j low high. rw (up_is live cols shown j) refl)

bare_is : (k n : ℕ) (live : List (Option NodeId)) (cols : List Col) (claims : List (Option Claim)) (j : ℕ) → AreLive live cols
    → bare_of k n live claims j ≡ seg.bare_of k n cols claims j
bare_is k n live cols claims j shown =
    find_same (is_bare live claims j) (seg.is_bare cols claims j) k (n - k) (λ i low high. rw (up_is live cols shown i) refl)

parity_is : (k n : ℕ) (live : List (Option NodeId)) (cols : List Col) (claims : List (Option Claim)) (caller : ℕ) → AreLive live cols
    → parity_due k n live claims caller ≡ seg.parity_due k n cols claims caller
parity_is k n live cols claims caller shown =
    find_same (is_parity_due k n live claims caller) (seg.is_parity_due k n cols claims caller) 0 k
    (λ j low high. ap (λ (o : Option ℕ). is_of caller (claim_at claims j) && is_some o) (bare_is k n live cols claims j shown))

on_same : (j : ℕ) (o : Option ℕ) → parity_on j o ≡ seg.parity_on j o
on_same j None = refl
on_same j (Some i) = refl

after_same : (k n : ℕ) (live : List (Option NodeId)) (cols : List Col) (claims : List (Option Claim)) (o : Option ℕ) → AreLive live cols
    → after_data k n live claims o ≡ seg.after_data k n cols claims o
after_same k n live cols claims None shown = refl
after_same k n live cols claims (Some j) shown =
    on_same j (bare_of k n live claims j) ∙ ap (λ (o : Option ℕ). seg.parity_on j o) (bare_is k n live cols claims j shown)

at_same : (k n : ℕ) (live : List (Option NodeId)) (cols : List Col) (claims : List (Option Claim)) (caller : ℕ) (o : Option ℕ) → AreLive live cols
    → at_data k n live claims caller o ≡ seg.at_data k n cols claims caller o
at_same k n live cols claims caller None shown =
    after_same k n live cols claims (parity_due k n live claims caller) shown
    ∙ ap (λ (o : Option ℕ). seg.after_data k n cols claims o) (parity_is k n live cols claims caller shown)
at_same k n live cols claims caller (Some j) shown = refl

update_is : (k n : ℕ) (live : List (Option NodeId)) (cols : List Col) (claims : List (Option Claim)) (caller : ℕ) → AreLive live cols
    → next_update k n live claims caller ≡ seg.next_part k n cols claims caller
update_is k n live cols claims caller shown =
    at_same k n live cols claims caller (data_due k live claims caller) shown
    ∙ ap (λ (o : Option ℕ). seg.at_data k n cols claims caller o) (data_is k live cols claims caller shown)

-- ---- waiting

held_same : (o : Option Held) (t : Step) → unless_held o t ≡ seg.unless_held o t
held_same None t = refl
held_same (Some h) t = refl

rebuild_is : (caller : ℕ) (r : Option Rebuilding) → rebuild_of_other caller (option_map job_in r) ≡ seg.rebuild_holder caller r
rebuild_is caller None = refl
rebuild_is caller (Some r) = refl

target_same : (block : ℕ) (r : Rebuilding) (t : Option Target)
    → own_rebuild_step block (Some (record { caller = record { 0 = r.caller }; number = r.number; done = option_map (λ (u : Target). u.filled) t })) ≡ seg.next_target block t
target_same block r None = refl
target_same block r (Some t) = refl

piece_is : (block : ℕ) (r : Option Rebuilding) → own_rebuild_step block (option_map job_in r) ≡ seg.next_piece block r
piece_is block None = refl
piece_is block (Some r) = target_same block r r.target

-- a range in the segment has no bytes past its k blocks
touches_is : (g : Shape) (off len j : ℕ) → off + len ≤ segment_length g → touches g off len j ≡ nat_lt 0 (length_in g.block off len j)
touches_is g off len j inside = elim (cases_lt j g.k) [
  | inl low ↦ rw (lt-ltb j g.k low) refl
  | inr past ↦
      let far = mul-le-mul_right g.block past in
      let none : length_in g.block off len j ≤ 0 = omega (arith, far, inside) in
      rw (le-ltb j g.k past) (sym (le-ltb 0 (length_in g.block off len j) none))
]

holders_same : (wants others : ℕ → Bool) (caller : ℕ) (claims : List (Option Claim)) → ((j : ℕ) → wants j ≡ others j)
    → holder_among wants caller claims ≡ option_and_then (λ j. holder (claim_at claims j)) (find (λ j. others j && is_others caller (claim_at claims j)) (range_with_len 0 16))
holders_same wants others caller claims same =
    ap (λ (o : Option ℕ). option_and_then (λ j. holder (claim_at claims j)) o)
    (find_same (λ j. wants j && is_others caller (claim_at claims j)) (λ j. others j && is_others caller (claim_at claims j)) 0 16
    (λ j low high. ap (λ (b : Bool). b && is_others caller (claim_at claims j)) (same j)))

-- ---- the calls

if_same : (b : Bool) (x y u v : Step) → x ≡ u → y ≡ v → (if b then x else y) ≡ (if b then u else v)
if_same true x y u v one other = one
if_same false x y u v one other = other

write_is : (s : Seg) (live : List (Option NodeId)) (caller off : ℕ) (bytes : List ℕ) → AreLive live s.cols → off + length bytes ≤ segment_length s.site.shape
    → write_step s.site.shape live s.claims caller off (length bytes) ≡ seg.next_update s caller (call.Write off bytes)
write_is s live caller off bytes shown inside =
    let g = s.site.shape in
    if_same (has_claim s.claims caller) (next_update g.k g.n live s.claims caller) (unless_held (holder_among (touches g off (length bytes)) caller s.claims) step.Begin)
    (seg.next_part g.k g.n s.cols s.claims caller) (seg.unless_held (seg.block_holder g (call.Write off bytes) caller s.claims) step.Begin)
    (update_is g.k g.n live s.cols s.claims caller shown)
    (held_same (holder_among (touches g off (length bytes)) caller s.claims) step.Begin
    ∙ ap (λ (o : Option Held). seg.unless_held o step.Begin)
    (holders_same (touches g off (length bytes)) (seg.wants g (call.Write off bytes)) caller s.claims (λ j. touches_is g off (length bytes) j inside)))

swap_is : (s : Seg) (live : List (Option NodeId)) (caller off : ℕ) (old new : List ℕ) → AreLive live s.cols → off + length new ≤ segment_length s.site.shape
    → write_step s.site.shape live s.claims caller off (length new) ≡ seg.next_update s caller (call.Swap off old new)
swap_is s live caller off old new shown inside =
    let g = s.site.shape in
    if_same (has_claim s.claims caller) (next_update g.k g.n live s.claims caller) (unless_held (holder_among (touches g off (length new)) caller s.claims) step.Begin)
    (seg.next_part g.k g.n s.cols s.claims caller) (seg.unless_held (seg.block_holder g (call.Swap off old new) caller s.claims) step.Begin)
    (update_is g.k g.n live s.cols s.claims caller shown)
    (held_same (holder_among (touches g off (length new)) caller s.claims) step.Begin
    ∙ ap (λ (o : Option Held). seg.unless_held o step.Begin)
    (holders_same (touches g off (length new)) (seg.wants g (call.Swap off old new)) caller s.claims (λ j. touches_is g off (length new) j inside)))

waits_is : (caller : ℕ) (r : Option Rebuilding) (t u : Step) → t ≡ u → unless_held (rebuild_of_other caller (option_map job_in r)) t ≡ seg.unless_held (seg.rebuild_holder caller r) u
waits_is caller r t u same =
    held_same (rebuild_of_other caller (option_map job_in r)) t
    ∙ ap (λ (o : Option Held). seg.unless_held o t) (rebuild_is caller r)
    ∙ ap (λ (x : Step). seg.unless_held (seg.rebuild_holder caller r) x) same

rebuild_step_is : (s : Seg) (live : List (Option NodeId)) (caller : ℕ) → Sound s → AreLive live s.cols
    → rebuild_step s.site.shape live (option_map job_in s.rebuild) caller ≡ seg.next_served s caller call.Rebuild
rebuild_step_is s live caller sound shown =
    let rest = waits_is caller s.rebuild (own_rebuild_step s.site.shape.block (option_map job_in s.rebuild)) (seg.next_piece s.site.shape.block s.rebuild)
    (piece_is s.site.shape.block s.rebuild) in
    ap (λ (m : ℕ). if m == 0 then step.Whole else unless_held (rebuild_of_other caller (option_map job_in s.rebuild)) (own_rebuild_step s.site.shape.block (option_map job_in s.rebuild)))
    (count_is s live sound shown)
    ∙ if_same (length (downs s.site s.log) == 0) step.Whole
    (unless_held (rebuild_of_other caller (option_map job_in s.rebuild)) (own_rebuild_step s.site.shape.block (option_map job_in s.rebuild)))
    step.Whole (seg.unless_held (seg.rebuild_holder caller s.rebuild) (seg.next_piece s.site.shape.block s.rebuild)) refl rest

drain_step_is : (s : Seg) (live : List (Option NodeId)) (caller : ℕ) (node : NodeId) → Sound s → AreLive live s.cols
    → drain_step s.site.shape.n live (option_map job_in s.rebuild) caller node.0 ≡ seg.next_served s caller (call.Drain node)
drain_step_is s live caller node sound shown =
    let rest = waits_is caller s.rebuild step.Drain step.Drain refl in
    ap (λ (o : Option ℕ). if is_some o then unless_held (rebuild_of_other caller (option_map job_in s.rebuild)) step.Drain else step.Clear)
    (column_is s live node.0 sound shown)
    ∙ if_same (is_some (seg.live_on s.site s.log node.0)) (unless_held (rebuild_of_other caller (option_map job_in s.rebuild)) step.Drain) step.Clear
    (seg.unless_held (seg.rebuild_holder caller s.rebuild) step.Drain) step.Clear rest refl

served_is : (s : Seg) (live : List (Option NodeId)) (caller : ℕ) (c : Call) → Sound s → AreLive live s.cols → refusal s.site.shape c ≡ None
    → call_step s.site.shape live s.claims (option_map job_in s.rebuild) caller c ≡ seg.next_served s caller c
served_is s live caller (call.Read off len) sound shown free = refl
served_is s live caller call.Merge sound shown free = refl
served_is s live caller call.Tick sound shown free = refl
served_is s live caller call.Upgrade sound shown free = refl
served_is s live caller (call.Put bytes) sound shown free = held_same (holder_among (λ _. true) caller s.claims) step.Put
served_is s live caller (call.Write off bytes) sound shown free = write_is s live caller off bytes shown (writes_update s.site.shape off bytes free).inside
served_is s live caller (call.Swap off old new) sound shown free =
    swap_is s live caller off old new shown (swaps_update s.site.shape off old new free).update.inside
served_is s live caller call.Rebuild sound shown free = rebuild_step_is s live caller sound shown
served_is s live caller (call.Drain node) sound shown free = drain_step_is s live caller node sound shown

none_of : (o : Option Reply) → is_some o ≡ false → o ≡ None
none_of None e = refl
none_of (Some r) e = cc

first_same : (refused lost over : Bool) (x y : Step) → lost ≡ over → (refused ≡ false → x ≡ y)
    → (if refused then step.Refuse else if lost then step.Lost else x) ≡ (if refused then step.Refuse else if over then step.Lost else y)
first_same true lost over x y same rest = refl
first_same false lost over x y same rest = let e = rest refl in rw (same, e) refl

-- the step that is chosen is that of the segment which the scene shows
pub chosen_is : (shape : Shape) (live : List (Option NodeId)) (claims : List (Option Claim)) (job : Option Job) (caller : ℕ) (c : Call) (s : Seg)
    → Sound s → Shows shape live claims job s → next_step shape live claims job caller c ≡ seg.next_step s caller c
chosen_is shape live claims job caller c s sound shown =
    rw (shown.shape_is, shown.claims_are, shown.job_is)
    (first_same (is_some (refusal s.site.shape c)) (is_lost s.site.shape live) (is_over s.site s.log)
    (call_step s.site.shape live s.claims (option_map job_in s.rebuild) caller c) (seg.next_served s caller c)
    (lost_is s live sound shown.live_is)
    (λ free. served_is s live caller c sound shown.live_is (none_of (refusal s.site.shape c) free)))

-- and so are a lost segment, and the column on a node
pub over_is : (s : Seg) (live : List (Option NodeId)) → Sound s → AreLive live s.cols → is_lost s.site.shape live ≡ is_over s.site s.log
over_is s live sound shown = lost_is s live sound shown

pub found_is : (s : Seg) (live : List (Option NodeId)) (node : ℕ) → Sound s → AreLive live s.cols → column_on s.site.shape.n live node ≡ seg.live_on s.site s.log node
found_is s live node sound shown = column_is s live node sound shown
