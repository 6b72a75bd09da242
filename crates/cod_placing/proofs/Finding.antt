-- What a spare node is to a segment.
use Rattle.std.proofs.Common.{◌≡◌, ◌≢◌, ℕ, zero, suc, ◌+◌, ◌-◌, ◌%◌, ◌<◌, ◌≤◌, Bool, true, false, List, [], ◌∷◌, ◌++◌, length, get_or, map, All, Option, Some, None, refl, sym, ap, ◌∙◌, subst, arith, length-append, slice_index}
use Rattle.std.specs.Prelude.{◌==◌, ◌||◌, IsPermutation, IsSome, is_some, not}
use Rattle.std.specs.List.{filter, list_any, range_with_len}
use Rattle.std.specs.Option.{option_map}
use Rattle.std.proofs.Math.Seq.{get_or-append_seam}
use Rattle.std.proofs.lemmas.Bool.{both_ways, eq-eqb}
use Rattle.cod_seg.proofs.Choosing.{not_true}
use Rattle.std.proofs.Math.Nat.{mod-lt}
use Rattle.std.proofs.lemmas.List.{get_or_default, length-replicate}
use Rattle.std.proofs.lemmas.List.Elements.{All-filter, All-map, All-weaker, filter_passes}
use Rattle.std.proofs.lemmas.List.Folds.{list_any_at}
use Rattle.std.proofs.lemmas.List.FromFn.{get_or-range_with_len, length-range_with_len}
use Rattle.std.proofs.lemmas.List.Sorted.{IsPermutation-cons, IsPermutation-middle}
use Rattle.cod_types.specs.Columns.{column_size, nodes_after}
use Rattle.cod_types.specs.declared.call.NodeId.{NodeId}
use Rattle.cod_types.specs.declared.reasons.Reason.{Reason}
use Rattle.cod_types.specs.declared.reasons.Why.{Why}
use Rattle.cod_types.specs.declared.reasons.Why.TheVariants.{Down, Free, Fault}
use Rattle.cod_chronicle.specs.Event.{Setting, IsKilledBy, IsSeenWhy}
use Rattle.cod_chronicle.specs.Legal.{IsWhy, node_id, others}
use Rattle.cod_chronicle.specs.Said.{is_taken, node_of}
use Rattle.cod_board.specs.declared.kill.Kill.{Kill as Killed}
use Rattle.cod_board.specs.Kills.{Keeps, kill_of}
use Rattle.cod_region.specs.Device.{Device, Zeros}
use Rattle.cod_place.specs.Room.{Room}
use Rattle.cod_place.specs.Rooms.{bytes_on, lowered}
use Rattle.cod_place.proofs.Rooms.{elsewhere, here}
use Rattle.cod_place.specs.Spares.{candidates, is_in, IsSpare, nodes_of, Refuses}
use Rattle.cod_repair.specs.Columns.{is_taken as is_taken_by}
use Rattle.cod_seg.specs.Seg.{Col, col_at, no_col, Seg, Target}
use Rattle.cod_seg.specs.Sound.{AreBroken, is_frail, Sound}
use Rattle.cod_segment.specs.Events.{IsSettingOf, kills_at, rebuild_rooms, rooms_of}
use Rattle.cod_segment.specs.Events.{Balances}
use Rattle.cod_segment.proofs.Balancing.{balanced, then}
use Rattle.cod_segment.specs.Looks.{IsLooked}
use Rattle.cod_placing.specs.Places.{HasNoSpare, IsFirst, IsFresh}

-- ---- the board

-- a node that isn't killed wasn't killed before
pub unkilled : (before now : List (Option Killed)) (node : ℕ) → Keeps before now → kill_of now node ≡ None → kill_of before node ≡ None
unkilled before now node keeps none = by (kill_of before node) refl where
  by : (o : Option Killed) → kill_of before node ≡ o → kill_of before node ≡ None
  by None e = e
  by (Some k) e =
      let some : IsSome (kill_of before node) = subst IsSome (sym e) refl in
      let wrong : None ≡ Some k = sym none ∙ (keeps node some ∙ e) in
      absurd (let no_way : ⊥ = cc in no_way)

-- nor was it known as killed
pub unknown : (before now : List (Option Killed)) (node : ℕ) → Keeps before now → kill_of now node ≡ None → kills_at before node ≡ None
unknown before now node keeps none = ap (option_map (λ (k : Killed). record { line = k.line; clock = k.clock })) (unkilled before now node keeps none)

-- ---- the nodes that are taken

-- a test of each column is a test of each number
any_col : (p : Col → Bool) (q : ℕ → Bool) (cols : List Col) (a : ℕ) → ((i : ℕ) → i < length cols → p (col_at cols i) ≡ q (a + i))
    → list_any p cols ≡ list_any q (range_with_len a (length cols))
any_col p q [] a same = refl
any_col p q (c ∷ cols) a same =
    let here : p c ≡ q a = same 0 (omega arith) ∙ ap q (let e : a + 0 ≡ a = omega arith in e) in
    let rest = any_col p q cols (a + 1) (λ i lt. same (suc i) (omega (arith, lt)) ∙ ap q (let e : a + suc i ≡ a + 1 + i = omega arith in e)) in
    λ i. here i || rest i

pub taken_is : (s : Seg) → Sound s → (node : ℕ) → is_taken_by s.cols node ≡ is_taken s.site s.log node
taken_is s sound node =
    any_col (λ (c : Col). c.room.node.0 == node) (λ i. node_of s.site s.log i == node) s.cols 0
    (λ i lt. ap (λ (x : ℕ). x == node) ((sound.columns.each i (let n = sound.columns.size in omega (arith, n, lt))).there) ∙ ap (λ (x : ℕ). node_of s.site s.log x == node) (let e : i ≡ 0 + i = omega arith in e))
    ∙ ap (λ (n : ℕ). list_any (λ i. node_of s.site s.log i == node) (range_with_len 0 n)) sound.columns.size

filter_same : (p q : ℕ → Bool) (xs : List ℕ) → ((x : ℕ) → p x ≡ q x) → filter p xs ≡ filter q xs
filter_same p q xs same = λ i. filter (λ x. same x i) xs

-- What a column's search begins with: the node where the column is, and the nodes that are taken.
pub record IsSearch (s : Seg) (col after taken : ℕ) : Type 0 where
  pub among : col < s.site.shape.n
  pub from : after ≡ (col_at s.cols col).room.node.0
  pub taken_is : (node : ℕ) → is_in taken node ≡ is_taken_by s.cols node

pub asked_are : (s : Seg) (col after taken : ℕ) → Sound s → IsSearch s col after taken → candidates after taken s.site.nodes ≡ others s.site s.log (node_of s.site s.log col)
asked_are s col after taken sound is =
    let there : after ≡ node_of s.site s.log col = is.from ∙ (sound.columns.each col is.among).there in
    ap (λ (x : ℕ). candidates x taken s.site.nodes) there
    ∙ filter_same (λ x. not (is_in taken x)) (λ x. not (is_taken s.site s.log x)) (nodes_after (node_of s.site s.log col) s.site.nodes)
    (λ x. ap not (is.taken_is x ∙ taken_is s sound x))

-- each column's node is below 64
pub nodes_small : (s : Seg) → Sound s → All (λ (c : Col). c.room.node.0 < 64) s.cols
nodes_small s sound i d lt =
    let size = sound.columns.size in
    let below : i < s.site.shape.n = omega (arith, size, lt) in
    let column = sound.columns.each i below in
    let there : (col_at s.cols i).room.node.0 ≡ node_of s.site s.log i = column.there in
    let same : get_or s.cols i d ≡ col_at s.cols i = get_or_default s.cols i d no_col lt in
    let low = sound.columns.known i below in
    let most = sound.columns.most in
    subst (λ (c : Col). c.room.node.0 < 64) (sym same) (omega (arith, there, low, most))

-- what holds of all holds of one in the middle
mid : {X : Type 0} (P : X → Type 0) (xs ys : List X) (y : X) → All P (xs ++ y ∷ ys) → P y
mid P xs ys y all = subst P (get_or-append_seam xs y ys y) (all (length xs) y (let l = length-append xs (y ∷ ys) in omega (arith, l)))

-- a node that may be asked
record IsCandidate (taken nodes node : ℕ) : Type 0 where
  there : node < nodes
  out : is_in taken node ≡ false

all_candidates : (after taken nodes : ℕ) → All (IsCandidate taken nodes) (candidates after taken nodes)
all_candidates after taken zero = λ i d lt. absurd (omega (arith, lt))
all_candidates after taken (suc n) =
    let below : All (λ (x : ℕ). x < suc n) (nodes_after after (suc n)) =
    All-map (λ (x : ℕ). x < suc n) (λ (x : ℕ). (after + 1 + x) % suc n) (range_with_len 0 (suc n)) (λ i d lt. mod-lt (after + 1 + get_or (range_with_len 0 (suc n)) i d) (omega arith)) in
    let first = All-filter (λ x. not (is_in taken x)) (λ (x : ℕ). x < suc n) (nodes_after after (suc n)) below in
    let second = filter_passes (λ x. not (is_in taken x)) (nodes_after after (suc n)) in
    λ i d lt. record { there = first i d lt; out = not_true (is_in taken (get_or (candidates after taken (suc n)) i d)) (second i d lt) }

-- The spare is a node of the cluster, on which no column is.
pub spare_is : (s : Seg) (col after taken node : ℕ) (broken : List (Option ℕ)) (kills : List (Option Killed)) (reasons : List Reason) → Sound s → IsSearch s col after taken
    → IsSpare broken kills (candidates after taken s.site.nodes) reasons node
    → (node < s.site.nodes) × ((i : ℕ) → i < s.site.shape.n → node_of s.site s.log i ≢ node)
spare_is s col after taken node broken kills reasons sound is spare =
    let all : All (IsCandidate taken s.site.nodes) (nodes_of reasons ++ node ∷ spare.rest) = subst (All (IsCandidate taken s.site.nodes)) spare.first (all_candidates after taken s.site.nodes) in
    let here = mid (IsCandidate taken s.site.nodes) (nodes_of reasons) spare.rest node all in
    let free : is_taken s.site s.log node ≡ false = sym (is.taken_is node ∙ taken_is s sound node) ∙ here.out in (
      here.there,
      λ i lt e.
          let at : get_or (range_with_len 0 s.site.shape.n) i 0 ≡ i = get_or-range_with_len 0 s.site.shape.n i 0 lt ∙ (let z : 0 + i ≡ i = omega arith in z) in
          let size = length-range_with_len 0 s.site.shape.n in
          let on : (node_of s.site s.log (get_or (range_with_len 0 s.site.shape.n) i 0) == node) ≡ true = ap (λ (x : ℕ). node_of s.site s.log x == node) at ∙ eq-eqb (node_of s.site s.log i) node e in
          both_ways (is_taken s.site s.log node) free (list_any_at (λ x. node_of s.site s.log x == node) (range_with_len 0 s.site.shape.n) i 0 (omega (arith, size, lt)) on),
    )

-- ---- the owner of a room

-- A room that came from the same pools as a segment's has their badge.
pub owner_is : (Came : List Room → Type 0) → ((rooms others : List Room) → IsPermutation rooms others → Came rooms → Came others)
    → ((rooms others : List Room) → Came (rooms ++ others) → Came rooms) → ((room other : Room) → Came (room ∷ other ∷ []) → room.of ≡ other.of)
    → (s : Seg) (room : Room) → Sound s → Came (room ∷ rooms_of s) → room.of ≡ s.pools
owner_is Came order front owner s room sound came = by s.cols refl came where
  by : (cols : List Col) → s.cols ≡ cols → Came (room ∷ (rebuild_rooms s.rebuild ++ map (λ (c : Col). c.room) cols)) → room.of ≡ s.pools
  by [] e here = absurd (
      let size = sound.columns.size in
      let none : length s.cols ≡ 0 = ap length e in
      let k = sound.shape.some_data in
      let n = sound.shape.data_among_columns in
      omega (arith, size, none, k, n))
  by (c ∷ cols) e here =
      let xs = rebuild_rooms s.rebuild in
      let ys = map (λ (x : Col). x.room) cols in
      let moved = order (room ∷ (xs ++ c.room ∷ ys)) (room ∷ (c.room ∷ (xs ++ ys))) (IsPermutation-cons room (xs ++ c.room ∷ ys) (c.room ∷ (xs ++ ys)) (IsPermutation-middle xs c.room ys)) here in
      let two : Came (room ∷ c.room ∷ []) = front (room ∷ c.room ∷ []) (xs ++ ys) moved in
      let k = sound.shape.some_data in
      let n = sound.shape.data_among_columns in
      let first : (col_at s.cols 0).room ≡ c.room = ap (λ (l : List Col). (col_at l 0).room) e in
      owner room c.room two ∙ ap (λ (r : Room). r.of) (sym first) ∙ (sound.columns.each 0 (omega (arith, k, n))).owned

-- ---- the region

-- so many zeros have that length
pub zeros_full : (content : Option (List ℕ)) (size bytes : ℕ) → size ≡ bytes → Zeros content bytes → (held : List ℕ) → content ≡ Some held → length held ≡ size
zeros_full None size bytes e zeros held is = cc
zeros_full (Some h) size bytes e zeros held is =
    let same : h ≡ held = cc in
    ap length (sym same) ∙ (ap length zeros ∙ (length-replicate bytes 0 ∙ sym e))

-- ---- the reasons

whys : (s : Seg) (col bytes node : ℕ) (broken : List (Option ℕ)) (kills : List (Option Killed)) (Seen : ℕ → ℕ → Type 0) (why : Why) → bytes ≤ column_size s.site.shape col
    → Refuses bytes broken kills Seen node why → IsWhy s.site.shape col why
whys s col bytes node broken kills Seen (Down line) most r = r.2
whys s col bytes node broken kills Seen (Free n) most r = let few = r.2 in omega (arith, few, most)
whys s col bytes node broken kills Seen (Fault count) most r = r.1

seen_why : (s : Seg) (w : Setting) (bytes node : ℕ) (broken : List (Option ℕ)) (kills : List (Option Killed)) (Seen : ℕ → ℕ → Type 0) (why : Why) → AreBroken s.frail broken → IsSettingOf w s
    → ((x : ℕ) → w.seen x ≡ kills_at kills x) → Refuses bytes broken kills Seen node why → IsSeenWhy w.seen w.may node why
seen_why s w bytes node broken kills Seen (Down line) honest setting seen r = by (kill_of kills node) refl r.1 where
  by : (o : Option Killed) → kill_of kills node ≡ o → option_map (λ (k : Killed). k.line) o ≡ Some line → IsKilledBy w.seen node line
  by None e f = absurd (let no_way : ⊥ = cc in no_way)
  by (Some k) e f = (
    record { line = k.line; clock = k.clock },
    seen node ∙ ap (option_map (λ (x : Killed). record { line = x.line; clock = x.clock })) e,
    (let same : k.line ≡ line = cc in same),
  )
seen_why s w bytes node broken kills Seen (Free n) honest setting seen r = tt
seen_why s w bytes node broken kills Seen (Fault count) honest setting seen r = (r.1, setting.may node (honest node count r.0).1)

why_looked : (bytes node : ℕ) (broken : List (Option ℕ)) (kills : List (Option Killed)) (Seen : ℕ → ℕ → Type 0) (why : Why) → Refuses bytes broken kills Seen node why → IsLooked Seen node why
why_looked bytes node broken kills Seen (Down line) r = tt
why_looked bytes node broken kills Seen (Free n) r = r.3
why_looked bytes node broken kills Seen (Fault count) r = tt

-- What refuses for its free bytes was seen with so many.
pub whys_looked : (bytes : ℕ) (broken : List (Option ℕ)) (kills : List (Option Killed)) (Seen : ℕ → ℕ → Type 0) (reasons : List Reason)
    → All (λ (passed : Reason). Refuses bytes broken kills Seen passed.node.0 passed.why) reasons → All (λ (r : Reason). IsLooked Seen r.node.0 r.why) reasons
whys_looked bytes broken kills Seen reasons all =
    All-weaker (λ (r : Reason). Refuses bytes broken kills Seen r.node.0 r.why) (λ (r : Reason). IsLooked Seen r.node.0 r.why) (λ r. why_looked bytes r.node.0 broken kills Seen r.why) reasons all

-- Where each candidate refuses, there is no spare.
pub none_fits : (s : Seg) (col after taken bytes : ℕ) (broken : List (Option ℕ)) (kills : List (Option Killed)) (Seen : ℕ → ℕ → Type 0) (reasons : List Reason) → Sound s → IsSearch s col after taken
    → bytes ≤ column_size s.site.shape col → AreBroken s.frail broken → nodes_of reasons ≡ candidates after taken s.site.nodes
    → All (λ (passed : Reason). Refuses bytes broken kills Seen passed.node.0 passed.why) reasons → HasNoSpare s col kills reasons
none_fits s col after taken bytes broken kills Seen reasons sound is most honest nodes all = record {
  reasons = record {
    nodes = nodes ∙ asked_are s col after taken sound is;
    whys = All-weaker (λ (r : Reason). Refuses bytes broken kills Seen r.node.0 r.why) (λ (r : Reason). IsWhy s.site.shape col r.why) (λ r. whys s col bytes r.node.0 broken kills Seen r.why most) reasons all;
  };
  seen = λ w setting seen.
      All-weaker (λ (r : Reason). Refuses bytes broken kills Seen r.node.0 r.why) (λ (r : Reason). IsSeenWhy w.seen w.may r.node.0 r.why)
      (λ r. seen_why s w bytes r.node.0 broken kills Seen r.why honest setting seen) reasons all;
}

-- The spare is the first node that could take the column.
pub first_is : (s : Seg) (col after taken bytes node : ℕ) (broken : List (Option ℕ)) (kills : List (Option Killed)) (Seen : ℕ → ℕ → Type 0) (reasons : List Reason) → Sound s → IsSearch s col after taken
    → bytes ≤ column_size s.site.shape col → IsSpare broken kills (candidates after taken s.site.nodes) reasons node
    → All (λ (passed : Reason). Refuses bytes broken kills Seen passed.node.0 passed.why) reasons → IsFirst s col reasons node
first_is s col after taken bytes node broken kills Seen reasons sound is most spare all = record {
  rest = spare.rest;
  first = sym (asked_are s col after taken sound is) ∙ spare.first;
  whys = All-weaker (λ (r : Reason). Refuses bytes broken kills Seen r.node.0 r.why) (λ (r : Reason). IsWhy s.site.shape col r.why) (λ r. whys s col bytes r.node.0 broken kills Seen r.why most) reasons all;
}

-- ---- free bytes

-- a room is taken
pub taken_balances : (before after : Option (List ℕ)) (node bytes : ℕ) (room : Room) → room.node.0 ≡ node → room.bytes ≡ bytes
    → ((f : List ℕ) → before ≡ Some f → bytes ≤ slice_index f node) → after ≡ option_map (lowered node bytes) before → Balances before after [] (room ∷ [])
taken_balances before after node bytes room on size enough is =
    balanced before after node (λ n. n - bytes) [] (room ∷ []) is (λ x other. elsewhere x room [] (λ e. other (e ∙ on)))
    (λ f told. let h = subst (λ (x : ℕ). bytes_on x (room ∷ []) ≡ room.bytes + bytes_on x []) on (here room []) in let e = enough f told in omega (arith, h, e, size))

-- and goes back
pub given_balances : (before between after : Option (List ℕ)) (node bytes : ℕ) (room : Room) → room.node.0 ≡ node → room.bytes ≡ bytes
    → ((f : List ℕ) → before ≡ Some f → bytes ≤ slice_index f node) → between ≡ option_map (lowered node bytes) before
    → Balances between after (room ∷ []) [] → Balances before after [] []
given_balances before between after node bytes room on size enough taken back =
    then before between after [] (room ∷ []) [] (taken_balances before between node bytes room on size enough taken) back

-- ---- the place

-- A region that is new, on the room of a spare, is a place.
pub fresh : (s : Seg) (col after taken bytes : ℕ) (broken : List (Option ℕ)) (kills : List (Option Killed)) (reasons : List Reason) (never : NodeId → Bool) (t : Target) → Sound s
    → IsSearch s col after taken → IsSpare broken kills (candidates after taken s.site.nodes) reasons t.room.node.0
    → t.room.bytes ≡ bytes → t.filled ≡ 0 → t.room.of ≡ s.pools
    → t.device ≡ record { size = bytes; content = t.device.content; reads = 0; writes = 0; faults = 0; never_fails = never t.room.node }
    → Zeros t.device.content bytes → is_some t.device.content ≡ is_some (col_at s.cols 0).state.device.content
    → ((node : ℕ) → node < s.site.nodes → is_frail s.frail node ≡ false → never (node_id node) ≡ true) → IsFresh s bytes broken kills t
fresh s col after taken bytes broken kills reasons never t sound is spare room filled owned new zeros tells sure =
    let k = sound.shape.some_data in
    let n = sound.shape.data_among_columns in
    let place = spare_is s col after taken t.room.node.0 broken kills reasons sound is spare in
    let size : t.device.size ≡ bytes = ap (λ (d : Device). d.size) new in
    record {
      alone = place.1;
      known = place.0;
      owned = owned;
      room = room;
      fresh = filled;
      size = size;
      tells = tells ∙ (sound.columns.each 0 (omega (arith, k, n))).tells;
      full = zeros_full t.device.content t.device.size bytes size zeros;
      zeros = zeros;
      unread = ap (λ (d : Device). d.reads) new;
      unwritten = ap (λ (d : Device). d.writes) new;
      clean = ap (λ (d : Device). d.faults) new;
      sure = λ calm. ap (λ (d : Device). d.never_fails) new ∙ sure t.room.node.0 place.0 calm;
      whole = spare.whole;
      up = spare.up;
    }
