-- What is kept where a column comes to another node.
use Rattle.cod_types.specs.Overwritten.{byte_of}
use Rattle.std.proofs.Common.{◌≡◌, ◌≢◌, ℕ, zero, suc, ◌+◌, ◌<◌, ◌≤◌, List, [], ◌∷◌, ◌++◌, length, get_or, set, take, drop, Bool, true, false, cond, refl, sym, ap, ◌∙◌, subst, inl, inr, bit_xor}
use Rattle.std.proofs.Common.{arith, Some, None, Option, append_assoc}
use Rattle.std.specs.Prelude.{is_some, not, eqb, ◌==◌}
use Rattle.std.proofs.lemmas.List.FromFn.{get_or-range_with_len, length-range_with_len}
use Rattle.std.specs.Option.{option_map}
use Rattle.std.specs.List.{All, AllByRecursion, fold, last_or, range_with_len}
use Rattle.std.specs.Int.Bits.{xor_zero_r}
use Rattle.std.proofs.lemmas.Bool.{cases_eq, cases_Bool, both_ways, ne_eqb, eq-eqb, lt-ltb, le-ltb}
use Rattle.std.proofs.lemmas.List.{length-set, get_or-set_other, get_or-take, length-take-le, take-append-drop, length-map}
use Rattle.std.proofs.lemmas.List.Folds.{list_any_none}
use Rattle.cod_types.specs.Limits.{Shape, IsWithin}
use Rattle.cod_types.specs.declared.call.Call.{Call as Asked}
use Rattle.cod_types.specs.declared.call.Call.TheVariants.{Rebuild, Drain}
use Rattle.cod_types.specs.declared.call.Caller.{Caller}
use Rattle.cod_types.specs.declared.call.Reply.{Reply}
use Rattle.cod_types.specs.declared.call.Reply.TheVariants.{Rebuilt, Shifted}
use Rattle.cod_region.specs.Device.{Device}
use Rattle.cod_code.specs.Segments.{column_byte}
use Rattle.cod_chronicle.specs.declared.entry.Entry.{Entry}
use Rattle.cod_chronicle.specs.declared.entry.Entry.TheVariants.{Call, Down, Up, Move}
use Rattle.cod_chronicle.specs.Said.{Site, bytes_of, clock_of, down_next, is_down, is_over, is_taken, IsChronicle, node_next, node_of, numbers_by, StampFollows, call_count, fault_next, fault_of}
use Rattle.cod_chronicle.specs.Said.{Precedes}
use Rattle.cod_chronicle.specs.Legal.{IsLegal, node_id}
use Rattle.cod_chronicle.proofs.Answering.{answer_served}
use Rattle.cod_chronicle.proofs.Growth.{bytes_of-push, chronicle-push, clock_of-push, is_down-push, node_of-push, numbers_same, stamp_follows, call_count-push, fault_of-push}
use Rattle.cod_chronicle.proofs.Legality.{legal-pair, over_mono}
use Rattle.cod_chronicle.proofs.Orders.{Each-append}
use Rattle.cod_claims.specs.declared.claim.Claim.{Claim}
use Rattle.cod_claims.specs.Claimed.{claim_at, forgotten, HasNone, is_of, kept_of, without_marks}
use Rattle.cod_claims.proofs.Claiming.{at_map, ComesFrom, forgotten_keeps}
use Rattle.cod_parity.specs.Held.{Holds, Piece}
use Rattle.cod_parity.specs.State.{empty}
use Rattle.cod_seg.specs.Seg.{col_at, Rebuilding, Seg, Target}
use Rattle.cod_seg.specs.Sound.{AreColumns, AreCuts, AreOpen, HasTarget, HoldBytes, IsClaim, IsColumn, IsFault, IsFilled, IsHistory, IsRebuilding, IsSingle, IsTarget, MayRebuild, noted_piece}
use Rattle.cod_seg.specs.Sound.{pending_on, piece_on, Sound}
use Rattle.cod_seg.specs.Steps.{IsPlace, Moves, Place, placed_col, risen, Rises}
use Rattle.cod_seg.proofs.Telling.{column_kept, other_numbers}
use Rattle.cod_seg.proofs.Keeping.{claim_told, col_here, col_there, has_none, holds_set, idle_other}
use Rattle.cod_seg.proofs.Marking.{open_marked}

-- a column that isn't down has no fault marked
live_unmarked : (h : List Entry) (i : ℕ) (d : Bool) (f : Option ℕ) → (d ≡ false → f ≡ None) → fold (λ d e. down_next i d e) d h ≡ false → fold (λ f e. fault_next i f e) f h ≡ None
live_unmarked [] i d f both live = both live
live_unmarked ((Call caller number stamp call reply) ∷ h) i d f both live = live_unmarked h i d f both live
live_unmarked ((Down stamp col node cause) ∷ h) i d f both live = live_unmarked h i (down_next i d e) (fault_next i f e) (by (eqb col i)) live where
  e : Entry
  e = Down stamp col node cause

  by : (b : Bool) → cond b true d ≡ false → cond b (Rattle.cod_chronicle.specs.Said.fault_by cause) f ≡ None
  by true n = cc
  by false n = both n
live_unmarked ((Up stamp col node) ∷ h) i d f both live = live_unmarked h i (down_next i d e) (fault_next i f e) (by (eqb col i)) live where
  e : Entry
  e = Up stamp col node

  by : (b : Bool) → cond b false d ≡ false → cond b None f ≡ None
  by true n = refl
  by false n = both n
live_unmarked ((Move stamp col node) ∷ h) i d f both live = live_unmarked h i d f both live

-- Of one column a later chronicle says that it has come to a node, and of the others nothing new.
pub record Arrives (site : Site) (log later : List Entry) (i node : ℕ) : Type 0 where
  pub down : (m : ℕ) → m ≢ i → is_down later m ≡ is_down log m
  pub stays : (m : ℕ) → m ≢ i → node_of site later m ≡ node_of site log m
  pub fault : (m : ℕ) → m ≢ i → fault_of later m ≡ fault_of log m
  pub live : is_down later i ≡ false
  pub there : node_of site later i ≡ node
  pub clean : fault_of later i ≡ None
  pub bytes : bytes_of site later ≡ bytes_of site log
  pub calls : call_count later ≡ call_count log + 1

-- without the marks on a column
pub claim_unmarked : (i : ℕ) (claims : List (Option Claim)) (j : ℕ) → claim_at (without_marks i claims) j ≡ forgotten i (claim_at claims j)
claim_unmarked i claims j = at_map (forgotten i) refl claims j

pub owner_forgotten : (i w : ℕ) (o : Option Claim) → is_of w (forgotten i o) ≡ is_of w o
owner_forgotten i w None = refl
owner_forgotten i w (Some c) = refl

from_unmarked : (i : ℕ) (claims : List (Option Claim)) (j : ℕ) (d : Claim) → claim_at (without_marks i claims) j ≡ Some d → ComesFrom claims j d
from_unmarked i claims j d here =
    let k = forgotten_keeps i (claim_at claims j) d (sym (claim_unmarked i claims j) ∙ here) in
    record { was = k.0; here = k.1; from = k.2 }

kept_there : (i m x : ℕ) (o : Option Claim) → m ≢ i → ((c : Claim) → o ≡ Some c → c.delta.part.block ≡ m) → byte_of (kept_of o) x ≡ byte_of (kept_of (forgotten i o)) x
kept_there i m x None other own = refl
kept_there i m x (Some c) other own = rw (ne_eqb c.delta.part.block i (λ e. other (sym (own c refl) ∙ e))) refl

kept_here : (i x : ℕ) (o : Option Claim) → ((c : Claim) → o ≡ Some c → c.delta.part.block ≡ i) → byte_of (kept_of (forgotten i o)) x ≡ 0
kept_here i x None own = refl
kept_here i x (Some c) own = rw (eq-eqb c.delta.part.block i (own c refl)) refl

piece_there : (k i m j : ℕ) (o : Option Claim) → m ≢ i → noted_piece k m j o ≡ noted_piece k m j (forgotten i o)
piece_there k i m j None other = refl
piece_there k i m j (Some c) other = ap (option_map (λ len. piece_on k m j len c)) (sym (get_or-set_other c.noted i m None None other))

set_none : (xs : List (Option ℕ)) (i : ℕ) → get_or (set xs i None) i None ≡ None
set_none [] i = refl
set_none (x ∷ xs) zero = refl
set_none (x ∷ xs) (suc i) = set_none xs i

piece_here : (k i j : ℕ) (o : Option Claim) → noted_piece k i j (forgotten i o) ≡ None
piece_here k i j None = refl
piece_here k i j (Some c) = ap (option_map (λ len. piece_on k i j len c)) (set_none c.noted i)

-- a column of no record holds the region's first bytes
pub empty_holds : (g : Shape) (cuts : List ℕ) (size average : ℕ) (d : Device) (held : List ℕ) (v : ℕ → ℕ) (p : ℕ → Option Piece) → d.content ≡ Some held → g.block ≤ length held
    → ((x : ℕ) → x < g.block → get_or held x 0 ≡ v x) → ((j : ℕ) → p j ≡ None) → Holds (empty g size average d) cuts v p
empty_holds g cuts size average d held v p told long each none = record {
  base = take g.block held;
  records = [];
  means = record {
    rest = drop g.block held;
    content = told ∙ ap Some (sym (append_assoc (take g.block held) [] (drop g.block held) ∙ take-append-drop g.block held));
    base_size = length-take-le g.block held long;
    used = refl;
    each = tt;
    noted = refl;
  };
  value_is = λ x lt. xor_zero_r (get_or (take g.block held) x 0) ∙ get_or-take g.block held x 0 lt ∙ each x lt;
  in_flight = λ j. rw (none j) refl;
}

-- what is told of a region that tells
pub told_content : (o : Option (List ℕ)) → is_some o ≡ true → (held : List ℕ) × (o ≡ Some held)
told_content None e = cc
told_content (Some held) e = (held, refl)

pub arrives_keep : (s : Seg) (later : List Entry) (i : ℕ) (p : Place) → i < s.site.shape.n → Sound s → Arrives s.site s.log later i p.room.node.0 → IsPlace s.site s.frail s.pools s.log i p
    → is_over s.site s.log ≡ false → IsChronicle later → IsLegal s.site later → AllByRecursion (IsFault s.frail) later
    → ((j : ℕ) (c : Claim) → claim_at s.claims j ≡ Some c → numbers_by c.owner.0 later ≡ numbers_by c.owner.0 s.log)
    → (s.site.told ≡ true → (held : List ℕ) → p.device.content ≡ Some held → (x : ℕ) → x < s.site.shape.block
    → get_or held x 0 ≡ column_byte s.site.shape.k s.site.shape.block i (bytes_of s.site s.log) x)
    → Sound (record s { cols = set s.cols i (placed_col s.site.shape p); claims = without_marks i s.claims; log = later; rebuild = None })
arrives_keep s later i p below sound says is few chronicle legal honest numbers copied =
    let g = s.site.shape in
    let b = bytes_of s.site s.log in
    let c = placed_col g p in
    let long = sound.columns.size in
    let inside : i < length s.cols = omega (arith, long, below) in
    let more = says.calls in
    let claims = without_marks i s.claims in
    let marked : AreOpen s.site s.log claims = open_marked s.site s.log s.claims claims (length-map s.claims (forgotten i)) (from_unmarked i s.claims)
    (λ w m. ap (is_of w) (claim_unmarked i s.claims m) ∙ owner_forgotten i w (claim_at s.claims m)) sound.claimed in
    record {
      shape = sound.shape;
      dated = sound.dated;
      history = record { chronicle = chronicle; legal = legal; honest = honest; plain = let same = says.bytes in rw same sound.history.plain };
      columns = record {
        size = length-set s.cols i c ∙ long;
        most = sound.columns.most;
        each = λ m lt. elim (cases_eq m i) [
          | inl at ↦ rw (at, col_here s.cols i c inside) (record {
            there = sym says.there;
            owned = is.owned;
            up = sym (ap not says.live);
            shape = refl;
            tells = is.tells;
            full = is.full;
            clean = λ u. is.clean;
            marked = λ count e. let n = says.clean in cc (n, e);
            sure = is.sure;
            fits = is.fits;
            roomy = is.roomy;
            block = λ low. (is.block low).0;
            plain = λ low. let f = is.block low in rw (f.1, f.2) refl;
            reserve = λ high.
                let least = is.least high in
                let whole = is.reserve high in
                record { within = sound.shape; used = omega arith; least = least; most = is.most high; average = is.average; whole = omega (arith, whole) };
            exact = λ high u. is.reserve high;
          })
          | inr other ↦ rw (col_there s.cols i m c other) (column_kept s.site s.frail s.pools s.log later m (col_at s.cols m) (says.down m other) (says.stays m other) (says.fault m other)
              (sound.columns.each m lt))
        ];
        known = λ m lt. elim (cases_eq m i) [
          | inl at ↦ (let q = ap (node_of s.site later) at ∙ says.there in let k = is.known in omega (arith, q, k))
          | inr other ↦ (let q = says.stays m other in let k = sound.columns.known m lt in omega (arith, q, k))
        ];
        apart = λ m l a d e. elim (cases_eq m i) [
          | inl first ↦ elim (cases_eq l i) [
            | inl second ↦ first ∙ sym second
            | inr second ↦ absurd (is.alone l d (sym (says.stays l second) ∙ sym e ∙ ap (node_of s.site later) first ∙ says.there))
          ]
          | inr first ↦ elim (cases_eq l i) [
            | inl second ↦ absurd (is.alone m a (sym (says.stays m first) ∙ e ∙ ap (node_of s.site later) second ∙ says.there))
            | inr second ↦ sound.columns.apart m l a d (sym (says.stays m first) ∙ e ∙ says.stays l second)
          ]
        ];
      };
      cut = record { size = sound.cut.size; each = λ j. let o = sound.cut.each j in omega (arith, o, more) };
      claimed = record {
        sixteen = marked.sixteen;
        each = λ j d here.
            let f = from_unmarked i s.claims j d here in
            claim_told s.site s.log later claims j d (ap (λ (o : Caller). numbers_by o.0 later) f.from.owner ∙ numbers j f.was f.here
            ∙ sym (ap (λ (o : Caller). numbers_by o.0 s.log) f.from.owner)) says.bytes (marked.each j d here);
      };
      rebuilt = tt;
      single = tt;
      holds = λ told enough.
          let old = sound.holds told few in
          let own : (j : ℕ) (d : Claim) → claim_at s.claims j ≡ Some d → d.delta.part.block ≡ j = sound.claimed.sixteen.own in
          let same = says.bytes in
          rw same (holds_set g b s.cuts s.claims claims s.cols i c s.rebuild None inside old
          (λ m x o. kept_there i m x (claim_at s.claims m) o (own m) ∙ ap (λ (q : Option Claim). byte_of (kept_of q) x) (sym (claim_unmarked i s.claims m)))
          (λ m j o. piece_there g.k i m j (claim_at s.claims j) o ∙ ap (noted_piece g.k m j) (sym (claim_unmarked i s.claims j)))
          (λ low u.
          let t = told_content p.device.content (is.tells ∙ told) in
          let size = (is.block low).0 in
          record {
            held = t.0;
            told = t.1;
            each = λ x lt.
                let none : byte_of (kept_of (claim_at claims i)) x ≡ 0 = ap (λ (q : Option Claim). byte_of (kept_of q) x) (claim_unmarked i s.claims i)
                ∙ kept_here i x (claim_at s.claims i) (own i) in
                copied told t.0 t.1 x (omega (arith, size, lt)) ∙ sym (ap (bit_xor (column_byte g.k g.block i b x)) none ∙ xor_zero_r (column_byte g.k g.block i b x));
          })
          (λ high lt u.
          let t = told_content p.device.content (is.tells ∙ told) in
          let whole = is.reserve high in
          let f = is.full t.0 t.1 in
          empty_holds g s.cuts p.size p.average p.device t.0 (column_byte g.k g.block i b) (pending_on g.k claims i) t.1 (omega (arith, f, whole)) (copied told t.0 t.1)
          (λ j. ap (noted_piece g.k i j) (claim_unmarked i s.claims j) ∙ piece_here g.k i j (claim_at s.claims j)))
          tt);
    }

-- what the mark and its call say
last_up : (h : List Entry) (o : Option Entry) (e : Entry) → last_or o (h ++ e ∷ []) ≡ Some e
last_up [] o e = refl
last_up (x ∷ h) o e = last_up h (Some x) e

pub free_node : (site : Site) (log : List Entry) (x : ℕ) → ((m : ℕ) → m < site.shape.n → node_of site log m ≢ x) → is_taken site log x ≡ false
free_node site log x alone = list_any_none (λ i. node_of site log i == x) (range_with_len 0 site.shape.n)
    (λ m d lt.
    let size = length-range_with_len 0 site.shape.n in
    let zero_on : 0 + m ≡ m = omega arith in
    let at : get_or (range_with_len 0 site.shape.n) m d ≡ m = get_or-range_with_len 0 site.shape.n m d (omega (arith, size, lt)) ∙ zero_on in
    rw at (ne_eqb (node_of site log m) x (alone m (omega (arith, size, lt)))))

pub follows_push : (h : List Entry) (e : Entry) (first second : ℕ) → Rattle.cod_chronicle.specs.Said.stamp_of e ≡ first → Precedes first second → StampFollows (h ++ e ∷ []) second
follows_push h e first second is f = stamp_follows (h ++ e ∷ []) second (let c = clock_of-push h e ∙ is in rw c f)

few_after : (site : Site) (log later : List Entry) → ((m : ℕ) → is_down later m ≡ true → is_down log m ≡ true) → is_over site log ≡ false → is_over site later ≡ false
few_after site log later less few = elim (cases_Bool (is_over site later)) [
  | inl over ↦ absurd (both_ways (is_over site log) few (over_mono site later log less over))
  | inr fine ↦ fine
]

-- two entries behind: a mark, and the call that it was made for
two_say : (site : Site) (log : List Entry) (mark : Entry) (caller : Caller) (number stamp : ℕ) (call : Asked) (reply : Reply) (i node : ℕ)
    → ((m : ℕ) (d : Bool) → m ≢ i → down_next m d mark ≡ d) → ((m x : ℕ) → m ≢ i → node_next m x mark ≡ x) → ((m : ℕ) (f : Option ℕ) → m ≢ i → fault_next m f mark ≡ f)
    → down_next i (is_down log i) mark ≡ false → node_next i (node_of site log i) mark ≡ node → fault_next i (fault_of log i) mark ≡ None
    → bytes_of site ((log ++ mark ∷ []) ++ Call caller number stamp call reply ∷ []) ≡ bytes_of site log → Rattle.cod_chronicle.specs.Said.counts mark ≡ 0
    → Arrives site log ((log ++ mark ∷ []) ++ Call caller number stamp call reply ∷ []) i node
two_say site log mark caller number stamp call reply i node downs nodes faults live there clean bytes none =
    let mid = log ++ mark ∷ [] in
    let e : Entry = Call caller number stamp call reply in
    record {
      down = λ m other. is_down-push mid e m ∙ is_down-push log mark m ∙ downs m (is_down log m) other;
      stays = λ m other. node_of-push site mid e m ∙ node_of-push site log mark m ∙ nodes m (node_of site log m) other;
      fault = λ m other. fault_of-push mid e m ∙ fault_of-push log mark m ∙ faults m (fault_of log m) other;
      live = is_down-push mid e i ∙ is_down-push log mark i ∙ live;
      there = node_of-push site mid e i ∙ node_of-push site log mark i ∙ there;
      clean = fault_of-push mid e i ∙ fault_of-push log mark i ∙ clean;
      bytes = bytes;
      calls = (let a = call_count-push mid e in let b = call_count-push log mark in omega (arith, a, b, none));
    }

two_numbers : (site : Site) (log : List Entry) (mark : Entry) (caller : Caller) (number stamp : ℕ) (call : Asked) (reply : Reply) (who : ℕ)
    → Rattle.cod_chronicle.specs.Said.number_by who mark ≡ None → caller.0 ≢ who
    → numbers_by who ((log ++ mark ∷ []) ++ Call caller number stamp call reply ∷ []) ≡ numbers_by who log
two_numbers site log mark caller number stamp call reply who none other =
    other_numbers who (log ++ mark ∷ []) caller number stamp call reply other
    ∙ numbers_same who log mark none

pub own_numbers : (log : List Entry) (mark : Entry) (who number : ℕ) → Rattle.cod_chronicle.specs.Said.number_by who mark ≡ None → All (λ m. m < number) (numbers_by who log)
    → All (λ m. m < number) (numbers_by who (log ++ mark ∷ []))
own_numbers log mark who number none newest =
    let e = numbers_same who log mark none in
    rw e newest

target_place : (s : Seg) (r : Rebuilding) (t : Target) → IsWithin s.site.shape → IsTarget s.site s.frail s.pools s.log r.col t
    → IsPlace s.site s.frail s.pools s.log r.col (risen s.site.shape r.col t)
target_place s r t within is =
    let g = s.site.shape in
    record {
      alone = is.alone;
      known = is.known;
      owned = is.owned;
      tells = is.tells;
      full = is.full;
      clean = is.clean;
      sure = is.sure;
      fits = is.fits;
      roomy = is.roomy;
      block = λ low. (is.size ∙ ap (λ (b : Bool). cond b g.block (g.block + g.reserve)) (lt-ltb r.col g.k low), ap (λ (b : Bool). cond b 0 g.reserve) (lt-ltb r.col g.k low), refl);
      reserve = λ high. rw (le-ltb r.col g.k high) (is.size ∙ ap (λ (b : Bool). cond b g.block (g.block + g.reserve)) (le-ltb r.col g.k high));
      least = λ high. rw (le-ltb r.col g.k high) within.least_reserve;
      most = λ high. rw (le-ltb r.col g.k high) (omega arith);
      average = omega arith;
    }

pub rises_keep : (s t : Seg) → Sound s → Rises s t → Sound t
rises_keep s t sound step =
    let g = s.site.shape in
    let b = bytes_of s.site s.log in
    let r = step.r in
    let u = step.t in
    let i = r.col in
    let mark : Entry = Up step.first i u.room.node in
    let mid = s.log ++ mark ∷ [] in
    let reply : Reply = Rebuilt i u.room.node in
    let e : Entry = Call step.caller r.number step.second Rebuild reply in
    let later = mid ++ e ∷ [] in
    let is : IsRebuilding s.site s.frail s.pools s.log r = subst (MayRebuild s.site s.frail s.pools s.log) step.was sound.rebuilt in
    let goal : IsTarget s.site s.frail s.pools s.log i u = subst (HasTarget s.site s.frail s.pools s.log i) step.goal is.goal in
    let place = target_place s r u sound.shape goal in
    let same : bytes_of s.site later ≡ b = bytes_of-push s.site mid e ∙ bytes_of-push s.site s.log mark in
    let says : Arrives s.site s.log later i u.room.node.0 = two_say s.site s.log mark step.caller r.number step.second Rebuild reply i u.room.node.0
    (λ m d other. ap (λ (x : Bool). cond x false d) (ne_eqb i m (λ q. other (sym q)))) (λ m x other. ap (λ (y : Bool). cond y u.room.node.0 x) (ne_eqb i m (λ q. other (sym q))))
    (λ m f other. ap (λ (y : Bool). cond y None f) (ne_eqb i m (λ q. other (sym q))))
    (ap (λ (x : Bool). cond x false (is_down s.log i)) (eq-eqb i i refl)) (ap (λ (x : Bool). cond x u.room.node.0 (node_of s.site s.log i)) (eq-eqb i i refl))
    (ap (λ (x : Bool). cond x None (fault_of s.log i)) (eq-eqb i i refl))
    same refl in
    let mid_few : is_over s.site mid ≡ false = few_after s.site s.log mid (λ m d. up_less s.log step.first i u.room.node.0 m d) step.few in
    let single : HasNone step.caller.0 s.claims = let o = subst (IsSingle s.claims) step.was sound.single in rw step.owner o in
    let idle = has_none step.caller.0 s.claims single in
    rw step.becomes (arrives_keep s later i (risen g i u) is.column sound says place step.few
    (chronicle-push mid e (chronicle-push s.log mark sound.history.chronicle step.follows tt) (follows_push s.log mark step.first step.second refl step.next)
    (own_numbers s.log mark step.caller.0 r.number refl step.newest))
    (subst (IsLegal s.site) (sym (append_assoc s.log (mark ∷ []) (e ∷ [])))
    (legal-pair s.site s.log mark e sound.history.legal
    (record { down = is.down; arrives = record { enough = step.few; there = goal.known; free = free_node s.site s.log u.room.node.0 goal.alone }; rebuild = (refl, refl) })
    (answer_served s.site mid Rebuild reply refl mid_few (let l = last_up s.log None mark in rw l refl))))
    (Each-append (IsFault s.frail) mid (e ∷ []) (Each-append (IsFault s.frail) s.log (mark ∷ []) sound.history.honest (tt, tt)) (tt, tt))
    (λ j c here. two_numbers s.site s.log mark step.caller r.number step.second Rebuild reply c.owner.0 refl (idle_other step.caller.0 s.claims j c idle here))
    (λ told held content x lt.
    let before = sound.holds told step.few in
    let first : Rattle.cod_seg.specs.Sound.FillsTarget g b i r.target = subst (Rattle.cod_seg.specs.Sound.FillsRebuild g b) step.was before.target in
    let filled : IsFilled g b i u = subst (Rattle.cod_seg.specs.Sound.FillsTarget g b i) step.goal first in
    let whole = step.whole in
    filled held content x (omega (arith, whole, lt)))) where
      up_less : (log : List Entry) (stamp i node m : ℕ) → is_down (log ++ Up stamp i (node_id node) ∷ []) m ≡ true → is_down log m ≡ true
      up_less log stamp i node m d = by (eqb i m) (sym (is_down-push log (Up stamp i (node_id node)) m) ∙ d) where
        by : (x : Bool) → cond x false (is_down log m) ≡ true → is_down log m ≡ true
        by true q = cc
        by false q = q

up_to : (b : Bool) → true ≡ not b → b ≡ false
up_to true e = cc
up_to false e = refl

pub moves_keep : (s t : Seg) (i : ℕ) → i < s.site.shape.n → Sound s → Moves i s t → Sound t
moves_keep s t i below sound step =
    let g = s.site.shape in
    let b = bytes_of s.site s.log in
    let p = step.place in
    let mark : Entry = Move step.first i p.room.node in
    let mid = s.log ++ mark ∷ [] in
    let call : Asked = Drain (node_id (node_of s.site s.log i)) in
    let reply : Reply = Shifted i p.room.node in
    let e : Entry = Call step.caller step.number step.second call reply in
    let later = mid ++ e ∷ [] in
    let is = step.is in
    let column = sound.columns.each i below in
    let live : is_down s.log i ≡ false = up_to (is_down s.log i) (sym step.live ∙ column.up) in
    let unmarked : fault_of s.log i ≡ None = live_unmarked s.log i false None (λ q. refl) live in
    let same : bytes_of s.site later ≡ b = bytes_of-push s.site mid e ∙ bytes_of-push s.site s.log mark in
    let says : Arrives s.site s.log later i p.room.node.0 = two_say s.site s.log mark step.caller step.number step.second call reply i p.room.node.0
    (λ m d other. refl) (λ m x other. ap (λ (y : Bool). cond y p.room.node.0 x) (ne_eqb i m (λ q. other (sym q)))) (λ m f other. refl)
    live (ap (λ (x : Bool). cond x p.room.node.0 (node_of s.site s.log i)) (eq-eqb i i refl)) unmarked
    same refl in
    let mid_few : is_over s.site mid ≡ false = few_after s.site s.log mid (λ m d. sym (is_down-push s.log mark m) ∙ d) step.few in
    let idle = has_none step.caller.0 s.claims step.idle in
    let calm : t ≡ record s { cols = set s.cols i (placed_col g p); claims = without_marks i s.claims; log = later; rebuild = None } = step.becomes
    ∙ ap (λ (q : Option Rebuilding). record s { cols = set s.cols i (placed_col g p); claims = without_marks i s.claims; log = later; rebuild = q }) step.calm in
    rw calm (arrives_keep s later i p below sound says is step.few
    (chronicle-push mid e (chronicle-push s.log mark sound.history.chronicle step.follows tt) (follows_push s.log mark step.first step.second refl step.next)
    (own_numbers s.log mark step.caller.0 step.number refl step.newest))
    (subst (IsLegal s.site) (sym (append_assoc s.log (mark ∷ []) (e ∷ [])))
    (legal-pair s.site s.log mark e sound.history.legal
    (record { column = below; live = live; arrives = record { enough = step.few; there = is.known; free = free_node s.site s.log p.room.node.0 is.alone }; drain = (refl, refl) })
    (answer_served s.site mid call reply refl mid_few (let l = last_up s.log None mark in rw l refl))))
    (Each-append (IsFault s.frail) mid (e ∷ []) (Each-append (IsFault s.frail) s.log (mark ∷ []) sound.history.honest (tt, tt)) (tt, tt))
    (λ j c here. two_numbers s.site s.log mark step.caller step.number step.second call reply c.owner.0 refl (idle_other step.caller.0 s.claims j c idle here))
    step.copied)
