-- What a caller's update does to the bytes, by its claims, and what it leaves of other callers' claims.
use Rattle.std.proofs.Common.{◌≡◌, ◌≢◌, ℕ, ◌+◌, ◌-◌, ◌*◌, ◌/◌, ◌%◌, ◌<◌, ◌≤◌, max, min, List, length, get_or, map, Bool, true, false, cond, refl, sym, ap, ◌∙◌, subst, inl, inr, bit_xor, arith, Some}
use Rattle.std.proofs.Common.{None, Option}
use Rattle.std.specs.Prelude.{bytes_eq}
use Rattle.std.specs.Int.Bits.{xor_zero_r}
use Rattle.std.proofs.Math.Nat.{mod-add-div, mul_comm}
use Rattle.std.proofs.lemmas.Nat.{mod_below, mul-le}
use Rattle.std.proofs.lemmas.List.{get_or-map, length-map}
use Rattle.std.proofs.lemmas.Bool.{cases_lt, eqb-true, both_ways, ne_eqb, eq-eqb}
use Rattle.cod_types.specs.Limits.{Shape, segment_length}
use Rattle.cod_types.specs.Overwritten.{byte_at, overwritten, byte_of}
use Rattle.cod_types.specs.Plain.{bytes_at, plain_next, refusal}
use Rattle.cod_types.specs.declared.call.Call.{Call as Asked}
use Rattle.cod_types.specs.declared.call.Call.TheVariants.{Read, Write, Swap, Put, Merge, Tick, Rebuild, Upgrade, Drain}
use Rattle.cod_types.specs.declared.call.Reply.TheVariants.{Done}
use Rattle.cod_types.proofs.Refusals.{swaps_update}
use Rattle.cod_types.proofs.Replaced.{get_or-overwritten, length-overwritten}
use Rattle.cod_layout.specs.declared.parts.Part.{Part}
use Rattle.cod_layout.specs.Parts.{length_in, place_of}
use Rattle.cod_code.specs.Codewords.{AreBytes}
use Rattle.cod_chronicle.specs.Legal.{IsPlain}
use Rattle.cod_chronicle.specs.Said.{Site, bytes_of, numbers_by}
use Rattle.cod_chronicle.specs.declared.entry.Entry.{Entry}
use Rattle.cod_claims.specs.Changes.{IsDelta, new_bytes, new_in}
use Rattle.cod_claims.specs.declared.claim.Claim.{Claim}
use Rattle.cod_claims.specs.Claimed.{AreClaims, claim_at, delta_of, HasNone, is_of, released, without_claims}
use Rattle.cod_claims.proofs.Claiming.{kept_by_each, released_keeps}
use Rattle.cod_seg.specs.Sound.{AreOpen, begin_of, is_update, IsClaim, length_on}
use Rattle.cod_seg.specs.Steps.{own_byte}
use Rattle.cod_seg.proofs.Raising.{claim_left}
use Rattle.cod_seg.proofs.Updates.{accepted, bytes_replaced, no_part_stays, part_changes, range_same}

-- what is the caller's isn't another's
pub apart : (caller other : ℕ) (o : Option Claim) → caller ≢ other → is_of caller o ≡ true → is_of other o ≡ false
apart caller other None differ own = cc
apart caller other (Some c) differ own = let e = eqb-true c.owner.0 caller own in ne_eqb c.owner.0 other (λ f. differ (sym e ∙ f))

pub own_none : (caller : ℕ) (claims : List (Option Claim)) (x j : ℕ) → is_of caller (claim_at claims j) ≡ false → own_byte caller claims x j ≡ 0
own_none caller claims x j other = rw other refl

-- The caller's claims are for this update, one for each block that it meets, and it lies in the segment.
pub record IsUpdateOf (site : Site) (claims : List (Option Claim)) (caller : ℕ) (call : Asked) : Type 0 where
  pub each : (j : ℕ) (c : Claim) → claim_at claims j ≡ Some c → is_of caller (Some c) ≡ true → c.delta.call ≡ call
  pub all : (m : ℕ) → m < site.shape.k → 1 ≤ length_on site.shape call m → is_of caller (claim_at claims m) ≡ true
  pub within : begin_of call + length (new_bytes call) ≤ segment_length site.shape

pub update_of : (site : Site) (log : List Entry) (claims : List (Option Claim)) (j : ℕ) (c : Claim) → AreOpen site log claims → claim_at claims j ≡ Some c
    → IsUpdateOf site claims c.owner.0 c.delta.call
update_of site log claims j c are here =
    let is = are.each j c here in
    record {
      each = λ m d there own. (are.sixteen.one_call m j d c there here (eqb-true d.owner.0 c.owner.0 own)).1;
      all = is.all;
      within = (accepted site.shape c.delta.call is.update is.free).inside;
    }

-- the place of a part
part_place : (block : ℕ) (p q : Part) → p ≡ q → place_of block p ≡ place_of block q
part_place block p q e = ap (place_of block) e

-- in the block of a claim, its update replaces the bytes by those with the delta added
claim_changes : (site : Site) (log : List Entry) (claims : List (Option Claim)) (j x : ℕ) (c : Claim) → site.told ≡ true → x < site.shape.block → IsClaim site log claims j c
    → byte_at (j * site.shape.block + x) (get_or (bytes_of site log) (j * site.shape.block + x) 0) (begin_of c.delta.call) (new_bytes c.delta.call)
    ≡ bit_xor (get_or (bytes_of site log) (j * site.shape.block + x) 0) (byte_at x 0 c.delta.part.off c.delta.bytes)
claim_changes site log claims j x c told inside is =
    let block = site.shape.block in
    let at_block : c.delta.part.block ≡ j = ap (λ (p : Part). p.block) is.part in
    let off : c.delta.part.off ≡ max (begin_of c.delta.call) (j * block) - j * block = ap (λ (p : Part). p.off) is.part in
    let len : c.delta.part.len ≡ min (begin_of c.delta.call + length (new_bytes c.delta.call)) (j * block + block) - max (begin_of c.delta.call) (j * block) = ap (λ (p : Part). p.len) is.part in
    let place : place_of block c.delta.part ≡ j * block + c.delta.part.off = ap (λ (n : ℕ). n * block + c.delta.part.off) at_block in
    let delta : IsDelta (bytes_at (bytes_of site log) (j * block + c.delta.part.off) c.delta.part.len) (bytes_at (new_bytes c.delta.call) c.delta.at c.delta.part.len) c.delta.bytes =
    subst (λ (n : ℕ). IsDelta (bytes_at (bytes_of site log) n c.delta.part.len) (new_in c.delta) c.delta.bytes) place (is.delta told) in
    part_changes (bytes_of site log) (new_bytes c.delta.call) c.delta.bytes (begin_of c.delta.call) (j * block) block x c.delta.part.off c.delta.part.len c.delta.at
    inside off len is.some (is.from ∙ place) delta is.size

-- where a block isn't the caller's, its bytes stay
not_own : (site : Site) (claims : List (Option Claim)) (caller : ℕ) (call : Asked) (j x old : ℕ) → x < site.shape.block → j < site.shape.k → IsUpdateOf site claims caller call
    → is_of caller (claim_at claims j) ≡ false → byte_at (j * site.shape.block + x) old (begin_of call) (new_bytes call) ≡ old
not_own site claims caller call j x old inside below up other = elim (cases_lt 0 (length_on site.shape call j)) [
  | inl some ↦ absurd (both_ways (is_of caller (claim_at claims j)) other (up.all j below some))
  | inr none ↦ no_part_stays (begin_of call) (length (new_bytes call)) (j * site.shape.block) site.shape.block x old (new_bytes call) inside refl none
]

-- place by place, the update adds what the caller's claims have there
pub update_adds : (site : Site) (log : List Entry) (claims : List (Option Claim)) (caller : ℕ) (call : Asked) (j x : ℕ) → site.told ≡ true → AreOpen site log claims
    → IsUpdateOf site claims caller call
    → length (bytes_of site log) ≡ segment_length site.shape → j < site.shape.k → x < site.shape.block
    → get_or (overwritten (begin_of call) (new_bytes call) (bytes_of site log)) (j * site.shape.block + x) 0
    ≡ bit_xor (get_or (bytes_of site log) (j * site.shape.block + x) 0) (own_byte caller claims x j)
update_adds site log claims caller call j x told are up size below inside =
    let b = bytes_of site log in
    let p = j * site.shape.block + x in
    let old = get_or b p 0 in
    let first : get_or (overwritten (begin_of call) (new_bytes call) b) p 0 ≡ byte_at p old (begin_of call) (new_bytes call) =
    get_or-overwritten (begin_of call) (new_bytes call) b p (omega (arith, size, up.within)) in
    let stays : is_of caller (claim_at claims j) ≡ false → byte_at p old (begin_of call) (new_bytes call) ≡ bit_xor old (own_byte caller claims x j) = λ other.
    not_own site claims caller call j x old inside below up other ∙ sym (ap (bit_xor old) (own_none caller claims x j other) ∙ xor_zero_r old) in
    first ∙ go (claim_at claims j) refl (is_of caller (claim_at claims j)) refl stays where
      go : (o : Option Claim) → claim_at claims j ≡ o → (t : Bool) → is_of caller (claim_at claims j) ≡ t
          → (is_of caller (claim_at claims j) ≡ false → byte_at (j * site.shape.block + x) (get_or (bytes_of site log) (j * site.shape.block + x) 0) (begin_of call) (new_bytes call)
          ≡ bit_xor (get_or (bytes_of site log) (j * site.shape.block + x) 0) (own_byte caller claims x j))
          → byte_at (j * site.shape.block + x) (get_or (bytes_of site log) (j * site.shape.block + x) 0) (begin_of call) (new_bytes call)
          ≡ bit_xor (get_or (bytes_of site log) (j * site.shape.block + x) 0) (own_byte caller claims x j)
      go o e false own stays = stays own
      go None e true own stays = absurd (both_ways (is_of caller (claim_at claims j)) (ap (is_of caller) e) own)
      go (Some c) e true own stays =
          let mine : is_of caller (Some c) ≡ true = sym (ap (is_of caller) e) ∙ own in
          let same = up.each j c e mine in
          let has : own_byte caller claims x j ≡ byte_at x 0 c.delta.part.off c.delta.bytes = rw own (ap (λ (o : Option Claim). byte_of (delta_of o) x) e) in
          rw (has, ← same) (claim_changes site log claims j x c told inside (are.each j c e))

-- a place of the segment is a place of one of its blocks
record InBlock (k block p : ℕ) : Type 0 where
  j : ℕ
  x : ℕ
  below : j < k
  inside : x < block
  is : p ≡ j * block + x

in_block : (k block p : ℕ) → 1 ≤ block → p < k * block → InBlock k block p
in_block k block p some lt =
    let e = mod-add-div p block in
    let c : block * (p / block) ≡ p / block * block = mul_comm block (p / block) in
    record {
      j = p / block;
      x = p % block;
      below = elim (cases_lt (p / block) k) [
        | inl fine ↦ fine
        | inr over ↦ absurd (let m = mul-le k block (p / block) block over (omega arith) in omega (arith, e, c, m, lt))
      ];
      inside = mod_below p block some;
      is = omega (arith, e, c);
    }

-- the caller's update leaves the bytes of a range of which no block is the caller's
pub range_stays : (site : Site) (claims : List (Option Claim)) (caller : ℕ) (call : Asked) (b : List ℕ) (off len : ℕ) → 1 ≤ site.shape.block → IsUpdateOf site claims caller call
    → length b ≡ segment_length site.shape → off + len ≤ segment_length site.shape
    → ((j : ℕ) → j < site.shape.k → 1 ≤ length_in site.shape.block off len j → is_of caller (claim_at claims j) ≡ false)
    → bytes_at (overwritten (begin_of call) (new_bytes call) b) off len ≡ bytes_at b off len
range_stays site claims caller call b off len some up size within others =
    range_same b (overwritten (begin_of call) (new_bytes call) b) off len (length-overwritten (begin_of call) (new_bytes call) b (omega (arith, size, up.within)))
    (λ p low high.
    let h = in_block site.shape.k site.shape.block p some (omega (arith, within, high)) in
    let other : is_of caller (claim_at claims h.j) ≡ false = others h.j h.below (let e = h.is in let i = h.inside in omega (arith, e, i, low, high)) in
    get_or-overwritten (begin_of call) (new_bytes call) b p (omega (arith, size, up.within))
    ∙ ap (λ (q : ℕ). byte_at q (get_or b p 0) (begin_of call) (new_bytes call)) h.is
    ∙ not_own site claims caller call h.j h.x (get_or b p 0) h.inside h.below up other)

-- where the bytes of an update's range are the same, it is answered Done again
pub done_again : (g : Shape) (told : Bool) (b after : List ℕ) (call : Asked) → is_update call ≡ true → refusal g call ≡ None
    → (told ≡ true → bytes_at after (begin_of call) (length (new_bytes call)) ≡ bytes_at b (begin_of call) (length (new_bytes call)))
    → IsPlain told b call Done → IsPlain told after call Done
done_again g told b after (Read off len) u r same is = cc
done_again g true b after (Write off bytes) u r same is = refl
done_again g false b after (Write off bytes) u r same is = refl
done_again g true b after (Swap off old new) u r same is =
    let l = sym (swaps_update g off old new r).same in
    let e : bytes_at after off (length old) ≡ bytes_at b off (length old) = rw l (same refl) in
    rw e is
done_again g false b after (Swap off old new) u r same is = is
done_again g told b after (Put bytes) u r same is = cc
done_again g told b after Merge u r same is = cc
done_again g told b after Tick u r same is = cc
done_again g told b after Rebuild u r same is = cc
done_again g told b after Upgrade u r same is = cc
done_again g told b after (Drain node) u r same is = cc

-- where each claim stays another's, who had none has none
pub none_mapped : (who : ℕ) (f : Option Claim → Option Claim) → f None ≡ None → ((o : Option Claim) → is_of who o ≡ false → is_of who (f o) ≡ false) → (claims : List (Option Claim))
    → HasNone who claims → HasNone who (map f claims)
none_mapped who f none keeps claims has m d lt =
    let size = length-map claims f in
    let at : m < length claims = omega (arith, lt, size) in
    rw (get_or-map f claims m None d at) (keeps (get_or claims m None) (has m None at))

-- what is left of the claims where the caller's are gone
pub left_claim : (caller : ℕ) (o : Option Claim) (c : Claim) → released caller o ≡ Some c → (o ≡ Some c) × (is_of caller o ≡ false)
left_claim caller None c e = cc
left_claim caller (Some d) c e = by (is_of caller (Some d)) refl e where
  by : (t : Bool) → is_of caller (Some d) ≡ t → cond t None (Some d) ≡ Some c → (Some d ≡ Some c) × (is_of caller (Some d) ≡ false)
  by true f e = cc
  by false f e = (e, f)

pub left_at : (caller : ℕ) (claims : List (Option Claim)) (j : ℕ) (c : Claim) → claim_at (without_claims caller claims) j ≡ Some c
    → (claim_at claims j ≡ Some c) × (is_of caller (claim_at claims j) ≡ false)
left_at caller claims j c e = left_claim caller (claim_at claims j) c (sym (claim_left caller claims j) ∙ e)

-- who had no claim has none
pub none_left : (who caller : ℕ) (claims : List (Option Claim)) → HasNone who claims → HasNone who (without_claims caller claims)
none_left who caller claims none = none_mapped who (released caller) refl (λ o e. by o (is_of caller o) e) claims none where
  by : (o : Option Claim) (t : Bool) → is_of who o ≡ false → is_of who (cond t None o) ≡ false
  by o true e = refl
  by o false e = e

pub claims_left : (caller : ℕ) (claims : List (Option Claim)) → AreClaims claims → AreClaims (without_claims caller claims)
claims_left caller claims are = kept_by_each (released caller) refl (released_keeps caller) claims are

-- another caller's claim is still as it has to be after the caller's update
pub claim_stays : (site : Site) (log later : List Entry) (claims : List (Option Claim)) (caller : ℕ) (call : Asked) (j : ℕ) (c : Claim) → 1 ≤ site.shape.block → IsUpdateOf site claims caller call
    → length (bytes_of site log) ≡ segment_length site.shape
    → (site.told ≡ true → bytes_of site later ≡ overwritten (begin_of call) (new_bytes call) (bytes_of site log))
    → numbers_by c.owner.0 later ≡ numbers_by c.owner.0 log
    → claim_at claims j ≡ Some c → is_of caller (claim_at claims j) ≡ false → IsClaim site log claims j c → IsClaim site later (without_claims caller claims) j c
claim_stays site log later claims caller call j c some up size says numbers here other is =
    let b = bytes_of site log in
    let block = site.shape.block in
    let not_caller : c.owner.0 ≢ caller = λ e. both_ways (is_of caller (claim_at claims j)) other (ap (is_of caller) here ∙ eq-eqb c.owner.0 caller e) in
    let others : (m : ℕ) → m < site.shape.k → 1 ≤ length_on site.shape c.delta.call m
    → is_of caller (claim_at claims m) ≡ false = λ m lt l. apart c.owner.0 caller (claim_at claims m) not_caller (is.all m lt l) in
    let within = (accepted site.shape c.delta.call is.update is.free).inside in
    let stays : (off len : ℕ) → begin_of c.delta.call ≤ off → off + len ≤ begin_of c.delta.call + length (new_bytes c.delta.call) → site.told ≡ true
    → bytes_at (bytes_of site later) off len ≡ bytes_at b off len = λ off len low high told.
    ap (λ (l : List ℕ). bytes_at l off len) (says told)
    ∙ range_stays site claims caller call b off len some up size (omega (arith, within, high))
    (λ m lt l. others m lt (omega (arith, low, high, l))) in
    let at_block : c.delta.part.block ≡ j = ap (λ (p : Part). p.block) is.part in
    let off : c.delta.part.off ≡ max (begin_of c.delta.call) (j * block) - j * block = ap (λ (p : Part). p.off) is.part in
    let len : c.delta.part.len ≡ min (begin_of c.delta.call + length (new_bytes c.delta.call)) (j * block + block) - max (begin_of c.delta.call) (j * block) = ap (λ (p : Part). p.len) is.part in
    let place : place_of block c.delta.part ≡ j * block + c.delta.part.off = ap (λ (n : ℕ). n * block + c.delta.part.off) at_block in
    let enough = is.some in
    record {
      among = is.among;
      newest = rw numbers is.newest;
      update = is.update;
      free = is.free;
      done = done_again site.shape site.told b (bytes_of site later) c.delta.call is.update is.free
          (stays (begin_of c.delta.call) (length (new_bytes c.delta.call)) (omega arith) (omega arith)) is.done;
      part = is.part;
      some = is.some;
      from = is.from;
      bytes = is.bytes;
      size = is.size;
      delta = λ told. rw (stays (place_of block c.delta.part) c.delta.part.len (omega (arith, place, off, len)) (omega (arith, place, off, len, enough)) told) (is.delta told);
      all = λ m lt l. rw (claim_left caller claims m, others m lt l) (is.all m lt l);
    }

-- bytes after an update are bytes
pub next_bytes : (g : Shape) (b : List ℕ) (call : Asked) → is_update call ≡ true → begin_of call + length (new_bytes call) ≤ length b → AreBytes (new_bytes call) → AreBytes b
    → AreBytes (plain_next b call)
next_bytes g b (Read off len) u within hn hb = cc
next_bytes g b (Write off bytes) u within hn hb = bytes_replaced off bytes b within hn hb
next_bytes g b (Swap off old new) u within hn hb = either (bytes_eq (bytes_at b off (length old)) old) where
  either : (t : Bool) → AreBytes (cond t (overwritten off new b) b)
  either true = bytes_replaced off new b within hn hb
  either false = hb
next_bytes g b (Put bytes) u within hn hb = cc
next_bytes g b Merge u within hn hb = cc
next_bytes g b Tick u within hn hb = cc
next_bytes g b Rebuild u within hn hb = cc
next_bytes g b Upgrade u within hn hb = cc
next_bytes g b (Drain node) u within hn hb = cc
