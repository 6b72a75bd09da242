-- What the steps on one column keep.
use Rattle.atomic_table.specs.Seated.{TableId}
use Rattle.cod_types.specs.Overwritten.{byte_of}
use Rattle.std.proofs.Common.{◌≡◌, ◌≢◌, ℕ, ◌+◌, ◌<◌, ◌≤◌, List, [], ◌∷◌, ◌++◌, length, set, Bool, true, false, refl, sym, ap, ◌∙◌, subst, inl, inr, bit_xor, arith, Some, None, Option}
use Rattle.std.specs.List.{All}
use Rattle.std.proofs.lemmas.Bool.{cases_eq, cases_lt, both_ways, eq-eqb}
use Rattle.std.proofs.lemmas.List.{get_or-set_same, get_or-set_other, length-set, get_or_default, get_or_past}
use Rattle.cod_types.specs.Limits.{Shape}
use Rattle.cod_types.specs.declared.call.Call.{Call as Asked}
use Rattle.cod_types.specs.declared.call.Call.TheVariants.{Read, Write, Swap, Put, Merge, Tick, Rebuild, Upgrade, Drain}
use Rattle.cod_types.specs.declared.call.Reply.TheVariants.{Done}
use Rattle.cod_code.specs.Segments.{column_byte}
use Rattle.cod_chronicle.specs.Legal.{IsPlain}
use Rattle.cod_chronicle.specs.declared.entry.Entry.{Entry}
use Rattle.cod_chronicle.specs.declared.entry.Entry.TheVariants.{Call}
use Rattle.cod_chronicle.specs.Said.{Site, bytes_of, numbers_by, call_count}
use Rattle.cod_chronicle.proofs.Growth.{bytes_of-push, chronicle-push, call_count-push}
use Rattle.cod_chronicle.proofs.Legality.{legal-push}
use Rattle.cod_chronicle.proofs.Orders.{Each-append}
use Rattle.cod_claims.specs.declared.claim.Claim.{Claim}
use Rattle.cod_claims.specs.Claimed.{claim_at, is_of, kept_of}
use Rattle.cod_data.specs.Values.{HasValue}
use Rattle.cod_parity.specs.Held.{Holds}
use Rattle.cod_parity.specs.State.{State}
use Rattle.cod_region.specs.Device.{Device}
use Rattle.cod_types.specs.declared.call.NodeId.{NodeId}
use Rattle.cod_parity.proofs.Unique.{held_again}
use Rattle.cod_seg.specs.Seg.{Col, col_at, no_col, Rebuilding, Seg}
use Rattle.cod_seg.specs.Sound.{AreColumns, FillsRebuild, HoldBytes, IsClaim, IsColumn, is_frail, IsFault, is_update, length_on, pending_on, Sound}
use Rattle.cod_seg.specs.Steps.{Answers, KeepsColumn, Works}
use Rattle.cod_seg.proofs.Telling.{call_says, columns_told, other_numbers, over_before, rebuild_told, SaysSame}

pub col_here : (cols : List Col) (i : ℕ) (c : Col) → i < length cols → col_at (set cols i c) i ≡ c
col_here cols i c below = get_or-set_same cols i c no_col below

pub col_there : (cols : List Col) (i m : ℕ) (c : Col) → m ≢ i → col_at (set cols i c) m ≡ col_at cols m
col_there cols i m c other = get_or-set_other cols i m c no_col other

-- the columns with another one in a place
pub columns_set : (site : Site) (frail : List ℕ) (pools : Option TableId) (log : List Entry) (cols : List Col) (i : ℕ) (c : Col) → i < site.shape.n → AreColumns site frail pools log cols
    → IsColumn site frail pools log i c → AreColumns site frail pools log (set cols i c)
columns_set site frail pools log cols i c below are is = record {
  size = length-set cols i c ∙ are.size;
  most = are.most;
  each = λ m lt. elim (cases_eq m i) [
    | inl here ↦ rw (here, col_here cols i c (let s = are.size in omega (arith, s, below))) is
    | inr there ↦ rw (col_there cols i m c there) (are.each m lt)
  ];
  apart = are.apart;
  known = are.known;
}

-- a data column's value, where the same is kept
pub kept_alike : (d : Device) (kept later value : ℕ → ℕ) → ((x : ℕ) → kept x ≡ later x) → HasValue d kept value → HasValue d later value
kept_alike d kept later value same has = record { held = has.held; told = has.told; each = λ x lt. has.each x lt ∙ ap (bit_xor (value x)) (same x) }

-- what they hold, where the claims have changed for this column alone
pub holds_set : (g : Shape) (b cuts : List ℕ) (claims later : List (Option Claim)) (cols : List Col) (i : ℕ) (c : Col) (rebuild next : Option Rebuilding) → i < length cols
    → HoldBytes g b cuts claims cols rebuild
    → ((m x : ℕ) → m ≢ i → byte_of (kept_of (claim_at claims m)) x ≡ byte_of (kept_of (claim_at later m)) x)
    → ((m j : ℕ) → m ≢ i → pending_on g.k claims m j ≡ pending_on g.k later m j)
    → (i < g.k → c.is_up ≡ true → HasValue c.state.device (byte_of (kept_of (claim_at later i))) (column_byte g.k g.block i b))
    → (g.k ≤ i → i < g.n → c.is_up ≡ true → Holds c.state cuts (column_byte g.k g.block i b) (pending_on g.k later i))
    → FillsRebuild g b next
    → HoldBytes g b cuts later (set cols i c) next
holds_set g b cuts claims later cols i c rebuild next inside holds kept pending block parity fills = record {
  blocks = λ m low. elim (cases_eq m i) [
    | inl here ↦ rw (here, col_here cols i c inside) (block (omega (arith, here, low)))
    | inr there ↦ rw (col_there cols i m c there) (λ live. kept_alike (col_at cols m).state.device (byte_of (kept_of (claim_at claims m))) (byte_of (kept_of (claim_at later m)))
        (column_byte g.k g.block m b) (λ x. kept m x there) (holds.blocks m low live))
  ];
  parities = λ m high below. elim (cases_eq m i) [
    | inl here ↦ rw (here, col_here cols i c inside) (parity (omega (arith, here, high)) (omega (arith, here, below)))
    | inr there ↦ rw (col_there cols i m c there) (λ live. held_again (col_at cols m).state cuts (column_byte g.k g.block m b) (column_byte g.k g.block m b) (pending_on g.k claims m)
        (pending_on g.k later m) (λ x w. refl) (λ j. pending m j there) (holds.parities m high below live))
  ];
  target = fills;
}

-- a column that was worked on
pub column_worked : (site : Site) (frail : List ℕ) (pools : Option TableId) (log : List Entry) (i : ℕ) (old new : Col) → KeepsColumn site.shape frail i old new → new.is_up ≡ old.is_up
    → new.state.device.faults ≡ old.state.device.faults
    → IsColumn site frail pools log i old → IsColumn site frail pools log i new
column_worked site frail pools log i old new keeps live faults is = record {
  there = ap (λ (n : NodeId). n.0) keeps.node ∙ is.there;
  owned = keeps.owned ∙ is.owned;
  up = live ∙ is.up;
  shape = keeps.shape ∙ is.shape;
  tells = keeps.tells ∙ is.tells;
  full = keeps.full;
  clean = λ u. faults ∙ is.clean (sym live ∙ u);
  marked = λ count e. faults ∙ is.marked count e;
  sure = λ f. keeps.never_fails ∙ is.sure (sym (ap (λ (n : NodeId). is_frail frail n.0) keeps.node) ∙ f);
  fits = keeps.fits is.fits;
  roomy = λ e. keeps.roomy e (is.roomy e);
  block = λ low. keeps.long low ∙ is.block low;
  plain = λ low. keeps.plain low ∙ ap (λ (s : State). record s { device = new.state.device }) (is.plain low);
  reserve = λ high. keeps.kept high (is.reserve high);
  exact = λ high u. keeps.exact high u (is.exact high (sym live ∙ u));
}

pub works_keep : (s t : Seg) (i : ℕ) → i < s.site.shape.n → Sound s → Works i s t → Sound t
works_keep s t i below sound step =
    let g = s.site.shape in
    let long = sound.columns.size in
    let inside : i < length s.cols = omega (arith, long, below) in
    rw step.becomes (record {
      shape = sound.shape;
      dated = sound.dated;
      history = sound.history;
      columns = columns_set s.site s.frail s.pools s.log s.cols i step.column below sound.columns
          (column_worked s.site s.frail s.pools s.log i (col_at s.cols i) step.column step.keeps step.live step.faults (sound.columns.each i below));
      cut = sound.cut;
      claimed = sound.claimed;
      rebuilt = sound.rebuilt;
      single = sound.single;
      holds = λ told enough.
          let old = sound.holds told enough in
          holds_set g (bytes_of s.site s.log) s.cuts s.claims s.claims s.cols i step.column s.rebuild s.rebuild inside old (λ m x o. refl) (λ m j o. refl)
          (λ low u. step.blocks low (byte_of (kept_of (claim_at s.claims i))) (column_byte g.k g.block i (bytes_of s.site s.log)) (old.blocks i low (sym step.live ∙ u)))
          (λ high lt u. step.parities high (column_byte g.k g.block i (bytes_of s.site s.log)) (pending_on g.k s.claims i) (old.parities i high lt (sym step.live ∙ u)))
          old.target;
    })

-- a claim among other claims, where its caller's numbers and the bytes are the same
pub claim_again : (site : Site) (log later : List Entry) (claims among : List (Option Claim)) (j : ℕ) (c : Claim) → numbers_by c.owner.0 later ≡ numbers_by c.owner.0 log
    → bytes_of site later ≡ bytes_of site log
    → ((m : ℕ) → m < site.shape.k → 1 ≤ length_on site.shape c.delta.call m → is_of c.owner.0 (claim_at among m) ≡ true)
    → IsClaim site log claims j c → IsClaim site later among j c
claim_again site log later claims among j c numbers same all is = record {
  among = is.among;
  newest = rw numbers is.newest;
  update = is.update;
  free = is.free;
  done = rw same is.done;
  part = is.part;
  some = is.some;
  from = is.from;
  bytes = is.bytes;
  size = is.size;
  delta = λ told. rw same (is.delta told);
  all = all;
}

pub claim_told : (site : Site) (log later : List Entry) (claims : List (Option Claim)) (j : ℕ) (c : Claim) → numbers_by c.owner.0 later ≡ numbers_by c.owner.0 log
    → bytes_of site later ≡ bytes_of site log
    → IsClaim site log claims j c → IsClaim site later claims j c
claim_told site log later claims j c numbers same is = claim_again site log later claims claims j c numbers same is.all is

-- that an update is done is so whichever bytes there are, where they aren't told
done_untold : (b d : List ℕ) (call : Asked) → is_update call ≡ true → IsPlain false b call Done → IsPlain false d call Done
done_untold b d (Read off len) update is = cc
done_untold b d (Write off bytes) update is = refl
done_untold b d (Swap off old new) update is = is
done_untold b d (Put bytes) update is = cc
done_untold b d Merge update is = cc
done_untold b d Tick update is = cc
done_untold b d Rebuild update is = cc
done_untold b d Upgrade update is = cc
done_untold b d (Drain node) update is = cc

done_again : (told : Bool) (b d : List ℕ) (call : Asked) → is_update call ≡ true → (told ≡ true → d ≡ b) → IsPlain told b call Done → IsPlain told d call Done
done_again true b d call update same is = rw (same refl) is
done_again false b d call update same is = done_untold b d call update is

-- a claim, where its caller's numbers are the same, and the bytes where they are told
claim_spoken : (site : Site) (log later : List Entry) (claims : List (Option Claim)) (j : ℕ) (c : Claim) → numbers_by c.owner.0 later ≡ numbers_by c.owner.0 log
    → (site.told ≡ true → bytes_of site later ≡ bytes_of site log)
    → IsClaim site log claims j c → IsClaim site later claims j c
claim_spoken site log later claims j c numbers same is = record {
  among = is.among;
  newest = rw numbers is.newest;
  update = is.update;
  free = is.free;
  done = done_again site.told (bytes_of site log) (bytes_of site later) c.delta.call is.update same is.done;
  part = is.part;
  some = is.some;
  from = is.from;
  bytes = is.bytes;
  size = is.size;
  delta = λ told. rw (same told) (is.delta told);
  all = is.all;
}

pub idle_other : (caller : ℕ) (claims : List (Option Claim)) (j : ℕ) (c : Claim) → ((m : ℕ) → is_of caller (claim_at claims m) ≡ false) → claim_at claims j ≡ Some c → caller ≢ c.owner.0
idle_other caller claims j c idle here e = both_ways (is_of caller (claim_at claims j)) (idle j) (ap (is_of caller) here ∙ eq-eqb c.owner.0 caller (sym e))

pub has_none : (caller : ℕ) (claims : List (Option Claim)) → All (λ c. is_of caller c ≡ false) claims → (m : ℕ) → is_of caller (claim_at claims m) ≡ false
has_none caller claims all m = elim (cases_lt m (length claims)) [
  | inl below ↦ all m None below
  | inr past ↦ ap (is_of caller) (get_or_past claims m None past)
]

pub of_each : (caller : ℕ) (claims : List (Option Claim)) → ((m : ℕ) → is_of caller (claim_at claims m) ≡ false) → All (λ c. is_of caller c ≡ false) claims
of_each caller claims each m d lt = subst (λ (o : Option Claim). is_of caller o ≡ false) (get_or_default claims m None d lt) (each m)

pub answers_keep : (s t : Seg) → Sound s → Answers s t → Sound t
answers_keep s t sound step =
    let e : Entry = Call step.caller step.number step.stamp step.call step.reply in
    let later = s.log ++ e ∷ [] in
    let says : SaysSame s.site s.log later = call_says s.site s.log step.caller step.number step.stamp step.call step.reply in
    let same : s.site.told ≡ true → bytes_of s.site later ≡ bytes_of s.site s.log = λ told. bytes_of-push s.site s.log e ∙ step.quiet told in
    let more : call_count later ≡ call_count s.log + 1 = call_count-push s.log e in
    let idle = has_none step.caller.0 s.claims step.idle in
    rw step.becomes (record {
      shape = sound.shape;
      dated = elim step.dated [
        | inl same ↦ (let v = sound.dated in record { first = rw same v.first; last = rw same v.last; second = λ two. v.second (sym same ∙ two) })
        | inr up ↦ (let two = up.1 in record { first = omega (arith, two); last = omega (arith, two); second = λ x. up.2 })
      ];
      history = record {
        chronicle = chronicle-push s.log e sound.history.chronicle step.follows step.newest;
        legal = legal-push s.site s.log e sound.history.legal step.answer;
        honest = Each-append (IsFault s.frail) s.log (e ∷ []) sound.history.honest (tt, tt);
        plain = rw (bytes_of-push s.site s.log e) (step.plain sound.history.plain);
      };
      columns = columns_told s.site s.frail s.pools s.log later s.cols says sound.columns;
      cut = record { size = sound.cut.size; each = λ j. let o = sound.cut.each j in omega (arith, o, more) };
      claimed = record {
        sixteen = sound.claimed.sixteen;
        each = λ j c here. claim_spoken s.site s.log later s.claims j c (other_numbers c.owner.0 s.log step.caller step.number step.stamp step.call step.reply
            (idle_other step.caller.0 s.claims j c idle here)) same (sound.claimed.each j c here);
      };
      rebuilt = rebuild_told s.site s.frail s.pools s.log later s.rebuild says sound.rebuilt;
      single = sound.single;
      holds = λ told enough. rw (same told) (sound.holds told (over_before s.site s.log later says enough));
    })
