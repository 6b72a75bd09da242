-- What a commit keeps.
use Rattle.atomic_table.specs.Seated.{TableId}
use Rattle.std.proofs.Common.{◌≡◌, ℕ, ◌+◌, ◌*◌, ◌<◌, ◌≤◌, List, [], ◌∷◌, ◌++◌, length, get_or, Bool, true, false, cond, refl, sym, ap, ap₂, ◌∙◌, subst, bit_xor, arith, Some, None, Option}
use Rattle.std.specs.Prelude.{is_some}
use Rattle.std.specs.List.{All}
use Rattle.std.specs.Int.Bits.{xor_zero_r}
use Rattle.std.proofs.lemmas.Bool.{both_ways, eq-eqb}
use Rattle.cod_types.specs.Limits.{Shape, segment_length}
use Rattle.cod_types.specs.Overwritten.{overwritten, byte_of}
use Rattle.cod_types.specs.Plain.{plain_next, refusal}
use Rattle.cod_types.specs.declared.call.Call.{Call as Asked}
use Rattle.cod_types.specs.declared.call.Call.TheVariants.{Read, Write, Swap, Put, Merge, Tick, Rebuild, Upgrade, Drain}
use Rattle.cod_types.specs.declared.call.Reply.{Reply}
use Rattle.cod_types.specs.declared.call.Reply.TheVariants.{Done}
use Rattle.cod_code.specs.Codewords.{AreBytes}
use Rattle.cod_code.specs.Segments.{column_byte}
use Rattle.cod_code.proofs.Segments.{data_byte}
use Rattle.cod_chronicle.specs.declared.entry.Entry.{Entry}
use Rattle.cod_chronicle.specs.declared.entry.Entry.TheVariants.{Call}
use Rattle.cod_chronicle.specs.Said.{Site, bytes_of, numbers_by, call_count}
use Rattle.cod_chronicle.specs.Legal.{IsPlain, IsServed}
use Rattle.cod_chronicle.proofs.Answering.{answer_served}
use Rattle.cod_chronicle.proofs.Bytes_kept.{keeps_length}
use Rattle.cod_chronicle.proofs.Growth.{bytes_of-push, chronicle-push, call_count-push}
use Rattle.cod_chronicle.proofs.Legality.{legal-push}
use Rattle.cod_chronicle.proofs.Orders.{Each-append}
use Rattle.cod_claims.specs.Changes.{new_bytes}
use Rattle.cod_claims.specs.declared.claim.Claim.{Claim}
use Rattle.cod_claims.specs.Claimed.{claim_at, delta_of, is_applied, is_of, kept_of, released, without_claims}
use Rattle.cod_parity.proofs.Unique.{held_again}
use Rattle.cod_seg.specs.Seg.{col_at, Rebuilding, Seg, Target}
use Rattle.cod_seg.specs.Sound.{AreOpen, begin_of, FillsRebuild, FillsTarget, HasTarget, IsClaim, IsFault, IsFilled, IsRebuilding, IsSingle, IsTarget, is_update, MayRebuild, pending_on, Sound}
use Rattle.cod_seg.specs.Steps.{added_to, Commits, Corrects, CorrectsTarget, IsCorrected, own_byte, raised_to}
use Rattle.cod_seg.proofs.Sums.{column_adds}
use Rattle.cod_seg.proofs.Raising.{claim_left, length-raised, parity_commits, raised_most}
use Rattle.cod_seg.proofs.Updates.{update_next}
use Rattle.cod_seg.proofs.Telling.{call_says, columns_told, other_numbers, rebuild_told, SaysSame, target_written}
use Rattle.cod_seg.proofs.Claims.{claim_stays, claims_left, IsUpdateOf, left_at, next_bytes, none_left, update_adds, update_of}

-- an update is served as a plain segment does
served_update : (site : Site) (before : List Entry) (call : Asked) (reply : Reply) → is_update call ≡ true → IsPlain site.told (bytes_of site before) call reply → IsServed site before call reply
served_update site before (Read off len) reply u is = cc
served_update site before (Write off bytes) reply u is = is
served_update site before (Swap off old new) reply u is = is
served_update site before (Put bytes) reply u is = cc
served_update site before Merge reply u is = cc
served_update site before Tick reply u is = cc
served_update site before Rebuild reply u is = cc
served_update site before Upgrade reply u is = cc
served_update site before (Drain node) reply u is = cc

-- no block behind the data columns is claimed
none_behind : (site : Site) (log : List Entry) (claims : List (Option Claim)) (caller m : ℕ) → AreOpen site log claims → site.shape.k ≤ m → is_of caller (claim_at claims m) ≡ false
none_behind site log claims caller m are above = go (claim_at claims m) refl where
  go : (o : Option Claim) → claim_at claims m ≡ o → is_of caller (claim_at claims m) ≡ false
  go None e = ap (is_of caller) e
  go (Some c) e = (let is = are.each m c e in let a = is.among in absurd (omega (arith, a, above)))

-- what a data column holds is its new bytes, with what other callers' claims have applied
block_left : (caller x v : ℕ) (o : Option Claim) → (is_of caller o ≡ true → is_applied o ≡ true)
    → bit_xor v (byte_of (kept_of o) x) ≡ bit_xor (bit_xor v (cond (is_of caller o) (byte_of (delta_of o) x) 0)) (byte_of (kept_of (released caller o)) x)
block_left caller x v None ready = ap (λ (z : ℕ). bit_xor z 0) (sym (xor_zero_r v))
block_left caller x v (Some c) ready = by (is_of caller (Some c)) refl where
  by : (t : Bool) → is_of caller (Some c) ≡ t
      → bit_xor v (byte_of (kept_of (Some c)) x) ≡ bit_xor (bit_xor v (cond t (byte_of (delta_of (Some c)) x) 0)) (byte_of (kept_of (cond t None (Some c))) x)
  by true own =
      let e : byte_of (kept_of (Some c)) x ≡ byte_of (delta_of (Some c)) x = rw (ready own) refl in
      ap (bit_xor v) e ∙ sym (xor_zero_r (bit_xor v (byte_of (delta_of (Some c)) x)))
  by false other = ap (λ (z : ℕ). bit_xor z (byte_of (kept_of (Some c)) x)) (sym (xor_zero_r v))

-- a corrected target is one still
target_corrected : (site : Site) (frail : List ℕ) (pools : Option TableId) (log : List Entry) (k col caller : ℕ) (claims : List (Option Claim)) (o new : Option Target)
    → CorrectsTarget k col caller claims o new
    → HasTarget site frail pools log col o → HasTarget site frail pools log col new
target_corrected site frail pools log k col caller claims None new is t = rw is tt
target_corrected site frail pools log k col caller claims (Some t) new is goal = rw is.1 (target_written site frail pools log col t is.0 is.2.keeps goal)

rebuild_corrected : (site : Site) (frail : List ℕ) (pools : Option TableId) (log : List Entry) (k caller : ℕ) (claims : List (Option Claim)) (o new : Option Rebuilding)
    → Corrects k caller claims o new
    → MayRebuild site frail pools log o → MayRebuild site frail pools log new
rebuild_corrected site frail pools log k caller claims None new is m = rw is tt
rebuild_corrected site frail pools log k caller claims (Some r) new is m = rw is.1 (record {
  column = m.column;
  down = m.down;
  honest = m.honest;
  goal = target_corrected site frail pools log k r.col caller claims r.target is.0 is.2 m.goal;
})

-- whose caller has no claim still
single_corrected : (k caller : ℕ) (claims : List (Option Claim)) (o new : Option Rebuilding) → Corrects k caller claims o new → IsSingle claims o → IsSingle (without_claims caller claims) new
single_corrected k caller claims None new is single = rw is tt
single_corrected k caller claims (Some r) new is single = rw is.1 (none_left r.caller caller claims single)

-- and has the new bytes of its column
target_byte : (g : Shape) (b after : List ℕ) (col caller : ℕ) (claims : List (Option Claim)) (t u : Target) → IsCorrected g.k col caller claims t u → t.filled ≤ g.block
    → ((x : ℕ) → x < g.block → column_byte g.k g.block col after x ≡ bit_xor (column_byte g.k g.block col b x) (added_to g.k g.k col caller claims x))
    → IsFilled g b col t → (o : Option (List ℕ)) → t.device.content ≡ o → (held : List ℕ) → u.device.content ≡ Some held → (x : ℕ) → x < t.filled
    → get_or held x 0 ≡ column_byte g.k g.block col after x
target_byte g b after col caller claims t u c most adds f None e held told x lt =
    let a : is_some t.device.content ≡ true = sym c.keeps.tells ∙ ap is_some told in
    absurd (both_ways (is_some t.device.content) (ap is_some e) a)
target_byte g b after col caller claims t u c most adds f (Some before) e held told x lt =
    c.bytes before held e told x lt ∙ ap (λ (z : ℕ). bit_xor z (added_to g.k g.k col caller claims x)) (f before e x lt) ∙ sym (adds x (omega (arith, lt, most)))

target_filled : (g : Shape) (b after : List ℕ) (col caller : ℕ) (claims : List (Option Claim)) (o new : Option Target) → CorrectsTarget g.k col caller claims o new
    → ((t : Target) → o ≡ Some t → t.filled ≤ g.block)
    → ((x : ℕ) → x < g.block → column_byte g.k g.block col after x ≡ bit_xor (column_byte g.k g.block col b x) (added_to g.k g.k col caller claims x))
    → FillsTarget g b col o → FillsTarget g after col new
target_filled g b after col caller claims None new is within adds f = rw is tt
target_filled g b after col caller claims (Some t) new is within adds f =
    let filled : is.0.filled ≡ t.filled = ap (λ (v : Target). v.filled) is.2.keeps.same in
    rw is.1 (λ held told x lt. target_byte g b after col caller claims t is.0 is.2 (within t refl) adds f t.device.content refl held told x (omega (arith, filled, lt)))

rebuild_filled : (g : Shape) (b after : List ℕ) (caller : ℕ) (claims : List (Option Claim)) (o new : Option Rebuilding) → Corrects g.k caller claims o new
    → ((r : Rebuilding) (t : Target) → o ≡ Some r → r.target ≡ Some t → t.filled ≤ g.block)
    → ((i x : ℕ) → x < g.block → column_byte g.k g.block i after x ≡ bit_xor (column_byte g.k g.block i b x) (added_to g.k g.k i caller claims x))
    → FillsRebuild g b o → FillsRebuild g after new
rebuild_filled g b after caller claims None new is within adds f = rw is tt
rebuild_filled g b after caller claims (Some r) new is within adds f = rw is.1 (target_filled g b after r.col caller claims r.target is.0 is.2 (λ t e. within r t refl e) (adds r.col) f)

filled_most : (site : Site) (frail : List ℕ) (pools : Option TableId) (log : List Entry) (o : Option Rebuilding) → MayRebuild site frail pools log o → (r : Rebuilding) (t : Target) → o ≡ Some r
    → r.target ≡ Some t → t.filled ≤ site.shape.block
filled_most site frail pools log o m r t e f =
    let is : IsRebuilding site frail pools log r = subst (MayRebuild site frail pools log) e m in
    let goal : IsTarget site frail pools log r.col t = subst (HasTarget site frail pools log r.col) f is.goal in
    goal.within

pub commit_keeps : (s t : Seg) → Sound s → Commits s t → Sound t
commit_keeps s t sound step =
    let g = s.site.shape in
    let b = bytes_of s.site s.log in
    let call = step.call in
    let caller = step.caller.0 in
    let e : Entry = Call step.caller step.number step.stamp step.call Done in
    let later = s.log ++ e ∷ [] in
    let after = bytes_of s.site later in
    let says : SaysSame s.site s.log later = call_says s.site s.log step.caller step.number step.stamp step.call Done in
    let is : IsClaim s.site s.log s.claims step.block step.claim = sound.claimed.each step.block step.claim step.there in
    let up : IsUpdateOf s.site s.claims caller call =
    subst (λ (c : Asked). IsUpdateOf s.site s.claims caller c) step.asked
    (subst (λ (n : ℕ). IsUpdateOf s.site s.claims n step.claim.delta.call) step.owner (update_of s.site s.log s.claims step.block step.claim sound.claimed step.there)) in
    let update : is_update call ≡ true = subst (λ (c : Asked). is_update c ≡ true) step.asked is.update in
    let free : refusal g call ≡ None = subst (λ (c : Asked). refusal g c ≡ None) step.asked is.free in
    let done : IsPlain s.site.told b call Done = subst (λ (c : Asked). IsPlain s.site.told b c Done) step.asked is.done in
    let fresh : AreBytes (new_bytes call) = subst (λ (c : Asked). AreBytes (new_bytes c)) step.asked is.bytes in
    let newest : All (λ m. m < step.number) (numbers_by caller s.log) =
    subst (λ (n : ℕ). All (λ m. m < n) (numbers_by caller s.log)) step.numbered (subst (λ (n : ℕ). All (λ m. m < step.claim.number) (numbers_by n s.log)) step.owner is.newest) in
    let size : length b ≡ segment_length g = keeps_length s.site s.log sound.history.legal in
    let next : after ≡ plain_next b call = bytes_of-push s.site s.log e in
    let bytes : AreBytes after = rw next (next_bytes g b call update (let w = up.within in omega (arith, w, size)) fresh sound.history.plain) in
    let replaced : s.site.told ≡ true → after ≡ overwritten (begin_of call) (new_bytes call) b = λ told.
    next ∙ update_next b call update (subst (λ (t : Bool). IsPlain t b call Done) told done) in
    let adds : s.site.told ≡ true → (j x : ℕ) → j < g.k → x < g.block → get_or after (j * g.block + x) 0 ≡ bit_xor (get_or b (j * g.block + x) 0) (own_byte caller s.claims x j) =
    λ told j x below inside.
    ap (λ (l : List ℕ). get_or l (j * g.block + x) 0) (replaced told) ∙ update_adds s.site s.log s.claims caller call j x told sound.claimed up size below inside in
    let changes : s.site.told ≡ true → (i x : ℕ) → x < g.block → column_byte g.k g.block i after x ≡ bit_xor (column_byte g.k g.block i b x) (added_to g.k g.k i caller s.claims x) =
    λ told i x inside.
    column_adds g.k g.block i caller s.claims b after x sound.history.plain bytes (λ j below. adds told j x below inside) in
    let few : g.k ≤ 16 = let n = sound.shape.most_columns in let m = sound.shape.data_among_columns in omega (arith, n, m) in
    let cuts_long = sound.cut.size in
    let room : g.k ≤ length s.cuts = omega (arith, few, cuts_long) in
    let more : call_count later ≡ call_count s.log + 1 = call_count-push s.log e in
    let same_rebuild = rebuild_corrected s.site s.frail s.pools later g.k caller s.claims s.rebuild t.rebuild step.corrects
    (rebuild_told s.site s.frail s.pools s.log later s.rebuild says sound.rebuilt) in
    rw step.becomes (record {
      shape = sound.shape;
      dated = sound.dated;
      history = record {
        chronicle = chronicle-push s.log e sound.history.chronicle step.follows newest;
        legal = legal-push s.site s.log e sound.history.legal (answer_served s.site s.log call Done free step.enough (served_update s.site s.log call Done update done));
        honest = Each-append (IsFault s.frail) s.log (e ∷ []) sound.history.honest (tt, tt);
        plain = bytes;
      };
      columns = columns_told s.site s.frail s.pools s.log later s.cols says sound.columns;
      cut = record {
        size = length-raised g.k caller s.claims s.cuts ∙ cuts_long;
        each = λ j. let m = raised_most g.k caller s.claims s.cuts j room in let o = sound.cut.each j in omega (arith, m, o, more);
      };
      claimed = record {
        sixteen = claims_left caller s.claims sound.claimed.sixteen;
        each = λ j c f.
            let l = left_at caller s.claims j c f in
            let numbers = other_numbers c.owner.0 s.log step.caller step.number step.stamp step.call Done
            (λ same. both_ways (is_of caller (claim_at s.claims j)) l.1 (ap (is_of caller) l.0 ∙ eq-eqb c.owner.0 caller (sym same))) in
            claim_stays s.site s.log later s.claims caller call j c sound.shape.some_bytes up size replaced numbers l.0 l.1 (sound.claimed.each j c l.0);
      };
      rebuilt = same_rebuild;
      single = single_corrected g.k caller s.claims s.rebuild t.rebuild step.corrects sound.single;
      holds = λ told enough.
          let old = sound.holds told step.enough in
          record {
            blocks = λ i low live.
                let column = sound.columns.each i (let m = sound.shape.data_among_columns in omega (arith, m, low)) in
                let long = column.block low in
                let has = old.blocks i low live in
                record {
                  held = has.held;
                  told = has.told;
                  each = λ x within.
                      let inside : x < g.block = omega (arith, long, within) in
                      let kept = has.each x within in
                      let left = block_left caller x (get_or b (i * g.block + x) 0) (claim_at s.claims i) (λ own. step.everywhere.applied i own live) in
                      kept
                      ∙ ap (λ (z : ℕ). bit_xor z (byte_of (kept_of (claim_at s.claims i)) x)) (data_byte g.k g.block i x b (omega (arith, few)) sound.history.plain low)
                      ∙ left
                      ∙ ap₂ bit_xor (sym (adds told i x low inside) ∙ sym (data_byte g.k g.block i x after (omega (arith, few)) bytes low))
                      (ap (λ (o : Option Claim). byte_of (kept_of o) x) (sym (claim_left caller s.claims i)));
                };
            parities = λ i high below live.
                let column = sound.columns.each i below in
                let shape : (col_at s.cols i).state.shape ≡ g = column.shape in
                let raised = parity_commits g.k i caller s.claims s.cuts (col_at s.cols i).state (column_byte g.k g.block i b) room
                (λ m above. none_behind s.site s.log s.claims caller m sound.claimed above)
                (λ m lt own. step.everywhere.noted m i own high below live) (old.parities i high below live) in
                held_again (col_at s.cols i).state (raised_to g.k caller s.claims s.cuts) (λ x. bit_xor (column_byte g.k g.block i b x) (added_to g.k g.k i caller s.claims x))
                (column_byte g.k g.block i after)
                (pending_on g.k (without_claims caller s.claims) i) (pending_on g.k (without_claims caller s.claims) i)
                (λ x w. sym (changes told i x (let z = ap (λ (h : Shape). h.block) shape in omega (arith, z, w)))) (λ j. refl) raised;
            target = rebuild_filled g b after caller s.claims s.rebuild t.rebuild step.corrects (filled_most s.site s.frail s.pools s.log s.rebuild sound.rebuilt)
                (λ i x inside. changes told i x inside) old.target;
          };
    })
