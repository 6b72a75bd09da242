-- The ends of a begin: an update of no bytes, a swap that finds other bytes, and the claims.
use Rattle.std.proofs.Common.{◌≡◌, ℕ, zero, suc, ◌+◌, ◌*◌, ◌<◌, ◌≤◌, List, [], ◌∷◌, ◌++◌, length, get_or, map, take, drop, All, Bool, true, false, cond, Some, None, replicate, refl, sym, ap, ◌∙◌, subst, arith, inl, inr, append-nil}
use Rattle.std.specs.Prelude.{bytes_eq, unwrap_or, nat_lt, IsSome, IfSome}
use Rattle.std.proofs.lemmas.Bool.{cases_lt, le-ltb}
use Rattle.std.proofs.lemmas.Slice.Eq.{bytes_eq-Decides}
use Rattle.std.proofs.lemmas.List.{get_or_default, get_or-map, length-take, length-replicate, take-append-drop}
use Rattle.std.proofs.lemmas.List.Elements.{All-map}
use Rattle.cod_types.specs.Limits.{segment_length, Shape}
use Rattle.cod_types.specs.Overwritten.{overwritten}
use Rattle.cod_types.specs.Plain.{bytes_at, plain_next, plain_reply, refusal}
use Rattle.cod_types.specs.declared.call.Call.{Call as Asked}
use Rattle.cod_types.specs.declared.call.Call.TheVariants.{Read, Write, Swap, Put, Merge, Tick, Rebuild, Upgrade, Drain}
use Rattle.cod_types.specs.declared.call.Caller.{Caller}
use Rattle.cod_types.specs.declared.call.Reply.{Reply}
use Rattle.cod_types.specs.declared.call.Reply.TheVariants.{Differs, Done}
use Rattle.cod_types.proofs.Refusals.{swaps_update}
use Rattle.cod_code.specs.Codewords.{AreBytes}
use Rattle.cod_layout.specs.declared.parts.Part.{Part}
use Rattle.cod_layout.specs.Parts.{IsInside, length_in, parts_of, place_of}
use Rattle.cod_layout.proofs.Splitting.{parts_split}
use Rattle.cod_chronicle.specs.declared.entry.Entry.{Entry}
use Rattle.cod_chronicle.specs.declared.entry.Entry.TheVariants.{Call}
use Rattle.cod_chronicle.specs.Event.{Setting}
use Rattle.cod_chronicle.specs.Legal.{IsAnswer, IsPlain, IsServed}
use Rattle.cod_chronicle.specs.Said.{bytes_of, clock_of, is_over, next_stamp, Site, StampFollows}
use Rattle.cod_chronicle.proofs.Answering.{answer_served}
use Rattle.cod_chronicle.proofs.Bytes_kept.{keeps_length}
use Rattle.cod_claims.specs.Changes.{blank, Change, IsDelta, joined, LiesInside, made, new_bytes, new_in}
use Rattle.cod_claims.specs.Claimed.{claim_at, with_claims}
use Rattle.cod_claims.specs.Slips.{AreWhole, buffers_for, change_at, changes_of, Paper, with_made}
use Rattle.cod_claims.proofs.Joining.{joins_range, makes_delta}
use Rattle.cod_seg.specs.Calls.{block_reads, range_len, range_off, range_reads}
use Rattle.cod_seg.specs.Next.{open_in}
use Rattle.cod_seg.specs.Seg.{Col, Seg}
use Rattle.cod_seg.specs.Sound.{begin_of, is_update, Sound}
use Rattle.cod_seg.specs.Steps.{Begins, begins}
use Rattle.cod_seg.proofs.Happening.{begin_opens}
use Rattle.cod_seg.proofs.Updates.{bytes_replaced}
use Rattle.cod_segment.specs.Events.{call_in, HasBegun, IsSettingOf, Makes, request_of}
use Rattle.cod_segment.proofs.Answering.{idle, sound_after}
use Rattle.cod_reading.specs.Filling.{HasOld, IsFilling, parts_in}
use Rattle.cod_reading.specs.Reads.{part_reads, Reads}
use Rattle.cod_reading.proofs.Chaining.{makes_more, reads_as, reads_none, site_after}
use Rattle.cod_reading.proofs.Ending.{call_reads, IsEnded, newest_after, range_is, setting_is, setting_of}
use Rattle.cod_reading.proofs.Filling.{parts_long, range_found}
use Rattle.cod_reading.proofs.Starting.{IsBeginning, IsMet, no_parts, parts_met, update_range}

-- ---- an update of no bytes

range_none : (m : ℕ) (g : Shape) (cols : List Col) (off i : ℕ) → range_reads m g cols off 0 i ≡ 0
range_none zero g cols off i = refl
range_none (suc m) g cols off i =
    let rest = range_none m g cols off i in
    let none : length_in g.block off 0 m ≤ 0 = omega arith in
    let e : ◌≡◌ {A = ℕ} (cond (nat_lt 0 (length_in g.block off 0 m)) (block_reads g.k cols m i) 0) 0 =
    ap (λ (b : Bool). cond {A = ℕ} b (block_reads g.k cols m i) 0) (le-ltb 0 (length_in g.block off 0 m) none) in
    omega (arith, rest, e)

nil_of : (l : List ℕ) → length l ≡ 0 → l ≡ []
nil_of [] e = refl
nil_of (x ∷ l) e = absurd (omega (arith, e))

none_replaced : (b bytes : List ℕ) (off : ℕ) → bytes ≡ [] → overwritten off bytes b ≡ b
none_replaced b bytes off e =
    let at : off + 0 ≡ off = omega arith in
    ap (λ (l : List ℕ). overwritten off l b) e ∙ ap (λ (l : List ℕ). l ++ drop (off + 0) b) (append-nil (take off b)) ∙ ap (λ (n : ℕ). take off b ++ drop n b) at ∙ take-append-drop off b

none_differs : (b old : List ℕ) (off : ℕ) → length old ≡ 0 → bytes_eq (bytes_at b off (length old)) old ≡ true
none_differs b old off none =
    let l = length-take (length old) (drop off b) in
    (bytes_eq-Decides (bytes_at b off (length old)) old).1 (nil_of (bytes_at b off (length old)) (omega (arith, l, none)) ∙ sym (nil_of old none))

-- such an update is done, and changes nothing
no_bytes : (g : Shape) (b : List ℕ) (call : Asked) → is_update call ≡ true → refusal g call ≡ None → length (new_bytes call) ≡ 0 → (plain_reply b call ≡ Some Done) × (plain_next b call ≡ b)
no_bytes g b (Read off len) update free none = cc
no_bytes g b (Write off bytes) update free none = (refl, none_replaced b bytes off (nil_of bytes none))
no_bytes g b (Swap off old new) update free none =
    let same = (swaps_update g off old new free).same in
    let e = none_differs b old off (omega (arith, same, none)) in (
      ap (λ (t : Bool). cond t (Some Done) (Some (Differs (bytes_at b off (length old))))) e,
      ap (λ (t : Bool). cond t (overwritten off new b) b) e ∙ none_replaced b new off (nil_of new none),
    )
no_bytes g b (Put bytes) update free none = cc
no_bytes g b Merge update free none = cc
no_bytes g b Tick update free none = cc
no_bytes g b Rebuild update free none = cc
no_bytes g b Upgrade update free none = cc
no_bytes g b (Drain node) update free none = cc

-- an update's reply is a plain segment's
served : (site : Site) (log : List Entry) (call : Asked) (reply : Reply) → is_update call ≡ true → IsPlain site.told (bytes_of site log) call reply → IsServed site log call reply
served site log (Read off len) reply update is = cc
served site log (Write off bytes) reply update is = is
served site log (Swap off old new) reply update is = is
served site log (Put bytes) reply update is = cc
served site log Merge reply update is = cc
served site log Tick reply update is = cc
served site log Rebuild reply update is = cc
served site log Upgrade reply update is = cc
served site log (Drain node) reply update is = cc

done_plain : (told : Bool) (b : List ℕ) (call : Asked) → is_update call ≡ true → (told ≡ true → plain_reply b call ≡ Some Done) → IsPlain told b call Done
done_plain true b call update is = is refl
done_plain false b (Read off len) update is = cc
done_plain false b (Write off bytes) update is = refl
done_plain false b (Swap off old new) update is = inl refl
done_plain false b (Put bytes) update is = cc
done_plain false b Merge update is = cc
done_plain false b Tick update is = cc
done_plain false b Rebuild update is = cc
done_plain false b Upgrade update is = cc
done_plain false b (Drain node) update is = cc

no_changes : (s : Seg) (caller number : ℕ) (p : Paper) → IsBeginning s caller number p → length (changes_of p) ≡ 0 → length (new_bytes (call_in p)) ≡ 0
no_changes s caller number p is none = by (changes_of p) none is.filling.parts where
  by : (cs : List Change) → length cs ≡ 0 → parts_in cs ≡ parts_of s.site.shape.k s.site.shape.block (begin_of (call_in p)) (length (new_bytes (call_in p))) → length (new_bytes (call_in p)) ≡ 0
  by [] e parts =
      let l = joins_range s.site.shape.k s.site.shape.block (begin_of (call_in p)) (length (new_bytes (call_in p))) [] is.fits parts (λ i d lt. absurd (omega (arith, lt))) in
      omega (arith, l)
  by (c ∷ cs) e parts = absurd (omega (arith, e))

pub none_ended : (s u : Seg) (caller : Caller) (number t stamp : ℕ) (p : Paper) → Sound s → IsBeginning s caller.0 number p → length (changes_of p) ≡ 0
    → stamp ≡ next_stamp (clock_of s.log) t → StampFollows s.log stamp → u ≡ record s { log = s.log ++ Call caller number stamp (call_in p) Done ∷ [] }
    → IsEnded t t stamp s s u caller number (call_in p) Done
none_ended s u caller number t stamp p sound is none next follows becomes =
    let g = s.site.shape in
    let b = bytes_of s.site s.log in
    let call = call_in p in
    let empty = no_changes s caller.0 number p is none in
    let plain = no_bytes g b call is.update is.free empty in
    let len : range_len call ≡ 0 = (update_range call is.update).1 ∙ empty in
    record {
      sound = sound;
      reads = reads_as (λ (i : ℕ). 0) (call_reads s call) t t s s
          (λ i lt. ap (λ (m : ℕ). range_reads g.k g s.cols (range_off call) m i) len ∙ range_none g.k g s.cols (range_off call) i) (reads_none t s sound);
      none = is.none;
      newest = is.newest;
      answer = answer_served s.site s.log call Done is.free is.few (served s.site s.log call Done is.update (done_plain s.site.told b call is.update (λ told. plain.0)));
      quiet = λ told. plain.1;
      plain = λ bytes. rw plain.1 bytes;
      seen = λ w. tt;
      next = next;
      follows = follows;
      becomes = becomes;
    }

-- ---- an update of some bytes, after its old ones were brought

-- what was read, and what the slip has then
pub record IsBrought (s v : Seg) (caller number t mid : ℕ) (p q : Paper) : Type 0 where
  pub sound : Sound s
  pub is : IsBeginning s caller number p
  pub reads : Reads (part_reads s.site.shape.k s.cols (parts_in (changes_of p))) t mid s v
  pub few : is_over v.site v.log ≡ false
  pub filled : IsFilling s (length (changes_of p)) q
  pub same : q ≡ record p { changes = q.changes }
  pub parts : parts_in (changes_of q) ≡ parts_in (changes_of p)
  pub bytes : AreBytes (new_bytes (call_in q))

call_same : (p q : Paper) → q ≡ record p { changes = q.changes } → call_in q ≡ call_in p
call_same p q same = ap (λ (x : Paper). unwrap_or x.call Merge) same

-- as many changes as before
as_many : (p q : Paper) → parts_in (changes_of q) ≡ parts_in (changes_of p) → length (changes_of q) ≡ length (changes_of p)
as_many p q parts = (let a = ap length parts in let b = parts_long (changes_of q) in let c = parts_long (changes_of p) in omega (arith, a, b, c))

-- the reads of its range
pub update_reads : (s v : Seg) (caller number t mid : ℕ) (p q : Paper) → IsBrought s v caller number t mid p q → Reads (call_reads s (call_in p)) t mid s v
update_reads s v caller number t mid p q b =
    let g = s.site.shape in
    let call = call_in p in
    let range = update_range call b.is.update in
    reads_as (part_reads g.k s.cols (parts_in (changes_of p))) (call_reads s call) t mid s v
    (λ i lt. ap (λ (off : ℕ). range_reads g.k g s.cols off (range_len call) i) range.0 ∙ ap (λ (len : ℕ). range_reads g.k g s.cols (begin_of call) len i) range.1
    ∙ sym (range_is g s.cols (begin_of call) (length (new_bytes call)) i) ∙ ap (λ (l : List Part). part_reads g.k s.cols l i) (sym b.is.filling.parts)) b.reads

-- the bytes that were found
pub found_long : (s v : Seg) (caller number t mid : ℕ) (p q : Paper) → IsBrought s v caller number t mid p q → length (joined (changes_of q)) ≡ length (new_bytes (call_in p))
found_long s v caller number t mid p q b =
    joins_range s.site.shape.k s.site.shape.block (begin_of (call_in p)) (length (new_bytes (call_in p))) (changes_of q) b.is.fits (b.parts ∙ b.is.filling.parts) b.filled.sized

pub found_is : (s v : Seg) (caller number t mid : ℕ) (p q : Paper) → IsBrought s v caller number t mid p q → s.site.told ≡ true
    → joined (changes_of q) ≡ bytes_at (bytes_of s.site s.log) (begin_of (call_in p)) (length (new_bytes (call_in p)))
found_is s v caller number t mid p q b told =
    let call = call_same p q b.same in
    let full : IsFilling s (length (changes_of q)) q = subst (λ (n : ℕ). IsFilling s n q) (sym (as_many p q b.parts)) b.filled in
    let fits = subst (λ (c : Asked). begin_of c + length (new_bytes c) ≤ s.site.shape.k * s.site.shape.block) (sym call) b.is.fits in
    range_found s q full fits told ∙ ap (λ (c : Asked). bytes_at (bytes_of s.site s.log) (begin_of c) (length (new_bytes c))) call

-- ---- a swap that finds other bytes

differs_plain : (told : Bool) (b : List ℕ) (off : ℕ) (old new found : List ℕ) → length found ≡ length old → bytes_eq found old ≡ false → (told ≡ true → found ≡ bytes_at b off (length old))
    → IsPlain told b (Swap off old new) (Differs found)
differs_plain true b off old new found long other is =
    ap (λ (l : List ℕ). cond (bytes_eq l old) (Some Done) (Some (Differs l))) (sym (is refl)) ∙ ap (λ (t : Bool). cond t (Some Done) (Some (Differs found))) other
differs_plain false b off old new found long other is = inr (found, refl, long)

swap_bytes : (b : List ℕ) (off : ℕ) (old new : List ℕ) → off + length new ≤ length b → AreBytes new → AreBytes b → AreBytes (plain_next b (Swap off old new))
swap_bytes b off old new fits news olds = by (bytes_eq (bytes_at b off (length old)) old) where
  by : (t : Bool) → AreBytes (cond t (overwritten off new b) b)
  by true = bytes_replaced off new b fits news olds
  by false = olds

-- of a swap
pub record IsOther (q : Paper) (off : ℕ) (old new found : List ℕ) : Type 0 where
  pub is : call_in q ≡ Swap off old new
  pub found_is : found ≡ joined (changes_of q)
  pub other : bytes_eq (joined (changes_of q)) old ≡ false

pub differs_ended : (s v u : Seg) (caller : Caller) (number t mid stamp off : ℕ) (p q r : Paper) (old new found : List ℕ) → IsBrought s v caller.0 number t mid p q → IsOther q off old new found
    → r ≡ record q { buffers = r.buffers } → stamp ≡ next_stamp (clock_of v.log) mid → StampFollows v.log stamp
    → u ≡ record v { log = v.log ++ Call caller number stamp (call_in r) (Differs found) ∷ [] } → IsEnded t mid stamp s v u caller number (call_in p) (Differs found)
differs_ended s v u caller number t mid stamp off p q r old new found b o rest next follows becomes =
    let g = s.site.shape in
    let bytes = bytes_of s.site s.log in
    let later = bytes_of v.site v.log in
    let site = site_after (part_reads g.k s.cols (parts_in (changes_of p))) t mid s v b.reads in
    let kept : later ≡ bytes = ap (λ (x : Site). bytes_of x v.log) site ∙ b.reads.bytes in
    let told_same : v.site.told ≡ s.site.told = ap (λ (x : Site). x.told) site in
    let call : call_in p ≡ Swap off old new = sym (call_same p q b.same) ∙ o.is in
    let free : refusal g (Swap off old new) ≡ None = ap (refusal g) (sym call) ∙ b.is.free in
    let swap = swaps_update g off old new free in
    let long : length found ≡ length old = ap length o.found_is ∙ found_long s v caller.0 number t mid p q b ∙ ap (λ (c : Asked). length (new_bytes c)) call ∙ swap.same in
    let at : s.site.told ≡ true → found ≡ bytes_at bytes off (length old) = λ told.
    o.found_is ∙ found_is s v caller.0 number t mid p q b told ∙ ap (λ (c : Asked). bytes_at bytes (begin_of c) (length (new_bytes c))) call ∙ ap (bytes_at bytes off) swap.same in
    let other : bytes_eq found old ≡ false = ap (λ (l : List ℕ). bytes_eq l old) o.found_is ∙ o.other in
    let plain : IsPlain v.site.told later (Swap off old new) (Differs found) =
    differs_plain v.site.told later off old new found long other (λ told. at (sym told_same ∙ told) ∙ ap (λ (l : List ℕ). bytes_at l off (length old)) (sym kept)) in
    let whole : length bytes ≡ segment_length g = keeps_length s.site s.log b.sound.history.legal in
    let inside = swap.update.inside in
    let news : AreBytes new = subst (λ (c : Asked). AreBytes (new_bytes c)) o.is b.bytes in
    record {
      sound = b.sound;
      reads = update_reads s v caller.0 number t mid p q b;
      none = b.is.none;
      newest = b.is.newest;
      answer = subst (λ (c : Asked). IsAnswer v.site v.log c (Differs found)) (sym call)
          (answer_served v.site v.log (Swap off old new) (Differs found) (ap (λ (x : Site). refusal x.shape (Swap off old new)) site ∙ free) b.few plain);
      quiet = λ told. ap (plain_next later) call ∙ ap (λ (l : List ℕ). cond (bytes_eq l old) (overwritten off new later) later)
          (ap (λ (l : List ℕ). bytes_at l off (length old)) kept ∙ sym (at (sym told_same ∙ told)))
          ∙ ap (λ (t : Bool). cond t (overwritten off new later) later) other;
      plain = λ olds. subst (λ (c : Asked). AreBytes (plain_next later c)) (sym call)
          (swap_bytes later off old new (let l = ap length kept in omega (arith, l, whole, inside)) news olds);
      seen = λ w. tt;
      next = next;
      follows = follows;
      becomes = becomes ∙ ap (λ (c : Asked). record v { log = v.log ++ Call caller number stamp c (Differs found) ∷ [] })
          (ap (λ (x : Paper). unwrap_or x.call Merge) rest ∙ call_same p q b.same);
    }

-- ---- the claims

reply_done : (b : List ℕ) (call : Asked) → is_update call ≡ true → ((off : ℕ) (old new : List ℕ) → call ≡ Swap off old new → bytes_at b off (length old) ≡ old) → plain_reply b call ≡ Some Done
reply_done b (Read off len) update same = cc
reply_done b (Write off bytes) update same = refl
reply_done b (Swap off old new) update same =
    ap (λ (t : Bool). cond t (Some Done) (Some (Differs (bytes_at b off (length old))))) ((bytes_eq-Decides (bytes_at b off (length old)) old).1 (same off old new refl))
reply_done b (Put bytes) update same = cc
reply_done b Merge update same = cc
reply_done b Tick update same = cc
reply_done b Rebuild update same = cc
reply_done b Upgrade update same = cc
reply_done b (Drain node) update same = cc

some_bytes : (s : Seg) (caller number : ℕ) (p : Paper) → IsBeginning s caller number p → 0 < length (changes_of p) → 1 ≤ length (new_bytes (call_in p))
some_bytes s caller number p is some = elim (cases_lt 0 (length (new_bytes (call_in p)))) [
  | inl more ↦ omega (arith, more)
  | inr none ↦
      let g = s.site.shape in
      let zero_long : length (new_bytes (call_in p)) ≡ 0 = omega (arith, none) in
      let e = ap length (is.filling.parts ∙ ap (parts_of g.k g.block (begin_of (call_in p))) zero_long ∙ no_parts g.block (begin_of (call_in p)) 0 g.k) in
      let l = parts_long (changes_of p) in
      absurd (omega (arith, e, l, some))
]

parts_made : (cs : List Change) → parts_in (map made cs) ≡ parts_in cs
parts_made [] = refl
parts_made (c ∷ cs) = ap (λ (l : List Part). c.part ∷ l) (parts_made cs)

-- the blocks of these changes are free
blocks_free : (s : Seg) (caller number : ℕ) (p : Paper) (cs : List Change) → IsBeginning s caller number p → parts_in cs ≡ parts_in (changes_of p) → All (λ (c : Change). claim_at s.claims c.part.block ≡ None) cs
blocks_free s caller number p cs is are i d lt =
    let g = s.site.shape in
    let off = begin_of (call_in p) in
    let len = length (new_bytes (call_in p)) in
    let parts = parts_of g.k g.block off len in
    let same : parts_in cs ≡ parts = are ∙ is.filling.parts in
    let long = ap length same in
    let l = parts_long cs in
    let within : i < length parts = omega (arith, long, l, lt) in
    let at : get_or parts i d.part ≡ (get_or cs i d).part = ap (λ (x : List Part). get_or x i d.part) (sym same) ∙ get_or-map (λ (c : Change). c.part) cs i d d.part lt in
    let met : IsMet g.block off len (get_or cs i d).part = subst (IsMet g.block off len) at (parts_met g.block off len 0 g.k i d.part within) in
    let inside : IsInside g.k g.block (get_or cs i d).part = subst (IsInside g.k g.block) at ((parts_split g.k g.block off len is.fits).inside i d.part within) in
    is.vacant (get_or cs i d).part.block inside.among met

-- each change is the delta between its part's bytes and the update's
deltas_made : (s : Seg) (b : List ℕ) (cs : List Change) → AreWhole cs → All LiesInside cs → b ≡ bytes_of s.site s.log → ((j : ℕ) → j < length cs → HasOld s (change_at cs j))
    → All (λ (c : Change). IsDelta (bytes_at b (place_of s.site.shape.block c.part) c.part.len) (new_in c) c.bytes) (map made cs)
deltas_made s b cs whole inside same old =
    All-map (λ (c : Change). IsDelta (bytes_at b (place_of s.site.shape.block c.part) c.part.len) (new_in c) c.bytes) made cs (λ i d lt.
    let c = get_or cs i d in
    let at : change_at cs i ≡ c = get_or_default cs i (blank Merge 0 0 (record { block = 0; off = 0; len = 0 })) d lt in
    let has : HasOld s c = subst (HasOld s) at (old i lt) in
    let is : c.bytes ≡ bytes_at b (place_of s.site.shape.block c.part) c.part.len = has ∙ ap (λ (l : List ℕ). bytes_at l (place_of s.site.shape.block c.part) c.part.len) (sym same) in
    subst (λ (l : List ℕ). IsDelta l (new_in c) (made c).bytes) is (makes_delta c (whole i d lt) (inside i d lt)))

sizes_made : (cs : List Change) → AreWhole cs → All LiesInside cs → All (λ (c : Change). length c.bytes ≡ c.part.len) (map made cs)
sizes_made cs whole inside =
    All-map (λ (c : Change). length c.bytes ≡ c.part.len) made cs (λ i d lt. (makes_delta (get_or cs i d) (whole i d lt) (inside i d lt)).size ∙ whole i d lt)

abbrev pub IsAsSwapped : Paper → Type 0
IsAsSwapped q = (off : ℕ) (old new : List ℕ) → call_in q ≡ Swap off old new → joined (changes_of q) ≡ old

-- an update whose old bytes are as they have to be is done
will_be_done : (s v : Seg) (caller number t mid : ℕ) (p q : Paper) → IsBrought s v caller number t mid p q → IsAsSwapped q → s.site.told ≡ true → plain_reply (bytes_of s.site v.log) (call_in p) ≡ Some Done
will_be_done s v caller number t mid p q b swapped told = reply_done (bytes_of s.site v.log) (call_in p) b.is.update (λ off old new is.
    let g = s.site.shape in
    let callq : call_in q ≡ Swap off old new = call_same p q b.same ∙ is in
    let swap = swaps_update g off old new (ap (refusal g) (sym is) ∙ b.is.free) in
    ap (λ (l : List ℕ). bytes_at l off (length old)) b.reads.bytes ∙ ap (bytes_at (bytes_of s.site s.log) off) (sym swap.same)
    ∙ ap (λ (c : Asked). bytes_at (bytes_of s.site s.log) (begin_of c) (length (new_bytes c))) (sym is)
    ∙ sym (found_is s v caller number t mid p q b told) ∙ swapped off old new callq)

pub moved : (s v u : Seg) (caller : Caller) (number t mid : ℕ) (p q : Paper) → IsBrought s v caller.0 number t mid p q → 0 < length (changes_of p) → IsAsSwapped q
    → u ≡ record v { claims = with_claims caller number (map made (changes_of q)) v.claims }
    → ((w : Setting) → IsSettingOf w s → Makes w (request_of caller.0 number (call_in p)) t mid false s u) × (open_in u caller.0 ≡ Some (number, call_in p))
moved s v u caller number t mid p q b some swapped becomes =
    let cs = changes_of q in
    let call = call_same p q b.same in
    let mine : Seg = record s { cols = v.cols; log = v.log } in
    let count = part_reads s.site.shape.k s.cols (parts_in (changes_of p)) in
    let is : Begins mine u = record {
      caller = caller;
      number = number;
      call = call_in p;
      changes = map made cs;
      idle = b.is.idle;
      single = (idle s caller.0 b.sound b.is.none).1;
      newest = newest_after count t mid caller.0 number s v b.reads b.is.newest;
      update = b.is.update;
      free = b.is.free;
      done = done_plain s.site.told (bytes_of s.site v.log) (call_in p) b.is.update (λ told. will_be_done s v caller.0 number t mid p q b swapped told);
      bytes = subst (λ (c : Asked). AreBytes (new_bytes c)) call b.bytes;
      parts = parts_made cs ∙ b.parts ∙ b.is.filling.parts;
      vacant = blocks_free s caller.0 number p (map made cs) b.is (parts_made cs ∙ b.parts);
      asked = All-map (λ (c : Change). c.call ≡ call_in p) made cs (subst (λ (x : Asked). All (λ (c : Change). c.call ≡ x) cs) call b.filled.asked);
      from = All-map (λ (c : Change). c.at + begin_of (call_in p) ≡ place_of s.site.shape.block c.part) made cs
          (subst (λ (x : Asked). All (λ (c : Change). c.at + begin_of x ≡ place_of s.site.shape.block c.part) cs) call b.filled.from);
      sized = sizes_made cs b.filled.sized b.filled.inside;
      delta = λ told. deltas_made s (bytes_of s.site v.log) cs b.filled.sized b.filled.inside b.reads.bytes
          (λ j lt. b.filled.old told j (let m = as_many p q b.parts in omega (arith, m, lt)));
      becomes = becomes ∙ ap (λ (x : Seg). record x { claims = with_claims caller number (map made cs) x.claims }) b.reads.becomes;
    } in (
      λ w setting.
          let r = request_of caller.0 number (call_in p) in
          makes_more w r t mid mid false s mine u (subst (λ (x : Seg). Makes w r t mid false s x) b.reads.becomes (b.reads.makes w r setting)) (begins is)
          (refl, refl, refl, record { clock = refl; goes_on = refl }),
      begin_opens mine u is (subst Sound b.reads.becomes b.reads.sound) (some_bytes s caller.0 number p b.is some),
    )

pub moved_sound : (s v u : Seg) (caller : Caller) (number t mid : ℕ) (p q : Paper) → IsBrought s v caller.0 number t mid p q → 0 < length (changes_of p) → IsAsSwapped q
    → u ≡ record v { claims = with_claims caller number (map made (changes_of q)) v.claims } → Sound u
moved_sound s v u caller number t mid p q b some swapped becomes =
    sound_after (setting_of s) (request_of caller.0 number (call_in p)) t mid false s u b.sound ((moved s v u caller number t mid p q b some swapped becomes).0 (setting_of s) (setting_is s))

-- the slip has begun
not_rebuild : (call : Asked) → is_update call ≡ true → call ≡ Rebuild → ⊥
not_rebuild call update is = (let wrong : is_update Rebuild ≡ true = ap is_update (sym is) ∙ update in cc)

pub has_begun : (s v : Seg) (caller number t mid : ℕ) (p q r z : Paper) → IsBrought s v caller number t mid p q → r ≡ record q { buffers = r.buffers } → z ≡ record (with_made r) { changes = None }
    → HasBegun z (call_in p)
has_begun s v caller number t mid p q r z b rest is = record {
  call_is = ap (λ (x : Paper). x.call) is ∙ ap (λ (x : Paper). x.call) rest ∙ b.filled.has ∙ ap (λ (c : Asked). Some c) (call_same p q b.same);
  link = ap (λ (x : Paper). x.links) is ∙ ap (λ (x : Paper). x.links) rest ∙ b.filled.links;
  lists = λ e. absurd (not_rebuild (call_in p) b.is.update e);
  unanswered = ap (λ (x : Paper). x.reply) is ∙ ap (λ (x : Paper). x.reply) rest ∙ b.filled.unanswered;
}

-- ---- the slip of a swap

swap_buffers : (call : Asked) (off : ℕ) (old new : List ℕ) → call ≡ Swap off old new → buffers_for call ≡ Some (replicate (length old) 0, replicate (length old) 0)
swap_buffers call off old new is = ap buffers_for is

pub buffers_fit : (s v : Seg) (caller number t mid off : ℕ) (p q : Paper) (old new : List ℕ) → IsBrought s v caller number t mid p q → call_in q ≡ Swap off old new
    → IsSome q.buffers × IfSome q.buffers (λ bs. (length bs.0 ≡ length (joined (changes_of q))) × (length bs.1 ≡ length (joined (changes_of q))))
buffers_fit s v caller number t mid off p q old new b is =
    let call : call_in p ≡ Swap off old new = sym (call_same p q b.same) ∙ is in
    let has : q.buffers ≡ Some (replicate (length old) 0, replicate (length old) 0) =
    ap (λ (x : Paper). x.buffers) b.same ∙ b.is.buffers ∙ swap_buffers (call_in p) off old new call in
    let swap = swaps_update s.site.shape off old new (ap (refusal s.site.shape) (sym call) ∙ b.is.free) in
    let long : length (joined (changes_of q)) ≡ length old = found_long s v caller number t mid p q b ∙ ap (λ (c : Asked). length (new_bytes c)) call ∙ swap.same in
    let each : length (replicate (length old) 0) ≡ length (joined (changes_of q)) = length-replicate (length old) 0 ∙ sym long in
    rw has (refl, (each, each))

-- the blocks of an update's changes are free
pub changes_free : (s v : Seg) (caller number t mid : ℕ) (p q : Paper) → IsBrought s v caller number t mid p q → All (λ (c : Change). claim_at s.claims c.part.block ≡ None) (map made (changes_of q))
changes_free s v caller number t mid p q b = blocks_free s caller number p (map made (changes_of q)) b.is (parts_made (changes_of q) ∙ b.parts)
