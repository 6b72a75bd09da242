-- What is asked of a read.
use Rattle.std.proofs.Common.{◌≡◌, ℕ, ◌+◌, ◌<◌, ◌≤◌, List, [], ◌∷◌, ◌++◌, length, All, replicate, Bool, true, false, cond, Option, Some, None, refl, sym, ap, ◌∙◌, subst, arith, inl, inr}
use Rattle.std.specs.Prelude.{◌⊎◌, ◌==◌, is_some, unwrap_or}
use Rattle.std.proofs.lemmas.List.{length-append, length-replicate}
use Rattle.std.proofs.lemmas.List.FromFn.{length-range_with_len}
use Rattle.std.specs.List.{flat_map, range_with_len}
use Rattle.cod_types.specs.Limits.{segment_length, Shape}
use Rattle.cod_types.specs.Plain.{bytes_at, plain_next, refusal}
use Rattle.cod_types.specs.declared.call.Call.{Call as Asked}
use Rattle.cod_types.specs.declared.call.Call.TheVariants.{Read, Write, Swap, Put, Merge, Tick, Rebuild, Upgrade, Drain}
use Rattle.cod_types.specs.declared.call.Caller.{Caller}
use Rattle.cod_types.specs.declared.call.Reply.{Reply}
use Rattle.cod_types.specs.declared.call.Reply.TheVariants.{Bytes, Lost}
use Rattle.cod_types.proofs.Refusals.{reads_inside}
use Rattle.cod_layout.specs.declared.parts.Part.{Part}
use Rattle.cod_layout.specs.Parts.{IsSplit, parts_of, place_of}
use Rattle.cod_layout.proofs.Blocks.{reads_by_parts}
use Rattle.cod_chronicle.specs.declared.entry.Entry.{Entry}
use Rattle.cod_chronicle.specs.declared.entry.Entry.TheVariants.{Call}
use Rattle.cod_chronicle.specs.Legal.{IsAnswer, IsPlain}
use Rattle.cod_chronicle.specs.Said.{bytes_of, clock_of, downs, is_over, next_stamp, numbers_by, Site, StampFollows}
use Rattle.cod_chronicle.proofs.Answering.{answer_lost, answer_served}
use Rattle.cod_chronicle.proofs.Bytes_kept.{keeps_length}
use Rattle.cod_claims.specs.Slips.{Paper, prepared}
use Rattle.cod_seg.specs.Next.{block_holder, has_claim, live_on, next_part, next_piece, next_served, next_step, next_update, open_in, rebuild_holder, unless_held}
use Rattle.cod_seg.specs.Seg.{Seg}
use Rattle.cod_seg.specs.Sound.{is_update, Sound}
use Rattle.cod_seg.specs.declared.next.Step.{Step}
use Rattle.cod_seg.specs.declared.next.Step.TheVariants as step
use Rattle.cod_seg.proofs.Choosing.{IsBringing, IsPart, next_is, piece_is, served}
use Rattle.cod_seg.proofs.Serving.{not_held}
use Rattle.cod_segment.specs.Events.{call_in, HasBegun, HasRoom, IsAsked}
use Rattle.cod_segment.proofs.Answering.{ready, unopened}
use Rattle.cod_reading.specs.Reads.{BringsAll, MayReadAll, part_bytes, part_reads, Reads}
use Rattle.cod_reading.proofs.Chaining.{reads_as, site_after}
use Rattle.cod_reading.proofs.Ending.{call_reads, IsEnded, range_is, room_first}
use Rattle.cod_reading.proofs.Parting.{lost_reads}

-- ---- a read is next

abbrev pub IsReadStep : Step → Type 0
IsReadStep step.Read = Unit {0}
IsReadStep _ = ⊥

abbrev pub IsReadCall : Asked → Type 0
IsReadCall (Read off len) = Unit {0}
IsReadCall _ = ⊥

part_no_read : (x : Step) → IsPart x → IsReadStep x → ⊥
part_no_read (step.Data j) part is = is
part_no_read (step.Parity j i) part is = is
part_no_read step.Commit part is = is
part_no_read x part is = part

bring_no_read : (x : Step) → IsBringing x → IsReadStep x → ⊥
bring_no_read step.RebuildStart bring is = is
bring_no_read step.RebuildPiece bring is = is
bring_no_read step.RebuildEnd bring is = is
bring_no_read x bring is = bring

update_no_read : (s : Seg) (caller : ℕ) (call : Asked) → IsReadStep (next_update s caller call) → ⊥
update_no_read s caller call is = by (has_claim caller s.claims) is where
  by : (b : Bool) → IsReadStep (cond b (next_part s.site.shape.k s.site.shape.n s.cols s.claims caller) (unless_held (block_holder s.site.shape call caller s.claims) step.Begin)) → ⊥
  by true p = part_no_read (next_part s.site.shape.k s.site.shape.n s.cols s.claims caller) (next_is s.site.shape.k s.site.shape.n s.cols s.claims caller) p
  by false p = (not_held IsReadStep (block_holder s.site.shape call caller s.claims) step.Begin (λ h q. q) p).1

served_read : (s : Seg) (caller : ℕ) (call : Asked) → IsReadStep (next_served s caller call) → IsReadCall call
served_read s caller (Read off len) is = tt
served_read s caller (Write off bytes) is = update_no_read s caller (Write off bytes) is
served_read s caller (Swap off old new) is = update_no_read s caller (Swap off old new) is
served_read s caller (Put bytes) is = (not_held IsReadStep (block_holder s.site.shape (Put bytes) caller s.claims) step.Put (λ h q. q) is).1
served_read s caller Merge is = is
served_read s caller Tick is = is
served_read s caller Rebuild is = by (length (downs s.site s.log) == 0) is where
  by : (b : Bool) → IsReadStep (cond b step.Whole (unless_held (rebuild_holder caller s.rebuild) (next_piece s.site.shape.block s.rebuild))) → ⊥
  by true p = p
  by false p = bring_no_read (next_piece s.site.shape.block s.rebuild) (piece_is s.site.shape.block s.rebuild)
      (not_held IsReadStep (rebuild_holder caller s.rebuild) (next_piece s.site.shape.block s.rebuild) (λ h q. q) p).1
served_read s caller Upgrade is = is
served_read s caller (Drain node) is = by (is_some (live_on s.site s.log node.0)) is where
  by : (b : Bool) → IsReadStep (cond b (unless_held (rebuild_holder caller s.rebuild) step.Drain) step.Clear) → ⊥
  by true p = (not_held IsReadStep (rebuild_holder caller s.rebuild) step.Drain (λ h q. q) p).1
  by false p = p

pub of_read : (s : Seg) (caller : ℕ) (call : Asked) → next_step s caller call ≡ step.Read → IsReadCall call
of_read s caller call is = (let v = served s caller call step.Read tt is in served_read s caller call (subst IsReadStep (sym v.is) tt))

-- its call is one
pub call_of : (p : Paper) (call : Asked) → p.call ≡ Some call → call_in p ≡ call
call_of p call is = ap (λ (o : Option Asked). unwrap_or o Merge) is

pub not_other : (s : Seg) (caller : ℕ) (p : Paper) (call : Asked) → next_step s caller (call_in p) ≡ step.Read → p.call ≡ Some call → ((off len : ℕ) → call ≡ Read off len → ⊥) → ⊥
not_other s caller p call next has never = by call refl (subst IsReadCall (call_of p call has) (of_read s caller (call_in p) next)) where
  by : (x : Asked) → call ≡ x → IsReadCall x → ⊥
  by (Read off len) e is = never off len e
  by (Write off bytes) e is = is
  by (Swap off old new) e is = is
  by (Put bytes) e is = is
  by Merge e is = is
  by Tick e is = is
  by Rebuild e is = is
  by Upgrade e is = is
  by (Drain node) e is = is

-- ---- a read that begins

pub record IsReading (s : Seg) (caller number : ℕ) (p : Paper) (off len : ℕ) : Type 0 where
  pub is : call_in p ≡ Read off len
  pub free : refusal s.site.shape (Read off len) ≡ None
  pub few : is_over s.site s.log ≡ false
  pub none : open_in s caller ≡ None
  pub newest : All (λ m. m < number) (numbers_by caller s.log)
  pub has : p.call ≡ Some (Read off len)
  pub links : 1 ≤ p.links
  pub unanswered : p.reply ≡ None
  pub buffers : p.buffers ≡ Some (replicate len 0, replicate len 0)
  pub inside : off + len ≤ segment_length s.site.shape

fresh_read : (s : Seg) (caller number : ℕ) (p : Paper) (off len : ℕ) → Sound s → IsAsked s caller number p (Read off len) → open_in s caller ≡ None
fresh_read s caller number p off len sound asked = unopened s caller number p (Read off len) asked
    (λ j c there e. let update : is_update (Read off len) ≡ true = subst (λ (x : Asked). is_update x ≡ true) e (sound.claimed.each j c there).update in cc)
    (λ r was e. cc)

prepared_read : (g : Shape) (off len : ℕ) → refusal g (Read off len) ≡ None → (prepared g (Read off len)).buffers ≡ Some (replicate len 0, replicate len 0)
prepared_read g off len free = ap (λ (o : Option Reply). cond {A = Option (List ℕ × List ℕ)} (is_some o) None (Some (replicate len 0, replicate len 0))) free

fresh_buffers : (s : Seg) (caller number : ℕ) (p : Paper) (off len : ℕ) → IsAsked s caller number p (Read off len) → open_in s caller ≡ None → refusal s.site.shape (Read off len) ≡ None
    → p.buffers ≡ Some (replicate len 0, replicate len 0)
fresh_buffers s caller number p off len asked none free = by asked.state where
  by : ((open_in s caller ≡ None) × (p ≡ prepared s.site.shape (Read off len))) ⊎ ((open_in s caller ≡ Some (number, Read off len)) × HasBegun p (Read off len))
      → p.buffers ≡ Some (replicate len 0, replicate len 0)
  by (inl a) = ap (λ (x : Paper). x.buffers) a.1 ∙ prepared_read s.site.shape off len free
  by (inr a) = (let wrong : None ≡ Some (number, Read off len) = sym none ∙ a.0 in absurd (let no : ⊥ = cc in no))

pub is_reading : (s : Seg) (caller number : ℕ) (p : Paper) (off len : ℕ) → Sound s → next_step s caller (call_in p) ≡ step.Read → IsAsked s caller number p (call_in p) → p.call ≡ Some (Read off len)
    → IsReading s caller number p off len
is_reading s caller number p off len sound next asked has =
    let is = call_of p (Read off len) has in
    let now : IsAsked s caller number p (Read off len) = subst (IsAsked s caller number p) is asked in
    let v = served s caller (Read off len) step.Read tt (subst (λ (c : Asked). next_step s caller c ≡ step.Read) is next) in
    let none = fresh_read s caller number p off len sound now in
    let r = ready s caller number p (Read off len) now in
    record {
      is = is;
      free = v.free;
      few = v.few;
      none = none;
      newest = asked.newest;
      has = has;
      links = r.links;
      unanswered = r.unanswered;
      buffers = fresh_buffers s caller number p off len now none v.free;
      inside = reads_inside s.site.shape off len v.free;
    }

-- ---- its parts

covered : (block : ℕ) → Part → List ℕ
covered block part = range_with_len (place_of block part) part.len

parts_long : (block : ℕ) (parts : List Part) → part_bytes parts ≡ length (flat_map (covered block) parts)
unfolding covered
parts_long block [] = refl
parts_long block (part ∷ parts) =
    let rest = parts_long block parts in
    let size = length-range_with_len (place_of block part) part.len in
    let both = length-append (range_with_len (place_of block part) part.len) (flat_map (covered block) parts) in
    omega (arith, rest, size, both)

split_long : (k block off len : ℕ) (parts : List Part) → IsSplit k block off len parts → part_bytes parts ≡ len
unfolding covered
split_long k block off len parts split = parts_long block parts ∙ ap length split.covers ∙ length-range_with_len off len

pub may_read : (s : Seg) (parts : List Part) (off len m : ℕ) → Sound s → is_over s.site s.log ≡ false → HasRoom 2 s → IsSplit s.site.shape.k s.site.shape.block off len parts → m ≡ len → MayReadAll s parts m
may_read s parts off len m sound few room split same = record {
  sound = sound;
  few = few;
  room = room_first s room;
  inside = split.inside;
  fits = split_long s.site.shape.k s.site.shape.block off len parts split ∙ sym same;
}

-- ---- its answer

-- the bytes of the range
pub range_brought : (s : Seg) (off len : ℕ) (bytes : List ℕ) → Sound s → off + len ≤ segment_length s.site.shape
    → BringsAll s (parts_of s.site.shape.k s.site.shape.block off len) bytes → s.site.told ≡ true → bytes ≡ bytes_at (bytes_of s.site s.log) off len
range_brought s off len bytes sound inside brings told =
    brings told ∙ reads_by_parts s.site.shape.k s.site.shape.block off len (bytes_of s.site s.log) (keeps_length s.site s.log sound.history.legal) inside

plain_bytes : (told : Bool) (b : List ℕ) (off len : ℕ) (bytes : List ℕ) → length bytes ≡ len → (told ≡ true → bytes ≡ bytes_at b off len) → IsPlain told b (Read off len) (Bytes bytes)
plain_bytes true b off len bytes long is = ap (λ (l : List ℕ). Some (Bytes l)) (sym (is refl))
plain_bytes false b off len bytes long is = (bytes, refl, long)

pub bytes_answer : (count : ℕ → ℕ) (t mid : ℕ) (s v : Seg) (off len : ℕ) (bytes : List ℕ) → Reads count t mid s v → refusal s.site.shape (Read off len) ≡ None → is_over v.site v.log ≡ false
    → length bytes ≡ len → (s.site.told ≡ true → bytes ≡ bytes_at (bytes_of s.site s.log) off len) → IsAnswer v.site v.log (Read off len) (Bytes bytes)
bytes_answer count t mid s v off len bytes is free few long brings =
    let site = site_after count t mid s v is in
    let plain : IsPlain s.site.told (bytes_of s.site v.log) (Read off len) (Bytes bytes) = plain_bytes s.site.told (bytes_of s.site v.log) off len bytes long
    (λ told. brings told ∙ ap (λ (l : List ℕ). bytes_at l off len) (sym is.bytes)) in
    let over : is_over s.site v.log ≡ false = ap (λ (x : Site). is_over x v.log) (sym site) ∙ few in
    subst (λ (x : Site). IsAnswer x v.log (Read off len) (Bytes bytes)) (sym site) (answer_served s.site v.log (Read off len) (Bytes bytes) free over plain)

pub lost_answer : (count : ℕ → ℕ) (t mid : ℕ) (s v : Seg) (call : Asked) → Reads count t mid s v → refusal s.site.shape call ≡ None → is_over v.site v.log ≡ true → IsAnswer v.site v.log call Lost
lost_answer count t mid s v call is free over =
    let site = site_after count t mid s v is in
    answer_lost v.site v.log call (ap (λ (x : Site). refusal x.shape call) site ∙ free) over

-- ---- its end

entry_of : (caller : Caller) (number stamp : ℕ) (p q : Paper) (reply : Reply) → q.call ≡ p.call → ◌≡◌ {A = Entry} (Call caller number stamp (call_in q) reply) (Call caller number stamp (call_in p) reply)
entry_of caller number stamp p q reply same = ap (λ (o : Option Asked). Call caller number stamp (unwrap_or o Merge) reply) same

-- where too many columns are down by now
pub lost_ended : (s v u : Seg) (caller : Caller) (number : ℕ) (p q : Paper) (t mid stamp : ℕ) → Sound s → refusal s.site.shape (call_in p) ≡ None → is_over s.site s.log ≡ false
    → open_in s caller.0 ≡ None → All (λ m. m < number) (numbers_by caller.0 s.log) → Reads (λ i. 0) t mid s v → is_over v.site v.log ≡ true → q.call ≡ p.call
    → stamp ≡ next_stamp (clock_of v.log) mid → StampFollows v.log stamp → u ≡ record v { log = v.log ++ Call caller number stamp (call_in q) Lost ∷ [] }
    → IsEnded t mid stamp s v u caller number (call_in p) Lost
lost_ended s v u caller number p q t mid stamp sound free few none newest reads over same next follows becomes = record {
  sound = sound;
  reads = lost_reads (λ (i : ℕ). 0) (call_reads s (call_in p)) t mid s v sound few over reads;
  none = none;
  newest = newest;
  answer = lost_answer (λ (i : ℕ). 0) t mid s v (call_in p) reads free over;
  quiet = λ told. refl;
  plain = λ bytes. bytes;
  seen = λ w. tt;
  next = next;
  follows = follows;
  becomes = becomes ∙ ap (λ (e : Entry). record v { log = v.log ++ e ∷ [] }) (entry_of caller number stamp p q Lost same);
}

read_counts : (s : Seg) (parts : List Part) (call : Asked) (off len i : ℕ) → parts ≡ parts_of s.site.shape.k s.site.shape.block off len → call ≡ Read off len
    → call_reads s call i ≡ part_reads s.site.shape.k s.cols parts i
read_counts s parts call off len i are is =
    ap (λ (c : Asked). call_reads s c i) is ∙ sym (range_is s.site.shape s.cols off len i) ∙ ap (λ (l : List Part). part_reads s.site.shape.k s.cols l i) (sym are)

-- with its bytes
pub bytes_ended : (s v u : Seg) (caller : Caller) (number : ℕ) (p q : Paper) (off len t mid stamp : ℕ) (parts : List Part) (bytes : List ℕ) → Sound s → IsReading s caller.0 number p off len
    → parts ≡ parts_of s.site.shape.k s.site.shape.block off len → length bytes ≡ len
    → Reads (part_reads s.site.shape.k s.cols parts) t mid s v → is_over v.site v.log ≡ false → BringsAll s parts bytes → q.call ≡ p.call
    → stamp ≡ next_stamp (clock_of v.log) mid → StampFollows v.log stamp → u ≡ record v { log = v.log ++ Call caller number stamp (call_in q) (Bytes bytes) ∷ [] }
    → IsEnded t mid stamp s v u caller number (call_in p) (Bytes bytes)
bytes_ended s v u caller number p q off len t mid stamp parts bytes sound asked are long reads few brings same next follows becomes =
    let all : BringsAll s (parts_of s.site.shape.k s.site.shape.block off len) bytes = subst (λ (l : List Part). BringsAll s l bytes) are brings in
    let answer = bytes_answer (part_reads s.site.shape.k s.cols parts) t mid s v off len bytes reads asked.free few long (range_brought s off len bytes sound asked.inside all) in
    record {
      sound = sound;
      reads = reads_as (part_reads s.site.shape.k s.cols parts) (call_reads s (call_in p)) t mid s v (λ i lt. read_counts s parts (call_in p) off len i are asked.is) reads;
      none = asked.none;
      newest = asked.newest;
      answer = subst (λ (c : Asked). IsAnswer v.site v.log c (Bytes bytes)) (sym asked.is) answer;
      quiet = λ told. ap (plain_next (bytes_of v.site v.log)) asked.is;
      plain = λ bytes. rw (ap (plain_next (bytes_of v.site v.log)) asked.is) bytes;
      seen = λ w. tt;
      next = next;
      follows = follows;
      becomes = becomes ∙ ap (λ (e : Entry). record v { log = v.log ++ e ∷ [] }) (entry_of caller number stamp p q (Bytes bytes) same);
    }

pub buffers_long : (o : Option (List ℕ × List ℕ)) (both : List ℕ × List ℕ) (len : ℕ) → o ≡ Some both → o ≡ Some (replicate len 0, replicate len 0) → (length both.0 ≡ len) × (length both.1 ≡ len)
buffers_long o both len is are =
    let zeros : List ℕ × List ℕ = (replicate len 0, replicate len 0) in
    let wrapped : Some both ≡ Some zeros = sym is ∙ are in
    let same : both ≡ zeros = ap (λ (x : Option (List ℕ × List ℕ)). unwrap_or x both) wrapped in
    (ap (λ (x : List ℕ × List ℕ). length x.0) same ∙ length-replicate len 0, ap (λ (x : List ℕ × List ℕ). length x.1) same ∙ length-replicate len 0)
