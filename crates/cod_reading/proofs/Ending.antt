-- A call that is answered after reads.
use Rattle.std.proofs.Common.{◌≡◌, ℕ, zero, suc, ◌+◌, ◌<◌, ◌≤◌, ◌^◌, List, [], ◌∷◌, ◌++◌, length, get_or, map, All, Bool, true, false, cond, if◌then◌else◌, Option, Some, None, refl, sym, ap, ◌∙◌, subst, arith, inl, inr}
use Rattle.std.specs.Prelude.{IsTrue, nat_lt, ◌&&◌, ◌==◌}
use Rattle.std.proofs.lemmas.Bool.{both_ways, cases_lt, eqb-true, le-ltb, lt-ltb}
use Rattle.std.proofs.lemmas.List.{ext_get_or, get_or-map, length-map}
use Rattle.cod_types.specs.Limits.{Shape}
use Rattle.cod_types.specs.declared.call.Call.{Call as Asked}
use Rattle.cod_types.specs.declared.call.Caller.{Caller}
use Rattle.cod_types.specs.declared.call.Reply.{Reply}
use Rattle.cod_layout.specs.declared.parts.Part.{Part}
use Rattle.cod_layout.specs.Parts.{length_in, part_in, parts_among, parts_of}
use Rattle.cod_layout.proofs.Splitting.{among_no_more, among_one_more}
use Rattle.cod_place.specs.Room.{Room}
use Rattle.cod_code.specs.Codewords.{AreBytes}
use Rattle.cod_chronicle.specs.declared.entry.Entry.TheVariants.{Call}
use Rattle.cod_chronicle.specs.Event.{IsSeenReply, Setting}
use Rattle.cod_chronicle.specs.Legal.{IsAnswer}
use Rattle.cod_chronicle.specs.Said.{bytes_next, bytes_of, clock_of, next_stamp, numbers_by, Site, StampFollows}
use Rattle.cod_claims.specs.Slips.{Paper}
use Rattle.cod_seg.specs.Calls.{block_reads, costs, costs_on, is_source, nothing, range_len, range_off, range_reads}
use Rattle.cod_seg.specs.Laws.{up_below}
use Rattle.cod_seg.specs.Next.{open_in}
use Rattle.cod_seg.specs.Seg.{Col, col_at, Rebuilding, Seg, Target}
use Rattle.cod_seg.specs.Sound.{is_frail, Sound}
use Rattle.cod_seg.specs.declared.next.Step.{Step}
use Rattle.cod_seg.specs.declared.next.Step.TheVariants as step
use Rattle.cod_segment.specs.declared.asking.Outcome.TheVariants.{Answered}
use Rattle.cod_segment.specs.Events.{Costs, Counts, CountsRebuild, CountsTarget, HasRoom, IsOutcome, IsSettingOf, Makes, NoneFails, rebuild_rooms, request_of, rooms_of}
use Rattle.cod_segment.proofs.Answering.{idle, outcome, sound_after, spoken}
use Rattle.cod_reading.specs.Reads.{part_reads, Reads}
use Rattle.cod_reading.proofs.Chaining.{frail_after, makes_then, site_after}
use Rattle.cod_reading.proofs.Parting.{reads_append}

-- ---- the reads of a range

none_down : (k : ℕ) (cols : List Col) (j i : ℕ) → (col_at cols i).is_up ≡ false → block_reads k cols j i ≡ 0
none_down k cols j i down = by (col_at cols j).is_up refl where
  own : (b : Bool) → (j == i) ≡ b → (col_at cols j).is_up ≡ true → ◌≡◌ {A = ℕ} (cond b 1 0) 0
  own true e up = absurd (both_ways (col_at cols i).is_up down (ap (λ (x : ℕ). (col_at cols x).is_up) (sym (eqb-true j i e)) ∙ up))
  own false e up = refl

  by : (u : Bool) → (col_at cols j).is_up ≡ u → ◌≡◌ {A = ℕ} (cond u (cond (j == i) 1 0) (cond (is_source k cols i) 1 0)) 0
  by true e = own (j == i) refl e
  by false e = ap (λ (b : Bool). cond {A = ℕ} (b && nat_lt (up_below i cols) k) 1 0) down

range_none_down : (m : ℕ) (g : Shape) (cols : List Col) (off len i : ℕ) → (col_at cols i).is_up ≡ false → range_reads m g cols off len i ≡ 0
range_none_down zero g cols off len i down = refl
range_none_down (suc m) g cols off len i down =
    let rest = range_none_down m g cols off len i down in
    let e : ◌≡◌ {A = ℕ} (cond (nat_lt 0 (length_in g.block off len m)) (block_reads g.k cols m i) 0) 0 =
    ap (λ (x : ℕ). cond {A = ℕ} (nat_lt 0 (length_in g.block off len m)) x 0) (none_down g.k cols m i down) ∙ both (nat_lt 0 (length_in g.block off len m)) in
    omega (arith, rest, e) where
      both : (b : Bool) → ◌≡◌ {A = ℕ} (cond b 0 0) 0
      both true = refl
      both false = refl

parts_to : (m : ℕ) (g : Shape) (cols : List Col) (off len i : ℕ) → part_reads g.k cols (parts_among g.block off len 0 m) i ≡ range_reads m g cols off len i
parts_to zero g cols off len i = refl
parts_to (suc m) g cols off len i =
    let before = parts_to m g cols off len i in
    let at : suc m ≡ m + 1 = omega arith in
    let here : part_reads g.k cols (parts_among g.block off len 0 (suc m)) i ≡ part_reads g.k cols (parts_among g.block off len 0 (m + 1)) i =
    ap (λ (x : ℕ). part_reads g.k cols (parts_among g.block off len 0 x) i) at in
    elim (cases_lt 0 (length_in g.block off len m)) [
      | inl some ↦
          let e = ap (λ (l : List Part). part_reads g.k cols l i) (among_one_more g.block off len m some)
          ∙ reads_append g.k cols (parts_among g.block off len 0 m) (part_in g.block off len m ∷ []) i in
          let t : ◌≡◌ {A = ℕ} (cond (nat_lt 0 (length_in g.block off len m)) (block_reads g.k cols m i) 0) (block_reads g.k cols m i) =
          ap (λ (b : Bool). cond {A = ℕ} b (block_reads g.k cols m i) 0) (lt-ltb 0 (length_in g.block off len m) some) in
          omega (arith, before, here, e, t)
      | inr none ↦
          let e = ap (λ (l : List Part). part_reads g.k cols l i) (among_no_more g.block off len m none) in
          let t : ◌≡◌ {A = ℕ} (cond (nat_lt 0 (length_in g.block off len m)) (block_reads g.k cols m i) 0) 0 =
          ap (λ (b : Bool). cond {A = ℕ} b (block_reads g.k cols m i) 0) (le-ltb 0 (length_in g.block off len m) none) in
          omega (arith, before, here, e, t)
    ]

pub range_is : (g : Shape) (cols : List Col) (off len i : ℕ) → part_reads g.k cols (parts_of g.k g.block off len) i ≡ range_reads g.k g cols off len i
range_is g cols off len i = parts_to g.k g cols off len i

-- the reads of a call's range
abbrev pub call_reads : Seg → Asked → ℕ → ℕ
call_reads s call i = range_reads s.site.shape.k s.site.shape s.cols (range_off call) (range_len call) i

-- ---- what an event costs

target_still : (s : Seg) (caller : ℕ) (next : Step) → ((col : ℕ) (t : Target) → costs_on s caller col next t ≡ nothing) → (o : Option Rebuilding) → CountsRebuild s caller next o o
target_still s caller next none None = tt
target_still s caller next none (Some r) = λ t goal. by t r.target goal where
  by : (t : Target) (o : Option Target) → o ≡ Some t → CountsTarget (costs_on s caller r.col next t) o o
  by t None e = tt
  by t (Some q) e = rw (none r.col t) (refl, refl)

-- a column's reads, where none failed
counts_each : (s v u : Seg) (call : Asked) (t mid : ℕ) → Reads (call_reads s call) t mid s v → u.cols ≡ v.cols → NoneFails s u → (i : ℕ) → i < s.site.shape.n
    → Counts (if (col_at s.cols i).is_up then costs (call_reads s call i) 0 else nothing) (col_at s.cols i).state.device (col_at u.cols i).state.device
counts_each s v u call t mid is cols none i below =
    let counted = is.counts (λ m lt up. subst (λ (l : List Col). (col_at l m).is_up ≡ true) cols (none m lt up)) i below in
    subst (λ (l : List Col). Counts (cond (col_at s.cols i).is_up (costs (call_reads s call i) 0) nothing) (col_at s.cols i).state.device (col_at l i).state.device) (sym cols)
    (rw (by (col_at s.cols i).is_up refl) counted) where
      by : (b : Bool) → (col_at s.cols i).is_up ≡ b → cond b (costs (call_reads s call i) 0) nothing ≡ costs (call_reads s call i) 0
      by true e = refl
      by false e = ap (λ (m : ℕ). costs m 0) (sym (range_none_down s.site.shape.k s.site.shape s.cols (range_off call) (range_len call) i e))

pub costs_read : (s v u : Seg) (caller : ℕ) (call : Asked) (t mid : ℕ) → Reads (call_reads s call) t mid s v → u.cols ≡ v.cols → u.rebuild ≡ s.rebuild
    → NoneFails s u → Costs s caller call step.Read u
costs_read s v u caller call t mid is cols rebuild none = record {
  columns = λ i below node. counts_each s v u call t mid is cols none i below;
  target = rw rebuild (target_still s caller step.Read (λ col goal. refl) s.rebuild);
}

pub costs_begin : (s v u : Seg) (caller : ℕ) (call : Asked) (t mid : ℕ) → Reads (call_reads s call) t mid s v → u.cols ≡ v.cols → u.rebuild ≡ s.rebuild
    → NoneFails s u → Costs s caller call step.Begin u
costs_begin s v u caller call t mid is cols rebuild none = record {
  columns = λ i below node. counts_each s v u call t mid is cols none i below;
  target = rw rebuild (target_still s caller step.Begin (λ col goal. refl) s.rebuild);
}

-- ---- rooms

pub rooms_kept : (count : ℕ → ℕ) (t mid : ℕ) (s v u : Seg) → Sound s → Reads count t mid s v → u.cols ≡ v.cols → u.rebuild ≡ v.rebuild → rooms_of u ≡ rooms_of s
rooms_kept count t mid s v u sound is cols rebuild =
    let site = site_after count t mid s v is in
    let a = sound.columns.size in
    let b = is.sound.columns.size ∙ ap (λ (x : Site). x.shape.n) site in
    let room : Col → Room = λ c. c.room in
    let first = length-map v.cols room in
    let second = length-map s.cols room in
    let each : map room v.cols ≡ map room s.cols = ext_get_or (col_at s.cols 0).room (map room v.cols) (map room s.cols) (omega (arith, a, b, first, second))
    (λ i lt. at v.cols i (omega (arith, lt, first)) ∙ is.rooms i ∙ sym (at s.cols i (omega (arith, lt, first, a, b)))) in
    let still : u.rebuild ≡ s.rebuild = rebuild ∙ ap (λ (x : Seg). x.rebuild) is.becomes in
    ap (λ (o : Option Rebuilding). rebuild_rooms o ++ map room u.cols) still ∙ ap (λ (l : List Room). rebuild_rooms s.rebuild ++ l) (ap (map room) cols ∙ each) where
      at : (cols : List Col) (i : ℕ) → i < length cols → get_or (map (λ (c : Col). c.room) cols) i (col_at s.cols 0).room ≡ (col_at cols i).room
      at cols i lt = get_or-map (λ (c : Col). c.room) cols i (col_at [] 0) (col_at s.cols 0).room lt

-- ---- the answer

-- a setting in which nothing is killed, and regions fail where they may
pub setting_of : Seg → Setting
setting_of s = record { site = s.site; known = λ x. None; seen = λ x. None; may = λ node. is_frail s.frail node }

truly : (b : Bool) → b ≡ true → IsTrue b
truly true e = refl
truly false e = cc

pub setting_is : (s : Seg) → IsSettingOf (setting_of s) s
unfolding setting_of
setting_is s = record { site = refl; may = λ node e. truly (is_frail s.frail node) e }

-- A call that its caller has not begun is answered after reads, and changes no byte.
pub record IsEnded (t mid stamp : ℕ) (s v u : Seg) (caller : Caller) (number : ℕ) (call : Asked) (reply : Reply) : Type 0 where
  pub sound : Sound s
  pub reads : Reads (call_reads s call) t mid s v
  pub none : open_in s caller.0 ≡ None
  pub newest : All (λ m. m < number) (numbers_by caller.0 s.log)
  pub answer : IsAnswer v.site v.log call reply
  pub quiet : v.site.told ≡ true → bytes_next (bytes_of v.site v.log) (Call caller number stamp call reply) ≡ bytes_of v.site v.log
  pub plain : AreBytes (bytes_of v.site v.log) → AreBytes (bytes_next (bytes_of v.site v.log) (Call caller number stamp call reply))
  pub seen : (w : Setting) → IsSeenReply w.seen w.may reply
  pub next : stamp ≡ next_stamp (clock_of v.log) mid
  pub follows : StampFollows v.log stamp
  pub becomes : u ≡ record v { log = v.log ++ Call caller number stamp call reply ∷ [] }

pub newest_after : (count : ℕ → ℕ) (t mid caller number : ℕ) (s v : Seg) → Reads count t mid s v → All (λ m. m < number) (numbers_by caller s.log) → All (λ m. m < number) (numbers_by caller v.log)
newest_after count t mid caller number s v is newest = rw (is.numbers caller) newest

pub ended_makes : (w : Setting) (t mid stamp : ℕ) (s v u : Seg) (caller : Caller) (number : ℕ) (call : Asked) (reply : Reply) → IsEnded t mid stamp s v u caller number call reply → IsSettingOf w s
    → Makes w (request_of caller.0 number call) t stamp true s u
ended_makes w t mid stamp s v u caller number call reply is setting =
    let r = request_of caller.0 number call in
    let site = site_after (call_reads s call) t mid s v is.reads in
    let frail = frail_after (call_reads s call) t mid s v is.reads in
    let calm = idle s caller.0 is.sound is.none in
    let claims : v.claims ≡ s.claims = ap (λ (x : Seg). x.claims) is.reads.becomes in
    let rebuild : v.rebuild ≡ s.rebuild = ap (λ (x : Seg). x.rebuild) is.reads.becomes in
    let last = spoken w v u caller number stamp mid v.version call reply (rw claims calm.0) (rw rebuild calm.1) (newest_after (call_reads s call) t mid caller.0 number s v is.reads is.newest) is.answer is.quiet is.plain
    (inl refl) (is.seen w) is.next is.follows is.becomes in
    makes_then w r t mid stamp true s v u (is.reads.makes w r setting) last

pub ended_sound : (t mid stamp : ℕ) (s v u : Seg) (caller : Caller) (number : ℕ) (call : Asked) (reply : Reply) → IsEnded t mid stamp s v u caller number call reply → Sound u
ended_sound t mid stamp s v u caller number call reply is =
    sound_after (setting_of s) (request_of caller.0 number call) t stamp true s u is.sound (ended_makes (setting_of s) t mid stamp s v u caller number call reply is (setting_is s))

pub ended_outcome : (t mid stamp : ℕ) (s v u : Seg) (caller : Caller) (number : ℕ) (call : Asked) (reply : Reply) (p : Paper) → IsEnded t mid stamp s v u caller number call reply → p.reply ≡ Some reply
    → IsOutcome (Answered (length v.log) stamp) (request_of caller.0 number call) stamp u p
ended_outcome t mid stamp s v u caller number call reply p is told =
    outcome v u caller number stamp v.version call reply p (ap (λ (x : Seg). open_in x caller.0) is.reads.becomes ∙ is.none) is.becomes told

pub ended_read : (t mid stamp : ℕ) (s v u : Seg) (caller : Caller) (number : ℕ) (call : Asked) (reply : Reply) → IsEnded t mid stamp s v u caller number call reply
    → NoneFails s u → Costs s caller.0 call step.Read u
ended_read t mid stamp s v u caller number call reply is =
    costs_read s v u caller.0 call t mid is.reads (ap (λ (x : Seg). x.cols) is.becomes) (ap (λ (x : Seg). x.rebuild) is.becomes ∙ ap (λ (x : Seg). x.rebuild) is.reads.becomes)

pub ended_begin : (t mid stamp : ℕ) (s v u : Seg) (caller : Caller) (number : ℕ) (call : Asked) (reply : Reply) → IsEnded t mid stamp s v u caller number call reply
    → NoneFails s u → Costs s caller.0 call step.Begin u
ended_begin t mid stamp s v u caller number call reply is =
    costs_begin s v u caller.0 call t mid is.reads (ap (λ (x : Seg). x.cols) is.becomes) (ap (λ (x : Seg). x.rebuild) is.becomes ∙ ap (λ (x : Seg). x.rebuild) is.reads.becomes)

pub ended_rooms : (t mid stamp : ℕ) (s v u : Seg) (caller : Caller) (number : ℕ) (call : Asked) (reply : Reply) → IsEnded t mid stamp s v u caller number call reply → rooms_of u ≡ rooms_of s
ended_rooms t mid stamp s v u caller number call reply is =
    rooms_kept (call_reads s call) t mid s v u is.sound is.reads (ap (λ (x : Seg). x.cols) is.becomes) (ap (λ (x : Seg). x.rebuild) is.becomes)

-- there is room for the marks and the call
up_most : (n : ℕ) (cols : List Col) → up_below n cols ≤ n
up_most zero cols = omega arith
up_most (suc n) cols = (let rest = up_most n cols in let one = by (col_at cols n).is_up in omega (arith, rest, one)) where
  by : (b : Bool) → cond {A = ℕ} b 1 0 ≤ 1
  by true = omega arith
  by false = omega arith

pub room_first : (s : Seg) → HasRoom 2 s → length s.log + up_below s.site.shape.n s.cols < 2 ^ 63
room_first s room = (let most = up_most s.site.shape.n s.cols in omega (arith, room, most))

pub room_last : (count : ℕ → ℕ) (t mid : ℕ) (s v : Seg) → HasRoom 2 s → Reads count t mid s v → length v.log + 1 < 2 ^ 63
room_last count t mid s v room is = (let most = up_most s.site.shape.n s.cols in let long = is.long in omega (arith, room, most, long))
