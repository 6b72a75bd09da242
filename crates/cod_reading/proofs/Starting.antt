-- What is asked of an update that begins.
use Rattle.std.proofs.Common.{◌≡◌, ℕ, zero, suc, ◌+◌, ◌*◌, ◌<◌, ◌≤◌, List, [], ◌∷◌, length, map, All, Bool, true, false, cond, Option, Some, None, refl, sym, ap, ◌∙◌, subst, arith, inl, inr}
use Rattle.std.specs.Prelude.{◌⊎◌, ◌==◌, is_some, unwrap_or}
use Rattle.std.proofs.lemmas.Bool.{cases_lt}
use Rattle.std.proofs.lemmas.List.Elements.{All-cons, All-map}
use Rattle.cod_types.specs.Limits.{Shape}
use Rattle.cod_types.specs.Plain.{refusal}
use Rattle.cod_types.specs.declared.call.Call.{Call as Asked}
use Rattle.cod_types.specs.declared.call.Call.TheVariants.{Read, Write, Swap, Put, Merge, Tick, Rebuild, Upgrade, Drain}
use Rattle.cod_types.specs.declared.call.Reply.{Reply}
use Rattle.cod_layout.specs.declared.parts.Part.{Part}
use Rattle.cod_layout.specs.Parts.{IsInside, length_in, part_in, parts_among, parts_of, place_of}
use Rattle.cod_layout.proofs.Splitting.{among_none, among_some, parts_split}
use Rattle.cod_chronicle.specs.Said.{is_over, numbers_by}
use Rattle.cod_claims.specs.declared.claim.Claim.{Claim}
use Rattle.cod_claims.specs.Changes.{blank, Change, LiesInside, new_bytes}
use Rattle.cod_claims.specs.Claimed.{claim_at, HasNone, open_call}
use Rattle.cod_claims.specs.Slips.{AreWhole, buffers_for, changes_for, changes_of, links_for, Paper, prepared}
use Rattle.cod_claims.proofs.Opening.{opens_none}
use Rattle.cod_claims.proofs.Preparing.{blank_are, blank_whole}
use Rattle.cod_seg.specs.Calls.{range_len, range_off}
use Rattle.cod_seg.specs.Next.{next_step, open_in, open_of}
use Rattle.cod_seg.specs.Seg.{Rebuilding, Seg}
use Rattle.cod_seg.specs.Sound.{begin_of, is_update, length_on, Sound}
use Rattle.cod_seg.specs.declared.next.Step.TheVariants as step
use Rattle.cod_seg.proofs.Beginnings.{begin_where_free}
use Rattle.cod_seg.proofs.Updates.{accepted}
use Rattle.cod_segment.specs.Events.{call_in, HasBegun, HasRoom, IsAsked}
use Rattle.cod_reading.specs.Filling.{IsFilling, parts_in}
use Rattle.cod_reading.specs.Reads.{MayReadAll, part_bytes}
use Rattle.cod_reading.proofs.Asking.{call_of}
use Rattle.cod_reading.proofs.Ending.{room_first}

-- ---- the parts of a range

place_low : (block off len j n : ℕ) → All (λ (part : Part). off ≤ place_of block part) (parts_among block off len j n)
place_low block off len j zero = λ i d lt. absurd (omega (arith, lt))
place_low block off len j (suc n) =
    let rest = place_low block off len (j + 1) n in
    elim (cases_lt 0 (length_in block off len j)) [
      | inl some ↦ rw (among_some block off len j n some) (All-cons (λ (part : Part). off ≤ place_of block part) (part_in block off len j) _ (omega arith) rest)
      | inr none ↦ rw (among_none block off len j n none) rest
    ]

abbrev pub IsMet : (block off len : ℕ) → Part → Type 0
IsMet block off len part = 1 ≤ length_in block off len part.block

pub parts_met : (block off len j n : ℕ) → All (IsMet block off len) (parts_among block off len j n)
parts_met block off len j zero = λ i d lt. absurd (omega (arith, lt))
parts_met block off len j (suc n) =
    let rest = parts_met block off len (j + 1) n in
    elim (cases_lt 0 (length_in block off len j)) [
      | inl some ↦ rw (among_some block off len j n some) (All-cons (IsMet block off len) (part_in block off len j) _ (omega (arith, some)) rest)
      | inr none ↦ rw (among_none block off len j n none) rest
    ]

pub no_parts : (block off j n : ℕ) → parts_among block off 0 j n ≡ []
no_parts block off j zero = refl
no_parts block off j (suc n) = among_none block off 0 j n (omega arith) ∙ no_parts block off (j + 1) n

-- ---- an update

pub update_range : (call : Asked) → is_update call ≡ true → (range_off call ≡ begin_of call) × (range_len call ≡ length (new_bytes call))
update_range (Read off len) is = cc
update_range (Write off bytes) is = (refl, refl)
update_range (Swap off old new) is = (refl, refl)
update_range (Put bytes) is = cc
update_range Merge is = cc
update_range Tick is = cc
update_range Rebuild is = cc
update_range Upgrade is = cc
update_range (Drain node) is = cc

one_link : (call : Asked) → is_update call ≡ true → links_for call ≡ 1
one_link (Read off len) is = cc
one_link (Write off bytes) is = refl
one_link (Swap off old new) is = refl
one_link (Put bytes) is = cc
one_link Merge is = cc
one_link Tick is = cc
one_link Rebuild is = cc
one_link Upgrade is = cc
one_link (Drain node) is = cc

abbrev changes_from : Shape → Asked → List Change
changes_from g call = map (blank call g.block (begin_of call)) (parts_of g.k g.block (begin_of call) (length (new_bytes call)))

blank_changes : (g : Shape) (call : Asked) → is_update call ≡ true → changes_for g call ≡ Some (changes_from g call)
blank_changes g (Read off len) is = cc
blank_changes g (Write off bytes) is = refl
blank_changes g (Swap off old new) is = refl
blank_changes g (Put bytes) is = cc
blank_changes g Merge is = cc
blank_changes g Tick is = cc
blank_changes g Rebuild is = cc
blank_changes g Upgrade is = cc
blank_changes g (Drain node) is = cc

-- who has no claim doesn't have an update open
no_call : (claims : List (Option Claim)) (caller number : ℕ) (call : Asked) → HasNone caller claims → open_call caller claims ≡ Some (number, call) → ⊥
no_call claims caller number call idle is = (let wrong : ◌≡◌ {A = Option (ℕ × Asked)} None (Some (number, call)) = sym (opens_none claims caller idle) ∙ is in cc)

no_open : (claims : List (Option Claim)) (caller number : ℕ) (call : Asked) (o : Option Rebuilding) → is_update call ≡ true → HasNone caller claims → open_of caller claims o ≡ Some (number, call) → ⊥
no_open claims caller number call None update idle is = no_call claims caller number call idle is
no_open claims caller number call (Some r) update idle is = by (r.caller == caller) is where
  by : (b : Bool) → cond b (Some (r.number, Rebuild)) (open_call caller claims) ≡ Some (number, call) → ⊥
  by true e =
      let x : ℕ × Asked = (r.number, Rebuild) in
      let y : ℕ × Asked = (number, call) in
      let same : x ≡ y = cc in
      let wrong : is_update Rebuild ≡ true = ap (λ (q : ℕ × Asked). is_update q.1) same ∙ update in
      cc
  by false e = no_call claims caller number call idle e

fresh : (s : Seg) (caller number : ℕ) (p : Paper) (call : Asked) → is_update call ≡ true → HasNone caller s.claims → IsAsked s caller number p call → (open_in s caller ≡ None) × (p ≡ prepared s.site.shape call)
fresh s caller number p call update idle asked = by asked.state where
  by : ((open_in s caller ≡ None) × (p ≡ prepared s.site.shape call)) ⊎ ((open_in s caller ≡ Some (number, call)) × HasBegun p call) → (open_in s caller ≡ None) × (p ≡ prepared s.site.shape call)
  by (inl a) = a
  by (inr a) = absurd (no_open s.claims caller number call s.rebuild update idle a.0)

-- ---- its slip

filling_of : (s : Seg) (p : Paper) (call : Asked) (cs : List Change) → p.call ≡ Some call → p.links ≡ 1 → p.reply ≡ None → p.are_made ≡ false → p.changes ≡ Some cs
    → parts_in cs ≡ parts_of s.site.shape.k s.site.shape.block (begin_of call) (length (new_bytes call)) → All (λ (c : Change). c.call ≡ call) cs → All LiesInside cs
    → All (λ (c : Change). c.at + begin_of call ≡ place_of s.site.shape.block c.part) cs → AreWhole cs → IsFilling s 0 p
filling_of s p call cs has links unanswered early some parts asked inside from sized =
    let is = call_of p call has in
    let are : changes_of p ≡ cs = ap (λ (o : Option (List Change)). unwrap_or o []) some in
    record {
      has = has ∙ ap (λ (x : Asked). Some x) (sym is);
      links = links;
      unanswered = unanswered;
      early = early;
      some = some ∙ ap (λ (l : List Change). Some l) (sym are);
      parts = ap parts_in are ∙ parts ∙ ap (λ (x : Asked). parts_of s.site.shape.k s.site.shape.block (begin_of x) (length (new_bytes x))) (sym is);
      asked = subst (λ (l : List Change). All (λ (c : Change). c.call ≡ call_in p) l) (sym are) (subst (λ (x : Asked). All (λ (c : Change). c.call ≡ x) cs) (sym is) asked);
      inside = subst (All LiesInside) (sym are) inside;
      from = subst (λ (l : List Change). All (λ (c : Change). c.at + begin_of (call_in p) ≡ place_of s.site.shape.block c.part) l) (sym are)
          (subst (λ (x : Asked). All (λ (c : Change). c.at + begin_of x ≡ place_of s.site.shape.block c.part) cs) (sym is) from);
      sized = subst AreWhole (sym are) sized;
      old = λ told j low. absurd (omega (arith, low));
    }

-- ---- an update that begins

pub record IsBeginning (s : Seg) (caller number : ℕ) (p : Paper) : Type 0 where
  pub free : refusal s.site.shape (call_in p) ≡ None
  pub few : is_over s.site s.log ≡ false
  pub update : is_update (call_in p) ≡ true
  pub idle : HasNone caller s.claims
  pub vacant : (j : ℕ) → j < s.site.shape.k → 1 ≤ length_on s.site.shape (call_in p) j → claim_at s.claims j ≡ None
  pub none : open_in s caller ≡ None
  pub newest : All (λ m. m < number) (numbers_by caller s.log)
  pub fits : begin_of (call_in p) + length (new_bytes (call_in p)) ≤ s.site.shape.k * s.site.shape.block
  pub filling : IsFilling s 0 p
  pub buffers : p.buffers ≡ buffers_for (call_in p)

parts_same : (call : Asked) (block off : ℕ) (parts : List Part) → parts_in (map (blank call block off) parts) ≡ parts
parts_same call block off [] = refl
parts_same call block off (part ∷ parts) = ap (λ (l : List Part). part ∷ l) (parts_same call block off parts)

unless_refused : {T : Type 0} (o : Option Reply) (x : Option T) → o ≡ None → cond (is_some o) None x ≡ x
unless_refused o x e = ap (λ (r : Option Reply). cond (is_some r) None x) e

pub is_beginning : (s : Seg) (caller number : ℕ) (p : Paper) → Sound s → next_step s caller (call_in p) ≡ step.Begin → IsAsked s caller number p (call_in p) → IsBeginning s caller number p
is_beginning s caller number p sound next asked =
    let g = s.site.shape in
    let call = call_in p in
    let b = begin_where_free s caller call sound next in
    let f = fresh s caller number p call b.update b.idle asked in
    let fits = (accepted g call b.update b.free).inside in
    let off = begin_of call in
    let parts = parts_of g.k g.block off (length (new_bytes call)) in
    let most : g.k ≤ 16 = let n = sound.shape.most_columns in let m = sound.shape.data_among_columns in omega (arith, n, m) in
    let are = blank_are call g.k g.block off most fits in
    let changes : p.changes ≡ Some (changes_from g call) = ap (λ (x : Paper). x.changes) f.1 ∙ unless_refused (refusal g call) (changes_for g call) b.free ∙ blank_changes g call b.update in
    record {
      free = b.free;
      few = b.few;
      update = b.update;
      idle = b.idle;
      vacant = b.vacant;
      none = f.0;
      newest = asked.newest;
      fits = fits;
      filling = filling_of s p call (changes_from g call) (ap (λ (x : Paper). x.call) f.1) (ap (λ (x : Paper). x.links) f.1 ∙ one_link call b.update) (ap (λ (x : Paper). x.reply) f.1)
          (ap (λ (x : Paper). x.are_made) f.1) changes (parts_same call g.block off parts) are.same are.inside
          (All-map (λ (c : Change). c.at + off ≡ place_of g.block c.part) (blank call g.block off) parts
          (λ i d lt. let low = place_low g.block off (length (new_bytes call)) 0 g.k i d lt in omega (arith, low)))
          (blank_whole call g.block off parts);
      buffers = ap (λ (x : Paper). x.buffers) f.1 ∙ unless_refused (refusal g call) (buffers_for call) b.free;
    }

pub may_begin : (s : Seg) (caller number : ℕ) (p : Paper) → Sound s → HasRoom 2 s → IsBeginning s caller number p → MayReadAll s (parts_in (changes_of p)) (part_bytes (parts_in (changes_of p)))
may_begin s caller number p sound room is =
    let g = s.site.shape in
    let split = parts_split g.k g.block (begin_of (call_in p)) (length (new_bytes (call_in p))) is.fits in
    record {
      sound = sound;
      few = is.few;
      room = room_first s room;
      inside = subst (All (IsInside g.k g.block)) (sym is.filling.parts) split.inside;
      fits = refl;
    }
