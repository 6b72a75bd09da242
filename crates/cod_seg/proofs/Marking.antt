-- What marks keep: an update applied or noted, and a column that goes down.
use Rattle.std.proofs.Common.{◌≡◌, ◌≢◌, ℕ, ◌+◌, ◌-◌, ◌*◌, ◌<◌, ◌≤◌, max, min, List, length, get_or, set, true, false, refl, sym, ap, ap₂, ◌∙◌, subst, inl, inr, bit_xor, arith, Some, None, Option}
use Rattle.std.specs.Prelude.{is_some}
use Rattle.std.specs.List.{All}
use Rattle.std.specs.Option.{option_map}
use Rattle.std.specs.Int.Bits.{xor_zero_r}
use Rattle.std.proofs.lemmas.Bool.{cases_eq, cases_lt, ne_eqb, eq-eqb}
use Rattle.std.proofs.lemmas.List.{get_or-set_same, get_or-set_other, length-set}
use Rattle.std.proofs.lemmas.Grind.{common_steps}
use Rattle.cod_types.specs.declared.call.Caller.{Caller}
use Rattle.cod_types.specs.Overwritten.{byte_at, overwritten, byte_of}
use Rattle.cod_types.specs.Plain.{bytes_at}
use Rattle.cod_types.proofs.Replaced.{byte_in, byte_before, byte_after, get_or-overwritten, length-overwritten}
use Rattle.cod_layout.specs.declared.parts.Part.{Part}
use Rattle.cod_layout.specs.Parts.{place_of}
use Rattle.cod_code.specs.Segments.{column_byte}
use Rattle.cod_code.proofs.Segments.{data_byte}
use Rattle.cod_chronicle.specs.declared.entry.Entry.{Entry}
use Rattle.cod_chronicle.specs.Said.{Site, bytes_of, numbers_by}
use Rattle.cod_claims.specs.declared.claim.Claim.{Claim}
use Rattle.cod_claims.specs.Changes.{Change, IsDelta, new_bytes, new_in}
use Rattle.cod_claims.specs.Claimed.{applied, claim_at, HasNone, is_of, kept_of, noted, noted_length, with_applied, with_note}
use Rattle.cod_claims.proofs.Claiming.{applied_keeps, at_set, comes_from_one, ComesFrom, kept_by, noted_keeps}
use Rattle.cod_parity.specs.Held.{with_piece}
use Rattle.cod_parity.specs.State.{State}
use Rattle.cod_parity.proofs.Unique.{held_again}
use Rattle.cod_seg.specs.Seg.{col_at, Rebuilding, Seg}
use Rattle.cod_seg.specs.Sound.{AreOpen, begin_of, IsClaim, IsSingle, length_on, noted_piece, pending_on, piece_on, Sound}
use Rattle.cod_seg.specs.Steps.{Applies, applied_to, Notes}
use Rattle.cod_code.proofs.Changing.{xor_back}
use Rattle.cod_seg.proofs.Updates.{range_at}
use Rattle.cod_seg.proofs.Keeping.{column_worked, columns_set, has_none, holds_set, of_each}

-- claims that changed in their marks alone
pub open_marked : (site : Site) (log : List Entry) (claims later : List (Option Claim)) → length later ≡ length claims → ((j : ℕ) (d : Claim) → claim_at later j ≡ Some d → ComesFrom claims j d)
    → ((w m : ℕ) → is_of w (claim_at later m) ≡ is_of w (claim_at claims m)) → AreOpen site log claims → AreOpen site log later
open_marked site log claims later size from owners are = record {
  sixteen = kept_by claims later are.sixteen size from;
  each = λ j d here.
      let f = from j d here in
      let is : IsClaim site log claims j f.was = are.each j f.was f.here in
      record {
        among = is.among;
        newest = subst (λ (n : ℕ). All (λ m. m < n) (numbers_by d.owner.0 log)) (sym f.from.number)
            (subst (λ (o : Caller). All (λ m. m < f.was.number) (numbers_by o.0 log)) (sym f.from.owner) is.newest);
        update = rw f.from.delta is.update;
        free = rw f.from.delta is.free;
        done = rw f.from.delta is.done;
        part = rw f.from.delta is.part;
        some = rw f.from.delta is.some;
        from = rw f.from.delta is.from;
        bytes = rw f.from.delta is.bytes;
        size = rw f.from.delta is.size;
        delta = rw f.from.delta is.delta;
        all = λ m lt l. owners d.owner.0 m ∙ subst (λ (o : Caller). is_of o.0 (claim_at claims m) ≡ true) (sym f.from.owner)
            (is.all m lt (subst (λ (x : Change). 1 ≤ length_on site.shape x.call m) f.from.delta l));
      };
}

-- a caller that had no claim has none
pub none_marked : (who : ℕ) (claims later : List (Option Claim)) → ((m : ℕ) → is_of who (claim_at later m) ≡ is_of who (claim_at claims m)) → HasNone who claims → HasNone who later
none_marked who claims later same none = of_each who later (λ m. same m ∙ has_none who claims none m)

single_marked : (claims later : List (Option Claim)) (o : Option Rebuilding) → ((w m : ℕ) → is_of w (claim_at later m) ≡ is_of w (claim_at claims m)) → IsSingle claims o → IsSingle later o
single_marked claims later None same single = tt
single_marked claims later (Some r) same single = none_marked r.caller claims later (same r.caller) single

owner_one : (f : Option Claim → Option Claim) → ((w : ℕ) (o : Option Claim) → is_of w (f o) ≡ is_of w o) → (claims : List (Option Claim)) (b : ℕ) → b < length claims → (w m : ℕ)
    → is_of w (claim_at (set claims b (f (claim_at claims b))) m) ≡ is_of w (claim_at claims m)
owner_one f same claims b below w m = elim (cases_eq m b) [
  | inl here ↦ ap (is_of w) ((at_set claims b (f (claim_at claims b)) m below).1 here) ∙ same w (claim_at claims b) ∙ ap (λ (n : ℕ). is_of w (claim_at claims n)) (sym here)
  | inr other ↦ ap (is_of w) ((at_set claims b (f (claim_at claims b)) m below).0 other)
]

owner_applied : (w : ℕ) (o : Option Claim) → is_of w (applied o) ≡ is_of w o
owner_applied w None = refl
owner_applied w (Some c) = refl

owner_noted : (i len w : ℕ) (o : Option Claim) → is_of w (noted i len o) ≡ is_of w o
owner_noted i len w None = refl
owner_noted i len w (Some c) = refl

piece_applied : (k i j : ℕ) (o : Option Claim) → noted_piece k i j o ≡ noted_piece k i j (applied o)
piece_applied k i j None = refl
piece_applied k i j (Some c) = refl

kept_noted : (i len x : ℕ) (o : Option Claim) → byte_of (kept_of o) x ≡ byte_of (kept_of (noted i len o)) x
kept_noted i len x None = refl
kept_noted i len x (Some c) = refl

-- the bytes of a part after the update's were written there
part_written : (b new delta : List ℕ) (base off len x held : ℕ) → IsDelta (bytes_at b (base + off) len) new delta → length delta ≡ len → length new ≡ len → held ≡ get_or b (base + x) 0
    → byte_at x held off new ≡ bit_xor (get_or b (base + x) 0) (byte_at x 0 off delta)
part_written b new delta base off len x held is size long old = elim (cases_lt x off) [
  | inl before ↦ byte_before x held off new before ∙ old ∙ sym (ap (bit_xor (get_or b (base + x) 0)) (byte_before x 0 off delta before) ∙ xor_zero_r (get_or b (base + x) 0))
  | inr low ↦ elim (cases_lt x (off + len)) [
    | inl within ↦
        let first : base + off + (x - off) ≡ base + x = omega arith in
        let places : get_or delta (x - off) 0 ≡ bit_xor (get_or b (base + x) 0) (get_or new (x - off) 0) =
        is.places (x - off) ∙ ap (λ (z : ℕ). bit_xor z (get_or new (x - off) 0)) (range_at b (base + off) len (x - off) (omega arith) ∙ ap (λ (n : ℕ). get_or b n 0) first) in
        byte_in x held off new low (omega (arith, long)) ∙ sym (xor_back (get_or b (base + x) 0) (get_or new (x - off) 0))
        ∙ ap (bit_xor (get_or b (base + x) 0)) (sym places ∙ sym (byte_in x 0 off delta low (omega (arith, size))))
    | inr high ↦ byte_after x held off new (omega (arith, long)) ∙ old ∙ sym (ap (bit_xor (get_or b (base + x) 0)) (byte_after x 0 off delta (omega (arith, size)))
        ∙ xor_zero_r (get_or b (base + x) 0))
  ]
]

-- where the part of a claim lies
pub record IsPlaced (site : Site) (j : ℕ) (c : Claim) : Type 0 where
  pub place : place_of site.shape.block c.delta.part ≡ j * site.shape.block + c.delta.part.off
  pub inside : c.delta.part.off + c.delta.part.len ≤ site.shape.block
  pub long : length (new_in c.delta) ≡ c.delta.part.len

pub placed : (site : Site) (log : List Entry) (claims : List (Option Claim)) (j : ℕ) (c : Claim) → IsClaim site log claims j c → IsPlaced site j c
placed site log claims j c is =
    let block = site.shape.block in
    let at_block : c.delta.part.block ≡ j = ap (λ (p : Part). p.block) is.part in
    let off : c.delta.part.off ≡ max (begin_of c.delta.call) (j * block) - j * block = ap (λ (p : Part). p.off) is.part in
    let len : c.delta.part.len ≡ min (begin_of c.delta.call + length (new_bytes c.delta.call)) (j * block + block) - max (begin_of c.delta.call) (j * block) = ap (λ (p : Part). p.len) is.part in
    let place : place_of block c.delta.part ≡ j * block + c.delta.part.off = ap (λ (n : ℕ). n * block + c.delta.part.off) at_block in
    let some = is.some in
    let at : c.delta.at + begin_of c.delta.call ≡ j * block + c.delta.part.off = is.from ∙ place in
    let room : c.delta.at + c.delta.part.len ≤ length (new_bytes c.delta.call) = omega (arith, off, len, some, at) in
    record {
      place = place;
      inside = omega (arith, off, len, some);
      long = grind (arith, common_steps);
    }

-- the content of a column after the write
pub written : (o : Option (List ℕ)) (off : ℕ) (new held : List ℕ) → option_map (overwritten off new) o ≡ Some held → (before : List ℕ) × (o ≡ Some before) × (overwritten off new before ≡ held)
written None off new held e = cc
written (Some before) off new held e = (before, refl, cc)

pub is_some_map : (o : Option (List ℕ)) (f : List ℕ → List ℕ) → is_some (option_map f o) ≡ is_some o
is_some_map None f = refl
is_some_map (Some x) f = refl

pub applies_keep : (s t : Seg) (j : ℕ) → Sound s → Applies j s t → Sound t
applies_keep s t j sound step =
    let g = s.site.shape in
    let b = bytes_of s.site s.log in
    let c = step.claim in
    let old = col_at s.cols j in
    let col = applied_to c step.writes old in
    let is : IsClaim s.site s.log s.claims j c = sound.claimed.each j c step.there in
    let at = placed s.site s.log s.claims j c is in
    let low : j < g.k = is.among in
    let below : j < g.n = let m = sound.shape.data_among_columns in omega (arith, m, low) in
    let few : j < 16 = let m = sound.shape.most_columns in omega (arith, m, below) in
    let long = sound.columns.size in
    let column = sound.columns.each j below in
    let size : old.state.device.size ≡ g.block = column.block low in
    let in_claims : j < length s.claims = let n = sound.claimed.sixteen.blocks in omega (arith, n, few) in
    let fits = at.inside in
    let new_long = at.long in
    rw step.becomes (record {
      shape = sound.shape;
      dated = sound.dated;
      history = sound.history;
      columns = columns_set s.site s.frail s.pools s.log s.cols j col below sound.columns (record {
        there = column.there;
        up = column.up;
        shape = column.shape;
        tells = is_some_map old.state.device.content (overwritten c.delta.part.off (new_in c.delta)) ∙ column.tells;
        full = λ held told.
            let w = written old.state.device.content c.delta.part.off (new_in c.delta) held told in
            let f = column.full w.0 w.1 in
            ap length (sym w.2) ∙ length-overwritten c.delta.part.off (new_in c.delta) w.0 (omega (arith, f, size, fits, new_long)) ∙ f;
        clean = column.clean;
        marked = column.marked;
        owned = column.owned;
        sure = column.sure;
        fits = column.fits;
        roomy = column.roomy;
        block = column.block;
        plain = λ l. ap (λ (q : State). record q { device = col.state.device }) (column.plain l);
        reserve = λ high. absurd (omega (arith, high, low));
        exact = λ high u. absurd (omega (arith, high, low));
      });
      cut = sound.cut;
      claimed = open_marked s.site s.log s.claims (with_applied j s.claims) (length-set s.claims j (applied (claim_at s.claims j))) (comes_from_one applied applied_keeps s.claims j in_claims)
          (owner_one applied owner_applied s.claims j in_claims) sound.claimed;
      rebuilt = sound.rebuilt;
      single = single_marked s.claims (with_applied j s.claims) s.rebuild (λ w m. owner_one applied owner_applied s.claims j in_claims w m) sound.single;
      holds = λ told enough.
          let before = sound.holds told enough in
          holds_set g b s.cuts s.claims (with_applied j s.claims) s.cols j col s.rebuild s.rebuild (omega (arith, long, below)) before
          (λ m x o. ap (λ (q : Option Claim). byte_of (kept_of q) x) (sym ((at_set s.claims j (applied (claim_at s.claims j)) m in_claims).0 o)))
          (λ m i o. elim (cases_eq i j) [
            | inl here ↦ piece_applied g.k m i (claim_at s.claims i) ∙ ap (noted_piece g.k m i) (ap (λ (n : ℕ). applied (claim_at s.claims n)) here
                ∙ sym ((at_set s.claims j (applied (claim_at s.claims j)) i in_claims).1 here))
            | inr there ↦ ap (noted_piece g.k m i) (sym ((at_set s.claims j (applied (claim_at s.claims j)) i in_claims).0 there))
          ])
          (λ l u.
          let has = before.blocks j low step.live in
          record {
            held = overwritten c.delta.part.off (new_in c.delta) has.held;
            told = ap (option_map (overwritten c.delta.part.off (new_in c.delta))) has.told;
            each = λ x lt.
                let f = column.full has.held has.told in
                let kept : byte_of (kept_of (claim_at s.claims j)) x ≡ 0 = ap (λ (q : Option Claim). byte_of (kept_of q) x) step.there ∙ (rw step.fresh refl) in
                let cb : column_byte g.k g.block j b x ≡ get_or b (j * g.block + x) 0 = data_byte g.k g.block j x b (omega (arith, few, low, below)) sound.history.plain low in
                let was : get_or has.held x 0 ≡ get_or b (j * g.block + x) 0 = has.each x lt ∙ ap₂ bit_xor cb kept ∙ xor_zero_r (get_or b (j * g.block + x) 0) in
                let delta : IsDelta (bytes_at b (j * g.block + c.delta.part.off) c.delta.part.len) (new_in c.delta) c.delta.bytes =
                subst (λ (n : ℕ). IsDelta (bytes_at b n c.delta.part.len) (new_in c.delta) c.delta.bytes) at.place (is.delta told) in
                let now : claim_at (with_applied j s.claims) j ≡ applied (Some c) = (at_set s.claims j (applied (claim_at s.claims j)) j in_claims).1 refl ∙ ap applied step.there in
                get_or-overwritten c.delta.part.off (new_in c.delta) has.held x (omega (arith, f, size, fits, new_long))
                ∙ part_written b (new_in c.delta) c.delta.bytes (j * g.block) c.delta.part.off c.delta.part.len x (get_or has.held x 0) delta is.size at.long was
                ∙ ap₂ bit_xor (sym cb) (ap (λ (q : Option Claim). byte_of (kept_of q) x) (sym now));
          })
          (λ high lt u. absurd (omega (arith, high, low)))
          before.target;
    })

pub is_none_of : {A : Type 0} (o : Option A) → is_some o ≡ false → o ≡ None
is_none_of None e = refl
is_none_of (Some x) e = cc

-- what a note changes of the records in flight
piece_noted : (k i j len : ℕ) (c : Claim) → i < length c.noted → Some (piece_on k i j len c) ≡ noted_piece k i j (noted i len (Some c))
piece_noted k i j len c below = ap (option_map (λ l. piece_on k i j l c)) (sym (get_or-set_same c.noted i (Some len) None below))

piece_other : (k i len m j : ℕ) (o : Option Claim) → m ≢ i → noted_piece k m j o ≡ noted_piece k m j (noted i len o)
piece_other k i len m j None other = refl
piece_other k i len m j (Some c) other = ap (option_map (λ l. piece_on k m j l c)) (sym (get_or-set_other c.noted i m (Some len) None other))

pub notes_keep : (s t : Seg) (j i : ℕ) → s.site.shape.k ≤ i → i < s.site.shape.n → Sound s → Notes j i s t → Sound t
notes_keep s t j i high below sound step =
    let g = s.site.shape in
    let b = bytes_of s.site s.log in
    let c = step.claim in
    let is : IsClaim s.site s.log s.claims j c = sound.claimed.each j c step.there in
    let few : i < 16 = let m = sound.shape.most_columns in omega (arith, m, below) in
    let long = sound.columns.size in
    let in_claims : j < length s.claims = let n = sound.claimed.sixteen.blocks in let l = is.among in omega (arith, n, few, l, high) in
    let marks : i < length c.noted = let n = sound.claimed.sixteen.marks j c step.there in omega (arith, n, few) in
    let at = at_set s.claims j (noted i step.len (claim_at s.claims j)) in
    rw step.becomes (record {
      shape = sound.shape;
      dated = sound.dated;
      history = sound.history;
      columns = columns_set s.site s.frail s.pools s.log s.cols i step.column below sound.columns
          (column_worked s.site s.frail s.pools s.log i (col_at s.cols i) step.column step.keeps step.still step.faults (sound.columns.each i below));
      cut = sound.cut;
      claimed = open_marked s.site s.log s.claims (with_note j i step.len s.claims) (length-set s.claims j (noted i step.len (claim_at s.claims j)))
          (comes_from_one (noted i step.len) (noted_keeps i step.len) s.claims j in_claims) (owner_one (noted i step.len) (owner_noted i step.len) s.claims j in_claims) sound.claimed;
      rebuilt = sound.rebuilt;
      single = single_marked s.claims (with_note j i step.len s.claims) s.rebuild (λ w m. owner_one (noted i step.len) (owner_noted i step.len) s.claims j in_claims w m) sound.single;
      holds = λ told enough.
          let before = sound.holds told enough in
          holds_set g b s.cuts s.claims (with_note j i step.len s.claims) s.cols i step.column s.rebuild s.rebuild (omega (arith, long, below)) before
          (λ m x o. elim (cases_eq m j) [
            | inl here ↦ kept_noted i step.len x (claim_at s.claims m) ∙ ap (λ (q : Option Claim). byte_of (kept_of q) x) (ap (λ (n : ℕ). noted i step.len (claim_at s.claims n)) here
                ∙ sym ((at m in_claims).1 here))
            | inr there ↦ ap (λ (q : Option Claim). byte_of (kept_of q) x) (sym ((at m in_claims).0 there))
          ])
          (λ m l o. elim (cases_eq l j) [
            | inl here ↦ piece_other g.k i step.len m l (claim_at s.claims l) o ∙ ap (noted_piece g.k m l) (ap (λ (n : ℕ). noted i step.len (claim_at s.claims n)) here
                ∙ sym ((at l in_claims).1 here))
            | inr there ↦ ap (noted_piece g.k m l) (sym ((at l in_claims).0 there))
          ])
          (λ low u. absurd (omega (arith, high, low)))
          (λ h lt u.
          let none : pending_on g.k s.claims i j ≡ None = ap (noted_piece g.k i j) step.there ∙ ap (option_map (λ l. piece_on g.k i j l c)) (is_none_of (noted_length i (Some c)) step.fresh) in
          let v = column_byte g.k g.block i b in
          held_again step.column.state s.cuts v v (with_piece (pending_on g.k s.claims i) j (piece_on g.k i j step.len c)) (pending_on g.k (with_note j i step.len s.claims) i) (λ x w. refl)
          (λ l. elim (cases_eq l j) [
            | inl here ↦
                let first : with_piece (pending_on g.k s.claims i) j (piece_on g.k i j step.len c) l ≡ Some (piece_on g.k i j step.len c) = rw (eq-eqb l j here) refl in
                let now : claim_at (with_note j i step.len s.claims) j ≡ noted i step.len (Some c) = (at j in_claims).1 refl ∙ ap (noted i step.len) step.there in
                first ∙ piece_noted g.k i j step.len c marks ∙ sym (ap (noted_piece g.k i j) now) ∙ ap (pending_on g.k (with_note j i step.len s.claims) i) (sym here)
            | inr there ↦
                let first : with_piece (pending_on g.k s.claims i) j (piece_on g.k i j step.len c) l ≡ pending_on g.k s.claims i l = rw (ne_eqb l j there) refl in
                first ∙ ap (noted_piece g.k i l) (sym ((at l in_claims).0 there))
          ])
          (step.holds v (pending_on g.k s.claims i) (before.parities i high below step.live) none))
          before.target;
    })
