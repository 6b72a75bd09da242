-- What an update's begin keeps, and what is kept where it is lost.
use Rattle.cod_types.specs.Overwritten.{byte_of}
use Rattle.std.proofs.Common.{◌≡◌, ◌≢◌, ℕ, ◌+◌, ◌-◌, ◌*◌, ◌<◌, ◌≤◌, max, min, All, List, [], ◌∷◌, ◌++◌, length, get_or, replicate, true, false, refl, sym, ap, ◌∙◌, subst, inl, inr, ◌⊎◌}
use Rattle.std.proofs.Common.{arith, Some, None, Option}
use Rattle.std.proofs.lemmas.Bool.{cases_lt, both_ways, eq-eqb, ne_eqb}
use Rattle.std.specs.Option.{option_map}
use Rattle.std.proofs.lemmas.List.{get_or-replicate, get_or_past, length-replicate}
use Rattle.cod_types.specs.Limits.{Shape}
use Rattle.cod_types.specs.declared.call.Call.{Call as Asked}
use Rattle.cod_types.specs.declared.call.Caller.{Caller}
use Rattle.cod_types.specs.declared.call.Reply.TheVariants.{Done, Lost}
use Rattle.cod_code.specs.Segments.{column_byte}
use Rattle.cod_layout.specs.declared.parts.Part.{Part}
use Rattle.cod_layout.specs.Parts.{part_in, place_of}
use Rattle.cod_code.specs.Codewords.{AreBytes}
use Rattle.cod_chronicle.specs.Legal.{IsPlain}
use Rattle.cod_types.specs.Plain.{bytes_at, refusal}
use Rattle.cod_chronicle.specs.declared.entry.Entry.{Entry}
use Rattle.cod_chronicle.specs.declared.entry.Entry.TheVariants.{Call}
use Rattle.cod_chronicle.specs.Said.{Site, bytes_of, is_over, call_count, numbers_by}
use Rattle.cod_chronicle.proofs.Answering.{answer_lost}
use Rattle.cod_chronicle.proofs.Growth.{bytes_of-push, chronicle-push, call_count-push}
use Rattle.cod_chronicle.proofs.Legality.{legal-push, over_mono}
use Rattle.cod_chronicle.proofs.Orders.{Each-append}
use Rattle.cod_claims.specs.declared.claim.Claim.{Claim}
use Rattle.cod_claims.specs.Changes.{Change, IsDelta, LiesInside, new_bytes, new_in}
use Rattle.cod_claims.specs.Claimed.{AreClaims, claim_at, claim_of, HasNone, is_of, kept_of, without_claims}
use Rattle.cod_parity.proofs.Unique.{held_again}
use Rattle.cod_seg.specs.Seg.{Col, col_at, Rebuilding, Seg}
use Rattle.cod_seg.specs.Sound.{begin_of, HoldBytes, IsClaim, IsFault, IsOther, IsSingle, is_update, length_on, noted_piece, pending_on, piece_on, Sound}
use Rattle.cod_seg.specs.Steps.{Loses}
use Rattle.cod_seg.proofs.Raising.{claim_left}
use Rattle.cod_seg.proofs.Claims.{apart, claims_left, left_at, none_left}
use Rattle.cod_seg.proofs.Telling.{call_says, columns_told, other_numbers, rebuild_told, SaysSame}
use Rattle.cod_seg.proofs.Keeping.{claim_again, claim_told, has_none, kept_alike, of_each}

-- what the columns hold, where no claim that changed was applied or noted
pub holds_claims : (g : Shape) (b cuts : List ℕ) (claims later : List (Option Claim)) (cols : List Col) (rebuild : Option Rebuilding) → HoldBytes g b cuts claims cols rebuild
    → ((m x : ℕ) → byte_of (kept_of (claim_at claims m)) x ≡ byte_of (kept_of (claim_at later m)) x)
    → ((m j : ℕ) → pending_on g.k claims m j ≡ pending_on g.k later m j)
    → HoldBytes g b cuts later cols rebuild
holds_claims g b cuts claims later cols rebuild holds kept pending = record {
  blocks = λ m low live. kept_alike (col_at cols m).state.device (byte_of (kept_of (claim_at claims m))) (byte_of (kept_of (claim_at later m))) (column_byte g.k g.block m b) (kept m)
      (holds.blocks m low live);
  parities = λ m high below live. held_again (col_at cols m).state cuts (column_byte g.k g.block m b) (column_byte g.k g.block m b) (pending_on g.k claims m) (pending_on g.k later m) (λ x w. refl)
      (λ j. pending m j) (holds.parities m high below live);
  target = holds.target;
}

-- The change of an update's part in block j: its bytes are the delta between those there and the update's.
pub record IsChange (site : Site) (b : List ℕ) (call : Asked) (j : ℕ) (c : Change) : Type 0 where
  pub asked : c.call ≡ call
  pub place : c.part ≡ part_in site.shape.block (begin_of call) (length (new_bytes call)) j
  pub from : c.at + begin_of call ≡ place_of site.shape.block c.part
  pub size : length c.bytes ≡ c.part.len
  pub delta : site.told ≡ true → IsDelta (bytes_at b (place_of site.shape.block c.part) c.part.len) (new_in c) c.bytes

-- the begin of an update, block by block
pub record BeginsAt (before after : Seg) : Type 0 where
  pub caller : Caller
  pub number : ℕ
  pub call : Asked
  pub made : ℕ → Change
  pub idle : HasNone caller.0 before.claims
  pub single : IsOther caller.0 before.rebuild
  pub newest : All (λ m. m < number) (numbers_by caller.0 before.log)
  pub update : is_update call ≡ true
  pub free : refusal before.site.shape call ≡ None
  pub done : IsPlain before.site.told (bytes_of before.site before.log) call Done
  pub bytes : AreBytes (new_bytes call)
  pub vacant : (j : ℕ) → j < before.site.shape.k → 1 ≤ length_on before.site.shape call j → claim_at before.claims j ≡ None
  pub each : (j : ℕ) → j < before.site.shape.k → 1 ≤ length_on before.site.shape call j → IsChange before.site (bytes_of before.site before.log) call j (made j)
  pub size : length after.claims ≡ 16
  pub claimed : (j : ℕ) → j < before.site.shape.k → 1 ≤ length_on before.site.shape call j → claim_at after.claims j ≡ Some (claim_of caller number (made j))
  pub others : (j : ℕ) → (j < before.site.shape.k → length_on before.site.shape call j ≤ 0) → claim_at after.claims j ≡ claim_at before.claims j
  pub becomes : after ≡ record before { claims = after.claims }

no_marks : (i : ℕ) → ◌≡◌ {A = Option ℕ} (get_or (replicate 16 None) i None) None
no_marks i = elim (cases_lt i 16) [
  | inl below ↦ get_or-replicate {A = Option ℕ} 16 i None None below
  | inr past ↦ get_or_past (replicate {A = Option ℕ} 16 None) i None (let l = length-replicate {A = Option ℕ} 16 None in omega (arith, l, past))
]

-- a block that the update meets
record IsMet (s : Seg) (step : ℕ → Change) (caller : Caller) (number : ℕ) (call : Asked) (j : ℕ) (c : Claim) : Type 0 where
  below : j < s.site.shape.k
  some : 1 ≤ length_on s.site.shape call j
  is : c ≡ claim_of caller number (step j)

-- each claim is the update's, or was there
which : (s t : Seg) (step : BeginsAt s t) (j : ℕ) (c : Claim) → claim_at t.claims j ≡ Some c → IsMet s step.made step.caller step.number step.call j c ⊎ (claim_at s.claims j ≡ Some c)
which s t step j c here = elim (cases_lt j s.site.shape.k) [
  | inl below ↦ elim (cases_lt 0 (length_on s.site.shape step.call j)) [
    | inl some ↦ inl (record { below = below; some = some; is = let e = sym here ∙ step.claimed j below some in cc })
    | inr none ↦ inr (sym (step.others j (λ b. none)) ∙ here)
  ]
  | inr past ↦ inr (sym (step.others j (λ b. absurd (omega (arith, b, past)))) ∙ here)
]

-- an old claim isn't the caller's
old_other : (s t : Seg) (step : BeginsAt s t) (j : ℕ) (c : Claim) → claim_at s.claims j ≡ Some c → c.owner.0 ≢ step.caller.0
old_other s t step j c here e = both_ways (is_of step.caller.0 (claim_at s.claims j)) (has_none step.caller.0 s.claims step.idle j) (ap (is_of step.caller.0) here ∙ eq-eqb c.owner.0 step.caller.0 e)

owner_of : {caller : Caller} {number : ℕ} {x : Change} (c : Claim) → c ≡ claim_of caller number x → c.owner.0 ≡ caller.0
owner_of c e = ap (λ (d : Claim). d.owner.0) e

kept_begun : (s t : Seg) (step : BeginsAt s t) (m x : ℕ) → byte_of (kept_of (claim_at s.claims m)) x ≡ byte_of (kept_of (claim_at t.claims m)) x
kept_begun s t step m x = elim (cases_lt m s.site.shape.k) [
  | inl below ↦ elim (cases_lt 0 (length_on s.site.shape step.call m)) [
    | inl some ↦ rw (step.vacant m below some, step.claimed m below some) refl
    | inr none ↦ ap (λ (o : Option Claim). byte_of (kept_of o) x) (sym (step.others m (λ b. none)))
  ]
  | inr past ↦ ap (λ (o : Option Claim). byte_of (kept_of o) x) (sym (step.others m (λ b. absurd (omega (arith, b, past)))))
]

new_piece : (k m j : ℕ) (caller : Caller) (number : ℕ) (x : Change) → None ≡ noted_piece k m j (Some (claim_of caller number x))
new_piece k m j caller number x = ap (option_map (λ len. piece_on k m j len (claim_of caller number x))) (sym (no_marks m))

pending_begun : (s t : Seg) (step : BeginsAt s t) (k m j : ℕ) → pending_on k s.claims m j ≡ pending_on k t.claims m j
pending_begun s t step k m j = elim (cases_lt j s.site.shape.k) [
  | inl below ↦ elim (cases_lt 0 (length_on s.site.shape step.call j)) [
    | inl some ↦ ap (noted_piece k m j) (step.vacant j below some) ∙ new_piece k m j step.caller step.number (step.made j) ∙ ap (noted_piece k m j) (sym (step.claimed j below some))
    | inr none ↦ ap (noted_piece k m j) (sym (step.others j (λ b. none)))
  ]
  | inr past ↦ ap (noted_piece k m j) (sym (step.others j (λ b. absurd (omega (arith, b, past)))))
]

-- an old claim as it is among the new ones
old_claim : (s t : Seg) (step : BeginsAt s t) (j : ℕ) (c : Claim) → IsClaim s.site s.log s.claims j c → IsClaim s.site s.log t.claims j c
old_claim s t step j c is = claim_again s.site s.log s.log s.claims t.claims j c refl refl
    (λ m lt l.
    let own = is.all m lt l in
    elim (cases_lt 0 (length_on s.site.shape step.call m)) [
      | inl some ↦ absurd (both_ways (is_of c.owner.0 (claim_at s.claims m)) (ap (is_of c.owner.0) (step.vacant m lt some)) own)
      | inr none ↦ ap (is_of c.owner.0) (step.others m (λ b. none)) ∙ own
    ])
    is

-- and a new one
new_claim : (s t : Seg) (step : BeginsAt s t) (j : ℕ) → j < s.site.shape.k → 1 ≤ length_on s.site.shape step.call j → IsClaim s.site s.log t.claims j (claim_of step.caller step.number (step.made j))
new_claim s t step j below some =
    let x = step.made j in
    let is : IsChange s.site (bytes_of s.site s.log) step.call j x = step.each j below some in
    let asked = is.asked in
    record {
      among = below;
      newest = step.newest;
      update = rw asked step.update;
      free = rw asked step.free;
      done = rw asked step.done;
      part = rw asked is.place;
      some = let e = ap (λ (p : Part). p.len) is.place in omega (arith, e, some);
      from = rw asked is.from;
      bytes = rw asked step.bytes;
      size = is.size;
      delta = is.delta;
      all = λ m lt l. ap (is_of step.caller.0) (step.claimed m lt (subst (λ (c : Asked). 1 ≤ length_on s.site.shape c m) asked l)) ∙ eq-eqb step.caller.0 step.caller.0 refl;
    }

same_made : (s t : Seg) (step : BeginsAt s t) (j : ℕ) (c : Claim) → IsMet s step.made step.caller step.number step.call j c → (c.number ≡ step.number) × (c.delta.call ≡ step.call)
same_made s t step j c m = (ap (λ (d : Claim). d.number) m.is, ap (λ (d : Claim). d.delta.call) m.is ∙ (step.each j m.below m.some).asked)

-- a part lies in its call's new bytes
lies_inside : (site : Site) (b : List ℕ) (call : Asked) (j : ℕ) (x : Change) → 1 ≤ length_on site.shape call j → IsChange site b call j x → LiesInside x
lies_inside site b call j x some is =
    let block = site.shape.block in
    let at_block : x.part.block ≡ j = ap (λ (p : Part). p.block) is.place in
    let off : x.part.off ≡ max (begin_of call) (j * block) - j * block = ap (λ (p : Part). p.off) is.place in
    let len : x.part.len ≡ min (begin_of call + length (new_bytes call)) (j * block + block) - max (begin_of call) (j * block) = ap (λ (p : Part). p.len) is.place in
    let place : place_of block x.part ≡ j * block + x.part.off = ap (λ (n : ℕ). n * block + x.part.off) at_block in
    let from = is.from in
    rw is.asked (omega (arith, off, len, some, place, from))

claims_begun : (s t : Seg) (step : BeginsAt s t) → AreClaims s.claims → AreClaims t.claims
claims_begun s t step are = record {
  blocks = step.size;
  inside = λ j c here. elim (which s t step j c here) [
    | inl met ↦ subst (λ (d : Claim). LiesInside d.delta) (sym met.is) (lies_inside s.site (bytes_of s.site s.log) step.call j (step.made j) met.some (step.each j met.below met.some))
    | inr old ↦ are.inside j c old
  ];
  own = λ j c here. elim (which s t step j c here) [
    | inl met ↦ ap (λ (d : Claim). d.delta.part.block) met.is ∙ ap (λ (p : Part). p.block) (step.each j met.below met.some).place
    | inr old ↦ are.own j c old
  ];
  marks = λ j c here. elim (which s t step j c here) [
    | inl met ↦ ap (λ (d : Claim). length d.noted) met.is ∙ length-replicate {A = Option ℕ} 16 None
    | inr old ↦ are.marks j c old
  ];
  one_call = λ i j c d first second same. elim (which s t step i c first) [
    | inl met ↦ elim (which s t step j d second) [
      | inl too ↦ (let a = same_made s t step i c met in let b = same_made s t step j d too in (a.0 ∙ sym b.0, a.1 ∙ sym b.1))
      | inr old ↦ absurd (old_other s t step j d old (sym same ∙ owner_of c met.is))
    ]
    | inr old ↦ elim (which s t step j d second) [
      | inl too ↦ absurd (old_other s t step i c old (same ∙ owner_of d too.is))
      | inr both ↦ are.one_call i j c d old both same
    ]
  ];
}

-- who had no claim, and didn't begin, has none
single_begun : (s t : Seg) (step : BeginsAt s t) (o : Option Rebuilding) → IsOther step.caller.0 o → IsSingle s.claims o → IsSingle t.claims o
single_begun s t step None other single = tt
single_begun s t step (Some r) other single = of_each r.caller t.claims (λ m. elim (cases_lt m s.site.shape.k) [
  | inl below ↦ elim (cases_lt 0 (length_on s.site.shape step.call m)) [
    | inl some ↦ ap (is_of r.caller) (step.claimed m below some) ∙ ne_eqb step.caller.0 r.caller (λ e. other (sym e))
    | inr less ↦ ap (is_of r.caller) (step.others m (λ b. less)) ∙ has_none r.caller s.claims single m
  ]
  | inr past ↦ ap (is_of r.caller) (step.others m (λ b. absurd (omega (arith, b, past)))) ∙ has_none r.caller s.claims single m
])

pub begins_at_keep : (s t : Seg) → Sound s → BeginsAt s t → Sound t
begins_at_keep s t sound step = rw step.becomes (record {
  shape = sound.shape;
  dated = sound.dated;
  history = sound.history;
  columns = sound.columns;
  cut = sound.cut;
  claimed = record {
    sixteen = claims_begun s t step sound.claimed.sixteen;
    each = λ j c here. elim (which s t step j c here) [
      | inl met ↦ subst (IsClaim s.site s.log t.claims j) (sym met.is) (new_claim s t step j met.below met.some)
      | inr old ↦ old_claim s t step j c (sound.claimed.each j c old)
    ];
  };
  rebuilt = sound.rebuilt;
  single = single_begun s t step s.rebuild step.single sound.single;
  holds = λ told enough. holds_claims s.site.shape (bytes_of s.site s.log) s.cuts s.claims t.claims s.cols s.rebuild (sound.holds told enough) (kept_begun s t step)
      (pending_begun s t step s.site.shape.k);
})

-- a claim that is left where another caller's are gone
claim_released : (site : Site) (log : List Entry) (claims : List (Option Claim)) (caller j : ℕ) (c : Claim) → caller ≢ c.owner.0 → IsClaim site log claims j c
    → IsClaim site log (without_claims caller claims) j c
claim_released site log claims caller j c differ is = claim_again site log log claims (without_claims caller claims) j c refl refl
    (λ m lt l.
    let own = is.all m lt l in
    let other : is_of caller (claim_at claims m) ≡ false = apart c.owner.0 caller (claim_at claims m) (λ e. differ (sym e)) own in
    rw (claim_left caller claims m, other) own)
    is

lost_single : (caller : ℕ) (claims : List (Option Claim)) (o : Option Rebuilding) → IsSingle claims o → IsSingle (without_claims caller claims) o
lost_single caller claims None single = tt
lost_single caller claims (Some r) single = none_left r.caller caller claims single

pub loses_keep : (s t : Seg) → Sound s → Loses s t → Sound t
loses_keep s t sound step =
    let e : Entry = Call step.caller step.number step.stamp step.call Lost in
    let later = s.log ++ e ∷ [] in
    let says : SaysSame s.site s.log later = call_says s.site s.log step.caller step.number step.stamp step.call Lost in
    let same : bytes_of s.site later ≡ bytes_of s.site s.log = bytes_of-push s.site s.log e in
    let more : call_count later ≡ call_count s.log + 1 = call_count-push s.log e in
    rw step.becomes (record {
      shape = sound.shape;
      dated = sound.dated;
      history = record {
        chronicle = chronicle-push s.log e sound.history.chronicle step.follows step.newest;
        legal = legal-push s.site s.log e sound.history.legal (answer_lost s.site s.log step.call step.free step.over);
        honest = Each-append (IsFault s.frail) s.log (e ∷ []) sound.history.honest (tt, tt);
        plain = rw same sound.history.plain;
      };
      columns = columns_told s.site s.frail s.pools s.log later s.cols says sound.columns;
      cut = record { size = sound.cut.size; each = λ j. let o = sound.cut.each j in omega (arith, o, more) };
      claimed = record {
        sixteen = claims_left step.caller.0 s.claims sound.claimed.sixteen;
        each = λ j c f.
            let l = left_at step.caller.0 s.claims j c f in
            let differ : step.caller.0 ≢ c.owner.0 = λ same. both_ways (is_of step.caller.0 (claim_at s.claims j)) l.1 (ap (is_of step.caller.0) l.0 ∙ eq-eqb c.owner.0 step.caller.0 (sym same)) in
            claim_told s.site s.log later (without_claims step.caller.0 s.claims) j c (other_numbers c.owner.0 s.log step.caller step.number step.stamp step.call Lost differ) same
            (claim_released s.site s.log s.claims step.caller.0 j c differ (sound.claimed.each j c l.0));
      };
      rebuilt = rebuild_told s.site s.frail s.pools s.log later s.rebuild says sound.rebuilt;
      single = lost_single step.caller.0 s.claims s.rebuild sound.single;
      holds = λ told enough. absurd (both_ways (is_over s.site later) enough (over_mono s.site s.log later (λ i d. says.down i ∙ d) step.over));
    })
