-- What an update's begin keeps, by the changes of its slip.
use Rattle.std.proofs.Common.{◌≡◌, ℕ, ◌+◌, ◌<◌, ◌≤◌, List, length, sym, ap, ◌∙◌, arith, None, Option}
use Rattle.cod_types.specs.Plain.{bytes_at}
use Rattle.cod_layout.specs.declared.parts.Part.{Part}
use Rattle.cod_layout.specs.Parts.{part_in, place_of}
use Rattle.cod_chronicle.specs.Said.{bytes_of}
use Rattle.cod_claims.specs.declared.claim.Claim.{Claim}
use Rattle.cod_claims.specs.Changes.{IsDelta, new_bytes, new_in}
use Rattle.cod_claims.specs.Claimed.{claim_at, with_claims}
use Rattle.cod_claims.specs.Left.{change_on, IsAmong}
use Rattle.cod_claims.proofs.Leaving.{claims_leave, of_all}
use Rattle.cod_seg.specs.Seg.{Seg}
use Rattle.cod_seg.specs.Sound.{begin_of, length_on, Sound}
use Rattle.cod_seg.specs.Steps.{Begins}
use Rattle.cod_seg.proofs.Beginning.{begins_at_keep, BeginsAt}

begins_with : (s t : Seg) → Sound s → Begins s t → BeginsAt s t
begins_with s t sound step =
    let g = s.site.shape in
    let blocks = sound.claimed.sixteen.blocks in
    let few : g.k ≤ length s.claims = let m = sound.shape.most_columns in let n = sound.shape.data_among_columns in omega (arith, blocks, m, n) in
    let after : t.claims ≡ with_claims step.caller step.number step.changes s.claims = ap (λ (u : Seg). u.claims) step.becomes in
    let st = claims_leave step.caller step.number g.k g.block (begin_of step.call) (length (new_bytes step.call)) step.changes s.claims step.parts few in
    let at : (j : ℕ) → j < g.k → 1 ≤ length_on g step.call j → IsAmong j step.changes = λ j lt some. st.among j lt some in
    let place : (j : ℕ) → j < g.k → 1 ≤ length_on g step.call j → (change_on j step.changes).part ≡ part_in g.block (begin_of step.call) (length (new_bytes step.call)) j =
    λ j lt some. st.place j lt some in
    record {
      caller = step.caller;
      number = step.number;
      call = step.call;
      made = λ j. change_on j step.changes;
      idle = step.idle;
      single = step.single;
      newest = step.newest;
      update = step.update;
      free = step.free;
      done = step.done;
      bytes = step.bytes;
      vacant = λ j lt some.
          let v = of_all (λ c. claim_at s.claims c.part.block ≡ None) j step.changes (at j lt some) step.vacant in
          ap (claim_at s.claims) (sym (ap (λ (p : Part). p.block) (place j lt some))) ∙ v;
      each = λ j lt some. record {
        asked = of_all (λ c. c.call ≡ step.call) j step.changes (at j lt some) step.asked;
        place = place j lt some;
        from = of_all (λ c. c.at + begin_of step.call ≡ place_of g.block c.part) j step.changes (at j lt some) step.from;
        size = of_all (λ c. length c.bytes ≡ c.part.len) j step.changes (at j lt some) step.sized;
        delta = λ told. of_all (λ c. IsDelta (bytes_at (bytes_of s.site s.log) (place_of g.block c.part) c.part.len) (new_in c) c.bytes) j step.changes (at j lt some) (step.delta told);
      };
      size = ap length after ∙ st.size ∙ blocks;
      claimed = λ j lt some. ap (λ (cs : List (Option Claim)). claim_at cs j) after ∙ st.claimed j lt some;
      others = λ j out. ap (λ (cs : List (Option Claim)). claim_at cs j) after ∙ st.others j out;
      becomes = step.becomes ∙ ap (λ (cs : List (Option Claim)). record s { claims = cs }) (sym after);
    }

pub begins_keep : (s t : Seg) → Sound s → Begins s t → Sound t
begins_keep s t sound step = begins_at_keep s t sound (begins_with s t sound step)
