-- What a put keeps.
use Rattle.atomic_table.specs.Seated.{TableId}
use Rattle.cod_types.specs.Overwritten.{byte_of}
use Rattle.std.proofs.Common.{◌≡◌, ℕ, ◌+◌, ◌<◌, List, [], ◌∷◌, ◌++◌, length, Bool, true, false, cond, refl, sym, ap, ◌∙◌, bit_xor, arith, Some, None, Option}
use Rattle.std.specs.Int.Bits.{xor_zero_r}
use Rattle.std.proofs.lemmas.Bool.{eq-eqb}
use Rattle.cod_types.specs.Limits.{Shape, segment_length}
use Rattle.cod_types.specs.Plain.{refusal}
use Rattle.cod_types.specs.declared.call.Call.{Call as Asked}
use Rattle.cod_types.specs.declared.call.Call.TheVariants.{Put}
use Rattle.cod_types.specs.declared.call.Reply.TheVariants.{Done, Long}
use Rattle.cod_code.specs.Segments.{column_byte}
use Rattle.cod_chronicle.specs.declared.entry.Entry.{Entry}
use Rattle.cod_chronicle.specs.declared.entry.Entry.TheVariants.{Call}
use Rattle.cod_chronicle.specs.Said.{Site, bytes_of, call_count}
use Rattle.cod_chronicle.specs.Legal.{IsPlain}
use Rattle.cod_chronicle.proofs.Answering.{answer_served}
use Rattle.cod_chronicle.proofs.Growth.{bytes_of-push, chronicle-push, call_count-push}
use Rattle.cod_chronicle.proofs.Legality.{legal-push}
use Rattle.cod_chronicle.proofs.Orders.{Each-append}
use Rattle.cod_claims.specs.declared.claim.Claim.{Claim}
use Rattle.cod_claims.specs.Claimed.{claim_at, kept_of}
use Rattle.cod_parity.specs.Held.{no_pieces}
use Rattle.cod_parity.proofs.Unique.{held_again}
use Rattle.cod_seg.specs.Seg.{col_at, Rebuilding, Seg, Target}
use Rattle.cod_seg.specs.Sound.{FillsRebuild, FillsTarget, HasTarget, IsFault, IsSingle, MayRebuild, noted_piece, pending_on, Sound}
use Rattle.cod_seg.specs.Steps.{MayPut, Puts, PutsRebuild}
use Rattle.cod_seg.proofs.Telling.{call_says, columns_told, rebuild_told, SaysSame, target_written}
use Rattle.cod_seg.proofs.Keeping.{column_worked}
use Rattle.cod_seg.proofs.Arriving.{told_content}

plain_put : (told : Bool) (b bytes : List ℕ) → IsPlain told b (Put bytes) Done
plain_put true b bytes = refl
plain_put false b bytes = refl

put_target : (site : Site) (frail : List ℕ) (pools : Option TableId) (log : List Entry) (col : ℕ) (b : List ℕ) (o new : Option Target) → MayPut site.shape col b o new
    → HasTarget site frail pools log col o → HasTarget site frail pools log col new
put_target site frail pools log col b None new is t = rw is tt
put_target site frail pools log col b (Some t) new is goal = rw is.1 (target_written site frail pools log col t is.0 is.2.keeps goal)

put_rebuild : (site : Site) (frail : List ℕ) (pools : Option TableId) (log : List Entry) (b : List ℕ) (o new : Option Rebuilding) → PutsRebuild site.shape b o new
    → MayRebuild site frail pools log o → MayRebuild site frail pools log new
put_rebuild site frail pools log b None new is m = rw is tt
put_rebuild site frail pools log b (Some r) new is m =
    rw is.1 (record { column = m.column; down = m.down; honest = m.honest; goal = put_target site frail pools log r.col b r.target is.0 is.2 m.goal })

put_single : (g : Shape) (b : List ℕ) (claims : List (Option Claim)) (o new : Option Rebuilding) → PutsRebuild g b o new → IsSingle claims o → IsSingle claims new
put_single g b claims None new is single = rw is tt
put_single g b claims (Some r) new is single = rw is.1 single

put_fills : (g : Shape) (col : ℕ) (b : List ℕ) (o new : Option Target) → MayPut g col b o new → FillsTarget g b col new
put_fills g col b None new is = rw is tt
put_fills g col b (Some t) new is = rw (is.1, is.2.keeps.same) is.2.each

puts_fill : (g : Shape) (b : List ℕ) (o new : Option Rebuilding) → PutsRebuild g b o new → FillsRebuild g b new
puts_fill g b None new is = rw is tt
puts_fill g b (Some r) new is = rw is.1 (put_fills g r.col b r.target is.0 is.2)

-- a claim where none is
no_claim : (claims : List (Option Claim)) (j : ℕ) (c : Claim) → ((m : ℕ) → claim_at claims m ≡ None) → claim_at claims j ≡ Some c → ⊥
no_claim claims j c vacant here = let e = sym (vacant j) ∙ here in cc

pub puts_keep : (s t : Seg) → Sound s → Puts s t → Sound t
puts_keep s t sound step =
    let g = s.site.shape in
    let call : Asked = Put step.bytes in
    let e : Entry = Call step.caller step.number step.stamp call Done in
    let later = s.log ++ e ∷ [] in
    let says : SaysSame s.site s.log later = call_says s.site s.log step.caller step.number step.stamp call Done in
    let after : bytes_of s.site later ≡ step.bytes = bytes_of-push s.site s.log e in
    let more : call_count later ≡ call_count s.log + 1 = call_count-push s.log e in
    let free : refusal g call ≡ None = ap (λ (b : Bool). cond b None (Some Long)) (eq-eqb (length step.bytes) (segment_length g) step.long) in
    rw step.becomes (record {
      shape = sound.shape;
      dated = sound.dated;
      history = record {
        chronicle = chronicle-push s.log e sound.history.chronicle step.follows step.newest;
        legal = legal-push s.site s.log e sound.history.legal (answer_served s.site s.log call Done free step.few (plain_put s.site.told (bytes_of s.site s.log) step.bytes));
        honest = Each-append (IsFault s.frail) s.log (e ∷ []) sound.history.honest (tt, tt);
        plain = rw after step.plain;
      };
      columns = columns_told s.site s.frail s.pools s.log later t.cols says (record {
        size = step.size ∙ sound.columns.size;
        most = sound.columns.most;
        each = λ i lt.
            let p = step.each i lt in
            column_worked s.site s.frail s.pools s.log i (col_at s.cols i) (col_at t.cols i) p.keeps p.live p.faults (sound.columns.each i lt);
        apart = sound.columns.apart;
        known = sound.columns.known;
      });
      cut = record { size = sound.cut.size; each = λ j. let o = sound.cut.each j in omega (arith, o, more) };
      claimed = record {
        sixteen = sound.claimed.sixteen;
        each = λ j c here. absurd (no_claim s.claims j c step.vacant here);
      };
      rebuilt = put_rebuild s.site s.frail s.pools later step.bytes s.rebuild t.rebuild step.target (rebuild_told s.site s.frail s.pools s.log later s.rebuild says sound.rebuilt);
      single = put_single g step.bytes s.claims s.rebuild t.rebuild step.target sound.single;
      holds = λ told enough.
          let old = sound.holds told step.few in
          rw after (record {
            blocks = λ i low live.
                let below : i < g.n = let m = sound.shape.data_among_columns in omega (arith, m, low) in
                let p = step.each i below in
                let up = sym p.live ∙ live in
                let column = sound.columns.each i below in
                let size = p.keeps.long low ∙ column.block low in
                let held = told_content (col_at t.cols i).state.device.content (p.keeps.tells ∙ column.tells ∙ told) in
                record {
                  held = held.0;
                  told = held.1;
                  each = λ x lt.
                      p.block low up held.0 held.1 x (omega (arith, size, lt))
                      ∙ sym (ap (λ (o : Option Claim). bit_xor (column_byte g.k g.block i step.bytes x) (byte_of (kept_of o) x)) (step.vacant i)
                      ∙ xor_zero_r (column_byte g.k g.block i step.bytes x));
                };
            parities = λ i high below live.
                let p = step.each i below in
                let up = sym p.live ∙ live in
                let v = column_byte g.k g.block i step.bytes in
                held_again (col_at t.cols i).state s.cuts v v no_pieces (pending_on g.k s.claims i) (λ x w. refl) (λ j. sym (ap (noted_piece g.k i j) (step.vacant j)))
                (p.parity high up (column_byte g.k g.block i (bytes_of s.site s.log)) (pending_on g.k s.claims i) (old.parities i high below up));
            target = puts_fill g step.bytes s.rebuild t.rebuild step.target;
          });
    })
