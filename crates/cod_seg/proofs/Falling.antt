-- What a mark of a column that goes down keeps.
use Rattle.std.proofs.Common.{◌≡◌, ℕ, ◌+◌, ◌<◌, List, [], ◌∷◌, ◌++◌, Bool, true, false, cond, refl, sym, ap, ◌∙◌, inl, inr, arith, Some}
use Rattle.std.specs.Prelude.{not, eqb}
use Rattle.std.proofs.lemmas.Bool.{cases_eq, cases_Bool, both_ways, ne_eqb, eq-eqb}
use Rattle.cod_chronicle.specs.declared.entry.Cause.{Cause}
use Rattle.cod_chronicle.specs.declared.entry.Cause.TheVariants.{Killed, Fault}
use Rattle.cod_chronicle.specs.declared.entry.Entry.{Entry}
use Rattle.cod_chronicle.specs.declared.entry.Entry.TheVariants.{Down}
use Rattle.cod_chronicle.specs.Said.{bytes_of, is_down, is_over, node_of, call_count, fault_by, fault_of}
use Rattle.cod_chronicle.specs.Legal.{node_id}
use Rattle.cod_chronicle.proofs.Growth.{bytes_of-push, chronicle-push, is_down-push, node_of-push, numbers_same, call_count-push, fault_of-push}
use Rattle.cod_chronicle.proofs.Legality.{legal-push, over_mono}
use Rattle.std.proofs.lemmas.List.{length-set}
use Rattle.cod_chronicle.proofs.Orders.{Each-append}
use Rattle.cod_parity.specs.State.{State}
use Rattle.cod_types.specs.declared.call.NodeId.{NodeId}
use Rattle.cod_seg.specs.Seg.{Col, col_at, node_in, Seg}
use Rattle.cod_seg.specs.Sound.{AreColumns, is_frail, IsFault, Sound}
use Rattle.cod_seg.specs.Steps.{IsCause, Marks}
use Rattle.cod_seg.proofs.Telling.{column_kept, rebuild_kept}
use Rattle.cod_seg.proofs.Keeping.{claim_told, col_here, col_there, holds_set}

honest_mark : (frail : List ℕ) (c : Col) (stamp col node : ℕ) (cause : Cause) → node ≡ node_in c → IsCause frail c cause → IsFault frail (Down stamp col (node_id node) cause)
honest_mark frail c stamp col node (Killed line) e why = tt
honest_mark frail c stamp col node (Fault count) e why = (why.0, ap (is_frail frail) e ∙ why.1)

cause_faults : (frail : List ℕ) (c : Col) (cause : Cause) (count : ℕ) → IsCause frail c cause → fault_by cause ≡ Some count → c.state.device.faults ≡ count
cause_faults frail c (Killed line) count why e = cc
cause_faults frail c (Fault n) count why e = let same : n ≡ count = cc in why.2 ∙ same

up_is : (b : Bool) → true ≡ not b → b ≡ false
up_is true e = cc
up_is false e = refl

more_down : (b d : Bool) → d ≡ true → cond b true d ≡ true
more_down true d e = refl
more_down false d e = e

pub marks_keep : (s t : Seg) (i : ℕ) → i < s.site.shape.n → Sound s → Marks i s t → Sound t
marks_keep s t i below sound step =
    let g = s.site.shape in
    let old = col_at s.cols i in
    let c = step.column in
    let e : Entry = Down step.stamp i (node_id (node_in old)) step.cause in
    let later = s.log ++ e ∷ [] in
    let long = sound.columns.size in
    let column = sound.columns.each i below in
    let same : bytes_of s.site later ≡ bytes_of s.site s.log = bytes_of-push s.site s.log e in
    let nodes : (m : ℕ) → node_of s.site later m ≡ node_of s.site s.log m = λ m. node_of-push s.site s.log e m in
    let down : (m : ℕ) → is_down s.log m ≡ true → is_down later m ≡ true = λ m d. is_down-push s.log e m ∙ more_down (eqb i m) (is_down s.log m) d in
    let here : is_down later i ≡ true = is_down-push s.log e i ∙ ap (λ (b : Bool). cond b true (is_down s.log i)) (eq-eqb i i refl) in
    let more : call_count later ≡ call_count s.log + 0 = call_count-push s.log e in
    let live : is_down s.log i ≡ false = up_is (is_down s.log i) (sym step.was ∙ column.up) in
    rw step.becomes (record {
      shape = sound.shape;
      dated = sound.dated;
      history = record {
        chronicle = chronicle-push s.log e sound.history.chronicle step.follows tt;
        legal = legal-push s.site s.log e sound.history.legal (record { column = below; live = live; there = column.there });
        honest = Each-append (IsFault s.frail) s.log (e ∷ []) sound.history.honest
            (honest_mark s.frail c step.stamp i (node_in old) step.cause (sym (ap (λ (n : NodeId). n.0) step.keeps.node)) step.why, tt);
        plain = rw same sound.history.plain;
      };
      columns =
          let before : AreColumns s.site s.frail s.pools s.log s.cols = sound.columns in
          record {
            size = length-set s.cols i c ∙ before.size;
            most = before.most;
            each = λ m lt. elim (cases_eq m i) [
              | inl at ↦ rw (at, col_here s.cols i c (omega (arith, long, below))) (record {
                there = ap (λ (n : NodeId). n.0) step.keeps.node ∙ column.there ∙ sym (nodes i);
                owned = step.keeps.owned ∙ column.owned;
                up = step.down ∙ sym (ap not here);
                shape = step.keeps.shape ∙ column.shape;
                tells = step.keeps.tells ∙ column.tells;
                full = step.keeps.full;
                clean = λ u. absurd (both_ways c.is_up step.down u);
                marked = λ count f. cause_faults s.frail c step.cause count step.why
                    (sym (fault_of-push s.log e i ∙ ap (λ (b : Bool). cond b (fault_by step.cause) (fault_of s.log i)) (eq-eqb i i refl)) ∙ f);
                sure = λ f. step.keeps.never_fails ∙ column.sure (sym (ap (λ (n : NodeId). is_frail s.frail n.0) step.keeps.node) ∙ f);
                fits = step.keeps.fits column.fits;
                roomy = λ f. step.keeps.roomy f (column.roomy f);
                block = λ low. step.keeps.long low ∙ column.block low;
                plain = λ low. step.keeps.plain low ∙ ap (λ (q : State). record q { device = c.state.device }) (column.plain low);
                reserve = λ high. step.keeps.kept high (column.reserve high);
                exact = λ high u. absurd (both_ways c.is_up step.down u);
              })
              | inr there ↦
                  let other : eqb i m ≡ false = ne_eqb i m (λ q. there (sym q)) in
                  rw (col_there s.cols i m c there) (column_kept s.site s.frail s.pools s.log later m (col_at s.cols m)
                  (is_down-push s.log e m ∙ ap (λ (b : Bool). cond b true (is_down s.log m)) other) (nodes m)
                  (fault_of-push s.log e m ∙ ap (λ (b : Bool). cond b (fault_by step.cause) (fault_of s.log m)) other) (before.each m lt))
            ];
            apart = λ m l a b f. before.apart m l a b (sym (nodes m) ∙ f ∙ nodes l);
            known = λ m lt. let q = nodes m in let k = before.known m lt in omega (arith, q, k);
          };
      cut = record { size = sound.cut.size; each = λ j. let o = sound.cut.each j in omega (arith, o, more) };
      claimed = record {
        sixteen = sound.claimed.sixteen;
        each = λ j d at. claim_told s.site s.log later s.claims j d (numbers_same d.owner.0 s.log e refl) same (sound.claimed.each j d at);
      };
      rebuilt = rebuild_kept s.site s.frail s.pools s.log later s.rebuild down nodes sound.rebuilt;
      single = sound.single;
      holds = λ told enough.
          let few : is_over s.site s.log ≡ false = elim (cases_Bool (is_over s.site s.log)) [
            | inl over ↦ absurd (both_ways (is_over s.site later) enough (over_mono s.site s.log later down over))
            | inr fine ↦ fine
          ] in
          let old_holds = sound.holds told few in
          rw same (holds_set g (bytes_of s.site s.log) s.cuts s.claims s.claims s.cols i c s.rebuild s.rebuild (omega (arith, long, below)) old_holds (λ m x o. refl) (λ m j o. refl)
          (λ low u. absurd (both_ways c.is_up step.down u)) (λ high lt u. absurd (both_ways c.is_up step.down u)) old_holds.target);
    })
