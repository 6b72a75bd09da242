-- What no step changes, and how the chronicle grows.
use Rattle.std.proofs.Common.{◌≡◌, List, [], ◌∷◌, ◌++◌, refl, sym, ap, ◌∙◌, append-nil, append_assoc}
use Rattle.cod_types.specs.declared.call.Call.TheVariants.{Drain, Put, Rebuild}
use Rattle.cod_types.specs.declared.call.Reply.TheVariants.{Done, Lost, Rebuilt, Shifted}
use Rattle.cod_chronicle.specs.declared.entry.Entry.{Entry}
use Rattle.cod_chronicle.specs.declared.entry.Entry.TheVariants.{Call, Down, Up, Move}
use Rattle.cod_chronicle.specs.Legal.{node_id}
use Rattle.cod_chronicle.specs.Said.{node_of}
use Rattle.cod_seg.specs.Seg.{col_at, Seg}
use Rattle.cod_seg.specs.Steps.{Goes, stays, goes, Grows, Step, begins, applies, notes, commits, puts, spoils, answers, loses, marks, works, aims, fills, rises, moves}

-- the same chronicle
quiet : (s t : Seg) → t.site ≡ s.site → t.frail ≡ s.frail → t.pools ≡ s.pools → t.log ≡ s.log → Grows s t
quiet s t site frail pools log = record { site = site; frail = frail; pools = pools; more = []; log = log ∙ sym (append-nil s.log) }

-- the same value but for some parts
of_site : (s t u : Seg) → t ≡ u → u.site ≡ s.site → t.site ≡ s.site
of_site s t u e f = ap (λ (x : Seg). x.site) e ∙ f

of_frail : (s t u : Seg) → t ≡ u → u.frail ≡ s.frail → t.frail ≡ s.frail
of_frail s t u e f = ap (λ (x : Seg). x.frail) e ∙ f

of_pools : (s t u : Seg) → t ≡ u → u.pools ≡ s.pools → t.pools ≡ s.pools
of_pools s t u e f = ap (λ (x : Seg). x.pools) e ∙ f

of_log : (s t u : Seg) (more : List Entry) → t ≡ u → u.log ≡ s.log ++ more → t.log ≡ s.log ++ more
of_log s t u more e f = ap (λ (x : Seg). x.log) e ∙ f

step_grows : (s t : Seg) → Step s t → Grows s t
step_grows s t (spoils r) = quiet s t (of_site s t _ r.becomes refl) (of_frail s t _ r.becomes refl) (of_pools s t _ r.becomes refl) (ap (λ (x : Seg). x.log) r.becomes)
step_grows s t (begins r) = quiet s t (of_site s t _ r.becomes refl) (of_frail s t _ r.becomes refl) (of_pools s t _ r.becomes refl) (ap (λ (x : Seg). x.log) r.becomes)
step_grows s t (applies j r) = quiet s t (of_site s t _ r.becomes refl) (of_frail s t _ r.becomes refl) (of_pools s t _ r.becomes refl) (ap (λ (x : Seg). x.log) r.becomes)
step_grows s t (notes j i high below r) = quiet s t (of_site s t _ r.becomes refl) (of_frail s t _ r.becomes refl) (of_pools s t _ r.becomes refl) (ap (λ (x : Seg). x.log) r.becomes)
step_grows s t (works i below r) = quiet s t (of_site s t _ r.becomes refl) (of_frail s t _ r.becomes refl) (of_pools s t _ r.becomes refl) (ap (λ (x : Seg). x.log) r.becomes)
step_grows s t (aims r) = quiet s t (of_site s t _ r.becomes refl) (of_frail s t _ r.becomes refl) (of_pools s t _ r.becomes refl) (ap (λ (x : Seg). x.log) r.becomes)
step_grows s t (fills r) = quiet s t (of_site s t _ r.becomes refl) (of_frail s t _ r.becomes refl) (of_pools s t _ r.becomes refl) (ap (λ (x : Seg). x.log) r.becomes)
step_grows s t (commits r) = record {
  site = of_site s t _ r.becomes refl;
  frail = of_frail s t _ r.becomes refl;
  pools = of_pools s t _ r.becomes refl;
  more =
      Call r.caller r.number r.stamp r.call Done ∷ [];
  log = ap (λ (x : Seg). x.log) r.becomes;
}
step_grows s t (puts r) = record {
  site = of_site s t _ r.becomes refl;
  frail = of_frail s t _ r.becomes refl;
  pools = of_pools s t _ r.becomes refl;
  more =
      Call r.caller r.number r.stamp (Put r.bytes) Done ∷ [];
  log = ap (λ (x : Seg). x.log) r.becomes;
}
step_grows s t (answers r) = record {
  site = of_site s t _ r.becomes refl;
  frail = of_frail s t _ r.becomes refl;
  pools = of_pools s t _ r.becomes refl;
  more =
      Call r.caller r.number r.stamp r.call r.reply ∷ [];
  log = ap (λ (x : Seg). x.log) r.becomes;
}
step_grows s t (loses r) = record {
  site = of_site s t _ r.becomes refl;
  frail = of_frail s t _ r.becomes refl;
  pools = of_pools s t _ r.becomes refl;
  more =
      Call r.caller r.number r.stamp r.call Lost ∷ [];
  log = ap (λ (x : Seg). x.log) r.becomes;
}
step_grows s t (marks i below r) = record {
  site = of_site s t _ r.becomes refl;
  frail = of_frail s t _ r.becomes refl;
  pools = of_pools s t _ r.becomes refl;
  more =
      Down r.stamp i (col_at s.cols i).room.node r.cause ∷ [];
  log = ap (λ (x : Seg). x.log) r.becomes;
}
step_grows s t (rises r) =
    let up : Entry = Up r.first r.r.col r.t.room.node in
    let call : Entry = Call r.caller r.r.number r.second Rebuild (Rebuilt r.r.col r.t.room.node) in
    record {
      site = of_site s t _ r.becomes refl;
      frail = of_frail s t _ r.becomes refl;
      pools = of_pools s t _ r.becomes refl;
      more = up ∷ call ∷ [];
      log = ap (λ (x : Seg). x.log) r.becomes
          ∙ append_assoc s.log (up ∷ []) (call ∷ []);
    }
step_grows s t (moves i below r) =
    let moved : Entry = Move r.first i r.place.room.node in
    let call : Entry = Call r.caller r.number r.second (Drain (node_id (node_of s.site s.log i))) (Shifted i r.place.room.node) in
    record {
      site = of_site s t _ r.becomes refl;
      frail = of_frail s t _ r.becomes refl;
      pools = of_pools s t _ r.becomes refl;
      more = moved ∷ call ∷ [];
      log = ap (λ (x : Seg). x.log) r.becomes
          ∙ append_assoc s.log (moved ∷ []) (call ∷ []);
    }

pub goes_grows : (s t : Seg) → Goes s t → Grows s t
goes_grows s t (stays u) = quiet s s refl refl refl refl
goes_grows s t (goes a b c before r) =
    let first = goes_grows s b before in
    let last = step_grows b t r in
    record {
      site = last.site ∙ first.site;
      frail = last.frail ∙ first.frail;
      pools = last.pools ∙ first.pools;
      more = first.more ++ last.more;
      log = last.log ∙ ap (λ (l : List Entry). l ++ last.more) first.log ∙ append_assoc s.log first.more last.more;
    }
