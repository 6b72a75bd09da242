-- An event as it grows a chronicle.
use Rattle.std.proofs.Common.{◌≡◌, List, [], ◌∷◌, ◌++◌, sym, ap, ◌∙◌, subst}
use Rattle.std.proofs.lemmas.List.{append-nil, append_assoc}
use Rattle.cod_chronicle.specs.declared.entry.Entry.{Entry}
use Rattle.cod_chronicle.specs.declared.entry.Entry.TheVariants.{Call, Down}
use Rattle.cod_chronicle.specs.Said.{stamp_of, clock_of, next_stamp}
use Rattle.cod_chronicle.specs.Legal.{Fits, IsDownMark, IsAnswer}
use Rattle.cod_chronicle.specs.Event.{raised, IsSwept}
use Rattle.cod_chronicle.specs.Growing.{GrowsNot, GrowsByMark, GrowsByCall, GrowsByArrival, GrownIsEvent}
use Rattle.cod_chronicle.proofs.Adding.{adds_nothing, adds_mark, adds_call, adds_arrival}

pub grows_not : GrowsNot
grows_not w r old t = record { entries = []; grown = sym (append-nil old); adds = adds_nothing w r old t }

one_more : (old now es : List Entry) (e : Entry) → now ≡ old ++ es → now ++ e ∷ [] ≡ old ++ (es ++ e ∷ [])
one_more old now es e is = ap (λ (l : List Entry). l ++ e ∷ []) is ∙ append_assoc old es (e ∷ [])

pub grows_by_mark : GrowsByMark
grows_by_mark w r old now t u stamp col node cause g c d s =
    let is = g.grown in
    record {
      entries = g.entries ++ (Down stamp col node cause) ∷ [];
      grown = one_more old now g.entries (Down stamp col node cause) is;
      adds = adds_mark w r old g.entries t u stamp col node cause g.adds c
          (subst (λ (l : List Entry). IsDownMark w.site l col node.0) is d)
          (subst (λ (l : List Entry). stamp ≡ next_stamp (clock_of l) (raised w.seen u (Down stamp col node cause))) is s);
    }

pub grows_by_call : GrowsByCall
grows_by_call w r old now t u stamp caller reply g c seen a s =
    let is = g.grown in
    let e : Entry = Call caller r.number stamp r.call reply in
    record {
      entries = g.entries ++ e ∷ [];
      grown = one_more old now g.entries e is;
      adds = adds_call w r old g.entries t u stamp caller reply g.adds c seen (subst (λ (l : List Entry). IsAnswer w.site l r.call reply) is a)
          (subst (λ (l : List Entry). stamp ≡ next_stamp (clock_of l) u) is s);
    }

pub grows_by_arrival : GrowsByArrival
grows_by_arrival w r old now t u arrival caller stamp reply g i c seen f a s1 s2 =
    let is = g.grown in
    let e : Entry = Call caller r.number stamp r.call reply in
    record {
      entries = g.entries ++ arrival ∷ e ∷ [];
      grown = append_assoc now (arrival ∷ []) (e ∷ []) ∙ ap (λ (l : List Entry). l ++ arrival ∷ e ∷ []) is ∙ append_assoc old g.entries (arrival ∷ e ∷ []);
      adds = adds_arrival w r old g.entries t u arrival caller stamp reply g.adds i c seen
          (subst (λ (l : List Entry). Fits w.site l arrival (e ∷ [])) is f)
          (subst (λ (l : List Entry). IsAnswer w.site (l ++ arrival ∷ []) r.call reply) is a)
          (subst (λ (l : List Entry). stamp_of arrival ≡ next_stamp (clock_of l) u) is s1) s2;
    }

pub grown_is_event : GrownIsEvent
grown_is_event w r old now t after answered g swept = (let is = g.grown in record { adds = g.adds; swept = subst (IsSwept w.known w.site) is swept })
