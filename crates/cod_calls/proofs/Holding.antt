-- An event of a segment is a hold of its call's account.
use Rattle.std.proofs.Common.{◌≡◌, ℕ, ◌≤◌, Option, Some, None, List, [], ◌∷◌, ◌++◌, length, sym, ap, ◌∙◌, append_assoc, inl, inr}
use Rattle.cod_types.specs.declared.call.Reply.{Reply}
use Rattle.cod_chronicle.specs.declared.entry.Entry.{Entry}
use Rattle.cod_chronicle.specs.declared.entry.Entry.TheVariants.{Call}
use Rattle.cod_chronicle.specs.Event.{Request, Setting}
use Rattle.cod_chronicle.specs.Said.{last_stamp}
use Rattle.cod_chronicle.proofs.Stepping.{answered_ends_with_call}
use Rattle.cod_claims.specs.Slips.{Paper}
use Rattle.cod_seg.specs.Next.{open_in}
use Rattle.cod_seg.specs.Seg.{Seg}
use Rattle.cod_segment.specs.declared.asking.Outcome.{Outcome}
use Rattle.cod_segment.specs.declared.asking.Outcome.TheVariants.{Moved, Answered, Held}
use Rattle.cod_segment.specs.Advancing.{IsAdvanced}
use Rattle.cod_segment.specs.Events.{IsCallOf}
use Rattle.cod_accounts.specs.Holding.{Answer, Hold}
use Rattle.cod_accounts.proofs.Holds.{snoc_same}
use Rattle.cod_advance.specs.Served.{IsEvent, IsStepped, turned_by}
use Rattle.cod_advance.proofs.Serving.{event_is_step}

-- what a call was answered, if it was, with the reply of its slip
abbrev pub answer_of : Outcome → Option Reply → Option Answer
answer_of (Answered position stamp) (Some reply) = Some (record { position = position; stamp = stamp; reply = reply })
answer_of _ _ = None

module _ (w : Setting) (r : Request) (t after : ℕ) (range : t ≤ last_stamp) where
  -- the hold that answers
  answers : (s u : Seg) (position stamp : ℕ) (reply : Option Reply) (before : List Entry) (last : Entry) → IsStepped w r t after (turned_by (Answered position stamp)) s u
      → open_in u r.caller ≡ None → stamp ≡ after → u.log ≡ before ++ last ∷ [] → position ≡ length before → IsCallOf r stamp reply last
      → Hold w r t after s.log u.log (open_in s) (open_in u) (answer_of (Answered position stamp) reply)
  answers s u position stamp None before last st none same are place is = absurd is
  answers s u position stamp (Some reply) before last st none same are place is =
      let e = answered_ends_with_call w r s.log t st.entries after st.event in
      let there : Entry = Call e.caller r.number after r.call e.reply in
      let both : (s.log ++ e.marks) ++ there ∷ [] ≡ before ++ last ∷ [] =
      append_assoc s.log e.marks (there ∷ []) ∙ (ap (λ (l : List Entry). s.log ++ l) (sym e.are) ∙ (sym st.grown ∙ are)) in
      let q = snoc_same (s.log ++ e.marks) before there last both in
      record {
        range = range;
        entries = st.entries;
        grown = st.grown;
        event = st.event;
        leaves = (
          none,
          e.marks,
          e.are ∙ ap (λ (x : Entry). e.marks ++ x ∷ []) (q.1 ∙ is),
          place ∙ ap length (sym q.0),
          same,
        );
      }

  holds : (o : Outcome) (s u : Seg) (old new : Paper) → IsStepped w r t after (turned_by o) s u → IsAdvanced o r after u old new
      → Hold w r t after s.log u.log (open_in s) (open_in u) (answer_of o new.reply)
  holds Moved s u old new st advanced = record { range = range; entries = st.entries; grown = st.grown; event = st.event; leaves = inr advanced.0 }
  holds (Held h) s u old new st advanced =
      let c = st.comes in record { range = range; entries = st.entries; grown = st.grown; event = st.event; leaves = inl (c.1 ∙ sym c.0) }
  holds (Answered position stamp) s u old new st advanced =
      let last = advanced.2 in answers s u position stamp new.reply last.0 last.1 st advanced.0 advanced.1 last.2 last.3 last.4

  -- what an event is to its call's account
  pub event_holds : (o : Outcome) (s u : Seg) (old new : Paper) → IsEvent w r t after o s u → IsAdvanced o r after u old new
      → Hold w r t after s.log u.log (open_in s) (open_in u) (answer_of o new.reply)
  event_holds o s u old new e advanced = holds o s u old new (event_is_step w r t after o s u e) advanced
