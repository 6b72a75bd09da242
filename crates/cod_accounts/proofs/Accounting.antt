-- The entries of a hold have their account.
use Rattle.std.proofs.Common.{◌≡◌, ◌⊎◌, ℕ, ◌+◌, ◌-◌, ◌<◌, ◌≤◌, Bool, false, max, Option, Some, None, List, [], ◌∷◌, ◌++◌, length, length-append, refl, sym, ap, ◌∙◌, subst, append_assoc, inl, inr, arith}
use Rattle.std.proofs.lemmas.Bool.{cases_lt}
use Rattle.std.proofs.lemmas.Bool.Decides.{nat_tests}
use Rattle.std.proofs.lemmas.List.{append-nil}
use Rattle.std.proofs.lemmas.List.Elements.{All-weaker}
use mathlib.Core.List.{IsPrefix}
use Rattle.cod_types.specs.declared.call.Reply.{Reply}
use Rattle.cod_types.specs.declared.call.Reply.TheVariants.{Bytes, Done, Range, Long, Lost, Whole, Rebuilt, NoSpare, NoMem, Shifted, Clear, Differs}
use Rattle.cod_types.specs.declared.reasons.Reason.{Reason}
use Rattle.cod_types.specs.declared.reasons.Why.{Why}
use Rattle.cod_types.specs.declared.reasons.Why.TheVariants as why
use Rattle.cod_chronicle.specs.declared.entry.Entry.{Entry}
use Rattle.cod_chronicle.specs.declared.entry.Entry.TheVariants.{Call, Down, Up, Move}
use Rattle.cod_chronicle.specs.declared.entry.Cause.TheVariants.{Killed, Fault}
use Rattle.cod_chronicle.specs.Said.{stamp_of, clock_of, last_stamp, next_stamp}
use Rattle.cod_chronicle.proofs.Growth.{clock_of-push}
use Rattle.cod_seats.specs.Totals.{times, once_below, range}
use Rattle.cod_seats.proofs.Totals.{times-append, times-range}
use Rattle.cod_chronicle.specs.Event.{NodeKill, Kills, clock_at, raised, Stamped, Request, Setting, IsSeenReply, IsSeenWhy, Tells, Event}
use Rattle.cod_accounts.specs.Accounts.{StampIn, Comes, Springs, HasCause, Account, At, Accounts, Knows}

-- a list is empty, or has a last element
ended : (h : List Entry) → (h ≡ []) ⊎ ((pre : List Entry) × (e : Entry) × (h ≡ pre ++ e ∷ []))
ended [] = inl refl
ended (x ∷ xs) = elim (ended xs) [
  | inl e ↦ inr ([], x, ap (λ (l : List Entry). x ∷ l) e)
  | inr r ↦ inr (x ∷ r.0, r.1, ap (λ (l : List Entry). x ∷ l) r.2)
]

-- the clock of some entries
clock_in : (h : List Entry) → (clock_of h ≡ 0) ⊎ StampIn h (clock_of h)
clock_in h = elim (ended h) [
  | inl e ↦ inl (ap clock_of e)
  | inr r ↦ inr (r.0, r.1, [], r.2, sym (ap clock_of r.2 ∙ clock_of-push r.0 r.1))
]

comes_is : (kills : Kills) (t : ℕ) (h : List Entry) (u v : ℕ) → u ≡ v → Comes kills t h u → Comes kills t h v
comes_is kills t h u v e c = subst (Comes kills t h) e c

comes_raised : (kills : Kills) (t u : ℕ) (h : List Entry) (e : Entry) → Comes kills t h u → Comes kills t h (raised kills u e)
comes_raised kills t u h (Call caller number stamp call reply) c = c
comes_raised kills t u h (Up stamp col node) c = c
comes_raised kills t u h (Move stamp col node) c = c
comes_raised kills t u h (Down stamp col node (Fault count)) c = c
comes_raised kills t u h (Down stamp col node (Killed line)) c = by (kills node.0) refl where
  by : (o : Option NodeKill) → kills node.0 ≡ o → Comes kills t h (max u (clock_at o))
  by None e = comes_is kills t h u (max u 0) (omega arith) c
  by (Some k) e = elim (cases_lt u k.clock) [
    | inl lt ↦ inr (inr (node.0, k, e, (let m : k.clock ≡ max u k.clock = omega arith in m)))
    | inr ge ↦ comes_is kills t h u (max u k.clock) (omega arith) c
  ]

springs : (kills : Kills) (t u stamp : ℕ) (h : List Entry) (e : Entry) → Comes kills t h u → stamp ≡ next_stamp (clock_of h) (raised kills u e) → Springs kills t h stamp
springs kills t u stamp h e c is =
    let r : ℕ = raised kills u e in
    let s : ℕ = clock_of h in
    elim (cases_lt (max s r + 1) last_stamp) [
      | inl lt ↦ inr (elim (cases_lt s r) [
        | inl less ↦ (r, (let m : stamp ≡ r + 1 = omega arith in m), comes_raised kills t u h e c)
        | inr more ↦ (s, (let m : stamp ≡ s + 1 = omega arith in m), inr (inl (clock_in h)))
      ])
      | inr ge ↦ inl (omega arith)
    ]

-- each of these entries, with those before it
abbrev pub Each : (G : List Entry → Entry → Type 0) (before es : List Entry) → Type 0
Each G before [] = Unit {0}
Each G before (e ∷ es) = G before e × Each G (before ++ e ∷ []) es

module _ (w : Setting) (r : Request) where
  cause : (u s : ℕ) (e : Entry) (es : List Entry) (answered : Bool) → stamp_of e ≡ next_stamp s (raised w.seen u e) → Tells w r (e ∷ es) answered → HasCause r.caller w.seen w.may e
  cause u s (Call caller number stamp call reply) es answered is tells = (tells.0, tells.3)
  cause u s (Down stamp col node (Killed line)) es answered is tells =
      let k = tells.0 in
      let c : clock_at (w.seen node.0) ≡ k.0.clock = ap clock_at k.1 in
      let t : ℕ = max u (clock_at (w.seen node.0)) in
      (k.0, k.1, k.2, elim (cases_lt (max s t + 1) last_stamp) [ inl lt ↦ inl (omega (arith, c, is, lt)) | inr ge ↦ inr (omega (arith, is, ge)) ])
  cause u s (Down stamp col node (Fault count)) es answered is tells = tells.0
  cause u s (Up stamp col node) es answered is tells = tt
  cause u s (Move stamp col node) es answered is tells = tt

  tells_rest : (e : Entry) (es : List Entry) (answered : Bool) → Tells w r (e ∷ es) answered → (b : Bool) × Tells w r es b
  tells_rest (Call caller number stamp call reply) es answered tells = (false, subst (λ (l : List Entry). Tells w r l false) (sym tells.4) refl)
  tells_rest (Down stamp col node cause) es answered tells = (answered, tells.1)
  tells_rest (Up stamp col node) es answered tells = (answered, tells)
  tells_rest (Move stamp col node) es answered tells = (answered, tells)

  all_told : (t s u : ℕ) (h es : List Entry) (after : ℕ) (answered : Bool) → s ≡ clock_of h → Comes w.seen t h u → Tells w r es answered → Stamped w.seen s u es after → Each (Account r.caller w.seen w.may t) h es × Comes w.seen t (h ++ es) after
  all_told t s u h [] after answered clock c tells stamped = (tt, comes_is w.seen t (h ++ []) u after (sym stamped) (subst (λ (l : List Entry). Comes w.seen t l u) (sym (append-nil h)) c))
  all_told t s u h (e ∷ es) after answered clock c tells stamped =
      let here : stamp_of e ≡ next_stamp (clock_of h) (raised w.seen u e) = subst (λ (n : ℕ). stamp_of e ≡ next_stamp n (raised w.seen u e)) clock stamped.0 in
      let rest = tells_rest e es answered tells in
      let more = all_told t (stamp_of e) (stamp_of e) (h ++ e ∷ []) es after rest.0 (sym (clock_of-push h e)) (inr (inl (inr (h, e, [], refl, refl)))) rest.1 stamped.1 in (
        (record { cause = cause u s e es answered stamped.0 tells; springs = springs w.seen t u (stamp_of e) h e c here }, more.0),
        subst (λ (l : List Entry). Comes w.seen t l after) (append_assoc h (e ∷ []) es) more.1,
      )

pub stamp_more : (h h' : List Entry) (t : ℕ) → IsPrefix h h' → StampIn h t → StampIn h' t
stamp_more h h' t p s = (s.0, s.1, s.2 ++ p.0, sym p.1 ∙ (ap (λ (l : List Entry). l ++ p.0) s.3 ∙ append_assoc s.0 (s.1 ∷ s.2) p.0), s.4)

-- with more kills known, and more entries before, all stays
pub comes_more : (kills more : Kills) (t u : ℕ) (h h' : List Entry) → Knows kills more → IsPrefix h h' → Comes kills t h u → Comes more t h' u
comes_more kills more t u h h' k p (inl e) = inl e
comes_more kills more t u h h' k p (inr (inl (inl e))) = inr (inl (inl e))
comes_more kills more t u h h' k p (inr (inl (inr s))) = inr (inl (inr (stamp_more h h' u p s)))
comes_more kills more t u h h' k p (inr (inr x)) = inr (inr (x.0, x.1, k x.0 x.1 x.2, x.3))

springs_more : (kills more : Kills) (t stamp : ℕ) (h : List Entry) → Knows kills more → Springs kills t h stamp → Springs more t h stamp
springs_more kills more t stamp h k (inl e) = inl e
springs_more kills more t stamp h k (inr u) = inr (u.0, u.1, comes_more kills more t u.0 h h k ([], append-nil h) u.2)

module _ (who : ℕ) (kills more : Kills) (may : ℕ → Bool) (k : Knows kills more) where
  why_more : (node : ℕ) (y : Why) → IsSeenWhy kills may node y → IsSeenWhy more may node y
  why_more node (why.Down line) s = (s.0, k node s.0 s.1, s.2)
  why_more node (why.Free bytes) s = tt
  why_more node (why.Fault count) s = s

  reply_more : (reply : Reply) → IsSeenReply kills may reply → IsSeenReply more may reply
  reply_more (NoSpare reasons) a = All-weaker (λ (q : Reason). IsSeenWhy kills may q.node.0 q.why) (λ (q : Reason). IsSeenWhy more may q.node.0 q.why) (λ q s. why_more q.node.0 q.why s) reasons a
  reply_more (Bytes bytes) a = tt
  reply_more (Differs bytes) a = tt
  reply_more Done a = tt
  reply_more Range a = tt
  reply_more Long a = tt
  reply_more Lost a = tt
  reply_more Whole a = tt
  reply_more (Rebuilt col node) a = tt
  reply_more NoMem a = tt
  reply_more (Shifted col node) a = tt
  reply_more Clear a = tt

  pub cause_more : (e : Entry) → HasCause who kills may e → HasCause who more may e
  cause_more (Call caller number stamp call reply) c = (c.0, reply_more reply c.1)
  cause_more (Down stamp col node (Killed line)) c = (c.0, k node.0 c.0 c.1, c.2, c.3)
  cause_more (Down stamp col node (Fault count)) c = c
  cause_more (Up stamp col node) c = tt
  cause_more (Move stamp col node) c = tt

  pub account_more : (t : ℕ) (h : List Entry) (e : Entry) → Account who kills may t h e → Account who more may t h e
  account_more t h e a = record { cause = cause_more e a.cause; springs = springs_more kills more t (stamp_of e) h k a.springs }

-- an entry at a place stays there
pub at_more : (G G' : List Entry → Entry → Type 0) (h h' : List Entry) (p : ℕ) → ((b : List Entry) (e : Entry) → G b e → G' b e) → IsPrefix h h' → At h p G → At h' p G'
at_more G G' h h' p f q a = let are = a.are in let place = a.place in record {
  before = a.before;
  entry = a.entry;
  after = a.after ++ q.0;
  are = sym q.1 ∙ (ap (λ (l : List Entry). l ++ q.0) are ∙ append_assoc a.before (a.entry ∷ a.after) q.0);
  place = place;
  good = f a.before a.entry a.good;
}

each_at : (G : List Entry → Entry → Type 0) (h es : List Entry) (p : ℕ) → Each G h es → length h ≤ p → p < length h + length es → At (h ++ es) p G
each_at G h [] p a low high = absurd (omega arith)
each_at G h (e ∷ es) p a low high = elim (cases_lt (length h) p) [
  | inl lt ↦ subst (λ (l : List Entry). At l p G) (append_assoc h (e ∷ []) es)
      (let n : length (h ++ e ∷ []) ≡ length h + 1 = length-append h (e ∷ []) in each_at G (h ++ e ∷ []) es p a.1 (omega arith) (omega arith))
  | inr ge ↦ record { before = h; entry = e; after = es; are = refl; place = omega arith; good = a.0 }
]

in_range : (p a n : ℕ) → 0 < times p (range a n) → (a ≤ p) × (p < a + n)
in_range p a n some = let e = times-range p a n in by (times p (range a n)) e some where
  by : (k : ℕ) → k + once_below p a ≡ once_below p (a + n) → 0 < k → (a ≤ p) × (p < a + n)
  by k e some = (grind (arith, nat_tests), grind (arith, nat_tests))

-- one hold: the places grow by those of its entries
pub holds_accounts : (w : Setting) (r : Request) (kills : Kills) (t0 t after : ℕ) (first now entries : List Entry) (h : List Entry) (answered : Bool) (was is : List ℕ)
    → Knows kills w.seen → IsPrefix first h → now ≡ h ++ entries
    → Event w r h t entries after answered → Comes kills t0 first t → Accounts (Account r.caller kills w.may t0) first was is
    → Accounts (Account r.caller w.seen w.may t0) now was (is ++ range (length h) (length now - length h)) × Comes w.seen t0 now after
holds_accounts w r kills t0 t after first now entries h answered was is k p grown event c acc =
    let told = all_told w r t0 (clock_of h) t h entries after answered refl (comes_more kills w.seen t0 t first h k p c) event.adds.tells event.adds.stamped in
    let long : length now ≡ length h + length entries = ap length grown ∙ length-append h entries in
    let q : IsPrefix first now = (p.0 ++ entries, sym (append_assoc first p.0 entries) ∙ (ap (λ (l : List Entry). l ++ entries) p.1 ∙ sym grown)) in (
      (λ place some.
          let sum = times-append place is (range (length h) (length now - length h)) in
          elim (cases_lt 0 (times place is)) [
            | inl old ↦ elim (acc place old) [
              | inl before ↦ inl before
              | inr a ↦ inr (at_more (Account r.caller kills w.may t0) (Account r.caller w.seen w.may t0) first now place (account_more r.caller kills w.seen w.may k t0) q a)
            ]
            | inr new ↦
                let i = in_range place (length h) (length now - length h) (omega arith) in
                inr (subst (λ (l : List Entry). At l place (Account r.caller w.seen w.may t0)) (sym grown) (each_at (Account r.caller w.seen w.may t0) h entries place told.0 i.0 (let j = i.1 in omega arith)))
          ]),
      subst (λ (l : List Entry). Comes w.seen t0 l after) (sym grown) told.1,
    )
