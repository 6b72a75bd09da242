-- Legal chronicles, cut and joined.
use Rattle.std.proofs.Common.{◌≡◌, ℕ, ◌+◌, ◌-◌, ◌≤◌, Bool, true, false, cond, eqb, Option, Some, None, List, [], ◌∷◌, ◌++◌, length, refl, sym, ap, ◌∙◌, subst}
use Rattle.std.proofs.Common.{arith}
use Rattle.std.specs.Prelude.{is_some, IsNone, nat_lt, not, ◌||◌, ◌==◌}
use Rattle.std.specs.List.{filter, AllByRecursion, range_with_len}
use Rattle.std.proofs.lemmas.Bool.{le-ltb, lt-ltb, ltb-true, both_ways}
use Rattle.std.proofs.lemmas.List.{append-nil, append_assoc}
use Rattle.cod_types.specs.Limits.{Shape, segment_length}
use Rattle.cod_types.specs.Plain.{refusal}
use Rattle.cod_types.specs.declared.call.Call.{Call as Asked}
use Rattle.cod_types.specs.declared.call.Call.TheVariants.{Read, Write, Swap, Put, Merge, Tick, Rebuild, Upgrade, Drain}
use Rattle.cod_types.specs.declared.call.Reply.{Reply}
use Rattle.cod_types.specs.declared.call.Reply.TheVariants.{Range, Long, Rebuilt, Shifted}
use Rattle.cod_chronicle.specs.declared.entry.Entry.{Entry}
use Rattle.cod_chronicle.specs.declared.entry.Entry.TheVariants.{Call, Down, Up, Move}
use Rattle.cod_chronicle.specs.Said.{Site, is_down, downs, is_over, node_of, is_refused}
use Rattle.cod_chronicle.specs.Legal.{IsAnswer, IsNext, Fits, LegalAfter, IsLegal, up_of, move_of, node_id}
use Rattle.cod_chronicle.specs.Laws.{IsInVain, IsLostForGood, IsSettled, EndsSettled, WasLegal, IsLegalBehind}
use Rattle.cod_chronicle.proofs.Growth.{is_down-push}

-- a call that the numbers refuse
pub refusal_refuses : (g : Shape) (call : Asked) (r : Reply) → refusal g call ≡ Some r → is_refused r ≡ true
refusal_refuses g (Read off len) r is = by (nat_lt (segment_length g) (off + len)) r is where
  by : (b : Bool) (r : Reply) → cond b (Some Range) None ≡ Some r → is_refused r ≡ true
  by true r is = (let e : Range ≡ r = cc in ap is_refused (sym e))
  by false r is = cc
refusal_refuses g (Write off bytes) r is = by (nat_lt (segment_length g) (off + length bytes)) (nat_lt g.update (length bytes)) r is where
  by : (b c : Bool) (r : Reply) → cond b (Some Range) (cond c (Some Long) None) ≡ Some r → is_refused r ≡ true
  by true c r is = (let e : Range ≡ r = cc in ap is_refused (sym e))
  by false true r is = (let e : Long ≡ r = cc in ap is_refused (sym e))
  by false false r is = cc
refusal_refuses g (Swap off old new) r is = by (nat_lt (segment_length g) (off + length old)) (nat_lt g.update (length new) || not (length new == length old)) r is where
  by : (b c : Bool) (r : Reply) → cond b (Some Range) (cond c (Some Long) None) ≡ Some r → is_refused r ≡ true
  by true c r is = (let e : Range ≡ r = cc in ap is_refused (sym e))
  by false true r is = (let e : Long ≡ r = cc in ap is_refused (sym e))
  by false false r is = cc
refusal_refuses g (Put bytes) r is = by (eqb (length bytes) (segment_length g)) r is where
  by : (b : Bool) (r : Reply) → cond b None (Some Long) ≡ Some r → is_refused r ≡ true
  by true r is = cc
  by false r is = (let e : Long ≡ r = cc in ap is_refused (sym e))
refusal_refuses g Merge r is = cc
refusal_refuses g Tick r is = cc
refusal_refuses g Rebuild r is = cc
refusal_refuses g Upgrade r is = cc
refusal_refuses g (Drain node) r is = cc

-- a test that passes more keeps more
filter_mono : (p q : ℕ → Bool) → ((i : ℕ) → p i ≡ true → q i ≡ true) → (xs : List ℕ) → length (filter p xs) ≤ length (filter q xs)
filter_mono p q f [] = omega arith
filter_mono p q f (x ∷ xs) = by (p x) (q x) refl refl (filter_mono p q f xs) (f x) where
  by : (b c : Bool) → p x ≡ b → q x ≡ c → length (filter p xs) ≤ length (filter q xs) → (p x ≡ true → q x ≡ true)
      → length (cond (p x) (x ∷ filter p xs) (filter p xs)) ≤ length (cond (q x) (x ∷ filter q xs) (filter q xs))
  by true true e d h g = rw (e, d) (omega arith)
  by true false e d h g = (let wrong : q x ≡ true = g e in cc)
  by false true e d h g = rw (e, d) (omega arith)
  by false false e d h g = rw (e, d) (omega arith)

-- what has more columns down is over too
pub over_mono : (site : Site) (h k : List Entry) → ((i : ℕ) → is_down h i ≡ true → is_down k i ≡ true) → is_over site h ≡ true → is_over site k ≡ true
over_mono site h k f o =
    let m = filter_mono (λ i. is_down h i) (λ i. is_down k i) f (range_with_len 0 site.shape.n) in
    let l = ltb-true (site.shape.n - site.shape.k) (length (downs site h)) o in
    lt-ltb (site.shape.n - site.shape.k) (length (downs site k)) (omega arith)

filter_none : (p : ℕ → Bool) → ((i : ℕ) → p i ≡ false) → (xs : List ℕ) → filter p xs ≡ []
filter_none p f [] = refl
filter_none p f (x ∷ xs) = rw (f x) (filter_none p f xs)

-- where no column is down
pub downs-none : (site : Site) (h : List Entry) → ((i : ℕ) → is_down h i ≡ false) → downs site h ≡ []
downs-none site h f = filter_none (λ i. is_down h i) f (range_with_len 0 site.shape.n)

pub not_over-none : (site : Site) (h : List Entry) → ((i : ℕ) → is_down h i ≡ false) → is_over site h ≡ false
not_over-none site h f = rw (downs-none site h f) (le-ltb (site.shape.n - site.shape.k) 0 (omega arith))

-- what an answer is once too many columns are down
in_vain : (site : Site) (before : List Entry) (call : Asked) (reply : Reply) → is_over site before ≡ true → IsAnswer site before call reply → is_refused reply ≡ true
in_vain site before call reply over a = by (refusal site.shape call) refl where
  by : (o : Option Reply) → refusal site.shape call ≡ o → is_refused reply ≡ true
  by (Some r) e =
      let s = a.refused in
      let same : reply ≡ r = rw e at s in
      ap is_refused same ∙ refusal_refuses site.shape call r e
  by None e =
      let n : IsNone (refusal site.shape call) = ap is_some e in
      let l = (a.lost n).1 over in
      ap is_refused l

lost_after : (site : Site) (before rest : List Entry) → LegalAfter site before rest → is_over site before ≡ true → AllByRecursion IsInVain rest
lost_after site before [] l over = tt
lost_after site before ((Call caller number stamp call reply) ∷ rest) l over =
    let e : Entry = Call caller number stamp call reply in (
      in_vain site before call reply over l.0,
      lost_after site (before ++ e ∷ []) rest l.1 (over_mono site before (before ++ e ∷ []) (λ i d. is_down-push before e i ∙ d) over),
    )
lost_after site before ((Down stamp col node cause) ∷ rest) l over =
    let e : Entry = Down stamp col node cause in
    (tt, lost_after site (before ++ e ∷ []) rest l.1 (over_mono site before (before ++ e ∷ []) (λ i d. is_down-push before e i ∙ still (eqb col i) (is_down before i) d) over)) where
      still : (b d : Bool) → d ≡ true → cond b true d ≡ true
      still true d h = refl
      still false d h = h
lost_after site before ((Up stamp col node) ∷ rest) l over = (let a = l.0.arrives in let o = a.enough in absurd (both_ways (is_over site before) o over))
lost_after site before ((Move stamp col node) ∷ rest) l over = (let a = l.0.arrives in let o = a.enough in absurd (both_ways (is_over site before) o over))

pub legal_right : (site : Site) (before h rest : List Entry) → LegalAfter site before (h ++ rest) → LegalAfter site (before ++ h) rest
legal_right site before [] rest l = (let n = append-nil before in rw n l)
legal_right site before (e ∷ h) rest l = (let a = append_assoc before (e ∷ []) h in subst (λ (k : List Entry). LegalAfter site k rest) a (legal_right site (before ++ e ∷ []) h rest l.1))

pub lost_for_good : IsLostForGood
lost_for_good site h rest l over = lost_after site h rest (legal_right site [] h rest l) over

-- more behind
pub next_more : (asked : Asked) (told : Reply) (h rest : List Entry) → IsNext asked told h → IsNext asked told (h ++ rest)
next_more asked told [] rest n = absurd n
next_more asked told ((Call caller number stamp call reply) ∷ h) rest n = n
next_more asked told ((Down stamp col node cause) ∷ h) rest n = n
next_more asked told ((Up stamp col node) ∷ h) rest n = n
next_more asked told ((Move stamp col node) ∷ h) rest n = n

fits_more : (site : Site) (before : List Entry) (e : Entry) (h rest : List Entry) → Fits site before e h → Fits site before e (h ++ rest)
fits_more site before (Call caller number stamp call reply) h rest f = f
fits_more site before (Down stamp col node cause) h rest f = f
fits_more site before (Up stamp col node) h rest f = record { down = f.down; arrives = f.arrives; rebuild = next_more Rebuild (Rebuilt col node) h rest f.rebuild }
fits_more site before (Move stamp col node) h rest f =
    record { column = f.column; live = f.live; arrives = f.arrives; drain = next_more (Drain (node_id (node_of site before col))) (Shifted col node) h rest f.drain }

-- legal entries behind a legal chronicle
pub legal-append : (site : Site) (before h rest : List Entry) → LegalAfter site before h → LegalAfter site (before ++ h) rest → LegalAfter site before (h ++ rest)
legal-append site before [] rest a b = (let n = append-nil before in rw n at b)
legal-append site before (e ∷ h) rest a b =
    (fits_more site before e h rest a.0, legal-append site (before ++ e ∷ []) h rest a.1 (let s = append_assoc before (e ∷ []) h in subst (λ (k : List Entry). LegalAfter site k rest) (sym s) b))

-- less behind
next_less : (asked : Asked) (told : Reply) (f : Entry) (h rest : List Entry) → IsNext asked told (f ∷ h ++ rest) → IsNext asked told (f ∷ h)
next_less asked told (Call caller number stamp call reply) h rest n = n
next_less asked told (Down stamp col node cause) h rest n = n
next_less asked told (Up stamp col node) h rest n = n
next_less asked told (Move stamp col node) h rest n = n

fits_less : (site : Site) (before : List Entry) (e f : Entry) (h rest : List Entry) → Fits site before e (f ∷ h ++ rest) → Fits site before e (f ∷ h)
fits_less site before (Call caller number stamp call reply) g h rest f = f
fits_less site before (Down stamp col node cause) g h rest f = f
fits_less site before (Up stamp col node) g h rest f = record { down = f.down; arrives = f.arrives; rebuild = next_less Rebuild (Rebuilt col node) g h rest f.rebuild }
fits_less site before (Move stamp col node) g h rest f =
    record { column = f.column; live = f.live; arrives = f.arrives; drain = next_less (Drain (node_id (node_of site before col))) (Shifted col node) g h rest f.drain }

fits_last : (site : Site) (before : List Entry) (e : Entry) (rest : List Entry) → (up_of (Some e) ≡ None) × (move_of (Some e) ≡ None) → Fits site before e rest → Fits site before e []
fits_last site before (Call caller number stamp call reply) rest s f = f
fits_last site before (Down stamp col node cause) rest s f = f
fits_last site before (Up stamp col node) rest s f = (let u = s.0 in absurd (cc))
fits_last site before (Move stamp col node) rest s f = (let u = s.1 in absurd (cc))

legal_left : (site : Site) (before h rest : List Entry) → LegalAfter site before (h ++ rest) → IsSettled h → LegalAfter site before h
legal_left site before [] rest l s = tt
legal_left site before (e ∷ []) rest l s = (fits_last site before e rest s l.0, tt)
legal_left site before (e ∷ f ∷ h) rest l s = (fits_less site before e f h rest l.0, legal_left site (before ++ e ∷ []) (f ∷ h) rest l.1 s)

settled_alone : (site : Site) (before : List Entry) (e : Entry) → Fits site before e [] → IsSettled (e ∷ [])
settled_alone site before (Call caller number stamp call reply) f = (refl, refl)
settled_alone site before (Down stamp col node cause) f = (refl, refl)
settled_alone site before (Up stamp col node) f = absurd f.rebuild
settled_alone site before (Move stamp col node) f = absurd f.drain

settled_after : (site : Site) (before h : List Entry) → LegalAfter site before h → IsSettled h
settled_after site before [] l = (refl, refl)
settled_after site before (e ∷ []) l = settled_alone site before e l.0
settled_after site before (e ∷ f ∷ h) l = settled_after site (before ++ e ∷ []) (f ∷ h) l.1

pub ends_settled : EndsSettled
ends_settled site h l = settled_after site [] h l

pub was_legal : WasLegal
was_legal site h rest l s = legal_left site [] h rest l s

pub legal_behind : IsLegalBehind
legal_behind site h more l = (legal_right site [] h more, legal-append site [] h more l)

-- one more entry that asks for none behind it
pub legal-push : (site : Site) (h : List Entry) (e : Entry) → IsLegal site h → Fits site h e [] → IsLegal site (h ++ e ∷ [])
legal-push site h e l f = legal-append site [] h (e ∷ []) l (f, tt)

-- a column comes to a node, and the call that brought it
pub legal-pair : (site : Site) (h : List Entry) (mark call : Entry) → IsLegal site h → Fits site h mark (call ∷ []) → Fits site (h ++ mark ∷ []) call [] → IsLegal site (h ++ mark ∷ call ∷ [])
legal-pair site h mark call l m c = legal-append site [] h (mark ∷ call ∷ []) l (m, (c, tt))
