-- The kills that a board seat has seen, as events know them.
use Rattle.std.proofs.Common.{◌≡◌, ℕ, ◌<◌, ◌≤◌, List, Option, Some, None, refl, sym, ap, ◌∙◌, subst, inl, inr, arith}
use Rattle.std.specs.Prelude.{option_map}
use Rattle.std.proofs.lemmas.Bool.{cases_lt}
use Rattle.std.proofs.lemmas.List.FromFn.{get_or-map-range_with_len, length-map-range_with_len}
use Rattle.std.proofs.Math.ListN.{get_or-eq_default}
use mathlib.Core.List.{IsPrefix}
use Rattle.cod_chronicle.specs.Event.{NodeKill}
use Rattle.cod_board.specs.declared.kill.Kill.{Kill}
use Rattle.cod_board.specs.Seats.{kills_in}
use Rattle.cod_board.specs.Words.{known}
use Rattle.cod_board.proofs.Found.{known_stays}
use Rattle.cod_accounts.specs.Accounts.{Knows}
use Rattle.cod_accounts.specs.Holding.{plain_kill, kills_at}

pub known_later : (node : ℕ) (xs ys : List (ℕ × Kill)) (k : Kill) → IsPrefix xs ys → known node xs ≡ Some k → known node ys ≡ Some k
known_later node xs ys k p e = subst (λ (zs : List (ℕ × Kill)). known node zs ≡ Some k) p.1 (known_stays node k xs p.0 e)

pub kills_known : (n node : ℕ) (seen : List (ℕ × Kill)) → node < n → kills_at (kills_in n seen) node ≡ option_map plain_kill (known node seen)
kills_known n node seen lt = ap (option_map plain_kill) (get_or-map-range_with_len (λ node. known node seen) 0 n node node None lt (omega arith))

none_known : (n node : ℕ) (seen : List (ℕ × Kill)) → n ≤ node → kills_at (kills_in n seen) node ≡ None
none_known n node seen out = ap (option_map plain_kill) (get_or-eq_default (kills_in n seen) None (let l = length-map-range_with_len (λ node. known node seen) 0 n in omega arith))

-- a kill that events know is one that the seat has seen
pub record Seen (node : ℕ) (seen : List (ℕ × Kill)) (k : NodeKill) : Type 0 where
  pub kill : Kill
  pub is : known node seen ≡ Some kill
  pub plain : plain_kill kill ≡ k

pub seen_of : (n node : ℕ) (seen : List (ℕ × Kill)) (k : NodeKill) → kills_at (kills_in n seen) node ≡ Some k → Seen node seen k
seen_of n node seen k e = elim (cases_lt node n) [
  | inl lt ↦ by (known node seen) refl (sym (kills_known n node seen lt) ∙ e)
  | inr ge ↦ absurd (let bad : None ≡ Some k = sym (none_known n node seen ge) ∙ e in cc bad)
] where
  by : (o : Option Kill) → known node seen ≡ o → option_map plain_kill (known node seen) ≡ Some k → Seen node seen k
  by None e' f = absurd (let bad : None ≡ Some k = sym (ap (option_map plain_kill) e') ∙ f in cc bad)
  by (Some q) e' f = record { kill = q; is = e'; plain = (let z : Some (plain_kill q) ≡ Some k = sym (ap (option_map plain_kill) e') ∙ f in cc z) }

pub knows_more : (n : ℕ) (xs ys : List (ℕ × Kill)) → IsPrefix xs ys → Knows (kills_at (kills_in n xs)) (kills_at (kills_in n ys))
knows_more n xs ys p x k e = elim (cases_lt x n) [
  | inl lt ↦
      let s = seen_of n x xs k e in
      let is = s.is in
      let plain = s.plain in
      kills_known n x ys lt ∙ (ap (option_map plain_kill) (known_later x xs ys s.kill p is) ∙ ap (λ (q : NodeKill). Some q) plain)
  | inr ge ↦ absurd (let bad : None ≡ Some k = sym (none_known n x xs ge) ∙ e in cc bad)
]
