-- The board of the words at the end.
use Rattle.std.proofs.Common.{◌≡◌, ℕ, ◌+◌, ◌/◌, ◌<◌, ◌≤◌, List, [], ◌∷◌, zero, suc, length, set, get_or, sym, ap, ◌∙◌, subst, arith, get_or-set_other, get_or-set_same, Option, Some, None}
use Rattle.std.specs.Prelude.{slice_index}
use Rattle.std.proofs.Math.ListN.{get_or-eq_default}
use mathlib.Core.Logic.{dite}
use mathlib.Core.Option as maybe
use lib.ListN.{get_elem?}
use native.Mathlib.Decide.{ℕ_discrete, dec_lt}
use Rattle.cod_board.specs.declared.kill.Kill.{Kill}
use Rattle.cod_board.specs.declared.view.View.{View}
use Rattle.cod_board.specs.Kills.{kill_of, HaveLines}
use Rattle.cod_board.specs.Words.{in_word, AreWords}
use Rattle.cod_board.specs.Seats.{IsClosed}
use Rattle.cod_board.proofs.Keeps.{Ended}
use Rattle.cod_board.proofs.Found.{in_some_word}

-- so many nodes were read from the words
abbrev pub IsRead : List ℕ → List (Option Kill) → ℕ → Type 0
IsRead words kills n = (node : ℕ) → node < n → kill_of kills node ≡ in_word (slice_index words node)

pub read_more : (words : List ℕ) (kills : List (Option Kill)) (n : ℕ) (o : Option Kill) → n < length kills → o ≡ in_word (slice_index words n) → IsRead words kills n
    → IsRead words (set kills n o) (n + 1)
read_more words kills n o inside is read node small = dite (ℕ_discrete node n)
    (λ e. subst (λ (z : ℕ). get_or (set kills n o) z None ≡ in_word (slice_index words z)) (sym e) (get_or-set_same kills n o None inside ∙ is))
    (λ other. get_or-set_other kills n node o None other ∙ read node (omega arith))

there : (n : ℕ) (words : List ℕ) (kills : List (Option Kill)) (node : ℕ) (kill : Kill) → length kills ≡ n → IsRead words kills n → kill_of kills node ≡ Some kill
    → in_word (slice_index words node) ≡ Some kill
there n words kills node kill long read e = dite (dec_lt node n)
    (λ inside. sym (read node inside) ∙ e)
    (λ outside. let d : kill_of kills node ≡ None = get_or-eq_default kills None (omega arith) in let bad : None ≡ Some kill = sym d ∙ e in absurd (cc bad))

has_word : (words : List ℕ) (xs : List (ℕ × Kill)) (x : ℕ × Kill) (i : ℕ) → AreWords words xs → get_elem? xs i ≡ maybe.some x → in_word (slice_index words x.0) ≡ Some x.1
has_word words [] x i a e = absurd (maybe.some-ne-none x (sym e))
has_word words (y ∷ ys) x zero a e = let same : y ≡ x = maybe.some-injective y x e in subst (λ (z : ℕ × Kill). in_word (slice_index words z.0) ≡ Some z.1) same a.0
has_word words (y ∷ ys) x (suc i) a e = has_word words ys x i a.1 e

pub have_lines : (n : ℕ) (v : View) (words : List ℕ) (kills : List (Option Kill)) → length kills ≡ n → Ended n v words → IsRead words kills n → HaveLines kills
have_lines n v words kills long ended read node k e =
    let w = in_some_word (slice_index words node) k (there n words kills node k long read e) in
    let big : 4294967296 ≤ slice_index words node = ended.lined node w.0 in
    let line : slice_index words node / 4294967296 ≡ k.line = ap (λ (x : Kill). x.line) w.1 in
    omega arith

pub is_closed : (n : ℕ) (v : View) (words : List ℕ) (kills : List (Option Kill)) → length kills ≡ n → Ended n v words → IsRead words kills n → IsClosed n v kills
is_closed n v words kills long ended read = record {
  size = long;
  seen = λ node kill has.
      let is = has_word words v.seen (node, kill) has.0 ended.seen has.1 in
      let some = (in_some_word (slice_index words node) kill is).0 in
      let inside : node < n = dite (dec_lt node n) (λ h. h) (λ out. let wide = ended.wide in let d : slice_index words node ≡ 0 = get_or-eq_default words 0 (omega arith) in absurd (omega arith)) in
      read node inside ∙ is;
  made = λ node kill e. ended.made node kill (there n words kills node kill long read e);
}

pub read_at : (ws : List ℕ) (i w : ℕ) → get_elem? ws i ≡ maybe.some w → slice_index ws i ≡ w
read_at [] i w e = absurd (maybe.some-ne-none w (sym e))
read_at (x ∷ ws) zero w e = maybe.some-injective x w e
read_at (x ∷ ws) (suc i) w e = read_at ws i w e

pub nothing_read : (ws : List ℕ) (kills : List (Option Kill)) → IsRead ws kills 0
nothing_read ws kills node small = absurd (omega arith)
