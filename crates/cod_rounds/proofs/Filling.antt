-- A round over all columns that gives each its bytes.
use Rattle.std.proofs.Common.{◌≡◌, inl, inr, ℕ, ◌+◌, ◌<◌, ◌≤◌, ◌++◌, ◌∷◌, [], List, length, length-set, false, Some, refl, sym, ap, ◌∙◌, subst, arith}
use Rattle.std.proofs.lemmas.Bool.{both_ways, cases_eq}
use Rattle.cod_types.specs.Limits.{Shape}
use Rattle.cod_chronicle.specs.declared.entry.Entry.TheVariants.{Down}
use Rattle.cod_chronicle.specs.Legal.{node_id}
use Rattle.cod_seg.specs.Calls.{costs}
use Rattle.cod_seg.specs.Runs.{Runs}
use Rattle.cod_seg.specs.Seg.{Col, col_at, node_in, Seg, with_col}
use Rattle.cod_seg.specs.Sound.{Sound}
use Rattle.cod_seg.specs.Steps.{KeepsColumn, PutsColumn}
use Rattle.cod_seg.proofs.Keeping.{col_here, col_there}
use Rattle.cod_seg.proofs.Running.{runs_on, runs_start}
use Rattle.cod_segment.specs.Events.{HasRoom}
use Rattle.cod_rounds.specs.Rounds.{CountsUp, Given, GoesOn, rooms_in}
use Rattle.cod_rounds.specs.Turns.{Fallen, IsGiven, MayTurn, Turned}
use Rattle.cod_rounds.proofs.Passing.{and_then, fallen_goes, none_made, others_stay, rooms_stay, setting_on, turn_counts}

-- a column that is down gets nothing
put_down : (g : Shape) (frail bytes cuts : List ℕ) (col : ℕ) (c : Col) → ((held : List ℕ) → c.state.device.content ≡ Some held → length held ≡ c.state.device.size) → c.is_up ≡ false
    → PutsColumn g frail col bytes cuts c c
put_down g frail bytes cuts col c full down = record {
  keeps = record {
    node = refl;
    owned = refl;
    shape = refl;
    tells = refl;
    never_fails = refl;
    full = full;
    fits = λ fit. fit;
    roomy = λ none e. e;
    long = λ low. refl;
    plain = λ low. refl;
    kept = λ above k. k;
    exact = λ above up e. e;
  };
  live = refl;
  faults = refl;
  block = λ low up. absurd (both_ways c.is_up down up);
  parity = λ high up. absurd (both_ways c.is_up down up);
}

pub given_none : (bytes : List ℕ) (s : Seg) (t : ℕ) → Sound s → Given bytes 0 s t s t
given_none bytes s t sound = record {
  marked = s;
  runs = runs_start 0 s sound;
  makes = λ w r setting. none_made w r t s;
  becomes = refl;
  size = refl;
  each = λ i lt. absurd (omega (arith, lt));
  rest = λ i high. refl;
  counts = λ i lt. absurd (omega (arith, lt));
  rooms = refl;
}

pub given_may : (bytes : List ℕ) (col : ℕ) (s : Seg) (t : ℕ) (u : Seg) (mid : ℕ) → Given bytes col s t u mid → col < s.site.shape.n → HasRoom 2 s → MayTurn col u
given_may bytes col s t u mid given among room =
    let m = given.marked in
    let runs = given.runs in
    let few = runs.log in
    let below : col < m.site.shape.n = rw (runs.site) among in
    let size = given.size ∙ runs.sound.columns.size in
    subst (MayTurn col) (sym given.becomes) (record {
      among = below;
      there = omega (arith, size, below);
      column = rw (given.rest col (omega arith)) (runs.sound.columns.each col below);
      room = omega (arith, few, room, among);
    })

-- one column more, over a segment with its marks alone and the columns that there are
given_on : (bytes : List ℕ) (col : ℕ) (s : Seg) (t : ℕ) (m : Seg) (cs : List Col) (mid : ℕ) (v : Seg) (after : ℕ) → col < s.site.shape.n → Runs 0 col s m → GoesOn s t m mid → length cs ≡ length m.cols
    → ((i : ℕ) → i < col → PutsColumn m.site.shape m.frail i bytes m.cuts (col_at m.cols i) (col_at cs i)) → ((i : ℕ) → col ≤ i → col_at cs i ≡ col_at m.cols i)
    → ((i : ℕ) → i < col + 1 → CountsUp (costs 0 1) (col_at s.cols i) (col_at v.cols i)) → rooms_in v.cols ≡ rooms_in s.cols
    → Turned (IsGiven m.site.shape m.frail bytes m.cuts col) col (record m { cols = cs }) mid v after → Given bytes (col + 1) s t v after
given_on bytes col s t m cs mid v after among runs makes size each rest counts rooms (inl rests) =
    let cols : v.cols ≡ cs = ap (λ (x : Seg). x.cols) rests.same in
    let below : col < m.site.shape.n = rw (runs.site) among in
    let same = rest col (omega arith) in
    record {
      marked = m;
      runs = runs_on 0 col col s m m (omega arith) among runs (inl refl);
      makes = subst (λ (n : ℕ). GoesOn s t m n) (sym rests.clock) makes;
      becomes = rests.same ∙ ap (λ (l : List Col). record m { cols = l }) (sym cols);
      size = ap length cols ∙ size;
      each = λ i lt. rw cols (elim (cases_eq i col) [
        | inl here ↦ rw (here, same) (put_down m.site.shape m.frail bytes m.cuts col (col_at m.cols col) (runs.sound.columns.each col below).full (ap (λ (c : Col). c.is_up) (sym same) ∙ rests.down))
        | inr other ↦ each i (omega (arith, lt, other))
      ]);
      rest = λ i high. ap (λ (l : List Col). col_at l i) cols ∙ rest i (omega (arith, high));
      counts = counts;
      rooms = rooms;
    }
given_on bytes col s t m cs mid v after among runs makes size each rest counts rooms (inr (inl w)) =
    let cols : v.cols ≡ with_col cs col w.column = ap (λ (x : Seg). x.cols) w.becomes in
    let below : col < m.site.shape.n = rw (runs.site) among in
    let columns = runs.sound.columns.size in
    let there : col < length cs = omega (arith, size, columns, below) in
    let same = rest col (omega arith) in
    record {
      marked = m;
      runs = runs_on 0 col col s m m (omega arith) among runs (inl refl);
      makes = subst (λ (n : ℕ). GoesOn s t m n) (sym w.clock) makes;
      becomes = w.becomes ∙ ap (λ (l : List Col). record m { cols = l }) (sym cols);
      size = ap length cols ∙ length-set cs col w.column ∙ size;
      each = λ i lt. rw cols (elim (cases_eq i col) [
        | inl here ↦
            rw (here, col_here cs col w.column there) (subst (λ (c : Col). PutsColumn m.site.shape m.frail col bytes m.cuts c w.column) same w.does.puts)
        | inr other ↦ rw (col_there cs col i w.column other) (each i (omega (arith, lt, other)))
      ]);
      rest = λ i high. ap (λ (l : List Col). col_at l i) cols ∙ col_there cs col i w.column (λ e. omega (arith, high, e)) ∙ rest i (omega (arith, high));
      counts = counts;
      rooms = rooms;
    }
given_on bytes col s t m cs mid v after among runs makes size each rest counts rooms (inr (inr fell)) =
    let x = fell.marks in
    let c = x.column in
    let same = rest col (omega arith) in
    let m' : Seg = record m { cols = with_col m.cols col c; log = m.log ++ Down x.stamp col (node_id (node_in (col_at m.cols col))) x.cause ∷ [] } in
    let fell' : Fallen col m mid m' after = record {
      marks = record {
        column = c;
        stamp = x.stamp;
        cause = x.cause;
        was = ap (λ (d : Col). d.is_up) (sym same) ∙ x.was;
        down = x.down;
        keeps = subst (λ (d : Col). KeepsColumn m.site.shape m.frail col d c) same x.keeps;
        why = x.why;
        follows = x.follows;
        becomes = refl;
      };
      count = fell.count;
      why = fell.why;
      stamp = fell.stamp;
      clock = fell.clock;
      room = fell.room ∙ ap (λ (d : Col). d.room) same;
    } in
    let cols : v.cols ≡ with_col cs col c = ap (λ (y : Seg). y.cols) x.becomes in
    let below : col < m.site.shape.n = rw (runs.site) among in
    let columns = runs.sound.columns.size in
    let there : col < length cs = omega (arith, size, columns, below) in
    let there' : col < length m.cols = omega (arith, columns, below) in
    record {
      marked = m';
      runs = runs_on 0 col col s m m' (omega arith) among runs (inr (inr fell'.marks));
      makes = λ w r setting. and_then w r t mid after false s m m' (makes w r setting) (fallen_goes col m mid m' after below fell' w r (setting_on w s m runs.site runs.frail setting));
      becomes = x.becomes ∙ (λ i. record m { cols = sym cols i; log = m.log ++ Down x.stamp col (node_id (node_in (same i))) x.cause ∷ [] });
      size = ap length cols ∙ length-set cs col c ∙ size ∙ sym (length-set m.cols col c);
      each = λ i lt. rw cols (elim (cases_eq i col) [
        | inl here ↦ rw (here, col_here cs col c there, col_here m.cols col c there') (put_down m.site.shape m.frail bytes m.cuts col c x.keeps.full x.down)
        | inr other ↦ rw (col_there cs col i c other, col_there m.cols col i c other) (each i (omega (arith, lt, other)))
      ]);
      rest = λ i high. ap (λ (l : List Col). col_at l i) cols ∙ col_there cs col i c (λ e. omega (arith, high, e)) ∙ rest i (omega (arith, high))
          ∙ sym (col_there m.cols col i c (λ e. omega (arith, high, e)));
      counts = counts;
      rooms = rooms;
    }

pub given_more : (bytes : List ℕ) (col : ℕ) (s : Seg) (t : ℕ) (u : Seg) (mid : ℕ) (v : Seg) (after : ℕ) → col < s.site.shape.n → Given bytes col s t u mid
    → Turned (IsGiven u.site.shape u.frail bytes u.cuts col) col u mid v after → Given bytes (col + 1) s t v after
given_more bytes col s t u mid v after among given turn =
    let m = given.marked in
    let runs = given.runs in
    let does = IsGiven u.site.shape u.frail bytes u.cuts col in
    let below : col < m.site.shape.n = rw (runs.site) among in
    let columns = runs.sound.columns.size in
    let size = given.size in
    let there : col < length u.cols = omega (arith, size, columns, below) in
    let same : col_at u.cols col ≡ col_at s.cols col = given.rest col (omega arith) ∙ runs.rest col (omega arith) in
    let counted : CountsUp (costs 0 1) (col_at u.cols col) (col_at v.cols col) = turn_counts does (costs 0 1) col u mid v after there (λ new is. is.counts) turn in
    given_on bytes col s t m u.cols mid v after among runs given.makes size given.each given.rest
    (λ i lt. elim (cases_eq i col) [
      | inl here ↦ rw (here, ← same) counted
      | inr other ↦ subst (λ (c : Col). CountsUp (costs 0 1) (col_at s.cols i) c) (sym (others_stay does col i u mid v after other turn)) (given.counts i (omega (arith, lt, other)))
    ])
    ((rooms_stay does col u mid v after (λ new is. is.room) turn).0 ∙ given.rooms)
    (subst (λ (x : Seg). Turned (IsGiven x.site.shape x.frail bytes x.cuts col) col x mid v after) given.becomes turn)
