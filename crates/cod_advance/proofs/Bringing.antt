-- What is left of a rebuild, and which nodes are free for it.
use Rattle.std.proofs.Common.{◌≡◌, ◌≢◌, ◌⊎◌, inl, inr, ℕ, ◌+◌, ◌-◌, ◌<◌, ◌≤◌, min, Bool, true, false, cond, Option, Some, None, List, length, refl, sym, ap, ◌∙◌, subst, arith}
use Rattle.std.specs.Prelude.{◌&&◌, ◌||◌, not, is_some, IsSome}
use Rattle.std.proofs.lemmas.Bool.{both_ways, eq-eqb, eqb-true, false≢true}
use Rattle.cod_chronicle.specs.Event.{Kills, Setting}
use Rattle.cod_seg.specs.Seg.{Rebuilding, Seg, Target}
use Rattle.cod_seg.specs.Steps.{filled_with}
use Rattle.cod_segment.specs.Exact.{Aimed, fault_at, SweepsRebuild, SweepsTarget}
use Rattle.cod_advance.specs.Work.{is_free, is_goal_on, is_target_on, left_of, left_on, pieces_in}
use Rattle.cod_advance.proofs.Counting.{and_both, and_first, and_second, not_false, not_true, pieces_fall, pieces_rise}

-- ---- free nodes

-- what it is for a node to be free
pub record IsFree (kills : Kills) (o : Option Rebuilding) (x : ℕ) : Type 0 where
  pub alive : is_some (kills x) ≡ false
  pub whole : (is_some (fault_at o x) ≡ false) ⊎ (is_goal_on o x ≡ true)

either : (a b : Bool) → (not a || b) ≡ true → (a ≡ false) ⊎ (b ≡ true)
either true b h = inr h
either false b h = inl refl

or_either : (a b : Bool) → (a ≡ false) ⊎ (b ≡ true) → (not a || b) ≡ true
or_either true b (inl h) = absurd (false≢true (sym h))
or_either true b (inr h) = h
or_either false b h = refl

pub free_is : (kills : Kills) (o : Option Rebuilding) (x : ℕ) → is_free kills o x ≡ true → IsFree kills o x
free_is kills o x is = record {
  alive = not_true (is_some (kills x)) (and_first (not (is_some (kills x))) (not (is_some (fault_at o x)) || is_goal_on o x) is);
  whole = either (is_some (fault_at o x)) (is_goal_on o x) (and_second (not (is_some (kills x))) (not (is_some (fault_at o x)) || is_goal_on o x) is);
}

pub free_by : (kills : Kills) (o : Option Rebuilding) (x : ℕ) → IsFree kills o x → is_free kills o x ≡ true
free_by kills o x f =
    and_both (not (is_some (kills x))) (not (is_some (fault_at o x)) || is_goal_on o x) (not_false (is_some (kills x)) f.alive)
    (or_either (is_some (fault_at o x)) (is_goal_on o x) f.whole)

-- ---- a sweep

target_kept : (w : Setting) (old new : Option Target) (x : ℕ) → SweepsTarget w old new → is_target_on new x ≡ true → is_target_on old x ≡ true
target_kept w None new x is on = subst (λ (o : Option Target). is_target_on o x ≡ true) is on
target_kept w (Some t) new x (inl is) on = subst (λ (o : Option Target). is_target_on o x ≡ true) is.0 on
target_kept w (Some t) new x (inr is) on = absurd (false≢true (subst (λ (o : Option Target). is_target_on o x ≡ true) is.0 on))

swept_free_at : (w : Setting) (old : Option Rebuilding) (new : Option Rebuilding) (x : ℕ) → SweepsRebuild w old new → IsFree w.known new x → IsFree w.known old x
swept_free_at w None new x is f = subst (λ (o : Option Rebuilding). IsFree w.known o x) is f
swept_free_at w (Some r) new x is f =
    let g : IsFree w.known (Some (record r { target = is.0 })) x = subst (λ (o : Option Rebuilding). IsFree w.known o x) is.1 f in
    record { alive = g.alive; whole = elim g.whole [ inl a ↦ inl a | inr a ↦ inr (target_kept w r.target is.0 x is.2 a) ] }

pub swept_free : (w : Setting) (old new : Option Rebuilding) (x : ℕ) → SweepsRebuild w old new → is_free w.known new x ≡ true → is_free w.known old x ≡ true
swept_free w old new x is f = free_by w.known old x (swept_free_at w old new x is (free_is w.known new x f))

le_same : (a b : ℕ) → a ≡ b → a ≤ b
le_same a b e = omega (arith, e)

swept_left_on : (w : Setting) → ((x : ℕ) → w.known x ≡ w.seen x) → (block : ℕ) (old new : Option Target) → SweepsTarget w old new → left_on w.known block new ≤ left_on w.known block old
swept_left_on w calm block None new is = le_same (left_on w.known block new) (left_on w.known block None) (ap (left_on w.known block) is)
swept_left_on w calm block (Some t) new (inl is) = le_same (left_on w.known block new) (left_on w.known block (Some t)) (ap (left_on w.known block) is.0)
swept_left_on w calm block (Some t) new (inr is) =
    let dead : left_on w.known block (Some t) ≡ pieces_in block + 1 = ap (λ (b : Bool). cond b (pieces_in block + 1) (pieces_in (block - t.filled))) (ap is_some (calm t.room.node.0) ∙ is.1) in
    let gone : left_on w.known block new ≡ pieces_in block + 1 = ap (left_on w.known block) is.0 in
    le_same (left_on w.known block new) (left_on w.known block (Some t)) (gone ∙ sym dead)

pub swept_left : (w : Setting) → ((x : ℕ) → w.known x ≡ w.seen x) → (block : ℕ) (old new : Option Rebuilding) → SweepsRebuild w old new → left_of w.known block new ≤ left_of w.known block old
swept_left w calm block None new is = rw is (omega arith)
swept_left w calm block (Some r) new is = rw is.1 (swept_left_on w calm block r.target is.0 is.2)

-- ---- bounds

left_on_most : (kills : Kills) (block : ℕ) (o : Option Target) → left_on kills block o ≤ pieces_in block + 1
left_on_most kills block None = omega arith
left_on_most kills block (Some t) = by (is_some (kills t.room.node.0)) where
  by : (b : Bool) → cond b (pieces_in block + 1) (pieces_in (block - t.filled)) ≤ pieces_in block + 1
  by true = omega arith
  by false = (let rise = pieces_rise (block - t.filled) block (omega arith) in omega (arith, rise))

pub left_most : (kills : Kills) (block : ℕ) (o : Option Rebuilding) → left_of kills block o ≤ pieces_in block + 1
left_most kills block None = omega arith
left_most kills block (Some r) = left_on_most kills block r.target

-- a target on a node that lives
pub left_alive : (kills : Kills) (block : ℕ) (r : Rebuilding) (t : Target) → r.target ≡ Some t → kills t.room.node.0 ≡ None → left_of kills block (Some r) ≡ pieces_in (block - t.filled)
left_alive kills block r t goal alive =
    ap (left_on kills block) goal ∙ ap (λ (o : Option _). cond (is_some o) (pieces_in block + 1) (pieces_in (block - t.filled))) alive

-- ---- a target that is taken

-- the rebuild had no target
abbrev pub HasNoTarget : Option Rebuilding → Type 0
HasNoTarget o = (r : Rebuilding) → o ≡ Some r → r.target ≡ None

module _ (known : Kills) (s u : Seg) (aimed : Aimed known s u) where
  aimed_free_at : (x : ℕ) → IsFree known (Some aimed.r) x → IsFree known s.rebuild x
  aimed_free_at x f = elim f.whole [
    | inl a ↦ record { alive = f.alive; whole = inl (sym (ap is_some (aimed.broken x)) ∙ a) }
    | inr a ↦
        let here : aimed.t.room.node.0 ≡ x = eqb-true aimed.t.room.node.0 x (sym (ap (λ (o : Option Target). is_target_on o x) aimed.goal) ∙ a) in
        let none : fault_at s.rebuild x ≡ None = sym (aimed.broken x) ∙ sym (ap (fault_at (Some aimed.r)) here) ∙ aimed.whole in
        record { alive = f.alive; whole = inl (ap is_some none) }
  ]

  pub aimed_free : (x : ℕ) → is_free known (Some aimed.r) x ≡ true → is_free known s.rebuild x ≡ true
  aimed_free x f = free_by known s.rebuild x (aimed_free_at x (free_is known (Some aimed.r) x f))

  pub aimed_left : (block : ℕ) (q : Rebuilding) → s.rebuild ≡ Some q → q.target ≡ None → left_of known block (Some aimed.r) < left_of known block s.rebuild
  aimed_left block q was none =
      let old : left_of known block s.rebuild ≡ pieces_in block + 1 = ap (left_of known block) was ∙ ap (left_on known block) none in
      let new = left_alive known block aimed.r aimed.t aimed.goal aimed.alive in
      let zero = aimed.fresh in
      let all : pieces_in (block - aimed.t.filled) ≡ pieces_in block = ap (λ (n : ℕ). pieces_in (block - n)) zero ∙ (let e : block - 0 ≡ block = omega arith in ap pieces_in e) in
      omega (arith, old, new, all)

-- ---- bytes that are brought

module _ (kills : Kills) (block : ℕ) (r : Rebuilding) (t : Target) (goal : r.target ≡ Some t) (piece : List ℕ) (writes : ℕ) where
  pub brought_free : (x : ℕ) → is_free kills (Some (record r { target = Some (filled_with piece writes t) })) x ≡ is_free kills (Some r) x
  brought_free x = ap (λ (o : Option Target). not (is_some (kills x)) && (not (is_some (fault_at (Some r) x)) || is_target_on o x)) (sym goal)

  pub brought_left : kills t.room.node.0 ≡ None → t.filled < block → length piece ≡ min 4096 (block - t.filled)
      → left_of kills block (Some (record r { target = Some (filled_with piece writes t) })) < left_of kills block (Some r)
  brought_left alive less long =
      let old = left_alive kills block r t goal alive in
      let new = left_alive kills block (record r { target = Some (filled_with piece writes t) }) (filled_with piece writes t) refl alive in
      let fall = pieces_fall (block - t.filled) (omega (arith, less)) in
      let rest : block - (t.filled + length piece) ≡ (block - t.filled) - min 4096 (block - t.filled) = omega (arith, long, less) in
      let same = ap pieces_in rest in
      omega (arith, old, new, fall, same)

-- ---- a node that breaks

module _ (kills : Kills) (r q : Rebuilding) (t : Target) (goal : r.target ≡ Some t) (dropped : q.target ≡ None) (broke : IsSome (fault_at (Some q) t.room.node.0))
    (others : (x : ℕ) → x ≢ t.room.node.0 → fault_at (Some q) x ≡ fault_at (Some r) x) where
  no_goal : (x : ℕ) → is_goal_on (Some q) x ≡ false
  no_goal x = ap (λ (o : Option Target). is_target_on o x) dropped

  pub broken_not_free : is_free kills (Some q) t.room.node.0 ≡ false
  broken_not_free = by (is_free kills (Some q) t.room.node.0) refl where
    by : (b : Bool) → is_free kills (Some q) t.room.node.0 ≡ b → b ≡ false
    by false e = refl
    by true e = absurd (elim (free_is kills (Some q) t.room.node.0 e).whole [
      | inl a ↦ both_ways (is_some (fault_at (Some q) t.room.node.0)) a broke
      | inr a ↦ both_ways (is_goal_on (Some q) t.room.node.0) (no_goal t.room.node.0) a
    ])

  pub goal_was_free : kills t.room.node.0 ≡ None → is_free kills (Some r) t.room.node.0 ≡ true
  goal_was_free alive = free_by kills (Some r) t.room.node.0 (record {
    alive = ap is_some alive;
    whole = inr (ap (λ (o : Option Target). is_target_on o t.room.node.0) goal ∙ eq-eqb t.room.node.0 t.room.node.0 refl);
  })

  pub broken_free : (x : ℕ) → is_free kills (Some q) x ≡ true → is_free kills (Some r) x ≡ true
  broken_free x e =
      let f = free_is kills (Some q) x e in
      let elsewhere : x ≢ t.room.node.0 = λ same. both_ways (is_free kills (Some q) x) (ap (is_free kills (Some q)) same ∙ broken_not_free) e in
      free_by kills (Some r) x (elim f.whole [
        | inl a ↦ record { alive = f.alive; whole = inl (sym (ap is_some (others x elsewhere)) ∙ a) }
        | inr a ↦ absurd (both_ways (is_goal_on (Some q) x) (no_goal x) a)
      ])
