-- Where the columns come that an answered event brings.
use Rattle.std.proofs.Common.{◌≡◌, inl, inr, ℕ, Bool, true, false, cond, None, Some, Option, List, [], ◌∷◌, ◌++◌, length, sym, ap, ◌∙◌, subst}
use Rattle.std.specs.Prelude.{◌==◌, is_some}
use Rattle.std.specs.List.{AllByRecursion}
use Rattle.std.proofs.lemmas.List.{append_assoc, append_cancel_left}
use Rattle.cod_types.specs.declared.call.NodeId.{NodeId}
use Rattle.cod_types.specs.declared.call.Call.{Call as Asked}
use Rattle.cod_types.specs.declared.call.Call.TheVariants.{Read, Write, Swap, Put, Merge, Tick, Rebuild, Upgrade, Drain}
use Rattle.cod_types.specs.declared.call.Reply.TheVariants.{Rebuilt, Shifted}
use Rattle.cod_chronicle.specs.declared.entry.Entry.{Entry}
use Rattle.cod_chronicle.specs.declared.entry.Entry.TheVariants.{Call, Up, Move}
use Rattle.cod_chronicle.specs.Adding.{StaysOff}
use Rattle.cod_chronicle.specs.Event.{Setting}
use Rattle.cod_chronicle.specs.Legal.{node_id}
use Rattle.cod_chronicle.specs.Said.{downs, is_over, node_of}
use Rattle.cod_chronicle.proofs.Orders.{Each-append}
use Rattle.cod_claims.specs.declared.claims.Held.{Held}
use Rattle.cod_seg.specs.Seg.{Rebuilding, Seg, Target}
use Rattle.cod_seg.specs.Next.{live_on, next_piece, next_step, rebuild_holder, unless_held}
use Rattle.cod_seg.specs.Steps.{Rises}
use Rattle.cod_seg.specs.declared.next.Step.{Step}
use Rattle.cod_seg.specs.declared.next.Step.TheVariants as step
use Rattle.cod_seg.proofs.Choosing.{IsBringing, piece_is}
use Rattle.cod_segment.specs.Exact.{AnswersBy, Shifts, Stays, SweepsRebuild, SweepsTarget}
use Rattle.cod_advance.proofs.Staying.{BringsNone, staying_off}

-- ---- the steps of a rebuild and of a drain

abbrev IsOfRebuild : Step → Type 0
IsOfRebuild step.Lost = Unit {0}
IsOfRebuild step.Whole = Unit {0}
IsOfRebuild (step.Held h) = Unit {0}
IsOfRebuild step.RebuildStart = Unit {0}
IsOfRebuild step.RebuildPiece = Unit {0}
IsOfRebuild step.RebuildEnd = Unit {0}
IsOfRebuild _ = ⊥

abbrev IsOfDrain : Step → Type 0
IsOfDrain step.Lost = Unit {0}
IsOfDrain step.Clear = Unit {0}
IsOfDrain (step.Held h) = Unit {0}
IsOfDrain step.Drain = Unit {0}
IsOfDrain _ = ⊥

bringing_rebuilds : (x : Step) → IsBringing x → IsOfRebuild x
bringing_rebuilds step.RebuildStart is = tt
bringing_rebuilds step.RebuildPiece is = tt
bringing_rebuilds step.RebuildEnd is = tt
bringing_rebuilds x is = absurd is

held_rebuilds : (o : Option Held) (x : Step) → IsOfRebuild x → IsOfRebuild (unless_held o x)
held_rebuilds None x is = is
held_rebuilds (Some h) x is = tt

held_drains : (o : Option Held) (x : Step) → IsOfDrain x → IsOfDrain (unless_held o x)
held_drains None x is = is
held_drains (Some h) x is = tt

of_rebuild : (s : Seg) (caller : ℕ) → IsOfRebuild (next_step s caller Rebuild)
of_rebuild s caller = by (is_over s.site s.log) (length (downs s.site s.log) == 0) where
  by : (a b : Bool) → IsOfRebuild (cond a step.Lost (cond b step.Whole (unless_held (rebuild_holder caller s.rebuild) (next_piece s.site.shape.block s.rebuild))))
  by true b = tt
  by false true = tt
  by false false = held_rebuilds (rebuild_holder caller s.rebuild) (next_piece s.site.shape.block s.rebuild)
      (bringing_rebuilds (next_piece s.site.shape.block s.rebuild) (piece_is s.site.shape.block s.rebuild))

of_drain : (s : Seg) (caller : ℕ) (node : NodeId) → IsOfDrain (next_step s caller (Drain node))
of_drain s caller node = by (is_over s.site s.log) (is_some (live_on s.site s.log node.0)) where
  by : (a b : Bool) → IsOfDrain (cond a step.Lost (cond b (unless_held (rebuild_holder caller s.rebuild) step.Drain) step.Clear))
  by true b = tt
  by false true = held_drains (rebuild_holder caller s.rebuild) step.Drain tt
  by false false = tt

-- ---- a target behind a sweep

swept_target : (w : Setting) (old new : Option Target) (t : Target) → SweepsTarget w old new → new ≡ Some t → w.known t.room.node.0 ≡ None
swept_target w None new t is e = cc
swept_target w (Some q) new t (inl is) e =
    let same : Some q ≡ Some t = sym is.0 ∙ e in
    let here : q ≡ t = cc in
    subst (λ (x : Target). w.known x.room.node.0 ≡ None) here is.1
swept_target w (Some q) new t (inr is) e = cc

-- A target that a sweep leaves is on a node that wasn't known as killed.
pub swept_alive : (w : Setting) (old new : Option Rebuilding) (r : Rebuilding) (t : Target) → SweepsRebuild w old new → new ≡ Some r → r.target ≡ Some t
    → w.known t.room.node.0 ≡ None
swept_alive w None new r t is was goal = cc
swept_alive w (Some q) new r t is was goal =
    let same : Some (record q { target = is.0 }) ≡ Some r = sym is.1 ∙ was in
    let here : record q { target = is.0 } ≡ r = cc in
    swept_target w q.target is.0 t is.2 (ap (λ (x : Rebuilding). x.target) here ∙ goal)

-- ---- the entries of an answer

module _ (w : Setting) (s u : Seg) (es : List Entry) (grown : u.log ≡ s.log ++ es) where
  -- they are those by which the chronicle has grown
  are : (more : List Entry) → u.log ≡ s.log ++ more → es ≡ more
  are more log = append_cancel_left s.log es more (sym grown ∙ log)

  off_staying : Stays s u → AllByRecursion (StaysOff w.known) es
  off_staying x = subst (AllByRecursion (StaysOff w.known)) (sym (are x.entries x.grown)) (staying_off w.known x.entries x.staying)

  off_rising : (old : Option Rebuilding) → SweepsRebuild w old s.rebuild → Rises s u → AllByRecursion (StaysOff w.known) es
  off_rising old swept x =
      let up : Entry = Up x.first x.r.col x.t.room.node in
      let call : Entry = Call x.caller x.r.number x.second Rebuild (Rebuilt x.r.col x.t.room.node) in
      let log : u.log ≡ s.log ++ up ∷ call ∷ [] = ap (λ (q : Seg). q.log) x.becomes ∙ append_assoc s.log (up ∷ []) (call ∷ []) in
      subst (AllByRecursion (StaysOff w.known)) (sym (are (up ∷ call ∷ []) log)) (swept_alive w old s.rebuild x.r x.t swept x.was x.goal, (tt, tt))

  off_shifting : Shifts w.known s u → AllByRecursion (StaysOff w.known) es
  off_shifting x =
      let b = x.before in
      let first = x.stays.entries in
      let moved : Entry = Move x.moves.first x.col x.moves.place.room.node in
      let call : Entry = Call x.moves.caller x.moves.number x.moves.second (Drain (node_id (node_of b.site b.log x.col))) (Shifted x.col x.moves.place.room.node) in
      let log : u.log ≡ s.log ++ (first ++ moved ∷ call ∷ []) =
      ap (λ (q : Seg). q.log) x.moves.becomes ∙ append_assoc b.log (moved ∷ []) (call ∷ []) ∙ ap (λ (l : List Entry). l ++ moved ∷ call ∷ []) x.stays.grown
      ∙ append_assoc s.log first (moved ∷ call ∷ []) in
      subst (AllByRecursion (StaysOff w.known)) (sym (are (first ++ moved ∷ call ∷ []) log))
      (Each-append (StaysOff w.known) first (moved ∷ call ∷ []) (staying_off w.known first x.stays.staying) (x.off, (tt, tt)))

  of_rebuilding : (old : Option Rebuilding) → SweepsRebuild w old s.rebuild → (x : Step) → IsOfRebuild x → AnswersBy w x s u → AllByRecursion (StaysOff w.known) es
  of_rebuilding old swept step.Lost is by = off_staying by
  of_rebuilding old swept step.Whole is by = off_staying by
  of_rebuilding old swept (step.Held h) is by = absurd by
  of_rebuilding old swept step.RebuildStart is by = off_staying by
  of_rebuilding old swept step.RebuildPiece is by = absurd by
  of_rebuilding old swept step.RebuildEnd is by = off_rising old swept by
  of_rebuilding old swept x is by = absurd is

  of_draining : (x : Step) → IsOfDrain x → AnswersBy w x s u → AllByRecursion (StaysOff w.known) es
  of_draining step.Lost is by = off_staying by
  of_draining step.Clear is by = off_staying by
  of_draining (step.Held h) is by = absurd by
  of_draining step.Drain is by = elim by [ inl a ↦ off_staying a | inr b ↦ off_shifting b ]
  of_draining x is by = absurd is

  -- Each column comes to a node that wasn't known as killed.
  pub answers_off : (caller : ℕ) (call : Asked) (old : Option Rebuilding) → SweepsRebuild w old s.rebuild → AnswersBy w (next_step s caller call) s u
      → (BringsNone call → AllByRecursion (StaysOff w.known) es) → AllByRecursion (StaysOff w.known) es
  answers_off caller Rebuild old swept by none = of_rebuilding old swept (next_step s caller Rebuild) (of_rebuild s caller) by
  answers_off caller (Drain node) old swept by none = of_draining (next_step s caller (Drain node)) (of_drain s caller node) by
  answers_off caller (Read off len) old swept by none = none tt
  answers_off caller (Write off bytes) old swept by none = none tt
  answers_off caller (Swap off old' new) old swept by none = none tt
  answers_off caller (Put bytes) old swept by none = none tt
  answers_off caller Merge old swept by none = none tt
  answers_off caller Tick old swept by none = none tt
  answers_off caller Upgrade old swept by none = none tt
