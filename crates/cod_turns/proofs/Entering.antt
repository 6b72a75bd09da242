-- An event, entry by entry.
use Rattle.std.proofs.Common.{◌≡◌, ℕ, ◌+◌, ◌<◌, Bool, true, Option, List, [], ◌∷◌, ◌++◌, length, refl, sym, ap, ◌∙◌, subst}
use Rattle.std.specs.Prelude.{IsSome}
use Rattle.std.proofs.lemmas.List.{append_assoc}
use Rattle.cod_types.specs.declared.call.SegId.{SegId}
use Rattle.cod_types.specs.declared.call.Call.{Call as Asked}
use Rattle.cod_chronicle.specs.declared.entry.Entry.{Entry}
use Rattle.cod_chronicle.specs.declared.entry.Entry.TheVariants.{Call, Down, Up, Move}
use Rattle.cod_chronicle.specs.Said.{site_as, is_down, node_of}
use Rattle.cod_chronicle.proofs.Growth.{is_down-push, node_of-push}
use Rattle.cod_script.specs.declared.line.What.TheVariants.{Segment}
use Rattle.cod_script.specs.Script.{Script, asks}
use Rattle.cod_chronicle.specs.Event.{NodeKill, IsSeenCause, IsSeenReply, IsSwept, Tells}
use Rattle.cod_turns.specs.Turns.{World, Course, IsLineAt, setting, request_of, line_after}

-- the entry of a client's call: it is that of its line, and each killed node is out
pub record IsAnswered (x : Script) (board : ℕ → Option NodeKill) (place who s : ℕ) (h : List Entry) (caller number : ℕ) (call : Asked) : Type 0 where
  pub line : ℕ
  pub seg : SegId
  pub at : IsLineAt x who place (record { line = line; what = Segment seg call })
  pub segment : seg.0 ≡ s
  pub caller_is : caller ≡ who
  pub number_is : number ≡ length (asks at.front)
  pub out : (i : ℕ) → i < x.shape.n → IsSome (board (node_of (site_as true x.shape x.nodes s) h i)) → is_down h i ≡ true

-- Entries of a client's event: marks that have their cause, then at most one call, which moves the client on from its place.
abbrev pub Told : Script → (ℕ → Bool) → (ℕ → Option NodeKill) → ℕ → ℕ → List Entry → ℕ → List Entry → ℕ → Type 0
Told x may board who s before place [] next = next ≡ place
Told x may board who s before place ((Call caller number stamp call reply) ∷ es) next =
    IsAnswered x board place who s before caller.0 number call × (IsSeenReply board may reply × ((es ≡ []) × (next ≡ place + 1)))
Told x may board who s before place ((Down stamp col node cause) ∷ es) next =
    IsSeenCause board may node.0 cause × Told x may board who s (before ++ (Down stamp col node cause) ∷ []) place es next
Told x may board who s before place ((Up stamp col node) ∷ es) next = Told x may board who s (before ++ (Up stamp col node) ∷ []) place es next
Told x may board who s before place ((Move stamp col node) ∷ es) next = Told x may board who s (before ++ (Move stamp col node) ∷ []) place es next

module _ (x : Course) (w : World) (who : ℕ) (line : ℕ) (seg : SegId) (call : Asked) (at : IsLineAt x.script who (w.next who) (record { line = line; what = Segment seg call })) where
  answered_here : (before : List Entry) (caller number stamp : ℕ) (call2 : Asked) → caller ≡ who → number ≡ length (asks at.front) → call2 ≡ call
      → ((i : ℕ) → i < x.script.shape.n → IsSome (w.board (node_of (site_as true x.script.shape x.script.nodes seg.0) before i)) → is_down before i ≡ true)
      → IsAnswered x.script w.board (w.next who) who seg.0 before caller number call2
  answered_here before caller number stamp call2 c n k out =
      subst (λ (call : Asked). IsAnswered x.script w.board (w.next who) who seg.0 before caller number call) (sym k)
      (record { line = line; seg = seg; at = at; segment = refl; caller_is = c; number_is = n; out = out })

  pub told_by : (es before : List Entry) (answered : Bool) → Tells (setting x w seg.0) (request_of who at.front call) es answered
      → IsSwept w.board (site_as x.told x.script.shape x.script.nodes seg.0) (before ++ es)
      → Told x.script x.may w.board who seg.0 before (w.next who) es (line_after (w.next who) answered)
  told_by [] before answered t swept = ap (line_after (w.next who)) t
  told_by ((Call caller number stamp call2 reply) ∷ es) before answered t swept =
      let e : Entry = Call caller number stamp call2 reply in
      let none : es ≡ [] = t.4 in
      let last : IsSwept w.board (site_as x.told x.script.shape x.script.nodes seg.0) (before ++ e ∷ []) =
      subst (λ (l : List Entry). IsSwept w.board (site_as x.told x.script.shape x.script.nodes seg.0) (before ++ e ∷ l)) none swept in (
        answered_here before caller.0 number stamp call2 t.0 t.1 t.2
            (λ i lt some. sym (is_down-push before e i)
            ∙ last i lt (let n = node_of-push (site_as x.told x.script.shape x.script.nodes seg.0) before e i in subst (λ (y : ℕ). IsSome (w.board y)) (sym n) some)),
        (t.3, (none, ap (line_after (w.next who)) t.5)),
      )
  told_by ((Down stamp col node cause) ∷ es) before answered t swept = (
    t.0,
    told_by es (before ++ (Down stamp col node cause) ∷ []) answered t.1
        (subst (IsSwept w.board (site_as x.told x.script.shape x.script.nodes seg.0)) (sym (append_assoc before ((Down stamp col node cause) ∷ []) es)) swept),
  )
  told_by ((Up stamp col node) ∷ es) before answered t swept =
      told_by es (before ++ (Up stamp col node) ∷ []) answered t
      (subst (IsSwept w.board (site_as x.told x.script.shape x.script.nodes seg.0)) (sym (append_assoc before ((Up stamp col node) ∷ []) es)) swept)
  told_by ((Move stamp col node) ∷ es) before answered t swept =
      told_by es (before ++ (Move stamp col node) ∷ []) answered t
      (subst (IsSwept w.board (site_as x.told x.script.shape x.script.nodes seg.0)) (sym (append_assoc before ((Move stamp col node) ∷ []) es)) swept)
