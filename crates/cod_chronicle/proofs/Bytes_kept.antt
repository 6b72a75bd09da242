-- A segment's bytes stay as many, and what regions tell is one of the things that others leave open.
use Rattle.std.proofs.Common.{◌≡◌, ◌⊎◌, ℕ, Bool, true, false, cond, Option, Some, None, List, [], ◌∷◌, ◌++◌, length, drop, refl, sym, ap, ◌∙◌, inl, inr, arith, length-drop}
use Rattle.std.specs.Prelude.{IsNone, IfSome, bytes_eq}
use Rattle.std.proofs.lemmas.Bool.{both_ways}
use Rattle.std.proofs.lemmas.List.{append-nil, append_assoc, length-take, length-replicate}
use Rattle.cod_types.specs.Limits.{Shape, segment_length}
use Rattle.cod_types.specs.Overwritten.{overwritten}
use Rattle.cod_types.specs.Plain.{refusal, plain_next, bytes_at}
use Rattle.cod_types.proofs.Refusals.{reads_inside, writes_update, swaps_update, puts_whole}
use Rattle.cod_types.proofs.Replaced.{length-overwritten}
use Rattle.cod_types.specs.declared.call.Call.{Call as Asked}
use Rattle.cod_types.specs.declared.call.Call.TheVariants.{Read, Write, Swap, Put, Merge, Tick, Rebuild, Upgrade, Drain}
use Rattle.cod_types.specs.declared.call.Reply.{Reply}
use Rattle.cod_types.specs.declared.call.Reply.TheVariants.{Bytes, Done, Differs, Whole, NoSpare, NoMem, Clear}
use Rattle.cod_types.specs.declared.reasons.Reason.{Reason}
use Rattle.std.specs.List.{last_or}
use Rattle.cod_chronicle.specs.declared.entry.Entry.{Entry}
use Rattle.cod_chronicle.specs.declared.entry.Entry.TheVariants.{Call, Down, Up, Move}
use Rattle.cod_chronicle.specs.Said.{Site, site_as, bytes_of, is_refused}
use Rattle.cod_chronicle.specs.Legal.{Arrival, IsReasons, IsRebuild, IsLiveOn, IsDrain, up_of, move_of, IsPlain, IsServed, IsAnswer, Fits, LegalAfter}
use Rattle.cod_chronicle.specs.Laws.{KeepsLength, IsLegalIfTold}
use Rattle.cod_chronicle.proofs.Growth.{bytes_of-push}
use Rattle.cod_chronicle.proofs.Legality.{refusal_refuses}

-- a call that isn't refused leaves as many bytes
next_keeps : (g : Shape) (b : List ℕ) (call : Asked) → refusal g call ≡ None → length b ≡ segment_length g → length (plain_next b call) ≡ segment_length g
next_keeps g b (Read off len) r e = e
next_keeps g b (Write off bytes) r e = (let w = (writes_update g off bytes r).inside in length-overwritten off bytes b (omega arith) ∙ e)
next_keeps g b (Swap off old new) r e =
    let within = (swaps_update g off old new r).update.inside in
    let l = length-overwritten off new b (omega arith) ∙ e in
    either (bytes_eq (bytes_at b off (length old)) old) l where
      either : (t : Bool) → length (overwritten off new b) ≡ segment_length g → length (cond t (overwritten off new b) b) ≡ segment_length g
      either true l = l
      either false l = e
next_keeps g b (Put bytes) r e = puts_whole g bytes r
next_keeps g b Merge r e = e
next_keeps g b Tick r e = e
next_keeps g b Rebuild r e = e
next_keeps g b Upgrade r e = e
next_keeps g b (Drain node) r e = e

-- a reply that is no refusal is to a call that its numbers don't refuse
not_refused : (site : Site) (before : List Entry) (call : Asked) (reply : Reply) → IsAnswer site before call reply → is_refused reply ≡ false → refusal site.shape call ≡ None
not_refused site before call reply a kept = by (refusal site.shape call) refl a.refused where
  by : (o : Option Reply) → refusal site.shape call ≡ o → IfSome o (λ r. reply ≡ r) → refusal site.shape call ≡ None
  by None e s = e
  by (Some r) e s = absurd (both_ways (is_refused reply) kept (ap is_refused s ∙ refusal_refuses site.shape call r e))

-- the next entry leaves as many bytes
step_keeps : (site : Site) (before : List Entry) (e : Entry) (after : List Entry) → length (bytes_of site before) ≡ segment_length site.shape → Fits site before e after
    → length (bytes_of site (before ++ e ∷ [])) ≡ segment_length site.shape
step_keeps site before (Call caller number stamp call reply) after l f = rw (bytes_of-push site before (Call caller number stamp call reply)) (by (is_refused reply) refl) where
  by : (o : Bool) → is_refused reply ≡ o → length (cond o (bytes_of site before) (plain_next (bytes_of site before) call)) ≡ segment_length site.shape
  by true e = l
  by false e = next_keeps site.shape (bytes_of site before) call (not_refused site before call reply f e) l
step_keeps site before (Down stamp col node cause) after l f = rw (bytes_of-push site before (Down stamp col node cause)) l
step_keeps site before (Up stamp col node) after l f = rw (bytes_of-push site before (Up stamp col node)) l
step_keeps site before (Move stamp col node) after l f = rw (bytes_of-push site before (Move stamp col node)) l

length_after : (site : Site) (before h : List Entry) → length (bytes_of site before) ≡ segment_length site.shape → LegalAfter site before h
    → length (bytes_of site (before ++ h)) ≡ segment_length site.shape
length_after site before [] l f = rw (append-nil before) l
length_after site before (e ∷ h) l f =
    let a = append_assoc before (e ∷ []) h in
    rw (← a) (length_after site (before ++ e ∷ []) h (step_keeps site before e h l f.0) f.1)

at_first : (site : Site) → length (bytes_of site []) ≡ segment_length site.shape
at_first site = length-replicate (segment_length site.shape) 0

pub keeps_length : KeepsLength
keeps_length site h l = length_after site [] h (at_first site) l

module _ (g : Shape) (nodes s : ℕ) where
  open_plain : (b : List ℕ) (call : Asked) (reply : Reply) → refusal g call ≡ None → length b ≡ segment_length g → IsPlain true b call reply → IsPlain false b call reply
  open_plain b (Read off len) reply r l p =
      let w = reads_inside g off len r in
      let n : length (bytes_at b off len) ≡ len = (let t = length-take len (drop off b) in let d = length-drop off b in omega arith) in
      let same : Bytes (bytes_at b off len) ≡ reply = cc in
      (bytes_at b off len, sym same, n)
  open_plain b (Write off bytes) reply r l p = p
  open_plain b (Swap off old new) reply r l p = by (bytes_eq (bytes_at b off (length old)) old) p where
    by : (t : Bool) → cond t (Some Done) (Some (Differs (bytes_at b off (length old)))) ≡ Some reply → (reply ≡ Done) ⊎ ((bytes : List ℕ) × (reply ≡ Differs bytes) × (length bytes ≡ length old))
    by true p = (let same : Done ≡ reply = cc in inl (sym same))
    by false p =
        let w = swaps_update g off old new r in
        let within = w.update.inside in
        let same = w.same in
        let n : length (bytes_at b off (length old)) ≡ length old = (let t = length-take (length old) (drop off b) in let d = length-drop off b in omega arith) in
        let same : Differs (bytes_at b off (length old)) ≡ reply = cc in
        inr (bytes_at b off (length old), sym same, n)
  open_plain b (Put bytes) reply r l p = p
  open_plain b Merge reply r l p = p
  open_plain b Tick reply r l p = p
  open_plain b Rebuild reply r l p = p
  open_plain b Upgrade reply r l p = p
  open_plain b (Drain node) reply r l p = p

  open_reasons : (before : List Entry) (c : ℕ) (reasons : List Reason) → IsReasons (site_as true g nodes s) before c reasons → IsReasons (site_as false g nodes s) before c reasons
  open_reasons before c reasons r = record { nodes = r.nodes; whys = r.whys }

  open_rebuild : (before : List Entry) (up : Option Arrival) (reply : Reply) → IsRebuild (site_as true g nodes s) before up reply → IsRebuild (site_as false g nodes s) before up reply
  open_rebuild before (Some up) reply p = p
  open_rebuild before None Whole p = p
  open_rebuild before None (NoSpare reasons) p = (p.0, p.1, open_reasons before p.0 reasons p.2)
  open_rebuild before None NoMem p = p
  open_rebuild before None reply p = p

  open_live : (told other : Bool) (before : List Entry) (x c : ℕ) → IsLiveOn (site_as told g nodes s) before x c → IsLiveOn (site_as other g nodes s) before x c
  open_live told other before x c l = record { column = l.column; live = l.live; there = l.there }

  open_drain : (before : List Entry) (x : ℕ) (moved : Option Arrival) (reply : Reply) → IsDrain (site_as true g nodes s) before x moved reply → IsDrain (site_as false g nodes s) before x moved reply
  open_drain before x (Some moved) reply p = p
  open_drain before x None Clear p = λ c l. p c (open_live false true before x c l)
  open_drain before x None (NoSpare reasons) p = (p.0, open_live true false before x p.0 p.1, open_reasons before p.0 reasons p.2)
  open_drain before x None NoMem p = (p.0, open_live true false before x p.0 p.1)
  open_drain before x None reply p = p

  open_served : (before : List Entry) (call : Asked) (reply : Reply) → refusal g call ≡ None → length (bytes_of (site_as true g nodes s) before) ≡ segment_length g
      → IsServed (site_as true g nodes s) before call reply → IsServed (site_as false g nodes s) before call reply
  open_served before Rebuild reply r l p = open_rebuild before (up_of (last_or None before)) reply p
  open_served before (Drain node) reply r l p = open_drain before node.0 (move_of (last_or None before)) reply p
  open_served before call reply r l p = open_plain (bytes_of (site_as true g nodes s) before) call reply r l p

  none_of : (o : Option Reply) → IsNone o → o ≡ None
  none_of None n = refl
  none_of (Some r) n = cc

  open_fits : (before : List Entry) (e : Entry) (after : List Entry) → length (bytes_of (site_as true g nodes s) before) ≡ segment_length g → Fits (site_as true g nodes s) before e after
      → Fits (site_as false g nodes s) before e after
  open_fits before (Call caller number stamp call reply) after l f = record {
    refused = f.refused;
    lost = f.lost;
    served = λ n o. open_served before call reply (none_of (refusal g call) n) l (f.served n o);
  }
  open_fits before (Down stamp col node cause) after l f = record { column = f.column; live = f.live; there = f.there }
  open_fits before (Up stamp col node) after l f = (let a = f.arrives in record { down = f.down; arrives = record { enough = a.enough; there = a.there; free = a.free }; rebuild = f.rebuild })
  open_fits before (Move stamp col node) after l f = (let a = f.arrives in
      record { column = f.column; live = f.live; arrives = record { enough = a.enough; there = a.there; free = a.free }; drain = f.drain })

  open_after : (before h : List Entry) → length (bytes_of (site_as true g nodes s) before) ≡ segment_length g → LegalAfter (site_as true g nodes s) before h
      → LegalAfter (site_as false g nodes s) before h
  open_after before [] l f = tt
  open_after before (e ∷ h) l f = (open_fits before e h l f.0, open_after (before ++ e ∷ []) h (step_keeps (site_as true g nodes s) before e h l f.0) f.1)

pub legal_if_told : IsLegalIfTold
legal_if_told g nodes s h l = open_after g nodes s [] h (at_first (site_as true g nodes s)) l
