-- How a call's reply is shown to be right.
use Rattle.std.proofs.Common.{inl, inr, ◌≡◌, ℕ, ◌+◌, Bool, true, false, cond, Option, Some, None, List, [], ◌++◌, length, take, drop, refl, sym, ap, ◌∙◌, subst}
use Rattle.std.proofs.Common.{arith}
use Rattle.std.specs.Prelude.{is_some, IfSome, bytes_eq}
use Rattle.std.specs.List.{last_or}
use Rattle.std.proofs.lemmas.Bool.{both_ways}
use Rattle.std.proofs.lemmas.List.{append-nil, take-append-drop}
use Rattle.cod_types.specs.Overwritten.{overwritten}
use Rattle.cod_types.specs.Plain.{refusal, bytes_at, plain_next}
use Rattle.cod_types.specs.declared.call.Caller.{Caller}
use Rattle.cod_types.specs.declared.call.Call.{Call as Asked}
use Rattle.cod_types.specs.declared.call.Call.TheVariants.{Read, Write, Swap, Put, Merge, Tick, Rebuild, Upgrade, Drain}
use Rattle.cod_types.specs.declared.call.Reply.{Reply}
use Rattle.cod_types.specs.declared.call.Reply.TheVariants.{Done, Differs, Lost}
use Rattle.cod_chronicle.specs.declared.entry.Entry.{Entry}
use Rattle.cod_chronicle.specs.Said.{Site, is_over, bytes_of, bytes_next}
use Rattle.cod_chronicle.specs.declared.entry.Entry.TheVariants.{Call}
use Rattle.cod_chronicle.specs.Laws.{IsQuiet, AnswersQuietly}
use Rattle.cod_chronicle.specs.Legal.{Arrival, IsPlain, IsRebuild, IsDrain, IsServed, IsAnswer, up_of, move_of}

-- a rebuild or a drain that was served isn't lost
rebuild_not_lost : (site : Site) (before : List Entry) (up : Option Arrival) → IsRebuild site before up Lost → ⊥
rebuild_not_lost site before (Some up) r = cc
rebuild_not_lost site before None r = r

drain_not_lost : (site : Site) (before : List Entry) (x : ℕ) (moved : Option Arrival) → IsDrain site before x moved Lost → ⊥
drain_not_lost site before x (Some moved) d = cc
drain_not_lost site before x None d = d

plain_not_lost : (told : Bool) (b : List ℕ) (call : Asked) → IsPlain told b call Lost → ⊥
plain_not_lost true b (Read off len) s = cc
plain_not_lost true b (Write off bytes) s = cc
plain_not_lost true b (Swap off old new) s = by (bytes_eq (bytes_at b off (length old)) old) s where
  by : (same : Bool) → cond same (Some Done) (Some (Differs (bytes_at b off (length old)))) ≡ Some Lost → ⊥
  by true e = cc
  by false e = cc
plain_not_lost true b (Put bytes) s = cc
plain_not_lost true b Merge s = cc
plain_not_lost true b Tick s = cc
plain_not_lost true b Upgrade s = cc
plain_not_lost true b Rebuild s = cc
plain_not_lost true b (Drain node) s = cc
plain_not_lost false b (Read off len) s = (let e = s.1 in cc)
plain_not_lost false b (Write off bytes) s = cc
plain_not_lost false b (Swap off old new) s = elim s [ inl e ↦ cc | inr d ↦ (let e = d.1 in cc) ]
plain_not_lost false b (Put bytes) s = cc
plain_not_lost false b Merge s = cc
plain_not_lost false b Tick s = cc
plain_not_lost false b Upgrade s = cc
plain_not_lost false b Rebuild s = cc
plain_not_lost false b (Drain node) s = cc

-- what was served isn't lost
pub served_not_lost : (site : Site) (before : List Entry) (call : Asked) → IsServed site before call Lost → ⊥
served_not_lost site before Rebuild s = rebuild_not_lost site before (up_of (last_or None before)) s
served_not_lost site before (Drain node) s = drain_not_lost site before node.0 (move_of (last_or None before)) s
served_not_lost site before call s = plain_not_lost site.told (bytes_of site before) call s

-- the refusal that the call's numbers give it
pub answer_refused : (site : Site) (before : List Entry) (call : Asked) (reply : Reply) → refusal site.shape call ≡ Some reply → IsAnswer site before call reply
answer_refused site before call reply is = record {
  refused = subst (λ (o : Option Reply). IfSome o (λ r. reply ≡ r)) (sym is) refl;
  lost = λ n. absurd (both_ways (is_some (refusal site.shape call)) n (ap is_some is));
  served = λ n o. absurd (both_ways (is_some (refusal site.shape call)) n (ap is_some is));
}

refused_none : (o : Option Reply) (reply : Reply) → o ≡ None → IfSome o (λ r. reply ≡ r)
refused_none None reply is = tt
refused_none (Some r) reply is = cc

-- any other call, where too many columns are down
pub answer_lost : (site : Site) (before : List Entry) (call : Asked) → refusal site.shape call ≡ None → is_over site before ≡ true → IsAnswer site before call Lost
answer_lost site before call is over = record {
  refused = refused_none (refusal site.shape call) Lost is;
  lost = λ n. (λ e. over, λ o. refl);
  served = λ n o. absurd (both_ways (is_over site before) o over);
}

-- and where not
pub answer_served : (site : Site) (before : List Entry) (call : Asked) (reply : Reply) → refusal site.shape call ≡ None → is_over site before ≡ false
    → IsServed site before call reply → IsAnswer site before call reply
answer_served site before call reply is enough s = record {
  refused = refused_none (refusal site.shape call) reply is;
  lost = λ n. (λ e. absurd (served_not_lost site before call (subst (λ (r : Reply). IsServed site before call r) e s)), λ o. absurd (both_ways (is_over site before) enough o));
  served = λ n o. s;
}

-- a call that changes no byte
no_bytes : (b : List ℕ) (off : ℕ) → take off b ++ [] ++ drop (off + 0) b ≡ b
no_bytes b off = (let e : off + 0 ≡ off = omega arith in rw (append-nil (take off b), e) (take-append-drop off b))

quiet_served : (site : Site) (h : List Entry) (call : Asked) → IsQuiet call → IsServed site h call Done
quiet_served site h (Write off bytes) q = by site.told where
  by : (told : Bool) → IsPlain told (bytes_of site h) (Write off bytes) Done
  by true = refl
  by false = refl
quiet_served site h Merge q = by site.told where
  by : (told : Bool) → IsPlain told (bytes_of site h) Merge Done
  by true = refl
  by false = refl
quiet_served site h Tick q = by site.told where
  by : (told : Bool) → IsPlain told (bytes_of site h) Tick Done
  by true = refl
  by false = refl
quiet_served site h Upgrade q = by site.told where
  by : (told : Bool) → IsPlain told (bytes_of site h) Upgrade Done
  by true = refl
  by false = refl
quiet_served site h (Read off len) q = absurd q
quiet_served site h (Swap off old new) q = absurd q
quiet_served site h (Put bytes) q = absurd q
quiet_served site h Rebuild q = absurd q
quiet_served site h (Drain node) q = absurd q

quiet_next : (b : List ℕ) (call : Asked) → IsQuiet call → plain_next b call ≡ b
quiet_next b (Write off bytes) q = ap (λ (l : List ℕ). overwritten off l b) q ∙ no_bytes b off
quiet_next b Merge q = refl
quiet_next b Tick q = refl
quiet_next b Upgrade q = refl
quiet_next b (Read off len) q = refl
quiet_next b (Swap off old new) q = absurd q
quiet_next b (Put bytes) q = absurd q
quiet_next b Rebuild q = refl
quiet_next b (Drain node) q = refl

pub answers_quietly : AnswersQuietly
answers_quietly site h call quiet is = record { answer = answered (is_over site h) refl; bytes = λ b caller number stamp. kept (is_over site h) b caller number stamp } where
  answered : (over : Bool) → is_over site h ≡ over → IsAnswer site h call (cond over Lost Done)
  answered true e = answer_lost site h call is e
  answered false e = answer_served site h call Done is e (quiet_served site h call quiet)

  kept : (over : Bool) (b : List ℕ) (caller : Caller) (number stamp : ℕ) → bytes_next b (Call caller number stamp call (cond over Lost Done)) ≡ b
  kept true b caller number stamp = refl
  kept false b caller number stamp = quiet_next b call quiet
