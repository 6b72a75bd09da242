-- Whether all clients have ended, and what runs leave.
use Rattle.std.proofs.Common.{◌≡◌, inl, inr, ℕ, zero, suc, Bool, true, List, [], ◌∷◌, length, get_or, cond, Option, Some, None, refl, sym, ap, ◌∙◌, subst, arith}
use Rattle.std.specs.List.{list_all}
use Rattle.std.proofs.lemmas.Bool.{cases_lt, eq-eqb, leb-true, le-leb}
use Rattle.std.proofs.lemmas.List.{get_or_default, get_or_past}
use Rattle.std.proofs.lemmas.List.Sums.{AllPass-from_list_all, list_all-from_AllPass}
use Rattle.cod_types.specs.declared.call.Call.TheVariants.{Rebuild}
use Rattle.cod_claims.specs.declared.claim.Claim.{Claim}
use Rattle.cod_claims.specs.Claimed.{claim_at, open_call}
use Rattle.cod_claims.proofs.Opening.{opens_call}
use Rattle.cod_seg.specs.Next.{open_in, open_of}
use Rattle.cod_seg.specs.Seg.{Rebuilding, Seg}
use Rattle.cod_seg.specs.Sound.{Sound}
use Rattle.cod_advance.specs.Histories.{Leads, Takes}
use Rattle.cod_advance.specs.Worlds.{seg_at}
use Rattle.cod_script.specs.declared.line.Line.{Line}
use Rattle.cod_script.specs.Script.{Client, lines_by, nobody as none}
use Rattle.cod_turns.specs.Open.{AreItsCalls, NothingOpen}
use Rattle.cod_turns.specs.Rounds.{IsRunFrom, Rounds, Takings}
use Rattle.cod_turns.specs.Turns.{AllEnded, Course, World}
use Rattle.cod_turns.proofs.Opening.{none_open, open_is_of_its_line}
use Rattle.cod_replay.specs.Standing.{AreIdle, Stands}
use Rattle.cod_replay.specs.State.{course_of, moment_of, nobody, play_at, State, world_in}
use Rattle.cod_replay.specs.Tasks.{has_ended}

-- what is open is the calls of lines
pub are_calls : (s : State) → Stands s → AreItsCalls s.script (world_in s)
are_calls s st = open_is_of_its_line (course_of s) st.moment.turns (world_in s) st.moment.led

-- what turns make of a replay they make of its segments
pub all_lead : (x : Course) (turns : List ℕ) (a b : State) → Takings (λ who s v. Takes x who (moment_of s) (moment_of v)) turns a b → Leads x turns (moment_of a) (moment_of b)
all_lead x [] a b same = ap moment_of same
all_lead x (who ∷ rest) a b took = (moment_of took.0, took.1, all_lead x rest took.0 b took.2)

rounds_end : (x : Course) (n : ℕ) (w v : World) → Rounds x n w v → AllEnded x.script v
rounds_end x zero w v r = subst (AllEnded x.script) (sym r.0) r.1
rounds_end x (suc n) w v r = rounds_end x n r.1.0 v r.1.2

-- after a run nothing is open
pub leaves_nothing : (s v : State) → Stands v → course_of v ≡ course_of s → IsRunFrom (course_of s) (world_in s) (world_in v) → NothingOpen (world_in v)
leaves_nothing s v st same run =
    none_open v.script (world_in v) (are_calls v st)
    (subst (λ (x : Course). AllEnded x.script (world_in v)) (sym same) (rounds_end (course_of s) run.count run.scheduled (world_in v) run.rounds))

-- ---- whether all have ended

pub all_ended : (s : State) → Stands s → list_all has_ended s.plays ≡ true → AllEnded s.script (world_in s)
all_ended s st all = λ who. elim (cases_lt who (length s.plays)) [
  | inl there ↦
      let each = leb-true (length (play_at s.plays who).tasks) (play_at s.plays who).next (AllPass-from_list_all has_ended s.plays all who nobody there) in
      let count = (st.each who there).count in
      omega (arith, each, count)
  | inr past ↦
      let c = st.count in
      let gone : lines_by s.script who ≡ [] = ap (λ (x : Client). x.lines) (get_or_past s.script.clients who none (omega (arith, past, c))) in
      let l = ap (λ (ls : List Line). length ls) gone in
      omega (arith, l)
]

pub ended_all : (s : State) → Stands s → AllEnded s.script (world_in s) → list_all has_ended s.plays ≡ true
ended_all s st ended = list_all-from_AllPass has_ended s.plays (λ who d there.
    let same : get_or s.plays who d ≡ play_at s.plays who = get_or_default s.plays who d nobody there in
    let e = ended who in
    let count = (st.each who there).count in
    ap has_ended same ∙ le-leb (length (play_at s.plays who).tasks) (play_at s.plays who).next (omega (arith, e, count)))

-- ---- what is left

some_rebuild : (s : Seg) (r : Rebuilding) → s.rebuild ≡ Some r → open_in s r.caller ≡ Some (r.number, Rebuild)
some_rebuild s r is =
    ap (λ (o : Option Rebuilding). open_of r.caller s.claims o) is
    ∙ ap (λ (b : Bool). cond b (Some (r.number, Rebuild)) (open_call r.caller s.claims)) (eq-eqb r.caller r.caller refl)

no_rebuild : (s : Seg) → ((c : ℕ) → open_in s c ≡ None) → s.rebuild ≡ None
no_rebuild s none = by s.rebuild refl where
  by : (o : Option Rebuilding) → s.rebuild ≡ o → s.rebuild ≡ None
  by None is = is
  by (Some r) is = (let some = sym (some_rebuild s r is) ∙ none r.caller in cc)

no_claim : (s : Seg) → Sound s → s.rebuild ≡ None → ((c : ℕ) → open_in s c ≡ None) → (j : ℕ) → claim_at s.claims j ≡ None
no_claim s sound still none j = by (claim_at s.claims j) refl where
  by : (o : Option Claim) → claim_at s.claims j ≡ o → claim_at s.claims j ≡ None
  by None is = is
  by (Some c) is =
      let some = sym (opens_call s.claims j c sound.claimed.sixteen is) ∙ (sym (ap (λ (o : Option Rebuilding). open_of c.owner.0 s.claims o) still) ∙ none c.owner.0) in
      cc

-- where nothing is open, no claim and no rebuild is left
pub are_idle : (v : State) → Stands v → NothingOpen (world_in v) → AreIdle v.segs
are_idle v st none = λ i there.
    let s = seg_at v.segs i in
    let still = no_rebuild s (none i) in
    record { rebuild = still; claims = no_claim s (st.moment.are.each i there).sound still (none i) }
