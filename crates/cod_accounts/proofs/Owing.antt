-- What clients and care workers owe.
use Rattle.std.proofs.Common.{◌≡◌, ℕ, ◌+◌, ◌-◌, ◌<◌, ◌≤◌, Bool, cond, ltb, List, [], length, map, refl, sym, ap, ◌∙◌, inl, inr, arith}
use Rattle.std.specs.List.{range_with_len}
use Rattle.std.proofs.lemmas.Bool.{lt-ltb, le-ltb}
use Rattle.std.proofs.Math.ListN.{get_or-eq_default}
use Rattle.cod_chronicle.specs.declared.entry.Entry.{Entry}
use Rattle.cod_chronicle.specs.Standing.{OpenCalls}
use Rattle.cod_script.specs.Owed.{care_ask, has_fail, owed, owed_with_care}
use Rattle.cod_script.specs.Script.{Script, Client, Ask, lines_by, nobody}
use Rattle.cod_accounts.specs.Closing.{ClientFulfils, WorkerFulfils, OthersOweNothing}

abbrev rounds_of : Script → ℕ → List Ask
rounds_of x who = map (care_ask (who - length x.clients) x.workers (length x.segments) (has_fail x)) (range_with_len 0 x.rounds)

client_owes : (x : Script) (who : ℕ) → who < length x.clients → owed_with_care x who ≡ owed x who
client_owes x who lt = ap (λ (b : Bool). cond b (owed x who) (cond (ltb who (length x.clients + x.workers)) (rounds_of x who) [])) (lt-ltb who (length x.clients) lt)

no_client : (x : Script) (who : ℕ) → length x.clients ≤ who → owed_with_care x who ≡ cond (ltb who (length x.clients + x.workers)) (rounds_of x who) []
no_client x who ge = ap (λ (b : Bool). cond b (owed x who) (cond (ltb who (length x.clients + x.workers)) (rounds_of x who) [])) (le-ltb who (length x.clients) ge)

pub others_owe_nothing : OthersOweNothing
others_owe_nothing x c ge = no_client x c (omega arith) ∙ ap (λ (b : Bool). cond b (rounds_of x c) []) (le-ltb c (length x.clients + x.workers) ge)

worker_owes : (x : Script) (worker : ℕ) → worker < x.workers
    → owed_with_care x (length x.clients + worker) ≡ map (care_ask worker x.workers (length x.segments) (has_fail x)) (range_with_len 0 x.rounds)
worker_owes x worker lt =
    let who : ℕ = length x.clients + worker in
    let e : length x.clients + worker - length x.clients ≡ worker = omega arith in
    no_client x who (omega arith) ∙ (ap (λ (b : Bool). cond b (rounds_of x who) []) (lt-ltb who (length x.clients + x.workers) (omega arith))
    ∙ ap (λ (w : ℕ). map (care_ask w x.workers (length x.segments) (has_fail x)) (range_with_len 0 x.rounds)) e)

no_lines : (x : Script) (who : ℕ) → length x.clients ≤ who → lines_by x who ≡ []
no_lines x who ge = ap (λ (c : Client). c.lines) (get_or-eq_default x.clients nobody ge)

module _ {T : Type 0} (log : T → List Entry) (opened : T → OpenCalls) where
  pub client_fulfils : ClientFulfils log opened
  client_fulfils x c p lt caller seats w = record {
    caller = caller;
    seats = seats;
    trace = lines_by x.script c;
    owed = sym (client_owes x.script c lt);
    lines = inl refl;
    worked = w;
  }

  pub worker_fulfils : WorkerFulfils log opened
  worker_fulfils x worker p trace lt caller seats asked none w = record {
    caller = caller;
    seats = seats;
    trace = trace;
    owed = asked ∙ sym (worker_owes x.script worker lt);
    lines = inr (no_lines x.script (length x.script.clients + worker) (omega arith), none);
    worked = w;
  }
