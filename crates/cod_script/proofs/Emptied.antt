-- A scenario stays one where a client's lines go.
use Rattle.std.proofs.Common.{◌≡◌, ℕ, zero, suc, ◌+◌, ◌≤◌, List, [], ◌∷◌, ◌++◌, length, map, refl, ap, ◌∙◌, arith}
use Rattle.std.specs.List.{All, sum_by}
use Rattle.std.proofs.lemmas.List.Elements.{All-nil, All-cons, All-tail}
use Rattle.std.proofs.lemmas.List.Sums.{sum_by-append}
use Rattle.cod_script.specs.declared.line.Line.{Line}
use Rattle.cod_script.specs.Script.{Script, Client, clients_without, without_lines}
use Rattle.cod_script.specs.Sound.{IsScenario, IsClient, IsLine, IsDated, IsDatedClient, NumbersRise, line_numbers, line_count}
use Rattle.cod_script.specs.Weight.{weight, clients_weight, lines_weight}

pub same_count : (cs : List Client) (who : ℕ) → length (clients_without cs who) ≡ length cs
same_count [] who = refl
same_count (c ∷ cs) zero = refl
same_count (c ∷ cs) (suc who) = ap suc (same_count cs who)

pub same_names : (cs : List Client) (who : ℕ) → map (λ (c : Client). c.name) (clients_without cs who) ≡ map (λ (c : Client). c.name) cs
same_names [] who = refl
same_names (c ∷ cs) zero = refl
same_names (c ∷ cs) (suc who) = ap (λ ns. c.name ∷ ns) (same_names cs who)

bare_client : (nodes segments : ℕ) (c : Client) → IsClient nodes segments c → IsClient nodes segments (record c { lines = [] })
bare_client nodes segments c i = (i.0, All-nil (IsLine nodes segments))

still_clients : (nodes segments : ℕ) (cs : List Client) (who : ℕ) → All (IsClient nodes segments) cs → All (IsClient nodes segments) (clients_without cs who)
still_clients nodes segments [] who all = all
still_clients nodes segments (c ∷ cs) zero all =
    All-cons (IsClient nodes segments) (record c { lines = [] }) cs (bare_client nodes segments c (all 0 c (omega arith))) (All-tail (IsClient nodes segments) c cs all)
still_clients nodes segments (c ∷ cs) (suc who) all =
    All-cons (IsClient nodes segments) c (clients_without cs who) (all 0 c (omega arith)) (still_clients nodes segments cs who (All-tail (IsClient nodes segments) c cs all))

still_dated : (version : ℕ) (cs : List Client) (who : ℕ) → All (IsDatedClient version) cs → All (IsDatedClient version) (clients_without cs who)
still_dated version [] who all = all
still_dated version (c ∷ cs) zero all =
    All-cons (IsDatedClient version) (record c { lines = [] }) cs (All-nil (λ (l : Line). IsDated version l.what)) (All-tail (IsDatedClient version) c cs all)
still_dated version (c ∷ cs) (suc who) all =
    All-cons (IsDatedClient version) c (clients_without cs who) (all 0 c (omega arith)) (still_dated version cs who (All-tail (IsDatedClient version) c cs all))

sum_cons : (f : Client → ℕ) (c : Client) (cs : List Client) → sum_by f (c ∷ cs) ≡ f c + sum_by f cs
sum_cons f c cs = sum_by-append f (c ∷ []) cs ∙ omega arith

sum_less : (f : Client → ℕ) → ((c : Client) → f (record c { lines = [] }) ≤ f c) → (cs : List Client) (who : ℕ) → sum_by f (clients_without cs who) ≤ sum_by f cs
sum_less f less [] who = omega arith
sum_less f less (c ∷ cs) zero =
    let bare : Client = record c { lines = [] } in
    let a = sum_cons f bare cs in let b = sum_cons f c cs in let l = less c in
    rw (a, b) (omega (arith, l))
sum_less f less (c ∷ cs) (suc who) =
    let a = sum_cons f c (clients_without cs who) in let b = sum_cons f c cs in let h = sum_less f less cs who in
    rw (a, b) (omega (arith, h))

fewer_lines : (cs : List Client) (who : ℕ) → line_count (clients_without cs who) ≤ line_count cs
fewer_lines cs who = sum_less (λ c. length c.lines) (λ c. omega arith) cs who

lighter : (x : Script) (who : ℕ) → weight (without_lines x who) ≤ weight x
unfolding weight clients_weight lines_weight
lighter x who =
    let h = sum_less (λ (c : Client). lines_weight x.shape c.lines) (λ c. omega arith) x.clients who in
    omega (arith, h)

-- ---- numbers that rise

pub rise_from_less : (s t : ℕ) (ns : List ℕ) → t ≤ s → NumbersRise s ns → NumbersRise t ns
rise_from_less s t [] le r = tt
rise_from_less s t (n ∷ ns) le r = (let a = r.0 in omega (arith, a, le), r.1)

pub rise_behind : (t : ℕ) (xs ys : List ℕ) → NumbersRise t (xs ++ ys) → NumbersRise t ys
rise_behind t [] ys r = r
rise_behind t (x ∷ xs) ys r = rise_from_less x t ys (let a = r.0 in omega (arith, a)) (rise_behind x xs ys r.1)

-- what rises behind these may be replaced by what rises from lower on
rise_replaced : (t : ℕ) (xs ys zs : List ℕ) → ((s : ℕ) → NumbersRise s ys → NumbersRise s zs) → NumbersRise t (xs ++ ys) → NumbersRise t (xs ++ zs)
rise_replaced t [] ys zs f r = f t r
rise_replaced t (x ∷ xs) ys zs f r = (r.0, rise_replaced x xs ys zs f r.1)

pub still_rise : (t : ℕ) (cs : List Client) (who : ℕ) → NumbersRise t (line_numbers cs) → NumbersRise t (line_numbers (clients_without cs who))
still_rise t [] who r = r
still_rise t (c ∷ cs) zero r = rise_behind t (map (λ (l : Line). l.line) c.lines) (line_numbers cs) r
still_rise t (c ∷ cs) (suc who) r =
    rise_replaced t (map (λ (l : Line). l.line) c.lines) (line_numbers cs) (line_numbers (clients_without cs who)) (λ s. still_rise s cs who) r

pub still_scenario : (x : Script) (who : ℕ) → IsScenario x → IsScenario (without_lines x who)
still_scenario x who i =
    let n = same_count x.clients who in
    record {
      shape = i.shape;
      some_nodes = i.some_nodes;
      most_nodes = i.most_nodes;
      columns = i.columns;
      some_capacity = i.some_capacity;
      some_segments = i.some_segments;
      most_segments = i.most_segments;
      segment_names = i.segment_names;
      segments_differ = i.segments_differ;
      some_clients = rw n i.some_clients;
      most_clients = rw n i.most_clients;
      clients = still_clients x.nodes (length x.segments) x.clients who i.clients;
      dated = still_dated x.shape.version x.clients who i.dated;
      clients_differ = rw (same_names x.clients who) i.clients_differ;
      few_lines = let f = fewer_lines x.clients who in let few = i.few_lines in omega (arith, f, few);
      lines_rise = still_rise 0 x.clients who i.lines_rise;
      turns = rw n i.turns;
      most_workers = i.most_workers;
      most_rounds = i.most_rounds;
      room = i.room;
      light = let l = lighter x who in let light = i.light in omega (arith, l, light);
    }
