-- A client and its lines.
use Rattle.std.proofs.Common.{◌≡◌, inl, inr, ℕ, zero, suc, ◌+◌, ◌<◌, ◌≤◌, Bool, cond, List, [], ◌∷◌, ◌++◌, length, set, take, get_or, refl, sym, ap, ◌∙◌, subst, length-append, take_at, arith}
use Rattle.std.proofs.lemmas.Bool.{cases_lt, lt-ltb, le-ltb}
use Rattle.std.proofs.lemmas.List.{get_or-set_same, get_or-set_other, length-set, take_more, get_or_at}
use Rattle.cod_types.specs.declared.call.Call.{Call as Asked}
use Rattle.cod_types.specs.declared.call.NodeId.{NodeId}
use Rattle.cod_types.specs.declared.call.SegId.{SegId}
use Rattle.cod_types.specs.Limits.{Shape}
use Rattle.cod_claims.specs.Slips.{Paper, prepared}
use Rattle.cod_script.specs.declared.line.Line.{Line}
use Rattle.cod_script.specs.declared.line.What.{What}
use Rattle.cod_script.specs.declared.line.What.TheVariants as what
use Rattle.cod_script.specs.Script.{Ask, asks, lines_by, Script}
use Rattle.cod_turns.proofs.Lists.{asks_push}
use Rattle.cod_turns.specs.Turns.{IsLineAt}
use Rattle.cod_advance.specs.Moments.{IsWholeSlip}
use Rattle.cod_replay.specs.Standing.{IsBegunBy, IsPlay}
use Rattle.cod_replay.specs.Tasks.{due_by, due_of, gone_on, Play, slip_in, task_at, task_of, whole_task}
use Rattle.cod_replay.specs.declared.task.Due.{Due}
use Rattle.cod_replay.specs.declared.task.Due.TheVariants as due
use Rattle.cod_replay.specs.declared.task.Task.{Task}
use Rattle.cod_replay.specs.declared.task.Task.TheVariants.{Call, Done}

-- ---- the line that it has come to

lines_split : (lines : List Line) (i : ℕ) → i < length lines → (l : Line) × (front : List Line) × (rest : List Line) × (lines ≡ front ++ l ∷ rest) × (length front ≡ i)
lines_split [] i small = absurd (omega (arith, small))
lines_split (l ∷ ls) zero small = (l, [], ls, refl, refl)
lines_split (l ∷ ls) (suc i) small =
    let r = lines_split ls i (omega (arith, small)) in
    (r.0, l ∷ r.1, r.2, ap (λ (x : List Line). l ∷ x) r.3, ap suc r.4)

pub line_there : (x : Script) (who i : ℕ) → i < length (lines_by x who) → (l : Line) × IsLineAt x who i l
line_there x who i small =
    let r = lines_split (lines_by x who) i small in
    (r.0, record { front = r.1; rest = r.2; lines = r.3; place = r.4 })

pub line_below : (x : Script) (who i : ℕ) (l : Line) → IsLineAt x who i l → i < length (lines_by x who)
line_below x who i l at =
    let e = ap length at.lines ∙ length-append at.front (l ∷ at.rest) in
    let p = at.place in
    omega (arith, e, p)

pub front_is : (x : Script) (who i : ℕ) (l : Line) (at : IsLineAt x who i l) → take i (lines_by x who) ≡ at.front
front_is x who i l at = ap (take i) at.lines ∙ take_at at.front (l ∷ at.rest) i at.place

pub front_on : (x : Script) (who i : ℕ) (l : Line) (at : IsLineAt x who i l) → take (i + 1) (lines_by x who) ≡ take i (lines_by x who) ++ l ∷ []
front_on x who i l at =
    take_more (lines_by x who) i l (line_below x who i l at)
    ∙ ap (λ (y : Line). take i (lines_by x who) ++ y ∷ []) (ap (λ (ls : List Line). get_or ls i l) at.lines ∙ get_or_at at.front l at.rest l i at.place)

-- two lines at one place are one
pub one_line : (x : Script) (who i : ℕ) (l m : Line) → IsLineAt x who i l → IsLineAt x who i m → l ≡ m
one_line x who i l m at other =
    sym (ap (λ (ls : List Line). get_or ls i l) at.lines ∙ get_or_at at.front l at.rest l i at.place)
    ∙ (ap (λ (ls : List Line). get_or ls i l) other.lines ∙ get_or_at other.front m other.rest l i other.place)

-- ---- what it is to do

-- a task that was begun by this line is due as the line says
abbrev due_for : Line → Due
due_for l = by l.what where
  by : What → Due
  by (what.Segment seg call) = due.Call seg
  by (what.Fail node) = due.Fail l.line node

due_begun : (line : ℕ) (w : What) (t : Task) → IsBegunBy line w t → due_by t ≡ due_for (record { line = line; what = w })
due_begun line (what.Segment seg call) t is = ap due_by is.1
due_begun line (what.Fail node) t is = ap due_by is

due_now : (p : Play) → p.next < length p.tasks → due_of p ≡ due_by (task_of p)
due_now p small = ap (λ (b : Bool). cond b (due_by (task_of p)) due.Nothing) (lt-ltb p.next (length p.tasks) small)

due_none : (p : Play) → length p.tasks ≤ p.next → due_of p ≡ due.Nothing
due_none p big = ap (λ (b : Bool). cond b (due_by (task_of p)) due.Nothing) (le-ltb p.next (length p.tasks) big)

-- it has come to a call of this segment, and has a slip for it
pub record CalledAt (x : Script) (who : ℕ) (p : Play) (seg : SegId) : Type 0 where
  pub line : ℕ
  pub call : Asked
  pub at : IsLineAt x who p.next (record { line = line; what = what.Segment seg call })
  pub is : task_of p ≡ Call seg (slip_in (task_of p))
  pub small : p.next < length p.tasks

called_by : (x : Script) (who : ℕ) (p : Play) (seg : SegId) (line : ℕ) (w : What) → p.next < length p.tasks → IsLineAt x who p.next (record { line = line; what = w })
    → IsBegunBy line w (task_of p) → due_for (record { line = line; what = w }) ≡ due.Call seg → CalledAt x who p seg
called_by x who p seg line (what.Segment s call) small at begun e =
    let same : s ≡ seg = cc in
    record {
      line = line;
      call = call;
      at = subst (λ (q : SegId). IsLineAt x who p.next (record { line = line; what = what.Segment q call })) same at;
      is = begun.1 ∙ ap (λ (q : SegId). Call q begun.0) same ∙ sym (ap (λ (t : Task). Call seg (slip_in t)) begun.1);
      small = small;
    }
called_by x who p seg line (what.Fail node) small at begun e = cc

pub called : (x : Script) (who : ℕ) (p : Play) (seg : SegId) → IsPlay x who p → due_of p ≡ due.Call seg → CalledAt x who p seg
called x who p seg is e = elim (cases_lt p.next (length p.tasks)) [
  | inl small ↦
      let count = is.count in
      let there = line_there x who p.next (omega (arith, small, count)) in
      let begun = is.here there.0 there.1 in
      called_by x who p seg there.0.line there.0.what small there.1 begun
      (sym (due_begun there.0.line there.0.what (task_of p) begun) ∙ sym (due_now p small) ∙ e)
  | inr big ↦ (let none = sym (due_none p big) ∙ e in cc)
]

-- it has come to a `fail` line
pub record FailsAt (x : Script) (who : ℕ) (p : Play) (line : ℕ) (node : NodeId) : Type 0 where
  pub at : IsLineAt x who p.next (record { line = line; what = what.Fail node })
  pub small : p.next < length p.tasks

fails_by : (x : Script) (who : ℕ) (p : Play) (line : ℕ) (node : NodeId) (l : ℕ) (w : What) → p.next < length p.tasks
    → IsLineAt x who p.next (record { line = l; what = w }) → due_for (record { line = l; what = w }) ≡ due.Fail line node → FailsAt x who p line node
fails_by x who p line node l (what.Segment s call) small at e = cc
fails_by x who p line node l (what.Fail n) small at e =
    let a : l ≡ line = cc in
    let b : n ≡ node = cc in
    record {
      at = subst (λ (q : ℕ). IsLineAt x who p.next (record { line = q; what = what.Fail node })) a
          (subst (λ (q : NodeId). IsLineAt x who p.next (record { line = l; what = what.Fail q })) b at);
      small = small;
    }

pub fails : (x : Script) (who : ℕ) (p : Play) (line : ℕ) (node : NodeId) → IsPlay x who p → due_of p ≡ due.Fail line node → FailsAt x who p line node
fails x who p line node is e = elim (cases_lt p.next (length p.tasks)) [
  | inl small ↦
      let count = is.count in
      let there = line_there x who p.next (omega (arith, small, count)) in
      let begun = is.here there.0 there.1 in
      fails_by x who p line node there.0.line there.0.what small there.1
      (sym (due_begun there.0.line there.0.what (task_of p) begun) ∙ sym (due_now p small) ∙ e)
  | inr big ↦ (let none = sym (due_none p big) ∙ e in cc)
]

due_some : (l : Line) → due_for l ≡ due.Nothing → ⊥
due_some l e = by l.what e where
  by : (w : What) → due_for (record { line = l.line; what = w }) ≡ due.Nothing → ⊥
  by (what.Segment seg call) e = cc
  by (what.Fail node) e = cc

-- nothing is due exactly where no line is left
pub ended : (x : Script) (who : ℕ) (p : Play) → IsPlay x who p → due_of p ≡ due.Nothing → length (lines_by x who) ≤ p.next
ended x who p is e = elim (cases_lt p.next (length p.tasks)) [
  | inl small ↦
      let count = is.count in
      let there = line_there x who p.next (omega (arith, small, count)) in
      let begun = is.here there.0 there.1 in
      absurd (due_some there.0 (sym (due_begun there.0.line there.0.what (task_of p) begun) ∙ sym (due_now p small) ∙ e))
  | inr big ↦ (let count = is.count in omega (arith, big, count))
]

pub none_due : (x : Script) (who : ℕ) (p : Play) → IsPlay x who p → length (lines_by x who) ≤ p.next → due_of p ≡ due.Nothing
none_due x who p is big = (let count = is.count in due_none p (omega (arith, big, count)))

-- ---- its next line

pub whole_begun : (g : Shape) (l : Line) (t : Task) → t ≡ whole_task g l → IsBegunBy l.line l.what t
whole_begun g l t is = by l.what is where
  by : (w : What) → t ≡ whole_task g (record { line = l.line; what = w }) → IsBegunBy l.line w t
  by (what.Segment seg call) is = (prepared g call, is)
  by (what.Fail node) is = is

-- as its tasks may be while the line isn't done: those of later lines stay
pub record StaysAt (p : Play) (tasks : List Task) : Type 0 where
  pub size : length tasks ≡ length p.tasks
  pub later : (i : ℕ) → p.next < i → task_at tasks i ≡ task_at p.tasks i

pub stays_same : (p : Play) → StaysAt p p.tasks
stays_same p = record { size = refl; later = λ i big. refl }

pub stays_set : (p : Play) (t : Task) → StaysAt p (set p.tasks p.next t)
stays_set p t = record { size = length-set p.tasks p.next t; later = λ i big. get_or-set_other p.tasks p.next i t Done (λ e. omega (arith, big, e)) }

-- the line is done, and its number is right for the next one
pub goes_on : (x : Script) (who : ℕ) (p : Play) (l : Line) (n clock : ℕ) (tasks : List Task) → IsPlay x who p → IsLineAt x who p.next l → StaysAt p tasks
    → n ≡ length (asks (take (p.next + 1) (lines_by x who)))
    → IsPlay x who (gone_on (record p { number = n; clock = clock; tasks = tasks }))
goes_on x who p l n clock tasks is at stays number =
    let now : (i : ℕ) → p.next < i → task_at (set tasks p.next Done) i ≡ task_at p.tasks i =
    λ i big. get_or-set_other tasks p.next i Done Done (λ e. omega (arith, big, e)) ∙ stays.later i big in
    record {
      own = is.own;
      count = length-set tasks p.next Done ∙ stays.size ∙ is.count;
      within =
          let a = length-set tasks p.next Done in
          let b = stays.size in
          let c = is.count in
          let d = line_below x who p.next l at in
          omega (arith, a, b, c, d);
      number_is = number;
      here = λ m there. whole_begun x.shape m (task_at (set tasks p.next Done) (p.next + 1))
          (now (p.next + 1) (omega arith) ∙ is.later (p.next + 1) m (omega arith) there);
      later = λ i m big there. now i (omega (arith, big)) ∙ is.later i m (omega (arith, big)) there;
    }

-- the slip for its next call is whole
pub next_whole : (x : Script) (who : ℕ) (p : Play) (tasks : List Task) → IsPlay x who p → StaysAt p tasks
    → IsWholeSlip x who (p.next + 1) (slip_in (task_at (set tasks p.next Done) (p.next + 1)))
next_whole x who p tasks is stays = λ line seg call at.
    ap slip_in (get_or-set_other tasks p.next (p.next + 1) Done Done (λ e. omega (arith, e)) ∙ stays.later (p.next + 1) (omega arith)
    ∙ is.later (p.next + 1) (record { line = line; what = what.Segment seg call }) (omega arith) at)

-- the call isn't answered yet
pub stays : (x : Script) (who : ℕ) (p : Play) (seg : SegId) (line : ℕ) (call : Asked) (slip : Paper) (clock : ℕ) → IsPlay x who p → p.next < length p.tasks
    → IsLineAt x who p.next (record { line = line; what = what.Segment seg call })
    → IsPlay x who (record p { clock = clock; tasks = set p.tasks p.next (Call seg slip) })
stays x who p seg line call slip clock is small at = record {
  own = is.own;
  count = length-set p.tasks p.next (Call seg slip) ∙ is.count;
  within = (let a = length-set p.tasks p.next (Call seg slip) in let b = is.within in omega (arith, a, b));
  number_is = is.number_is;
  here = λ m there.
      let same = one_line x who p.next (record { line = line; what = what.Segment seg call }) m at there in
      subst (λ (q : Line). IsBegunBy q.line q.what (task_at (set p.tasks p.next (Call seg slip)) p.next)) same
      (slip, get_or-set_same p.tasks p.next (Call seg slip) Done small);
  later = λ i m big there. get_or-set_other p.tasks p.next i (Call seg slip) Done (λ e. omega (arith, big, e)) ∙ is.later i m big there;
}

-- ---- its number

pub number_here : (x : Script) (who : ℕ) (p : Play) (l : Line) (at : IsLineAt x who p.next l) → IsPlay x who p → p.number ≡ length (asks at.front)
number_here x who p l at is = is.number_is ∙ ap (λ (ls : List Line). length (asks ls)) (front_is x who p.next l at)

pub number_called : (x : Script) (who : ℕ) (p : Play) (line : ℕ) (seg : SegId) (call : Asked) → IsPlay x who p
    → IsLineAt x who p.next (record { line = line; what = what.Segment seg call }) → p.number + 1 ≡ length (asks (take (p.next + 1) (lines_by x who)))
number_called x who p line seg call is at =
    let l : Line = record { line = line; what = what.Segment seg call } in
    let e = ap (λ (ls : List Line). length (asks ls)) (front_on x who p.next l at) in
    let f = ap (λ (ks : List Ask). length ks) (asks_push (take p.next (lines_by x who)) line (what.Segment seg call)) in
    let a = length-append (asks (take p.next (lines_by x who))) (record { segment = seg.0; call = call } ∷ []) in
    let n = is.number_is in
    omega (arith, e, f, a, n)

pub number_failed : (x : Script) (who : ℕ) (p : Play) (line : ℕ) (node : NodeId) → IsPlay x who p
    → IsLineAt x who p.next (record { line = line; what = what.Fail node }) → p.number ≡ length (asks (take (p.next + 1) (lines_by x who)))
number_failed x who p line node is at =
    let l : Line = record { line = line; what = what.Fail node } in
    let e = ap (λ (ls : List Line). length (asks ls)) (front_on x who p.next l at) in
    let f = ap (λ (ks : List Ask). length ks) (asks_push (take p.next (lines_by x who)) line (what.Fail node)) in
    let a = length-append (asks (take p.next (lines_by x who))) [] in
    let n = is.number_is in
    omega (arith, e, f, a, n)
