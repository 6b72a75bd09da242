-- One job of a caller, and the jobs before it.
use Rattle.std.proofs.Common.{◌≡◌, ℕ, ◌+◌, ◌<◌, ◌^◌, false, List, [], ◌∷◌, ◌++◌, length, Option, refl, sym, ap, ◌∙◌, subst, append-nil, append_assoc, arith}
use Rattle.std.specs.List.{AllByRecursion}
use Rattle.std.proofs.lemmas.List.{length-append}
use Rattle.std.proofs.lemmas.List.Elements.{filter_map-append}
use Rattle.cod_types.specs.Limits.{Shape}
use Rattle.cod_types.specs.declared.call.Call.{Call as Asked}
use Rattle.cod_types.specs.declared.call.NodeId.{NodeId}
use Rattle.cod_types.specs.declared.call.Reply.{Reply}
use Rattle.cod_types.specs.declared.call.SegId.{SegId}
use Rattle.cod_board.specs.declared.kill.Kill.{Kill}
use Rattle.cod_claims.specs.Slips.{Paper, prepared}
use Rattle.cod_script.specs.declared.line.Line.{Line}
use Rattle.cod_script.specs.declared.line.What.{What}
use Rattle.cod_script.specs.declared.line.What.TheVariants as what
use Rattle.cod_script.specs.Script.{Script, ask_of, asks}
use Rattle.cod_seg.specs.Next.{open_in}
use Rattle.cod_segment.specs.Events.{call_in}
use Rattle.cod_accounts.specs.Working.{HasCalled, HasKilled, Pass, Worked}
use Rattle.cod_accounts.proofs.Works.{call_is_line, kill_is_line}
use Rattle.cod_closing.specs.Closing.{log_of}
use Rattle.cod_pass.specs.States.{Common, course_on, IsPassOf, known_by, PassState}
use Rattle.cod_seg.specs.Seg.{Seg}
use Rattle.cod_run.specs.Jobs.{CanDo, CanDoWhat, job_for, job_of, jobs_of}
use Rattle.cod_run.specs.Shifts.{CanWork, HasDone}
use Rattle.cod_run.specs.declared.job.Job.{Job}
use Rattle.cod_run.specs.declared.job.Job.TheVariants as job

-- ---- the line of a job

-- the first line of those whose jobs begin with this one
pub record First (g : Shape) (one : Job) (more : List Job) (lines : List Line) : Type 0 where
  pub line : Line
  pub rest : List Line
  pub lines_are : lines ≡ line ∷ rest
  pub job_is : one ≡ job_of g line
  pub more_are : more ≡ jobs_of g rest

pub first_of : (g : Shape) (one : Job) (more : List Job) (lines : List Line) → one ∷ more ≡ jobs_of g lines → First g one more lines
first_of g one more [] is = absurd (cc is)
first_of g one more (l ∷ ls) is = record { line = l; rest = ls; lines_are = refl; job_is = cc; more_are = cc }

-- where no job is left, no line is
pub none_left : (g : Shape) (lines : List Line) → [] ≡ jobs_of g lines → lines ≡ []
none_left g [] is = refl
none_left g (l ∷ ls) is = absurd (cc is)

-- a call's line
pub record CalledBy (g : Shape) (w : What) (seg : SegId) (slip : Paper) : Type 0 where
  pub call : Asked
  pub what_is : w ≡ what.Segment seg call
  pub slip_is : slip ≡ prepared g call

call_by : (g : Shape) (line : ℕ) (w : What) (seg : SegId) (slip : Paper) → job.Call seg slip ≡ job_for g line w → CalledBy g w seg slip
call_by g line (what.Segment s call) seg slip is = record { call = call; what_is = cc; slip_is = cc }
call_by g line (what.Fail node) seg slip is = absurd (cc is)

-- a failure's line
fail_by : (g : Shape) (n : ℕ) (w : What) (line : ℕ) (node : NodeId) → job.Fail line node ≡ job_for g n w → (w ≡ what.Fail node) × (n ≡ line)
fail_by g n (what.Segment s call) line node is = absurd (cc is)
fail_by g n (what.Fail at) line node is = (cc, cc)

-- the slip has the line's call
has_call : (g : Shape) (call : Asked) (slip : Paper) → slip ≡ prepared g call → call_in slip ≡ call
has_call g call slip is = ap call_in is

-- ---- one job

-- what is known before a call
pub record CallReady (x : Script) (seg : SegId) (slip : Paper) : Type 0 where
  pub line : Line
  pub call : Asked
  pub line_is : line ≡ record { line = line.line; what = what.Segment seg call }
  pub call_is : call_in slip ≡ call
  pub slip_is : slip ≡ prepared x.shape (call_in slip)
  pub can : CanDoWhat x line.line (what.Segment seg (call_in slip))

one_line : (x : Script) (one : Job) (lines : List Line) (f : First x.shape one [] lines) → lines ≡ f.line ∷ []
one_line x one lines f = f.lines_are ∙ ap (λ (l : List Line). f.line ∷ l) (none_left x.shape f.rest f.more_are)

pub call_ready : (x : Script) (k : Common) (p : PassState) (seg : SegId) (slip : Paper) (w : CanWork x k p (job.Call seg slip ∷ [])) → (r : CallReady x seg slip) × (w.lines ≡ r.line ∷ [])
call_ready x k p seg slip w =
    let f = first_of x.shape (job.Call seg slip) [] w.lines w.jobs_are in
    let by = call_by x.shape f.line.line f.line.what seg slip f.job_is in
    let own = has_call x.shape by.call slip by.slip_is in
    let can : CanDo x f.line = (subst (λ (l : List Line). AllByRecursion (CanDo x) l) (one_line x (job.Call seg slip) w.lines f) w.can).0 in (
      record {
        line = f.line;
        call = by.call;
        line_is = ap (λ (v : What). record { line = f.line.line; what = v }) by.what_is;
        call_is = own;
        slip_is = by.slip_is ∙ ap (prepared x.shape) (sym own);
        can = subst (λ (c : Asked). CanDoWhat x f.line.line (what.Segment seg c)) (sym own) (subst (λ (v : What). CanDoWhat x f.line.line v) by.what_is can);
      },
      one_line x (job.Call seg slip) w.lines f,
    )

-- the pass's next number is in its range
pub number_fits : (x : Script) (k : Common) (p : PassState) (seg : SegId) (slip : Paper) → CanWork x k p (job.Call seg slip ∷ []) → p.number + 1 < 2 ^ 32
number_fits x k p seg slip w =
    let r = call_ready x k p seg slip w in
    let one : length (asks w.lines) ≡ 1 = ap (λ (l : List Line). length (asks l)) (r.1 ∙ ap (λ (l : Line). l ∷ []) r.0.line_is) in
    omega (arith, one, w.few)

pub has_called : (x : Script) (k : Common) (p q : PassState) (seg : SegId) (slip : Paper) (position stamp : ℕ) (reply : Reply) (w : CanWork x k p (job.Call seg slip ∷ []))
    → IsPassOf x k q → HasCalled log_of open_in (course_on x k.regions) seg.0 (call_in slip) position stamp reply (known_by p) (known_by q) → HasDone x k p q w.lines
has_called x k p q seg slip position stamp reply w pass h =
    let r = call_ready x k p seg slip w in
    let line : w.lines ≡ (record { line = r.0.line.line; what = what.Segment seg r.0.call }) ∷ [] = r.1 ∙ ap (λ (l : Line). l ∷ []) r.0.line_is in
    let own = subst (λ (c : Asked). HasCalled log_of open_in (course_on x k.regions) seg.0 c position stamp reply (known_by p) (known_by q)) r.0.call_is h in
    subst (λ (l : List Line). HasDone x k p q l) (sym line) (
    record {
      pass = pass;
      caller = h.caller;
      number = h.number;
      worked = λ trace worked. call_is_line log_of open_in (course_on x k.regions) false r.0.line.line seg r.0.call position stamp reply (known_by p) (known_by q) trace worked own;
    }
    )

-- what is known before a failure
pub record FailReady (x : Script) (line : ℕ) (node : NodeId) (lines : List Line) : Type 0 where
  pub lines_are : lines ≡ (record { line = line; what = what.Fail node }) ∷ []
  pub there : node.0 < x.nodes
  pub some : 0 < line

pub fail_ready : (x : Script) (k : Common) (p : PassState) (line : ℕ) (node : NodeId) (w : CanWork x k p (job.Fail line node ∷ [])) → FailReady x line node w.lines
fail_ready x k p line node w =
    let f = first_of x.shape (job.Fail line node) [] w.lines w.jobs_are in
    let by = fail_by x.shape f.line.line f.line.what line node f.job_is in
    let whole = one_line x (job.Fail line node) w.lines f in
    let can : CanDo x f.line = (subst (λ (l : List Line). AllByRecursion (CanDo x) l) whole w.can).0 in
    let own : CanDoWhat x f.line.line (what.Fail node) = subst (λ (v : What). CanDoWhat x f.line.line v) by.0 can in
    record {
      lines_are = whole ∙ ap (λ (v : What). (record { line = f.line.line; what = v }) ∷ []) by.0 ∙ ap (λ (n : ℕ). (record { line = n; what = what.Fail node }) ∷ []) by.1;
      there = own.0;
      some = omega (arith, own.1, by.1);
    }

pub has_killed : (x : Script) (k : Common) (p q : PassState) (line : ℕ) (node : NodeId) (found : Option Kill) (w : CanWork x k p (job.Fail line node ∷ []))
    → IsPassOf x k q → HasKilled line node.0 found (known_by p) (known_by q) → HasDone x k p q w.lines
has_killed x k p q line node found w pass h =
    let r = fail_ready x k p line node w in
    subst (λ (l : List Line). HasDone x k p q l) (sym r.lines_are) (
    record {
      pass = pass;
      caller = ap (λ (m : Pass Seg). m.caller) h;
      number = ap (λ (m : Pass Seg). m.number) h ∙ omega arith;
      worked = λ trace worked. kill_is_line log_of open_in (course_on x k.regions) false line node found (known_by p) (known_by q) trace r.there worked h;
    }
    )

-- ---- one after another

-- so many jobs are done, and these are left
pub record DoneSoFar (x : Script) (k : Common) (p q : PassState) (lines : List Line) (jobs : List Job) : Type 0 where
  pub done : List Line
  pub rest : List Line
  pub lines_are : lines ≡ done ++ rest
  pub jobs_are : jobs ≡ jobs_of x.shape rest
  pub has : HasDone x k p q done

pub nothing_done : (x : Script) (k : Common) (p : PassState) (jobs : List Job) (w : CanWork x k p jobs) → DoneSoFar x k p p w.lines jobs
nothing_done x k p jobs w = record {
  done = [];
  rest = w.lines;
  lines_are = refl;
  jobs_are = w.jobs_are;
  has = record {
    pass = w.pass;
    caller = refl;
    number = omega arith;
    worked = λ trace worked. subst (λ (l : List Line). Worked log_of open_in (course_on x k.regions) false (known_by p) l) (sym (append-nil trace)) worked;
  };
}

asks_both : (front back : List Line) → length (asks (front ++ back)) ≡ length (asks front) + length (asks back)
asks_both front back = ap length (filter_map-append (λ (l : Line). ask_of l.what) front back) ∙ length-append (asks front) (asks back)

can_there : (x : Script) (done : List Line) (l : Line) (rest : List Line) → AllByRecursion (CanDo x) (done ++ l ∷ rest) → CanDo x l
can_there x [] l rest can = can.0
can_there x (d ∷ ds) l rest can = can_there x ds l rest can.1

-- the next job can be done
pub can_go_on : (x : Script) (k : Common) (p q : PassState) (start : List Job) (one : Job) (more : List Job) (w : CanWork x k p start) (s : DoneSoFar x k p q w.lines (one ∷ more))
    → (f : First x.shape one more s.rest) → (v : CanWork x k q (one ∷ [])) × (v.lines ≡ f.line ∷ [])
can_go_on x k p q start one more w s f =
    let whole : w.lines ≡ s.done ++ f.line ∷ f.rest = s.lines_are ∙ ap (λ (l : List Line). s.done ++ l) f.lines_are in
    let count = ap (λ (l : List Line). length (asks l)) whole in
    let both = asks_both s.done (f.line ∷ f.rest) in
    let first = asks_both (f.line ∷ []) f.rest in (
      record {
        common = w.common;
        pass = s.has.pass;
        lines = f.line ∷ [];
        jobs_are = ap (λ (j : Job). j ∷ []) f.job_is;
        can = (can_there x s.done f.line f.rest (subst (λ (l : List Line). AllByRecursion (CanDo x) l) whole w.can), tt);
        few = omega (arith, w.few, s.has.number, count, both, first);
      },
      refl,
    )

-- one job more is done
pub goes_on : (x : Script) (k : Common) (p q r : PassState) (start : List Job) (one : Job) (more : List Job) (w : CanWork x k p start) (s : DoneSoFar x k p q w.lines (one ∷ more))
    (f : First x.shape one more s.rest) → HasDone x k q r (f.line ∷ []) → DoneSoFar x k p r w.lines more
goes_on x k p q r start one more w s f h =
    let course = course_on x k.regions in
    record {
      done = s.done ++ f.line ∷ [];
      rest = f.rest;
      lines_are = s.lines_are ∙ ap (λ (l : List Line). s.done ++ l) f.lines_are ∙ sym (append_assoc s.done (f.line ∷ []) f.rest);
      jobs_are = f.more_are;
      has = record {
        pass = h.pass;
        caller = h.caller ∙ s.has.caller;
        number = omega (arith, h.number, s.has.number, asks_both s.done (f.line ∷ []));
        worked = λ trace worked. subst (λ (l : List Line). Worked log_of open_in course false (known_by r) l) (append_assoc trace s.done (f.line ∷ []))
            (h.worked (trace ++ s.done) (s.has.worked trace worked));
      };
    }

-- where no job is left, all lines are done
pub all_done : (x : Script) (k : Common) (p q : PassState) (start : List Job) (w : CanWork x k p start) → DoneSoFar x k p q w.lines [] → HasDone x k p q w.lines
all_done x k p q start w s =
    let whole : w.lines ≡ s.done = s.lines_are ∙ ap (λ (l : List Line). s.done ++ l) (none_left x.shape s.rest s.jobs_are) ∙ append-nil s.done in
    subst (λ (l : List Line). HasDone x k p q l) (sym whole) s.has

-- ---- the same, as a caller of these steps has it

pub called_as : (x : Script) (k : Common) (p q : PassState) (one : Job) (seg : SegId) (slip : Paper) (position stamp : ℕ) (reply : Reply) → one ≡ job.Call seg slip → (w : CanWork x k p (one ∷ []))
    → IsPassOf x k q → HasCalled log_of open_in (course_on x k.regions) seg.0 (call_in slip) position stamp reply (known_by p) (known_by q) → HasDone x k p q w.lines
called_as x k p q one seg slip position stamp reply is =
    subst (λ (j : Job). (w : CanWork x k p (j ∷ [])) → IsPassOf x k q → HasCalled log_of open_in (course_on x k.regions) seg.0 (call_in slip) position stamp reply (known_by p) (known_by q)
    → HasDone x k p q w.lines) (sym is) (λ w pass h. has_called x k p q seg slip position stamp reply w pass h)

pub call_ready_as : (x : Script) (k : Common) (p : PassState) (one : Job) (seg : SegId) (slip : Paper) → one ≡ job.Call seg slip → CanWork x k p (one ∷ []) → CallReady x seg slip
call_ready_as x k p one seg slip is w = (call_ready x k p seg slip (subst (λ (j : Job). CanWork x k p (j ∷ [])) is w)).0

pub number_fits_as : (x : Script) (k : Common) (p : PassState) (one : Job) (seg : SegId) (slip : Paper) → one ≡ job.Call seg slip → CanWork x k p (one ∷ []) → p.number + 1 < 2 ^ 32
number_fits_as x k p one seg slip is w = number_fits x k p seg slip (subst (λ (j : Job). CanWork x k p (j ∷ [])) is w)

pub killed_as : (x : Script) (k : Common) (p q : PassState) (one : Job) (line : ℕ) (node : NodeId) (found : Option Kill) → one ≡ job.Fail line node → (w : CanWork x k p (one ∷ []))
    → IsPassOf x k q → HasKilled line node.0 found (known_by p) (known_by q) → HasDone x k p q w.lines
killed_as x k p q one line node found is =
    subst (λ (j : Job). (w : CanWork x k p (j ∷ [])) → IsPassOf x k q → HasKilled line node.0 found (known_by p) (known_by q) → HasDone x k p q w.lines) (sym is)
    (λ w pass h. has_killed x k p q line node found w pass h)

pub fail_ready_as : (x : Script) (k : Common) (p : PassState) (one : Job) (line : ℕ) (node : NodeId) → one ≡ job.Fail line node → CanWork x k p (one ∷ []) → (node.0 < x.nodes) × (0 < line)
fail_ready_as x k p one line node is w = (let r = fail_ready x k p line node (subst (λ (j : Job). CanWork x k p (j ∷ [])) is w) in (r.there, r.some))

pub next_ready : (x : Script) (k : Common) (p q : PassState) (start jobs : List Job) (one : Job) (more : List Job) → jobs ≡ one ∷ more → (w : CanWork x k p start) → DoneSoFar x k p q w.lines jobs
    → CanWork x k q (one ∷ [])
next_ready x k p q start jobs one more is w s =
    let s' = subst (λ (l : List Job). DoneSoFar x k p q w.lines l) is s in
    (can_go_on x k p q start one more w s' (first_of x.shape one more s'.rest s'.jobs_are)).0

pub next_done : (x : Script) (k : Common) (p q r : PassState) (start jobs : List Job) (one : Job) (more : List Job) → jobs ≡ one ∷ more → (w : CanWork x k p start)
    → DoneSoFar x k p q w.lines jobs
    → ((v : CanWork x k q (one ∷ [])) → HasDone x k q r v.lines) → DoneSoFar x k p r w.lines more
next_done x k p q r start jobs one more is w s does =
    let s' = subst (λ (l : List Job). DoneSoFar x k p q w.lines l) is s in
    let f = first_of x.shape one more s'.rest s'.jobs_are in
    let v = can_go_on x k p q start one more w s' f in
    goes_on x k p q r start one more w s' f (subst (λ (l : List Line). HasDone x k q r l) v.1 (does v.0))

pub all_done_at : (x : Script) (k : Common) (p q : PassState) (start jobs : List Job) → jobs ≡ [] → (w : CanWork x k p start) → DoneSoFar x k p q w.lines jobs → HasDone x k p q w.lines
all_done_at x k p q start jobs is w s = all_done x k p q start w (subst (λ (l : List Job). DoneSoFar x k p q w.lines l) is s)
