-- What a put makes of the target of a rebuild.
use Rattle.std.proofs.Common.{◌≡◌, inl, inr, ℕ, ◌+◌, ◌<◌, ◌≤◌, List, length, take, drop, get_or, slice_set, Bool, true, false, cond, Option, Some, None, Result, Ok, Err, refl, sym, ap, ◌∙◌, subst, arith}
use Rattle.std.specs.Prelude.{is_ok, is_some, IsOk}
use Rattle.std.proofs.lemmas.Bool.{both_ways, cases_lt, le-ltb, lt-ltb}
use Rattle.std.proofs.lemmas.List.{get_or_append_left, get_or-take, length-take}
use Rattle.cod_types.specs.Faults.{HasCause, Rose}
use Rattle.cod_types.specs.Limits.{Shape}
use Rattle.cod_types.specs.Overwritten.{overwritten}
use Rattle.cod_types.specs.declared.errors.Failed.{Failed}
use Rattle.cod_code.specs.Segments.{column, column_byte}
use Rattle.cod_code.proofs.Segments.{column_at, column_length}
use Rattle.cod_repair.specs.Columns.{IsFull}
use Rattle.cod_repair.specs.Targets.{Overwrites}
use Rattle.cod_seg.specs.Calls.{costs, nothing}
use Rattle.cod_seg.specs.Seg.{Rebuilding, Target}
use Rattle.cod_seg.specs.Steps.{KeepsTarget, MayPut, PutsTarget}
use Rattle.cod_seg.proofs.Marking.{is_some_map, written}
use Rattle.cod_segment.specs.Events.{Counts, CountsTarget}
use Rattle.cod_rounds.specs.Rounds.{BreaksOn, MayGet, putting_cost, PutsOn}

-- the front of what was overwritten from its begin on
pub front_of : (base old : List ℕ) (x : ℕ) → x < length base → get_or (overwritten 0 base old) x 0 ≡ get_or base x 0
front_of base old x lt = get_or_append_left base (drop (0 + length base) old) 0 x lt

-- the first bytes of a column
bytes_in : (k block col filled : ℕ) (bytes : List ℕ) (x : ℕ) → filled ≤ block → x < filled → get_or (take filled (column k block col bytes)) x 0 ≡ column_byte k block col bytes x
bytes_in k block col filled bytes x within lt =
    get_or-take filled (column k block col bytes) x 0 lt ∙ column_at k block col bytes x (omega (arith, within, lt))

-- a target that wasn't written
kept_target : (t : Target) → IsFull t.device → KeepsTarget t t
kept_target t full = record { tells = refl; full = full; size = refl; faults = refl; never_fails = refl; same = refl }

abbrev part_of : (g : Shape) (bytes : List ℕ) (col : ℕ) → Target → List ℕ
part_of g bytes col t = take t.filled (column g.k g.block col bytes)

part_long : (g : Shape) (bytes : List ℕ) (col : ℕ) (t : Target) → t.filled ≤ g.block → length (part_of g bytes col t) ≡ t.filled
part_long g bytes col t within =
    let long = column_length g.k g.block col bytes in
    let e = length-take t.filled (column g.k g.block col bytes) in
    omega (arith, long, e, within)

-- its bytes are these, and it was written once where there are some
put_some : (g : Shape) (bytes : List ℕ) (col : ℕ) (t u : Target) (b : Unit {0}) → MayGet g t → Overwrites 0 (part_of g bytes col t) (Ok b) t u → IsFull u.device → u.device.faults ≡ t.device.faults
    → 0 < t.filled → PutsTarget g col bytes t u × Counts (putting_cost t) t.device u.device
put_some g bytes col t u b may puts full faults some =
    let long = part_long g bytes col t may.within in
    let at : 0 < length (part_of g bytes col t) = omega (arith, long, some) in
    let same = puts.same at in
    let content = puts.content at in (
      record {
        each = λ held told x lt.
            let w = written t.device.content 0 (part_of g bytes col t) held (sym content ∙ told) in
            ap (λ (l : List ℕ). get_or l x 0) (sym w.2) ∙ front_of (part_of g bytes col t) w.0 x (omega (arith, long, lt)) ∙ bytes_in g.k g.block col t.filled bytes x may.within lt;
        keeps = record {
          tells = ap is_some content ∙ is_some_map t.device.content (overwritten 0 (part_of g bytes col t));
          full = full;
          size = ap (λ (x : Target). x.device.size) same;
          faults = faults;
          never_fails = ap (λ (x : Target). x.device.never_fails) same;
          same = same ∙ (λ i. record t { device = sym (ap (λ (x : Target). x.device) same) i });
        };
      },
      subst (λ (p : Bool). Counts (cond p (costs 0 1) nothing) t.device u.device) (sym (lt-ltb 0 t.filled some)) (ap (λ (x : Target). x.device.reads) same, ap (λ (x : Target). x.device.writes) same),
    )

put_none : (g : Shape) (bytes : List ℕ) (col : ℕ) (t u : Target) (b : Unit {0}) → MayGet g t → Overwrites 0 (part_of g bytes col t) (Ok b) t u → IsFull u.device
    → t.filled ≤ 0 → PutsTarget g col bytes t u × Counts (putting_cost t) t.device u.device
put_none g bytes col t u b may puts full none =
    let long = part_long g bytes col t may.within in
    let same : u ≡ t = (puts.none (omega (arith, long, none))).1 in
    rw same (
      record {
        each = λ held told x lt. absurd (omega (arith, lt, none));
        keeps = kept_target t (subst (λ (x : Target). IsFull x.device) same full);
      },
      subst (λ (p : Bool). Counts (cond p (costs 0 1) nothing) t.device t.device) (sym (le-ltb 0 t.filled none)) (refl, refl),
    )

put_it : (g : Shape) (bytes : List ℕ) (col : ℕ) (t u : Target) (b : Unit {0}) → MayGet g t → Overwrites 0 (part_of g bytes col t) (Ok b) t u → IsFull u.device → u.device.faults ≡ t.device.faults
    → PutsTarget g col bytes t u × Counts (putting_cost t) t.device u.device
put_it g bytes col t u b may puts full faults = elim (cases_lt 0 t.filled) [
  | inl some ↦ put_some g bytes col t u b may puts full faults some
  | inr none ↦ put_none g bytes col t u b may puts full none
]

counted : (t u x : Target) (o : Option Target) → o ≡ Some t → o ≡ Some x → Counts (putting_cost t) t.device u.device → CountsTarget (putting_cost x) o (Some u)
counted t u x o goal here counts =
    let same : x ≡ t = (let e : Some x ≡ Some t = sym here ∙ goal in cc) in
    rw (goal, same) counts

-- The target of a rebuild was written.
pub puts_on : (g : Shape) (bytes : List ℕ) (v now : Rebuilding) (t u : Target) (result : Result (Unit {0}) Failed) → v ≡ now → v.target ≡ Some t
    → ((x : Target) → now.target ≡ Some x → MayGet g x) → is_ok result ≡ true
    → Overwrites 0 (take t.filled (column g.k g.block v.col bytes)) result t u → IsFull u.device → HasCause t.device.faults u.device.faults result
    → PutsOn g bytes now (record v { target = Some u })
puts_on g bytes v now t u (Ok b) is goal may ok puts full cause =
    let done = put_it g bytes v.col t u b (may t (sym (ap (λ (x : Rebuilding). x.target) is) ∙ goal)) puts full cause.kept in
    subst (λ (x : Rebuilding). PutsOn g bytes x (record v { target = Some u })) is (record {
      target = Some u;
      becomes = refl;
      puts = subst (λ (o : Option Target). MayPut g v.col bytes o (Some u)) (sym goal) (u, refl, done.0);
      counts = λ x here. counted t u x v.target goal here done.1;
    })
puts_on g bytes v now t u (Err e) is goal may ok puts full cause = absurd (both_ways true (sym ok) refl)

-- Its region failed.
pub breaks_on : (g : Shape) (bytes : List ℕ) (v now new : Rebuilding) (t u : Target) (result : Result (Unit {0}) Failed) → v ≡ now → v.target ≡ Some t → t.device.faults ≡ 0 → is_ok result ≡ false
    → Overwrites 0 (take t.filled (column g.k g.block v.col bytes)) result t u → HasCause t.device.faults u.device.faults result → (t.device.never_fails ≡ true → IsOk result)
    → new ≡ record v { broken = slice_set v.broken u.room.node.0 (Some u.device.faults); target = None } → BreaksOn now new
breaks_on g bytes v now new t u (Ok b) is goal clean bad puts cause sure becomes = absurd (both_ways true bad refl)
breaks_on g bytes v now new t u (Err e) is goal clean bad puts cause sure becomes =
    let rose : Rose t.device.faults u.device.faults = cause.failed in
    let some : 0 < length (take t.filled (column g.k g.block v.col bytes)) = elim (cases_lt 0 (length (take t.filled (column g.k g.block v.col bytes)))) [
      | inl more ↦ more
      | inr none ↦ absurd (both_ways false refl (puts.none (omega (arith, none))).0)
    ] in
    let node : u.room.node.0 ≡ t.room.node.0 = ap (λ (x : Target). x.room.node.0) (puts.same some) in
    subst (λ (x : Rebuilding). BreaksOn x new) is (record {
      t = t;
      goal = goal;
      count = u.device.faults;
      some = grind (arith, clean, rose);
      fails = λ never. both_ways false refl (sure never);
      becomes = becomes ∙ ap (λ (n : ℕ). record v { broken = slice_set v.broken n (Some u.device.faults); target = None }) node;
    })
