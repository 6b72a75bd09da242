-- Columns that stay down, and the work of two parts of an event.
use Rattle.std.proofs.Common.{◌≡◌, inl, inr, ℕ, ◌+◌, ◌-◌, ◌<◌, ◌≤◌, Bool, true, false, cond, Option, List, [], ◌∷◌, ◌++◌, refl, sym, ap, ◌∙◌, subst, arith}
use Rattle.std.specs.Prelude.{◌==◌, not, is_some}
use Rattle.std.specs.List.{AllByRecursion}
use Rattle.std.proofs.Math.Nat.{mul-le-mul_right}
use Rattle.std.proofs.lemmas.Bool.{cases_lt, false≢true}
use Rattle.std.proofs.lemmas.List.{append-nil, append_assoc, get_or_past}
use Rattle.cod_chronicle.specs.declared.entry.Entry.{Entry}
use Rattle.cod_chronicle.specs.declared.entry.Entry.TheVariants.{Call, Down, Up, Move}
use Rattle.cod_chronicle.specs.Event.{Kills, Request, Setting}
use Rattle.cod_chronicle.specs.Said.{down_next, is_down, Site}
use Rattle.cod_chronicle.proofs.Growth.{is_down-push}
use Rattle.cod_claims.specs.declared.claim.Claim.{Claim}
use Rattle.cod_claims.specs.Claimed.{claim_at}
use Rattle.cod_seg.specs.Next.{open_in, open_of}
use Rattle.cod_seg.specs.Seg.{Col, col_at, no_col, Rebuilding, Seg}
use Rattle.cod_seg.specs.Sound.{Sound}
use Rattle.cod_segment.specs.Exact.{IsStaying}
use Rattle.cod_turns.specs.Progress.{GoesOn, idle_weight, most_todo, Progress, total, work_of}
use Rattle.cod_turns.proofs.Progressing.{total_has_bound, work_has_bound}
use Rattle.cod_advance.specs.Work.{count_of, is_free, is_to_apply, is_to_note, left_of, pieces_in, progress_of, to_do_for, WorkIsBounded}
use Rattle.cod_advance.proofs.Bringing.{left_most}
use Rattle.cod_advance.proofs.Counting.{count_most, not_false, not_true, one_most}
use Rattle.cod_advance.proofs.Easing.{NoneRises}
use Rattle.cod_advance.proofs.Serving.{IsMade}
use Rattle.cod_advance.proofs.Staying.{staying}

-- ---- columns

down_kept : (i : ℕ) (e : Entry) → IsStaying e → down_next i true e ≡ true
down_kept i (Call caller number stamp call reply) is = refl
down_kept i (Down stamp col node cause) is = by (col == i) where
  by : (b : Bool) → cond b true true ≡ true
  by true = refl
  by false = refl
down_kept i (Up stamp col node) is = absurd is
down_kept i (Move stamp col node) is = absurd is

-- a column that is down stays down while none comes up
stays_down : (h es : List Entry) (i : ℕ) → AllByRecursion IsStaying es → is_down h i ≡ true → is_down (h ++ es) i ≡ true
stays_down h [] i all is = ap (λ (l : List Entry). is_down l i) (append-nil h) ∙ is
stays_down h (e ∷ es) i all is =
    let here : is_down (h ++ e ∷ []) i ≡ true = is_down-push h e i ∙ ap (λ (b : Bool). down_next i b e) is ∙ down_kept i e all.0 in
    ap (λ (l : List Entry). is_down l i) (sym (append_assoc h (e ∷ []) es)) ∙ stays_down (h ++ e ∷ []) es i all.1 here

-- a column that is up is one of the segment's
pub up_inside : (s : Seg) (i : ℕ) → Sound s → (col_at s.cols i).is_up ≡ true → i < s.site.shape.n
up_inside s i sound up = elim (cases_lt i s.site.shape.n) [
  | inl lt ↦ lt
  | inr ge ↦
      let size = sound.columns.size in
      let past : col_at s.cols i ≡ no_col = get_or_past s.cols i no_col (omega (arith, size, ge)) in
      absurd (false≢true (sym (ap (λ (c : Col). c.is_up) past) ∙ up))
]

pub none_rises : (s u : Seg) (es : List Entry) → Sound s → Sound u → u.site ≡ s.site → u.log ≡ s.log ++ es → AllByRecursion IsStaying es → NoneRises s.cols u.cols
none_rises s u es sound after site grown all i up =
    let below : i < u.site.shape.n = up_inside u i after up in
    let inside : i < s.site.shape.n = subst (λ (q : Site). i < q.shape.n) site below in
    let live : is_down u.log i ≡ false = not_true (is_down u.log i) (sym (after.columns.each i below).up ∙ up) in
    let was : is_down s.log i ≡ false = by (is_down s.log i) refl in
    (sound.columns.each i inside).up ∙ not_false (is_down s.log i) was where
      by : (b : Bool) → is_down s.log i ≡ b → is_down s.log i ≡ false
      by false e = e
      by true e =
          let down : is_down u.log i ≡ true = ap (λ (l : List Entry). is_down l i) grown ∙ stays_down s.log es i all e in
          let live : is_down u.log i ≡ false = not_true (is_down u.log i) (sym (after.columns.each i (up_inside u i after up)).up ∙ up) in
          absurd (false≢true (sym live ∙ down))

-- steps that don't answer bring no column up
pub made_falls : (w : Setting) (r : Request) (t after : ℕ) (s u : Seg) → Sound s → IsMade w r t after false s u → NoneRises s.cols u.cols
made_falls w r t after s u sound m =
    let g = m.grows in
    none_rises s u g.entries sound m.sound m.site g.grown (staying w r w.site s.log g.entries false (λ a e f. absurd (false≢true f)) g.adds.tells g.adds.legal)

-- ---- numbers

abbrev pub shown : (kills : Kills) (clients : ℕ) → Site → List Col → List (Option Claim) → Option Rebuilding → Progress
shown kills clients site cols claims rebuild = record {
  live = count_of (λ i. (col_at cols i).is_up) site.shape.n;
  idle = count_of (λ c. not (is_some (open_of c claims rebuild))) clients;
  todo = total (to_do_for site.shape.k site.shape.n cols claims) 16;
  free = count_of (is_free kills rebuild) site.nodes;
  left = left_of kills site.shape.block rebuild;
}

-- nothing gets more
pub record NoMore (p q : Progress) : Type 0 where
  pub live : q.live ≤ p.live
  pub idle : q.idle ≤ p.idle
  pub todo : q.todo ≤ p.todo
  pub free : q.free ≤ p.free
  pub left : q.left ≤ p.left

pub goes_on_after : (pieces : ℕ) (p m q : Progress) → NoMore p m → GoesOn pieces m q → GoesOn pieces p q
goes_on_after pieces p m q n g =
    let live = n.live in
    let idle = n.idle in
    let todo = n.todo in
    let free = n.free in
    let left = n.left in
    record {
      live = (let x = g.live in omega (arith, live, x));
      idle = (let x = g.idle in omega (arith, idle, x));
      free = (let x = g.free in omega (arith, free, x));
      todo = elim g.todo [ inl x ↦ inl (omega (arith, todo, x)) | inr x ↦ inr (omega (arith, idle, x)) ];
      left = elim g.left [ inl x ↦ inl (omega (arith, left, x)) | inr y ↦ elim y [ inl x ↦ inr (inl (omega (arith, idle, x))) | inr x ↦ inr (inr (omega (arith, free, x))) ] ];
      most_to_do = g.most_to_do;
      most_left = g.most_left;
      some = elim g.some [
        | inl x ↦ inl (omega (arith, live, x))
        | inr y ↦ elim y [
          | inl x ↦ inr (inl (omega (arith, idle, x)))
          | inr z ↦ elim z [
            | inl x ↦ inr (inr (inl (omega (arith, todo, x))))
            | inr v ↦ elim v [ inl x ↦ inr (inr (inr (inl (omega (arith, free, x))))) | inr x ↦ inr (inr (inr (inr (omega (arith, left, x))))) ]
          ]
        ]
      ];
    }

pub no_more_work : (pieces : ℕ) (p q : Progress) → NoMore p q → work_of pieces q ≤ work_of pieces p
no_more_work pieces p q n =
    let a = mul-le-mul_right (idle_weight pieces) n.idle in
    let b = mul-le-mul_right (pieces + 2) n.free in
    let live = n.live in
    let todo = n.todo in
    let left = n.left in
    omega (arith, a, b, live, todo, left)

-- ---- bounds

to_do_most : (k n : ℕ) (cols : List Col) (claims : List (Option Claim)) (j : ℕ) → n - k ≤ 16 → to_do_for k n cols claims j ≤ 17
to_do_most k n cols claims j few =
    let a = one_most (is_to_apply (col_at cols j) (claim_at claims j)) in
    let b = count_most (λ i. is_to_note cols (claim_at claims j) (k + i)) (n - k) in
    omega (arith, a, b, few)

pub todo_most : (k n : ℕ) (cols : List Col) (claims : List (Option Claim)) → n ≤ 16 → total (to_do_for k n cols claims) 16 ≤ most_todo
todo_most k n cols claims few = total_has_bound (to_do_for k n cols claims) 17 16 (λ j lt. to_do_most k n cols claims j (omega (arith, few)))

pub work_is_bounded : WorkIsBounded
work_is_bounded kills clients s sound =
    let g = s.site.shape in
    work_has_bound (pieces_in g.block) g.n clients s.site.nodes (progress_of kills clients s) (count_most (λ i. (col_at s.cols i).is_up) g.n)
    (count_most (λ c. not (is_some (open_in s c))) clients) (todo_most g.k g.n s.cols s.claims sound.shape.most_columns) (count_most (is_free kills s.rebuild) s.site.nodes)
    (left_most kills g.block s.rebuild)
