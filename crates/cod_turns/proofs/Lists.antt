-- Lists of lines and of entries, one longer.
use Rattle.std.proofs.Common.{◌≡◌, ◌≢◌, ℕ, zero, suc, ◌+◌, ◌-◌, ◌≤◌, Option, Some, None, List, [], ◌∷◌, ◌++◌, length, take, map, set, refl, sym, ap, ◌∙◌, inl, inr, arith}
use Rattle.std.specs.Prelude.{slice_get}
use Rattle.std.specs.List.{AllByRecursion, cons_option, Contains, range_with_len}
use Rattle.std.proofs.lemmas.Bool.{ne_eqb}
use Rattle.std.proofs.lemmas.List.{append-nil, append_assoc, map-append, take_at, length_push}
use Rattle.std.proofs.lemmas.List.Elements.{filter_map-append, Contains-append_left, Contains-append_right, Contains-append_cases}
use Rattle.cod_types.specs.declared.call.NodeId.{NodeId}
use Rattle.cod_types.specs.declared.call.SegId.{SegId}
use Rattle.cod_types.specs.declared.call.Call.{Call as Asked}
use Rattle.cod_chronicle.specs.declared.entry.Entry.{Entry}
use Rattle.cod_chronicle.specs.Said.{Site}
use Rattle.cod_chronicle.specs.Order.{Placed, stamp_at}
use Rattle.cod_chronicle.specs.Whole.{HasStamp}
use Rattle.cod_chronicle.proofs.Orders.{Each-append, Each-left, Each-right}
use Rattle.cod_script.specs.declared.line.Line.{Line}
use Rattle.cod_script.specs.declared.line.What.{What}
use Rattle.cod_script.specs.declared.line.What.TheVariants.{Segment, Fail}
use Rattle.cod_script.specs.Script.{Script, Ask, ask_of, asks}
use Rattle.cod_script.specs.Owed.{SeesFails, SeesFailsAfter, failed_ahead, failed_with}

module _ {X : Type 0} where
  pub slice_get-set_same : (xs : List X) (i : ℕ) (x y : X) → slice_get xs i ≡ Some y → slice_get (set xs i x) i ≡ Some x
  slice_get-set_same [] i x y h = cc
  slice_get-set_same (z ∷ xs) zero x y h = refl
  slice_get-set_same (z ∷ xs) (suc i) x y h = slice_get-set_same xs i x y h

  pub slice_get-set_other : (xs : List X) (i j : ℕ) (x : X) → j ≢ i → slice_get (set xs i x) j ≡ slice_get xs j
  slice_get-set_other [] i j x h = refl
  slice_get-set_other (z ∷ xs) zero zero x h = absurd (h refl)
  slice_get-set_other (z ∷ xs) zero (suc j) x h = refl
  slice_get-set_other (z ∷ xs) (suc i) zero x h = refl
  slice_get-set_other (z ∷ xs) (suc i) (suc j) x h = slice_get-set_other xs i j x (λ e. h (ap suc e))

  pub slice_get_at : (xs : List X) (y : X) (ys : List X) → slice_get (xs ++ y ∷ ys) (length xs) ≡ Some y
  slice_get_at [] y ys = refl
  slice_get_at (x ∷ xs) y ys = slice_get_at xs y ys

  -- what stands at one place is one thing
  pub one_at : (xs ys xs' ys' : List X) (y y' : X) → xs ++ y ∷ ys ≡ xs' ++ y' ∷ ys' → length xs ≡ length xs' → y ≡ y'
  one_at xs ys xs' ys' y y' e l =
      let a = slice_get_at xs y ys in
      let b = slice_get_at xs' y' ys' in
      cc (a, b, e, l)

  pub Each-insert : (P : X → Type 0) (xs ys : List X) (y : X) → AllByRecursion P (xs ++ ys) → P y → AllByRecursion P (xs ++ y ∷ ys)
  Each-insert P xs ys y a b = Each-append P xs (y ∷ ys) (Each-left P xs ys a) (b, Each-right P xs ys a)

  pub Each-without : (P : X → Type 0) (xs ys : List X) (y : X) → AllByRecursion P (xs ++ y ∷ ys) → AllByRecursion P (xs ++ ys)
  Each-without P xs ys y a = let r = Each-right P xs (y ∷ ys) a in Each-append P xs ys (Each-left P xs (y ∷ ys) a) r.1

  pub length-insert : (xs ys : List X) (y : X) → length (xs ++ y ∷ ys) ≡ length (xs ++ ys) + 1
  length-insert [] ys y = omega arith
  length-insert (x ∷ xs) ys y = let h = length-insert xs ys y in omega arith

  pub take_front : (ls xs ys : List X) (y : X) (n : ℕ) → ls ≡ xs ++ y ∷ ys → length xs ≡ n → take n ls ≡ xs
  take_front ls xs ys y n e l = ap (take n) e ∙ take_at xs (y ∷ ys) n l

  pub take_front_more : (ls xs ys : List X) (y : X) (n : ℕ) → ls ≡ xs ++ y ∷ ys → length xs ≡ n → take (n + 1) ls ≡ xs ++ y ∷ []
  take_front_more ls xs ys y n e l =
      ap (take (n + 1)) (e ∙ sym (append_assoc xs (y ∷ []) ys)) ∙ take_at (xs ++ y ∷ []) ys (n + 1) (length_push xs y ∙ ap (λ (m : ℕ). m + 1) l)

pub has_more : (xs ys : List Placed) (p : Placed) (t : ℕ) → HasStamp (xs ++ ys) t → HasStamp (xs ++ p ∷ ys) t
has_more xs ys p t h =
    let c : Contains (map stamp_at xs ++ map stamp_at ys) t = rw (map-append stamp_at xs ys) at h in
    let goal : Contains (map stamp_at xs ++ stamp_at p ∷ map stamp_at ys) t =
    elim (Contains-append_cases (map stamp_at xs) (map stamp_at ys) t c) [
      | inl a ↦ Contains-append_left (map stamp_at xs) (stamp_at p ∷ map stamp_at ys) t a
      | inr b ↦ Contains-append_right (map stamp_at xs) (stamp_at p ∷ map stamp_at ys) t (Contains-append_right (stamp_at p ∷ []) (map stamp_at ys) t b)
    ] in
    rw (map-append stamp_at xs (p ∷ ys)) goal

pub has_new : (xs ys : List Placed) (p : Placed) → HasStamp (xs ++ p ∷ ys) (stamp_at p)
has_new xs ys p = rw (map-append stamp_at xs (p ∷ ys)) (Contains-append_right (map stamp_at xs) (stamp_at p ∷ map stamp_at ys) (stamp_at p) (0, omega arith, refl))

pub sees_push : (x : Script) (site : Site) (before h : List Entry) (e : Entry) → SeesFailsAfter x site before h → SeesFails x site (before ++ h) e → SeesFailsAfter x site before (h ++ e ∷ [])
sees_push x site before [] e a b = (let n = append-nil before in rw n at b, tt)
sees_push x site before (f ∷ h) e a b = (a.0, sees_push x site (before ++ f ∷ []) h e a.1 (let n = append_assoc before (f ∷ []) h in rw (← n) at b))

pub range_push : (a n : ℕ) → range_with_len a (n + 1) ≡ range_with_len a n ++ (a + n) ∷ []
range_push a zero = let z : a + 0 ≡ a = omega arith in rw z refl
range_push a (suc n) =
    let o : suc n + 1 ≡ suc (n + 1) = omega arith in
    let z : a + 1 + n ≡ a + suc n = omega arith in
    rw o (ap (λ (l : List ℕ). a ∷ l) (range_push (a + 1) n ∙ ap (λ (m : ℕ). range_with_len (a + 1) n ++ m ∷ []) z))

-- calls ahead of a line that stands earlier
pub asks_mono : (xs ys xs' ys' : List Line) (y y' : Line) → xs ++ y ∷ ys ≡ xs' ++ y' ∷ ys' → length xs ≤ length xs' → length (asks xs) ≤ length (asks xs')
asks_mono [] ys xs' ys' y y' e l = omega arith
asks_mono (x ∷ xs) ys [] ys' y y' e l = absurd (omega arith)
asks_mono (x ∷ xs) ys (x' ∷ xs') ys' y y' e l =
    let same : x ≡ x' = cc in
    let more : xs ++ y ∷ ys ≡ xs' ++ y' ∷ ys' = cc in
    let h = asks_mono xs ys xs' ys' y y' more (omega arith) in
    rw same (longer (ask_of x'.what) (asks xs) (asks xs') h) where
      longer : (o : Option Ask) (a b : List Ask) → length a ≤ length b → length (cons_option o a) ≤ length (cons_option o b)
      longer None a b h = h
      longer (Some k) a b h = omega arith

pub asks_push : (xs : List Line) (line : ℕ) (w : What) → asks (xs ++ (record { line = line; what = w }) ∷ []) ≡ asks xs ++ cons_option (ask_of w) []
asks_push xs line w = filter_map-append (λ l. ask_of l.what) xs ((record { line = line; what = w }) ∷ [])

-- the nodes that fail ahead of a call are those of the `fail` lines ahead of it
pub ahead : (P : ℕ → Type 0) (front rest : List Line) (line : ℕ) (seg : SegId) (call : Asked)
    → ((a b : List Line) (l : ℕ) (y : NodeId) → front ≡ a ++ (record { line = l; what = Fail y }) ∷ b → P y.0)
    → AllByRecursion P (failed_ahead (front ++ (record { line = line; what = Segment seg call }) ∷ rest) (length (asks front)))
ahead P [] rest line seg call h = tt
ahead P (f ∷ front) rest line seg call h =
    by f.what refl (ahead P front rest line seg call (λ a b l y e. h (f ∷ a) b l y (ap (λ (k : List Line). f ∷ k) e))) where
      skip : (r : ℕ → List ℕ) (s : SegId) (c : Asked) (n : ℕ) → failed_with (Segment s c) r (suc n) ≡ r n
      skip r s c n = let e : suc n - 1 ≡ n = omega arith in rw (ne_eqb (suc n) 0 (λ z. absurd (omega arith))) (ap r e)

      by : (w : What) → f.what ≡ w → AllByRecursion P (failed_ahead (front ++ (record { line = line; what = Segment seg call }) ∷ rest) (length (asks front)))
          → AllByRecursion P (failed_with f.what (failed_ahead (front ++ (record { line = line; what = Segment seg call }) ∷ rest)) (length (cons_option (ask_of f.what) (asks front))))
      by (Fail y) e r = rw e (h [] front f.line y (ap (λ (w : What). (let k : Line = record { line = f.line; what = w } in k) ∷ front) e), r)
      by (Segment s c) e r = rw e (rw (skip (failed_ahead (front ++ (record { line = line; what = Segment seg call }) ∷ rest)) s c (length (asks front))) r)
