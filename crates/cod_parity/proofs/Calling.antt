-- What the calls of a column do to its state.
use Rattle.std.proofs.Common.{◌≡◌, ℕ, ◌+◌, ◌-◌, ◌<◌, ◌≤◌, ◌^◌, List, [], ◌∷◌, ◌++◌, length, take, drop, set, min, get_or, Option, Some, None, Result, Ok, Err, refl, sym, ap, ap₂, ◌∙◌, subst, arith}
use Rattle.std.proofs.Common.{inr}
use Rattle.std.proofs.lemmas.Bool.{le-ltb, lt-ltb}
use Rattle.std.proofs.lemmas.List.{drop-drop}
use Rattle.std.specs.Result.{IsErr, MatchResult, OnOk}
use Rattle.std.specs.List.{filter, flat_map}
use Rattle.std.specs.Option.{option_map}
use Rattle.cod_types.specs.Faults.{bump}
use Rattle.cod_types.specs.Limits.{IsWithin}
use Rattle.cod_types.specs.Overwritten.{overwritten}
use Rattle.cod_record.specs.declared.parts.Head.{Head}
use Rattle.cod_record.specs.Record.{IsRecord}
use Rattle.cod_region.specs.Device.{Device, Torn}
use Rattle.cod_parity.specs.Log.{IsIn, is_past, Logged, logged, no_lowest, note, text}
use Rattle.cod_parity.specs.State.{cut_to, Means, State, was_read, was_written, with_base, with_record}
use Rattle.cod_parity.specs.Calls.{Appends, FailsMerge, FailsWrite, Merges}
use Rattle.cod_parity.proofs.Meaning.{record_means}
use Rattle.cod_parity.proofs.Spelled.{logged_in, logged_place}

pub match_err : {T E : Type 0} (r : Result T E) (P : T → Type 0) (Q : E → Type 0) → IsErr r → ((e : E) → Q e) → MatchResult r P Q
match_err (Ok x) P Q is q = let wrong : ⊥ = cc in absurd wrong
match_err (Err e) P Q is q = q e

pub under_ok : {T E P : Type 0} (r : Result T E) → ((x : T) → r ≡ Ok x → P) → OnOk r P
under_ok (Ok x) f = f x refl
under_ok (Err e) f = tt

pub ok_at : {T E P : Type 0} {r : Result T E} {x : T} → r ≡ Ok x → OnOk r P → P
ok_at {P = P} e on = subst (λ o. OnOk o P) e on

-- the region after a write
pub device_written : (d1 d2 : Device) (c : Option (List ℕ)) → d2 ≡ record d1 { content = d2.content; writes = bump d1.writes; faults = d2.faults }
    → d2.content ≡ c → d2.faults ≡ d1.faults → d2 ≡ record d1 { content = c; writes = bump d1.writes }
device_written d1 d2 c same content faults = same ∙ (λ i. record d1 { content = content i; writes = bump d1.writes; faults = faults i })

-- a record's text was written behind the log
pub appended : (s : State) (version : ℕ) (h : Head) (bytes into : List ℕ) (len at low more : ℕ) (d : Device)
    → IsWithin s.shape → 1 ≤ version → version ≤ 2 → h.block < s.shape.k → h.off + h.len ≤ s.shape.block → h.len ≡ length bytes
    → IsRecord version (logged version h bytes).whole (text (logged version h bytes))
    → len ≡ length (text (logged version h bytes)) → take len into ≡ text (logged version h bytes) → at ≡ s.shape.block + s.used
    → d ≡ record s.device { content = d.content; writes = bump s.device.writes; faults = d.faults } → d.faults ≡ s.device.faults
    → d.content ≡ option_map (overwritten at (take len into)) s.device.content
    → low ≡ min (get_or s.lowest h.block 0) h.number → more ≡ min (s.appended + len) (2 ^ 64 - 1)
    → Appends (logged version h bytes) s (record { shape = s.shape; size = s.size; used = s.used + len; appended = more; average = s.average; lowest = set s.lowest h.block low; device = d })
unfolding with_record note
appended s version h bytes into len at low more d within first last few inside len_is is long front at_is same faults content low_is more_is =
    let l : Logged = logged version h bytes in
    let place = logged_place version h bytes first last in
    let c : d.content ≡ option_map (overwritten (s.shape.block + s.used) (text l)) s.device.content =
    content ∙ ap (λ (b : List ℕ). option_map (overwritten at b) s.device.content) front ∙ ap (λ (n : ℕ). option_map (overwritten n (text l)) s.device.content) at_is in
    let dev : d ≡ was_written (s.shape.block + s.used) (text l) s.device = device_written s.device d _ same c faults in
    let used : s.used + len ≡ s.used + length (text l) = ap (λ (n : ℕ). s.used + n) long in
    let most : more ≡ min (s.appended + length (text l)) (2 ^ 64 - 1) = more_is ∙ ap (λ (n : ℕ). min (s.appended + n) (2 ^ 64 - 1)) long in
    let lowest : set s.lowest h.block low ≡ note s.lowest l =
    ap (λ (n : ℕ). set s.lowest h.block n) low_is
    ∙ ap₂ (λ (b n : ℕ). set s.lowest b (min (get_or s.lowest b 0) n)) (sym place.0) (sym place.1) in
    let new_is : record { shape = s.shape; size = s.size; used = s.used + len; appended = more; average = s.average; lowest = set s.lowest h.block low; device = d } ≡ with_record l s =
    λ i. record { shape = s.shape; size = s.size; used = used i; appended = most i; average = s.average; lowest = lowest i; device = dev i } in
    let is_in : IsIn s.shape l = logged_in s.shape version h bytes first last few (omega (arith, inside, len_is)) is in
    record {
      is = new_is;
      means = λ base records means. subst (λ (t : State). Means t base (records ++ l ∷ [])) (sym new_is) (record_means s l base records is_in means);
    }

-- the write of a record failed
pub not_appended : (s : State) (off n at m : ℕ) (d : Device) → at ≡ off → m ≡ n
    → d ≡ record s.device { content = d.content; writes = bump s.device.writes; faults = d.faults } → Torn at m s.device.content d.content
    → FailsWrite off n s (record s { device = d })
not_appended s off n at m d at_is m_is same torn = record {
  same = λ i. record s { device = same i };
  torn = subst (λ (k : ℕ). Torn off k s.device.content d.content) m_is (subst (λ (o : ℕ). Torn o m s.device.content d.content) at_is torn);
}

-- the region after a read
pub device_read : (d0 d1 : Device) → d1 ≡ record d0 { reads = bump d0.reads; faults = d1.faults } → d1.faults ≡ d0.faults → d1 ≡ was_read d0
device_read d0 d1 same faults = same ∙ (λ i. record d0 { reads = bump d0.reads; faults = faults i })

torn_more : (off m n : ℕ) (o p : Option (List ℕ)) → m ≤ n → Torn off m o p → Torn off n o p
torn_more off m n None None le torn = tt
torn_more off m n None (Some b) le torn = absurd torn
torn_more off m n (Some a) None le torn = absurd torn
torn_more off m n (Some a) (Some b) le torn =
    let e : off + m + (n - m) ≡ off + n = omega arith in
    record {
      size = torn.size;
      before = torn.before;
      after = ap (λ (k : ℕ). drop k b) (sym e) ∙ sym (drop-drop (n - m) (off + m) b) ∙ ap (drop (n - m)) torn.after ∙ drop-drop (n - m) (off + m) a ∙ ap (λ (k : ℕ). drop k a) e;
    }

-- the write of a merge failed
pub write_failed : (s : State) (d1 d2 : Device) (m : ℕ) → d1 ≡ record s.device { reads = bump s.device.reads; faults = d1.faults } → d1.faults ≡ s.device.faults
    → d2 ≡ record d1 { content = d2.content; writes = bump d1.writes; faults = d2.faults } → Torn 0 m d1.content d2.content → m ≤ s.shape.block + s.used
    → FailsMerge s (record s { device = d2 })
write_failed s d1 d2 m same1 kept1 same2 torn le =
    let d : d1 ≡ was_read s.device = device_read s.device d1 same1 kept1 in
    inr (record {
      same = λ i. record s { device = (same2 ∙ ap (λ (e : Device). record e { content = d2.content; writes = bump e.writes; faults = d2.faults }) d) i };
      torn = torn_more 0 m (s.shape.block + s.used) s.device.content d2.content le (subst (λ (e : Device). Torn 0 m e.content d2.content) d torn);
    })

-- the state that a merge leaves
pub merged_same : (s : State) (d1 d2 : Device) (kept : ℕ) (low : List ℕ) → d1 ≡ record s.device { reads = bump s.device.reads; faults = d1.faults } → d1.faults ≡ s.device.faults
    → d2 ≡ record d1 { content = d2.content; writes = bump d1.writes; faults = d2.faults } → d2.faults ≡ d1.faults
    → record s { used = kept; lowest = low; device = d2 } ≡ record s { used = kept; lowest = low; device = record (was_read s.device) { content = d2.content; writes = bump s.device.writes } }
merged_same s d1 d2 kept low same1 kept1 same2 kept2 =
    let d : d1 ≡ was_read s.device = device_read s.device d1 same1 kept1 in
    let e : d2 ≡ record (was_read s.device) { content = d2.content; writes = bump s.device.writes } =
    device_written d1 d2 d2.content same2 refl kept2 ∙ ap (λ (e : Device). record e { content = d2.content; writes = bump e.writes }) d in
    λ i. record s { used = kept; lowest = low; device = e i }

-- a merge, and then less use
pub roomy : (cuts : List ℕ) (s mid : State) (len n : ℕ) → Merges cuts s mid → n ≡ min mid.used (mid.size - len)
    → ((base : List ℕ) (records : List Logged) → Means s base records → length (flat_map text (filter (is_past cuts) records)) + len ≤ s.size)
    → Merges cuts s (record mid { used = n })
roomy cuts s mid len n m is room = record {
  means = λ base records means.
      let done = m.means base records means in
      let size : mid.size ≡ s.size = ap (λ (t : State). t.size) m.same in
      let fits = room base records means in
      let e : mid.used ≡ n = omega (arith, done.1.used, size, fits, is) in
      (done.0, subst (λ (k : ℕ). Means (record mid { used = k }) done.0 (filter (is_past cuts) records)) e done.1, done.2);
  less = omega (arith, is, m.less);
  none_due = m.none_due;
  same = ap (λ (t : State). record t { used = n }) m.same;
}

pub cut_some : (s : State) (size : ℕ) → size < s.size
    → cut_to size s ≡ record s { size = size; used = min s.used size; device = record s.device { size = s.shape.block + size; content = option_map (take (s.shape.block + size)) s.device.content } }
unfolding cut_to
cut_some s size less = rw (lt-ltb size s.size less) refl

pub cut_none : (s : State) (size : ℕ) → s.size ≤ size → cut_to size s ≡ s
unfolding cut_to
cut_none s size more = rw (le-ltb size s.size more) refl

pub device_cut : (d0 d1 : Device) (n : ℕ) (c : Option (List ℕ)) → d1 ≡ record d0 { size = d1.size; content = d1.content; faults = d1.faults } → d1.size ≡ n → d1.content ≡ c → d1.faults ≡ d0.faults
    → d1 ≡ record d0 { size = n; content = c }
device_cut d0 d1 n c same size content faults = same ∙ (λ i. record d0 { size = size i; content = content i; faults = faults i })

pub cut_done : (s : State) (size at used : ℕ) (d : Device) → size < s.size → at ≡ s.shape.block + size → used ≡ min s.used size
    → d ≡ record s.device { size = d.size; content = d.content; faults = d.faults } → d.size ≡ at → d.content ≡ option_map (take at) s.device.content → d.faults ≡ s.device.faults
    → record s { size = size; used = used; device = d } ≡ cut_to size s
cut_done s size at used d less at_is used_is same long content faults =
    let e = device_cut s.device d (s.shape.block + size) (option_map (take (s.shape.block + size)) s.device.content) same (long ∙ at_is)
    (content ∙ ap (λ (n : ℕ). option_map (take n) s.device.content) at_is) faults in
    (λ i. record s { size = size; used = used_is i; device = e i }) ∙ sym (cut_some s size less)

-- another base was written
pub put_done : (s : State) (base : List ℕ) (d : Device) → d ≡ record s.device { content = d.content; writes = bump s.device.writes; faults = d.faults }
    → d.content ≡ option_map (overwritten 0 base) s.device.content → d.faults ≡ s.device.faults
    → record s { used = 0; lowest = no_lowest; device = d } ≡ with_base base s
unfolding with_base
put_done s base d same content faults = λ i. record s { used = 0; lowest = no_lowest; device = device_written s.device d _ same content faults i }

pub under_any : {T E P : Type 0} (r : Result T E) → P → OnOk r P
under_any (Ok x) p = p
under_any (Err e) p = tt
