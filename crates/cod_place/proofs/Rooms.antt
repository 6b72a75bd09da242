-- Free bytes and the rooms that are out.
use Rattle.std.proofs.Common.{None, ◌≡◌, ◌≢◌, ℕ, ◌+◌, ◌-◌, ◌<◌, ◌≤◌, List, ◌∷◌, length, All, refl, sym, ap, ◌∙◌, subst, cond, Bool, eqb, eq-eqb, ne_eqb, arith, slice_index, slice_set, length-set}
use Rattle.std.proofs.Common.{get_or-set_same, get_or-set_other}
use Rattle.std.proofs.lemmas.List.Elements.{All-cons, All-head, All-tail}
use Rattle.std.proofs.lemmas.List.Sums.{sum_by-cons}
use mathlib.Core.Logic.{dite}
use native.Mathlib.Decide.{ℕ_discrete}
use Rattle.cod_place.specs.Room.{Room}
use Rattle.cod_place.specs.Rooms.{Store, AddUp, CameFrom, bytes_on, raised, TakingAddsUp, TrimmingAddsUp, GivingAddsUp}

abbrev pub part : ℕ → Room → ℕ
part node room = cond (eqb room.node.0 node) room.bytes 0

pub here : (room : Room) (rooms : List Room) → bytes_on room.node.0 (room ∷ rooms) ≡ room.bytes + bytes_on room.node.0 rooms
here room rooms =
    let e = sum_by-cons (part room.node.0) room rooms in
    let p : part room.node.0 room ≡ room.bytes = ap (λ (b : Bool). cond {A = ℕ} b room.bytes 0) (eq-eqb room.node.0 room.node.0 refl) in omega arith

pub elsewhere : (node : ℕ) (room : Room) (rooms : List Room) → node ≢ room.node.0 → bytes_on node (room ∷ rooms) ≡ bytes_on node rooms
elsewhere node room rooms other =
    let e = sum_by-cons (part node) room rooms in
    let p : part node room ≡ 0 = ap (λ (b : Bool). cond {A = ℕ} b room.bytes 0) (ne_eqb room.node.0 node (λ z. other (sym z))) in omega arith

abbrev Inside : List ℕ → List Room → Type 0
Inside free rooms = All (λ (room : Room). room.node.0 < length free) rooms

abbrev Plain : List Room → Type 0
Plain rooms = All (λ (room : Room). room.of ≡ None) rooms

still_inside : (free : List ℕ) (i v : ℕ) (rooms : List Room) → Inside free rooms → Inside (slice_set free i v) rooms
still_inside free i v rooms inside k d small = let l = length-set free i v in let old = inside k d small in omega arith

-- the free bytes of one node and the rooms there change by as much
add_up_changed : (store : Store) (i v : ℕ) (rooms others : List Room) → AddUp store rooms → i < length store.free → Inside store.free others
    → ((node : ℕ) → node ≢ i → bytes_on node others ≡ bytes_on node rooms)
    → v + bytes_on i others ≡ slice_index store.free i + bytes_on i rooms
    → AddUp record store { free = slice_set store.free i v } others
add_up_changed store i v rooms others adds there inside apart same = record {
  inside = still_inside store.free i v others inside;
  sums = λ node small.
      let l = length-set store.free i v in
      let small' : node < length store.free = omega arith in
      let old = adds.sums node small' in
      dite (ℕ_discrete node i)
      (λ is. subst (λ (z : ℕ). slice_index (slice_set store.free i v) z + bytes_on z others ≡ store.capacity) (sym is)
      (let s = get_or-set_same store.free i v 0 there in let o = adds.sums i there in omega arith))
      (λ other. let s = get_or-set_other store.free i node v 0 other in let a = apart node other in omega arith);
}

pub taking_adds_up : TakingAddsUp
taking_adds_up store rooms room adds there enough =
    add_up_changed store room.node.0 (slice_index store.free room.node.0 - room.bytes) rooms (room ∷ rooms) adds there
    (All-cons (λ (r : Room). r.node.0 < length store.free) room rooms there adds.inside)
    (λ node other. elsewhere node room rooms other)
    (let h = here room rooms in omega arith)

abbrev smaller : Room → ℕ → Room
smaller room bytes = record room { bytes = room.bytes - bytes }

pub trimming_adds_up : TrimmingAddsUp
trimming_adds_up store rooms room bytes adds within =
    let there = All-head (λ (r : Room). r.node.0 < length store.free) room rooms adds.inside in
    let rest = All-tail (λ (r : Room). r.node.0 < length store.free) room rooms adds.inside in
    add_up_changed store room.node.0 (slice_index store.free room.node.0 + bytes) (room ∷ rooms) (smaller room bytes ∷ rooms) adds there
    (All-cons (λ (r : Room). r.node.0 < length store.free) (smaller room bytes) rooms there rest)
    (λ node other. elsewhere node (smaller room bytes) rooms other ∙ sym (elsewhere node room rooms other))
    (let h = here room rooms in let s = here (smaller room bytes) rooms in omega arith)

pub giving_adds_up : GivingAddsUp
giving_adds_up store rooms room adds =
    let there = All-head (λ (r : Room). r.node.0 < length store.free) room rooms adds.inside in
    let rest = All-tail (λ (r : Room). r.node.0 < length store.free) room rooms adds.inside in
    add_up_changed store room.node.0 (slice_index store.free room.node.0 + room.bytes) (room ∷ rooms) rooms adds there rest
    (λ node other. sym (elsewhere node room rooms other))
    (let h = here room rooms in omega arith)

-- the free bytes of one node rise by at most what the rooms there lose
came_changed : (store : Store) (i bytes : ℕ) (rooms others : List Room) → CameFrom store rooms → i < length store.free → Inside store.free others → Plain others
    → ((node : ℕ) → node ≢ i → bytes_on node others ≡ bytes_on node rooms)
    → bytes + bytes_on i others ≡ bytes_on i rooms
    → CameFrom record store { free = raised i bytes store.free } others
came_changed store i bytes rooms others came there inside plain apart same =
    let v : ℕ = slice_index store.free i + bytes in
    record {
      inside = still_inside store.free i v others inside;
      plain = plain;
      within = λ node small.
          let l = length-set store.free i v in
          let small' : node < length store.free = omega arith in
          let old = came.within node small' in
          dite (ℕ_discrete node i)
          (λ is. subst (λ (z : ℕ). bytes_on z others ≤ store.capacity - slice_index (slice_set store.free i v) z) (sym is)
          (let s = get_or-set_same store.free i v 0 there in let o = came.within i there in omega arith))
          (λ other. let s = get_or-set_other store.free i node v 0 other in let a = apart node other in omega arith);
    }

pub came_trimmed : (store : Store) (rooms : List Room) (room : Room) (bytes : ℕ) → bytes ≤ room.bytes → CameFrom store (room ∷ rooms)
    → CameFrom record store { free = raised room.node.0 bytes store.free } (record room { bytes = room.bytes - bytes } ∷ rooms)
came_trimmed store rooms room bytes within came =
    let there = All-head (λ (r : Room). r.node.0 < length store.free) room rooms came.inside in
    let rest = All-tail (λ (r : Room). r.node.0 < length store.free) room rooms came.inside in
    came_changed store room.node.0 bytes (room ∷ rooms) (smaller room bytes ∷ rooms) came there
    (All-cons (λ (r : Room). r.node.0 < length store.free) (smaller room bytes) rooms there rest)
    (All-cons (λ (r : Room). r.of ≡ None) (smaller room bytes) rooms (All-head (λ (r : Room). r.of ≡ None) room rooms came.plain) (All-tail (λ (r : Room). r.of ≡ None) room rooms came.plain))
    (λ node other. elsewhere node (smaller room bytes) rooms other ∙ sym (elsewhere node room rooms other))
    (let h = here room rooms in let s = here (smaller room bytes) rooms in omega arith)

pub came_given : (store : Store) (rooms : List Room) (room : Room) → CameFrom store (room ∷ rooms) → CameFrom record store { free = raised room.node.0 room.bytes store.free } rooms
came_given store rooms room came =
    let there = All-head (λ (r : Room). r.node.0 < length store.free) room rooms came.inside in
    let rest = All-tail (λ (r : Room). r.node.0 < length store.free) room rooms came.inside in
    came_changed store room.node.0 room.bytes (room ∷ rooms) rooms came there rest (All-tail (λ (r : Room). r.of ≡ None) room rooms came.plain)
    (λ node other. sym (elsewhere node room rooms other))
    (let h = here room rooms in omega arith)
