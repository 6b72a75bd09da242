-- What a reader keeps beside the lines that it has read.
use Rattle.std.specs.Prelude.{◌≡◌, ℕ, zero, suc, ◌≤◌, ◌<◌, ◌+◌, ◌-◌, ◌^◌, min, List, [], ◌∷◌, ◌++◌, length, replicate, slice_index}
use Rattle.std.specs.Prelude.{true, false, nat_lt, if◌then◌else◌, Option, Some, None}
use Rattle.std.specs.List.{All, AllByRecursion, list_any}
use Rattle.std.specs.Str.{bytes_eq}
use Rattle.cod_words.specs.Words.{is_name}
use Rattle.cod_script.specs.Room.{taken_on}
use Rattle.cod_script.specs.Script.{Body, Client}
use Rattle.cod_script.specs.Sound.{AllDiffer, IsThere, IsDated, IsClient, IsDatedClient, NumbersRise, line_count, line_numbers}
use Rattle.cod_script.specs.Weight.{weight}
use Rattle.cod_scenario.specs.declared.said.Said.TheVariants as said
use Rattle.cod_scenario.specs.declared.said.Said.{Said}
use Rattle.cod_scenario.specs.declared.said.Header.{Header}
use Rattle.cod_scenario.specs.Judge.{is_placed, last_of}
use Rattle.cod_scenario.specs.Lines.{client_names, header_of, body_of, no_body, segments_of, clients_of, weight_of, noted, shape_of, script_with, bytes_of}
use Rattle.cod_scenario.specs.Lines.{floor_of}

-- ---- the order of the lines

-- how many lines of the header have come when this line is the last
abbrev pub place_of : Option Said → ℕ
place_of None = 0
place_of (Some (said.Codfs v)) = 1
place_of (Some (said.Nodes nodes capacity)) = 2
place_of (Some (said.Code n k)) = 3
place_of (Some (said.Block b)) = 4
place_of (Some (said.Update u)) = 5
place_of (Some (said.Reserve r)) = 6
place_of (Some (said.Unit x)) = 7
place_of (Some _) = 8

-- how many lines of the header have to come before this one
abbrev pub rank_of : Said → ℕ
rank_of (said.Codfs v) = 0
rank_of (said.Nodes nodes capacity) = 1
rank_of (said.Code n k) = 2
rank_of (said.Block b) = 3
rank_of (said.Update u) = 4
rank_of (said.Reserve r) = 5
rank_of (said.Unit x) = 6
rank_of (said.Alpha a) = 7
rank_of _ = 8

-- there is a segment where clients may come, and a client where its lines may come
abbrev pub HasSome : Option Said → Body → Type 0
HasSome (Some (said.Segment name)) p = 1 ≤ length p.segments
HasSome (Some (said.Client name)) p = (1 ≤ length p.segments) × (1 ≤ length p.clients)
HasSome (Some (said.Does line what)) p = (1 ≤ length p.segments) × (1 ≤ length p.clients)
HasSome (Some (said.Care workers rounds)) p = (1 ≤ length p.segments) × (1 ≤ length p.clients)
HasSome (Some (said.Schedule turns)) p = (1 ≤ length p.segments) × (1 ≤ length p.clients)
HasSome (Some said.End) p = (1 ≤ length p.segments) × (1 ≤ length p.clients)
HasSome _ p = Unit {0}

-- what has to be there before this line
abbrev pub Needs : Said → Body → Type 0
Needs (said.Client name) p = 1 ≤ length p.segments
Needs (said.Does line what) p = (1 ≤ length p.segments) × (1 ≤ length p.clients)
Needs (said.Care workers rounds) p = (1 ≤ length p.segments) × (1 ≤ length p.clients)
Needs (said.Schedule turns) p = (1 ≤ length p.segments) × (1 ≤ length p.clients)
Needs said.End p = (1 ≤ length p.segments) × (1 ≤ length p.clients)
Needs _ p = Unit {0}

-- ---- what the words of an accepted line give

abbrev pub IsFresh : List (List ℕ) → List (List ℕ) → Said → Type 0
IsFresh segments clients (said.Segment name) = (list_any (bytes_eq name) segments ≡ false) × (length segments < 1024)
IsFresh segments clients (said.Client name) = (list_any (bytes_eq name) clients ≡ false) × (length clients < 64)
IsFresh segments clients _ = Unit {0}

abbrev pub IsGood : Header → (segments clients : ℕ) → Said → Type 0
IsGood h segments clients (said.Codfs v) = (1 ≤ v) × (v ≤ 2)
IsGood h segments clients (said.Nodes nodes capacity) = (1 ≤ nodes) × (nodes ≤ 64) × (1 ≤ capacity)
IsGood h segments clients (said.Code n k) = (1 ≤ n) × (n ≤ 16) × (n ≤ h.nodes) × (1 ≤ k) × (k ≤ n)
IsGood h segments clients (said.Block b) = (1 ≤ b) × (b ≤ 1048576)
IsGood h segments clients (said.Update u) = (1 ≤ u) × (u ≤ bytes_of h) × (u ≤ 65536)
IsGood h segments clients (said.Reserve r) = (floor_of h ≤ r) × (r ≤ 4194304)
IsGood h segments clients (said.Unit x) = (1 ≤ x) × (x ≤ h.reserve)
IsGood h segments clients (said.Alpha a) = a ≤ 10000
IsGood h segments clients (said.Segment name) = is_name name ≡ true
IsGood h segments clients (said.Client name) = is_name name ≡ true
IsGood h segments clients (said.Does line what) = (1 ≤ line) × IsThere h.nodes segments what × IsDated h.version what
IsGood h segments clients (said.Care workers rounds) = (workers ≤ 16) × (rounds ≤ 65536)
IsGood h segments clients (said.Schedule turns) = All (λ turn. turn < clients) turns
IsGood h segments clients said.End = Unit {0}

-- all lines of clients have smaller numbers than this
abbrev pub AreBefore : (line : ℕ) → List Client → Type 0
AreBefore line clients = AllByRecursion (λ m. m < line) (line_numbers clients)

-- a client's line has this number
abbrev pub IsNumbered : (line : ℕ) → Said → Type 0
IsNumbered line (said.Does number what) = number ≡ line
IsNumbered line _ = Unit {0}

-- the number of a client's line is greater than all before it
abbrev pub IsLater : List Client → Said → Type 0
IsLater clients (said.Does line what) = AreBefore line clients
IsLater clients _ = Unit {0}

-- a line that may stand after these, and whose words are good
pub record Accepts (before : List Said) (s : Said) : Type 0 where
  pub order : place_of (last_of before) ≡ rank_of s
  pub needs : HasSome (last_of before) (body_of before) → Needs s (body_of before)
  pub fresh : IsFresh (segments_of before) (clients_of before) s
  pub good : IsGood (header_of before) (length (segments_of before)) (length (clients_of before)) s
  pub later : IsLater (body_of before).clients s

-- a line that is accepted, with this number
pub record IsSaidAt (line : ℕ) (before : List Said) (s : Said) : Type 0 where
  pub accepts : Accepts before s
  pub numbered : IsNumbered line s

-- and whose weight and room can be had
pub record IsCarried (before : List Said) (s : Said) : Type 0 where
  pub light : weight_of (before ++ s ∷ []) ≤ 268435456
  pub placed : is_placed before s ≡ true

-- ---- what is known of the lines that were accepted

abbrev pub Versioned : Header → Type 0
Versioned h = (1 ≤ h.version) × (h.version ≤ 2)

abbrev pub Noded : Header → Type 0
Noded h = Versioned h × (1 ≤ h.nodes) × (h.nodes ≤ 64) × (1 ≤ h.capacity)

abbrev pub Coded : Header → Type 0
Coded h = Noded h × (1 ≤ h.n) × (h.n ≤ 16) × (h.n ≤ h.nodes) × (1 ≤ h.k) × (h.k ≤ h.n)

abbrev pub Blocked : Header → Type 0
Blocked h = Coded h × (1 ≤ h.block) × (h.block ≤ 1048576)

abbrev pub Updated : Header → Type 0
Updated h = Blocked h × (1 ≤ h.update) × (h.update ≤ bytes_of h) × (h.update ≤ 65536)

abbrev pub Reserved : Header → Type 0
Reserved h = Updated h × (floor_of h ≤ h.reserve) × (h.reserve ≤ 4194304)

abbrev pub United : Header → Type 0
United h = Reserved h × (1 ≤ h.unit) × (h.unit ≤ h.reserve)

abbrev pub Ended : Header → Type 0
Ended h = United h × (h.alpha ≤ 10000)

-- what is known of the header after so many of its lines
abbrev pub IsHeader : ℕ → Header → Type 0
IsHeader zero h = Unit {0}
IsHeader (suc zero) h = Versioned h
IsHeader (suc (suc zero)) h = Noded h
IsHeader (suc (suc (suc zero))) h = Coded h
IsHeader (suc (suc (suc (suc zero)))) h = Blocked h
IsHeader (suc (suc (suc (suc (suc zero))))) h = Updated h
IsHeader (suc (suc (suc (suc (suc (suc zero)))))) h = Reserved h
IsHeader (suc (suc (suc (suc (suc (suc (suc zero))))))) h = United h
IsHeader _ h = Ended h

-- what is known of the lines after the header
pub record IsBodyIn (h : Header) (p : Body) : Type 0 where
  pub most_segments : length p.segments ≤ 1024
  pub segment_names : All (λ name. is_name name ≡ true) p.segments
  pub segments_differ : AllDiffer p.segments
  pub most_clients : length p.clients ≤ 64
  pub clients : All (IsClient h.nodes (length p.segments)) p.clients
  pub dated : All (IsDatedClient h.version) p.clients
  pub clients_differ : AllDiffer (client_names p)
  pub lines_rise : NumbersRise 0 (line_numbers p.clients)
  pub turns : All (λ turn. turn < length p.clients) p.schedule
  pub most_workers : p.workers ≤ 16
  pub most_rounds : p.rounds ≤ 65536

pub record IsSound (lines : List Said) : Type 0 where
  pub place : place_of (last_of lines) ≡ min (length lines) 8
  pub header : IsHeader (min (length lines) 8) (header_of lines)
  pub bare : length lines ≤ 8 → body_of lines ≡ no_body
  pub some : HasSome (last_of lines) (body_of lines)
  pub body : IsBodyIn (header_of lines) (body_of lines)
  pub count : 8 ≤ length lines
      → line_count (body_of lines).clients + (length (body_of lines).segments + (length (body_of lines).clients + 8)) ≤ length lines
  pub weighed : weight (script_with (header_of lines) (body_of lines)) ≤ weight_of lines
  pub light : weight_of lines ≤ 268435456
  pub room : (x : ℕ) → x < (header_of lines).nodes
      → taken_on (shape_of (header_of lines)) (header_of lines).nodes (length (segments_of lines)) x ≤ (header_of lines).capacity

-- ---- the totals of a reader

-- the running totals of so many segments
abbrev pub Takes : List ℕ → Header → ℕ → Type 0
Takes taken h segments = (x : ℕ) → x < h.nodes → slice_index taken x ≡ taken_on (shape_of h) h.nodes segments x

pub record Keeps (lines : ℕ) (accepted : List Said) (header : Header) (segments clients : List (List ℕ)) (weight : ℕ) (taken : List ℕ) : Type 0 where
  pub header_is : header ≡ header_of accepted
  pub segments_are : segments ≡ segments_of accepted
  pub clients_are : clients ≡ clients_of accepted
  pub weight_is : weight ≡ weight_of accepted
  pub places : length taken ≡ 64
  pub empty : length accepted ≤ 8 → taken ≡ replicate 64 0
  pub room : Takes taken header (length segments)
  pub fewer : length accepted ≤ lines
  pub most_lines : lines ≤ 2 ^ 32 - 2
  pub numbers : AreBefore (lines + 1) (body_of accepted).clients
  pub sound : IsSound accepted

-- w is the weight with one more line, or both are past the limit
abbrev pub AddsTo : List Said → Said → ℕ → Type 0
AddsTo lines line w = (w ≤ 268435456 → w ≡ weight_of (lines ++ line ∷ [])) × (268435456 < w → 268435456 < weight_of (lines ++ line ∷ []))

abbrev pub with_segment : List (List ℕ) → Said → List (List ℕ)
with_segment segments (said.Segment name) = segments ++ name ∷ []
with_segment segments _ = segments

abbrev pub with_client : List (List ℕ) → Said → List (List ℕ)
with_client clients (said.Client name) = clients ++ name ∷ []
with_client clients _ = clients

abbrev pub with_header : ℕ → Header → Said → Header
with_header lines h line = if nat_lt lines 8 then noted h line else h
