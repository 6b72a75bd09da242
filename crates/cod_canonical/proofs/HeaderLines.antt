-- The header of a canonical text is read again.
use Rattle.std.proofs.Common.{◌≡◌, ℕ, ◌<◌, ◌≤◌, ◌^◌, List, [], ◌∷◌, refl, arith, Ok, Some, None, min}
use Rattle.std.specs.Prelude.{codes, decimal}
use Rattle.cod_scenario.specs.declared.said.Header.{Header}
use Rattle.cod_scenario.specs.declared.said.Keyword.TheVariants as key
use Rattle.cod_scenario.specs.declared.said.Said.{Said}
use Rattle.cod_scenario.specs.declared.said.Said.TheVariants as said
use Rattle.cod_scenario.specs.Judge.{may_follow, rest_says, codfs_line, nodes_line, code_line, field_line, only_field, last_of}
use Rattle.cod_scenario.specs.Lines.{no_header, bytes_of, floor_of}
use Rattle.cod_script.specs.Script.{Script}
use Rattle.cod_script.specs.Text.{header_text, numbers_text}
use Rattle.cod_canonical.proofs.Fields.{decimal_is_clear, field_back}
use Rattle.cod_canonical.proofs.Steps.{Reaches, goes_on, Heads, heads_none, head_reaches}

-- the numbers of a scenario's header
abbrev pub head_of : Script → Header
head_of p =
    record {
      version = p.shape.version;
      nodes = p.nodes;
      capacity = p.capacity;
      n = p.shape.n;
      k = p.shape.k;
      block = p.shape.block;
      update = p.shape.update;
      reserve = p.shape.reserve;
      unit = p.shape.unit;
      alpha = p.shape.alpha;
    }

-- a header whose numbers are within their limits
pub record IsHead (h : Header) : Type 0 where
  pub first_version : 1 ≤ h.version
  pub last_version : h.version ≤ 2
  pub some_nodes : 1 ≤ h.nodes
  pub most_nodes : h.nodes ≤ 64
  pub some_capacity : 1 ≤ h.capacity
  pub most_capacity : h.capacity < 2 ^ 32
  pub some_columns : 1 ≤ h.n
  pub most_columns : h.n ≤ 16
  pub columns : h.n ≤ h.nodes
  pub some_data : 1 ≤ h.k
  pub data_among_columns : h.k ≤ h.n
  pub some_bytes : 1 ≤ h.block
  pub most_bytes : h.block ≤ 1048576
  pub some_update : 1 ≤ h.update
  pub update_in_segment : h.update ≤ bytes_of h
  pub most_update : h.update ≤ 65536
  pub least_reserve : floor_of h ≤ h.reserve
  pub most_reserve : h.reserve ≤ 4194304
  pub some_unit : 1 ≤ h.unit
  pub unit_in_reserve : h.unit ≤ h.reserve
  pub most_alpha : h.alpha ≤ 10000

one_number : (low high v : ℕ) (is : ℕ → Said) → low ≤ v → v ≤ high → v < 2 ^ 32 → field_line low high is (decimal v ∷ []) ≡ Ok (is v)
unfolding field_line only_field
one_number low high v is a b c = rw (field_back low high v a b c) refl

codfs_read : (v : ℕ) → 1 ≤ v → v ≤ 2 → codfs_line (decimal v ∷ []) ≡ Ok (said.Codfs v)
unfolding codfs_line
codfs_read v a b = rw (field_back 1 2 v a b (omega (arith, b))) refl

nodes_read : (x cap : ℕ) → 1 ≤ x → x ≤ 64 → 1 ≤ cap → cap < 2 ^ 32 → nodes_line (decimal x ∷ decimal cap ∷ []) ≡ Ok (said.Nodes x cap)
unfolding nodes_line
nodes_read x cap a b c d = rw (field_back 1 64 x a b (omega (arith, b)), field_back 1 4294967295 cap c (omega (arith, d)) d) refl

code_read : (h : Header) (n k : ℕ) → 1 ≤ n → n ≤ 16 → n ≤ h.nodes → 1 ≤ k → k ≤ n → code_line h (decimal n ∷ decimal k ∷ []) ≡ Ok (said.Code n k)
unfolding code_line
code_read h n k a b c d e = rw (field_back 1 (min 16 h.nodes) n a (omega (arith, b, c)) (omega (arith, b)), field_back 1 n k d e (omega (arith, b, e))) refl

-- the header as it stands after so many of its lines
abbrev after_codfs : Header → Header
after_codfs h = record no_header { version = h.version }

abbrev after_nodes : Header → Header
after_nodes h = record (after_codfs h) { nodes = h.nodes; capacity = h.capacity }

abbrev after_code : Header → Header
after_code h = record (after_nodes h) { n = h.n; k = h.k }

abbrev after_block : Header → Header
after_block h = record (after_code h) { block = h.block }

abbrev after_update : Header → Header
after_update h = record (after_block h) { update = h.update }

abbrev after_reserve : Header → Header
after_reserve h = record (after_update h) { reserve = h.reserve }

abbrev after_unit : Header → Header
after_unit h = record (after_reserve h) { unit = h.unit }

-- so many lines were said, the last of them this one
abbrev HasSaid : ℕ → Header → Said → List Said → Type 0
HasSaid count h s lines = Heads count h lines × (last_of lines ≡ Some s)

module _ (h : Header) (i : IsHead h) where
  codfs_reaches : Reaches [] 1 (numbers_text (codes "codfs") (h.version ∷ [])) (HasSaid 1 (after_codfs h) (said.Codfs h.version))
  unfolding rest_says may_follow
  codfs_reaches =
      let most = i.last_version in
      head_reaches [] 1 0 no_header None (codes "codfs") (decimal h.version ∷ []) key.Codfs (said.Codfs h.version) heads_none refl (omega arith)
      (record {
        clear = record { some = refl; clear = refl };
        no_comment = refl;
        words = (decimal_is_clear h.version (omega (arith, most)), tt);
        goes_on = refl;
        keyword = refl;
        stands = refl;
        read = codfs_read h.version i.first_version most;
        no_segment = refl;
        no_part = refl;
      })

  nodes_reaches : (before : List Said) (n : ℕ) → HasSaid 1 (after_codfs h) (said.Codfs h.version) before
      → Reaches before n (numbers_text (codes "nodes") (h.nodes ∷ h.capacity ∷ [])) (HasSaid 2 (after_nodes h) (said.Nodes h.nodes h.capacity))
  unfolding rest_says may_follow
  nodes_reaches before n was =
      let most = i.most_nodes in
      head_reaches before n 1 (after_codfs h) (Some (said.Codfs h.version)) (codes "nodes") (decimal h.nodes ∷ decimal h.capacity ∷ []) key.Nodes (said.Nodes h.nodes h.capacity) was.0 was.1
      (omega arith)
      (record {
        clear = record { some = refl; clear = refl };
        no_comment = refl;
        words = (decimal_is_clear h.nodes (omega (arith, most)), (decimal_is_clear h.capacity i.most_capacity, tt));
        goes_on = refl;
        keyword = refl;
        stands = refl;
        read = nodes_read h.nodes h.capacity i.some_nodes most i.some_capacity i.most_capacity;
        no_segment = refl;
        no_part = refl;
      })

  code_reaches : (before : List Said) (n : ℕ) → HasSaid 2 (after_nodes h) (said.Nodes h.nodes h.capacity) before
      → Reaches before n (numbers_text (codes "code") (h.n ∷ h.k ∷ [])) (HasSaid 3 (after_code h) (said.Code h.n h.k))
  unfolding rest_says may_follow
  code_reaches before n was =
      let most = i.most_columns in
      let among = i.data_among_columns in
      head_reaches before n 2 (after_nodes h) (Some (said.Nodes h.nodes h.capacity)) (codes "code") (decimal h.n ∷ decimal h.k ∷ []) key.Code (said.Code h.n h.k) was.0 was.1 (omega arith)
      (record {
        clear = record { some = refl; clear = refl };
        no_comment = refl;
        words = (decimal_is_clear h.n (omega (arith, most)), (decimal_is_clear h.k (omega (arith, most, among)), tt));
        goes_on = refl;
        keyword = refl;
        stands = refl;
        read = code_read (after_nodes h) h.n h.k i.some_columns most i.columns i.some_data among;
        no_segment = refl;
        no_part = refl;
      })

  block_reaches : (before : List Said) (n : ℕ) → HasSaid 3 (after_code h) (said.Code h.n h.k) before
      → Reaches before n (numbers_text (codes "block") (h.block ∷ [])) (HasSaid 4 (after_block h) (said.Block h.block))
  unfolding rest_says may_follow
  block_reaches before n was =
      let most = i.most_bytes in
      let small : h.block < 2 ^ 32 = omega (arith, most) in
      head_reaches before n 3 (after_code h) (Some (said.Code h.n h.k)) (codes "block") (decimal h.block ∷ []) key.Block (said.Block h.block) was.0 was.1 (omega arith)
      (record {
        clear = record { some = refl; clear = refl };
        no_comment = refl;
        words = (decimal_is_clear h.block small, tt);
        goes_on = refl;
        keyword = refl;
        stands = refl;
        read = one_number 1 1048576 h.block said.Block i.some_bytes most small;
        no_segment = refl;
        no_part = refl;
      })

  update_reaches : (before : List Said) (n : ℕ) → HasSaid 4 (after_block h) (said.Block h.block) before
      → Reaches before n (numbers_text (codes "update") (h.update ∷ [])) (HasSaid 5 (after_update h) (said.Update h.update))
  unfolding rest_says may_follow
  update_reaches before n was =
      let most = i.most_update in
      let within = i.update_in_segment in
      let small : h.update < 2 ^ 32 = omega (arith, most) in
      head_reaches before n 4 (after_block h) (Some (said.Block h.block)) (codes "update") (decimal h.update ∷ []) key.Update (said.Update h.update) was.0 was.1 (omega arith)
      (record {
        clear = record { some = refl; clear = refl };
        no_comment = refl;
        words = (decimal_is_clear h.update small, tt);
        goes_on = refl;
        keyword = refl;
        stands = refl;
        read = one_number 1 (min (bytes_of h) 65536) h.update said.Update i.some_update (omega (arith, most, within)) small;
        no_segment = refl;
        no_part = refl;
      })

  reserve_reaches : (before : List Said) (n : ℕ) → HasSaid 5 (after_update h) (said.Update h.update) before
      → Reaches before n (numbers_text (codes "reserve") (h.reserve ∷ [])) (HasSaid 6 (after_reserve h) (said.Reserve h.reserve))
  unfolding rest_says may_follow
  reserve_reaches before n was =
      let most = i.most_reserve in
      let small : h.reserve < 2 ^ 32 = omega (arith, most) in
      head_reaches before n 5 (after_update h) (Some (said.Update h.update)) (codes "reserve") (decimal h.reserve ∷ []) key.Reserve (said.Reserve h.reserve) was.0 was.1 (omega arith)
      (record {
        clear = record { some = refl; clear = refl };
        no_comment = refl;
        words = (decimal_is_clear h.reserve small, tt);
        goes_on = refl;
        keyword = refl;
        stands = refl;
        read = one_number (floor_of h) 4194304 h.reserve said.Reserve i.least_reserve most small;
        no_segment = refl;
        no_part = refl;
      })

  unit_reaches : (before : List Said) (n : ℕ) → HasSaid 6 (after_reserve h) (said.Reserve h.reserve) before
      → Reaches before n (numbers_text (codes "unit") (h.unit ∷ [])) (HasSaid 7 (after_unit h) (said.Unit h.unit))
  unfolding rest_says may_follow
  unit_reaches before n was =
      let most = i.most_reserve in
      let within = i.unit_in_reserve in
      let small : h.unit < 2 ^ 32 = omega (arith, most, within) in
      head_reaches before n 6 (after_reserve h) (Some (said.Reserve h.reserve)) (codes "unit") (decimal h.unit ∷ []) key.Unit (said.Unit h.unit) was.0 was.1 (omega arith)
      (record {
        clear = record { some = refl; clear = refl };
        no_comment = refl;
        words = (decimal_is_clear h.unit small, tt);
        goes_on = refl;
        keyword = refl;
        stands = refl;
        read = one_number 1 h.reserve h.unit said.Unit i.some_unit within small;
        no_segment = refl;
        no_part = refl;
      })

  alpha_reaches : (before : List Said) (n : ℕ) → HasSaid 7 (after_unit h) (said.Unit h.unit) before
      → Reaches before n (numbers_text (codes "alpha") (h.alpha ∷ [])) (HasSaid 8 h (said.Alpha h.alpha))
  unfolding rest_says may_follow
  alpha_reaches before n was =
      let most = i.most_alpha in
      let small : h.alpha < 2 ^ 32 = omega (arith, most) in
      head_reaches before n 7 (after_unit h) (Some (said.Unit h.unit)) (codes "alpha") (decimal h.alpha ∷ []) key.Alpha (said.Alpha h.alpha) was.0 was.1 (omega arith)
      (record {
        clear = record { some = refl; clear = refl };
        no_comment = refl;
        words = (decimal_is_clear h.alpha small, tt);
        goes_on = refl;
        keyword = refl;
        stands = refl;
        read = one_number 0 10000 h.alpha said.Alpha (omega arith) most small;
        no_segment = refl;
        no_part = refl;
      })

pub header_reaches : (p : Script) → IsHead (head_of p) → Reaches [] 1 (header_text p) (λ lines. Heads 8 (head_of p) lines × (last_of lines ≡ Some (said.Alpha p.shape.alpha)))
unfolding header_text
header_reaches p i =
    let h : Header = head_of p in
    goes_on [] 1 _ _ (HasSaid 1 (after_codfs h) (said.Codfs h.version)) (HasSaid 8 h (said.Alpha h.alpha)) (codfs_reaches h i) (λ a n ha.
    goes_on a n _ _ (HasSaid 2 (after_nodes h) (said.Nodes h.nodes h.capacity)) (HasSaid 8 h (said.Alpha h.alpha)) (nodes_reaches h i a n ha) (λ b n hb.
    goes_on b n _ _ (HasSaid 3 (after_code h) (said.Code h.n h.k)) (HasSaid 8 h (said.Alpha h.alpha)) (code_reaches h i b n hb) (λ c n hc.
    goes_on c n _ _ (HasSaid 4 (after_block h) (said.Block h.block)) (HasSaid 8 h (said.Alpha h.alpha)) (block_reaches h i c n hc) (λ d n hd.
    goes_on d n _ _ (HasSaid 5 (after_update h) (said.Update h.update)) (HasSaid 8 h (said.Alpha h.alpha)) (update_reaches h i d n hd) (λ e n he.
    goes_on e n _ _ (HasSaid 6 (after_reserve h) (said.Reserve h.reserve)) (HasSaid 8 h (said.Alpha h.alpha)) (reserve_reaches h i e n he) (λ f n hf.
    goes_on f n _ _ (HasSaid 7 (after_unit h) (said.Unit h.unit)) (HasSaid 8 h (said.Alpha h.alpha)) (unit_reaches h i f n hf) (λ g n hg. alpha_reaches h i g n hg)))))))
