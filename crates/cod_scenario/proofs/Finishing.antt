-- What the lines of a whole scenario give.
use Rattle.std.proofs.Common.{◌≡◌, ℕ, ◌+◌, ◌≤◌, ◌^◌, ◌-◌, true, false, List, length, refl, sym, ap, ◌∙◌, arith, Option, Some, min, Ok, Err}
use Rattle.std.proofs.lemmas.Bool.{false≢true}
use Rattle.cod_types.specs.Limits.{IsWithin}
use Rattle.cod_scenario.specs.declared.said.Header.{Header}
use Rattle.cod_scenario.specs.declared.said.Said.{Said}
use Rattle.cod_scenario.specs.declared.said.Said.TheVariants as said
use Rattle.cod_scenario.specs.declared.refusal.Refusal.TheVariants.{NoEnd}
use Rattle.cod_scenario.specs.Judge.{last_of, is_end, Heard}
use Rattle.cod_scenario.specs.Lines.{header_of, body_of, script_of, script_with, shape_of}
use Rattle.cod_scenario.specs.Reads.{finished}
use Rattle.cod_script.specs.Sound.{IsScenario, line_count}
use Rattle.cod_scenario.specs.Reading.{IsSound, HasSome, Ended, place_of}
use Rattle.cod_scenario.proofs.Keeping.{whole_header}

shape_within : (h : Header) → Ended h → IsWithin (shape_of h)
shape_within h e =
    let united = e.0 in
    let reserved = united.0 in
    let updated = reserved.0 in
    let blocked = updated.0 in
    let coded = blocked.0 in
    let versioned = coded.0.0 in
    record {
      first_version = versioned.0;
      last_version = versioned.1;
      some_data = coded.4;
      data_among_columns = coded.5;
      most_columns = coded.2;
      some_bytes = blocked.1;
      most_bytes = blocked.2;
      some_update = updated.1;
      update_in_segment = updated.2;
      most_update = updated.3;
      least_reserve = reserved.1;
      most_reserve = reserved.2;
      some_unit = united.1;
      unit_in_reserve = united.2;
      most_alpha = e.1;
    }

the_end : (o : Option Said) → is_end o ≡ true → o ≡ Some said.End
the_end (Some said.End) e = refl
the_end _ e = absurd (false≢true e)

pub whole : (n : ℕ) (lines : List Said) → IsSound lines → is_end (last_of lines) ≡ true → length lines ≤ n → n ≤ 2 ^ 32 - 2
    → IsScenario (script_with (header_of lines) (body_of lines))
whole n lines i e fewer most =
    let last = the_end (last_of lines) e in
    let place : 8 ≡ min (length lines) 8 = sym (ap place_of last) ∙ i.place in
    let h : Ended (header_of lines) = whole_header lines i (omega (arith, place)) in
    let coded = h.0.0.0.0.0 in
    let some : HasSome (Some said.End) (body_of lines) = rw last at i.some in
    let a = some.0 in let b = some.1 in
    let count = i.count (omega (arith, place)) in
    record {
      shape = shape_within (header_of lines) h;
      some_nodes = coded.0.1;
      most_nodes = coded.0.2;
      columns = coded.3;
      some_capacity = coded.0.3;
      some_segments = some.0;
      most_segments = i.body.most_segments;
      segment_names = i.body.segment_names;
      segments_differ = i.body.segments_differ;
      some_clients = some.1;
      most_clients = i.body.most_clients;
      clients = i.body.clients;
      dated = i.body.dated;
      clients_differ = i.body.clients_differ;
      few_lines = omega (arith, a, b, count, fewer, most);
      lines_rise = i.body.lines_rise;
      turns = i.body.turns;
      most_workers = i.body.most_workers;
      most_rounds = i.body.most_rounds;
      room = i.room;
      light = let w = i.weighed in let l = i.light in omega (arith, w, l);
    }

-- a client's line is one of the text's lines, beside the header, the names and the end
pub few_said : (n : ℕ) (lines : List Said) → IsSound lines → is_end (last_of lines) ≡ true → length lines ≤ n → line_count (body_of lines).clients + 10 ≤ n
few_said n lines i e fewer =
    let last = the_end (last_of lines) e in
    let place : 8 ≡ min (length lines) 8 = sym (ap place_of last) ∙ i.place in
    let some : HasSome (Some said.End) (body_of lines) = rw last at i.some in
    let a = some.0 in let b = some.1 in
    let count = i.count (omega (arith, place)) in
    omega (arith, a, b, count, fewer)

pub is_finished : (h : Heard) → is_end (last_of h.said) ≡ true → finished h ≡ Ok (script_with (header_of h.said) (body_of h.said))
unfolding script_of
is_finished h e = rw e refl

pub not_finished : (h : Heard) → is_end (last_of h.said) ≡ false → finished h ≡ Err (h.lines + 1, NoEnd)
not_finished h e = rw e refl
