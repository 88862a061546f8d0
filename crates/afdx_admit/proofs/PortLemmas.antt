-- The output port at a port of the switch.
use Rattle.std.proofs.Common.{◌≡◌, ℕ, ◌<◌, length, [], Some, None, slice_get, ap, ◌∙◌, ◌==◌, Bool, Option, sym, refl, false}
use Rattle.std.specs.Prelude.{is_some}
use Rattle.std.specs.Option.{option_map, option_map_or, option_and_then}
use Rattle.std.proofs.lemmas.List.Quantifiers.{position-Some}
use Rattle.afdx_config.specs.Rows.{SystemRow, Rows}
use Rattle.afdx_config.specs.Reading.{system_at_port}
use Rattle.afdx_admit.specs.Bounds.{IsBounds}
use Rattle.afdx_admit.specs.Lines.{output_lines, port_lines}
use Rattle.afdx_admit.specs.Lines.{loaded_output_at, loaded_output_to, high_bound_of, low_bound_of, buffer_need_of}
use Rattle.afdx_admit.specs.declared.bounds.PortBounds.{PortBounds}

pub loaded_output_at-some : (t : Rows) (port place : ℕ) (s : SystemRow) →
    system_at_port t.systems port ≡ Some place → slice_get t.systems place ≡ Some s →
    loaded_output_at t port ≡ Some (loaded_output_to t place s)
unfolding loaded_output_at
loaded_output_at-some t port place s found at =
    ap (λ o. option_and_then (λ p. option_map (loaded_output_to t p) (slice_get t.systems p)) o)
    found ∙ ap (option_map (loaded_output_to t place)) at

pub loaded_output_at-none : (t : Rows) (port : ℕ) → system_at_port t.systems port ≡ None
    → loaded_output_at t port ≡ None
unfolding loaded_output_at
loaded_output_at-none t port none =
    ap (λ o. option_and_then (λ p. option_map (loaded_output_to t p) (slice_get t.systems p)) o) none

pub port_lines-some : (t : Rows) (port place : ℕ) (s : SystemRow) →
    system_at_port t.systems port ≡ Some place → slice_get t.systems place ≡ Some s →
    port_lines t port ≡ output_lines t.buffer port (loaded_output_to t place s)
unfolding port_lines
port_lines-some t port place s found at =
    ap (λ o. option_map_or (output_lines t.buffer port) o []) (loaded_output_at-some t port place s found at)

pub port_lines-none : (t : Rows) (port : ℕ) → system_at_port t.systems port ≡ None → port_lines t port ≡ []
unfolding port_lines
port_lines-none t port none =
    ap (λ o. option_map_or (output_lines t.buffer port) o []) (loaded_output_at-none t port none)

pub found_within : (t : Rows) (port place : ℕ) → system_at_port t.systems port ≡ Some place → place < length t.systems
unfolding system_at_port
found_within t port place found =
    let p : SystemRow → Bool = λ s. s.port == port in
    let none : SystemRow = record { name = []; port = 0; id = 0; partition = 0; rate = 0 } in
    (position-Some p t.systems place none found).0

-- where no system is, all bounds are 0
abbrev pub idle : PortBounds
idle = record { high = 0; low = Some 0; buffer = 0 }

pub idle-bounds : (t : Rows) (port : ℕ) → system_at_port t.systems port ≡ None → IsBounds t port idle
idle-bounds t port none =
    let no_output = loaded_output_at-none t port none in
    record {
      high = sym (ap (λ o. option_map_or high_bound_of o 0) no_output);
      low = sym (ap (λ o. option_map_or low_bound_of o (Some 0)) no_output);
      buffer = sym (ap (λ o. option_map_or buffer_need_of o 0) no_output);
    }

pub not-some : (o : Option ℕ) → false ≡ is_some o → o ≡ None
not-some None h = refl
not-some (Some n) h = absurd (cc h)
