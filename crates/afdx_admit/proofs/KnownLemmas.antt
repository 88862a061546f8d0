-- Each line of lawful tables speaks of what they have.
use Rattle.std.proofs.Common.{ℕ, ◌<◌, ◌≤◌, [], ◌++◌}
use Rattle.std.proofs.Common.{length, map, Option, Some, None, slice_get, arith}
use Rattle.std.specs.List.{AllByRecursion}
use Rattle.std.specs.Option.{option_map_or}
use Rattle.afdx_frame.specs.declared.link.Priority.TheVariants.{High, Low}
use Rattle.afdx_frame.specs.Flows.{of_class}
use Rattle.afdx_config.specs.Rows.{LinkRow, Rows}
use Rattle.afdx_admit.specs.Known.{IsKnown}
use Rattle.afdx_admit.specs.Lines.{LoadedOutput, each_from, false_lines, high_line, low_line}
use Rattle.afdx_admit.specs.Lines.{lines, output_lines, port_lines, loaded_output_at, sender_lines}
use Rattle.afdx_admit.specs.Lines.{link_lines, lines_of_link}
use Rattle.afdx_admit.proofs.EachLineLemmas.{OfEach, of_append, of_map, of_places, of_false}

module _ (t : Rows) (own : t.own ≤ length t.systems) where
  output-known : (port : ℕ) (o : LoadedOutput) → OfEach (IsKnown t) (output_lines t.buffer port o)
  unfolding output_lines
  output-known port o = (
    tt,
    (
      tt,
      of_append (IsKnown t) (map (high_line port o) (of_class High o.flows))
          (map (low_line port o) (of_class Low o.flows))
          (of_map (IsKnown t) (high_line port o) (λ x. tt) (of_class High o.flows))
          (of_map (IsKnown t) (low_line port o) (λ x. tt) (of_class Low o.flows)),
    ),
  )

  port-known : (port : ℕ) → OfEach (IsKnown t) (port_lines t port)
  unfolding port_lines
  port-known port = by (loaded_output_at t port)
    where
      by : (o : Option LoadedOutput) → OfEach (IsKnown t) (option_map_or (output_lines t.buffer port) o [])
      by None = tt
      by (Some o) = output-known port o

  sender-known : (place : ℕ) → place < length t.systems → OfEach (IsKnown t) (sender_lines t place)
  unfolding sender_lines
  sender-known place h = (h, tt)

  link-known : (place : ℕ) → OfEach (IsKnown t) (link_lines t place)
  unfolding link_lines
  link-known place = by (slice_get t.links place)
    where
      by : (o : Option LinkRow) → OfEach (IsKnown t) (option_map_or (lines_of_link t) o [])
      by None = tt
      by (Some l) = (tt, (tt, tt))

  pub lines-known : OfEach (IsKnown t) (lines t)
  unfolding lines
  lines-known =
      of_append (IsKnown t) (each_from (port_lines t) 1 24)
      (each_from (sender_lines t) 0 t.own ++ each_from (link_lines t) 0 (length t.links))
      (of_places (IsKnown t) (port_lines t) 1 24 (λ k low high. port-known k))
      (of_append (IsKnown t) (each_from (sender_lines t) 0 t.own) (each_from (link_lines t) 0 (length t.links))
      (of_places (IsKnown t) (sender_lines t) 0 t.own (λ k low high. sender-known k (omega (arith, high, own))))
      (of_places (IsKnown t) (link_lines t) 0 (length t.links) (λ k low high. link-known k)))

  pub false_lines-known : AllByRecursion (IsKnown t) (false_lines (lines t))
  false_lines-known = of_false (IsKnown t) (lines t) lines-known
