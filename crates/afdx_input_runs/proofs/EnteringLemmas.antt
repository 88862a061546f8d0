-- A machine can tell what a source of recordings gives, if it can tell what came in as options and
-- frames' bytes say.
use Rattle.std.proofs.Common.{ℕ, List, ap, sym, subst, ◌∙◌, Option}
use Rattle.afdx_input_lines.specs.declared.frame_line.Heading.{Heading}
use Rattle.afdx_input_sources.specs.Engine.{CanTell, Item}
use Rattle.afdx_input_sources.specs.declared.becoming.RecordingOptions.{RecordingOptions}
use Rattle.afdx_input_sources.specs.declared.pair_options.PairOptions.{PairOptions}
use Rattle.afdx_input_sources.specs.declared.senders.SystemPorts.{SystemPorts}
use Rattle.afdx_input_sources.specs.declared.timed_numbers.TimedNumbers.{TimedNumbers}
use Rattle.afdx_input_sources.specs.declared.timed_pair.TimedPair.{TimedPair}
use Rattle.afdx_input_sources.specs.ArrivingSource.{IsGivenBy}
use Rattle.afdx_input_sources.specs.Becoming.{Options, options_of}
use Rattle.afdx_input_sources.specs.Claims.{Agree, Ports, ports_of}
use Rattle.afdx_input_sources.specs.Entering.{IsEntered, IsEnteredInPair}
use Rattle.afdx_input_sources.specs.OrderedRecording.{HasTaken, HasTakenAll, OrderedRecording, number_taken}
use Rattle.afdx_input_sources.specs.PairOptions.{options_of_a}
use Rattle.afdx_input_sources.specs.TimedPairSource.{HasPaired}
use Rattle.afdx_input_sources.specs.TimedSource.{HasTimed}
use Rattle.afdx_input_sources.proofs.EnteringLemmas.{given-entered, given-of-pair-entered}
use Rattle.afdx_input_runs.specs.Over.{Set, way_of_one, way_of_two}
use Rattle.afdx_input_runs.specs.ReadPair.{IsNewOne, IsNewPair}
use Rattle.afdx_input_runs.specs.RecordingRun.{IsEnteredBy}

module _ {R : Type 0} (remaining : R → Option (List ℕ)) (can : Item Heading → Type 0) where
  -- of one recording
  pub one-can : (options : RecordingOptions) (ports : SystemPorts) (source : TimedNumbers OrderedRecording)
      → IsNewOne options ports source → CanTell (IsEntered (options_of options) (ports_of ports)) can
      → CanTell (IsGivenBy way_of_one (HasTimed (HasTaken remaining) (HasTakenAll remaining)) (way_of_one source)) can
  one-can options ports source new tells x g =
      let set = ap (λ (w : Set × Option ℕ). w.0.0) g.works in
      let of_options = ap (λ (s : RecordingOptions × SystemPorts). s.0) set ∙ new.options_are in
      let of_ports = ap (λ (s : RecordingOptions × SystemPorts). s.1) set ∙ new.ports_are in
      tells x (subst (λ (p : SystemPorts). IsEntered (options_of options) (ports_of p) x) of_ports
      (subst (λ (o : RecordingOptions). IsEntered (options_of o) (ports_of g.source.numbers.source.ports) x) of_options
      (given-entered remaining g.start g.input g.source g.past x g.given)))

  -- of two
  pub two-can : (options : PairOptions) (ports : Ports) (source : TimedPair OrderedRecording)
      → IsNewPair options ports source → CanTell (IsEnteredBy options ports) can
      → CanTell (IsGivenBy way_of_two (HasPaired number_taken (HasTaken remaining) (HasTakenAll remaining))
      (way_of_two source)) can
  two-can options ports source new tells x g =
      let set_a = ap (λ (w : Set × Set × Option ℕ). w.0.0) g.works in
      let set_b = ap (λ (w : Set × Set × Option ℕ). w.1.0) g.works in
      let of_a = ap (λ (s : RecordingOptions × SystemPorts). options_of s.0) set_a ∙ new.options_a in
      let of_b = ap (λ (s : RecordingOptions × SystemPorts). options_of s.0) set_b ∙ new.options_b in
      let ports_a = ap (λ (s : RecordingOptions × SystemPorts). s.1) set_a in
      let ports_b = ap (λ (s : RecordingOptions × SystemPorts). s.1) set_b in
      tells x (subst (λ (o : Options). IsEnteredInPair (options_of_a options) o ports x) of_b
      (subst (λ (o : Options). IsEnteredInPair o (options_of g.source.pair.second.source.source.options) ports x) of_a
      (given-of-pair-entered remaining g.start g.input g.source ports g.past x
      (subst (λ (p : SystemPorts). Agree (ports_of p) ports) (sym ports_a) new.ports_a)
      (subst (λ (p : SystemPorts). Agree (ports_of p) ports) (sym ports_b) new.ports_b) g.given)))
