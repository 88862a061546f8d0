-- A recording, or two that are read at once, before the first read.
use Rattle.std.specs.Prelude.{ℕ, ◌≡◌, Option}
use Rattle.afdx_input_lines.specs.declared.role.ByRole.{ByRole}
use Rattle.afdx_input_sources.specs.declared.ahead.AtHead.TheVariants.{Unknown}
use Rattle.afdx_input_sources.specs.declared.becoming.RecordingOptions.{RecordingOptions}
use Rattle.afdx_input_sources.specs.declared.pair_options.PairOptions.{PairOptions}
use Rattle.afdx_input_sources.specs.declared.senders.SystemPorts.{SystemPorts}
use Rattle.afdx_input_sources.specs.declared.timed_numbers.TimedNumbers.{TimedNumbers}
use Rattle.afdx_input_sources.specs.declared.timed_pair.TimedPair.{TimedPair}
use Rattle.afdx_input_sources.specs.Becoming.{Options, options_of}
use Rattle.afdx_input_sources.specs.Claims.{Agree, Ports, ports_of}
use Rattle.afdx_input_sources.specs.OrderedRecording.{IsSetInOrder, IsUnread, OrderedRecording}
use Rattle.afdx_input_sources.specs.PairOptions.{options_of_a, options_of_b}
use Rattle.afdx_input_runs.specs.SeenRun.{options_of_came, options_of_left}

-- nothing of one was read, by these options and ports
pub record IsNewOne (options : RecordingOptions) (ports : SystemPorts)
    (source : TimedNumbers OrderedRecording) : Type 0 where
  pub options_are : source.numbers.source.options ≡ options
  pub ports_are : source.numbers.source.ports ≡ ports
  pub order : IsSetInOrder source.numbers
  pub unread : IsUnread source.numbers
  pub said : source.clock.said ≡ options.origin
  pub zero : source.clock.zero ≡ options.origin

-- nothing of either of two was read, by these options, and ports that agree with these; that moment
-- is time 0, if one is said
pub record IsNewTwo (of_a of_b : Options) (said : Option ℕ) (ports : Ports)
    (source : TimedPair OrderedRecording) : Type 0 where
  pub options_a : options_of source.pair.first.source.source.options ≡ of_a
  pub options_b : options_of source.pair.second.source.source.options ≡ of_b
  pub ports_a : Agree (ports_of source.pair.first.source.source.ports) ports
  pub ports_b : Agree (ports_of source.pair.second.source.source.ports) ports
  pub order_a : IsSetInOrder source.pair.first.source
  pub order_b : IsSetInOrder source.pair.second.source
  pub unread_a : IsUnread source.pair.first.source
  pub unread_b : IsUnread source.pair.second.source
  pub head_a : source.pair.first.head ≡ Unknown
  pub head_b : source.pair.second.head ≡ Unknown
  pub said_is : source.clock.said ≡ said
  pub zero : source.clock.zero ≡ said

-- of network A and of network B
abbrev pub IsNewPair : PairOptions → Ports → TimedPair OrderedRecording → Type 0
IsNewPair options ports source =
    IsNewTwo (options_of_a options) (options_of_b options) options.origin ports source

-- of what came in and of what left
abbrev pub IsNewByRole : ByRole RecordingOptions → Ports → TimedPair OrderedRecording → Type 0
IsNewByRole options ports source =
    IsNewTwo (options_of_came options) (options_of_left options) options.came.origin ports source
