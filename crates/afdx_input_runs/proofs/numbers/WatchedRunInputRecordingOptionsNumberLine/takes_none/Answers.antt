use Rattle.afdx_input_lines.specs.Watching.{device_of}
use Rattle.afdx_input_sources.specs.Becoming.{options_of}
use Rattle.afdx_input_sources.specs.Taking.{AreCutOff, taken_of_bytes}
use Rattle.afdx_input_runs.proofs.NumbersLemmas.{none-taken}
use Rattle.afdx_input_runs.proofs.numbers.WatchedRunInputRecordingOptionsNumberLine.takes_none.Goals as goal

pub returns : goal.returns
returns g c kind said options ports bytes input fresh known =
    none-taken (taken_of_bytes (options_of options) ports bytes)
    (AreCutOff (options_of options) ports bytes (g.R.Read.remaining (device_of input)))
