use Rattle.afdx_input_lines.specs.Peeking.{left_in}
use Rattle.afdx_input_lines.specs.Watching.{device_of}
use Rattle.std.proofs.Common.{Some}
use Rattle.afdx_input_sources.specs.Becoming.{options_of}
use Rattle.afdx_input_runs.specs.InputRun.{is_read_recorded}
use Rattle.afdx_input_runs.proofs.ArrivalsLemmas.{one-ordered}
use Rattle.afdx_input_runs.proofs.arrivals.WatchedPeekedRunInputRecordingOptionsHeading.orders.Goals as goal

pub returns : goal.returns
returns g c options ports bytes rest past answer h =
    one-ordered (options_of options) ports (is_read_recorded options.are_given (Some bytes)) bytes
    (left_in g.R.Read.remaining (device_of rest)) past answer h
