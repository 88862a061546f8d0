use Rattle.std.proofs.Common.{Some}
use Rattle.afdx_input_sources.specs.Becoming.{options_of}
use Rattle.afdx_input_runs.specs.InputRun.{is_read_recorded}
use Rattle.afdx_input_runs.proofs.ArrivalsLemmas.{one-untaken}
use Rattle.afdx_input_runs.proofs.arrivals.WatchedPeekedRunInputRecordingOptionsHeading.takes_none.Goals as goal

pub returns : goal.returns
returns g c kind said options ports bytes input fresh known =
    rw known (one-untaken kind said (options_of options) ports (is_read_recorded options.are_given (Some bytes)) bytes)
