use Rattle.afdx_input_lines.specs.Watching.{device_of}
use Rattle.afdx_input_sources.specs.Becoming.{options_of}
use Rattle.afdx_input_sources.specs.Taking.{AreCutOff, taken_of_bytes}
use Rattle.afdx_input_sources.proofs.LawLemmas.{bytes-in-order, cut-one-in-order}
use Rattle.afdx_input_runs.proofs.ArrivalsLemmas.{lines-ordered}
use Rattle.afdx_input_runs.proofs.numbers.WatchedRunInputRecordingOptionsNumberLine.orders.Goals as goal

pub returns : goal.returns
returns g c options ports bytes rest past answer h =
    let said = options_of options in
    let left = g.R.Read.remaining (device_of rest) in
    lines-ordered (taken_of_bytes said ports bytes) (AreCutOff said ports bytes left)
    (bytes-in-order said ports bytes) (λ lines c. cut-one-in-order said ports bytes left lines c) past answer h
