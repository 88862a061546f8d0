use Rattle.afdx_input_runs.specs.Joining.{frames_of}
use Rattle.afdx_input_runs.proofs.SeenOrderLemmas.{one-go-on}
use Rattle.afdx_input_runs.proofs.seen_frames.WatchedRunInputRecordingOptionsSeen.orders.Goals as goal

pub returns : goal.returns
returns g c options ports bytes rest past answer h =
    one-go-on g.R.Read.remaining options ports bytes rest (frames_of past) answer h
