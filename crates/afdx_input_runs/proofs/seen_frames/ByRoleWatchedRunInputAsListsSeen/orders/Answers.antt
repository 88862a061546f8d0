use Rattle.afdx_input_runs.specs.Joining.{frames_of}
use Rattle.afdx_input_runs.proofs.SeenOrderLemmas.{lists-go-on}
use Rattle.afdx_input_runs.proofs.seen_frames.ByRoleWatchedRunInputAsListsSeen.orders.Goals as goal

pub returns : goal.returns
returns g c options ports bytes rest past answer h = lists-go-on g.R.Read.remaining bytes rest (frames_of past) answer h
