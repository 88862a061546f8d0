use Rattle.afdx_input_runs.proofs.PairAnswerLemmas.{both-a, both-b}
use Rattle.afdx_input_runs.proofs.SeenTookLemmas.{lists-untaken}
use Rattle.afdx_input_runs.proofs.seen_frames.ByRoleWatchedRunInputAsListsSeen.takes_none.Goals as goal

pub returns : goal.returns
returns g c kind said options ports bytes input fresh known =
    lists-untaken g.R.Read.remaining input bytes
    (both-a (g.R.Read.remaining input.came.inner) (g.R.Read.remaining input.left.inner) bytes known)
    (both-b (g.R.Read.remaining input.came.inner) (g.R.Read.remaining input.left.inner) bytes known)
