use Rattle.afdx_replay.proofs.AdmittedRunLemmas.{if-known}
use Rattle.afdx_replay.proofs.replaying.admitted.run.Goals as goal

pub returns-clause-promised : goal.returns-clause-promised
returns-clause-promised g c =
    if-known c.args.admitted.now (g.R.Read.remaining c.args.input.now.inner)
    (g.R.Read.remaining c.run_unadmitted.new.input.inner)
    (g.W.Write.contents c.args.output.now.inner)
    (g.W.Write.contents c.run_unadmitted.new.output.inner) c.run_unadmitted.result
    c.tables.ensures.lawful c.tables.ensures.admitted
    (rw c.tables.ensures.tables at c.run_unadmitted.ensures.answer)
