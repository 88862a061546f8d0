use Rattle.afdx_input_sources.proofs.TableLemmas.{have-one}
use Rattle.afdx_input_sources.proofs.senders.times_of_one.Goals as goal

pub returns : goal.returns
returns c =
    rw (c.in_ok-push.ensures.items, c.new-times.ensures.items)
    (have-one c.in_ok-of_one.of_one c.args.tables.now c.in_ok-of_one.ensures)
