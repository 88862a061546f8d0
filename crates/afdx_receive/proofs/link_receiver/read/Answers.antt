use Rattle.std.proofs.Common.{sym, ap}
use Rattle.afdx_frame.specs.Carried.{carried_in}
use Rattle.afdx_config.specs.Reading.{has_port}
use Rattle.afdx_receive.specs.Answers.{answer_to_carried}
use Rattle.afdx_receive.proofs.ReceptionLemmas.{message_read}
use Rattle.afdx_receive.proofs.link_receiver.read.Goals as goal

pub returns-in-Ok-clause-answer : goal.returns-in-Ok-clause-answer
returns-in-Ok-clause-answer c tables system bytes is-frame =
    rw (c.vl.ensures, c.to_port.ensures, c.payload.ensures)
    (sym (ap (answer_to_carried c.args.frame.vl.0 (has_port tables.ports system c.args.frame.vl.0))
    (c.in-Ok.ensures.computed bytes is-frame)))

pub returns-in-Ok-clause-right : goal.returns-in-Ok-clause-right
returns-in-Ok-clause-right c tables system bytes is-frame =
    rw (c.vl.ensures, c.to_port.ensures, c.payload.ensures)
    (message_read tables system bytes _ (carried_in c.in-Ok.datagram)
    (c.in-Ok.ensures.read bytes is-frame))
