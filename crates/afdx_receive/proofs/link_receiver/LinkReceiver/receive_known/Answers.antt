use Rattle.afdx_frame.specs.Parts.{bytes_of}
use Rattle.afdx_receive.proofs.link_receiver.LinkReceiver.receive_known.Goals as goal

pub returns-clause-selected : goal.returns-clause-selected
returns-clause-selected c tables system past stands =
    c.take_in.ensures.selected tables system past (bytes_of c.args.frame) stands
    c.known.ensures.ok c.known.ensures.computed
