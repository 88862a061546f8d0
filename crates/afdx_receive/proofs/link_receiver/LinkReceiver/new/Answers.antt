use Rattle.std.proofs.Common.{refl}
use Rattle.afdx_receive.specs.Answers.{subscription}
use Rattle.afdx_receive.proofs.ReceiverLemmas.{link_at_first}
use Rattle.afdx_receive.proofs.link_receiver.LinkReceiver.new.Goals as goal

pub returns : goal.returns
returns c = record {
  stands = record {
    links = λ vl. rw (c.in_ok-links.ensures vl) (link_at_first c.args.tables.now c.args.system.0 vl
        (subscription c.args.tables.now c.args.system.0 vl) refl);
  };
}
