use Rattle.afdx_receive.proofs.receiver.Receiver.new.Goals as goal

pub returns : goal.returns
returns c = record {
  stands = record {
    links = c.in_ok-links.ensures.stands;
    ports = c.in_ok-ports.ensures;
  };
}
