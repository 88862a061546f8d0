use Rattle.std.proofs.Common.{◌∷◌, sym, ◌∙◌}
use Rattle.afdx_frame.specs.Parts.{FrameParts, parts_of}
use Rattle.afdx_receive.specs.Arrivals.{Arrived}
use Rattle.afdx_receive.specs.Answers.{answer_of, at_ports}
use Rattle.afdx_receive.specs.declared.memory.Standing.TheVariants.{OutOfSequence, Redundant, Winner}
use Rattle.afdx_receive.proofs.ReceptionLemmas.{answer_of_others, read_right}
use Rattle.afdx_receive.proofs.ReceiverLemmas.{taken, unsubscribed_at, others_stay}
use Rattle.afdx_receive.proofs.link_receiver.LinkReceiver.take_in.Goals as goal

pub returns-in_default-clause-selected : goal.returns-in_default-clause-selected
returns-in_default-clause-selected c tables system past bytes stands of computed =
    let x : Arrived = record { time = c.args.time; side = c.args.side; bytes = bytes } in
    let frame : FrameParts = parts_of c.args.view in
    let missing = rw c.vl.ensures at c.in_default.ensures.none in
    let other = unsubscribed_at tables system past c.args.self.now.links frame.link.0 stands.links (sym missing) in
    record {
      computed = answer_of_others tables system past x frame computed other;
      right = (frame, of, other);
      stands = record {
        links = rw c.in_default.ensures.unchanged
            (others_stay tables system past x frame c.args.self.now.links stands.links
            computed (sym missing));
      };
    }

pub returns-in-OutOfSequence-clause-selected : goal.returns-in-OutOfSequence-clause-selected
returns-in-OutOfSequence-clause-selected c tables system past bytes stands of computed =
    let x : Arrived = record { time = c.args.time; side = c.args.side; bytes = bytes } in
    let frame : FrameParts = parts_of c.args.view in
    let all = taken tables system past x frame c.args.self.now.links c.consider.new.self
    OutOfSequence stands.links of computed
    (rw (c.vl.ensures, c.sequence-number.ensures, c.in-OutOfSequence.is) at c.in-Some.ensures.considered) in
    record {
      computed = all.answers;
      right = (frame, all.received);
      stands = record { links = all.links };
    }

pub returns-in-Redundant-clause-selected : goal.returns-in-Redundant-clause-selected
returns-in-Redundant-clause-selected c tables system past bytes stands of computed =
    let x : Arrived = record { time = c.args.time; side = c.args.side; bytes = bytes } in
    let frame : FrameParts = parts_of c.args.view in
    let all = taken tables system past x frame c.args.self.now.links c.consider.new.self Redundant
    stands.links of computed
    (rw (c.vl.ensures, c.sequence-number.ensures, c.in-Redundant.is) at c.in-Some.ensures.considered) in
    record {
      computed = all.answers;
      right = (frame, all.received);
      stands = record { links = all.links };
    }

pub returns-in-Winner-clause-selected : goal.returns-in-Winner-clause-selected
returns-in-Winner-clause-selected c tables system past bytes stands of computed =
    let x : Arrived = record { time = c.args.time; side = c.args.side; bytes = bytes } in
    let frame : FrameParts = parts_of c.args.view in
    let all = taken tables system past x frame c.args.self.now.links c.consider.new.self Winner
    stands.links of computed
    (rw (c.vl.ensures, c.sequence-number.ensures, c.in-Winner.is) at c.in-Some.ensures.considered) in
    record {
      computed = c.read.ensures.answer tables system bytes of ∙ all.answers;
      right = read_right tables system past x frame (at_ports tables system (answer_of c.read.result))
          (c.read.ensures.right tables system bytes of) all.received;
      stands = record { links = all.links };
    }
