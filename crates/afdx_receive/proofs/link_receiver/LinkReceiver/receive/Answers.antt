use Rattle.std.proofs.Common.{◌∷◌}
use Rattle.afdx_frame.specs.Parts.{bytes_of}
use Rattle.afdx_receive.specs.Arrivals.{Arrived}
use Rattle.afdx_receive.proofs.ReceptionLemmas.{frames_damaged, answer_damaged}
use Rattle.afdx_receive.proofs.ReceiverLemmas.{all_stay}
use Rattle.afdx_receive.proofs.link_receiver.LinkReceiver.receive.Goals as goal

pub returns-in-Ok-clause-selected : goal.returns-in-Ok-clause-selected
returns-in-Ok-clause-selected c tables system past stands =
    c.take_in.ensures.selected tables system past (bytes_of c.args.frame) stands
    c.in-Ok.ensures.ok c.in-Ok.ensures.computed

pub returns-in-Err-clause-selected : goal.returns-in-Err-clause-selected
returns-in-Err-clause-selected c tables system past stands =
    let x : Arrived = record { time = c.args.time; side = c.args.side; bytes = (bytes_of c.args.frame) } in
    record {
      computed = answer_damaged tables system past x c.in-Err.fault c.in-Err.ensures.computed;
      right = c.in-Err.ensures.err;
      stands = record {
        links = all_stay tables system past (x ∷ past) c.args.self.now.links stands.links
            (λ vl. frames_damaged x past c.in-Err.fault vl c.in-Err.ensures.computed);
      };
    }
