use Rattle.std.proofs.Common.{◌+◌, refl}
use Rattle.std.proofs.lemmas.Option.{slice_get_read}
use Rattle.afdx_port.specs.Held.{due_of}
use Rattle.afdx_port.proofs.DueLemmas.{if_due_comes}
use Rattle.afdx_switch.specs.HeldFrames.{facts}
use Rattle.afdx_switch.specs.Switching.{calls_at}
use Rattle.afdx_switch.proofs.TakeLemmas.{first-done, quiet-iff, due-comes}
use Rattle.afdx_switch.proofs.switch_state.SwitchState.order.Goals as goal

pub returns : goal.returns
returns c =
    let w = c.args.self.now in
    let p = c.index.result.now in
    let served = c.requires.served in
    let at = slice_get_read w.ports.items _ w.first p refl served.first.below c.index.ensures in
    record {
      due = due_of facts p;
      tells = record {
        comes = λ t side h st. due-comes t side w h st served p at (due_of facts p)
            (if_due_comes facts p (calls_at t side (w.first + 1) h p.clock) (due_of facts p)
            (st.ports w.first p at) refl);
        all_done = λ t side h port st low high.
            first-done t side w h st served p at (due_of facts p) refl port low high;
        quiet = λ time. quiet-iff w.ports.items w.first time p (due_of facts p) served at refl;
        limit = c.order.ensures.limit;
      };
      is = c.order.ensures.is;
    }
