use Rattle.std.proofs.Common.{◌+◌, refl}
use Rattle.std.proofs.lemmas.Option.{slice_get_read}
use Rattle.afdx_switch.specs.Switching.{calls_at}
use Rattle.afdx_switch.proofs.TakeLemmas.{first-done, quiet-iff, due-comes}
use Rattle.afdx_switch.proofs.switch_state.SwitchState.due.Goals as goal

pub returns : goal.returns
returns c =
    let w = c.args.self.now in
    let p = c.index.result.now in
    let served = c.requires.served in
    let at = slice_get_read w.ports.items _ w.first p refl served.first.below c.index.ensures in
    record {
      comes = λ t side h st. due-comes t side w h st served p at c.due.result
          (c.due.ensures.comes (calls_at t side (w.first + 1) h p.clock) (st.ports w.first p at));
      all_done = λ t side h port st low high.
          first-done t side w h st served p at c.due.result c.due.ensures.due port low high;
      quiet = λ time. quiet-iff w.ports.items w.first time p c.due.result served at c.due.ensures.due;
      limit = c.due.ensures.limit;
    }
