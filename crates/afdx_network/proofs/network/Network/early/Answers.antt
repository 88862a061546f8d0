use Rattle.std.proofs.Common.{◌≡◌, sym, subst}
use Rattle.afdx_frame.specs.BySide.{on}
use Rattle.afdx_switch.specs.Switching as switch
use Rattle.afdx_switch.specs.declared.switch_state.SwitchState.{SwitchState}
use Rattle.afdx_network.specs.Events.{calls_on}
use Rattle.afdx_network.proofs.StandsLemmas.{stands-on}
use Rattle.afdx_network.proofs.network.Network.early.Goals as goal

pub returns : goal.returns
returns c t events tag st =
    let n = c.args.self.now in
    let side = c.args.side in
    let w : SwitchState = c.get.result.now in
    let is : w ≡ on side n.switches = c.get.ensures in
    let stands = subst (λ (z : SwitchState). switch.StandsFor t side z (calls_on side events (switch.last_time z)))
    (sym is) (stands-on t n events st side) in
    c.early.ensures t side (calls_on side events (switch.last_time w)) tag stands
