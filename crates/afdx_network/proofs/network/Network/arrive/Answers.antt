use Rattle.std.proofs.Common.{◌≡◌, sym, subst}
use Rattle.std.specs.Prelude.{OnOk}
use Rattle.afdx_frame.specs.Parts.{bytes_of}
use Rattle.afdx_frame.specs.BySide.{on}
use Rattle.afdx_police.specs.Arrival.{arrival_with}
use Rattle.afdx_switch.specs.Switching as switch
use Rattle.afdx_switch.specs.Switching.{with_arrival}
use Rattle.afdx_switch.specs.declared.switch_state.SwitchState.{SwitchState}
use Rattle.afdx_network.specs.Events.{calls_on}
use Rattle.afdx_network.proofs.StandsLemmas.{on-ok, stands-on, stands-came}
use Rattle.afdx_network.proofs.VerdictLemmas.{if-tells}
use Rattle.afdx_network.proofs.network.Network.arrive.Goals as goal

pub returns-clause-verdict : goal.returns-clause-verdict
returns-clause-verdict c t events st =
    let n = c.args.self.now in
    let side = c.args.side in
    let w : SwitchState = c.get_mut.result.now in
    let is : w ≡ on side n.switches = c.get_mut.ensures.value in
    let stands = subst (λ (z : SwitchState). switch.StandsFor t side z (calls_on side events (switch.last_time z)))
    (sym is) (stands-on t n events st side) in
    if-tells t _ (arrival_with c.args.tag c.args.time side c.args.port (bytes_of c.args.frame))
    c.arrive_checked.result st.lawful
    (c.arrive_checked.ensures.verdict t side (calls_on side events (switch.last_time w)) stands)

pub returns-clause-stands : goal.returns-clause-stands
returns-clause-stands c t events st =
    let n = c.args.self.now in
    let side = c.args.side in
    let w : SwitchState = c.get_mut.result.now in
    let is : w ≡ on side n.switches = c.get_mut.ensures.value in
    let x = arrival_with c.args.tag c.args.time side c.args.port (bytes_of c.args.frame) in
    let stands = subst (λ (z : SwitchState). switch.StandsFor t side z (calls_on side events (switch.last_time z)))
    (sym is) (stands-on t n events st side) in
    on-ok c.arrive_checked.result _ _
    (λ came. stands-came t n events st side c.arrive_checked.new.self c.args.tag c.args.time c.args.port
    (bytes_of c.args.frame) c.requires.clock came c.arrive_checked.ensures.quiet c.requires.quiet)
    (subst (λ (z : SwitchState). OnOk c.arrive_checked.result (switch.StandsFor t side c.arrive_checked.new.self
    (with_arrival (calls_on side events (switch.last_time z)) x))) is
    (c.arrive_checked.ensures.stands t side (calls_on side events (switch.last_time w)) stands))

pub returns-clause-judged : goal.returns-clause-judged
returns-clause-judged c t events st =
    let n = c.args.self.now in
    let side = c.args.side in
    let w : SwitchState = c.get_mut.result.now in
    let is : w ≡ on side n.switches = c.get_mut.ensures.value in
    c.arrive_checked.ensures.judged t side (calls_on side events (switch.last_time w))
    (subst (λ (z : SwitchState). switch.StandsFor t side z (calls_on side events (switch.last_time z)))
    (sym is) (stands-on t n events st side))
