use Rattle.std.proofs.Common.{◌≡◌, sym, subst}
use Rattle.afdx_frame.specs.BySide.{on}
use Rattle.afdx_frame.specs.declared.link.Side.TheVariants.{A, B}
use Rattle.afdx_switch.specs.Switching as switch
use Rattle.afdx_switch.specs.declared.switch_state.SwitchState.{SwitchState}
use Rattle.afdx_network.specs.Events.{calls_on}
use Rattle.afdx_network.proofs.StandsLemmas.{must-give, stands-on, gives-at}
use Rattle.afdx_network.proofs.network.Network.take_first.Goals as goal

pub take_due-departure-requires-clause-given : goal.take_due-departure-requires-clause-given
take_due-departure-requires-clause-given c = λ quiet.
    let first = c.requires.first in
    must-give c.args.side c.args.self.now c.args.until first.a first.b first.first
    first.tells_a.quiet first.tells_b.quiet
    (subst (λ (w : SwitchState). switch.IsQuiet w c.args.until) c.get_mut.ensures.value quiet)

pub returns-clause-given : goal.returns-clause-given
returns-clause-given c t events st =
    let n = c.args.self.now in
    let side = c.args.side in
    let first = c.requires.first in
    let w : SwitchState = c.get_mut.result.now in
    let is : w ≡ on side n.switches = c.get_mut.ensures.value in
    let stands = subst (λ (z : SwitchState). switch.StandsFor t side z (calls_on side events (switch.last_time z)))
    (sym is) (stands-on t n events st side) in
    let gives = c.take_due-departure.ensures.given t side (calls_on side events (switch.last_time w)) stands in
    rw c.on.ensures (gives-at t n events st side c.take_due-departure.new.self c.args.until
    c.take_due-departure.result first.a first.b first.first c.requires.clock
    (first.tells_a.comes t A (calls_on A events (switch.last_time n.switches.a)) st.on_a)
    (first.tells_b.comes t B (calls_on B events (switch.last_time n.switches.b)) st.on_b)
    (λ port low high. first.tells_a.all_done t A
    (calls_on A events (switch.last_time n.switches.a)) port st.on_a low high)
    (λ port low high. first.tells_b.all_done t B
    (calls_on B events (switch.last_time n.switches.b)) port st.on_b low high)
    (subst (λ (z : SwitchState). switch.Gives t side (calls_on side events (switch.last_time z)) c.args.until
    c.take_due-departure.result c.take_due-departure.new.self) is gives))
