use Rattle.afdx_frame.specs.declared.link.Side.TheVariants.{A, B}
use Rattle.afdx_switch.specs.Switching as switch
use Rattle.afdx_network.specs.Events.{calls_on}
use Rattle.afdx_network.proofs.FirstLemmas.{are-all}
use Rattle.afdx_network.proofs.StandsLemmas.{late-none, if-none}
use Rattle.afdx_network.proofs.network.Network.take.Goals as goal

pub returns-in_err-side-clause-all_done : goal.returns-in_err-side-clause-all_done
returns-in_err-side-clause-all_done c t events st late =
    let n = c.args.self.now in
    let later = c.in_err-side.ensures c.order.ensures.due c.order-2.ensures.due c.order.ensures.is
    c.order-2.ensures.is c.order.ensures.tells.limit c.order-2.ensures.tells.limit in
    let none_a = late-none c.order.ensures.due c.args.until late c.order.ensures.tells.limit later.on_a in
    let none_b = late-none c.order-2.ensures.due c.args.until late c.order-2.ensures.tells.limit later.on_b in
    rw c.from_residual.ensures (are-all t n events st
    (λ port low high. if-none c.order.ensures.due _ none_a
    (c.order.ensures.tells.all_done t A (calls_on A events (switch.last_time n.switches.a)) port st.on_a low high))
    (λ port low high. if-none c.order-2.ensures.due _ none_b
    (c.order-2.ensures.tells.all_done t B (calls_on B events (switch.last_time n.switches.b)) port st.on_b low high)))

pub returns-in_err-side-clause-quiet : goal.returns-in_err-side-clause-quiet
returns-in_err-side-clause-quiet c =
    let later = c.in_err-side.ensures c.order.ensures.due c.order-2.ensures.due c.order.ensures.is
    c.order-2.ensures.is c.order.ensures.tells.limit c.order-2.ensures.tells.limit in
    rw c.from_residual.ensures (record {
      on_a = (c.order.ensures.tells.quiet c.args.until).1 later.on_a;
      on_b = (c.order-2.ensures.tells.quiet c.args.until).1 later.on_b;
    })

-- the side whose turn goes first gives it
pub take_first-requires-clause-first : goal.take_first-requires-clause-first
take_first-requires-clause-first c = record {
  a = c.order.ensures.due;
  b = c.order-2.ensures.due;
  tells_a = c.order.ensures.tells;
  tells_b = c.order-2.ensures.tells;
  first = c.in_ok-side.ensures c.order.ensures.due c.order-2.ensures.due c.order.ensures.is
      c.order-2.ensures.is c.order.ensures.tells.limit c.order-2.ensures.tells.limit;
}
