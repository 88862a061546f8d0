use Rattle.std.proofs.Common.{true≢false, arith, sym, ◌∙◌}
use Rattle.std.proofs.lemmas.Bool.{ltb-true}
use Rattle.afdx_send.proofs.IdleLemmas.{knows_marked, none_of}
use Rattle.afdx_send.proofs.sender_state.SenderState.prepare.Goals.{then-is_none, else-is_none}
use Rattle.afdx_send.proofs.sender_state.SenderState.prepare.Goals as goal

pub returns-clause-knows : goal.returns-clause-knows
returns-clause-knows c =
    let w = c.move_to.new.self in
    let b = c.if-is_none.self in
    elim c.if-is_none.branch [
      | then-is_none r ↦ knows_marked w b (λ is. none_of w.ready c.is_none.result c.is_none.ensures r.if-is_none.true)
          c.move_to.ensures.idle
          (λ is.
          let clock = c.move_to.ensures.clock in
          let before = ltb-true c.args.until 1200000000000000 (sym r.self-is ∙ is) in omega (arith, clock, before))
      | else-is_none r ↦ knows_marked w b (λ is. absurd (true≢false (sym is ∙ r.self-is ∙ r.if-is_none.false)))
          c.move_to.ensures.idle (λ is. absurd (true≢false (sym is ∙ r.self-is ∙ r.if-is_none.false)))
    ]
