use Rattle.std.proofs.Common.{◌≡◌, ◌∙◌, ap, sym, subst, List, ◌∷◌, None}
use Rattle.afdx_network.specs.declared.network.Network.{Network}
use Rattle.afdx_port.specs.declared.left.Left.{Left}
use Rattle.afdx_switch.specs.HeldFrames.{HeldFrame}
use Rattle.afdx_switch.specs.Verdicts.{shape_fault}
use Rattle.afdx_cascade.specs.Cables.{brought}
use Rattle.afdx_cascade.specs.Runs.{arriving}
use Rattle.afdx_cascade.specs.Standing.{Stands}
use Rattle.afdx_cascade.specs.Turning.{AreInTransit, IsInTransit}
use Rattle.afdx_cascade.specs.declared.cable.InTransit.{InTransit}
use Rattle.afdx_cascade.specs.declared.told.Happened.TheVariants.{Came}
use Rattle.afdx_cascade.proofs.turning.front_at.Goals as goal
use Rattle.afdx_cascade.proofs.TurningLemmas.{front-one, on-err, split-transit}

pub returns-clause-arrives : goal.returns-clause-arrives
returns-clause-arrives c p at r rest so_far plan st are =
    let parts = split-transit p c.args.transit.now.items c.in-Some.front.now r rest are c.in-Some.ensures.lookup in
    record {
      at = record { switch = c.in-Some.front.now.switch; side = c.side-side.result; port = c.in-Some.front.now.port };
      verdict = c.in_ok-verdict.verdict;
      early = c.early_by-early.result;
      is = ap (λ t. Came (record {
        switch = c.in-Some.front.now.switch;
        side = c.side-side.result;
        port = c.in-Some.front.now.port;
      }) t c.tag-tag.result c.in_ok-verdict.verdict c.early_by-early.result)
          (c.time-time.ensures ∙ ap (λ (l : Left HeldFrame). l.end) parts.0.left)
          ∙ ap (λ t. Came (record {
            switch = c.in-Some.front.now.switch;
            side = c.side-side.result;
            port = c.in-Some.front.now.port;
          }) r.turn.end t c.in_ok-verdict.verdict c.early_by-early.result)
          (c.tag-tag.ensures ∙ ap (λ (l : Left HeldFrame). l.item.tag) parts.0.left);
      side = c.side-side.ensures ∙ parts.0.side;
      to = parts.0.to;
      stands = subst (λ (n : List Network). Stands p n at rest (arriving p so_far c.in-Some.front.now.switch.0
          (brought r.side c.in-Some.front.now.port r.turn) ∷ so_far)) (sym c.give_back_at.ensures)
          (c.in_ok-verdict.ensures.stands p at r rest so_far plan st parts.0.to parts.0.side parts.0.left);
      in_transit = subst (λ w. AreInTransit p w rest) (sym c.pop_front.ensures.rest) parts.1;
      tells = c.in_ok-verdict.ensures.verdict p at r rest so_far st parts.0.side parts.0.left;
      was_early = c.early_by-early.ensures p so_far r
          (c.in_ok-verdict.ensures.stands p at r rest so_far plan st parts.0.to parts.0.side parts.0.left).all
          parts.0.side parts.0.left
          (c.in_ok-verdict.ensures.verdict p at r rest so_far st parts.0.side parts.0.left);
    }

pub returns-in_err-verdict-clause-judged : goal.returns-in_err-verdict-clause-judged
returns-in_err-verdict-clause-judged c p at r rest so_far v st here on =
    let same = front-one c.args.transit.now.items v c.in-Some.front.now here c.in-Some.ensures.lookup in
    let it = subst (λ (z : InTransit). IsInTransit p z r) same on in
    on-err c.from_residual.result _
    (subst (λ (z : InTransit). shape_fault (p.tables z.switch.0) (brought r.side z.port r.turn) ≡ None) (sym same)
    (c.in_err-verdict.ensures.judged p at r rest so_far st it.side it.left))
