use Rattle.std.proofs.Common.{◌≡◌, ◌∙◌, List, ◌∷◌, refl, sym, subst}
use Rattle.std.specs.Prelude.{None}
use Rattle.afdx_frame.specs.Parts.{bytes_of}
use Rattle.afdx_police.specs.Arrival.{Arrival, arrival_with}
use Rattle.afdx_port.specs.declared.left.Left.{Left}
use Rattle.afdx_switch.specs.Departures.{as_given}
use Rattle.afdx_switch.specs.Early.{IsEarlyBy}
use Rattle.afdx_switch.specs.HeldFrames.{HeldFrame}
use Rattle.afdx_switch.specs.Verdicts.{shape_fault}
use Rattle.afdx_network.specs.Events.{admission_after}
use Rattle.afdx_network.specs.Network.{reason_in}
use Rattle.afdx_cascade.specs.Cables.{brought}
use Rattle.afdx_cascade.specs.Runs.{arriving}
use Rattle.afdx_cascade.specs.SwitchEvents.{came_to}
use Rattle.afdx_cascade.proofs.EarlyLemmas.{brought-is, early-told, early-none}
use Rattle.afdx_cascade.proofs.MoreLemmas.{came-same}
use Rattle.afdx_cascade.proofs.arriving.early_by.Goals as goal

pub returns-then-not-is_over_rate : goal.returns-then-not-is_over_rate
returns-then-not-is_over_rate c p so_far r stand side left tells =
    early-none (p.tables c.args.switch.0) (came_to c.args.switch.0 so_far)
    (brought r.side c.args.port r.turn) (reason_in c.args.verdict) tells.reason
    (sym c.if-not-is_over_rate.ensures)

pub returns : goal.returns
returns c p so_far r stand side left tells =
    let k = c.args.switch.0 in
    let x : Arrival = brought r.side c.args.port r.turn in
    let gone : Left HeldFrame = as_given c.args.departure.now in
    let y : Arrival = arrival_with gone.item.tag c.time-time.result c.side.result c.args.port
    (bytes_of c.frame-frame.result) in
    let same : y ≡ x = brought-is gone.item.tag c.time-time.result c.side.result r.side
    c.args.port (bytes_of c.frame-frame.result) r.turn gone refl c.time-time.ensures c.frame-frame.ensures.bytes
    (c.side.ensures ∙ side) left in
    let early : shape_fault (p.tables k) x ≡ None
    → IsEarlyBy (p.tables k) (came_to k (arriving p so_far k x ∷ so_far)) x c.early_at.result =
    subst (λ z. shape_fault (p.tables k) z ≡ None
    → IsEarlyBy (p.tables k) (came_to k (arriving p so_far k x ∷ so_far)) z c.early_at.result) same
    (c.early_at.ensures p (arriving p so_far k x ∷ so_far) gone.item.tag stand) in
    early-told (p.tables k) (came_to k so_far) x (reason_in c.args.verdict) tells.reason c.early_at.result
    (sym c.if-not-is_over_rate.ensures)
    (λ sound. subst (λ (past : List Arrival). IsEarlyBy (p.tables k) past x c.early_at.result)
    (came-same k (admission_after (p.tables k) (came_to k so_far) x) so_far) (early sound))
