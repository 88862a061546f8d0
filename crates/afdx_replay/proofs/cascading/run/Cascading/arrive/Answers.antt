use Rattle.std.proofs.Common.{◌≡◌, ◌∷◌, ◌∙◌, None, ap, refl, arith, sym}
use Rattle.afdx_cascade.specs.Cascade.{ArrivesNext, line_at}
use Rattle.afdx_cascade.specs.Plans.{plan_of}
use Rattle.afdx_cascade.specs.Runs.{arriving}
use Rattle.afdx_cascade.specs.SwitchEvents.{came_to}
use Rattle.afdx_input_sources.specs.Listed.{arrival_at}
use Rattle.afdx_input_lines.specs.FrameLines.{listed_frame}
use Rattle.afdx_police.specs.Verdicts.{is_over_rate}
use Rattle.afdx_switch.specs.Early.{IsEarlyBy}
use Rattle.afdx_switch.specs.Verdicts.{shape_fault}
use Rattle.afdx_replay.proofs.CascadeStepLemmas.{arrived, arrived-early, arrived-other}
use Rattle.afdx_replay.proofs.cascading.run.Cascading.arrive.Goals as goal

pub early-early-requires-clause-within : goal.early-early-requires-clause-within
early-early-requires-clause-within g c =
    let r = c.requires.stands in
    let next = c.in_ok-verdict.ensures.next (plan_of r.0) r.1 r.2
    r.3 in
    let within = c.requires.within in
    let was = r.2.count in
    let is = next.stands.count in
    omega (arith, within, was, is)

pub early-early-requires-clause-clock : goal.early-early-requires-clause-clock
early-early-requires-clause-clock g c =
    let r = c.requires.stands in
    (c.in_ok-verdict.ensures.next (plan_of r.0) r.1 r.2
    r.3).clock

pub returns-then-is_over_rate-clause-clock : goal.returns-then-is_over_rate-clause-clock
returns-then-is_over_rate-clause-clock g c =
    let r = c.requires.stands in
    (c.in_ok-verdict.ensures.next (plan_of r.0) r.1 r.2
    r.3).clock

pub returns-else-is_over_rate-clause-clock : goal.returns-else-is_over_rate-clause-clock
returns-else-is_over_rate-clause-clock g c =
    let r = c.requires.stands in
    (c.in_ok-verdict.ensures.next (plan_of r.0) r.1 r.2
    r.3).clock

pub returns-then-is_over_rate-clause-next : goal.returns-then-is_over_rate-clause-next
returns-then-is_over_rate-clause-next g c s so_far stands free =
    let x = arrival_at c.args.n (listed_frame c.args.heading.now c.args.message.now) in
    let k = c.args.heading.now.switch in
    let v = c.in_ok-verdict.verdict in
    let next : ArrivesNext (plan_of s) c.arrive.new.self so_far (line_at k x) v =
    rw c.frame-frame.ensures at (c.in_ok-verdict.ensures.next (plan_of s) so_far stands
    free) in
    let early : shape_fault ((plan_of s).tables k) x ≡ None
    → IsEarlyBy ((plan_of s).tables k) (came_to k (arriving (plan_of s) so_far k x ∷ so_far)) x c.early-early.result =
    rw c.frame-frame.ensures at
    (c.early-early.ensures (plan_of s) (arriving (plan_of s) so_far k x ∷ so_far) c.args.n next.stands) in
    arrived (plan_of s) c.arrive.new.self so_far k x v next k c.early-early.result refl
    (arrived-early (plan_of s) c.arrive.new.self so_far k x v next c.early-early.result
    (ap is_over_rate (sym c.reason_of.ensures) ∙ sym c.if-is_over_rate.ensures) early)

pub returns-else-is_over_rate-clause-next : goal.returns-else-is_over_rate-clause-next
returns-else-is_over_rate-clause-next g c s so_far stands free =
    let x = arrival_at c.args.n (listed_frame c.args.heading.now c.args.message.now) in
    let k = c.args.heading.now.switch in
    let v = c.in_ok-verdict.verdict in
    let next : ArrivesNext (plan_of s) c.arrive.new.self so_far (line_at k x) v =
    rw c.frame-frame.ensures at (c.in_ok-verdict.ensures.next (plan_of s) so_far stands
    free) in
    arrived (plan_of s) c.arrive.new.self so_far k x v next k 0 refl
    (arrived-other (plan_of s) c.arrive.new.self so_far k x v next
    (ap is_over_rate (sym c.reason_of.ensures) ∙ sym c.if-is_over_rate.ensures))
