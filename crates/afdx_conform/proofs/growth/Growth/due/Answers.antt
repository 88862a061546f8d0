use Rattle.std.proofs.Common.{◌≡◌, ℕ, length, get_or, ap, ◌∙◌, arith}
use Rattle.std.specs.Prelude.{Some}
use Rattle.afdx_conform.specs.declared.upcoming.Upcoming.{Upcoming}
use Rattle.afdx_conform.proofs.DueNowLemmas.{due-arrival, due-closing, due-over, due-unsure}
use Rattle.afdx_conform.proofs.growth.Growth.due.Goals as goal

pub returns-then-self : goal.returns-then-self
returns-then-self c = due-unsure c.args.self.now c.if-self.true

pub returns-in-None : goal.returns-in-None
returns-in-None c =
    let none = c.upcoming.ensures.none c.in-None.is in
    due-over c.args.self.now c.if-self.false none.0 none.1

pub returns-in-Some-Arrival : goal.returns-in-Some-Arrival
returns-in-Some-Arrival c =
    let is = c.in-Some-Arrival.is ∙ ap (λ (u : Upcoming). Some u) c.in-Some-Arrival.field-0-is in
    let place : c.len-place.result ≡ length c.args.self.now.judging.marks.items =
    (let e = c.len-place.ensures in let ok = c.args.self.now.judging.marks.ok in omega (arith, e, ok)) in
    let at = c.index.ensures ∙ ap (λ (n : ℕ). get_or c.args.self.now.arrivals.items n c.index.result.now) place in
    due-arrival c.args.self.now c.index.result.now c.moment_of.result c.if-self.false (c.upcoming.ensures.arrival is) at
    (λ f lt e. c.upcoming.ensures.first c.index.result.now f is lt at e) c.moment_of.ensures

pub returns-in-Some-Closing : goal.returns-in-Some-Closing
returns-in-Some-Closing c =
    let is = c.in-Some-Closing.is ∙ ap (λ (u : Upcoming). Some u) c.in-Some-Closing.field-0-is in
    due-closing c.args.self.now c.index-in-Some-Closing.result.now c.moment_of-in-Some-Closing.result c.if-self.false
    (c.upcoming.ensures.closing is) c.index-in-Some-Closing.ensures
    (λ a lt e. c.upcoming.ensures.before a c.index-in-Some-Closing.result.now is lt e c.index-in-Some-Closing.ensures)
    c.moment_of-in-Some-Closing.ensures
