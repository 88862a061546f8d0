use Rattle.std.proofs.Common.{sym, ◌∙◌}
use Rattle.afdx_senders.specs.Followed.{AreFollowed}
use Rattle.afdx_senders.specs.Lines.{came_there}
use Rattle.afdx_senders.proofs.LineLemmas.{found_next}
use Rattle.afdx_senders.proofs.StandingLemmas.{awaited_next, came_followed, came_others, on_ok}
use Rattle.afdx_senders.proofs.senders.Senders.came_to.Goals as goal

pub returns-clause-stands : goal.returns-clause-stands
returns-clause-stands c at may stand =
    let x = c.args.x.now in
    let place = c.args.place in
    let next = came_there at x place (at place) in
    let followed : AreFollowed next c.came.new.self = came_followed at x place (at place) c.came.new.self may
    (λ none. c.in_ok-heard.ensures.none at none stand.followed)
    (λ f is m. c.in_ok-heard.ensures.stands at f is m stand.followed) in
    on_ok (λ too. record {
      followed = followed;
      agenda = awaited_next at next place c.due-before.result c.due-after.result c.args.self.now.agenda
          c.put_due.new.self (λ k other. came_others at x place (at place) k other)
          (λ m was. stand.agenda place m (sym (c.due-before.ensures at stand.followed) ∙ was))
          (c.due-after.ensures next followed) too (λ k m other. stand.agenda k m);
    }) c.put_due.result c.put_due.ensures

pub returns-clause-found : goal.returns-clause-found
returns-clause-found c at may stand =
    let x = c.args.x.now in
    on_ok (λ too. found_next x (at c.args.place) c.in_ok-heard.heard c.args.self.now.found c.put_heard.new.found may
    (λ none. c.in_ok-heard.ensures.silent at none stand.followed)
    (λ f is m. c.in_ok-heard.ensures.found at f is m stand.followed)
    c.in_ok-put_heard.ensures.none c.in_ok-put_heard.ensures.found) c.put_due.result c.put_due.ensures
