use Rattle.std.proofs.Common.{List, subst, sym, ◌∙◌}
use Rattle.afdx_lawful.specs.Courses.{told_too, waited_on}
use Rattle.afdx_lawful.specs.Sides.{StandBoth, next_in}
use Rattle.afdx_lawful.specs.Sources.{Came}
use Rattle.afdx_lawful.proofs.CourseLemmas.{told_course}
use Rattle.afdx_lawful.proofs.StandLemmas.{if_none, if_some, next_is, next_on, none_left, none_next}
use Rattle.afdx_lawful.proofs.TallyLemmas.{same_came}
use Rattle.afdx_lawful.proofs.sender.JudgedSource.tell.Goals as goal

pub returns-in-Some-clause-none : goal.returns-in-Some-clause-none
returns-in-Some-clause-none c s c' h =
    let on = next_on c.args.self.now.sides c.in-Some.side _ c.in-Some.ensures.next in
    if_none c.tell.result _ _ (λ none. absurd (cc (none.0, on.old))) c.tell.ensures.none

pub returns-in-Some-clause-told : goal.returns-in-Some-clause-told
returns-in-Some-clause-told c s c' h =
    let sides = c.args.self.now.sides in
    let on = next_on sides c.in-Some.side _ c.in-Some.ensures.next in
    if_some c.tell.result _ _ (λ told p. (
      p.0,
      next_is s c' sides h.sides ∙ on.next ∙ sym on.old ∙ p.1,
      λ known.
          let t = p.2 known in (
            t.is,
            record {
              rule = h.rule;
              system = h.system;
              terms = h.terms;
              sides = subst (λ (xs : List Came). StandBoth s xs (waited_on (told_too s c' p.0)) c.tell.new.self)
                  (sym (same_came s c' p.0 c.args.self.now.tally p.0.frame.side)) t.sides;
              tally = t.tallied;
              course = told_course s c' h.course p.0 p.0.frame.side;
            },
          ),
    )) (c.tell.ensures.told s c' h.terms h.sides h.tally)

pub returns-in-None-clause-none : goal.returns-in-None-clause-none
returns-in-None-clause-none c s c' h =
    let none = none_next (next_in c.args.self.now.sides) c.in-None.ensures.next in
    (none_left s c' c.args.self.now.sides h.sides none, h)
