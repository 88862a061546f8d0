use Rattle.std.proofs.Common.{ap, sym, ◌∙◌}
use Rattle.std.specs.Prelude.{option_map}
use Rattle.afdx_lawful.specs.Courses.{told_at}
use Rattle.afdx_lawful.specs.Sides.{next_in}
use Rattle.afdx_lawful.proofs.StandLemmas.{due_is, next_is, none_due}
use Rattle.afdx_lawful.proofs.sender.JudgedSource.due.Goals as goal

pub returns-in-Some : goal.returns-in-Some
returns-in-Some c s c' h =
    due_is s (next_in c.args.self.now.sides) _ c.in-Some.time c.args.self.now.terms.limits.hold
    c.in-Some.ensures.next h.terms.limits.hold
    ∙ ap (option_map (told_at s)) (sym (next_is s c' c.args.self.now.sides h.sides))

pub returns-in-None : goal.returns-in-None
returns-in-None c s c' h =
    none_due s (next_in c.args.self.now.sides) c.in-None.ensures.next
    ∙ ap (option_map (told_at s)) (sym (next_is s c' c.args.self.now.sides h.sides))
