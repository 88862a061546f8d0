use Rattle.std.proofs.Common.{ap}
use Rattle.afdx_lawful.proofs.CourseLemmas.{first_course}
use Rattle.afdx_lawful.proofs.OneSideLemmas.{first_known}
use Rattle.afdx_lawful.proofs.sender.JudgedSource.new.Goals as goal

pub returns : goal.returns
returns c s of =
    let first = first_known s c.args.by.now.start c.is_some-is_begun.result c.is_some-is_begun.ensures
    (ap (λ l. l.start) of.leeway) in
    record {
      rule = of.of_rule;
      system = of.from;
      terms = record {
        limits = c.new.ensures s of.of_rule of.leeway;
        apart = of.copies;
        start = ap (λ l. l.start) of.leeway;
        paired = of.sides;
      };
      sides = c.new-2.ensures s first;
      tally = c.new-3.ensures s;
      course = first_course s;
    }
