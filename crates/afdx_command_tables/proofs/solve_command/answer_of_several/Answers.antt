use Rattle.std.proofs.Common.{sym, subst, ◌∙◌}
use Rattle.afdx_admit.specs.Cascade.{IsCascadeAdmitted}
use Rattle.afdx_solve.specs.SolvedCascade.{IsLeastSolution}
use Rattle.afdx_command_tables.proofs.solve_command.answer_of_several.Goals as goal

pub returns-in_ok-needs-in-Ok-clause-solution : goal.returns-in_ok-needs-in-Ok-clause-solution
returns-in_ok-needs-in-Ok-clause-solution c = λ _.
    let o = c.args.options in
    let file = c.args.switches in
    let switches = c.switches-switches.result.now in
    let same = sym c.switches-switches.ensures.switches in
    let solution : IsLeastSolution o file switches = subst (IsLeastSolution o file) same c.in-Ok.ensures.solved in
    record {
      switches = switches;
      solution = solution;
      layout = c.in_ok-text-in-Ok.ensures.text;
      spells = c.in_ok-text-in-Ok.ensures.spells;
      admitted = subst IsCascadeAdmitted same c.in-Ok.ensures.admitted;
      least = λ others are allowed stand. c.cascade_is_least.ensures o file switches others solution are allowed
          stand;
      leaves = c.none_is_short.ensures.several o.apart switches
          (sym c.first_short_at.ensures.first ∙ c.in_default.is);
      told = c.in_ok-needs-in-Ok.ensures;
    }
