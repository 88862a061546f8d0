use Rattle.std.proofs.Common.{◌≡◌, string_bytes, [], refl, sym, ap, subst, ◌∙◌}
use Rattle.afdx_config.specs.Lawful.{IsLawful, IsLawfulSwitch}
use Rattle.afdx_config.specs.Reading.{Spells}
use Rattle.afdx_config.proofs.AmongOthersLemmas.{alone-one}
use Rattle.afdx_solve.specs.ConfigText.{config_text}
use Rattle.afdx_solve.specs.Short.{first_short}
use Rattle.afdx_solve.specs.Solved.{solved}
use Rattle.afdx_command_tables.specs.SolveText.{needs_text}
use Rattle.afdx_command_tables.proofs.SolveLemmas.{solved-alone}
use Rattle.afdx_command_tables.proofs.solve_command.answer_of_one.Goals as goal

pub returns-in_ok-needs-in-Ok-clause-solution : goal.returns-in_ok-needs-in-Ok-clause-solution
returns-in_ok-needs-in-Ok-clause-solution c = λ _ one.
    let o = c.args.options in
    let t = c.args.tables in
    let all = c.tables-tables.result.now in
    let is : all ≡ solved o t = c.tables-tables.ensures.tables ∙ c.in-Ok.ensures.solved in
    let own = solved-alone o t all one.own is in
    let switch = subst IsLawfulSwitch c.in-Ok.ensures.solved c.tables-tables.ensures.lawful in
    let lawful : IsLawful (solved o t) = alone-one (solved o t) switch
    (solved-alone o t (solved o t) one.own refl) in
    record {
      layout = c.in_ok-text-in-Ok.ensures.text ∙ ap config_text is;
      spells = subst (Spells (string_bytes c.in_ok-text-in-Ok.text)) is (c.in_ok-text-in-Ok.ensures.spells own);
      admitted = c.in-Ok.ensures.admitted;
      least = λ raise. c.each_is_least.ensures o t raise lawful c.in-Ok.ensures.admitted;
      leaves = c.none_is_short.ensures.one o.apart (solved o t)
          (ap (first_short o.apart) (sym is) ∙ sym c.first_short.ensures ∙ c.in_default.is);
      told = c.in_ok-needs-in-Ok.ensures ∙ ap (λ r. needs_text [] r c.args.asked.now) is;
    }
