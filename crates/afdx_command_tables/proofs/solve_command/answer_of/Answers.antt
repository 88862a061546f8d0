use Rattle.std.specs.Prelude.{string_bytes}
use Rattle.std.proofs.lemmas.Result.{IfOk-weaker}
use Rattle.afdx_command_tables.proofs.SolveLemmas.{one-solution, one-denial, several-solution, several-denial}
use Rattle.afdx_command_tables.proofs.solve_command.answer_of.Goals as goal

pub returns-in-One-clause-solution : goal.returns-in-One-clause-solution
returns-in-One-clause-solution c =
    IfOk-weaker c.answer_of_one.result _ _
    (λ answer solves yes config read.
    one-solution c.args.options config c.args.file (string_bytes answer.text) (string_bytes answer.needs) read
    c.in-One.tables c.in-One.asked c.in-One.is c.as_slice.result.now c.as_slice.ensures.value (solves yes))
    c.answer_of_one.ensures.solution

pub returns-in-One-clause-denial : goal.returns-in-One-clause-denial
returns-in-One-clause-denial c =
    IfOk-weaker c.answer_of_one.result _ _
    (λ answer denies no_ config read.
    one-denial c.args.options config c.args.file (string_bytes answer.text) (string_bytes answer.needs) read
    c.in-One.tables c.in-One.asked c.in-One.is (denies no_))
    c.answer_of_one.ensures.denial

pub returns-in-Several-clause-solution : goal.returns-in-Several-clause-solution
returns-in-Several-clause-solution c =
    IfOk-weaker c.answer_of_several.result _ _
    (λ answer solves yes config read.
    several-solution c.args.options config c.args.file (string_bytes answer.text) (string_bytes answer.needs) read
    c.in-Several.switches c.in-Several.asked c.in-Several.is
    c.as_slice-in-Several.result.now c.as_slice-in-Several.ensures.value (solves yes))
    c.answer_of_several.ensures.solution

pub returns-in-Several-clause-denial : goal.returns-in-Several-clause-denial
returns-in-Several-clause-denial c =
    IfOk-weaker c.answer_of_several.result _ _
    (λ answer denies no_ config read.
    several-denial c.args.options config c.args.file (string_bytes answer.text) (string_bytes answer.needs) read
    c.in-Several.switches c.in-Several.asked c.in-Several.is (denies no_))
    c.answer_of_several.ensures.denial
