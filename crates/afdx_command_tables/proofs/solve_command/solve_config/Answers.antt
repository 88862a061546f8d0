use Rattle.std.proofs.Common.{refl, inl}
use Rattle.std.specs.Prelude.{string_bytes}
use Rattle.afdx_command_tables.proofs.SolveLemmas.{either}
use Rattle.afdx_command_tables.proofs.solve_command.solve_config.Goals as goal

pub returns-in-Ok-write_text-clause-solution : goal.returns-in-Ok-write_text-clause-solution
returns-in-Ok-write_text-clause-solution g c = λ is. record {
  text = string_bytes c.in-Ok-answer_of.answer.text;
  needs = string_bytes c.in-Ok-answer_of.answer.needs;
  solution = c.in-Ok-answer_of.ensures.solution c.if-answer.true c.args.config.now c.in-Ok.ensures.ok;
  written = rw c.as_bytes.ensures.value at c.in-Ok-write_text.ensures.written;
  told = rw c.as_bytes-in-Ok-write_text.ensures.value at c.tell.ensures;
}

pub returns-in-Ok-2-clause-refused : goal.returns-in-Ok-2-clause-refused
returns-in-Ok-2-clause-refused g c = λ is. inl (record {
  text = string_bytes c.in-Ok-answer_of.answer.text;
  denial = c.in-Ok-answer_of.ensures.denial c.if-answer.false c.args.config.now c.in-Ok.ensures.ok;
  written = rw c.as_bytes.ensures.value at c.in-Ok-write_text.ensures.written;
  told = refl;
})

pub returns-clause-stopped : goal.returns-clause-stopped
returns-clause-stopped g c =
    let config = c.args.config.now in
    λ is. inl (record {
      failed = rw c.in-Err-write_text.ensures.fault at c.in-Err-write_text.ensures.failed;
      text = string_bytes c.in-Ok-answer_of.answer.text;
      needs = string_bytes c.in-Ok-answer_of.answer.needs;
      answer = either c.in-Ok-answer_of.answer.is_solution
          (λ yes. c.in-Ok-answer_of.ensures.solution yes config c.in-Ok.ensures.ok)
          (λ no_. c.in-Ok-answer_of.ensures.denial no_ config c.in-Ok.ensures.ok);
      begun = rw c.as_bytes.ensures.value at c.in-Err-write_text.ensures.front;
      told = rw c.in-Err-write_text.ensures.fault at c.tell_fault.ensures;
    })
