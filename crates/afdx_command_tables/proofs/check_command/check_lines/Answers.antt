use Rattle.std.proofs.Common.{refl, inl, inr, ◌∙◌}
use Rattle.afdx_command_tables.proofs.RefusalLemmas.{file-refused, file-faulty}
use Rattle.afdx_command_tables.proofs.check_command.check_lines.Goals as goal

pub returns-in-Err-clause-refused : goal.returns-in-Err-clause-refused
returns-in-Err-clause-refused g c = λ is. inr (record {
  refuses = file-faulty _ _ _ _ _
      (file-refused _ _ _ _ _ _ c.refuse_file.ensures.told c.refuse_file.ensures.memory
      c.in-Err.ensures.fault) is;
  written = refl;
})

pub returns-clause-stopped : goal.returns-clause-stopped
returns-clause-stopped g c =
    let text = c.as_bytes.ensures ∙ c.in-Ok-checked_file.ensures.text in
    λ is. inl (record {
      failed = rw c.in-Err-write_text.ensures.fault at c.in-Err-write_text.ensures.failed;
      described = c.in-Ok.described;
      begins = record {
        read = record {
          described = c.in-Ok.ensures.ok;
          one = c.in-Ok.ensures.one;
          lawful = c.in-Ok.ensures.lawful;
        };
        written = rw text at c.in-Err-write_text.ensures.front;
      };
      told = rw c.in-Err-write_text.ensures.fault at c.tell_fault.ensures;
    })
