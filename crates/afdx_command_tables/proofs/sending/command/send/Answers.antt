use Rattle.std.proofs.Common.{rules, refl, inl, inr}
use Rattle.afdx_command_tables.proofs.sending.command.send.Goals as goal

pub returns-clause-sends : goal.returns-clause-sends
returns-clause-sends g c = (
  c.send_and_count.result,
  refl,
  elim c.send_and_count.ensures.sends [
    | inl sent ↦ inl (sent.0, search rules, search rules)
    | inr none ↦ inr (none.0, none.1, search rules)
  ],
)
