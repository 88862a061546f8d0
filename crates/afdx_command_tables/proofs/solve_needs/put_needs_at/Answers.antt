use Rattle.std.proofs.Common.{◌≡◌, ◌++◌, List, ℕ, subst}
use Rattle.std.specs.Prelude.{OnOk, string_bytes}
use Rattle.afdx_command_tables.proofs.SolveLemmas.{at_system, at_no_system, at_unused}
use Rattle.afdx_command_tables.proofs.solve_needs.put_needs_at.Goals as goal

pub returns-in-Some-bounds_of : goal.returns-in-Some-bounds_of
returns-in-Some-bounds_of c =
    subst (λ (more : List ℕ). OnOk c.put_needs_to.result
    (string_bytes c.put_needs_to.new.text ≡ string_bytes c.args.text.now ++ more))
    (at_system c.args.switch.now c.args.tables.now c.args.asked.now c.args.port c.in-Some.end.0 c.in-Some.ensures.place)
    c.put_needs_to.ensures

pub returns-in-None-bounds_of : goal.returns-in-None-bounds_of
returns-in-None-bounds_of c =
    at_unused c.args.switch.now c.args.tables.now c.args.asked.now c.args.port (string_bytes c.args.text.now)
    c.in-None-bounds_of.ensures.known

pub returns-in-None : goal.returns-in-None
returns-in-None c =
    at_no_system c.args.switch.now c.args.tables.now c.args.asked.now c.args.port (string_bytes c.args.text.now)
    c.in-None.ensures.place
