use Rattle.std.proofs.Common.{◌≡◌, List, ℕ, subst}
use Rattle.std.specs.Prelude.{OnOk, string_bytes, codes, decimal}
use Rattle.afdx_command_tables.specs.Commands.{counted}
use Rattle.afdx_command_tables.specs.SolveText.{port_text}
use Rattle.afdx_command_tables.proofs.SolveLemmas.{pieces}
use Rattle.afdx_command_tables.proofs.solve_needs.put_told.Goals as goal

pub returns : goal.returns
returns c =
    subst (λ (text : List ℕ). OnOk c.write-2.result (string_bytes c.write-2.new.self ≡ text))
    (pieces (string_bytes c.args.text.now) (decimal c.args.vl) (port_text c.args.switch.now c.args.port)
    (counted (codes ": ") c.args.bound (counted (codes " ns needed, ") c.args.asked (codes " us asked\n")))
    (string_bytes c.write.new.self) (string_bytes c.put_port.new.text)
    c.in_ok-write.ensures.bytes c.in_ok-put_port.ensures)
    c.write-2.ensures.bytes
