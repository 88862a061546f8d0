use Rattle.std.proofs.Common.{◌≡◌, ◌++◌, List, ℕ, subst}
use Rattle.std.specs.Prelude.{OnOk}
use Rattle.afdx_text.specs.Texts.{text_bytes}
use Rattle.afdx_command_tables.proofs.CheckLemmas.{used, unused}
use Rattle.afdx_command_tables.proofs.check_tables.put_port.Goals as goal

pub returns-in-Some : goal.returns-in-Some
returns-in-Some c =
    subst (λ (more : List ℕ). OnOk c.put_used.result
    (text_bytes c.put_used.new.text ≡ text_bytes c.args.text.now ++ more))
    (used c.args.margins c.args.tables.now c.args.port c.in-Some.ensures.known) c.put_used.ensures

pub returns-in-None : goal.returns-in-None
returns-in-None c =
    unused c.args.margins c.args.tables.now c.args.port (text_bytes c.args.text.now) c.in-None.ensures.known
