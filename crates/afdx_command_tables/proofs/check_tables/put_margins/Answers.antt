use Rattle.std.proofs.Common.{◌≡◌, ◌++◌, List, ℕ, subst}
use Rattle.std.specs.Prelude.{OnOk}
use Rattle.afdx_text.specs.Texts.{text_bytes}
use Rattle.afdx_command_tables.proofs.CheckLemmas.{margins-at, margins-nowhere}
use Rattle.afdx_command_tables.proofs.check_tables.put_margins.Goals as goal

pub returns-in-Some : goal.returns-in-Some
returns-in-Some c =
    subst (λ (more : List ℕ). OnOk c.put_links.result
    (text_bytes c.put_links.new.text ≡ text_bytes c.args.text.now ++ more))
    (margins-at c.args.tables.now c.args.port c.in-Some.system.0 c.in-Some.ensures.place) c.put_links.ensures

pub returns-in-None : goal.returns-in-None
returns-in-None c =
    margins-nowhere c.args.tables.now c.args.port (text_bytes c.args.text.now) c.in-None.ensures.place
