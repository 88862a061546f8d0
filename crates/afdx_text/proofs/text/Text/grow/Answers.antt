use Rattle.std.proofs.Common.{arith}
use Rattle.afdx_text.specs.Texts.{text_bytes}
use Rattle.afdx_text.proofs.TextLemmas.{grown}
use Rattle.afdx_text.proofs.text.Text.grow.Goals as goal

pub returns-clause-bytes : goal.returns-clause-bytes
unfolding text_bytes
returns-clause-bytes c =
    let text = c.args.self.now in
    grown _ text.room.items _ _ text.end c.saturating_add.result
    (omega (arith, text.within, text.room.ok.0))
    (omega (arith, c.saturating_add.ensures, c.saturating_add-least.ensures, text.within, text.room.ok.0))
    c.resize.ensures.items
