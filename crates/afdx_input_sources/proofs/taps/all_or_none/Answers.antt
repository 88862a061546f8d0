use Rattle.std.proofs.Common.{◌||◌, sym, ap, ◌∙◌}
use Rattle.afdx_frame.specs.declared.link.Side.TheVariants.{A, B}
use Rattle.afdx_input_sources.proofs.TapLemmas.{none-of, or-false}
use Rattle.afdx_input_sources.proofs.taps.all_or_none.Goals as goal

pub returns : goal.returns
returns c A port = ap (λ b. c.args.are_all || b) (none-of 256 port) ∙ sym (or-false c.args.are_all)
returns c B port = ap (λ b. c.args.are_all || b) (none-of 256 port) ∙ sym (or-false c.args.are_all)
