use Rattle.afdx_input_lines.proofs.DigitLemmas.{value_is}
use Rattle.afdx_input_lines.proofs.fields.digit_value.Goals as goal

pub returns : goal.returns
returns c = value_is c.args.digit c.saturating_sub-figure.result c.saturating_add-letter.result
    c.min.result c.ranges.digit.fits c.saturating_sub-figure.ensures c.saturating_add-letter.ensures
    c.min.ensures
