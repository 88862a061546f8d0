use Rattle.std.proofs.Common.{length}
use Rattle.afdx_explain.proofs.entry.+has_some_form.Given as goal

abbrev pub decreases-has_some_form : goal.decreases-has_some_form
decreases-has_some_form l = length l.forms.now
