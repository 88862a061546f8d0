use Rattle.std.proofs.Common.{[], ap, subst, sym, ◌∙◌}
use Rattle.afdx_lawful.specs.Courses.{AreHeld}
use Rattle.afdx_lawful.specs.Rings.{all_as}
use Rattle.afdx_lawful.proofs.OneSideLemmas.{none_at_first}
use Rattle.afdx_lawful.proofs.one_side.OneSide.new.Goals as goal

pub returns : goal.returns
returns c s side first = record {
  track = c.new.ensures s first;
  last = c.new-2.ensures;
  waiting = none_at_first s side ∙ ap (λ ws. all_as side ws) (sym c.new-3.ensures);
  held = subst (λ ws. AreHeld s [] (all_as side ws)) (sym c.new-3.ensures) _;
}
