use Rattle.afdx_frame.specs.declared.link.Side.TheVariants.{A, B}
use Rattle.afdx_lawful.proofs.sides.BothSides.new.Goals as goal

pub returns : goal.returns
returns c s first = record { here = c.new.ensures s A first; there = c.new-2.ensures s B first }
