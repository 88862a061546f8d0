use Rattle.std.proofs.Common.{arith, inr, refl}
use Rattle.std.proofs.KnownBytes.{Keeps-refl}
use Rattle.afdx_input_lines.specs.Peeking.{held}
use Rattle.afdx_input_lines.proofs.PeekLemmas.{held-first, none-seen}
use Rattle.afdx_input_lines.proofs.peeked.Peeked.look.Goals as goal

pub loop-self-init : goal.loop-self-init
unfolding held
loop-self-init g c = record {
  first = omega (arith, c.requires.0, c.args.self.now.ordered);
  seen = none-seen _ _ _ c.requires.0;
  whole = c.requires.1;
  unended = c.requires.2;
  at_most = omega arith;
  asked = (refl, refl);
  left = Keeps-refl _;
}

pub returns-clause-first : goal.returns-clause-first
returns-clause-first g c sound =
    let peeked = c.loop-self.self in
    let seen = c.loop-self.invariant.seen in
    held-first _ _ _ 4 c.loop-self.invariant.left (omega (arith, seen, peeked.within))
    (inr (omega (arith, seen, peeked.within, c.loop-self-test.false)))
