use Rattle.std.proofs.Common.{◌∙◌, sym, arith, length, take, ◌-◌}
use Rattle.afdx_frame.proofs.LeftLemmas.{AreBytes-take}
use Rattle.afdx_frame.proofs.SealsLemmas.{is_whole, known-right, known-missing, whole-missing}
use Rattle.afdx_frame.proofs.checked.Checked.new.Goals as goal

pub invariant_of-result : goal.invariant_of-result
invariant_of-result c = record {
  known = known-missing c.args.bytes.now (sym c.is_sealed.ensures.computed ∙ c.if-not-is_sealed.true);
  fits = λ i. omega (arith, c.type_inv.bytes i);
}

pub returns-then-not-is_sealed : goal.returns-then-not-is_sealed
returns-then-not-is_sealed c = whole-missing c.args.bytes.now

pub invariant_of-result-2 : goal.invariant_of-result-2
invariant_of-result-2 c = record {
  known = known-right (take (length c.args.bytes.now - 4) c.args.bytes.now);
  fits = AreBytes-take (length c.args.bytes.now - 4) c.args.bytes.now (λ i. omega (arith, c.type_inv.bytes i));
}

pub returns : goal.returns
returns c = is_whole c.args.bytes.now (sym c.is_sealed.ensures.computed ∙ c.if-not-is_sealed.false)
