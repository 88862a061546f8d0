use Rattle.std.proofs.Common.{rules, List, length, refl, ap, arith}
use Rattle.afdx_conform.specs.declared.arrived.Arrived.{Arrived}
use Rattle.afdx_conform.specs.declared.limits.LeftFrame.{LeftFrame}
use Rattle.afdx_conform.proofs.GrowthStarts.{after-none}
use Rattle.afdx_conform.proofs.UndecidedLemmas.{due-nothing}
use Rattle.afdx_conform.proofs.growth.Growth.new.Goals as goal

pub returns-clause-after : goal.returns-clause-after
returns-clause-after c z b by =
    after-none z _ b by c.new-3.ensures.items c.new-5.ensures.items c.new-2.ensures.items refl refl refl
    (c.start_of-last.ensures z by) refl refl refl refl refl refl

pub returns-clause-due : goal.returns-clause-due
returns-clause-due c =
    let arrivals = ap (λ (l : List Arrived). length l) c.new-3.ensures.items in
    let frames = ap (λ (l : List LeftFrame). length l) c.new-5.ensures.items in
    due-nothing _ (omega (arith, arrivals)) (omega (arith, frames))

pub returns-clause-sound : goal.returns-clause-sound
returns-clause-sound c = record {
  rates = search rules;
  within = search rules;
  closed = search rules;
  places = search rules;
  uncertain = search rules;
  arrivals = search rules;
  came = search rules;
  frames = search rules;
  left = search rules;
  known = c.new-4.ensures.known _;
  settled = c.new-4.ensures.settled _ _;
}
