use Rattle.std.proofs.Common.{rules, length, List, sym, ap, ◌∙◌, arith}
use Rattle.std.proofs.lemmas.List.{length-drop}
use Rattle.afdx_conform.specs.declared.arrived.Arrived.{Arrived}
use Rattle.afdx_conform.specs.declared.limits.LeftFrame.{LeftFrame}
use Rattle.afdx_conform.proofs.LeanLemmas.{none-undecided}
use Rattle.afdx_conform.proofs.StandingDecides.{due-unsure}
use Rattle.afdx_conform.proofs.growth.Growth.forget_all.Goals as goal

pub returns-clause-due : goal.returns-clause-due
returns-clause-due c = due-unsure _ c.requires.unsure ∙ sym (due-unsure c.args.self.now c.requires.unsure)

pub returns-clause-undecided : goal.returns-clause-undecided
returns-clause-undecided c = none-undecided _ c.requires.unsure ∙ sym (none-undecided c.args.self.now c.requires.unsure)

pub returns-clause-sound : goal.returns-clause-sound
returns-clause-sound c =
    let s = c.requires.sound in
    let places = s.places in
    let uncertain = s.uncertain in
    let all_came = c.len-came.ensures in
    let came = ap (λ (l : List Arrived). length l) c.give_back_first.ensures
    ∙ length-drop c.len-came.result c.args.self.now.arrivals.items in
    let left = ap (λ (l : List LeftFrame). length l) c.give_back_first-2.ensures
    ∙ length-drop c.len-left.result c.args.self.now.frames.items in
    let few = s.arrivals in
    let frames = s.frames in
    record {
      rates = search rules;
      within = search rules;
      closed = search rules;
      places = search rules;
      uncertain = omega (arith, came, all_came, places, uncertain);
      arrivals = omega (arith, came, few);
      came = search rules;
      frames = omega (arith, left, frames);
      left = search rules;
      known = c.new.ensures.known _;
      settled = c.new.ensures.settled _ _;
    }
