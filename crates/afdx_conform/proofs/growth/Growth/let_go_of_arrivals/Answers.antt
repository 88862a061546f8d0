use Rattle.std.proofs.Common.{rules, List, length, refl, ap, ◌∙◌, arith}
use Rattle.std.proofs.lemmas.List.{length-drop}
use Rattle.afdx_conform.specs.declared.arrived.Arrived.{Arrived}
use Rattle.afdx_conform.specs.declared.finding.Mark.{Mark}
use Rattle.afdx_conform.proofs.UndecidedLemmas.{forgot-arrivals, undecided-same}
use Rattle.afdx_conform.proofs.ForgetLemmas.{after-arrivals, due-arrivals}
use Rattle.afdx_conform.proofs.GatherLemmas.{after-known, due-known}
use Rattle.afdx_conform.proofs.LeanLemmas.{early-for}
use Rattle.afdx_conform.proofs.growth.Growth.let_go_of_arrivals.Goals as goal

pub returns-clause-after : goal.returns-clause-after
returns-clause-after c z xs ys cut over f =
    let less = c.requires.over in
    let places = c.requires.sound.places in
    after-known z xs ys cut over _ c.forget.new.self
    (after-arrivals z xs ys cut over c.args.self.now c.args.count c.give_back_first.new.items
    c.forget_first.new.items c.give_back_first.ensures c.forget_first.ensures less places c.requires.waits
    (λ h. early-for z xs ys cut over c.args.self.now c.args.count f.bounds f.told (omega (arith, less, places))
    c.requires.early h) f)

pub returns-clause-due : goal.returns-clause-due
returns-clause-due c =
    due-known _ c.forget.new.self ∙ due-arrivals c.args.self.now c.args.count c.give_back_first.new.items
    c.forget_first.new.items c.give_back_first.ensures c.forget_first.ensures c.requires.over

pub returns-clause-undecided : goal.returns-clause-undecided
returns-clause-undecided c =
    undecided-same c.args.self.now _ refl
    (forgot-arrivals c.args.self.now c.args.count c.give_back_first.new.items.items
    c.forget_first.new.items.items c.give_back_first.ensures c.forget_first.ensures c.requires.over)

pub returns-clause-sound : goal.returns-clause-sound
returns-clause-sound c =
    let s = c.requires.sound in
    let less = c.requires.over in
    let places = s.places in
    let uncertain = s.uncertain in
    let few = s.arrivals in
    let came = ap (λ (l : List Arrived). length l) c.give_back_first.ensures
    ∙ length-drop c.args.count c.args.self.now.arrivals.items in
    let judged = ap (λ (l : List Mark). length l) c.forget_first.ensures
    ∙ length-drop c.args.count c.args.self.now.judging.marks.items in
    record {
      rates = search rules;
      within = search rules;
      closed = search rules;
      places = omega (arith, came, judged, places);
      uncertain = omega (arith, came, judged, places, less, uncertain);
      arrivals = omega (arith, came, few);
      came = search rules;
      frames = search rules;
      left = search rules;
      known = c.forget.ensures.known _;
      settled = c.forget.ensures.settled _ _;
    }
