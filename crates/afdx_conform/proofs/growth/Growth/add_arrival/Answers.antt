use Rattle.std.proofs.Common.{rules, ◌+◌, refl}
use Rattle.afdx_conform.proofs.DueLemmas.{due-came, due-many}
use Rattle.afdx_conform.proofs.GatherLemmas.{settled-slice, sound-known}
use Rattle.afdx_conform.proofs.GrowthLemmas.{after-came, after-unsure, not-many}
use Rattle.afdx_conform.proofs.LeanLemmas.{lean-came}
use Rattle.afdx_conform.proofs.growth.Growth.add_arrival.Goals as goal

pub returns-then-self-clause-after : goal.returns-then-self-clause-after
returns-then-self-clause-after c z xs ys cut time over j m o f = (
  after-unsure z xs ys cut time over c.args.arrived c.args.self.now c.args.self.now.arrivals 0 c.args.self.now.known
      c.if-self.true m o f,
  λ l. l,
)

pub returns-clause-after : goal.returns-clause-after
returns-clause-after c z xs ys cut time over j m o f = (
  after-came z xs ys cut time over c.args.arrived c.args.self.now c.push.new.self (c.args.self.now.came + 1)
      c.tell.new.self c.in-Ok.ensures.items refl j m o c.requires.sound.places f,
  λ l. lean-came c.args.arrived c.args.self.now c.push.new.self (c.args.self.now.came + 1) c.tell.new.self
      c.in-Ok.ensures.items c.requires.sound.places c.if-self.false l,
)

pub returns-clause-due : goal.returns-clause-due
returns-clause-due c =
    due-came c.args.self.now c.args.arrived c.push.new.self (c.args.self.now.came + 1) c.tell.new.self
    c.in-Ok.ensures.items
    c.requires.sound.places

pub returns-then-self-ge-MOST_HELD-clause-after : goal.returns-then-self-ge-MOST_HELD-clause-after
returns-then-self-ge-MOST_HELD-clause-after c z xs ys cut time over j m o f =
    absurd (not-many z xs ys cut time over c.args.arrived c.args.self.now c.args.self.now.arrivals 0
    c.args.self.now.known m c.if-self.false
    c.if-self-ge-MOST_HELD.true f)

pub returns-then-self-ge-MOST_HELD-clause-due : goal.returns-then-self-ge-MOST_HELD-clause-due
returns-then-self-ge-MOST_HELD-clause-due c = due-many c.args.self.now _ c.args.arrived.time refl

pub returns-in_err-tell-clause-sound : goal.returns-in_err-tell-clause-sound
returns-in_err-tell-clause-sound c =
    let s = c.requires.sound in
    sound-known c.args.self.now c.tell.new.self c.as_slice.result.now c.as_slice.ensures.value s
    c.in_err-tell.ensures.refused
    (c.in_err-tell.ensures.refused_settled c.args.self.now.judging.marks.items
    (settled-slice c.args.self.now.known.gaps.items
    c.args.self.now.arrivals.items c.as_slice.result.now c.args.self.now.judging.marks.items c.as_slice.ensures.value
    s.settled))

pub returns-in-Err-clause-sound : goal.returns-in-Err-clause-sound
returns-in-Err-clause-sound c = record {
  rates = search rules;
  within = search rules;
  closed = search rules;
  places = search rules;
  uncertain = search rules;
  arrivals = search rules;
  came = search rules;
  frames = search rules;
  left = search rules;
  known = c.forget.ensures.known _;
  settled = c.forget.ensures.settled _ _;
}
