use Rattle.std.proofs.Common.{rules}
use Rattle.afdx_conform.proofs.GatherLemmas.{after-known, settled-slice, sound-known, with_known}
use Rattle.afdx_conform.proofs.GrowthStarts.{ready-first, ready-started}
use Rattle.afdx_conform.proofs.growth.Growth.start.Goals as goal

pub returns-then-self-clause-ready : goal.returns-then-self-clause-ready
returns-then-self-clause-ready c z xs ys cut over f sure =
    ready-started z xs ys cut over (with_known c.args.self.now c.gather.new.self)
    (after-known z xs ys cut over c.args.self.now c.gather.new.self f) sure c.if-self.true

pub returns-clause-ready : goal.returns-clause-ready
returns-clause-ready c z xs ys cut over f sure =
    let g = after-known z xs ys cut over c.args.self.now c.gather.new.self f in
    ready-first z xs ys cut (with_known c.args.self.now c.gather.new.self) c.in_ok-held.held over
    c.as_slice-2.result.now
    c.as_slice-2.ensures.value g sure
    c.if-self.false (c.in_ok-held.ensures.defined z g.bounds g.by) c.in_ok-held.ensures.within

pub returns-in_err-gather-clause-sound : goal.returns-in_err-gather-clause-sound
returns-in_err-gather-clause-sound c =
    let s = c.requires.sound in
    sound-known c.args.self.now c.gather.new.self c.as_slice.result.now c.as_slice.ensures.value s
    c.gather.ensures.known
    (c.gather.ensures.settled c.args.self.now.judging.marks.items (settled-slice c.args.self.now.known.gaps.items
    c.args.self.now.arrivals.items c.as_slice.result.now c.args.self.now.judging.marks.items c.as_slice.ensures.value
    s.settled))

pub returns-then-self-clause-sound : goal.returns-then-self-clause-sound
returns-then-self-clause-sound c =
    let s = c.requires.sound in
    sound-known c.args.self.now c.gather.new.self c.as_slice.result.now c.as_slice.ensures.value s
    c.gather.ensures.known
    (c.gather.ensures.settled c.args.self.now.judging.marks.items (settled-slice c.args.self.now.known.gaps.items
    c.args.self.now.arrivals.items c.as_slice.result.now c.args.self.now.judging.marks.items c.as_slice.ensures.value
    s.settled))

pub returns-in_err-held-clause-sound : goal.returns-in_err-held-clause-sound
returns-in_err-held-clause-sound c =
    let s = c.requires.sound in
    sound-known c.args.self.now c.gather.new.self c.as_slice.result.now c.as_slice.ensures.value s
    c.gather.ensures.known
    (c.gather.ensures.settled c.args.self.now.judging.marks.items (settled-slice c.args.self.now.known.gaps.items
    c.args.self.now.arrivals.items c.as_slice.result.now c.args.self.now.judging.marks.items c.as_slice.ensures.value
    s.settled))

pub returns-clause-sound : goal.returns-clause-sound
returns-clause-sound c =
    let s = c.requires.sound in
    let known' = sound-known c.args.self.now c.gather.new.self c.as_slice.result.now c.as_slice.ensures.value s
    c.gather.ensures.known
    (c.gather.ensures.settled c.args.self.now.judging.marks.items (settled-slice c.args.self.now.known.gaps.items
    c.args.self.now.arrivals.items c.as_slice.result.now c.args.self.now.judging.marks.items c.as_slice.ensures.value
    s.settled)) in
    record {
      rates = s.rates;
      within = search rules;
      closed = s.closed;
      places = s.places;
      uncertain = s.uncertain;
      arrivals = s.arrivals;
      came = s.came;
      frames = s.frames;
      left = s.left;
      known = known'.known;
      settled = known'.settled;
    }
