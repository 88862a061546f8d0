use Rattle.std.proofs.Common.{◌+◌, ◌<◌, ◌≤◌, List, get_or, length, map, refl, sym, ap, ◌∙◌, subst, arith}
use Rattle.std.proofs.lemmas.List.Elements.{recursion_from_All}
use Rattle.std.specs.Prelude.{All, Some}
use Rattle.afdx_conform.specs.HeldStates.{AreClosed}
use Rattle.afdx_conform.specs.Limits.{AreFrames, gone_of}
use Rattle.afdx_conform.specs.declared.limits.LeftFrame.{LeftFrame}
use Rattle.afdx_conform.specs.declared.states.StreamState.{StreamState}
use Rattle.afdx_conform.proofs.ClosedLemmas.{closes, not-later}
use Rattle.afdx_conform.proofs.GrowthCloses.{frames-held}
use Rattle.afdx_conform.proofs.GrowthNext.{closes-at, next-held}
use Rattle.afdx_conform.proofs.GrowthQuiet.{Closed, after-quiet}
use Rattle.afdx_conform.proofs.UndecidedLemmas.{undecided-less}
use Rattle.afdx_conform.proofs.growth.Growth.close_explained.Goals as goal

pub returns-clause-after : goal.returns-clause-after
returns-clause-after c = (
  Some c.index.result.now.time,
  λ z xs ys cut over f.
      let is = c.if-not-is_closing.ensures.0 refl in
      let lt = c.upcoming.ensures.closing is in
      let h = f.sure c.if-self.false in
      let at = c.index.ensures in
      let next = next-held z xs ys cut over h.gone h.past c.args.self.now h.kept
      ∙ closes-at z (length c.args.self.now.judging.marks.items) c.args.self.now.closed c.args.self.now.arrivals.items
      c.args.self.now.frames.items c.index.result.now c.args.self.now.bounds.limits.reach f.bounds.limits.reach lt at
      (λ a less e. c.upcoming.ensures.before a c.index.result.now is less e at) in
      let order = subst (λ (l : List LeftFrame). AreFrames l) (sym c.as_slice.ensures.value)
      (frames-held h.past ys c.args.self.now.frames.items f.told.left h.kept.left) in
      let inside = subst (λ (l : List LeftFrame). c.args.self.now.closed < length l) (sym c.as_slice.ensures.value) lt
      in
      let there = at ∙ ap (λ (l : List LeftFrame). get_or l c.args.self.now.closed c.index.result.now)
      (sym c.as_slice.ensures.value) in
      let closed = closes c.as_slice.result.now c.args.self.now.closed c.closed_by-to.result c.index.result.now order
      inside there
      c.closed_by-to.ensures.low c.closed_by-to.ensures.high (c.closed_by-to.ensures.closed order)
      c.closed_by-to.ensures.behind in
      let passed = subst (λ (l : List StreamState). All (λ h. c.passed_by_all-passed.result ≤ h.passed) l)
      c.as_slice-2.ensures.value
      c.passed_by_all-passed.ensures.all in
      let ge = c.if-passed-to.false in
      let early = not-later c.args.moment (c.index.result.now.time + c.args.self.now.bounds.limits.reach)
      c.is_later.result
      c.is_later.ensures c.if-is_later.false in
      let apart = f.bounds.limits.reach in
      after-quiet z xs ys cut over c.index.result.now c.args.self.now c.closed_by-to.result c.args.moment f
      c.if-self.false
      c.requires.started next
      (subst (λ (l : List LeftFrame). AreClosed c.index.result.now.time c.closed_by-to.result (map gone_of l))
      c.as_slice.ensures.value closed)
      (recursion_from_All (λ (h : StreamState). c.closed_by-to.result ≤ h.passed) c.args.self.now.judging.held.items
      (λ i d less. let le = passed i d less in omega (arith, le, ge)))
      (omega (arith, early, apart)),
)

pub returns-clause-less : goal.returns-clause-less
returns-clause-less c =
    let lt = c.upcoming.ensures.closing (c.if-not-is_closing.ensures.0 refl) in
    let less = undecided-less c.args.self.now (Closed c.args.self.now c.closed_by-to.result) c.if-self.false
    (omega (arith, lt)) in
    omega (arith, less)
