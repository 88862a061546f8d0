use Rattle.std.proofs.Common.{ℕ, List, get_or, length, sym, ap, ◌∙◌, subst, arith}
use Rattle.std.specs.Prelude.{None, Some}
use Rattle.afdx_conform.specs.Growing.{Decides, IsKnownBy}
use Rattle.afdx_conform.specs.States.{Event}
use Rattle.afdx_conform.specs.declared.arrived.Arrived.{Arrived}
use Rattle.afdx_conform.specs.declared.finding.Mark.{Mark}
use Rattle.afdx_conform.specs.declared.limits.LeftFrame.{LeftFrame}
use Rattle.afdx_conform.specs.declared.upcoming.Upcoming.{Upcoming}
use Rattle.afdx_conform.proofs.GrowthNext.{arrives-at, closes-at, next-held, no-event, none-at, none-of, some-frame, the-event}
use Rattle.afdx_conform.proofs.ClosedLemmas.{on-ok, some-arrived}
use Rattle.afdx_conform.proofs.GrowthLemmas.{true-false}
use Rattle.afdx_conform.proofs.KeepLemmas.{if-ok-on}
use Rattle.afdx_conform.proofs.StandingDecides.{due-sure}
use Rattle.afdx_conform.proofs.UndecidedLemmas.{due-nothing, not-due, undecided-unchanged}
use Rattle.afdx_conform.proofs.growth.Growth.decide.Goals as goal

pub returns-in_default-clause-decides : goal.returns-in_default-clause-decides
returns-in_default-clause-decides c = (
  None,
  λ z xs ys cut over e sure next known f.
      let h = f.sure sure in
      let none = c.upcoming.ensures.none (none-of c.upcoming.result c.in_default.not-Some) in
      absurd (no-event (sym next ∙ next-held z xs ys cut over h.gone h.past c.args.self.now h.kept
      ∙ none-at z (length c.args.self.now.judging.marks.items) c.args.self.now.closed c.args.self.now.arrivals.items
      c.args.self.now.frames.items none.1 none.0)),
)

pub returns-in-Arrival-clause-decides : goal.returns-in-Arrival-clause-decides
returns-in-Arrival-clause-decides c =
    if-ok-on c.come.result (λ v q. (
      q.0,
      λ z xs ys cut over e sure next known f.
          let is = c.in-Some.is ∙ ap (λ (u : Upcoming). Some u) c.in-Arrival.is in
          let lt = c.upcoming.ensures.arrival is in
          let one = some-arrived c.args.self.now.arrivals.items (length c.args.self.now.judging.marks.items) lt in
          let h = f.sure sure in
          let first = next-held z xs ys cut over h.gone h.past c.args.self.now h.kept
          ∙ arrives-at z (length c.args.self.now.judging.marks.items) c.args.self.now.closed
          c.args.self.now.arrivals.items
          c.args.self.now.frames.items one.0 c.args.self.now.bounds.limits.reach f.bounds.limits.reach lt one.1
          (λ g less at. c.upcoming.ensures.first one.0 g is less one.1 at) in
          let same = c.in_ok-start.ensures.same in
          let event = the-event (sym next ∙ first) in
          let at = one.1 ∙ ap (λ (l : List Arrived). get_or l (length c.args.self.now.judging.marks.items) one.0)
          (sym same.arrivals)
          ∙ ap (λ (l : List Mark). get_or c.start.new.self.arrivals.items (length l) one.0) (sym same.marks) in
          subst (λ (w : Event). Decides z xs ys cut over c.come.new.self w q.0 v.items) event
          (q.1 z xs ys cut over one.0 (same.is_unsure ∙ sure) at first
          (subst (λ (w : Event). IsKnownBy z c.args.end w) (sym event) known)
          (c.in_ok-start.ensures.ready z xs ys cut over f sure)),
    )) c.come.ensures.decides

pub returns-in-Closing-clause-decides : goal.returns-in-Closing-clause-decides
returns-in-Closing-clause-decides c =
    if-ok-on c.close.result (λ v q. (
      None,
      λ z xs ys cut over e sure next known f.
          let is = c.in-Some.is ∙ ap (λ (u : Upcoming). Some u) c.in-Closing.is in
          let lt = c.upcoming.ensures.closing is in
          let one = some-frame c.args.self.now.frames.items c.args.self.now.closed lt in
          let h = f.sure sure in
          let first = next-held z xs ys cut over h.gone h.past c.args.self.now h.kept
          ∙ closes-at z (length c.args.self.now.judging.marks.items) c.args.self.now.closed
          c.args.self.now.arrivals.items
          c.args.self.now.frames.items one.0 c.args.self.now.bounds.limits.reach f.bounds.limits.reach lt one.1
          (λ a less at. c.upcoming.ensures.before a one.0 is less at one.1) in
          let same = c.in_ok-start.ensures.same in
          let event = the-event (sym next ∙ first) in
          let at = one.1 ∙ ap (λ (l : List LeftFrame). get_or l c.args.self.now.closed one.0) (sym same.frames)
          ∙ ap (λ (n : ℕ). get_or c.start.new.self.frames.items n one.0) (sym same.closed) in
          subst (λ (w : Event). Decides z xs ys cut over c.close.new.self w None v.items) event
          (q z xs ys cut over one.0 (same.is_unsure ∙ sure) at first (c.in_ok-start.ensures.ready z xs ys cut over f
          sure)),
    )) c.close.ensures.decides

pub returns-then-self-clause-decides : goal.returns-then-self-clause-decides
returns-then-self-clause-decides c =
    (None, λ z xs ys cut over e sure next known f. absurd (true-false c.if-self.true sure))

pub returns-then-self-clause-less : goal.returns-then-self-clause-less
returns-then-self-clause-less c moment due = absurd (true-false c.if-self.true (due-sure c.args.self.now moment due))

pub returns-in_default-clause-less : goal.returns-in_default-clause-less
returns-in_default-clause-less c moment due =
    let none = c.upcoming.ensures.none (none-of c.upcoming.result c.in_default.not-Some) in
    absurd (not-due due (due-nothing c.args.self.now none.1 none.0))

pub returns-in-Arrival-clause-less : goal.returns-in-Arrival-clause-less
returns-in-Arrival-clause-less c moment due =
    let same = c.in_ok-start.ensures.same in
    let equal = undecided-unchanged c.args.self.now c.start.new.self same in
    on-ok c.come.result (λ lt. omega (arith, lt, equal))
    (c.come.ensures.less (same.is_unsure ∙ due-sure c.args.self.now moment due))

pub returns-in-Closing-clause-less : goal.returns-in-Closing-clause-less
returns-in-Closing-clause-less c moment due =
    let same = c.in_ok-start.ensures.same in
    let equal = undecided-unchanged c.args.self.now c.start.new.self same in
    on-ok c.close.result (λ lt. omega (arith, lt, equal))
    (c.close.ensures.less (same.is_unsure ∙ due-sure c.args.self.now moment due))
