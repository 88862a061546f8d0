use Rattle.std.proofs.Common.{◌≤◌, ℕ, List, length, drop, sym, ap, ◌∙◌, subst, arith}
use Rattle.std.specs.Prelude.{All}
use Rattle.afdx_conform.specs.Holding.{AreAsked}
use Rattle.afdx_conform.specs.declared.finding.Mark.{Mark}
use Rattle.afdx_conform.specs.declared.states.StreamState.{StreamState}
use Rattle.afdx_conform.proofs.LeanLemmas.{early-left, in-order, lean-both, lean-frames, still-past}
use Rattle.afdx_conform.proofs.PassedLemmas.{all-passed, all-still}
use Rattle.afdx_conform.proofs.growth.Growth.forget.Goals as goal

pub returns-then-count-eq0-clause-lean : goal.returns-then-count-eq0-clause-lean
returns-then-count-eq0-clause-lean c z xs ys cut over some none f =
    let sure = c.if-self.false in
    let is = c.passed_by_all-passed.ensures.whole
    (subst (λ (l : List StreamState). All (λ h. c.args.self.now.closed ≤ h.passed) l)
    (sym c.as_slice.ensures.value) (all-passed z xs ys cut over c.args.self.now f sure some)) in
    let still = all-still z xs ys cut over c.args.self.now f sure some none in
    let order = in-order z xs ys cut over c.args.self.now f.told (f.sure sure) in
    let zero = c.if-count-eq0.true in
    lean-frames c.args.self.now _ c.forget_frames.ensures.keeps sure (c.forget_frames.ensures.half is)
    c.forget_frames.ensures.unclosed
    (λ place le. subst (λ (n : ℕ). AreAsked c.args.self.now.bounds.limits c.args.self.now.arrivals.items
    (length c.args.self.now.judging.marks.items) (drop n c.args.self.now.frames.items) place) is
    (c.count_over-count.ensures.asked place still order (omega (arith, zero)) le))

pub let_go_of_arrivals-requires-clause-over : goal.let_go_of_arrivals-requires-clause-over
let_go_of_arrivals-requires-clause-over c =
    let marks = ap (λ (l : List Mark). length l) c.let_go_of_frames.ensures.keeps.marks in
    let within = c.count_over-count.ensures.within in
    omega (arith, marks, within)

pub let_go_of_arrivals-requires-clause-waits : goal.let_go_of_arrivals-requires-clause-waits
let_go_of_arrivals-requires-clause-waits c =
    still-past c.passed_by_all-passed.result c.args.self.now.judging.held.items
    c.let_go_of_frames.new.self.judging.held.items
    c.let_go_of_frames.ensures.held
    (c.count_over-count.ensures.waits (let some = c.if-count-eq0.false in omega (arith, some)))

pub let_go_of_arrivals-requires-clause-early : goal.let_go_of_arrivals-requires-clause-early
let_go_of_arrivals-requires-clause-early c =
    early-left c.args.self.now c.let_go_of_frames.new.self c.passed_by_all-passed.result c.count_over-count.result
    c.let_go_of_frames.ensures.keeps c.let_go_of_frames.ensures.frames c.count_over-count.ensures.early

pub returns-clause-lean : goal.returns-clause-lean
returns-clause-lean c z xs ys cut over some none f =
    let sure = c.if-self.false in
    let is = c.passed_by_all-passed.ensures.whole
    (subst (λ (l : List StreamState). All (λ h. c.args.self.now.closed ≤ h.passed) l)
    (sym c.as_slice.ensures.value) (all-passed z xs ys cut over c.args.self.now f sure some)) in
    let still = all-still z xs ys cut over c.args.self.now f sure some none in
    let order = in-order z xs ys cut over c.args.self.now f.told (f.sure sure) in
    lean-both c.args.self.now c.let_go_of_frames.new.self _ c.passed_by_all-passed.result c.count_over-count.result
    c.let_go_of_frames.ensures.keeps c.let_go_of_arrivals.ensures.keeps sure is c.let_go_of_frames.ensures.closed
    c.let_go_of_frames.ensures.frames c.let_go_of_arrivals.ensures.arrivals c.let_go_of_arrivals.ensures.marks
    c.count_over-count.ensures.half
    (λ place low le. c.count_over-count.ensures.asked place still order low le)

pub returns-clause-after : goal.returns-clause-after
returns-clause-after c z xs ys cut over f =
    c.let_go_of_arrivals.ensures.after z xs ys cut over (c.let_go_of_frames.ensures.after z xs ys cut over f)

pub returns-clause-due : goal.returns-clause-due
returns-clause-due c = c.let_go_of_arrivals.ensures.due ∙ c.let_go_of_frames.ensures.due
