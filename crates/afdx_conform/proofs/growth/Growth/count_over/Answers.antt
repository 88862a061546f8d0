use Rattle.std.proofs.Common.{rules, ◌≡◌, ◌<◌, List, get_or, length, sym, ap, ◌∙◌, subst, arith}
use Rattle.std.specs.Prelude.{All}
use Rattle.afdx_conform.specs.declared.arrived.Arrived.{Arrived}
use Rattle.afdx_conform.specs.declared.states.StreamState.{StreamState}
use Rattle.afdx_conform.proofs.GrowthLemmas.{true-false}
use Rattle.afdx_conform.proofs.LeanLemmas.{asked-behind, half-of}
use Rattle.afdx_conform.proofs.StillLemmas.{none-waits}
use Rattle.afdx_conform.proofs.growth.Growth.count_over.Goals as goal

pub returns-then-not-none_waits-clause-asked : goal.returns-then-not-none_waits-clause-asked
returns-then-not-none_waits-clause-asked c place still order low le k a more lt is =
    absurd (true-false (c.none_waits.ensures ∙ none-waits c.as_slice.result.now
    (subst (λ (l : List StreamState). All (λ h. h.waiting ≡ 0) l) (sym c.as_slice.ensures.value) still))
    c.if-not-none_waits.true)

pub returns-then-count-half-clause-asked : goal.returns-then-count-half-clause-asked
returns-then-count-half-clause-asked c place still order low le =
    let over : c.len-over.result ≡ length c.args.self.now.judging.marks.items = search rules in
    let size : c.len.result ≡ length c.args.self.now.arrivals.items = search rules in
    let half = half-of c.len.result c.div_ceil-half.result c.div_ceil-half.ensures in
    let high = half.high in
    let less = c.if-count-half.true in
    let places = c.requires.places in
    let inside : c.args.passed < length c.args.self.now.frames.items = search rules in
    asked-behind c.args.self.now.bounds.limits c.args.self.now.arrivals.items
    (length c.args.self.now.judging.marks.items)
    c.args.self.now.frames.items c.args.passed c.count_early-count.result c.index.result.now order places inside
    c.index.ensures
    (λ a lt at. c.count_early-count.ensures.behind a (omega (arith, lt, over))
    (at ∙ ap (λ (l : List Arrived). get_or l c.count_early-count.result a) (sym c.as_slice-arrivals.ensures.value)))
    place (omega (arith, less, high, size, le))

pub returns-clause-asked : goal.returns-clause-asked
returns-clause-asked c place still order low le =
    let over : c.len-over.result ≡ length c.args.self.now.judging.marks.items = search rules in
    let places = c.requires.places in
    let inside : c.args.passed < length c.args.self.now.frames.items = search rules in
    asked-behind c.args.self.now.bounds.limits c.args.self.now.arrivals.items
    (length c.args.self.now.judging.marks.items)
    c.args.self.now.frames.items c.args.passed c.count_early-count.result c.index.result.now order places inside
    c.index.ensures
    (λ a lt at. c.count_early-count.ensures.behind a (omega (arith, lt, over))
    (at ∙ ap (λ (l : List Arrived). get_or l c.count_early-count.result a) (sym c.as_slice-arrivals.ensures.value)))
    place low
