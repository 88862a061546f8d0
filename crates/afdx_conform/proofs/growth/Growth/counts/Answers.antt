use Rattle.std.proofs.Common.{ℕ, ◌+◌, List, [], map, ap, ◌∙◌, arith}
use Rattle.afdx_conform.specs.HeldStates.{state_of}
use Rattle.afdx_conform.specs.Histories.{counts_with, least_waiting}
use Rattle.afdx_conform.specs.declared.states.StreamState.{StreamState}
use Rattle.afdx_conform.proofs.CountLemmas.{all-counted, least-low, none-counted}
use Rattle.afdx_conform.proofs.growth.Growth.counts.Goals as goal

pub overflow_add-result : goal.overflow_add-result
overflow_add-result c =
    let low = least-low c.args.self.now c.least_waiting.result
    (c.least_waiting.ensures [] ∙ ap (λ (l : List StreamState). least_waiting (map (state_of []) l))
    c.as_slice.ensures.value) c.requires in
    let places = c.requires.places in
    let arrivals = c.requires.arrivals in
    let came = c.requires.came in
    let left = c.requires.left in
    omega (arith, low, places, arrivals, came, left)

pub returns-then-self-clause-counted : goal.returns-then-self-clause-counted
returns-then-self-clause-counted c z xs ys cut over n f =
    none-counted z xs ys cut over c.args.self.now f c.if-self.true

pub returns-clause-counted : goal.returns-clause-counted
returns-clause-counted c z xs ys cut over n f =
    let few = c.saturating_sub.ensures in
    ap (λ (m : ℕ). counts_with m (c.args.self.now.cut + c.least_waiting.result) c.args.self.now.judging.uncertain) few
    ∙ all-counted z xs ys cut over c.args.self.now c.least_waiting.result
    (λ fs. c.least_waiting.ensures fs ∙ ap (λ (l : List StreamState). least_waiting (map (state_of fs) l))
    c.as_slice.ensures.value)
    c.requires f c.if-self.false
