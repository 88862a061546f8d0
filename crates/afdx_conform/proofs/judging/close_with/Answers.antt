use Rattle.std.proofs.Common.{◌+◌, List, map, length, refl, sym, ap, ◌∙◌}
use Rattle.std.specs.Prelude.{nat_le}
use Rattle.std.specs.List.{list_any}
use Rattle.afdx_conform.specs.Findings.{Finding, Judged, closed_to, with_states}
use Rattle.afdx_conform.specs.HeldStates.{state_of}
use Rattle.afdx_conform.specs.Leeway.{reach}
use Rattle.afdx_conform.specs.Limits.{gone_of}
use Rattle.afdx_conform.specs.Marks.{marked_all, told}
use Rattle.afdx_conform.specs.declared.states.StreamState.{StreamState}
use Rattle.afdx_conform.proofs.ClosingLemmas.{close-kept}
use Rattle.afdx_conform.proofs.NamingLemmas.{told-none}
use Rattle.afdx_conform.proofs.SkipLemmas.{stands-after}
use Rattle.afdx_conform.proofs.judging.close_with.Goals as goal

pub returns-then-is_one_passed-clause-defined : goal.returns-then-is_one_passed-clause-defined
returns-then-is_one_passed-clause-defined c z time j b closed sure s =
    let any = ap (λ (l : List StreamState). list_any (λ h. nat_le c.args.closed h.passed) l)
    (sym c.as_slice.ensures.value)
    ∙ sym c.is_one_passed.ensures ∙ c.if-is_one_passed.true in
    let nothing = ap (λ (l : List Finding). told (time + reach z.by) l
    (marked_all c.args.recorded.now.arrivals.now c.args.judging.now.marks.items) j) c.new.ensures.items
    ∙ told-none (time + reach z.by) (marked_all c.args.recorded.now.arrivals.now c.args.judging.now.marks.items) j
    (sym s.marks) in
    let whole = sym (close-kept z time c.args.closed
    (map gone_of c.args.recorded.now.frames.now) c.args.judging.now.held.items j
    closed s.states sure
    c.close.new.held.items any (c.close.ensures.left (map gone_of c.args.recorded.now.frames.now) time closed))
    ∙ ap (λ (k : Judged).
    with_states (map (state_of (map gone_of c.args.recorded.now.frames.now)) c.close.new.held.items) k)
    (sym nothing) in
    stands-after c.args.bounds.now.rates c.args.recorded.now.frames.now c.args.recorded.now.arrivals.now j
    (closed_to z time j)
    c.args.judging.now _
    c.new.result.items (time + reach z.by) s whole refl refl
    (c.close.ensures.within c.args.bounds.now.rates (length c.args.recorded.now.frames.now)
    (length c.args.judging.now.marks.items)
    s.within)
    refl

pub returns-clause-defined : goal.returns-clause-defined
returns-clause-defined c z time j b closed sure s =
    c.skip.ensures.defined z time j b closed
    (ap (λ (l : List StreamState). list_any (λ h. nat_le c.args.closed h.passed) l) (sym c.as_slice.ensures.value)
    ∙ sym c.is_one_passed.ensures ∙ c.if-is_one_passed.false) sure s

pub returns-then-is_one_passed-clause-marks : goal.returns-then-is_one_passed-clause-marks
returns-then-is_one_passed-clause-marks c = refl

pub returns-clause-marks : goal.returns-clause-marks
returns-clause-marks c = c.skip.ensures.marks

pub returns-then-is_one_passed-clause-within : goal.returns-then-is_one_passed-clause-within
returns-then-is_one_passed-clause-within c count all =
    c.close.ensures.within c.args.bounds.now.rates (length c.args.recorded.now.frames.now) count all

pub returns-clause-within : goal.returns-clause-within
returns-clause-within c count all = c.skip.ensures.within count all
