use Rattle.std.proofs.Common.{◌≡◌, ◌≤◌, ◌<◌, ◌-◌, List, Option, arith, ap, length, subst, sym, true, None, ◌∙◌}
use Rattle.std.specs.Prelude.{find, slice_set}
use Rattle.std.specs.List.{position_or_len}
use Rattle.std.specs.Option.{is_some}
use Rattle.afdx_lawful.specs.Partners.{without_first}
use Rattle.afdx_lawful.specs.Rings.{AreWaiting, held_in}
use Rattle.afdx_lawful.specs.declared.waits.Waits.{Waits}
use Rattle.afdx_lawful.proofs.RingLemmas.{first_taken}
use Rattle.afdx_lawful.proofs.WaitingLemmas.{first_on, first_there, none_first, some_wait, without_oldest}
use Rattle.afdx_lawful.proofs.waiting_frames.WaitingFrames.take_oldest.Goals as goal

pub returns-then-place-len : goal.returns-then-place-len
returns-then-place-len c =
    let w = c.self.inside in
    let none = subst (λ (l : List Waits). (None ≡ find (λ (x : Waits). true) l)
    × (l ≡ without_first (λ (x : Waits). true) l)) c.self.view_is
    (none_first w.slots.items w.first w.from w.count c.self.invariant
    (omega (arith, c.if-place-len.true, c.len.ensures))) in
    first_taken c.args.self.now c.args.self.now None none.0 none.1

pub first_held-self-inside-requires-clause-none_before : goal.first_held-self-inside-requires-clause-none_before
first_held-self-inside-requires-clause-none_before c =
    let w = c.self.inside in
    let some : w.first < length w.slots.items = omega (arith, c.if-place-len.false, c.len.ensures) in
    subst (λ (l : List (Option Waits)). w.first ≤ position_or_len is_some l)
    (sym (c.as_slice.ensures.value
    ∙ ap (λ (o : Option Waits). slice_set w.slots.items w.first o) c.take-taken.ensures.after))
    (first_on w.slots.items w.first w.from w.count c.self.invariant some)

pub overflow_sub-self : goal.overflow_sub-self
overflow_sub-self c =
    let w = c.self.inside in
    let some : w.first < length w.slots.items = omega (arith, c.if-place-len.false, c.len.ensures) in
    some_wait w.slots.items w.first w.from w.count c.self.invariant some

pub invariant_of-self : goal.invariant_of-self
invariant_of-self c =
    let w = c.self.inside in
    let some : w.first < length w.slots.items = omega (arith, c.if-place-len.false, c.len.ensures) in
    subst (λ (o : Option Waits). AreWaiting (slice_set w.slots.items w.first o) c.first_held-self-inside.result w.from
    (w.count - 1)) (sym c.take-taken.ensures.after)
    (without_oldest w.slots.items w.first w.from w.count c.self.invariant some c.first_held-self-inside.result
    (w.count - 1)
    (c.first_held-self-inside.ensures
    ∙ ap (position_or_len is_some) (c.as_slice.ensures.value
    ∙ ap (λ (o : Option Waits). slice_set w.slots.items w.first o) c.take-taken.ensures.after))
    (omega (arith, some_wait w.slots.items w.first w.from w.count c.self.invariant some)))

pub returns : goal.returns
returns c =
    let w = c.self.inside in
    let some : w.first < length w.slots.items = omega (arith, c.if-place-len.false, c.len.ensures) in
    let there = first_there w.slots.items w.first w.from w.count c.self.invariant some c.index_mut.result.now in
    first_taken c.args.self.now (held_in (slice_set w.slots.items w.first c.take-taken.new.self)) c.take-taken.result
    (c.take-taken.ensures.value ∙ c.index_mut.ensures.value ∙ there.0
    ∙ ap (find (λ (x : Waits). true)) c.self.view_is)
    (ap (λ (o : Option Waits). held_in (slice_set w.slots.items w.first o)) c.take-taken.ensures.after ∙ there.1
    ∙ ap (without_first (λ (x : Waits). true)) c.self.view_is)
