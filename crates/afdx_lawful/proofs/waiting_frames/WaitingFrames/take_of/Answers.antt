use Rattle.std.proofs.Common.{◌≤◌, ◌<◌, ◌-◌, List, Option, arith, ap, length, subst, sym, None, ◌∙◌}
use Rattle.std.specs.Prelude.{find, slice_set}
use Rattle.std.specs.List.{position_or_len}
use Rattle.std.specs.Option.{is_some}
use Rattle.afdx_lawful.specs.Partners.{without_first}
use Rattle.afdx_lawful.specs.Rings.{AreWaiting, has_number, held_in, holds_number}
use Rattle.afdx_lawful.specs.declared.waits.Waits.{Waits}
use Rattle.afdx_lawful.proofs.SlotLemmas.{within}
use Rattle.afdx_lawful.proofs.WaitingLemmas.{few, none_before, none_there, oldest_on, one_there, one_waits, without_one}
use Rattle.afdx_lawful.proofs.waiting_frames.WaitingFrames.take_of.Goals as goal

pub place_of-place-requires-clause-within : goal.place_of-place-requires-clause-within
place_of-place-requires-clause-within c =
    let w = c.self.inside in
    omega (
      arith,
      c.max-known.ensures,
      c.self.invariant.of_number c.args.number,
      (few w.slots.items w.first w.from w.count c.self.invariant).0,
      within (holds_number c.args.number) w.slots.items,
      ap length c.as_slice.ensures.value,
    )

pub place_of-place-requires-clause-none_before : goal.place_of-place-requires-clause-none_before
place_of-place-requires-clause-none_before c =
    let w = c.self.inside in
    omega (
      arith,
      c.max-known.ensures,
      c.self.invariant.of_number c.args.number,
      none_before w.slots.items w.first w.from w.count c.self.invariant c.args.number,
      ap (position_or_len (holds_number c.args.number)) c.as_slice.ensures.value,
    )

pub returns-then-place-len-clause-taken : goal.returns-then-place-len-clause-taken
returns-then-place-len-clause-taken c =
    let w = c.self.inside in
    let at = c.place_of-place.ensures ∙ ap (position_or_len (holds_number c.args.number)) c.as_slice.ensures.value in
    (none_there w.slots.items w.first w.from w.count c.self.invariant c.args.number c.place_of-place.result at
    (omega (arith, c.self.told)) (omega (arith, c.if-place-len.true, c.len.ensures))).0
    ∙ ap (find (has_number c.args.number)) c.self.view_is

pub returns-then-place-len-clause-rest : goal.returns-then-place-len-clause-rest
returns-then-place-len-clause-rest c =
    let w = c.self.inside in
    let at = c.place_of-place.ensures ∙ ap (position_or_len (holds_number c.args.number)) c.as_slice.ensures.value in
    (none_there w.slots.items w.first w.from w.count c.self.invariant c.args.number c.place_of-place.result at
    (omega (arith, c.self.told)) (omega (arith, c.if-place-len.true, c.len.ensures))).1
    ∙ ap (without_first (has_number c.args.number)) c.self.view_is

pub first_held-self-inside-requires-clause-within : goal.first_held-self-inside-requires-clause-within
first_held-self-inside-requires-clause-within c =
    let w = c.self.inside in
    let some : c.place_of-place.result < length w.slots.items = omega (arith, c.if-place-len.false, c.len.ensures) in
    let at = c.place_of-place.ensures ∙ ap (position_or_len (holds_number c.args.number)) c.as_slice.ensures.value in
    omega (
      arith,
      within is_some c.as_slice-2.result.now,
      subst (λ (l : List (Option Waits)). w.first ≤ position_or_len is_some l) (sym (c.as_slice-2.ensures.value
          ∙ ap (λ (o : Option Waits). slice_set w.slots.items c.place_of-place.result o) c.take-taken.ensures.after))
          (oldest_on w.slots.items w.first w.from w.count c.self.invariant c.args.number c.place_of-place.result at
          (omega (arith, c.self.told)) some),
    )

pub first_held-self-inside-requires-clause-none_before : goal.first_held-self-inside-requires-clause-none_before
first_held-self-inside-requires-clause-none_before c =
    let w = c.self.inside in
    let some : c.place_of-place.result < length w.slots.items = omega (arith, c.if-place-len.false, c.len.ensures) in
    let at = c.place_of-place.ensures ∙ ap (position_or_len (holds_number c.args.number)) c.as_slice.ensures.value in
    subst (λ (l : List (Option Waits)). w.first ≤ position_or_len is_some l) (sym (c.as_slice-2.ensures.value
    ∙ ap (λ (o : Option Waits). slice_set w.slots.items c.place_of-place.result o) c.take-taken.ensures.after))
    (oldest_on w.slots.items w.first w.from w.count c.self.invariant c.args.number c.place_of-place.result at
    (omega (arith, c.self.told)) some)

pub overflow_sub-self : goal.overflow_sub-self
overflow_sub-self c =
    let w = c.self.inside in
    let some : c.place_of-place.result < length w.slots.items = omega (arith, c.if-place-len.false, c.len.ensures) in
    let at = c.place_of-place.ensures ∙ ap (position_or_len (holds_number c.args.number)) c.as_slice.ensures.value in
    one_waits w.slots.items w.first w.from w.count c.self.invariant c.args.number c.place_of-place.result at
    (omega (arith, c.self.told)) some

pub invariant_of-self-2 : goal.invariant_of-self-2
invariant_of-self-2 c =
    let w = c.self.inside in
    let some : c.place_of-place.result < length w.slots.items = omega (arith, c.if-place-len.false, c.len.ensures) in
    let at = c.place_of-place.ensures ∙ ap (position_or_len (holds_number c.args.number)) c.as_slice.ensures.value in
    subst (λ (o : Option Waits). AreWaiting (slice_set w.slots.items c.place_of-place.result o)
    c.first_held-self-inside.result (slice_set w.from c.args.number c.place_of-place.result) (w.count - 1))
    (sym c.take-taken.ensures.after)
    (without_one w.slots.items w.first w.from w.count c.self.invariant c.args.number c.place_of-place.result at
    (omega (arith, c.self.told)) some c.first_held-self-inside.result (w.count - 1)
    (c.first_held-self-inside.ensures ∙ ap (position_or_len is_some) (c.as_slice-2.ensures.value
    ∙ ap (λ (o : Option Waits). slice_set w.slots.items c.place_of-place.result o) c.take-taken.ensures.after))
    (omega (
      arith,
      one_waits w.slots.items w.first w.from w.count c.self.invariant c.args.number c.place_of-place.result at
          (omega (arith, c.self.told)) some,
    )))

pub returns-clause-taken : goal.returns-clause-taken
returns-clause-taken c =
    let w = c.self.inside in
    let some : c.place_of-place.result < length w.slots.items = omega (arith, c.if-place-len.false, c.len.ensures) in
    let at = c.place_of-place.ensures ∙ ap (position_or_len (holds_number c.args.number)) c.as_slice.ensures.value in
    c.take-taken.ensures.value ∙ c.index_mut.ensures.value
    ∙ (one_there w.slots.items w.first w.from w.count c.self.invariant c.args.number c.place_of-place.result at
    (omega (arith, c.self.told)) some c.index_mut.result.now).0
    ∙ ap (find (has_number c.args.number)) c.self.view_is

pub returns-clause-rest : goal.returns-clause-rest
returns-clause-rest c =
    let w = c.self.inside in
    let some : c.place_of-place.result < length w.slots.items = omega (arith, c.if-place-len.false, c.len.ensures) in
    let at = c.place_of-place.ensures ∙ ap (position_or_len (holds_number c.args.number)) c.as_slice.ensures.value in
    ap (λ (o : Option Waits). held_in (slice_set w.slots.items c.place_of-place.result o)) c.take-taken.ensures.after
    ∙ (one_there w.slots.items w.first w.from w.count c.self.invariant c.args.number c.place_of-place.result at
    (omega (arith, c.self.told)) some None).1
    ∙ ap (without_first (has_number c.args.number)) c.self.view_is
