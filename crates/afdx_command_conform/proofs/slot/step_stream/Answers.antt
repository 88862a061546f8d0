use Rattle.std.proofs.Common.{map, ap, ◌∙◌}
use Rattle.afdx_command_conform.specs.Lines.{found_line}
use Rattle.afdx_conform.specs.Standing.{due_of}
use Rattle.afdx_command_conform.proofs.SlotLemmas.{if-ok, told-found}
use Rattle.afdx_command_conform.proofs.slot.step_stream.Goals as goal

pub returns-clause-stands : goal.returns-clause-stands
returns-clause-stands c z xs ys j time moment none due lt s =
    let k = c.args.key in
    let r = c.in_ok-found.ensures.stands z xs ys j time moment none due lt s in
    if-ok (λ all e. (
      r.0,
      r.1,
      told-found z k moment c.in_ok-found.found.items j r.0 (due_of c.decide.new.self)
          c.unsure_behind.result c.in_ok-lines.lines.items all.items r.2 (c.unsure_behind.ensures.stands z xs ys r.0
          time r.1)
          (c.in_ok-lines.ensures ∙ ap (λ l. map (found_line k) l) c.as_slice.ensures.value) e,
      r.2.later,
    ))
    c.with_unsure.result c.with_unsure.ensures

pub returns-clause-ends : goal.returns-clause-ends
returns-clause-ends c z xs ys j moment end due s =
    let k = c.args.key in
    let r = c.in_ok-found.ensures.ends z xs ys j moment end due s in
    if-ok (λ all e. (
      r.0,
      r.1,
      told-found z k moment c.in_ok-found.found.items j r.0 (due_of c.decide.new.self)
          c.unsure_behind.result c.in_ok-lines.lines.items all.items r.2 (c.unsure_behind.ensures.ends z xs ys r.0 r.1)
          (c.in_ok-lines.ensures ∙ ap (λ l. map (found_line k) l) c.as_slice.ensures.value) e,
      r.2.later,
    ))
    c.with_unsure.result c.with_unsure.ensures
