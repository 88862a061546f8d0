use Rattle.std.proofs.Common.{arith, ◌≡◌, drop, sym, ap, ◌∙◌, is_some}
use Rattle.afdx_input_files.specs.declared.options.NextOption.TheVariants.{Last, Broken, Next}
use Rattle.afdx_input_files.specs.Options.{filled, next_option}
use Rattle.afdx_input_files.proofs.OrderLemmas.{rest_from}
use Rattle.afdx_input_files.proofs.OptionLemmas.{options_in-last, options_in-broken, whole-next, behind_next, ends_at}
use Rattle.afdx_input_files.proofs.options.are_whole.Goals as goal

pub returns-in-Last : goal.returns-in-Last
returns-in-Last c =
    let next : next_option c.args.order (drop c.options.place c.args.options.now) ≡ Last =
    sym (c.in-Last.ensures ∙ ap (next_option c.args.order) (rest_from c.options.place c.args.options.now)) in
    sym (ap is_some (options_in-last c.args.order (drop c.options.place c.args.options.now) next))
    ∙ c.options.invariant.same

pub returns-in-Broken : goal.returns-in-Broken
returns-in-Broken c =
    let next : next_option c.args.order (drop c.options.place c.args.options.now) ≡ Broken =
    sym (c.in-Broken.ensures ∙ ap (next_option c.args.order) (rest_from c.options.place c.args.options.now)) in
    sym (ap is_some (options_in-broken c.args.order (drop c.options.place c.args.options.now) next))
    ∙ c.options.invariant.same

pub overflow_add-place-in-Next : goal.overflow_add-place-in-Next
overflow_add-place-in-Next c =
    let next : next_option c.args.order (drop c.options.place c.args.options.now) ≡ Next
    c.in-Next.field-0 c.in-Next.size =
    sym (c.in-Next.ensures ∙ ap (next_option c.args.order) (rest_from c.options.place c.args.options.now)) in
    let size : c.filled_up.result ≡ filled c.in-Next.size = c.filled_up.ensures.value ∙ ap filled c.from.ensures in
    let within = ends_at c.args.order c.options.place c.in-Next.field-0 c.in-Next.size c.args.options.now
    c.options.invariant.within next in
    omega (arith, within, size)

pub options-preserved : goal.options-preserved
options-preserved c =
    let next : next_option c.args.order (drop c.options.place c.args.options.now) ≡ Next
    c.in-Next.field-0 c.in-Next.size =
    sym (c.in-Next.ensures ∙ ap (next_option c.args.order) (rest_from c.options.place c.args.options.now)) in
    let size : c.filled_up.result ≡ filled c.in-Next.size = c.filled_up.ensures.value ∙ ap filled c.from.ensures in
    let within = ends_at c.args.order c.options.place c.in-Next.field-0 c.in-Next.size c.args.options.now
    c.options.invariant.within next in
    record {
      within = omega (arith, within, size);
      same = rw (size, ← behind_next c.options.place c.in-Next.size c.args.options.now)
          (whole-next c.args.order (drop c.options.place c.args.options.now) c.in-Next.field-0 c.in-Next.size next
          ∙ c.options.invariant.same);
    }

pub options-smaller : goal.options-smaller
options-smaller c =
    let next : next_option c.args.order (drop c.options.place c.args.options.now) ≡ Next
    c.in-Next.field-0 c.in-Next.size =
    sym (c.in-Next.ensures ∙ ap (next_option c.args.order) (rest_from c.options.place c.args.options.now)) in
    let size : c.filled_up.result ≡ filled c.in-Next.size = c.filled_up.ensures.value ∙ ap filled c.from.ensures in
    let within = ends_at c.args.order c.options.place c.in-Next.field-0 c.in-Next.size c.args.options.now
    c.options.invariant.within next in
    omega (arith, within, size)
