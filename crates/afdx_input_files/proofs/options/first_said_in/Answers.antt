use Rattle.std.proofs.Common.{arith, ◌≡◌, drop, sym, ap, ◌∙◌, is_some, ℕ, Some, eqb, false}
use Rattle.std.proofs.lemmas.List.{drop-drop}
use Rattle.afdx_input_files.specs.declared.options.NextOption.TheVariants.{Last, Broken, Next}
use Rattle.afdx_input_files.specs.Orders.{number_in}
use Rattle.afdx_input_files.specs.Options.{filled, next_option}
use Rattle.afdx_input_files.proofs.OrderLemmas.{rest_from}
use Rattle.afdx_input_files.proofs.OptionLemmas.{options_in-broken, said-last, said-broken, said-other, said-wrong, said-number}
use Rattle.afdx_input_files.proofs.OptionLemmas.{whole-next, behind_next, ends_at, filled-least}
use Rattle.afdx_input_files.proofs.options.first_said_in.Goals as goal

pub returns-in-Last-clause-said : goal.returns-in-Last-clause-said
returns-in-Last-clause-said c =
    let rest = drop c.options.place c.args.options.now in
    let next : next_option c.args.order rest ≡ Last =
    sym (c.in-Last.ensures ∙ ap (next_option c.args.order) (rest_from c.options.place c.args.options.now)) in
    sym (said-last c.args.order c.args.code c.args.size rest next) ∙ c.options.invariant.same

pub returns-in-Broken-clause-said : goal.returns-in-Broken-clause-said
returns-in-Broken-clause-said c =
    let rest = drop c.options.place c.args.options.now in
    let next : next_option c.args.order rest ≡ Broken =
    sym (c.in-Broken.ensures ∙ ap (next_option c.args.order) (rest_from c.options.place c.args.options.now)) in
    sym (said-broken c.args.order c.args.code c.args.size rest (ap is_some (options_in-broken c.args.order rest next)))
    ∙ c.options.invariant.same

pub returns-then-from-size-clause-said : goal.returns-then-from-size-clause-said
returns-then-from-size-clause-said c =
    let rest = drop c.options.place c.args.options.now in
    let next : next_option c.args.order rest ≡ Next c.args.code c.in-Next.length =
    sym (c.in-Next.ensures ∙ ap (next_option c.args.order) (rest_from c.options.place c.args.options.now))
    ∙ ap (λ (code : ℕ). Next code c.in-Next.length) c.if-found-code.true in
    sym (said-wrong c.args.order c.args.code c.args.size rest c.in-Next.length next c.options.invariant.whole
    (omega (arith, c.from.ensures, c.if-from-size.true))) ∙ c.options.invariant.same

pub number-requires-clause-held : goal.number-requires-clause-held
number-requires-clause-held c =
    let rest = drop c.options.place c.args.options.now in
    let next : next_option c.args.order rest ≡ Next c.in-Next.found c.in-Next.length =
    sym (c.in-Next.ensures ∙ ap (next_option c.args.order) (rest_from c.options.place c.args.options.now)) in
    let within = ends_at c.args.order c.options.place c.in-Next.found c.in-Next.length c.args.options.now
    c.options.invariant.within next in
    omega (arith, within, filled-least c.in-Next.length, c.from.ensures, c.if-from-size.false)

pub returns-then-found-code-clause-said : goal.returns-then-found-code-clause-said
returns-then-found-code-clause-said c =
    let rest = drop c.options.place c.args.options.now in
    let size : c.in-Next.length ≡ c.args.size = omega (arith, c.from.ensures, c.if-from-size.false) in
    let next : next_option c.args.order rest ≡ Next c.args.code c.args.size =
    sym (c.in-Next.ensures ∙ ap (next_option c.args.order) (rest_from c.options.place c.args.options.now))
    ∙ ap (λ (code : ℕ). Next code c.in-Next.length) c.if-found-code.true
    ∙ ap (λ (n : ℕ). Next c.args.code n) size in
    ap (λ (n : ℕ). Some (Some n)) (c.number.ensures.value
    ∙ ap (number_in c.args.order c.args.size) (sym (drop-drop 4 c.options.place c.args.options.now)))
    ∙ sym (said-number c.args.order c.args.code c.args.size rest next c.options.invariant.whole)
    ∙ c.options.invariant.same

pub options-smaller : goal.options-smaller
options-smaller c =
    let rest = drop c.options.place c.args.options.now in
    let next : next_option c.args.order rest ≡ Next c.in-Next.found c.in-Next.length =
    sym (c.in-Next.ensures ∙ ap (next_option c.args.order) (rest_from c.options.place c.args.options.now)) in
    let size : c.filled_up.result ≡ filled c.in-Next.length =
    c.filled_up.ensures.value ∙ ap filled c.from-in-Next.ensures in
    let within = ends_at c.args.order c.options.place c.in-Next.found c.in-Next.length c.args.options.now
    c.options.invariant.within next in
    omega (arith, within, size)

pub options-preserved : goal.options-preserved
options-preserved c =
    let rest = drop c.options.place c.args.options.now in
    let next : next_option c.args.order rest ≡ Next c.in-Next.found c.in-Next.length =
    sym (c.in-Next.ensures ∙ ap (next_option c.args.order) (rest_from c.options.place c.args.options.now)) in
    let size : c.filled_up.result ≡ filled c.in-Next.length =
    c.filled_up.ensures.value ∙ ap filled c.from-in-Next.ensures in
    let within = ends_at c.args.order c.options.place c.in-Next.found c.in-Next.length c.args.options.now
    c.options.invariant.within next in
    let other : eqb c.in-Next.found c.args.code ≡ false = grind (arith, c.if-found-code.false) in
    record {
      within = omega (arith, within, size);
      whole = rw (size, ← behind_next c.options.place c.in-Next.length c.args.options.now)
          (whole-next c.args.order rest c.in-Next.found c.in-Next.length next ∙ c.options.invariant.whole);
      same = rw (size, ← behind_next c.options.place c.in-Next.length c.args.options.now)
          (said-other c.args.order c.args.code c.args.size rest c.in-Next.found c.in-Next.length next other
          ∙ c.options.invariant.same);
    }
