use Rattle.std.proofs.Common.{rules, arith, IfSome, None, Ok, ◌∙◌}
use Rattle.afdx_command_tables.specs.Counts.{with_lines}
use Rattle.afdx_replay.specs.cascading.Ran.{Answers}
use Rattle.afdx_replay.proofs.CascadeOverLemmas.{answered-err, answered-ok, can-tell, none-told, stops-start}
use Rattle.afdx_replay.proofs.SiteLemmas.{sites-count}
use Rattle.afdx_replay.proofs.TextLemmas.{once-back}
use Rattle.afdx_replay.proofs.cascading.unadmitted.run_cascade_unadmitted.Goals as goal

pub returns-in_err-sites-clause-answer : goal.returns-in_err-sites-clause-answer
returns-in_err-sites-clause-answer g c =
    let stop = stops-start c.args.switches.now (g.R.Read.remaining c.args.input.now.inner)
    (g.W.Write.contents c.args.output.now.inner) in
    search rules

pub returns-in_err-cascading-clause-answer : goal.returns-in_err-cascading-clause-answer
returns-in_err-cascading-clause-answer g c =
    let stop = stops-start c.args.switches.now (g.R.Read.remaining c.args.input.now.inner)
    (g.W.Write.contents c.args.output.now.inner) in
    search rules

pub run_list-requires-clause-form : goal.run_list-requires-clause-form
run_list-requires-clause-form g c =
    let told = c.in_ok-cascading.ensures.told None in
    let count = sites-count c.args.switches.now in
    let few = told.fits.few in
    rw (c.as_slice.ensures.value, c.in_ok-sites.ensures) (omega (arith, few, count))

pub run_list-requires-clause-told : goal.run_list-requires-clause-told
run_list-requires-clause-told g c =
    let ss = c.args.switches.now in (
      (ss, None),
      none-told _ ss None c.in_ok-cascading.cascading (g.W.Write.contents c.new-output.result.device.now.inner)
          (c.in_ok-cascading.ensures.told _) c.in_ok-cascading.ensures.clock c.in_ok-cascading.ensures.steady,
      can-tell ss c.as_slice.result.now (c.as_slice.ensures.value ∙ c.in_ok-sites.ensures),
    )

pub returns-in_err-lines-clause-answer : goal.returns-in_err-lines-clause-answer
returns-in_err-lines-clause-answer g c =
    let ss = c.args.switches.now in
    let old = g.W.Write.contents c.args.output.now.inner in
    let device = c.run_list.new.output.device.now in
    let rest = g.R.Read.remaining c.run_list.new.input.inner in
    let sites = c.as_slice.result.now in
    let are = c.as_slice.ensures.value ∙ c.in_ok-sites.ensures in
    let told = none-told _ ss None c.in_ok-cascading.cascading _ (c.in_ok-cascading.ensures.told _)
    c.in_ok-cascading.ensures.clock c.in_ok-cascading.ensures.steady in
    let answer = answered-err _ ss None c.run_list.new.machine old (g.W.Write.contents device.inner)
    (g.R.Read.remaining c.args.input.now.inner) rest sites c.in_err-lines.field-0.0 are
    (rw c.new-output.ensures.device at (c.in_err-lines.ensures.answer (ss, None) told (can-tell ss sites are))) in
    once-back device (λ w. IfSome (g.R.Read.remaining c.args.input.now.inner) (λ bytes. Answers ss bytes rest old
    (g.W.Write.contents w.inner) c.from_residual-in_err-lines.result)) {back = c.output-3-1.given.0} (search rules)
    (search rules)

pub returns-clause-answer : goal.returns-clause-answer
returns-clause-answer g c =
    let ss = c.args.switches.now in
    let old = g.W.Write.contents c.args.output.now.inner in
    let device = c.run_list.new.output.device.now in
    let rest = g.R.Read.remaining c.run_list.new.input.inner in
    let sites = c.as_slice.result.now in
    let are = c.as_slice.ensures.value ∙ c.in_ok-sites.ensures in
    let machine = c.run_list.new.machine in
    let told = none-told _ ss None c.in_ok-cascading.cascading _ (c.in_ok-cascading.ensures.told _)
    c.in_ok-cascading.ensures.clock c.in_ok-cascading.ensures.steady in
    once-back device (λ w. IfSome (g.R.Read.remaining c.args.input.now.inner) (λ bytes. Answers ss bytes rest old
    (g.W.Write.contents w.inner) (Ok (with_lines machine.teller.counts c.in_ok-lines.lines))))
    {back = c.output-3-1.given.0}
    (answered-ok _ ss None machine old (g.W.Write.contents device.inner)
    (g.R.Read.remaining c.args.input.now.inner) rest sites c.in_ok-lines.lines are
    (rw c.new-output.ensures.device at (c.in_ok-lines.ensures.answer (ss, None) told (can-tell ss sites are))))
    (search rules)
