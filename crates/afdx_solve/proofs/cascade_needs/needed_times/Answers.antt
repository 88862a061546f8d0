use Rattle.std.proofs.Common.{◌≡◌, ap, ◌∙◌, ◌+◌, length, min, max, if◌then◌else◌}
use Rattle.std.specs.Option.{unwrap_or}
use Rattle.afdx_config.specs.Rows.{Rows, link_row}
use Rattle.afdx_admit.specs.Cascade.{goes_to_system}
use Rattle.afdx_solve.specs.Solved.{apart_us}
use Rattle.afdx_solve.specs.SolvedCascade.{skew_needed}
use Rattle.afdx_solve.proofs.AtLemmas.{tables-one}
use Rattle.afdx_solve.proofs.DelayLemmas.{all_within}
use Rattle.afdx_solve.proofs.cascade_needs.needed_times.Goals as goal

pub latency_needed-requires-clause-within : goal.latency_needed-requires-clause-within
latency_needed-requires-clause-within c =
    let t : Rows = c.tables-tables.result.now in
    all_within (length t.systems) 24 c.tables-tables.ensures.lawful.systems.count (link_row c.args.link.now).to
    (c.requires.row.row t c.tables-tables.ensures.tables).to

pub returns-clause-skew : goal.returns-clause-skew
unfolding skew_needed
returns-clause-skew c = λ t at.
    let l = link_row c.args.link.now in
    let u : Rows = c.tables-tables.result.now in
    let same : u ≡ t = tables-one c.args.switches.now c.args.switch.0 u t c.tables-tables.ensures.tables at in
    c.skew_needed.ensures
    ∙ ap (λ (r : Rows). min 100000 (max l.latency_us (if goes_to_system r l
    then unwrap_or c.latency_of-way.result 0 + apart_us c.args.options else 0)))
    same
    ∙ ap (λ way. min 100000 (max l.latency_us (if goes_to_system t l
    then unwrap_or way 0 + apart_us c.args.options else 0)))
    c.latency_of-way.ensures.sum
