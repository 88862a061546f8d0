use Rattle.std.proofs.Common.{◌∙◌, Some, None}
use Rattle.toml.specs.View.{view, table_view}
use Rattle.afdx_config.proofs.AskedLemmas.{latency-found}
use Rattle.afdx_config.proofs.asked.latency_of.Goals as goal

pub returns-in-Some : goal.returns-in-Some
returns-in-Some c =
    c.number_of.ensures
    ∙ latency-found c.link_at-at.result (table_view c.args.table.now) (Some (view c.in-Some.value.now))
    c.link_at-at.ensures.spot c.in-Some.ensures

pub returns-in-None : goal.returns-in-None
returns-in-None c =
    latency-found c.link_at-at.result (table_view c.args.table.now) None c.link_at-at.ensures.spot c.in-None.ensures
