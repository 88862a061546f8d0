use Rattle.std.proofs.Common.{ap, ◌∙◌, arith}
use Rattle.indexmap.specs.Layout.{length-set_value_at}
use Rattle.afdx_config.specs.Changed.{changed_at}
use Rattle.afdx_config.proofs.ChangedLemmas.{changed_link, rows-set, keys-set}
use Rattle.afdx_config.proofs.links.LinkTable.set_times.Goals as goal

pub invariant_of-self : goal.invariant_of-self
invariant_of-self c =
    let es = c.self.inside.by_vl.entries in
    let l = c.index_mut-link.result.now in (
      omega (arith, length-set_value_at es c.args.index (changed_link c.args.times l), c.self.invariant.0),
      keys-set c.args.times es c.args.index l c.index_mut-link.ensures.value c.self.invariant.1,
    )

pub returns : goal.returns
returns c = rows-set c.args.times c.self.inside.by_vl.entries c.args.index c.index_mut-link.result.now
    c.index_mut-link.ensures.value ∙ ap (changed_at c.args.index c.args.times) c.self.view_is
