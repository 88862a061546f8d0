use Rattle.std.proofs.Common.{◌∙◌}
use Rattle.afdx_replay.proofs.CascadeEventLemmas.{name-is}
use Rattle.afdx_replay.proofs.CascadeOverLemmas.{same-site}
use Rattle.afdx_replay.proofs.cascading.sites.site_at.Goals as goal

pub returns : goal.returns
returns c =
    same-site c.new.result c.args.switches.now c.args.switch.0
    (c.new.ensures.name ∙ c.in_ok-name.ensures.ok ∙ name-is _ _ _ c.name.ensures.name)
    (c.new.ensures.cables ∙ c.in_ok-cables.ensures)
