use Rattle.std.proofs.Common.{ap, ◌∙◌, reverse}
use Rattle.afdx_config.specs.Reading.{has_port}
use Rattle.afdx_end_systems.specs.Handovers.{frames_to}
use Rattle.afdx_end_systems.proofs.LawLemmas.{messages-delivered}
use Rattle.afdx_end_systems.proofs.laws.stream_is_told_once.Goals as goal

pub returns : goal.returns
returns c rows system port systems s link messages stream all subscribed is-link soon lawful copies =
    ap reverse (messages-delivered rows system port link.vl link all subscribed)
    ∙ c.stream_is_delivered_once.ensures systems s link messages stream
    (has_port rows.ports system link.vl) (frames_to port link.vl all) is-link soon
    lawful copies
