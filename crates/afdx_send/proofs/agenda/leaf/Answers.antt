use Rattle.std.proofs.Common.{ap, option_map, sym, ◌∙◌}
use Rattle.afdx_send.specs.Agenda.{next_with}
use Rattle.afdx_send.proofs.NodeLemmas.{in_leaf}
use Rattle.afdx_send.proofs.agenda.leaf.Goals as goal

pub returns-in-Some : goal.returns-in-Some
returns-in-Some c =
    in_leaf c.in-Some.time c.args.place c.requires
    ∙ ap (λ o. option_map (next_with c.args.place) o) (sym c.in-Some.is)
