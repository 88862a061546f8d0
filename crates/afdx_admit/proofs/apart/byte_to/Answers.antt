use Rattle.std.proofs.Common.{sym, ap, ◌∙◌}
use Rattle.std.specs.Option.{option_map_or}
use Rattle.afdx_frame.proofs.ListLemmas.{slice_get-within}
use Rattle.afdx_config.specs.Admission.{byte_ns}
use Rattle.afdx_admit.proofs.apart.byte_to.Goals as goal

pub returns-clause-time : goal.returns-clause-time
returns-clause-time c =
    let s = slice_get-within c.args.tables.now.systems c.args.place.0 c.requires in
    c.byte_ns.ensures.time s.0 s.1 ∙ sym (ap (λ o. option_map_or byte_ns o 0) s.1)
