use Rattle.std.proofs.Common.{◌∷◌, [], map, sym, ap, ◌∙◌}
use Rattle.std.specs.Prelude.{option_map}
use Rattle.afdx_senders.specs.Lines.{OfNone, line_of, lines_found}
use Rattle.afdx_senders.proofs.StandingLemmas.{on_ok}
use Rattle.afdx_senders.proofs.senders.Senders.strayed.Goals as goal

pub returns-in-Some-clause-found : goal.returns-in-Some-clause-found
returns-in-Some-clause-found c at =
    let x = c.args.x.now in
    on_ok (λ moved. (
      c.line_of.result ∷ [],
      ap (λ y. map line_of (y ∷ [])) c.line_of.ensures
          ∙ ap (λ o. lines_found x (option_map OfNone o)) (sym c.in-Some.is ∙ c.stray_of.ensures),
      moved,
    )) c.push.result c.push.ensures.more
