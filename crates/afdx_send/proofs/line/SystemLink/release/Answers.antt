use Rattle.std.proofs.Common.{refl, ap, ◌∙◌}
use Rattle.afdx_send.proofs.LineLemmas.{line_releases}
use Rattle.afdx_send.proofs.line.SystemLink.release.Goals as goal

pub returns-clause-released : goal.returns-clause-released
returns-clause-released c =
    line_releases c.args.self.now _ c.new.result c.args.time c.release-message.result.0
    c.release-message.result.1 c.requires.due c.release-message.ensures.serves
    c.release-message.ensures.released refl refl refl c.next_number-self.ensures
    (ap (λ f. f.message) c.new.ensures
    ∙ ap (λ u. record { udp = u; payload = c.into_payload-payload.result.items })
    c.udp-udp.ensures ∙ ap (λ v. record {
      udp = c.release-message.result.1.udp;
      payload = v.items;
    }) c.into_payload-payload.ensures.payload)
