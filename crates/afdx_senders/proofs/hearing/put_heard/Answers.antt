use Rattle.std.proofs.Common.{◌≡◌, ◌∷◌, [], true, false, map, sym, ap, ◌∙◌, subst}
use Rattle.afdx_lawful.specs.Alone.{is_empty}
use Rattle.afdx_lawful.specs.OneSide.{told_heard}
use Rattle.afdx_senders.specs.Followed.{IsFound}
use Rattle.afdx_senders.specs.Lines.{AddsLines, line_of}
use Rattle.afdx_senders.proofs.LineLemmas.{adds_none, loud_one, quiet_none}
use Rattle.afdx_senders.proofs.StandingLemmas.{on_ok}
use Rattle.afdx_senders.proofs.hearing.put_heard.Goals as goal

pub returns-then-is_quiet-clause-found : goal.returns-then-is_quiet-clause-found
returns-then-is_quiet-clause-found c fs found =
    let x = c.args.x.now in
    let told : told_heard x.line c.in-Some.heard ≡ fs = subst (λ o. IsFound x.line fs o) c.in-Some.is found in
    let quiet = subst (λ gs. is_empty gs ≡ true) told (sym (c.is_quiet.ensures x.line) ∙ c.if-is_quiet.true) in
    subst (λ ls. AddsLines ls c.args.found.now c.args.found.now) (sym (quiet_none x fs quiet))
    (adds_none c.args.found.now)

pub returns-clause-found : goal.returns-clause-found
returns-clause-found c fs found =
    let x = c.args.x.now in
    let told : told_heard x.line c.in-Some.heard ≡ fs = subst (λ o. IsFound x.line fs o) c.in-Some.is found in
    let loud = subst (λ gs. is_empty gs ≡ false) told (sym (c.is_quiet.ensures x.line) ∙ c.if-is_quiet.false) in
    on_ok (λ moved. (
      c.line_of.result ∷ [],
      ap (λ y. map line_of (y ∷ [])) c.line_of.ensures ∙ loud_one x c.in-Some.heard fs told loud,
      moved,
    )) c.push.result c.push.ensures.more
