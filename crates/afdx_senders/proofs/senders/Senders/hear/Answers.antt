use Rattle.std.proofs.Common.{sym, ◌∙◌, subst}
use Rattle.std.specs.Prelude.{OnOk}
use Rattle.afdx_senders.specs.Lines.{AddsLines, MayComeTo, found_by, lines_found}
use Rattle.afdx_senders.specs.declared.sites.SourceOf.{SourceOf}
use Rattle.afdx_senders.proofs.senders.Senders.hear.Goals as goal

pub returns-in-Source-clause-found : goal.returns-in-Source-clause-found
returns-in-Source-clause-found c at may stand =
    let x = c.args.x.now in
    let is = sym c.source_of-whose.ensures ∙ c.in-Source.is in
    subst (λ (w : SourceOf). OnOk c.came_to.result
    (AddsLines (lines_found x (found_by at x w)) c.args.self.now.found c.came_to.new.self.found)) (sym is)
    (c.came_to.ensures.found at (subst (λ (w : SourceOf). MayComeTo at x w) is may) stand)
