use Rattle.std.proofs.Common.{arith, ap, sym, ◌∙◌, ℕ, Some, ◌<◌, length, subst, Option, MatchOption}
use Rattle.std.proofs.lemmas.Option.{slice_get-get_or}
use Rattle.afdx_send.specs.Agenda.{IsSoonest, NoneBefore, nexts}
use Rattle.afdx_send.specs.declared.agenda.NextRelease.{NextRelease}
use Rattle.afdx_send.proofs.AgendaLemmas.{root_is}
use Rattle.afdx_send.proofs.agenda.ReleaseAgenda.first.Goals as goal

pub returns-else-self-eq0 : goal.returns-else-self-eq0
returns-else-self-eq0 c =
    let nodes = c.args.self.now.nodes.items in
    let size = c.requires.played.size in
    let below : 1 < length nodes = omega (arith, c.if-self-eq0.false) in
    subst (λ (o : Option NextRelease). MatchOption o ((t : ℕ) → NoneBefore (nexts c.args.self.now) t)
    (λ next. IsSoonest (nexts c.args.self.now) next.time next.place)) (sym c.release.ensures)
    (root_is c.args.self.now.count nodes c.requires.played c.index.result.now
    (slice_get-get_or nodes 1 c.index.result.now below ∙ ap (λ z. Some z) (sym c.index.ensures)))
