use Rattle.std.proofs.Common.{◌≡◌, None, Some, ap, arith, sym, ◌∙◌, subst}
use Rattle.std.proofs.lemmas.Option.{same_Some}
use Rattle.afdx_law_bounds.specs.Tables.{port_of}
use Rattle.afdx_lawful.specs.Courses.{IsKnownBy}
use Rattle.afdx_lawful.specs.Partners.{Waiting}
use Rattle.afdx_lawful.specs.Unpaired.{IsToldOf}
use Rattle.afdx_senders.specs.Followed.{AreFollowed, put_at, told_next}
use Rattle.afdx_senders.specs.Lines.{AddsLines, single_line}
use Rattle.afdx_senders.proofs.LineLemmas.{one_line, single_same}
use Rattle.afdx_senders.proofs.StandingLemmas.{awaited_next, none_next, put_others}
use Rattle.afdx_senders.proofs.senders.Senders.tell.Goals as goal

pub returns-in_default-clause-stands : goal.returns-in_default-clause-stands
returns-in_default-clause-stands c at f y is next known stand =
    let all = (c.in_default.ensures.none at f is stand.followed).0 in
    let no : None ≡ Some y = sym (none_next f.source f.course all) ∙ next in absurd (cc)

pub returns-in_default-clause-found : goal.returns-in_default-clause-found
returns-in_default-clause-found c at f y l there is next known stand =
    let all = (c.in_default.ensures.none at f is stand.followed).0 in
    let no : None ≡ Some y = sym (none_next f.source f.course all) ∙ next in absurd (cc)

pub returns-in_default-clause-waited : goal.returns-in_default-clause-waited
returns-in_default-clause-waited c at f y is next stand =
    let all = (c.in_default.ensures.none at f is stand.followed).0 in
    let no : None ≡ Some y = sym (none_next f.source f.course all) ∙ next in absurd (cc)

pub returns-clause-stands : goal.returns-clause-stands
returns-clause-stands c at f y is next known stand =
    let place = c.args.place in
    let p = c.in-Some.ensures.told at f is stand.followed in
    let e : p.0 ≡ y = same_Some p.0 y (sym p.1 ∙ next) in
    let t = p.2 (subst (λ (v : Waiting). IsKnownBy f.source c.args.end v) (sym e) known) in
    let to = put_at place (told_next f y) at in
    let followed : AreFollowed to c.tell.new.self =
    subst (λ (v : Waiting). AreFollowed (put_at place (told_next f v) at) c.tell.new.self) e t.1 in
    record {
      followed = followed;
      agenda = awaited_next at to place None c.due-after.result c.args.self.now.agenda c.put_due.new.self
          (λ k other. put_others at place (told_next f y) k other) (λ m no. absurd (cc))
          (c.due-after.ensures to followed) c.in_ok-put_due.ensures stand.agenda;
    }

pub returns-clause-found : goal.returns-clause-found
returns-clause-found c at f y l there is next known stand =
    let told = c.in-Some.told in
    let p = c.in-Some.ensures.told at f is stand.followed in
    let e : p.0 ≡ y = same_Some p.0 y (sym p.1 ∙ next) in
    let t = p.2 (subst (λ (v : Waiting). IsKnownBy f.source c.args.end v) (sym e) known) in
    let of = subst (λ (v : Waiting). IsToldOf f.source f.course v told) e t.0 in
    subst (λ ls. AddsLines ls c.args.self.now.found c.put_single.new.found)
    (ap (λ n. single_line n told.line told.side told.moment told.is_cut) (c.port_of-port.ensures l there)
    ∙ single_same (port_of c.args.self.now.sites.tables.now l.from) f y told of) c.in_ok-put_single.ensures

pub returns-clause-left : goal.returns-clause-left
returns-clause-left c waited =
    let told = c.in-Some.told in
    let fewer = c.in-Some.ensures.less in
    let more = one_line c.port_of-port.result told.line told.side told.moment told.is_cut c.args.self.now.found
    c.put_single.new.found c.in_ok-put_single.ensures in omega (arith, fewer, more)
