use Rattle.std.proofs.Common.{◌≡◌, ◌∙◌, ap, ap₂, refl, sym, subst}
use Rattle.std.specs.Prelude.{option_map, slice_get, Some}
use Rattle.afdx_config.specs.Rows.{Rows}
use Rattle.afdx_lawful.specs.Courses.{at_first, told_at}
use Rattle.afdx_lawful.specs.Senders.{StandsFor}
use Rattle.afdx_lawful.specs.Ways.{IsApart}
use Rattle.afdx_senders.specs.Followed.{newly}
use Rattle.afdx_senders.specs.Sites.{recorded_in}
use Rattle.afdx_senders.specs.Terms.{terms_at}
use Rattle.afdx_senders.proofs.NewLemmas.{judged_too}
use Rattle.afdx_senders.proofs.StandingLemmas.{none_first, put_awaited}
use Rattle.afdx_senders.proofs.senders.Senders.judge.Goals as goal

pub returns-clause-judges : goal.returns-clause-judges
returns-clause-judges c z next before l there leeway apart too h =
    let t = c.args.self.now.sites.tables.now in
    let seen = recorded_in c.args.self.now.sites.recorded in
    let place = c.args.place in
    let s = terms_at z.tables z.recorded z.asked place l in
    let same : terms_at t seen z.asked place l ≡ s =
    ap₂ (λ r q. terms_at r q z.asked place l) h.setup.tables h.setup.recorded in
    let source = c.source-source.ensures z.asked l
    (subst (λ (r : Rows). slice_get r.links place ≡ Some l) (sym h.setup.tables) there) leeway
    (subst (λ f. IsApart f c.args.apart) (sym same) apart) in
    judged_too z next place too before l c.args.self.now _ there h
    (record {
      tables = h.setup.tables;
      among = h.setup.among;
      recorded = h.setup.recorded;
      room = c.put.ensures.room ∙ h.setup.room;
    }) refl
    (record {
      followed = c.put.ensures.follows h.at (newly s)
          (subst (λ f. StandsFor f at_first c.source-source.result) same source) h.stand.followed;
      agenda = put_awaited h.at place (newly s) c.args.self.now.agenda (ap (option_map (told_at s)) (none_first s))
          h.stand.agenda;
    })
