use Rattle.std.proofs.Common.{rules, ◌<◌, List, length, sym, subst}
use Rattle.afdx_conform.specs.Findings.{strangeness}
use Rattle.afdx_conform.specs.declared.finding.Finding.TheVariants.{Strange}
use Rattle.afdx_conform.specs.declared.finding.Mark.{Mark}
use Rattle.afdx_conform.specs.declared.gaps.Wanted.TheVariants.{ToName}
use Rattle.afdx_conform.specs.KnownBytes.{may_fit}
use Rattle.afdx_conform.specs.Limits.{gone_of}
use Rattle.afdx_conform.specs.Marks.{marked_all}
use Rattle.afdx_conform.specs.Naming.{IsNamedAt, NoneIsWanted}
use Rattle.afdx_conform.proofs.GapLemmas.{stay-named}
use Rattle.afdx_conform.proofs.NamingLemmas.{named-finding, named-marks}
use Rattle.afdx_conform.proofs.naming.unexplained.Goals as goal

pub returns-in-Some-clause-finding : goal.returns-in-Some-clause-finding
returns-in-Some-clause-finding c z a =
    let lt : c.in-Some.place < length c.args.marks.now.items = search rules in
    named-finding z (gone_of c.args.frame.now) c.args.arrivals.now c.args.marks.now.items c.in-Some.place
    c.index-arrivals-place.result c.in-Some.reason
    (Strange c.args.frame.now.number
    (strangeness z (marked_all c.args.arrivals.now c.args.marks.now.items) (gone_of c.args.frame.now))) lt
    c.requires.marks
    (subst (λ (l : List Mark). IsNamedAt z (gone_of c.args.frame.now) (marked_all c.args.arrivals.now l)
    c.in-Some.place c.in-Some.reason)
    c.as_slice.ensures.value (c.in-Some.ensures.named z a))

pub returns-in-Some-clause-named : goal.returns-in-Some-clause-named
returns-in-Some-clause-named c z a =
    let lt : c.in-Some.place < length c.args.marks.now.items = search rules in
    named-marks z (gone_of c.args.frame.now) c.args.arrivals.now c.args.marks.now.items c.in-Some.place
    c.index-arrivals-place.result c.in-Some.reason lt c.requires.marks
    (subst (λ (l : List Mark). IsNamedAt z (gone_of c.args.frame.now) (marked_all c.args.arrivals.now l)
    c.in-Some.place c.in-Some.reason)
    c.as_slice.ensures.value (c.in-Some.ensures.named z a))

pub first_place-requires-clause-places : goal.first_place-requires-clause-places
first_place-requires-clause-places c = c.no_less-later.ensures (may_fit c.args.limits.now c.args.frame.now)
    c.args.arrivals.now c.requires.places

pub first_place-requires-clause-settled : goal.first_place-requires-clause-settled
first_place-requires-clause-settled c =
    subst (λ (l : List Mark). NoneIsWanted ToName c.args.limits.now c.args.frame.now c.args.gaps.to_name.to
    c.args.arrivals.now l)
    (sym c.as_slice.ensures.value) c.requires.to_name

pub returns-in-Some-clause-stay : goal.returns-in-Some-clause-stay
returns-in-Some-clause-stay c =
    let lt : c.in-Some.place < length c.args.marks.now.items = search rules in
    stay-named c.args.marks.now.items c.in-Some.place c.in-Some.reason lt
