use Rattle.std.proofs.Common.{rules, ◌≡◌, ◌+◌, ◌<◌, ◌≤◌, drop, get_or, length, sym, ◌∙◌, arith}
use Rattle.std.proofs.lemmas.List.{drop_all}
use Rattle.afdx_conform.specs.KnownBytes.{may_fit}
use Rattle.afdx_conform.specs.Limits.{gone_of}
use Rattle.afdx_conform.proofs.NamingLemmas.{no-mark, from-next, from-here, from-end}
use Rattle.afdx_conform.proofs.PlacesLemmas.{here}
use Rattle.afdx_conform.proofs.SearchLemmas.{named-behind, named-reached, named-nowhere}
use Rattle.afdx_conform.proofs.naming.first_place.Goals as goal

pub loop-place-init : goal.loop-place-init
loop-place-init c = (
  c.args.settled,
  c.requires.places,
  λ z a. named-behind z c.args.limits.now c.args.frame.now a c.args.arrivals.now c.args.marks.now c.args.settled
      c.requires.marks c.requires.settled,
)

pub returns-then-place-marks-clause-named : goal.returns-then-place-marks-clause-named
returns-then-place-marks-clause-named c z a =
    let inv = c.loop-place.invariant in
    let k = here (may_fit c.args.limits.now c.args.frame.now) c.args.arrivals.now inv.0 c.args.places.now
    c.loop-place.place-index c.loop-place-test.true inv.1 in
    from-end z (gone_of c.args.frame.now) c.args.arrivals.now c.args.marks.now (get_or c.args.places.now
    c.loop-place.place-index 0) c.if-place-marks.true
    c.requires.marks
    (named-reached z c.args.limits.now c.args.frame.now a c.args.arrivals.now c.args.marks.now inv.0
    (get_or c.args.places.now
    c.loop-place.place-index 0)
    (drop (c.loop-place.place-index + 1) c.args.places.now) k (inv.2 z a))

pub returns-in-Some-clause-named : goal.returns-in-Some-clause-named
returns-in-Some-clause-named c z a =
    let inv = c.loop-place.invariant in
    let k = here (may_fit c.args.limits.now c.args.frame.now) c.args.arrivals.now inv.0 c.args.places.now
    c.loop-place.place-index c.loop-place-test.true inv.1 in
    let lt : (get_or c.args.places.now c.loop-place.place-index 0) < length c.args.marks.now =
    (let h = c.if-place-marks.false
    in omega (arith, h)) in
    let there = c.index-arrivals-place.is in
    from-here z (gone_of c.args.frame.now) c.args.arrivals.now c.args.marks.now
    (get_or c.args.places.now c.loop-place.place-index 0)
    c.index-arrivals-place.result no-mark c.in-Some.reason lt c.requires.marks there
    (sym (c.names_it.ensures z a) ∙ c.in-Some.is)
    (named-reached z c.args.limits.now c.args.frame.now a c.args.arrivals.now c.args.marks.now inv.0
    (get_or c.args.places.now
    c.loop-place.place-index 0)
    (drop (c.loop-place.place-index + 1) c.args.places.now) k (inv.2 z a))

pub loop-place-preserved : goal.loop-place-preserved
loop-place-preserved c =
    let inv = c.loop-place.invariant in
    let k = here (may_fit c.args.limits.now c.args.frame.now) c.args.arrivals.now inv.0 c.args.places.now
    c.loop-place.place-index c.loop-place-test.true inv.1 in
    let lt : (get_or c.args.places.now c.loop-place.place-index 0) < length c.args.marks.now =
    (let h = c.if-place-marks.false
    in omega (arith, h)) in
    let there : c.index-arrivals-place.result ≡ get_or c.args.arrivals.now
    (get_or c.args.places.now c.loop-place.place-index
    0) c.index-arrivals-place.result = search rules in (
      (get_or c.args.places.now c.loop-place.place-index 0) + 1,
      k.behind,
      λ z a. from-next z (gone_of c.args.frame.now) c.args.arrivals.now c.args.marks.now (get_or c.args.places.now
          c.loop-place.place-index 0)
          c.index-arrivals-place.result no-mark lt c.requires.marks there
          (sym (c.names_it.ensures z a) ∙ c.in-None.is)
          (named-reached z c.args.limits.now c.args.frame.now a c.args.arrivals.now c.args.marks.now inv.0
          (get_or c.args.places.now
          c.loop-place.place-index 0)
          (drop (c.loop-place.place-index + 1) c.args.places.now) k (inv.2 z a)),
    )

pub returns-clause-named : goal.returns-clause-named
returns-clause-named c z a =
    let inv = c.loop-place.invariant in
    let past : length c.args.places.now ≤ c.loop-place.place-index =
    (let h = c.loop-place-test.false in omega (arith, h)) in
    named-nowhere z c.args.limits.now c.args.frame.now a c.args.arrivals.now c.args.marks.now inv.0
    (drop c.loop-place.place-index c.args.places.now) (drop_all c.loop-place.place-index c.args.places.now past)
    c.requires.marks
    inv.1 (inv.2 z a)
