use Rattle.std.proofs.Common.{rules, ◌≡◌, ◌+◌, ◌≤◌, drop, get_or, length, true, false, refl, sym, ◌∙◌, arith}
use Rattle.std.proofs.lemmas.List.{drop_all}
use Rattle.afdx_conform.specs.KnownBytes.{may_fit}
use Rattle.afdx_conform.specs.Limits.{gone_of}
use Rattle.afdx_conform.specs.Marks.{arrival_of}
use Rattle.afdx_conform.specs.Streams.{fits}
use Rattle.afdx_conform.proofs.DeviationLemmas.{any-arrived}
use Rattle.afdx_conform.proofs.PlacesLemmas.{here}
use Rattle.afdx_conform.proofs.SearchLemmas.{fit-reached, fit-nowhere}
use Rattle.afdx_conform.proofs.deviating.fits_one.Goals as goal

pub loop-place-init : goal.loop-place-init
loop-place-init c = (c.args.from, c.requires, λ z a. refl)

pub returns-then-fits : goal.returns-then-fits
returns-then-fits c z a =
    let inv = c.loop-place.invariant in
    let k = here (may_fit c.args.limits.now c.args.frame.now) c.args.arrivals.now inv.0 c.args.places.now
    c.loop-place.place-index c.loop-place-test.true inv.1 in
    let there = c.index-arrivals-place.is in
    sym (inv.2 z a
    ∙ fit-reached z c.args.limits.now c.args.frame.now a c.args.arrivals.now inv.0
    (get_or c.args.places.now c.loop-place.place-index 0)
    (drop (c.loop-place.place-index + 1) c.args.places.now) k
    ∙ any-arrived (λ w. fits z w (gone_of c.args.frame.now)) c.args.arrivals.now
    (get_or c.args.places.now c.loop-place.place-index 0) c.index-arrivals-place.result
    true k.within there
    (sym (c.fits.ensures z (arrival_of c.index-arrivals-place.result) a refl refl) ∙ c.if-fits.true))

pub loop-place-preserved : goal.loop-place-preserved
loop-place-preserved c =
    let inv = c.loop-place.invariant in
    let k = here (may_fit c.args.limits.now c.args.frame.now) c.args.arrivals.now inv.0 c.args.places.now
    c.loop-place.place-index c.loop-place-test.true inv.1 in
    let there : c.index-arrivals-place.result ≡ get_or c.args.arrivals.now
    (get_or c.args.places.now c.loop-place.place-index 0) c.index-arrivals-place.result = search rules in (
      (get_or c.args.places.now c.loop-place.place-index 0) + 1,
      k.behind,
      λ z a. inv.2 z a
          ∙ fit-reached z c.args.limits.now c.args.frame.now a c.args.arrivals.now inv.0
          (get_or c.args.places.now c.loop-place.place-index 0)
          (drop (c.loop-place.place-index + 1) c.args.places.now) k
          ∙ any-arrived (λ w. fits z w (gone_of c.args.frame.now)) c.args.arrivals.now
          (get_or c.args.places.now c.loop-place.place-index 0) c.index-arrivals-place.result
          false k.within there
          (sym (c.fits.ensures z (arrival_of c.index-arrivals-place.result) a refl refl) ∙ c.if-fits.false),
    )

pub returns-then-place-arrivals : goal.returns-then-place-arrivals
returns-then-place-arrivals c z a =
    let inv = c.loop-place.invariant in
    let k = here (may_fit c.args.limits.now c.args.frame.now) c.args.arrivals.now inv.0 c.args.places.now
    c.loop-place.place-index c.loop-place-test.true inv.1 in
    let within = k.within in
    let past = c.if-place-arrivals.true in
    absurd (omega (arith, within, past))

pub returns : goal.returns
returns c z a =
    let inv = c.loop-place.invariant in
    let past : length c.args.places.now ≤ c.loop-place.place-index =
    (let h = c.loop-place-test.false in omega (arith, h)) in
    sym (inv.2 z a ∙ fit-nowhere z c.args.limits.now c.args.frame.now a c.args.arrivals.now inv.0
    (drop c.loop-place.place-index c.args.places.now) (drop_all c.loop-place.place-index c.args.places.now past) inv.1)
