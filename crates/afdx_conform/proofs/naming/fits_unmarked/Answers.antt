use Rattle.std.proofs.Common.{rules, ◌≡◌, ◌+◌, ◌<◌, ◌≤◌, drop, get_or, length, true, false, sym, ◌∙◌, arith}
use Rattle.std.proofs.lemmas.List.{drop_all}
use Rattle.afdx_conform.specs.Findings.{is_of_right}
use Rattle.afdx_conform.specs.KnownBytes.{may_fit}
use Rattle.afdx_conform.specs.Limits.{gone_of}
use Rattle.afdx_conform.proofs.NamingLemmas.{no-mark, any-from, any-end}
use Rattle.afdx_conform.proofs.PlacesLemmas.{here}
use Rattle.afdx_conform.proofs.SearchLemmas.{right-behind, right-reached, right-nowhere}
use Rattle.afdx_conform.proofs.naming.fits_unmarked.Goals as goal

pub loop-place-init : goal.loop-place-init
loop-place-init c = (
  c.args.settled,
  c.no_less-later.ensures (may_fit c.args.limits.now c.args.frame.now) c.args.arrivals.now c.requires.places,
  λ z a. right-behind z c.args.limits.now c.args.frame.now a c.args.arrivals.now c.args.marks.now c.args.settled
      c.requires.marks
      c.requires.settled,
)

pub returns-then-place-marks : goal.returns-then-place-marks
returns-then-place-marks c z a =
    let inv = c.loop-place.invariant in
    let k = here (may_fit c.args.limits.now c.args.frame.now) c.args.arrivals.now inv.0 c.no_less-later.result.now
    c.loop-place.place-index c.loop-place-test.true inv.1 in
    sym (inv.2 z a
    ∙ right-reached z c.args.limits.now c.args.frame.now a c.args.arrivals.now c.args.marks.now inv.0
    (get_or c.no_less-later.result.now
    c.loop-place.place-index 0)
    (drop (c.loop-place.place-index + 1) c.no_less-later.result.now) k
    ∙ any-end (λ m. is_of_right z (gone_of c.args.frame.now) m) c.args.arrivals.now c.args.marks.now
    (get_or c.no_less-later.result.now
    c.loop-place.place-index 0)
    c.if-place-marks.true c.requires.marks)

pub returns-then-fits_without_mark : goal.returns-then-fits_without_mark
returns-then-fits_without_mark c z a =
    let inv = c.loop-place.invariant in
    let k = here (may_fit c.args.limits.now c.args.frame.now) c.args.arrivals.now inv.0 c.no_less-later.result.now
    c.loop-place.place-index c.loop-place-test.true inv.1 in
    let lt : (get_or c.no_less-later.result.now c.loop-place.place-index 0) < length c.args.marks.now =
    (let h = c.if-place-marks.false
    in omega (arith, h)) in
    let there = c.index-arrivals-place.is in
    sym (inv.2 z a
    ∙ right-reached z c.args.limits.now c.args.frame.now a c.args.arrivals.now c.args.marks.now inv.0
    (get_or c.no_less-later.result.now
    c.loop-place.place-index 0)
    (drop (c.loop-place.place-index + 1) c.no_less-later.result.now) k
    ∙ any-from (λ m. is_of_right z (gone_of c.args.frame.now) m) c.args.arrivals.now c.args.marks.now
    (get_or c.no_less-later.result.now
    c.loop-place.place-index 0)
    c.index-arrivals-place.result no-mark true lt c.requires.marks there (sym (c.fits_without_mark.ensures z a) ∙
    c.if-fits_without_mark.true))

pub loop-place-preserved : goal.loop-place-preserved
loop-place-preserved c =
    let inv = c.loop-place.invariant in
    let k = here (may_fit c.args.limits.now c.args.frame.now) c.args.arrivals.now inv.0 c.no_less-later.result.now
    c.loop-place.place-index c.loop-place-test.true inv.1 in
    let lt : (get_or c.no_less-later.result.now c.loop-place.place-index 0) < length c.args.marks.now =
    (let h = c.if-place-marks.false
    in omega (arith, h)) in
    let there : c.index-arrivals-place.result ≡ get_or c.args.arrivals.now
    (get_or c.no_less-later.result.now c.loop-place.place-index
    0) c.index-arrivals-place.result = search rules in (
      (get_or c.no_less-later.result.now c.loop-place.place-index 0) + 1,
      k.behind,
      λ z a. inv.2 z a
          ∙ right-reached z c.args.limits.now c.args.frame.now a c.args.arrivals.now c.args.marks.now inv.0
          (get_or c.no_less-later.result.now
          c.loop-place.place-index 0)
          (drop (c.loop-place.place-index + 1) c.no_less-later.result.now) k
          ∙ any-from (λ m. is_of_right z (gone_of c.args.frame.now) m) c.args.arrivals.now c.args.marks.now (get_or
          c.no_less-later.result.now c.loop-place.place-index 0)
          c.index-arrivals-place.result no-mark false lt c.requires.marks there
          (sym (c.fits_without_mark.ensures z a) ∙ c.if-fits_without_mark.false),
    )

pub returns : goal.returns
returns c z a =
    let inv = c.loop-place.invariant in
    let past : length c.no_less-later.result.now ≤ c.loop-place.place-index =
    (let h = c.loop-place-test.false in omega (arith, h)) in
    sym (inv.2 z a ∙ right-nowhere z c.args.limits.now c.args.frame.now a c.args.arrivals.now c.args.marks.now inv.0
    (drop c.loop-place.place-index c.no_less-later.result.now)
    (drop_all c.loop-place.place-index c.no_less-later.result.now past) c.requires.marks
    inv.1)
