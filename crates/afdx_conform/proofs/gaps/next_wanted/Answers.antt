use Rattle.std.proofs.Common.{◌+◌, ◌<◌, ◌≤◌, drop, get_or, length, sym, ◌∙◌, arith}
use Rattle.std.proofs.lemmas.List.{drop_all}
use Rattle.afdx_conform.proofs.GapLemmas.{none-to, none-past, none-end}
use Rattle.afdx_conform.proofs.NamingLemmas.{no-mark}
use Rattle.afdx_conform.proofs.PlacesLemmas.{here}
use Rattle.afdx_conform.proofs.gaps.next_wanted.Goals as goal

pub loop-place-init : goal.loop-place-init
loop-place-init c test xs start long h = (start, h, λ p a m le lt ok. absurd (omega (arith, le, lt)))

pub loop-place-preserved : goal.loop-place-preserved
loop-place-preserved c test xs start long h =
    let inv = c.loop-place.invariant test xs start long h in
    let p = get_or c.args.places.now c.loop-place.place-index 0 in
    let k = here test xs inv.0 c.args.places.now c.loop-place.place-index c.loop-place-test.true inv.1 in
    let within : p < length c.args.marks.now = (let e = c.if-place-marks.false in omega (arith, e)) in (
      p + 1,
      k.behind,
      none-past c.args.wanted test start xs c.args.marks.now inv.0 p
          (drop (c.loop-place.place-index + 1) c.args.places.now)
          no-mark k within (sym c.is_wanted.ensures ∙ c.if-is_wanted.false) inv.2,
    )

pub returns-then-place-marks : goal.returns-then-place-marks
returns-then-place-marks c test xs start long h =
    let inv = c.loop-place.invariant test xs start long h in
    let p = get_or c.args.places.now c.loop-place.place-index 0 in
    let k = here test xs inv.0 c.args.places.now c.loop-place.place-index c.loop-place-test.true inv.1 in
    let past = c.if-place-marks.true in
    record {
      within = omega arith;
      none = λ q a m low lt ok. none-to c.args.wanted test start xs c.args.marks.now inv.0 p
          (drop (c.loop-place.place-index + 1) c.args.places.now) k inv.2 q a m low (omega (arith, lt, past)) ok;
    }

pub returns-then-is_wanted : goal.returns-then-is_wanted
returns-then-is_wanted c test xs start long h =
    let inv = c.loop-place.invariant test xs start long h in
    let p = get_or c.args.places.now c.loop-place.place-index 0 in
    let k = here test xs inv.0 c.args.places.now c.loop-place.place-index c.loop-place-test.true inv.1 in
    record {
      within = (let e = c.if-place-marks.false in omega (arith, e));
      none = none-to c.args.wanted test start xs c.args.marks.now inv.0 p
          (drop (c.loop-place.place-index + 1) c.args.places.now) k inv.2;
    }

pub returns : goal.returns
returns c test xs start long h =
    let inv = c.loop-place.invariant test xs start long h in
    let past : length c.args.places.now ≤ c.loop-place.place-index =
    (let e = c.loop-place-test.false in omega (arith, e)) in
    record {
      within = omega arith;
      none = none-end c.args.wanted test start xs c.args.marks.now inv.0
          (drop c.loop-place.place-index c.args.places.now)
          (drop_all c.loop-place.place-index c.args.places.now past) inv.1 long inv.2;
    }
