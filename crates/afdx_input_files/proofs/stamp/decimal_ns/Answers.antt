use Rattle.std.proofs.Common.{arith, ◌^◌, ◌-◌, refl}
use Rattle.afdx_input_files.proofs.StampLemmas.{ten_some, coarse_tens, fine_tens, none_of_many, tens_fit}
use Rattle.afdx_input_files.proofs.stamp.decimal_ns.Goals as goal

pub returns-then-n-le9 : goal.returns-then-n-le9
returns-then-n-le9 c =
    rw (coarse_tens c.args.ticks c.args.n c.if-n-le9.true, ← c.pow.ensures) c.checked_mul.ensures

pub nonzero_div-result : goal.nonzero_div-result
nonzero_div-result c = rw c.in-Some.ensures.1 (ten_some (c.args.n - 9))

pub returns-in-Some : goal.returns-in-Some
returns-in-Some c =
    let same = fine_tens c.args.ticks c.args.n (omega (arith, c.if-n-le9.false)) in
    rw (same, c.in-Some.ensures.1) (tens_fit c.args.ticks (10 ^ (c.args.n - 9)) c.ranges.ticks.fits, refl)

pub returns-in-None : goal.returns-in-None
returns-in-None c =
    let same = fine_tens c.args.ticks c.args.n (omega (arith, c.if-n-le9.false)) in
    let none = none_of_many c.args.ticks (10 ^ (c.args.n - 9)) c.ranges.ticks.fits (omega (arith, c.in-None.ensures)) in
    rw (same, none) (omega arith, refl)
