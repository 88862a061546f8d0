use Rattle.std.proofs.Common.{arith, ◌*◌, ◌/◌, ◌-◌, ◌∙◌, subst, ◌<◌, ◌^◌, ℕ}
use Rattle.afdx_input_files.proofs.StampLemmas.{words_fit, fine_twos, fine_fit}
use Rattle.afdx_input_files.proofs.stamp.binary_ns.Goals as goal

pub returns-else-n-lt32 : goal.returns-else-n-lt32
returns-else-n-lt32 c =
    let same = fine_twos (c.args.ticks * 1000000000) c.args.n (omega (arith, c.if-n-lt32.false)) in (
      subst (λ (x : ℕ). x < 2 ^ 64) same (fine_fit (c.args.ticks * 1000000000 / 4294967296) (c.args.n - 32)
          (words_fit c.args.ticks c.ranges.ticks.fits)),
      c.fine_ns.ensures ∙ same,
    )
