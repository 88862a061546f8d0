use Rattle.std.proofs.Common.{◌-◌, ◌++◌, length, take, drop, sym, ap, subst, ◌∙◌, arith, length-take}
use lib.Seq.{take-add, take-take}
use Rattle.std.specs.Io.KnownBytes.{Appends}
use Rattle.std.proofs.KnownBytes.{Appends-trans}
use Rattle.afdx_text.proofs.offered.offer_whole.Goals as goal

pub loop-taken-init : goal.loop-taken-init
loop-taken-init g c = record { within = omega (arith, c.in-Ok.ensures.bound); taken = c.in-Ok.ensures.bytes }

pub loop-taken-preserved : goal.loop-taken-preserved
loop-taken-preserved g c =
    let done = c.loop-taken.taken in
    let n = c.in-Ok-write.count in
    let xs = c.args.text.now in
    let before = c.loop-taken.invariant in
    let fits = c.in-Ok-write.ensures.bound in
    let most = length-take (length xs - done) (drop done xs) in
    let joined = ap (λ l. take done xs ++ l)
    (take-take n (length xs - done) (drop done xs) (omega arith)) ∙ sym (take-add done n xs) in
    record {
      within = omega arith;
      taken = subst (Appends _ _) joined (Appends-trans _ _ _ _ _ before.taken c.in-Ok-write.ensures.bytes);
    }
