use Rattle.std.proofs.Common.{rules, ◌-◌, ◌++◌, length, take, drop, sym, ap, refl, subst, ◌∙◌, arith, length-take}
use lib.Seq.{take-add, take-take}
use Rattle.std.specs.Io.KnownBytes.{Appends}
use Rattle.std.proofs.KnownBytes.{Appends-trans, Appends-nil}
use Rattle.afdx_text.proofs.writing.hand_bytes.Goals as goal

pub loop-taken-init : goal.loop-taken-init
loop-taken-init g c = record {
  within = omega arith;
  sound = search rules;
  flushed = refl;
  calls = omega arith;
  taken = Appends-nil _;
}

pub loop-taken-preserved : goal.loop-taken-preserved
loop-taken-preserved g c =
    let done = c.loop-taken.taken in
    let n = c.in-Ok.count in
    let xs = c.args.bytes.now in
    let before = c.loop-taken.invariant in
    let fits = c.in-Ok.ensures.bound in
    let most = length-take (length xs - done) (drop done xs) in
    let joined = ap (λ l. take done xs ++ l)
    (take-take n (length xs - done) (drop done xs) (omega arith)) ∙ sym (take-add done n xs) in
    record {
      within = omega arith;
      sound = search rules;
      flushed = search rules;
      calls = omega (arith, before.calls, c.in-Ok.ensures.calls before.sound);
      taken = subst (Appends _ _) joined (Appends-trans _ _ _ _ _ before.taken c.in-Ok.ensures.bytes);
    }
