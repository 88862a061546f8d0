use Rattle.std.proofs.Common.{◌≡◌, ◌/◌, arith, length, refl}
use Rattle.afdx_port.specs.Keys.{key_of, AreRanked}
use Rattle.afdx_port.proofs.ServingLemmas.{ranked-set, are-ranked}
use Rattle.afdx_port.proofs.serving.Serving.set.Goals as goal

pub invariant_of-self : goal.invariant_of-self
invariant_of-self c =
    let groups : length c.args.self.now.least ≡ 6 = search in
    let ranked : AreRanked c.args.self.now.keys c.args.self.now.least =
    are-ranked c.args.self.now.keys c.args.self.now.least c.args.self.now.ranked in
    record {
      ranked =
          ∣ ranked-set c.args.self.now.keys c.args.self.now.least c.args.place
          (key_of c.args.order.0 c.args.place) c.least_in.result (c.args.place / 4) ranked refl
          (omega (arith, c.requires.place, groups)) c.least_in.ensures ∣₁;
    }
