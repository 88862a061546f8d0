use Rattle.std.proofs.Common.{length, refl}
use Rattle.afdx_conform.proofs.GapLemmas.{settled-came, settled-told}
use Rattle.afdx_conform.proofs.PlacesLemmas.{kept-more}
use Rattle.afdx_conform.proofs.known_bytes.KnownBytes.tell.Goals as goal

pub returns-clause-told : goal.returns-clause-told
returns-clause-told c = record {
  kept = λ whole. kept-more c.args.self.now.places c.add.new.self c.args.arrivals.now c.args.arrived.now
      (length c.args.arrivals.now) refl c.in_ok-add.ensures (c.requires.kept c.if-not-self.false);
  order = λ whole. c.comes_behind.ensures c.if-not-comes_behind.false (c.requires.order c.if-not-self.false);
}

pub returns-then-not-self-clause-settled : goal.returns-then-not-self-clause-settled
returns-then-not-self-clause-settled c ms long s =
    settled-came c.args.self.now.gaps.items c.args.arrivals.now ms c.args.arrived.now long s

pub returns-then-not-comes_behind-clause-settled : goal.returns-then-not-comes_behind-clause-settled
returns-then-not-comes_behind-clause-settled c ms long s =
    settled-came c.args.self.now.gaps.items c.args.arrivals.now ms c.args.arrived.now long s

pub returns-clause-settled : goal.returns-clause-settled
returns-clause-settled c ms long s =
    settled-told c.args.self.now.gaps.items c.push.new.self.items c.unknown_gaps.result c.args.arrivals.now ms
    c.args.arrived.now
    c.unknown_gaps.ensures c.in_ok-push.ensures.items long s
