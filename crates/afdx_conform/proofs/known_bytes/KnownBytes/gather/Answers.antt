use Rattle.std.proofs.Common.{rules, arith}
use Rattle.afdx_conform.proofs.GapLemmas.{settled-unknown}
use Rattle.afdx_conform.proofs.known_bytes.KnownBytes.gather.Goals as goal

pub returns-clause-known : goal.returns-clause-known
returns-clause-known c = record {
  kept = λ whole. c.in_ok-places.ensures;
  order = λ whole. search rules;
}

pub returns-clause-settled : goal.returns-clause-settled
returns-clause-settled c ms s =
    let all = c.in_ok-gaps.ensures in
    let size = all.0 in
    settled-unknown c.in_ok-gaps.gaps.items c.args.arrivals.now ms (omega (arith, size)) all.1
