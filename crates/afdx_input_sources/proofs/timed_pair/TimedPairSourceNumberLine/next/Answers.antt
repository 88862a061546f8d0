use Rattle.std.proofs.Common.{rules, ◌≡◌, refl, ◌∷◌, inr}
use Rattle.afdx_input_sources.specs.MergedSource.{given, items_of}
use Rattle.afdx_input_sources.specs.Taking.{late_of_both}
use Rattle.afdx_input_sources.proofs.ClockLemmas.{clock-more, clock-follows, clock-late}
use Rattle.afdx_input_sources.proofs.PairedLemmas.{paired-follows}
use Rattle.afdx_input_sources.proofs.timed_pair.TimedPairSourceNumberLine.next.Goals as goal

pub returns-in_default-clause-stop : goal.returns-in_default-clause-stop
returns-in_default-clause-stop g c start lines h =
    let x = given g.S.Source.current c.give_next.new.merged in
    let next = c.in-Ok-Given.ensures.item (g.P.Two.both start) h.past h.is_paired (search rules) in
    let head : c.head-number.result ≡ x.item.head = rw c.source-given.ensures at c.head-number.ensures in
    let number : c.number-n.result ≡ x.item.number = rw c.source-given.ensures at c.number-n.ensures in
    let late = c.in_default.ensures.late in
    let is : c.of_network.result ≡ late_of_both x.item =
    rw (c.of_network.ensures, c.side_of.ensures, head, number) refl in
    inr (record {
      before = h.past;
      x = x;
      is_paired = next.0;
      fault_is = is;
      is_late = rw is (clock-late late_of_both c.args.self.now.clock c.line.new.self (items_of h.past) x.item lines
          h.are_timed c.line.ensures.said (rw head at late));
    })

pub returns-clause-item : goal.returns-clause-item
returns-clause-item g c start lines h ok =
    let x = given g.S.Source.current c.give_next.new.merged in
    let next = c.in-Ok-Given.ensures.item (g.P.Two.both start) h.past h.is_paired (search rules) in
    let follows = paired-follows h.past x next.1 in
    let head : c.head-number.result ≡ x.item.head = rw c.source-given.ensures at c.head-number.ensures in
    let zero = c.in-Some.ensures.zero in
    let early = c.in-Some.ensures.early in
    let line = c.in-Some.ensures.line in (
      record {
        past = x ∷ h.past;
        is_paired = next.0;
        are_timed = clock-more late_of_both c.args.self.now.clock c.line.new.self (items_of h.past) x.item lines
            h.are_timed c.line.ensures.said c.in-Some.line (rw head at zero) (rw head at early) (rw head at line);
      },
      clock-follows late_of_both c.args.self.now.clock c.line.new.self (items_of h.past) x.item lines h.are_timed
          c.line.ensures.said c.in-Some.line (rw head at early) (rw head at line) follows.0 follows.1,
      tt,
    )
