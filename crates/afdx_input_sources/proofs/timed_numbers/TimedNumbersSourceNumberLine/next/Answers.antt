use Rattle.std.proofs.Common.{rules, ◌≡◌, ◌∷◌, refl, arith, inr, Ok}
use Rattle.afdx_input_lines.specs.declared.next.Next.TheVariants as next
use Rattle.afdx_input_sources.specs.Taking.{late_of_one}
use Rattle.afdx_input_sources.proofs.ClockLemmas.{clock-more, clock-follows, clock-late}
use Rattle.afdx_input_sources.proofs.timed_numbers.TimedNumbersSourceNumberLine.next.Goals as goal

pub returns-in_default-line-clause-stop : goal.returns-in_default-line-clause-stop
returns-in_default-line-clause-stop g c start lines h =
    let x = g.S.Source.current c.next.new.self in
    let is : c.next.result ≡ Ok next.Given = search rules in
    let item = c.next.ensures.item start h.numbers h.gave_them is in
    let late = rw c.in_default-line.is at c.line.ensures.late in
    inr (record {
      before = h.numbers;
      x = x;
      gave_them = item.0;
      fault_is = rw c.number-n.ensures refl;
      is_late = rw c.number-n.ensures (clock-late late_of_one c.args.self.now.clock c.line.new.self h.numbers x lines
          h.are_timed c.line.ensures.said (rw c.head-number.ensures at late));
    })

pub returns-clause-item : goal.returns-clause-item
returns-clause-item g c start lines h ok =
    let x = g.S.Source.current c.next.new.self in
    let is : c.next.result ≡ Ok next.Given = search rules in
    let item = c.next.ensures.item start h.numbers h.gave_them is in
    let early = rw c.head-number.ensures at c.in-Some.ensures.early in
    let line = rw c.head-number.ensures at c.in-Some.ensures.line in (
      record {
        numbers = x ∷ h.numbers;
        gave_them = item.0;
        are_timed = clock-more late_of_one c.args.self.now.clock c.line.new.self h.numbers x lines h.are_timed
            c.line.ensures.said c.in-Some.line (rw c.head-number.ensures at c.in-Some.ensures.zero) early line;
      },
      clock-follows late_of_one c.args.self.now.clock c.line.new.self h.numbers x lines h.are_timed
          c.line.ensures.said c.in-Some.line early line item.1.order (omega (arith, item.1.few)),
      tt,
    )
