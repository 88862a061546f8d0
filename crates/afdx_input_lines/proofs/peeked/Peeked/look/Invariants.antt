use Rattle.std.proofs.Common.{◌-◌, ◌≤◌, ◌≡◌, length, false}
use Rattle.std.specs.Io.KnownBytes.{Keeps}
use Rattle.afdx_input_lines.specs.Peeking.{held, left_in, has_broken, is_at_end, reader_of, IsAsked}
use Rattle.afdx_input_lines.proofs.peeked.Peeked.look.Given as goal

abbrev pub invariant-loop-self : goal.invariant-loop-self
invariant-loop-self g l = record {
  first : l.self.start ≡ 0;
  seen : length (held l.self) ≡ l.self.end;
  whole : has_broken l.self ≡ false;
  unended : is_at_end l.self ≡ false;
  at_most : l.reads ≤ l.self.end;
  asked : IsAsked g.R.Asked.Once (reader_of l.initial.self) l.reads (reader_of l.self) false;
  left : Keeps (left_in g.R.Read.remaining l.initial.self) (left_in g.R.Read.remaining l.self);
}

abbrev pub decreases-loop-self : goal.decreases-loop-self
decreases-loop-self g l = 4 - l.self.end
