use Rattle.std.proofs.Common.{ℕ, ◌≡◌, ◌≤◌, ◌+◌, ◌-◌, [], take, false}
use Rattle.afdx_input_lines.specs.Lines.{unread, IsHonest, HasNoFeed, IsFirstFeed, TakesBytes}
use Rattle.afdx_input_lines.specs.Lines.{most_lines, longest_line, reads_of_line}
use Rattle.afdx_input_lines.proofs.line_reader.LineReader.next_line.Given as goal

abbrev pub invariant-reads : goal.invariant-reads
invariant-reads g l = record {
  sound : l.input.failed ≡ false;
  honest : IsHonest g.R.Read.remaining l.input;
  ended : l.input.ended ≡ l.initial.input.ended;
  lines : l.self.lines ≡ l.initial.self.lines;
  within : l.searched ≤ l.self.end - l.self.start;
  short : l.searched ≤ longest_line;
  full : most_lines ≤ l.self.lines → l.searched ≡ 0;
  no_feed : HasNoFeed (take l.searched (unread l.self));
  taken : TakesBytes (g.R.Read.remaining l.initial.input.inner) (g.R.Read.remaining l.input.inner)
      (unread l.initial.self) (unread l.self) [];
  calls : l.input.calls ≤ l.initial.input.calls + (l.searched + 1);
  unasked : (n : ℕ) → IsFirstFeed (unread l.initial.self) n
      → (l.input ≡ l.initial.input) × (unread l.self ≡ unread l.initial.self);
  held : l.input.calls ≤ l.initial.input.calls + (l.self.end - l.self.start);
}

abbrev pub decreases-reads : goal.decreases-reads
decreases-reads g l = reads_of_line - (l.self.end - l.self.start)
