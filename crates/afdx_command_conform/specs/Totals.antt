-- What the counts of a run answer.
use Rattle.std.specs.Prelude.{ℕ, Bool, ◌&&◌, ◌||◌, nat_eq, nat_lt, if◌then◌else◌, None}
use Rattle.afdx_text.specs.declared.conform_line.Answer.{Answer}
use Rattle.afdx_text.specs.declared.conform_line.Answer.TheVariants.{Conforms, Deviates, Undecided}
use Rattle.afdx_text.specs.declared.conform_line.Conclusion.{Conclusion}
use Rattle.afdx_command_conform.specs.declared.totals.Totals.{Totals}

-- a stream is idle, where that matters
abbrev pub is_unexercised : Totals → Bool
is_unexercised t = t.is_exercised && nat_lt 0 t.idle

-- a finding is a deviation; nothing is shown where a stream is unsure, or no frame is explained, or
-- a stream is idle where that matters
abbrev pub answer_of : Totals → Answer
answer_of t =
    if nat_lt 0 t.findings then Deviates t.findings
    else if t.is_unsure || nat_eq t.explained 0 || is_unexercised t then Undecided
    else Conforms

-- the answer, and what is counted
abbrev pub concluded : Totals → Conclusion
concluded t = record {
  answer = answer_of t;
  explained = t.explained;
  waiting = t.waiting;
  uncertain = t.uncertain;
  left_out = t.left_out;
  unseen = t.unseen;
  idle = t.idle;
  senders = None;
}

-- the exit status of a run that came to its end
abbrev pub answer_status : Answer → ℕ
answer_status Conforms = 0
answer_status (Deviates findings) = 5
answer_status Undecided = 3
