-- What a run over a switch and the systems that send to it shows by its last line. Lists of frames
-- have the newest first, those of lines the oldest.
use Rattle.std.specs.Prelude.{◌≡◌, List, IfSome}
use Rattle.afdx_input_runs.specs.Joining.{Frame}
use Rattle.afdx_text.specs.declared.conform_line.Answer.TheVariants.{Conforms}
use Rattle.afdx_text.specs.declared.conform_line.Conclusion.{Conclusion}
use Rattle.afdx_text.specs.declared.conform_line.ConformLine.{ConformLine}
use Rattle.afdx_command_senders.specs.BothLines.{AreBothLines}
use Rattle.afdx_command_senders.specs.Outlook.{Outlook}
use Rattle.afdx_command_senders.specs.SenderLines.{RunRules, whole_setup}
use Rattle.afdx_command_senders.specs.Together.{EachIsOnce, IsExactTest}

-- it conforms, nothing is open, left out or unseen, and no link is alone
pub record IsClean (last : Conclusion) : Type 0 where
  pub conforms : last.answer ≡ Conforms
  pub none_open : last.waiting ≡ 0
  pub none_left_out : last.left_out ≡ 0
  pub none_unseen : last.unseen ≡ 0
  pub none_alone : IfSome last.senders (λ s. s.alone ≡ 0)

module _ (o : Outlook) (k : RunRules) (frames : List Frame) where
  -- In an exact test this shows that of each link, at each system that gets it, on each side just
  -- what the link's system sent left the system's port, in order and in time; and that the rules of
  -- integrity and redundancy make of it the link's messages to the system's UDP ports, each once
  -- and in order.
  abbrev pub ShowsOnce : Conclusion → Type 0
  ShowsOnce last =
      IsExactTest o k.1 → IsClean last →
      EachIsOnce o (whole_setup k frames) k.1.run.until frames

  -- these are all lines, with that answer and what it shows
  pub record AreBothShown (lines : List ConformLine) (last : Conclusion) : Type 0 where
    pub are : AreBothLines k frames lines last
    pub once : ShowsOnce last
