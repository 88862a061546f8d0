-- An example of a right system of a switch: its copies on B are sent later by as much as the way
-- leaves, and the recordings end before the last of them.
use Rattle.std.specs.Prelude.{◌≡◌, List, [], ◌∷◌}
use Rattle.afdx_frame.specs.declared.link.Side.TheVariants.{A, B}
use Rattle.afdx_lawful.specs.Worked.{a0, a1, b0}
use Rattle.afdx_police.specs.Arrival.{Arrival}
use Rattle.afdx_senders.specs.AllLines.{all_lines}
use Rattle.afdx_senders.specs.RightSenders.{AreAllRight}
use Rattle.afdx_senders.specs.SenderCounts.{sent_in}
use Rattle.afdx_senders.specs.SenderRows.{both_until, came}

abbrev pub right_came : List Arrival
right_came = came 3 1000000 A 1 a1 ∷ came 2 988760 B 1 b0 ∷ came 1 0 A 1 a0 ∷ []

-- All is met that is asked. There is no line, and each frame is counted as sent.
pub record RightAreMet : Type 0 where
  pub right : AreAllRight (both_until 1200000) right_came
  pub no_line : all_lines (both_until 1200000) right_came ≡ []
  pub sent : sent_in (both_until 1200000) right_came ≡ 3
