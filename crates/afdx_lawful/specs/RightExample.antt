-- An example of a right sender on two networks: its clock is too fast, stamps are off by a
-- nanosecond, copies on B are sent later by almost what the way leaves, and the recordings end
-- before the last of them.
use Rattle.std.specs.Prelude.{◌≡◌, ℕ, zero, suc, None, List, [], ◌∷◌}
use Rattle.afdx_frame.specs.declared.link.Side.{Side}
use Rattle.afdx_frame.specs.declared.link.Side.TheVariants.{A, B}
use Rattle.afdx_lawful.specs.Accepted.{ComeUpTo}
use Rattle.afdx_lawful.specs.Judged.{judged_source}
use Rattle.afdx_lawful.specs.Right.{Sent}
use Rattle.afdx_lawful.specs.RightTwice.{IsInRange, IsRightTwice}
use Rattle.afdx_lawful.specs.Sources.{Came, Source}
use Rattle.afdx_lawful.specs.Worked.{a0, a1, b0, b1, leeway, nothing, on_a, on_b, source}

abbrev pub right_source : Source
right_source = source (leeway 1 1000 None) None 1200000

-- a frame, when it came in truth, what its system's clock showed then, and when it was released
abbrev pub sent_with : Came → ℕ → ℕ → ℕ → Sent
sent_with came moment clock release =
    record { came = came; moment = moment; clock = clock; release = release }

abbrev pub sent_twice : Side → ℕ → Sent
sent_twice A zero = sent_with (on_a 1 1 a0) 0 0 0
sent_twice A (suc k) = sent_with (on_a 3 999999 a1) 1000000 1000900 1000500
sent_twice B zero = sent_with (on_b 2 988701 b0) 988700 988760 600000
sent_twice B (suc k) = sent_with (on_b 4 1988000 b1) 1988000 1989000 1989000

-- what was recorded
abbrev pub seen_of_it : List Came
seen_of_it = on_a 3 999999 a1 ∷ on_b 2 988701 b0 ∷ on_a 1 1 a0 ∷ []

-- All is met that is asked of a right sender. Nothing is found, and one frame's copy is cut off.
pub record RightIsMet : Type 0 where
  pub range : IsInRange right_source
  pub by_time : ComeUpTo right_source.until seen_of_it
  pub right : IsRightTwice right_source seen_of_it
  pub judged : judged_source right_source seen_of_it ≡ nothing 3 1
