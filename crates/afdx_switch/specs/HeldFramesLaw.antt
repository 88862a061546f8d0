-- What a port knows of a frame is lawful, whatever the frame. A trait takes the proof of its law
-- from specs/.
use Rattle.std.proofs.Common.{ℕ, ◌≤◌, min, Option, Some, None, IfSome, option_map, arith}
use Rattle.afdx_port.specs.Facts.{AreLawful}
use Rattle.afdx_port.specs.Times.{greatest_wait}
use Rattle.afdx_switch.specs.HeldFrames.{HeldFrame, facts}

limit-wait : (w : Option ℕ) →
    IfSome (option_map (λ wait. min greatest_wait wait) w) (λ wait. wait ≤ greatest_wait)
limit-wait None = tt
limit-wait (Some wait) = omega arith

pub facts-lawful : (c : HeldFrame) → AreLawful (facts c)
facts-lawful c =
    record { least = omega arith; most = omega arith; wait = limit-wait c.longest_wait }
