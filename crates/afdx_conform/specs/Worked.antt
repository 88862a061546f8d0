-- Worked rows of what is found: one link of 64-byte frames, one a millisecond, its latency 17 us,
-- on a line of 80 ns a byte, with exact stamps and clocks, but where recorders are apart.
use Rattle.std.specs.Prelude.{◌≡◌, ℕ, None, List, [], ◌∷◌}
use Rattle.afdx_frame.specs.declared.link.Policing.TheVariants.{Frame}
use Rattle.afdx_frame.specs.declared.link.Side.TheVariants.{A}
use Rattle.afdx_police.specs.Arrival.{arrival_with}
use Rattle.afdx_police.specs.Rule.{rule_with}
use Rattle.afdx_police.specs.declared.shape.Reason.TheVariants.{OverRate}
use Rattle.afdx_conform.specs.Findings.{Found, found_at, judged_after}
use Rattle.afdx_conform.specs.declared.finding.Finding.TheVariants.{Strange, Passed, Stopped, Late, Early}
use Rattle.afdx_conform.specs.declared.strangeness.Strangeness.TheVariants.{OutOfTurn, NoArrival}
use Rattle.afdx_conform.specs.Leeways.{leeway_with}
use Rattle.afdx_conform.specs.States.{Event, Came, Closing}
use Rattle.afdx_conform.specs.Streams.{Gone, Terms}

-- a whole frame of link 1, with the message `hello`
abbrev pub frame_bytes : List ℕ
frame_bytes =
    3 ∷ 0 ∷ 0 ∷ 0 ∷ 0 ∷ 1 ∷ 2 ∷ 0 ∷ 0 ∷ 0 ∷ 1 ∷ 32 ∷ 8 ∷ 0 ∷ 69 ∷ 0 ∷ 0 ∷ 33 ∷ 0 ∷ 0 ∷ 0 ∷ 0 ∷
    1 ∷ 17 ∷ 205 ∷ 234 ∷ 10 ∷ 0 ∷ 1 ∷ 1 ∷ 224 ∷ 224 ∷ 0 ∷ 1 ∷ 3 ∷ 232 ∷ 3 ∷ 232 ∷ 0 ∷ 13 ∷ 0 ∷
    0 ∷ 104 ∷ 101 ∷ 108 ∷ 108 ∷ 111 ∷ 0 ∷ 0 ∷ 0 ∷ 0 ∷ 0 ∷ 0 ∷ 0 ∷ 0 ∷ 0 ∷ 0 ∷ 0 ∷ 0 ∷ 0 ∷ 149
    ∷ 23 ∷ 139 ∷ 81 ∷ []

-- the recorders are so far apart, and arrivals are known up to this time
abbrev pub terms_apart : ℕ → ℕ → Terms
terms_apart between until = record {
  rule = rule_with 1 1 1 64 64 500 Frame;
  latency_ns = 17000;
  byte_ns = 80;
  by = leeway_with 0 between 0 0 0 None;
  until = until;
}

-- they aren't apart
abbrev pub terms : ℕ → Terms
terms until = terms_apart 0 until

-- the frame comes under this number, and leaves
abbrev pub came : ℕ → ℕ → Event
came n time = Came (arrival_with n time A 1 frame_bytes)

abbrev pub left : ℕ → ℕ → Gone
left n time = record { number = n; time = time; bytes = frame_bytes }

-- what is found after these events
abbrev pub found_apart : ℕ → ℕ → List Gone → List Event → List Found
found_apart between until ys events =
    (judged_after (terms_apart between until) ys [] events).findings

abbrev pub found : ℕ → List Gone → List Event → List Found
found until ys events = found_apart 0 until ys events

pub record WorkedRows : Type 0 where
  -- the first arrival has left nothing when the second one has to
  pub none_left : found 20000 [] (came 2 20000 ∷ came 1 0 ∷ []) ≡ found_at 0 (Stopped 1) ∷ []
  -- a nanosecond over the latency, and so late that no arrival is near
  pub late : found 17001 (left 1 17001 ∷ []) (Closing 17001 ∷ came 1 0 ∷ [])
      ≡ found_at 0 (Late 1 1) ∷ []
  pub apart : found 34001 (left 1 34001 ∷ []) (Closing 34001 ∷ came 1 0 ∷ [])
      ≡ found_at 34001 (Strange 1 NoArrival) ∷ found_at 0 (Stopped 1) ∷ []
  -- a nanosecond sooner than the line takes
  pub early : found 5759 (left 1 5759 ∷ []) (Closing 5759 ∷ came 1 0 ∷ [])
      ≡ found_at 0 (Early 1 1) ∷ []
  -- the second frame came a nanosecond too early for the account, and left
  pub over_rate : found 506719 (left 1 6720 ∷ left 2 506719 ∷ [])
      (Closing 506719 ∷ came 2 499999 ∷ Closing 6720 ∷ came 1 0 ∷ [])
      ≡ found_at 506719 (Passed 2 OverRate) ∷ []
  -- one arrival left twice
  pub twice : found 13440 (left 1 6720 ∷ left 2 13440 ∷ [])
      (Closing 13440 ∷ Closing 6720 ∷ came 1 0 ∷ [])
      ≡ found_at 13440 (Strange 2 OutOfTurn) ∷ []
  -- two that a right switch lets pass
  pub right : found 506720 (left 1 6720 ∷ left 2 506720 ∷ [])
      (Closing 506720 ∷ came 2 500000 ∷ Closing 6720 ∷ came 1 0 ∷ [])
      ≡ []
  -- recorders that are apart allow so much at both edges, and no more
  pub late_apart : found_apart 20000 60000 (left 1 37001 ∷ []) (Closing 37001 ∷ came 1 0 ∷ [])
      ≡ found_at 0 (Late 1 20001) ∷ []
  pub as_late : found_apart 20000 60000 (left 1 37000 ∷ []) (Closing 37000 ∷ came 1 0 ∷ []) ≡ []
  pub early_apart : found_apart 5759 60000 (left 1 0 ∷ []) (Closing 0 ∷ came 1 0 ∷ [])
      ≡ found_at 0 (Early 1 5760) ∷ []
  pub as_early : found_apart 5760 60000 (left 1 0 ∷ []) (Closing 0 ∷ came 1 0 ∷ []) ≡ []
  -- and nothing at the edge of an account
  pub over_rate_apart : found_apart 1000 600000 (left 1 6720 ∷ left 2 506720 ∷ [])
      (Closing 506720 ∷ came 2 499999 ∷ Closing 6720 ∷ came 1 0 ∷ [])
      ≡ found_at 507720 (Passed 2 OverRate) ∷ []
  -- an arrival is open where the end is less than its latency and twice the reach behind it
  pub open_apart : found_apart 20000 56999 [] (came 1 0 ∷ []) ≡ []
  pub shut_apart : found_apart 20000 57000 [] (came 1 0 ∷ []) ≡ found_at 0 (Stopped 1) ∷ []
