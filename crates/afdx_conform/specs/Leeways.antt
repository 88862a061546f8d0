-- Which leeways there are.
use Rattle.std.specs.Prelude.{ℕ, ◌≤◌, Option}
use Rattle.std.specs.Option.{ForSome}
use Rattle.afdx_frame.specs.Times.{latest_listed}
use Rattle.afdx_conform.specs.Leeway.{Leeway}

-- the greatest slack, distance of recorders, inner delay and time until an account is asked, in ns;
-- the greatest drift, in millionths
abbrev pub greatest_slack : ℕ
greatest_slack = 1000000

abbrev pub greatest_between : ℕ
greatest_between = 100000000

abbrev pub greatest_inner : ℕ
greatest_inner = 1000000

abbrev pub greatest_asked : ℕ
greatest_asked = 1000000

abbrev pub greatest_drift : ℕ
greatest_drift = 1000

-- in this order
abbrev pub leeway_with : ℕ → ℕ → ℕ → ℕ → ℕ → Option ℕ → Leeway
leeway_with slack between drift inner asked start = record {
  slack = slack;
  between = between;
  drift = drift;
  inner = inner;
  asked = asked;
  start = start;
}

-- the same of recorders that are so far apart
abbrev pub apart_by : ℕ → Leeway → Leeway
apart_by between by = leeway_with by.slack between by.drift by.inner by.asked by.start

-- each value is in its range
pub record IsLeeway (by : Leeway) : Type 0 where
  pub slack : by.slack ≤ greatest_slack
  pub between : by.between ≤ greatest_between
  pub drift : by.drift ≤ greatest_drift
  pub inner : by.inner ≤ greatest_inner
  pub asked : by.asked ≤ greatest_asked
  pub start : ForSome by.start (λ start. start ≤ latest_listed)
