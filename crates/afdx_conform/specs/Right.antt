-- A right switch whose recorders keep their accuracy, in true time. Lists have the newest first.
use Rattle.std.specs.Prelude.{◌≡◌, ℕ, ◌+◌, ◌*◌, ◌-◌, ◌≤◌, ◌<◌, ⊤, Bool, IsTrue, List, [], ◌∷◌, ◌++◌, map, length, Option, Some, None, if◌then◌else◌}
use Rattle.std.specs.List.{AllByRecursion}
use Rattle.afdx_frame.specs.Regulation.{cap, is_bag}
use Rattle.afdx_police.specs.Account.{missing}
use Rattle.afdx_police.specs.Arrival.{Arrival}
use Rattle.afdx_police.specs.Verdicts.{charged_by}
use Rattle.afdx_police.specs.Window as window
use Rattle.afdx_police.specs.Window.{Charged}
use Rattle.afdx_conform.specs.Leeway.{Leeway, left_slack, reach}
use Rattle.afdx_conform.specs.Levels.{parts}
use Rattle.afdx_conform.specs.Streams.{Gone, Terms, latency}
use Rattle.afdx_conform.specs.Explanations.{Answered, answered, link, Explains}

-- an arrival as recorded, when it came in truth, and when its account was asked, each with what the
-- switch's clock showed then
pub record Asked : Type 0 where
  pub arrival : Arrival
  pub moment : ℕ
  pub clock : ℕ
  pub asked_at : ℕ
  pub asked_clock : ℕ

-- the stamp is off by so much at most
pub record IsStamped (slack stamp moment : ℕ) : Type 0 where
  pub late : stamp ≤ moment + slack
  pub early : moment ≤ stamp + slack

-- from one moment to a later one the switch's clock goes on as it may
pub record GoesOn (by : Leeway) (moment clock later then_clock : ℕ) : Type 0 where
  pub moments : moment ≤ later
  pub clocks : clock ≤ then_clock
  pub slowest : (parts - by.drift) * (later - moment) ≤ parts * (then_clock - clock)
  pub fastest : parts * (then_clock - clock) ≤ (parts + by.drift) * (later - moment)

-- its stamp is as exact as one of what came has to be, and its account is asked soon
pub record Comes (by : Leeway) (x : Asked) : Type 0 where
  pub stamped : IsStamped by.slack x.arrival.time x.moment
  pub not_before : x.moment ≤ x.asked_at
  pub soon : x.asked_at ≤ x.moment + by.asked

module _ (z : Terms) where
  -- as the switch's window rule sees it, by its own clock
  abbrev pub seen : Asked → Charged
  seen x = record { time = x.asked_clock; charge = (charged_by z.rule x.arrival).charge }

  -- what the switch has accepted, if it had accepted these before the first
  unfoldable pub accepted_after : List Charged → List Asked → List Charged
  accepted_after first [] = first
  accepted_after first (x ∷ before) =
      window.with_next (link z) (accepted_after first before) (seen x)

  -- whether it accepts one
  abbrev pub is_accepted : List Charged → List Asked → Asked → Bool
  is_accepted first before x = window.fits (link z) (accepted_after first before) (seen x)

  -- its answers
  unfoldable pub answers_of : List Charged → List Asked → List Answered
  answers_of first [] = []
  answers_of first (x ∷ before) =
      answered x.arrival (is_accepted first before x) ∷ answers_of first before

  unfoldable pub accepted_asked : List Charged → List Asked → List Asked
  accepted_asked first [] = []
  accepted_asked first (x ∷ before) =
      if is_accepted first before x then x ∷ accepted_asked first before
      else accepted_asked first before

  -- what it had accepted before what was recorded: nothing since its reset; or whatever, up to a
  -- moment by which the recording began, as far as the account holds
  abbrev pub IsFirst : Option ℕ → List Charged → ℕ → ℕ → Type 0
  IsFirst None first moment clock = first ≡ []
  IsFirst (Some start) first moment clock =
      (moment ≤ start + z.by.slack + z.by.asked)
      × (missing (link z) first clock ≤ cap (link z))
      × AllByRecursion (λ x. x.time ≤ clock) first

  -- stamps go on from the start
  abbrev pub IsFrom : Option ℕ → ℕ → Type 0
  IsFrom None time = ⊤
  IsFrom (Some start) time = start ≤ time

  -- accounts are asked one after another, and stamps go on
  unfoldable pub GoByClock : ℕ → ℕ → List Asked → Type 0
  GoByClock moment clock [] = ⊤
  GoByClock moment clock (x ∷ []) = GoesOn z.by moment clock x.asked_at x.asked_clock
      × Comes z.by x × IsFrom z.by.start x.arrival.time
  GoByClock moment clock (x ∷ w ∷ before) =
      GoesOn z.by w.asked_at w.asked_clock x.asked_at x.asked_clock
      × Comes z.by x × (w.arrival.time ≤ x.arrival.time)
      × GoByClock moment clock (w ∷ before)

  -- an accepted arrival leaves as this frame: not before its wire time, and within its latency, by
  -- the switch's clock
  pub record LeavesAs (x : Asked) (y : Gone) : Type 0 where
    pub bytes : x.arrival.bytes ≡ y.bytes
    pub moment : ℕ
    pub clock : ℕ
    pub goes_on : GoesOn z.by x.moment x.clock moment clock
    pub stamped : IsStamped (left_slack z.by) y.time moment
    pub no_sooner : x.clock + (length x.arrival.bytes + 8) * z.byte_ns ≤ clock
    pub in_time : clock ≤ x.clock + (z.latency_ns + z.by.inner)

  -- one that leaves behind the end
  pub record LeavesLater (x : Asked) : Type 0 where
    pub frame : Gone
    pub leaves : LeavesAs x frame
    pub unseen : z.until < frame.time + reach z.by

  -- the frame is of an arrival that came before the start, and isn't among those that were recorded
  pub record LeavesUnseen (start : ℕ) (y : Gone) : Type 0 where
    pub of : Asked
    pub stamped : IsStamped z.by.slack of.arrival.time of.moment
    pub before : of.arrival.time < start
    pub leaves : LeavesAs of y

  abbrev pub IsUnseen : Option ℕ → Gone → Type 0
  IsUnseen None y = ⊥
  IsUnseen (Some start) y = LeavesUnseen start y

  -- frames leave in the order of their arrivals; the oldest may be of arrivals before the start
  unfoldable pub EachLeaves : List Asked → List Gone → Type 0
  EachLeaves [] ys = AllByRecursion (λ y. IsUnseen z.by.start y) ys
  EachLeaves (x ∷ xs) [] = ⊥
  EachLeaves (x ∷ xs) (y ∷ ys) = LeavesAs x y × EachLeaves xs ys

  unfoldable pub AllLeaveLater : List Asked → Type 0
  AllLeaveLater [] = ⊤
  AllLeaveLater (x ∷ xs) = LeavesLater x × AllLeaveLater xs

  -- a right switch, and what was recorded of it
  pub record IsRight (asked : List Asked) (frames : List Gone) : Type 0 where
    pub first : List Charged
    pub moment : ℕ
    pub clock : ℕ
    pub is_first : IsFirst z.by.start first moment clock
    pub go_on : GoByClock moment clock asked
    pub waiting : List Asked
    pub took : List Asked
    pub accepted : accepted_asked first asked ≡ waiting ++ took
    pub later : AllLeaveLater waiting
    pub leave : EachLeaves took frames

-- it is never accused: something explains what was recorded of it
abbrev pub RightIsExplained : Type 0
RightIsExplained =
    (z : Terms) (asked : List Asked) (frames : List Gone) →
    IsTrue (is_bag z.rule.bag_ms) →
    z.by.drift < parts →
    IsRight z asked frames →
    Explains z (map (λ x. x.arrival) asked) frames

-- there is one, of which something was recorded, with a slack and a drift, and by recorders so far
-- apart that by slacks alone its frame would be late
pub record SomeIsRight : Type 0 where
  pub terms : Terms
  pub asked : Asked
  pub frame : Gone
  pub slack : 0 < terms.by.slack
  pub drift : 0 < terms.by.drift
  pub apart : asked.arrival.time + latency terms + terms.by.slack + terms.by.slack < frame.time
  pub is_right : IsRight terms (asked ∷ []) (frame ∷ [])
