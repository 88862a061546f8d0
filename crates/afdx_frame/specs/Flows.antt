-- The links that send to one output port, and what is admitted there. A burst is counted in units
-- of one byte over 128,000,000, and a load in such units for the time of one byte; so whole numbers
-- serve throughout.
use Rattle.std.specs.Prelude.{◌≡◌, ℕ, ◌+◌, ◌*◌, ◌-◌, ◌≤◌, Bool, true, false, max, All, List, []}
use Rattle.std.specs.Prelude.{◌∷◌, filter, sum_by}
use Rattle.afdx_frame.specs.declared.link.Priority.{Priority}
use Rattle.afdx_frame.specs.declared.link.Priority.TheVariants.{High, Low}
use Rattle.afdx_frame.specs.Regulation.{Regulation, byte_units, fill_rate, cap}

-- the time in which one frame of each of these is sent, each of its link's greatest size, in ns, on
-- a line with so many ns to a byte
abbrev pub sending_time : {X : Type 0} → (X → Regulation) → ℕ → List X → ℕ
sending_time regulation byte_ns xs = sum_by (λ x. (regulation x).smax * byte_ns) xs

-- a link that sends to the port: its identifier, how it is regulated, its class, and its latency in
-- ns
pub record Flow : Type 0 where
  pub vl : ℕ
  pub link : Regulation
  pub priority : Priority
  pub latency : ℕ

abbrev pub is_class : Priority → Priority → Bool
is_class High High = true
is_class High Low = false
is_class Low High = false
is_class Low Low = true

abbrev pub of_class : Priority → List Flow → List Flow
of_class class flows = filter (λ f. is_class class f.priority) flows

-- what the flows may send at once
abbrev pub burst : List Flow → ℕ
burst flows = sum_by (λ f. cap f.link) flows

-- what they may send in the time of one byte
abbrev pub load : ℕ → List Flow → ℕ
load byte_ns flows = sum_by (λ f. fill_rate f.link * byte_ns) flows

-- the greatest wire size of their frames, or 0
abbrev pub longest : List Flow → ℕ
longest [] = 0
longest (f ∷ fs) = max f.link.smax (longest fs)

-- what a high frame waits for at most, in ns over `byte_units`: all high frames, and the low one
-- that holds the line
abbrev pub high_wait : ℕ → List Flow → ℕ
high_wait byte_ns flows =
    (burst (of_class High flows) + byte_units * longest (of_class Low flows)) * byte_ns

-- and a low frame, over what the high ones leave of `byte_units`
abbrev pub low_wait : ℕ → List Flow → ℕ
low_wait byte_ns flows = burst flows * byte_ns

abbrev pub high_load : ℕ → List Flow → ℕ
high_load byte_ns flows = load byte_ns (of_class High flows)

-- The port is admitted with these flows: no more than the line carries, no more at once than the
-- buffer holds, and no frame waits longer than its link's latency.
pub record IsPortAdmitted (byte_ns buffer : ℕ) (flows : List Flow) : Type 0 where
  pub no_overload : load byte_ns flows ≤ byte_units
  pub fits_buffer : burst flows ≤ buffer * byte_units
  pub high_in_time :
      All (λ f. f.priority ≡ High → high_wait byte_ns flows ≤ f.latency * byte_units) flows
  pub low_in_time :
      All
      (λ f. f.priority ≡ Low →
      low_wait byte_ns flows ≤ f.latency * (byte_units - high_load byte_ns flows)) flows
