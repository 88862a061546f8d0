-- Which senders are judged, and which of all frames are whose. Lists have the newest first.
use Rattle.std.specs.Prelude.{◌≡◌, ℕ, Bool, true, false, nat_eq, if◌then◌else◌, Option, None}
use Rattle.std.specs.Prelude.{List, filter, map, option_map, slice_get}
use Rattle.afdx_config.specs.Rows.{LinkRow, Rows}
use Rattle.afdx_lawful.specs.Sources.{Came, Source, came_with}
use Rattle.afdx_police.specs.Arrival.{Arrival}
use Rattle.afdx_senders.specs.Sites.{Among, Recorded, source_of}
use Rattle.afdx_senders.specs.Terms.{Asked, terms_at}
use Rattle.afdx_senders.specs.declared.sites.SourceOf.{SourceOf}
use Rattle.afdx_senders.specs.declared.sites.SourceOf.TheVariants.{Elsewhere, Nobody}
use Rattle.afdx_senders.specs.declared.sites.SourceOf.TheVariants.{Source as OfSource, Unknown}

-- the tables of the switch, those that it is among, its ports that were recorded, what is asked
-- for, and the links whose senders are judged, by their places
pub record Setup : Type 0 where
  pub tables : Rows
  pub among : Among
  pub recorded : Recorded
  pub asked : Asked
  pub is_judged : ℕ → Bool

-- in this order
abbrev pub setup_with : Rows → Among → Recorded → Asked → (ℕ → Bool) → Setup
setup_with t among recorded k is_judged = record {
  tables = t;
  among = among;
  recorded = recorded;
  asked = k;
  is_judged = is_judged;
}

abbrev pub nobody : ℕ → Bool
nobody place = false

-- the same, and the sender of the link at this place is judged, too
pub record JudgesToo (place : ℕ) (z next : Setup) : Type 0 where
  pub tables : next.tables ≡ z.tables
  pub among : next.among ≡ z.among
  pub recorded : next.recorded ≡ z.recorded
  pub asked : next.asked ≡ z.asked
  pub judged : (k : ℕ) → next.is_judged k ≡ (if nat_eq k place then true else z.is_judged k)

-- the same, where the recordings end at this moment
abbrev pub ending : ℕ → Setup → Setup
ending until z = record z { asked = record z.asked { until = until } }

-- a frame, as one of its source's
abbrev pub came_from : Arrival → Came
came_from x = came_with x.tag x.time x.side x.bytes

-- it is the source's of the link at this place
abbrev pub is_of : ℕ → SourceOf → Bool
is_of place (OfSource k) = nat_eq k place
is_of place Elsewhere = false
is_of place Unknown = false
is_of place Nobody = false

module _ (z : Setup) where
  abbrev pub source_in : ℕ → Option LinkRow → Option Source
  source_in place row = option_map (terms_at z.tables z.recorded z.asked place) row

  -- the source of the link at this place, if it is judged
  unfoldable pub source_at : ℕ → Option Source
  source_at place =
      if z.is_judged place then source_in place (slice_get z.tables.links place) else None

  -- whose a frame is
  abbrev pub whose : Arrival → SourceOf
  whose x = source_of z.tables z.among z.recorded x

  -- of all frames those of the source of the link at this place
  unfoldable pub own_frames : ℕ → List Arrival → List Came
  own_frames place xs = map came_from (filter (λ x. is_of place (whose x)) xs)
