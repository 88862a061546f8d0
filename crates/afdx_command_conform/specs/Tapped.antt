-- Which ports were recorded, and which streams are judged for it.
use Rattle.std.specs.Prelude.{ℕ, ◌+◌, Bool, true, false, not, ◌&&◌, Option, Some, None, List, [], ◌∷◌, is_some, slice_get, option_and_then, if◌then◌else◌}
use Rattle.std.specs.Option.{option_map_or}
use Rattle.afdx_law_bounds.specs.Tables.{goes_to, port_of}
use Rattle.afdx_config.specs.Reading.{link_of}
use Rattle.afdx_config.specs.Rows.{Rows, LinkRow}
use Rattle.afdx_frame.specs.Layout.{link_named_by}
use Rattle.afdx_frame.specs.declared.link.Side.{Side}
use Rattle.afdx_frame.specs.declared.link.Side.TheVariants.{A, B}
use Rattle.afdx_input_lines.specs.declared.role.Role.{Role}
use Rattle.afdx_input_lines.specs.declared.role.Role.TheVariants.{Came, Left}
use Rattle.afdx_input_runs.specs.Joining.{Frame}
use Rattle.afdx_police.specs.Arrival.{Arrival}
use Rattle.afdx_police.specs.Shape.{fault_of}
use Rattle.afdx_police.specs.declared.shape.Reason.{Reason}
use Rattle.afdx_police.specs.declared.shape.Reason.TheVariants.{TooShort, TooLong, BadFcs}
use Rattle.afdx_command_conform.specs.Sight.{Sight}
pub use Rattle.afdx_command_conform.specs.Sight.{of_tables, sight_in}
pub use Rattle.afdx_input_sources.specs.Tapping.{Taps, all_taps}

abbrev pub is_of_came : Role → Bool
is_of_came Came = true
is_of_came Left = false

-- the place of the link that bytes name
unfoldable pub place_named : Rows → List ℕ → Option ℕ
place_named t bytes = option_and_then (λ v. link_of t.links v.0) (link_named_by bytes)

-- the link at this place, if it goes to the port
unfoldable pub link_to : Rows → ℕ → ℕ → Option LinkRow
link_to t place port = option_and_then (λ l. if goes_to t l port then Some l else None)
    (slice_get t.links place)

-- what left names a link that goes to its port
unfoldable pub goes_there : Rows → Arrival → Bool
goes_there t x = is_some (option_and_then (λ place. link_to t place x.port) (place_named t x.bytes))

-- too short, too long, or with a wrong check sequence
abbrev pub is_damage : Option Reason → Bool
is_damage None = false
is_damage (Some TooShort) = true
is_damage (Some TooLong) = true
is_damage (Some BadFcs) = true
is_damage (Some reason) = false

unfoldable pub is_damaged : List ℕ → Bool
is_damaged bytes = is_damage (fault_of None 0 bytes)

module _ (t : Rows) (o : Sight) where
  -- the port at which a link comes in is recorded on this side
  abbrev pub is_heard : Side → LinkRow → Bool
  is_heard side l = o.is_heard side l

  -- that of the link at this place, if there is one
  abbrev pub is_heard_at : Side → Option ℕ → Bool
  is_heard_at side None = true
  is_heard_at side (Some place) = option_map_or (is_heard side) (slice_get t.links place) true

  -- it left of a link of which it isn't, where that link goes, and isn't damaged
  unfoldable pub is_unheard : Frame → Bool
  is_unheard x = not (is_of_came x.role)
      && not (is_heard_at x.arrival.side (place_named t x.arrival.bytes))
      && goes_there t x.arrival && not (is_damaged x.arrival.bytes)

  -- the stream of a link at a port is judged: both ports are recorded
  abbrev pub is_judged : Side → LinkRow → ℕ → Bool
  is_judged side l port = is_heard side l && o.is_seen side port

  -- the link at this place, if it goes to the port and its stream there is judged
  unfoldable pub judged_to : Side → (place port : ℕ) → Option LinkRow
  judged_to side place port = option_and_then (λ l. if is_judged side l port then Some l else None)
      (link_to t place port)

  -- how many streams aren't: of a link that goes to these, of these links, of all on both sides
  unfoldable pub unseen_to : Side → LinkRow → (to : List ℕ) → ℕ
  unseen_to side l [] = 0
  unseen_to side l (system ∷ to) =
      (if is_judged side l (port_of t system) then 0 else 1) + unseen_to side l to

  unfoldable pub unseen_among : Side → List LinkRow → ℕ
  unseen_among side [] = 0
  unseen_among side (l ∷ links) = unseen_to side l l.to + unseen_among side links

  abbrev pub unseen_of : ℕ
  unseen_of = unseen_among A t.links + unseen_among B t.links
