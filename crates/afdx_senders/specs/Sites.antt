-- Whose a frame is that came at a port of a switch. A source's site is the port of the system that
-- its link's row names, on either side.
use Rattle.std.specs.Prelude.{ℕ, Bool, ◌&&◌, nat_eq, nat_lt, is_some, slice_get, get_or, false}
use Rattle.std.specs.Prelude.{option_map}
use Rattle.std.specs.Prelude.{Option, Some, None, List, if◌then◌else◌}
use Rattle.afdx_config.specs.Reading.{link_of, listener_at}
use Rattle.afdx_config.specs.Rows.{LinkRow, Rows}
use Rattle.afdx_config.specs.Switches.{NamedRows, first_of}
use Rattle.afdx_frame.specs.BySide.{on}
use Rattle.afdx_frame.specs.Layout.{link_named_by}
use Rattle.afdx_frame.specs.Parts.{bytes_of}
use Rattle.afdx_frame.specs.declared.link.Side.{Side}
use Rattle.afdx_frame.specs.declared.link.VlId.{VlId}
use Rattle.afdx_law_bounds.specs.Tables.{port_of}
use Rattle.afdx_police.specs.Arrival.{Arrival, arrival_with}
use Rattle.afdx_senders.specs.declared.recorded_ports.RecordedPorts.{RecordedPorts}
use Rattle.afdx_senders.specs.declared.site_frame.SiteFrame.{SiteFrame}
use Rattle.afdx_senders.specs.declared.sites.SenderSites.{SenderSites}
use Rattle.afdx_senders.specs.declared.sites.SourceOf.{SourceOf}
use Rattle.afdx_senders.specs.declared.sites.SourceOf.TheVariants.{Source, Elsewhere, Unknown}
use Rattle.afdx_senders.specs.declared.sites.SourceOf.TheVariants.{Nobody}

-- the input ports of each side that were recorded
abbrev pub Recorded : Type 0
Recorded = Side → ℕ → Bool

abbrev pub recorded_at : RecordedPorts → Side → ℕ → Bool
recorded_at r side port = get_or (on side r.ports) port false

abbrev pub recorded_in : RecordedPorts → Recorded
recorded_in r side port = recorded_at r side port

-- the arrival that a frame is
abbrev pub came_at : SiteFrame → Arrival
came_at x = arrival_with x.line x.time x.side x.port (bytes_of x.frame)

-- all switches of the configuration, where it describes several a side
abbrev pub Among : Type 0
Among = Option (List NamedRows)

abbrev pub among_of : SenderSites → Among
among_of sites = option_map (λ switches. switches.now) sites.among

-- one of them has a row of this link
abbrev pub has_link : Among → ℕ → Bool
has_link None vl = false
has_link (Some switches) vl = is_some (first_of switches vl)

-- whose a frame of this link is where its switch has no row of it
abbrev pub sent_beyond : Among → ℕ → SourceOf
sent_beyond among vl = if has_link among vl then Elsewhere else Unknown

module _ (t : Rows) where
  -- a system of the switch sends the link, and stands at this port
  unfoldable pub is_sent_at : LinkRow → ℕ → Bool
  is_sent_at l port = nat_lt l.from t.own && nat_eq (port_of t l.from) port

  -- whose a frame of the link of this row is, or of none, at a port where a system stands
  abbrev pub sent_as : ℕ → (place : ℕ) → Option LinkRow → SourceOf
  sent_as port place None = Unknown
  sent_as port place (Some l) = if is_sent_at l port then Source place else Elsewhere

  -- a system stands at this port of a side, and the port was recorded
  unfoldable pub is_site : Recorded → Side → ℕ → Bool
  is_site recorded side port = recorded side port && is_some (listener_at t port)

  module _ (among : Among) where
    abbrev pub sent_in : ℕ → VlId → Option ℕ → SourceOf
    sent_in port vl None = sent_beyond among vl.0
    sent_in port vl (Some place) = sent_as port place (slice_get t.links place)

    -- whose a frame of this link is
    unfoldable pub sent_by : ℕ → VlId → SourceOf
    sent_by port vl = sent_in port vl (link_of t.links vl.0)

    abbrev pub named_as : Recorded → Arrival → Option VlId → SourceOf
    named_as recorded x None = Nobody
    named_as recorded x (Some vl) =
        if is_site recorded x.side x.port then sent_by x.port vl else Nobody

    -- whose a frame is that came
    unfoldable pub source_of : Recorded → Arrival → SourceOf
    source_of recorded x = named_as recorded x (link_named_by x.bytes)
