-- By what the senders of a switch are judged.
use Rattle.std.specs.Prelude.{ℕ, ◌≡◌, ◌<◌, ◌&&◌, Bool, false, nat_lt, Some, [], slice_get}
use Rattle.std.specs.Option.{option_map_or}
use Rattle.afdx_config.specs.Rows.{LinkRow}
use Rattle.afdx_frame.specs.declared.link.Side.{Side}
use Rattle.afdx_input_lines.specs.declared.role.Role.TheVariants.{Came}
use Rattle.afdx_senders.specs.Setups.{Setup}
use Rattle.afdx_senders.specs.Sites.{Recorded}
use Rattle.afdx_command_conform.specs.Tapped.{Taps}
use Rattle.afdx_command_senders.specs.Asked.{Asked}
use Rattle.afdx_command_senders.specs.LinkWays.{ways_by}
use Rattle.afdx_command_senders.specs.Outlook.{Outlook}

-- of a side these are the input ports that were recorded; a port is a byte
abbrev pub AreRecorded : Taps → Recorded → Type 0
AreRecorded taps recorded =
    (side : Side) (port : ℕ) → port < 256 → recorded side port ≡ taps Came side port

-- by this outlook, as is asked: each link of the tables of which `judges` is true, by the ways to
-- the systems that get it
pub record IsSettingOf (judges : ℕ → LinkRow → Bool) (o : Outlook) (a : Asked) (z : Setup) : Type 0
  where
    pub tables : z.tables ≡ o.tables
    pub among : z.among ≡ o.among
    pub recorded : AreRecorded a.taps z.recorded
    pub ways : (place : ℕ) (l : LinkRow) → slice_get o.tables.links place ≡ Some l →
        z.asked.ways place ≡ ways_by o.among o.tables l
    pub given : z.asked.given ≡ a.apart
    pub leeway : z.asked.by ≡ a.run.by
    pub judged : (place : ℕ) (l : LinkRow) → slice_get o.tables.links place ≡ Some l →
        z.is_judged place ≡ judges place l

-- each that a system of the switch sends
abbrev pub IsSetting : Outlook → Asked → Setup → Type 0
IsSetting o = IsSettingOf (λ place l. nat_lt l.from o.tables.own) o

-- of these those before a place
abbrev pub IsSettingBelow : ℕ → Outlook → Asked → Setup → Type 0
IsSettingBelow n o = IsSettingOf (λ place l. nat_lt place n && nat_lt l.from o.tables.own) o

-- there is one
abbrev pub setting_of : Outlook → Asked → Setup
setting_of o a = record {
  tables = o.tables;
  among = o.among;
  recorded = a.taps Came;
  asked = record {
    ways = λ place. option_map_or (ways_by o.among o.tables) (slice_get o.tables.links place) [];
    given = a.apart;
    by = a.run.by;
    until = 0;
  };
  is_judged = λ place.
      option_map_or (λ l. nat_lt l.from o.tables.own) (slice_get o.tables.links place) false;
}
