-- From where the senders of a switch are judged: what is known of their links, and of the others.
use Rattle.std.specs.Prelude.{Some, None, option_map}
use Rattle.afdx_config.specs.Rows.{Rows}
use Rattle.afdx_config.specs.declared.describing.Described.{Described}
use Rattle.afdx_config.specs.declared.describing.Described.TheVariants.{One, Several}
use Rattle.afdx_senders.specs.Sites.{Among}
use Rattle.afdx_command_senders.specs.declared.outlook.SenderOutlook.{SenderOutlook}

-- the tables of the switch, and all switches of its configuration, where it describes several
pub record Outlook : Type 0 where
  pub tables : Rows
  pub among : Among

-- as the code holds it
abbrev pub outlook_of : SenderOutlook → Outlook
outlook_of o = record {
  tables = o.tables.now;
  among = option_map (λ switches. switches.now) o.among;
}

-- the switches of a configuration that describes several
abbrev pub among_all : Described → Among
among_all (One t) = None
among_all (Several switches) = Some switches

-- at the switch with these tables, by all that the configuration describes
abbrev pub outlook_at : Described → Rows → Outlook
outlook_at described t = record { tables = t; among = among_all described }
