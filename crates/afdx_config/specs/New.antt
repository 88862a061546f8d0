-- What a row may not share with the rows before it.
use Rattle.std.specs.Prelude.{◌≡◌, false, None, List}
use Rattle.afdx_config.specs.Rows.{SystemRow}
use Rattle.afdx_config.specs.Reading.{system_named, system_at_port, has_id}

pub record IsNewSystem (before : List SystemRow) (s : SystemRow) : Type 0 where
  pub name : system_named before s.name ≡ None
  pub port : system_at_port before s.port ≡ None
  pub id : has_id before s.id ≡ false
