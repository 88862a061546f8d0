-- The leeway that the code holds, as plain data.
use Rattle.afdx_conform.specs.Leeway.{Leeway}
use Rattle.afdx_conform.specs.Leeways.{leeway_with}
use Rattle.afdx_conform.specs.declared.leeway.Leeway as code

abbrev pub leeway_of : code.Leeway → Leeway
leeway_of by = leeway_with by.slack by.between by.drift by.inner by.asked by.start
