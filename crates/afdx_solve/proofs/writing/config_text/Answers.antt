use Rattle.std.proofs.Common.{refl}
use Rattle.std.proofs.Math.Seq.{take-length}
use Rattle.afdx_config.proofs.AmongOthersLemmas.{alone-one}
use Rattle.afdx_solve.proofs.ConfigTextLemmas.{string-spells}
use Rattle.afdx_solve.proofs.writing.config_text.Goals as goal

pub returns-clause-text : goal.returns-clause-text
returns-clause-text c =
    rw (
      c.in_ok-put_ports.ensures,
      c.in_ok-put_links.ensures,
      c.in_ok-put_systems.ensures,
      c.in_ok-put_top.ensures,
      c.new-text.ensures.bytes,
      c.system_count.ensures.count,
      take-length c.args.tables.now.systems,
    ) refl

pub returns-clause-spells : goal.returns-clause-spells
returns-clause-spells c = λ own.
    string-spells c.put_ports.new.text c.args.tables.now
    (alone-one c.args.tables.now c.system_count.ensures.lawful own) (returns-clause-text c)
