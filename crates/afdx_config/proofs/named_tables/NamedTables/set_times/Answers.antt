use Rattle.std.proofs.Common.{◌≡◌, length, slice_get, Some, sym, subst}
use Rattle.afdx_config.specs.Rows.{LinkRow}
use Rattle.afdx_config.specs.Changed.{with_times}
use Rattle.afdx_config.specs.Lawful.{IsLawfulSwitch, IsLinkAmong}
use Rattle.afdx_config.specs.Switches.{NamedRows}
use Rattle.afdx_config.proofs.ChangedLemmas.{lawful-changed}
use Rattle.afdx_config.proofs.named_tables.NamedTables.set_times.Goals as goal

pub invariant_of-self : goal.invariant_of-self
invariant_of-self c =
    let may = subst (λ (s : NamedRows). (l : LinkRow) → slice_get s.rows.links c.args.index ≡ Some l
    → IsLinkAmong s.rows.own (length s.rows.systems) (with_times c.args.times l))
    (sym c.self.view_is) c.requires.lawful in (
      c.self.invariant.0,
      subst IsLawfulSwitch (sym c.set_times.ensures.changed)
          (lawful-changed c.self.inside.tables c.args.index c.args.times c.self.invariant.1 may),
    )
