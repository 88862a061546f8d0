use Rattle.std.proofs.Common.{◌≡◌, length, slice_get, Some, sym, subst}
use Rattle.afdx_config.specs.Rows.{LinkRow, Rows, port_rows, rows_with}
use Rattle.afdx_config.specs.Lawful.{IsLinkAmong}
use Rattle.afdx_config.specs.Changed.{with_times}
use Rattle.afdx_config.proofs.ChangedLemmas.{lawful-changed}
use Rattle.afdx_config.proofs.tables.Tables.set_times.Goals as goal

pub invariant_of-self : goal.invariant_of-self
invariant_of-self c =
    let inside = c.self.inside in
    let t = rows_with inside.profile inside.buffer inside.own inside.systems inside.links
    (port_rows inside.coms.items) in
    let may : (l : LinkRow) → slice_get t.links c.args.index ≡ Some l
    → IsLinkAmong t.own (length t.systems) (with_times c.args.times l) =
    subst (λ (r : Rows). (l : LinkRow) → slice_get r.links c.args.index ≡ Some l
    → IsLinkAmong r.own (length r.systems) (with_times c.args.times l)) (sym c.self.view_is) c.requires.lawful in
    rw c.set_times.ensures (lawful-changed t c.args.index c.args.times c.self.invariant may)
