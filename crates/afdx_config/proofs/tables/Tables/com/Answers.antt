use Rattle.std.proofs.Common.{length, ◌≡◌, ◌<◌, slice_get, Some, option_map, refl, sym, ap, ◌∙◌, arith}
use Rattle.std.proofs.lemmas.List.{length-map}
use Rattle.std.proofs.lemmas.Option.{slice_get-map, slice_get_read}
use Rattle.afdx_frame.proofs.ListLemmas.{AllByRecursion-slice_get}
use Rattle.afdx_config.specs.Rows.{port_row}
use Rattle.afdx_config.specs.Lawful.{IsPort, IsLawfulSwitch}
use Rattle.afdx_config.proofs.tables.Tables.com.Goals as goal

pub returns-clause-lawful_row : goal.returns-clause-lawful_row
returns-clause-lawful_row c =
    let coms = c.self.inside.coms.items in
    let lawful : IsLawfulSwitch c.args.self.now = rw c.self.view_is at c.self.invariant in
    let within : c.args.index < length coms =
    omega (arith, length-map coms port_row, ap (λ t. length t.ports) c.self.view_is, c.requires) in
    let at : slice_get coms c.args.index ≡ Some c.index.result.now =
    slice_get_read coms (length coms) c.args.index c.index.result.now refl within c.index.ensures in
    let row : slice_get c.args.self.now.ports c.args.index ≡ Some (port_row c.index.result.now) =
    ap (λ t. slice_get t.ports c.args.index) (sym c.self.view_is)
    ∙ slice_get-map port_row coms c.args.index ∙ ap (option_map port_row) at in
    AllByRecursion-slice_get (IsPort (length c.args.self.now.systems) c.args.self.now.links) c.args.self.now.ports
    c.args.index (port_row c.index.result.now) lawful.ports.each row
