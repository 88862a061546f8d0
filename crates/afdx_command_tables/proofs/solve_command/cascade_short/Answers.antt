use Rattle.std.proofs.Common.{◌≡◌, ◌++◌, List, ℕ, [], option_map, sym, ap, ◌∙◌}
use Rattle.std.specs.Prelude.{codes, decimal}
use Rattle.std.specs.Option.{option_map_or}
use Rattle.std.proofs.lemmas.Option.{same_Some}
use Rattle.std.proofs.lemmas.Result.{IfOk-weaker}
use Rattle.afdx_frame.proofs.ListLemmas.{slice_get-within}
use Rattle.afdx_config.specs.Switches.{NamedRows}
use Rattle.afdx_command_tables.specs.SolveText.{short_line_of, short_line_at}
use Rattle.afdx_command_tables.proofs.solve_command.cascade_short.Goals as goal

pub returns : goal.returns
returns c =
    let ss = c.args.switches.now in
    let short = c.args.found.short in
    let at = slice_get-within ss c.args.found.switch.0 c.requires in
    let s : NamedRows = at.0 in
    let named : s.name ≡ c.name-name.result.now =
    same_Some s.name c.name-name.result.now (sym (ap (option_map (λ (r : NamedRows). r.name)) at.1)
    ∙ c.name-name.ensures.name) in
    let rest = codes " " ++ (decimal short.vl.0 ++ (codes " " ++ (decimal short.ns ++ codes "\n"))) in
    let line : codes "no apart " ++ (c.name-name.result.now ++ rest) ≡ short_line_at ss c.args.found =
    ap (λ (x : List ℕ). codes "no apart " ++ (x ++ rest)) (sym named)
    ∙ sym (ap (λ o. option_map_or (short_line_of short) o []) at.1) in
    IfOk-weaker c.format.result _ _ (λ text told. told ∙ line) c.format.ensures.ok
