use Rattle.std.proofs.Common.{◌≡◌, ◌++◌, List, ℕ, [], length, slice_get, sym, ap, ◌∙◌, arith}
use Rattle.std.specs.Option.{option_map_or}
use Rattle.afdx_config.specs.Rows.{Rows, link_row}
use Rattle.afdx_text.specs.Texts.{text_bytes}
use Rattle.afdx_command_tables.specs.CascadeText.{texts_below, link_aparts, switch_aparts, apart_if_first}
use Rattle.afdx_command_tables.proofs.BelowLemmas.{below-none, below-next, of_tables}
use Rattle.afdx_command_tables.proofs.check_apart.put_switch_aparts.Goals as goal

pub loop-i-init : goal.loop-i-init
loop-i-init c = below-none (link_aparts c.args.switches.now c.args.switch.0) (text_bytes c.args.text.now)

pub loop-i-preserved : goal.loop-i-preserved
unfolding link_aparts
loop-i-preserved c =
    let ss = c.args.switches.now in
    let k = c.args.switch.0 in
    let t : Rows = c.tables-tables.result.now in
    let row = link_row c.link.result.now in
    let here : link_aparts ss k c.loop-i.i ≡ apart_if_first ss k row =
    of_tables (λ t. option_map_or (apart_if_first ss k) (slice_get t.links c.loop-i.i) []) (slice_get ss k) t
    c.tables-tables.ensures.tables
    ∙ ap (λ o. option_map_or (apart_if_first ss k) o []) c.link.ensures.row in
    below-next (link_aparts ss k) c.loop-i.i (text_bytes c.args.text.now) (text_bytes c.loop-i.text) _
    c.loop-i.invariant
    (c.in_ok-put_apart_if_first.ensures ∙ ap (λ (more : List ℕ). text_bytes c.loop-i.text ++ more) (sym here))

pub returns : goal.returns
unfolding switch_aparts
returns c =
    let ss = c.args.switches.now in
    let k = c.args.switch.0 in
    let t : Rows = c.tables-tables.result.now in
    let whole : switch_aparts ss k ≡ texts_below (link_aparts ss k) (length t.links) =
    of_tables (λ t. texts_below (link_aparts ss k) (length t.links)) (slice_get ss k) t
    c.tables-tables.ensures.tables in
    c.loop-i.invariant
    ∙ ap (λ (n : ℕ). text_bytes c.args.text.now ++ texts_below (link_aparts ss k) n) (omega arith)
    ∙ ap (λ (more : List ℕ). text_bytes c.args.text.now ++ more) (sym whole)
