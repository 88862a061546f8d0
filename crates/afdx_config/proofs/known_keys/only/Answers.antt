use Rattle.std.proofs.Common.{◌≡◌, true, false, sym, ◌∙◌}
use Rattle.toml.specs.View.{table_view}
use Rattle.afdx_config.specs.Keys.{only, are_among, key_rows}
use Rattle.afdx_config.proofs.GatheredLemmas.{are_among-keys}
use Rattle.afdx_config.proofs.known_keys.only.Goals as goal

pub returns-then-are_among : goal.returns-then-are_among
unfolding only
returns-then-are_among c =
    let known : are_among (key_rows c.args.known.now) (table_view c.args.table.now) ≡ true =
    are_among-keys c.args.known.now c.args.table.now.entries ∙ sym c.are_among.ensures
    ∙ c.if-are_among.true in
    rw known

pub returns-else-are_among : goal.returns-else-are_among
unfolding only
returns-else-are_among c = λ _.
    let known : are_among (key_rows c.args.known.now) (table_view c.args.table.now) ≡ false =
    are_among-keys c.args.known.now c.args.table.now.entries ∙ sym c.are_among.ensures
    ∙ c.if-are_among.false in
    rw known
