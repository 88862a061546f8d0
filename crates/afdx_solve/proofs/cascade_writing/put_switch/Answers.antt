use Rattle.std.proofs.lemmas.Result.{on_ok_weaker}
use Rattle.std.specs.Prelude.{string_bytes}
use Rattle.afdx_config.specs.Switches.{named_rows}
use Rattle.afdx_solve.proofs.TextLemmas.{switch-written}
use Rattle.afdx_solve.proofs.cascade_writing.put_switch.Goals as goal

pub returns : goal.returns
returns c =
    on_ok_weaker c.put_parts.result
    (λ e. switch-written (named_rows c.args.name.now c.args.tables.now) (string_bytes c.args.text.now)
    (string_bytes c.push_str.new.self) (string_bytes c.put_text.new.text) (string_bytes c.put_top.new.text)
    (string_bytes c.put_parts.new.text)
    c.in_ok-push_str.ensures.bytes c.in_ok-put_text.ensures c.in_ok-put_top.ensures e)
    c.put_parts.ensures
