use Rattle.std.proofs.Common.{◌≡◌, ◌∙◌, sym, ap, subst, not, ne_eqb, true}
use Rattle.afdx_config.specs.Rows.{Rows}
use Rattle.afdx_config.specs.ChangedSwitches.{with_buffer_at}
use Rattle.afdx_solve.specs.Solved.{chosen, least_buffer}
use Rattle.afdx_solve.specs.Raising.{Raises}
use Rattle.afdx_solve.proofs.RaisedLemmas.{buffer-raises}
use Rattle.afdx_solve.proofs.raising.raise_buffer.Goals as goal

pub returns-then-raised-clause-raises : goal.returns-then-raised-clause-raises
returns-then-raised-clause-raises c =
    let o = c.args.options in
    let ss = c.args.switches.now in
    let k = c.args.switch.0 in
    let t : Rows = c.tables-tables.result.now in
    let taken : c.chosen-buffer.result ≡ chosen o.kept.buffer true t.buffer (least_buffer t) =
    c.chosen-buffer.ensures ∙ ap (λ n. chosen o.kept.buffer true n c.least_buffer.result) c.buffer-old.ensures.buffer
    ∙ ap (chosen o.kept.buffer true t.buffer) c.least_buffer.ensures in
    let raises = buffer-raises o ss k t c.tables-tables.ensures.tables c.tables-tables.ensures.lawful.buffer
    (λ same. c.if-raised.true (taken ∙ sym same ∙ sym c.buffer-old.ensures.buffer)) in
    subst (Raises o ss c.set_buffer.new.self)
    (sym (ap not (ne_eqb c.chosen-buffer.result c.buffer-old.result c.if-raised.true)))
    (subst (λ x. Raises o ss x true) (sym (c.set_buffer.ensures.changed ∙ ap (λ n. with_buffer_at k n ss) taken))
    raises)
