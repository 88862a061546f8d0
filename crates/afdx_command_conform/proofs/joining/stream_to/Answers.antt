use Rattle.std.proofs.Common.{get_or, true≢false, sym, ap, subst, ◌∙◌}
use Rattle.std.proofs.lemmas.Option.{slice_get-get_or}
use Rattle.afdx_command_conform.specs.Keeping.{IsStreamOf}
use Rattle.afdx_command_conform.specs.declared.key.Key.{Key}
use Rattle.afdx_command_conform.proofs.KeyLemmas.{no-system}
use Rattle.afdx_command_conform.proofs.OutletLemmas.{goes-there}
use Rattle.afdx_command_conform.proofs.joining.stream_to.Goals as goal

pub returns-in_ok-make_stream-clause-stands : goal.returns-in_ok-make_stream-clause-stands
returns-in_ok-make_stream-clause-stands c c' until time given lines l at to by kept =
    let t = c.args.rules.now.tables.now in
    let s = c.args.outlet.system.0 in
    let lawful = c.key_at-key.ensures.lawful in
    let here = slice_get-get_or t.systems s no-system c.requires.system in
    let is = subst (λ q. IsStreamOf t q l) (sym c.key_at-key.ensures.key)
    (goes-there t c.args.outlet.link l s (get_or t.systems s no-system) lawful at here to) in
    let made = c.in_ok-make_stream.ensures c' until time given lines l lawful is at
    (sym (ap (λ (q : Key). q.port) c.key_at-key.ensures.key)) by
    (λ has. true≢false (sym (c.has_stream.ensures.1 has) ∙ c.if-not-has_stream.true)) kept in
    (is, made.1, made.0)

pub returns-else-not-has_stream-clause-stands : goal.returns-else-not-has_stream-clause-stands
returns-else-not-has_stream-clause-stands c c' until time given lines l at to by kept =
    let t = c.args.rules.now.tables.now in
    let s = c.args.outlet.system.0 in
    let here = slice_get-get_or t.systems s no-system c.requires.system in (
      subst (λ q. IsStreamOf t q l) (sym c.key_at-key.ensures.key)
          (goes-there t c.args.outlet.link l s (get_or t.systems s no-system) c.key_at-key.ensures.lawful at here to),
      c.has_stream.ensures.0 c.if-not-has_stream.false,
      kept,
    )
