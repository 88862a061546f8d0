use Rattle.std.proofs.Common.{◌≡◌, ◌++◌, ◌∷◌, [], length, ap, ◌∙◌, rules, refl, arith, string_bytes}
use Rattle.std.proofs.Common.{None, length-append}
use Rattle.std.specs.Str.{bytes_eq}
use Rattle.afdx_frame.proofs.ListLemmas.{AllByRecursion-push}
use Rattle.afdx_config.specs.Rows.{system_row}
use Rattle.afdx_config.specs.Kept.{IsUnderItsName, system_rows}
use Rattle.afdx_config.specs.Reading.{system_named}
use Rattle.afdx_config.proofs.EntryLemmas.{insert_entry-fresh, rows_of-push, length-rows}
use Rattle.afdx_config.proofs.systems.SystemTable.push.Goals as goal

pub invariant_of-self-2 : goal.invariant_of-self-2
unfolding system_named
invariant_of-self-2 c =
    let es = c.self.inside.by_name.entries in
    let name = string_bytes c.in_ok-name.name in
    let same : name ≡ string_bytes c.args.system.name = search (rules, c.in_ok-name.ensures) in
    let none : system_named (system_rows es) name ≡ None =
    ap (λ n. system_named (system_rows es) n) same
    ∙ ap (λ rs. system_named rs (string_bytes c.args.system.name)) c.self.view_is
    ∙ c.requires.fresh in
    let e = c.in_ok-insert.ensures.entries
    ∙ insert_entry-fresh system_row (λ r. bytes_eq name r.name)
    (λ k. bytes_eq name (string_bytes k)) IsUnderItsName (λ x h. ap (bytes_eq name) h) es
    c.self.invariant.1 none _ c.in_ok-name.name c.args.system (λ k. refl) in
    rw e (
      omega (
        arith,
        length-append es ((c.in_ok-name.name, c.args.system) ∷ []),
        length-rows system_row es,
        ap length c.self.view_is,
        c.requires.room,
      ),
      AllByRecursion-push IsUnderItsName es (c.in_ok-name.name, c.args.system) c.self.invariant.1 same,
    )

pub returns : goal.returns
unfolding system_named
returns c =
    let es = c.self.inside.by_name.entries in
    let name = string_bytes c.in_ok-name.name in
    let same : name ≡ string_bytes c.args.system.name = search (rules, c.in_ok-name.ensures) in
    let none : system_named (system_rows es) name ≡ None =
    ap (λ n. system_named (system_rows es) n) same
    ∙ ap (λ rs. system_named rs (string_bytes c.args.system.name)) c.self.view_is
    ∙ c.requires.fresh in
    let e = c.in_ok-insert.ensures.entries
    ∙ insert_entry-fresh system_row (λ r. bytes_eq name r.name)
    (λ k. bytes_eq name (string_bytes k)) IsUnderItsName (λ x h. ap (bytes_eq name) h) es
    c.self.invariant.1 none _ c.in_ok-name.name c.args.system (λ k. refl) in
    ap system_rows e ∙ rows_of-push system_row es (c.in_ok-name.name, c.args.system)
    ∙ ap (λ rs. rs ++ system_row c.args.system ∷ []) c.self.view_is
