-- The text of several switches describes them.
use Rattle.std.proofs.Common.{◌≡◌, true, List, [], ◌∷◌, ◌++◌, length, map, Ok, refl, sym, ap, ◌∙◌}
use Rattle.std.proofs.Common.{arith, subst, append_assoc, append-nil}
use Rattle.std.specs.List.{AllByRecursion}
use Rattle.std.specs.Prelude.{IsUtf8, String, string_bytes}
use Rattle.std.specs.declared.alloc.Global.{Global}
use Rattle.std.proofs.lemmas.Bool.{le-leb}
use Rattle.std.proofs.lemmas.List.{length-map}
use Rattle.std.proofs.lemmas.Str.{IsUtf8-string_bytes}
use Rattle.toml.specs.Data.{Members}
use Rattle.toml.specs.Parse.{skip_bom}
use Rattle.toml.specs.Tables.{Nodes, no_nodes, close}
use Rattle.afdx_config.specs.declared.describing.Described.TheVariants.{Several}
use Rattle.afdx_config.specs.Choices.{all_kept}
use Rattle.afdx_config.specs.Files.{Describes, are_several, file_at}
use Rattle.afdx_config.specs.Keys as keys
use Rattle.afdx_config.specs.Keys.{cascade_keys, top_keys, tables, only, only_cascade_keys, are_among}
use Rattle.afdx_config.specs.Lawful.{IsLawfulSwitch}
use Rattle.afdx_config.specs.Reading.{is_name}
use Rattle.afdx_config.specs.Switches.{NamedRows, AreSwitches, each_switch, switch_tables, switches_at}
use Rattle.afdx_solve.specs.CascadeText.{switch_text, cascade_text}
use Rattle.afdx_solve.proofs.ConfigTextLemmas.{lines-parse}
use Rattle.afdx_solve.proofs.KeyLemmas.{tables-read}
use Rattle.afdx_solve.proofs.ReadTopLemmas.{among, switch_nodes, switch-reads}
use Rattle.afdx_solve.proofs.RunLemmas.{rows_node, rows-read, elements-run, with_node}
use Rattle.afdx_solve.proofs.SwitchLineLemmas.{IsSwitch, switch_key, switch_lines, switches-lines}
use Rattle.afdx_solve.proofs.TreeLemmas.{switch_fields, switch_top, switch-made, parts-run, no-parts-switch}

-- the tree of the file
abbrev cascade_root : List NamedRows → Nodes
cascade_root switches = with_node switch_key (rows_node switch_nodes switches) no_nodes

abbrev switch_tree : NamedRows → Members
switch_tree s = close (switch_nodes s)

switches-read : (before rest : List NamedRows) → AllByRecursion IsSwitch rest
    → each_switch all_kept before (map switch_tree rest) ≡ Ok (before ++ rest)
switches-read before [] are = ap Ok (sym (append-nil before))
switches-read before (s ∷ rest) are =
    rw (switch-reads s are.0.name are.0.lawful)
    (switches-read (before ++ s ∷ []) rest are.1 ∙ ap Ok (append_assoc before (s ∷ []) rest))

both : (switches : List NamedRows) → AllByRecursion (λ s. is_name s.name ≡ true) switches
    → AllByRecursion (λ s. IsLawfulSwitch s.rows) switches → AllByRecursion IsSwitch switches
both [] names lawful = tt
both (s ∷ more) names lawful =
    (record { name = names.0; lawful = lawful.0 }, both more names.1 lawful.1)

module _ (s : NamedRows) (more : List NamedRows) (are : AreSwitches (s ∷ more)) where
  abbrev switches : List NamedRows
  switches = s ∷ more

  abbrev tree : Members
  tree = close (cascade_root switches)

  there : tables keys.switches_at tree ≡ Ok (map switch_tree switches)
  unfolding cascade_keys
  there = tables-read keys.switches_at tree (map switch_tree switches)
      (rows-read switch_nodes keys.switches_at.place switches)
      (rw (length-map switches switch_tree) are.count.1)

  some : switch_tables tree ≡ Ok (map switch_tree switches)
  unfolding switch_tables
  some = rw (there, le-leb 1 (length (map switch_tree switches)) (omega (arith, length-map switches switch_tree))) refl

  only-switches : only_cascade_keys tree ≡ Ok tt
  unfolding only_cascade_keys only cascade_keys are_among
  only-switches = refl

  several : are_several tree ≡ true
  unfolding are_several cascade_keys top_keys
  several = refl

  tree-reads : file_at all_kept tree ≡ Ok (Several switches)
  unfolding file_at switches_at
  tree-reads = rw (several, some, only-switches, switches-read [] switches (both switches are.names are.each), are.over)

  no-bom : skip_bom (cascade_text switches) ≡ cascade_text switches
  unfolding skip_bom cascade_text switch_text
  no-bom = refl

  text-describes : IsUtf8 (cascade_text switches) → Describes (cascade_text switches) (Several switches)
  text-describes utf8 =
      let parses = lines-parse _ (cascade_text switches) (cascade_root switches) no-bom
      (switches-lines s more (both switches are.names are.each))
      (elements-run switch_key switch_lines switch_nodes
      (λ r. parts-run (among r.rows) (switch_top r) (no-parts-switch r) (switch_fields r) (switch-made r))
      switches no_nodes [] refl) in
      (utf8, (tree, parses, tree-reads))

-- and so does a string of these bytes
pub string-describes : (text : String Global) (switches : List NamedRows) → AreSwitches switches
    → string_bytes text ≡ cascade_text switches → Describes (string_bytes text) (Several switches)
string-describes text [] are is = absurd (omega (arith, are.count.0))
string-describes text (s ∷ more) are is =
    subst (λ bytes. Describes bytes (Several (s ∷ more))) (sym is)
    (text-describes s more are (subst IsUtf8 is (IsUtf8-string_bytes text)))
