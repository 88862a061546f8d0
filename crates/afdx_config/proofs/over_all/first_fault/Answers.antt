use Rattle.std.proofs.Common.{◌++◌, length, List, sym, ◌∙◌}
use Rattle.afdx_config.specs.declared.file_fault.FileFault.{FileFault}
use Rattle.afdx_config.specs.Switches.{NamedRows, name_lines, systems_lines, neighbours_lines, starts_lines, over_all}
use Rattle.afdx_frame.specs.Lines.{Line, each_from}
use Rattle.afdx_frame.proofs.FirstFalseLemmas.{first_false-append, first_false-before}
use Rattle.afdx_config.proofs.over_all.first_fault.Goals as goal

-- the lines of each kind, over all
module _ (ss : List NamedRows) where
  abbrev names : List (Line FileFault)
  names = each_from (name_lines ss) 0 (length ss)

  abbrev systems : List (Line FileFault)
  systems = each_from (systems_lines ss) 0 (length ss)

  abbrev neighbours : List (Line FileFault)
  neighbours = each_from (neighbours_lines ss) 0 (length ss)

  abbrev starts : List (Line FileFault)
  starts = each_from (starts_lines ss) 0 (length ss)

pub returns-in-Some : goal.returns-in-Some
unfolding over_all
returns-in-Some c =
    let ss = c.args.switches.now in
    sym (first_false-before (names ss) (systems ss ++ (neighbours ss ++ starts ss)) c.in-Some.fault
    (sym c.names_fault.ensures ∙ c.in-Some.is))

pub returns-in-Some-systems_fault : goal.returns-in-Some-systems_fault
unfolding over_all
returns-in-Some-systems_fault c =
    let ss = c.args.switches.now in
    sym (first_false-append (names ss) (systems ss ++ (neighbours ss ++ starts ss))
    (sym c.names_fault.ensures ∙ c.in_default.is)
    ∙ first_false-before (systems ss) (neighbours ss ++ starts ss) c.in-Some-systems_fault.fault
    (sym c.systems_fault.ensures ∙ c.in-Some-systems_fault.is))

pub returns-in-Some-neighbours_fault : goal.returns-in-Some-neighbours_fault
unfolding over_all
returns-in-Some-neighbours_fault c =
    let ss = c.args.switches.now in
    sym (first_false-append (names ss) (systems ss ++ (neighbours ss ++ starts ss))
    (sym c.names_fault.ensures ∙ c.in_default.is)
    ∙ first_false-append (systems ss) (neighbours ss ++ starts ss)
    (sym c.systems_fault.ensures ∙ c.in_default-systems_fault.is)
    ∙ first_false-before (neighbours ss) (starts ss) c.in-Some-neighbours_fault.fault
    (sym c.neighbours_fault.ensures ∙ c.in-Some-neighbours_fault.is))

pub returns : goal.returns
unfolding over_all
returns c =
    let ss = c.args.switches.now in
    c.starts_fault.ensures
    ∙ sym (first_false-append (names ss) (systems ss ++ (neighbours ss ++ starts ss))
    (sym c.names_fault.ensures ∙ c.in_default.is)
    ∙ first_false-append (systems ss) (neighbours ss ++ starts ss)
    (sym c.systems_fault.ensures ∙ c.in_default-systems_fault.is)
    ∙ first_false-append (neighbours ss) (starts ss)
    (sym c.neighbours_fault.ensures ∙ c.in_default-neighbours_fault.is))
