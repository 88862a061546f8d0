use Rattle.std.proofs.Common.{rules, ◌++◌, [], List, length}
use Rattle.afdx_config.specs.Switches.{NamedRows}
use Rattle.afdx_frame.specs.Lines.{Line, each_from}
use Rattle.afdx_frame.proofs.FalseLinesLemmas.{none_added}
use Rattle.afdx_admit.specs.declared.cascade_fault.CascadeFault.{CascadeFault}
use Rattle.afdx_admit.specs.Cascade.{own_lines, hops_lines, readers_lines, cascade_lines}
use Rattle.afdx_admit.proofs.WalkLemmas.{walks_on, walks_stop}
use Rattle.afdx_admit.proofs.cascade_lines.add_cascade_lines.Goals as goal

-- the lines of each kind, of all switches
module _ (ss : List NamedRows) where
  abbrev owns : List (Line CascadeFault)
  owns = each_from (own_lines ss) 0 (length ss)

  abbrev hops : List (Line CascadeFault)
  hops = each_from (hops_lines ss) 0 (length ss)

  abbrev readers : List (Line CascadeFault)
  readers = each_from (readers_lines ss) 0 (length ss)

pub returns-in_err-add_owns-clause-walks : goal.returns-in_err-add_owns-clause-walks
unfolding cascade_lines
returns-in_err-add_owns-clause-walks g c =
    let ss = c.args.switches.now in
    let old = g.C.Found.items c.args.found.now in
    walks_stop g.C.Found.Stops old old _ [] (owns ss) (hops ss ++ readers ss) c.in_err-add_owns.field-0.0 _
    (search rules) (none_added old) c.in_err-add_owns.ensures.walks

pub returns-in_err-add_hops-clause-walks : goal.returns-in_err-add_hops-clause-walks
unfolding cascade_lines
returns-in_err-add_hops-clause-walks g c =
    let ss = c.args.switches.now in
    walks_stop g.C.Found.Stops (g.C.Found.items c.args.found.now) (g.C.Found.items c.add_owns.new.found) _ (owns ss)
    (hops ss) (readers ss) c.in_err-add_hops.field-0.0 _ (search rules) c.in_ok-add_owns.ensures.walks
    c.in_err-add_hops.ensures

pub returns-clause-walks : goal.returns-clause-walks
unfolding cascade_lines
returns-clause-walks g c =
    let ss = c.args.switches.now in
    let one = g.C.Found.items c.add_owns.new.found in
    walks_on g.C.Found.Stops (g.C.Found.items c.args.found.now) one _ (owns ss) (hops ss ++ readers ss)
    c.add_readers.result c.in_ok-add_owns.ensures.walks
    (walks_on g.C.Found.Stops one (g.C.Found.items c.add_hops.new.found) _ (hops ss) (readers ss)
    c.add_readers.result c.in_ok-add_hops.ensures c.add_readers.ensures)
