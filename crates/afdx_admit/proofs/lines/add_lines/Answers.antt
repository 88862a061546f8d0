use Rattle.std.proofs.Common.{rules, ◌++◌, [], List, length}
use Rattle.afdx_config.specs.Rows.{Rows}
use Rattle.afdx_admit.specs.Lines.{Line, each_from, port_lines, sender_lines, link_lines, lines}
use Rattle.afdx_frame.proofs.FalseLinesLemmas.{none_added}
use Rattle.afdx_admit.proofs.WalkLemmas.{walks_on, walks_stop}
use Rattle.afdx_admit.proofs.lines.add_lines.Goals as goal

module _ (t : Rows) where
  abbrev ports : List Line
  ports = each_from (port_lines t) 1 24

  abbrev senders : List Line
  senders = each_from (sender_lines t) 0 t.own

  abbrev links : List Line
  links = each_from (link_lines t) 0 (length t.links)

pub returns-in_err-add_ports-clause-walks : goal.returns-in_err-add_ports-clause-walks
unfolding lines
returns-in_err-add_ports-clause-walks g c =
    let t = c.args.tables.now in
    let old = g.C.Found.items c.args.found.now in
    walks_stop g.C.Found.Stops old old _ [] (ports t) (senders t ++ links t) c.in_err-add_ports.field-0.0 _
    (search rules) (none_added old) c.in_err-add_ports.ensures

pub returns-in_err-add_senders-clause-walks : goal.returns-in_err-add_senders-clause-walks
unfolding lines
returns-in_err-add_senders-clause-walks g c =
    let t = c.args.tables.now in
    walks_stop g.C.Found.Stops (g.C.Found.items c.args.found.now) (g.C.Found.items c.add_ports.new.found) _ (ports t)
    (senders t) (links t) c.in_err-add_senders.field-0.0 _ (search rules) c.in_ok-add_ports.ensures
    c.in_err-add_senders.ensures

pub returns-clause-walks : goal.returns-clause-walks
unfolding lines
returns-clause-walks g c =
    let t = c.args.tables.now in
    let one = g.C.Found.items c.add_ports.new.found in
    walks_on g.C.Found.Stops (g.C.Found.items c.args.found.now) one _ (ports t) (senders t ++ links t)
    c.add_links.result c.in_ok-add_ports.ensures
    (walks_on g.C.Found.Stops one (g.C.Found.items c.add_senders.new.found) _ (senders t) (links t) c.add_links.result
    c.in_ok-add_senders.ensures c.add_links.ensures)
