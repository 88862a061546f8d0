use Rattle.std.proofs.Common.{◌≡◌, refl, sym, ◌∙◌, ap, ◌++◌, ◌∷◌, [], length, take, nat_eq, true}
use Rattle.afdx_config.specs.Rows.{port_row}
use Rattle.afdx_comport.specs.Ports.{ports_at_first, port_at_first}
use Rattle.afdx_comport.proofs.PlaceLemmas.{listed_passed, listed_added, places_added, found_added}
use Rattle.afdx_comport.proofs.com_ports.ComPorts.new.Goals as goal
use Rattle.afdx_comport.proofs.com_ports.ComPorts.new.Goals.{then-eq+in_ok-insert+in_ok-new+in_ok-push, else-eq}

pub loop-index-preserved : goal.loop-index-preserved
loop-index-preserved c =
    let system = c.args.system.0 in
    let rows = c.args.tables.now.ports in
    let row = port_row c.com-row.result.now in
    elim c.if-eq.branch [
      | then-eq+in_ok-insert+in_ok-new+in_ok-push w ↦
          let before = c.loop-index.invariant.so_far in
          let own : nat_eq row.system system ≡ true = sym c.eq.ensures ∙ w.if-eq.true in
          let count : w.len-place.result ≡ length (ports_at_first system
          (take c.loop-index.index rows)) = w.len-place.ensures ∙ c.loop-index.ports.ok.0 ∙ ap length before in
          let now : w.push.new.self.items ≡ ports_at_first system (take c.loop-index.index rows)
          ++ port_at_first row ∷ []
          = w.in_ok-push.ensures.items ∙ rw (before, w.in_ok-new.ensures) refl in
          record {
            so_far = rw (w.ports-is, now)
                (sym (listed_added system rows c.loop-index.index row c.com-row.ensures.row own));
            places = rw (w.places-is, w.ports-is, now)
                (places_added system rows c.loop-index.index row c.loop-index.places w.insert.new.self
                c.com-row.ensures.lawful.ports.triples c.com-row.ensures.row own
                (rw before at c.loop-index.invariant.places)
                (rw count at w.in_ok-insert.ensures.updates.0));
            found = rw (w.ports-is, now)
                (found_added system rows c.loop-index.index row
                c.com-row.ensures.lawful.ports.triples c.com-row.ensures.row own
                (rw before at c.loop-index.invariant.found));
          }
      | else-eq w ↦ record {
        so_far = rw w.ports-is (c.loop-index.invariant.so_far ∙ sym
            (listed_passed system rows c.loop-index.index row c.com-row.ensures.row
            (sym c.eq.ensures ∙ w.if-eq.false)));
        places = rw (w.places-is, w.ports-is) c.loop-index.invariant.places;
        found = rw w.ports-is c.loop-index.invariant.found;
      }
    ]
