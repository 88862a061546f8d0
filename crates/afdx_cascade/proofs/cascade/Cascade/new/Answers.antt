use Rattle.std.proofs.Common.{arith, ap, length, subst}
use Rattle.afdx_cascade.specs.Keys.{AreKeys, IsLeast}
use Rattle.afdx_cascade.specs.declared.cascade.Cascade.{Cascade}
use Rattle.afdx_cascade.proofs.CascadeLemmas.{new-stands, new-until}
use Rattle.afdx_cascade.proofs.cascade.Cascade.new.Goals as goal

pub new_keys-requires : goal.new_keys-requires
new_keys-requires c =
    let count = c.in_ok-networks.ensures.count in
    let few = c.new_networks.ensures.switches.count.1 in
    let same = ap length c.deref.ensures.value in
    omega (arith, count, few, same)

pub least_of-least-requires : goal.least_of-least-requires
least_of-least-requires c =
    let count = c.in_ok-networks.ensures.count in
    let some = c.new_networks.ensures.switches.count.0 in
    let keys = c.in_ok-keys.ensures.count in
    let same = ap length c.deref.ensures.value in
    let lent = ap length c.deref-2.ensures.value in
    omega (arith, count, some, keys, same, lent)

pub returns-clause-stands : goal.returns-clause-stands
returns-clause-stands c =
    let w : Cascade = record {
      networks = c.in_ok-networks.networks;
      keys = c.in_ok-keys.keys;
      least = c.least_of-least.result;
      ends = c.in_ok-ends.ends;
      transit = c.new.result;
    } in
    new-stands c.args.switches.now c.new_networks.ensures.switches w c.in_ok-networks.ensures.count
    c.in_ok-networks.ensures.stands c.in_ok-networks.ensures.clock
    (subst (λ ns. AreKeys ns c.in_ok-keys.keys.items) c.deref.ensures.value c.in_ok-keys.ensures)
    (subst (λ ks. IsLeast ks c.least_of-least.result) c.deref-2.ensures.value c.least_of-least.ensures)
    c.in_ok-ends.ensures c.new.ensures.items

pub returns-clause-clock : goal.returns-clause-clock
returns-clause-clock c =
    let w : Cascade = record {
      networks = c.in_ok-networks.networks;
      keys = c.in_ok-keys.keys;
      least = c.least_of-least.result;
      ends = c.in_ok-ends.ends;
      transit = c.new.result;
    } in
    new-until w c.in_ok-networks.ensures.clock c.new.ensures.items
