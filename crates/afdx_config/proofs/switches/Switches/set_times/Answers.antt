use Rattle.std.proofs.Common.{IsSome, ◌≡◌, length, slice_get, slice_set, List, Some, refl, sym, ap, ◌∙◌, subst}
use Rattle.std.specs.Prelude.{get_or}
use Rattle.std.proofs.lemmas.Option.{slice_get_read, slice_get_within}
use Rattle.afdx_config.specs.Changed.{with_times, with_link_at}
use Rattle.afdx_config.specs.AtSwitch.{tables_at, link_at}
use Rattle.afdx_config.specs.Rows.{Rows, LinkRow}
use Rattle.afdx_config.specs.Lawful.{IsLinkAmong}
use Rattle.afdx_config.specs.Switches.{NamedRows, AreSwitches}
use Rattle.afdx_config.specs.ChangedSwitches.{with_times_at}
use Rattle.afdx_config.proofs.ChangedSwitchesLemmas.{row-stands, changed-set, switches-times}
use Rattle.afdx_config.proofs.switches.Switches.set_times.Goals as goal

pub invariant_of-self : goal.invariant_of-self
invariant_of-self c =
    let items = c.self.inside.switches.items in
    let k = c.args.switch.0 in
    let stands = row-stands items k c.args.index
    (subst (λ (ss : List NamedRows). IsSome (link_at ss k c.args.index)) (sym c.self.view_is) c.requires.within) in
    let within = slice_get_within items k stands.switch stands.at in
    let read = subst (λ n. c.index_mut.result.now ≡ get_or items n c.index_mut.result.now) c.index.ensures.place
    c.index_mut.ensures.value in
    let at = slice_get_read items (length items) k c.index_mut.result.now refl within read in
    let e : slice_set items c.index.result c.set_times.new.self ≡ with_times_at k c.args.index c.args.times items =
    ap (λ n. slice_set items n c.set_times.new.self) c.index.ensures.place
    ∙ ap (slice_set items k) c.set_times.ensures
    ∙ changed-set (with_link_at c.args.index c.args.times) items k c.index_mut.result.now at in
    let may = subst (λ (ss : List NamedRows). (t : Rows) (l : LinkRow) → tables_at ss k ≡ Some t
    → slice_get t.links c.args.index ≡ Some l → IsLinkAmong t.own (length t.systems) (with_times c.args.times l))
    (sym c.self.view_is) c.requires.lawful in
    subst AreSwitches (sym e) (switches-times items c.self.invariant k c.args.index c.args.times may)

pub returns-clause-changed : goal.returns-clause-changed
returns-clause-changed c =
    let items = c.self.inside.switches.items in
    let k = c.args.switch.0 in
    let stands = row-stands items k c.args.index
    (subst (λ (ss : List NamedRows). IsSome (link_at ss k c.args.index)) (sym c.self.view_is) c.requires.within) in
    let within = slice_get_within items k stands.switch stands.at in
    let read = subst (λ n. c.index_mut.result.now ≡ get_or items n c.index_mut.result.now) c.index.ensures.place
    c.index_mut.ensures.value in
    let at = slice_get_read items (length items) k c.index_mut.result.now refl within read in
    ap (λ n. slice_set items n c.set_times.new.self) c.index.ensures.place
    ∙ ap (slice_set items k) c.set_times.ensures
    ∙ changed-set (with_link_at c.args.index c.args.times) items k c.index_mut.result.now at
    ∙ ap (with_times_at k c.args.index c.args.times) c.self.view_is

pub returns-clause-switches : goal.returns-clause-switches
returns-clause-switches c =
    let items = c.self.inside.switches.items in
    let k = c.args.switch.0 in
    let stands = row-stands items k c.args.index
    (subst (λ (ss : List NamedRows). IsSome (link_at ss k c.args.index)) (sym c.self.view_is) c.requires.within) in
    let within = slice_get_within items k stands.switch stands.at in
    let read = subst (λ n. c.index_mut.result.now ≡ get_or items n c.index_mut.result.now) c.index.ensures.place
    c.index_mut.ensures.value in
    let at = slice_get_read items (length items) k c.index_mut.result.now refl within read in
    let e : slice_set items c.index.result c.set_times.new.self ≡ with_times_at k c.args.index c.args.times items =
    ap (λ n. slice_set items n c.set_times.new.self) c.index.ensures.place
    ∙ ap (slice_set items k) c.set_times.ensures
    ∙ changed-set (with_link_at c.args.index c.args.times) items k c.index_mut.result.now at in
    let may = subst (λ (ss : List NamedRows). (t : Rows) (l : LinkRow) → tables_at ss k ≡ Some t
    → slice_get t.links c.args.index ≡ Some l → IsLinkAmong t.own (length t.systems) (with_times c.args.times l))
    (sym c.self.view_is) c.requires.lawful in
    subst AreSwitches (sym e) (switches-times items c.self.invariant k c.args.index c.args.times may)
