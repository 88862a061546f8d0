use Rattle.std.proofs.Common.{◌≡◌, ◌<◌, length, slice_set, List, refl, sym, ap, ◌∙◌, subst}
use Rattle.std.specs.Prelude.{get_or}
use Rattle.std.proofs.lemmas.Option.{slice_get_read}
use Rattle.afdx_config.specs.Changed.{with_buffer}
use Rattle.afdx_config.specs.Switches.{NamedRows, AreSwitches}
use Rattle.afdx_config.specs.ChangedSwitches.{with_buffer_at}
use Rattle.afdx_config.proofs.ChangedSwitchesLemmas.{changed-set, switches-buffer}
use Rattle.afdx_config.proofs.switches.Switches.set_buffer.Goals as goal

pub invariant_of-self : goal.invariant_of-self
invariant_of-self c =
    let items = c.self.inside.switches.items in
    let k = c.args.switch.0 in
    let within : k < length items =
    subst (λ (ss : List NamedRows). k < length ss) (sym c.self.view_is) c.requires.switch in
    let read = subst (λ n. c.index_mut.result.now ≡ get_or items n c.index_mut.result.now) c.index.ensures.place
    c.index_mut.ensures.value in
    let at = slice_get_read items (length items) k c.index_mut.result.now refl within read in
    let e : slice_set items c.index.result c.set_buffer.new.self ≡ with_buffer_at k c.args.buffer items =
    ap (λ n. slice_set items n c.set_buffer.new.self) c.index.ensures.place
    ∙ ap (slice_set items k) c.set_buffer.ensures
    ∙ changed-set (with_buffer c.args.buffer) items k c.index_mut.result.now at in
    subst AreSwitches (sym e) (switches-buffer items c.self.invariant k c.args.buffer c.requires.buffer)

pub returns-clause-changed : goal.returns-clause-changed
returns-clause-changed c =
    let items = c.self.inside.switches.items in
    let k = c.args.switch.0 in
    let within : k < length items =
    subst (λ (ss : List NamedRows). k < length ss) (sym c.self.view_is) c.requires.switch in
    let read = subst (λ n. c.index_mut.result.now ≡ get_or items n c.index_mut.result.now) c.index.ensures.place
    c.index_mut.ensures.value in
    let at = slice_get_read items (length items) k c.index_mut.result.now refl within read in
    ap (λ n. slice_set items n c.set_buffer.new.self) c.index.ensures.place
    ∙ ap (slice_set items k) c.set_buffer.ensures
    ∙ changed-set (with_buffer c.args.buffer) items k c.index_mut.result.now at
    ∙ ap (with_buffer_at k c.args.buffer) c.self.view_is

pub returns-clause-switches : goal.returns-clause-switches
returns-clause-switches c =
    let items = c.self.inside.switches.items in
    let k = c.args.switch.0 in
    let within : k < length items =
    subst (λ (ss : List NamedRows). k < length ss) (sym c.self.view_is) c.requires.switch in
    let read = subst (λ n. c.index_mut.result.now ≡ get_or items n c.index_mut.result.now) c.index.ensures.place
    c.index_mut.ensures.value in
    let at = slice_get_read items (length items) k c.index_mut.result.now refl within read in
    let e : slice_set items c.index.result c.set_buffer.new.self ≡ with_buffer_at k c.args.buffer items =
    ap (λ n. slice_set items n c.set_buffer.new.self) c.index.ensures.place
    ∙ ap (slice_set items k) c.set_buffer.ensures
    ∙ changed-set (with_buffer c.args.buffer) items k c.index_mut.result.now at in
    subst AreSwitches (sym e) (switches-buffer items c.self.invariant k c.args.buffer c.requires.buffer)
