use Rattle.std.proofs.Common.{◌≡◌, ◌<◌, ◌∙◌, refl, sym, ap, subst, length, arith, []}
use Rattle.std.specs.Prelude.{ℕ, Some, slice_get}
use Rattle.std.specs.Vec.{with_items}
use Rattle.std.proofs.lemmas.List.{with_items_is}
use Rattle.afdx_network.specs.Network as network
use Rattle.afdx_network.specs.declared.network.Network.{Network}
use Rattle.afdx_cascade.specs.Cascade.{IsUnchanged}
use Rattle.afdx_cascade.specs.Keeping.{Keeps, IsEarly, BringsNext, TurnsNext, IsNothingDue}
use Rattle.afdx_cascade.specs.Keys.{AreKeys, AreOthersSame}
use Rattle.afdx_cascade.specs.Scan.{IsFirstFrom}
use Rattle.afdx_cascade.specs.Turning.{AreEnds, AreInTransit, switch_of}
use Rattle.afdx_cascade.specs.declared.cascade.Cascade.{Cascade}
use Rattle.afdx_cascade.proofs.CascadeLemmas.{some-of, none-of, came-next, over-next, none-next}
use Rattle.afdx_cascade.proofs.CascadeLemmas.{front-to-come, turn-to-come}
use Rattle.afdx_cascade.proofs.TurningLemmas.{on-err}
use Rattle.afdx_cascade.proofs.cascade.Cascade.take.Goals as goal

-- the first turn of the networks as they were
pub bring_next-requires-clause-first : goal.bring_next-requires-clause-first
bring_next-requires-clause-first c =
    let s = c.requires.sound in
    let old = c.args.self.now in
    let count = s.2.count in
    let few = s.2.few in
    subst (λ zs. IsFirstFrom 0 zs (Some c.first_of-first.result)) (sym c.deref_mut.ensures.value)
    (c.first_of-first.ensures.first old.networks.items old.keys.items (omega (arith, count, few))
    s.2.keys s.2.least)

-- a cable brought a frame
pub renew-self-requires : goal.renew-self-requires
renew-self-requires c =
    let old = c.args.self.now in
    let ns = c.bring_next.new.networks in
    let lent = c.deref_mut.ensures.value in
    let size = c.bring_next.ensures.length ∙ ap length lent in
    let is = with_items_is old.networks ns (size ∙ sym old.networks.ok.0) in
    let within = some-of c.in_ok-brought.field-0 (λ b. switch_of b < length c.deref_mut.result.now)
    c.in-Some.brought c.in-Some.is c.in_ok-brought.ensures.within in
    let there = ap length (c.deref.ensures.value ∙ is) ∙ c.bring_next.ensures.length in
    let at = c.switch-switch.ensures in
    omega (arith, within, there, at)

pub returns-in-Some-clause-given : goal.returns-in-Some-clause-given
returns-in-Some-clause-given c p so_far st =
    let old = c.args.self.now in
    let ns = c.bring_next.new.networks in
    let b = c.in-Some.brought in
    let new : Cascade = record {
      networks = with_items old.networks ns;
      keys = c.renew-self.new.keys;
      least = c.renew-self.result;
      ends = old.ends;
      transit = c.bring_next.new.transit;
    } in
    let lent = c.deref_mut.ensures.value in
    let size = c.bring_next.ensures.length ∙ ap length lent in
    let is = with_items_is old.networks ns (size ∙ sym old.networks.ok.0) in
    let there = c.deref.ensures.value in
    let brings = some-of c.in_ok-brought.field-0
    (BringsNext p ns c.bring_next.new.transit.items st.time st.ring so_far)
    b c.in-Some.is
    (c.in_ok-brought.ensures.brings p st.time st.ring so_far
    (subst (λ zs. Keeps p zs st.time st.ring so_far) (sym lent) st.keeps) st.in_transit) in
    let others = subst (λ k. AreOthersSame k c.deref_mut.result.now ns) (sym c.switch-switch.ensures)
    (some-of c.in_ok-brought.field-0 (λ z. AreOthersSame (switch_of z) c.deref_mut.result.now ns)
    b c.in-Some.is c.in_ok-brought.ensures.others) in
    let keys = subst (λ zs. AreKeys zs c.renew-self.new.keys.items) there
    (c.renew-self.ensures.keys old.networks.items st.keys
    (subst (λ zs. AreOthersSame c.switch-switch.result.0 old.networks.items zs) (sym (there ∙ is))
    (subst (λ zs. AreOthersSame c.switch-switch.result.0 zs ns) lent others))
    (ap length (there ∙ is) ∙ size)) in
    came-next p so_far old new c.args.until st c.requires.clock refl (ap length is ∙ size) keys
    (c.renew-self.ensures.least st.least) b
    (subst (λ zs. BringsNext p zs c.bring_next.new.transit.items st.time st.ring so_far b) (sym is) brings)

-- no cable brought a frame: nothing has changed, and the first turn comes before all that they carry
pub turn_next-requires-clause-first : goal.turn_next-requires-clause-first
turn_next-requires-clause-first c =
    let s = c.requires.sound in
    let old = c.args.self.now in
    let ns = c.bring_next.new.networks in
    let lent = c.deref_mut.ensures.value in
    let is = with_items_is old.networks ns (c.bring_next.ensures.length ∙ ap length lent ∙ sym old.networks.ok.0) in
    let same = none-of c.in_ok-brought.field-0
    ((ns ≡ c.deref_mut.result.now) × (c.bring_next.new.transit.items ≡ old.transit.items))
    c.in_default.is c.in_ok-brought.ensures.same in
    let again = c.deref_mut-2.ensures.value ∙ is ∙ same.0 ∙ lent in
    let count = s.2.count in
    let few = s.2.few in
    subst (λ zs. IsFirstFrom 0 zs (Some c.first_of-first.result)) (sym again)
    (c.first_of-first.ensures.first old.networks.items old.keys.items (omega (arith, count, few))
    s.2.keys s.2.least)

pub turn_next-requires-clause-sound : goal.turn_next-requires-clause-sound
turn_next-requires-clause-sound c =
    let s = c.requires.sound in
    let p = s.0 in
    let so_far = s.1 in
    let st = s.2 in
    let old = c.args.self.now in
    let ns = c.bring_next.new.networks in
    let lent = c.deref_mut.ensures.value in
    let is = with_items_is old.networks ns (c.bring_next.ensures.length ∙ ap length lent ∙ sym old.networks.ok.0) in
    let same = none-of c.in_ok-brought.field-0
    ((ns ≡ c.deref_mut.result.now) × (c.bring_next.new.transit.items ≡ old.transit.items))
    c.in_default.is c.in_ok-brought.ensures.same in
    let early = none-of c.in_ok-brought.field-0 (IsEarly c.first_of-first.result.order st.time st.ring) c.in_default.is
    (c.in_ok-brought.ensures.early p st.time st.ring so_far
    (subst (λ zs. Keeps p zs st.time st.ring so_far) (sym lent) st.keeps) st.in_transit) in
    let again = c.deref_mut-2.ensures.value ∙ is ∙ same.0 ∙ lent in
    (p, st.time, st.ring, so_far, subst (λ zs. Keeps p zs st.time st.ring so_far) (sym again) st.keeps, early)

pub turn_next-requires-clause-few : goal.turn_next-requires-clause-few
turn_next-requires-clause-few c =
    let s = c.requires.sound in
    let count = s.2.count in
    let few = s.2.few in
    let old = c.args.self.now in
    let ns = c.bring_next.new.networks in
    let lent = c.deref_mut.ensures.value in
    let size = c.bring_next.ensures.length ∙ ap length lent in
    let is = with_items_is old.networks ns (size ∙ sym old.networks.ok.0) in
    let again = ap length (c.deref_mut-2.ensures.value ∙ is) ∙ size in
    omega (arith, count, few, again)

-- a turn is over
pub renew-self-requires-in-Some-2 : goal.renew-self-requires-in-Some-2
renew-self-requires-in-Some-2 c =
    let s = c.requires.sound in
    let count = s.2.count in
    let few = s.2.few in
    let old = c.args.self.now in
    let ns = c.bring_next.new.networks in
    let lent = c.deref_mut.ensures.value in
    let is = with_items_is old.networks ns (c.bring_next.ensures.length ∙ ap length lent ∙ sym old.networks.ok.0) in
    let again = ap length (c.deref_mut-2.ensures.value ∙ is) ∙ c.bring_next.ensures.length ∙ ap length lent in
    let ms = c.turn_next.new.networks in
    let size = c.turn_next.ensures.length ∙ again in
    let now_is = with_items_is (with_items old.networks ns) ms (size ∙ sym old.networks.ok.0) in
    let there = ap length (c.deref-in-Some-2.ensures.value ∙ now_is) ∙ size in
    let within = c.first_of-first.ensures.within old.networks.items old.keys.items (omega (arith, count, few))
    s.2.keys s.2.least in
    omega (arith, within, there)

pub returns-in-Some-2-clause-given : goal.returns-in-Some-2-clause-given
returns-in-Some-2-clause-given c p so_far st =
    let old = c.args.self.now in
    let ns = c.bring_next.new.networks in
    let f = c.first_of-first.result in
    let lent = c.deref_mut.ensures.value in
    let is = with_items_is old.networks ns (c.bring_next.ensures.length ∙ ap length lent ∙ sym old.networks.ok.0) in
    let same = none-of c.in_ok-brought.field-0
    ((ns ≡ c.deref_mut.result.now) × (c.bring_next.new.transit.items ≡ old.transit.items))
    c.in_default.is c.in_ok-brought.ensures.same in
    let early = none-of c.in_ok-brought.field-0 (IsEarly f.order st.time st.ring) c.in_default.is
    (c.in_ok-brought.ensures.early p st.time st.ring so_far
    (subst (λ zs. Keeps p zs st.time st.ring so_far) (sym lent) st.keeps) st.in_transit) in
    let again = c.deref_mut-2.ensures.value ∙ is ∙ same.0 ∙ lent in
    let ms = c.turn_next.new.networks in
    let new : Cascade = record {
      networks = with_items (with_items old.networks ns) ms;
      keys = c.renew-self-in-Some-2.new.keys;
      least = c.renew-self-in-Some-2.result;
      ends = old.ends;
      transit = c.turn_next.new.transit;
    } in
    let size = c.turn_next.ensures.length ∙ ap length again in
    let now_is = with_items_is (with_items old.networks ns) ms (size ∙ sym old.networks.ok.0) in
    let there = c.deref-in-Some-2.ensures.value in
    let turns = some-of c.in_ok-turned.field-0
    (TurnsNext p ms c.turn_next.new.transit.items c.args.until so_far f.switch.0)
    c.in-Some-2.turned c.in-Some-2.is
    (c.in_ok-turned.ensures.turns p st.time st.ring so_far
    (subst (λ zs. Keeps p zs st.time st.ring so_far) (sym again) st.keeps) early
    (subst (AreEnds p) (sym c.deref-2.ensures.value) st.ends)
    (subst (λ vs. AreInTransit p vs st.ring) (sym same.1) st.in_transit)) in
    let keys = subst (λ zs. AreKeys zs c.renew-self-in-Some-2.new.keys.items) there
    (c.renew-self-in-Some-2.ensures.keys old.networks.items st.keys
    (subst (λ zs. AreOthersSame f.switch.0 old.networks.items zs) (sym (there ∙ now_is))
    (subst (λ zs. AreOthersSame f.switch.0 zs ms) again c.turn_next.ensures.others))
    (ap length (there ∙ now_is) ∙ size)) in
    over-next p so_far old new c.args.until st c.requires.clock refl (ap length now_is ∙ size) keys
    (c.renew-self-in-Some-2.ensures.least st.least)
    f.switch.0 c.in-Some-2.turned
    (subst (λ zs. TurnsNext p zs c.turn_next.new.transit.items c.args.until so_far f.switch.0 c.in-Some-2.turned)
    (sym now_is) turns)

-- nothing comes next
pub returns-in-None-clause-none : goal.returns-in-None-clause-none
returns-in-None-clause-none c p so_far st =
    let old = c.args.self.now in
    let ns = c.bring_next.new.networks in
    let lent = c.deref_mut.ensures.value in
    let is = with_items_is old.networks ns (c.bring_next.ensures.length ∙ ap length lent ∙ sym old.networks.ok.0) in
    let same = none-of c.in_ok-brought.field-0
    ((ns ≡ c.deref_mut.result.now) × (c.bring_next.new.transit.items ≡ old.transit.items))
    c.in_default.is c.in_ok-brought.ensures.same in
    let early = none-of c.in_ok-brought.field-0 (IsEarly c.first_of-first.result.order st.time st.ring) c.in_default.is
    (c.in_ok-brought.ensures.early p st.time st.ring so_far
    (subst (λ zs. Keeps p zs st.time st.ring so_far) (sym lent) st.keeps) st.in_transit) in
    let again = c.deref_mut-2.ensures.value ∙ is ∙ same.0 ∙ lent in
    let keeps = subst (λ zs. Keeps p zs st.time st.ring so_far) (sym again) st.keeps in
    let ms = c.turn_next.new.networks in
    let new : Cascade = record {
      networks = with_items (with_items old.networks ns) ms;
      keys = old.keys;
      least = old.least;
      ends = old.ends;
      transit = c.turn_next.new.transit;
    } in
    let size = c.turn_next.ensures.length ∙ ap length again in
    let now_is = with_items_is (with_items old.networks ns) ms (size ∙ sym old.networks.ok.0) in
    let still = none-of c.in_ok-turned.field-0
    ((ms ≡ c.deref_mut-2.result.now) × (c.turn_next.new.transit.items ≡ c.bring_next.new.transit.items))
    c.in-None.is c.in_ok-turned.ensures.same in
    let unchanged : IsUnchanged old new = record {
      networks = now_is ∙ still.0 ∙ again;
      keys = refl;
      least = refl;
      ends = refl;
      transit = still.1 ∙ same.1;
    } in
    let quiet = none-of c.in_ok-turned.field-0
    ((k : ℕ) (n : Network) → slice_get ms k ≡ Some n → network.IsQuiet n c.args.until)
    c.in-None.is c.in_ok-turned.ensures.quiet in
    none-next p so_far old new c.args.until st c.requires.clock unchanged
    (λ soon. none-of c.in_ok-turned.field-0 (st.ring ≡ []) c.in-None.is
    (c.in_ok-turned.ensures.empty p st.time st.ring so_far keeps early soon))
    (λ k n at. quiet k n (subst (λ zs. slice_get zs k ≡ Some n) now_is at))
    (λ late. none-of c.in_ok-turned.field-0 (IsNothingDue p so_far) c.in-None.is
    (c.in_ok-turned.ensures.all_done p st.time st.ring so_far keeps early late))

-- memory is lacked
pub returns-in_err-brought-clause-judged : goal.returns-in_err-brought-clause-judged
returns-in_err-brought-clause-judged c p so_far st =
    on-err c.from_residual.result _
    (front-to-come p so_far c.args.self.now c.args.until st c.requires.clock
    (c.in_err-brought.ensures.judged p st.time st.ring so_far
    (subst (λ zs. Keeps p zs st.time st.ring so_far) (sym c.deref_mut.ensures.value) st.keeps) st.in_transit))

pub returns-in_err-turned-clause-judged : goal.returns-in_err-turned-clause-judged
returns-in_err-turned-clause-judged c p so_far st =
    let old = c.args.self.now in
    let ns = c.bring_next.new.networks in
    let f = c.first_of-first.result in
    let lent = c.deref_mut.ensures.value in
    let is = with_items_is old.networks ns (c.bring_next.ensures.length ∙ ap length lent ∙ sym old.networks.ok.0) in
    let same = none-of c.in_ok-brought.field-0
    ((ns ≡ c.deref_mut.result.now) × (c.bring_next.new.transit.items ≡ old.transit.items))
    c.in_default.is c.in_ok-brought.ensures.same in
    let early = none-of c.in_ok-brought.field-0 (IsEarly f.order st.time st.ring) c.in_default.is
    (c.in_ok-brought.ensures.early p st.time st.ring so_far
    (subst (λ zs. Keeps p zs st.time st.ring so_far) (sym lent) st.keeps) st.in_transit) in
    let again = c.deref_mut-2.ensures.value ∙ is ∙ same.0 ∙ lent in
    on-err c.from_residual-in_err-turned.result _
    (turn-to-come p so_far c.args.until f.switch.0
    (c.in_err-turned.ensures.judged p st.time st.ring so_far
    (subst (λ zs. Keeps p zs st.time st.ring so_far) (sym again) st.keeps) early))
