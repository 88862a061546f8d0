use Rattle.std.proofs.Common.{◌∙◌, refl, sym, ap, subst, length, arith}
use Rattle.std.specs.Vec.{with_items}
use Rattle.std.proofs.lemmas.List.{with_items_is}
use Rattle.afdx_frame.specs.Parts.{bytes_of}
use Rattle.afdx_police.specs.Arrival.{Arrival, arrival_with}
use Rattle.afdx_cascade.specs.Cascade.{line_at}
use Rattle.afdx_cascade.specs.Keys.{AreKeys, AreOthersSame}
use Rattle.afdx_cascade.specs.Standing.{Stands}
use Rattle.afdx_cascade.specs.declared.cascade.Cascade.{Cascade}
use Rattle.afdx_cascade.proofs.CascadeLemmas.{line-next}
use Rattle.afdx_cascade.proofs.TurningLemmas.{on-err}
use Rattle.afdx_cascade.proofs.cascade.Cascade.arrive.Goals as goal

pub renew-self-requires : goal.renew-self-requires
renew-self-requires c =
    let old = c.args.self.now in
    let ns = c.arrive_at.new.networks in
    let size = c.arrive_at.ensures.length ∙ ap length c.deref_mut.ensures.value in
    let there = c.deref.ensures.value ∙ with_items_is old.networks ns (size ∙ sym old.networks.ok.0) in
    let within = c.requires.within in
    let same = ap length there ∙ size in
    omega (arith, within, same)

pub returns-clause-next : goal.returns-clause-next
returns-clause-next c p so_far st free =
    let x : Arrival = arrival_with c.args.tag c.args.time c.args.side c.args.port (bytes_of c.args.frame) in
    let k = c.args.switch.0 in
    let old = c.args.self.now in
    let ns = c.arrive_at.new.networks in
    let new : Cascade = record {
      networks = with_items old.networks ns;
      keys = c.renew-self.new.keys;
      least = c.renew-self.result;
      ends = old.ends;
      transit = old.transit;
    } in
    let lent = c.deref_mut.ensures.value in
    let size = c.arrive_at.ensures.length ∙ ap length lent in
    let is = with_items_is old.networks ns (size ∙ sym old.networks.ok.0) in
    let there = c.deref.ensures.value ∙ is in
    let stands = subst (λ zs. Stands p zs st.time st.ring so_far) (sym lent) st.keeps.stands in
    let keys = subst (λ zs. AreKeys zs c.renew-self.new.keys.items) there
    (c.renew-self.ensures.keys old.networks.items st.keys
    (subst (λ zs. AreOthersSame k old.networks.items zs) (sym there)
    (subst (λ zs. AreOthersSame k zs ns) lent c.arrive_at.ensures.others))
    (ap length there ∙ size)) in
    line-next p so_far old new (line_at k x) st c.requires.quiet c.requires.clock free
    refl refl ns is size keys (c.renew-self.ensures.least st.least)
    c.arrive_at.ensures.clock c.arrive_at.ensures.still c.in_ok-verdict.verdict
    (c.in_ok-verdict.ensures.stands p st.time st.ring so_far stands free)
    (c.in_ok-verdict.ensures.verdict p st.time st.ring so_far stands)

pub returns-in_err-verdict-clause-judged : goal.returns-in_err-verdict-clause-judged
returns-in_err-verdict-clause-judged c p so_far st =
    on-err c.from_residual.result _
    (c.in_err-verdict.ensures.judged p st.time st.ring so_far
    (subst (λ zs. Stands p zs st.time st.ring so_far) (sym c.deref_mut.ensures.value) st.keeps.stands))
