use Rattle.std.proofs.Common.{◌≡◌, ℕ, Some, true, false, ap, get_or, sym, ◌∙◌, subst}
use Rattle.std.proofs.lemmas.Option.{slice_get-get_or}
use Rattle.afdx_law_bounds.specs.Tables.{port_of}
use Rattle.afdx_command_conform.specs.Counting.{HasCounted, both_counted, stream_counted}
use Rattle.afdx_command_conform.specs.Frames.{link_to, terms_at}
use Rattle.afdx_command_conform.specs.Keeping.{IsStreamOf, given_of}
use Rattle.afdx_command_conform.specs.Sight.{Sight}
use Rattle.afdx_command_conform.specs.Tapped.{is_judged}
use Rattle.afdx_command_conform.specs.declared.key.Key.{Key}
use Rattle.afdx_command_conform.proofs.CountingLemmas.{given-counted, has-none, unjudged-counted}
use Rattle.afdx_command_conform.proofs.KeyLemmas.{no-system}
use Rattle.afdx_command_conform.proofs.OutletLemmas.{goes-there}
use Rattle.afdx_command_conform.proofs.counting.count_at.Goals as goal

pub returns-then-is_judged-clause-counted : goal.returns-then-is_judged-clause-counted
returns-then-is_judged-clause-counted c c' until frames n l at to sight ended has =
    let t = c.args.tables.now in
    let side = c.args.outlet.side in
    let place = c.args.outlet.link in
    let s : ℕ = c.args.outlet.system.0 in
    let port : ℕ = port_of t s in
    let is = c.key_at.ensures.key in
    let here = slice_get-get_or t.systems s no-system c.requires.system in
    let goes : link_to t place port ≡ Some l =
    goes-there t place l s (get_or t.systems s no-system) c.key_at.ensures.lawful at here to in
    let judged : is_judged t c'.sight side l port ≡ true =
    ap (λ (p : Sight). is_judged t p side l port) (sym sight) ∙ sym (c.is_judged.ensures l at) ∙ c.if-is_judged.true in
    let key : Key = c.key_at.result in
    let e = ended key l (subst (λ q. IsStreamOf t q l) (sym is) goes) in
    subst (λ m. HasCounted m c.count.new.totals)
    (ap (λ (q : Key). both_counted n (stream_counted (terms_at t c' until l q.port) (given_of t c' frames q).came
    (given_of t c' frames q).left)) is
    ∙ ap (λ m. both_counted n m) (given-counted t c' until frames side place port l goes judged))
    (c.count.ensures.counted n (terms_at t c' until l key.port) (given_of t c' frames key).came
    (given_of t c' frames key).left e.1 e.0 e.2 has)

pub returns-else-is_judged-clause-counted : goal.returns-else-is_judged-clause-counted
returns-else-is_judged-clause-counted c c' until frames n l at to sight ended has =
    let t = c.args.tables.now in
    let side = c.args.outlet.side in
    let port : ℕ = port_of t c.args.outlet.system.0 in
    let judged : is_judged t c'.sight side l port ≡ false =
    ap (λ (p : Sight). is_judged t p side l port) (sym sight) ∙ sym (c.is_judged.ensures l at) ∙ c.if-is_judged.false in
    subst (λ m. HasCounted (both_counted n m) c.args.totals.now)
    (sym (unjudged-counted t c' until frames side port l judged)) (has-none n c.args.totals.now has)
