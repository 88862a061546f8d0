use Rattle.std.proofs.Common.{arith, ◌≡◌, ◌+◌, ◌∙◌, [], true, false, ap, refl, sym, subst, length}
use Rattle.std.specs.Io.KnownBytes.{Appends}
use Rattle.std.proofs.KnownBytes.{Appends-nil}
use Rattle.afdx_network.specs.Network.{ports_in}
use Rattle.afdx_switch.specs.Ports.{holds}
use Rattle.afdx_text.specs.OutLines.{site_text}
use Rattle.afdx_replay.specs.replaying.Text.{loss_lines}
use Rattle.afdx_text.proofs.OutputLemmas.{on-err}
use Rattle.afdx_replay.proofs.LossLemmas.{all-below, lines-more, lines-front, count-more, none-in}
use Rattle.afdx_replay.proofs.replaying.lines.put_losses.Goals as goal
use Rattle.afdx_replay.proofs.replaying.lines.put_losses.Goals.{then-holds+in_ok-put, else-holds}

pub returns-then-is_empty-clause-lines : goal.returns-then-is_empty-clause-lines
returns-then-is_empty-clause-lines g c =
    let none : ports_in c.args.lost.now ≡ [] = none-in c.args.lost.now (c.is_empty.ensures.none.0 c.if-is_empty.true) in
    rw none (Appends-nil (g.O.Sink.written c.args.output.now))

pub returns-then-is_empty-clause-count : goal.returns-then-is_empty-clause-count
returns-then-is_empty-clause-count g c =
    let none : ports_in c.args.lost.now ≡ [] = none-in c.args.lost.now (c.is_empty.ensures.none.0 c.if-is_empty.true) in
    rw none refl

pub loop-place-init : goal.loop-place-init
loop-place-init g c = record {
  sound = c.requires.sound;
  settings = refl;
  lines = Appends-nil _;
  count = refl;
  few = omega arith;
}

pub loop-place-preserved : goal.loop-place-preserved
loop-place-preserved g c =
    let inv = c.loop-place.invariant in
    let few = inv.few in
    elim c.if-holds.branch [
      | then-holds+in_ok-put w ↦
          let is = sym w.if-holds.true ∙ c.holds.ensures.held in
          rw (w.output-is, w.count-is) (record {
            sound = w.in_ok-put.ensures.sink.failed;
            settings = w.put.ensures.sink.settings ∙ inv.settings;
            lines = lines-more c.args.n (site_text c.args.site) (holds c.args.lost.now) c.loop-place.place true
                _ _ _ c.loop-place-test.true is inv.lines w.in_ok-put.ensures.whole;
            count = count-more (holds c.args.lost.now) c.loop-place.place true c.loop-place.count 1 _
                c.loop-place-test.true is inv.count refl refl;
            few = omega (arith, few);
          })
      | else-holds w ↦
          let is = sym w.if-holds.false ∙ c.holds.ensures.held in
          let same : c.loop-place.count ≡ c.loop-place.count + 0 = omega arith in
          rw (w.output-is, w.count-is) (record {
            sound = inv.sound;
            settings = inv.settings;
            lines = lines-more c.args.n (site_text c.args.site) (holds c.args.lost.now) c.loop-place.place false
                _ _ _ c.loop-place-test.true is inv.lines (Appends-nil _);
            count = count-more (holds c.args.lost.now) c.loop-place.place false c.loop-place.count 0 _
                c.loop-place-test.true is inv.count refl same;
            few = omega (arith, few);
          })
    ]

pub returns-in_err-put-clause-front : goal.returns-in_err-put-clause-front
returns-in_err-put-clause-front g c =
    on-err c.from_residual.result _
    (lines-front c.args.n (site_text c.args.site) c.args.lost.now c.loop-place.place true
    _ _ _ c.loop-place-test.true (sym c.if-holds.true ∙ c.holds.ensures.held)
    c.loop-place.invariant.lines c.in_err-put.ensures.front)

pub returns-clause-lines : goal.returns-clause-lines
returns-clause-lines g c =
    let end : c.loop-place.place ≡ 24 = omega arith in
    subst (λ xs. Appends (g.O.Sink.written c.args.output.now) (g.O.Sink.written c.loop-place.output)
    (loss_lines c.args.n (site_text c.args.site) xs)) (all-below c.args.lost.now c.loop-place.place end)
    c.loop-place.invariant.lines

pub returns-clause-count : goal.returns-clause-count
returns-clause-count g c =
    let end : c.loop-place.place ≡ 24 = omega arith in
    c.loop-place.invariant.count ∙ ap (λ xs. length xs) (all-below c.args.lost.now c.loop-place.place end)
