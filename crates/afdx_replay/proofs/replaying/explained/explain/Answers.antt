use Rattle.std.proofs.Common.{◌∙◌, ◌∷◌, [], List, None, Some, refl, sym, subst}
use Rattle.afdx_input_lines.specs.FrameLines.{listed_frame}
use Rattle.afdx_police.specs.Arrival.{Arrival}
use Rattle.afdx_police.specs.Verdicts.{is_over_rate}
use Rattle.afdx_input_sources.specs.Listed.{arrival_at}
use Rattle.afdx_switch.specs.Early.{IsEarlyBy}
use Rattle.afdx_switch.specs.Verdicts.{reason_of}
use Rattle.afdx_replay.specs.Early.{IsLineOn, early_line}
use Rattle.afdx_replay.specs.replaying.Early.{AreEarlyLines, HearsEarly}
use Rattle.afdx_replay.proofs.EarlyLemmas.{early-on, hears-more, hears-nobody, hears-same, line-on}
use Rattle.afdx_replay.proofs.replaying.explained.explain.Goals as goal

pub returns-then-is_over_rate : goal.returns-then-is_over_rate
returns-then-is_over_rate g c t events start past stands is reason h =
    let x = arrival_at c.args.n (listed_frame c.args.heading.now c.args.message.now) in
    let early = rw c.frame-frame.ensures at (c.early-wait.ensures t events c.args.n stands) in
    hears-more g.D.Write.contents (AreEarlyLines t past)
    (IsLineOn t past x None (is_over_rate (reason_of t past x))) start c.in-Some.drops c.tell_early.new.drops
    (early_line x.tag None c.early-wait.result)
    (early-on t past x c.args.reason reason None c.early-wait.result (sym c.if-is_over_rate.ensures)
    (λ sound. subst (λ (past : List Arrival). IsEarlyBy t past x c.early-wait.result) is (early sound)))
    c.tell_early.ensures
    (subst (λ e. HearsEarly g.D.Write.contents t start e past) c.in-Some.is h)

pub returns-else-is_over_rate : goal.returns-else-is_over_rate
returns-else-is_over_rate g c t events start past stands is reason h =
    let x = arrival_at c.args.n (listed_frame c.args.heading.now c.args.message.now) in
    hears-same g.D.Write.contents (AreEarlyLines t past)
    (IsLineOn t past x None (is_over_rate (reason_of t past x))) start (Some c.in-Some.drops)
    (line-on t past x c.args.reason reason None _ [] (sym c.is_over_rate.ensures ∙ c.if-is_over_rate.false) refl)
    (subst (λ e. HearsEarly g.D.Write.contents t start e past) c.in-Some.is h)

pub returns-in-None : goal.returns-in-None
returns-in-None g c t events start past stands is reason h =
    let x = arrival_at c.args.n (listed_frame c.args.heading.now c.args.message.now) in
    hears-nobody g.D.Write.contents (AreEarlyLines t past) (AreEarlyLines t (x ∷ past)) start c.args.early.now
    (λ drops some. cc (some, c.in-None.is)) h
