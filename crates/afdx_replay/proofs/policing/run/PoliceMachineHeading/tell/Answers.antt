use Rattle.std.proofs.Common.{rules, arith, ◌≡◌, ℕ, List, ap, inr, Err}
use Rattle.afdx_input_lines.specs.FrameLines.{listed_frame}
use Rattle.afdx_input_sources.specs.Items.{arrivals}
use Rattle.afdx_input_sources.specs.Listed.{arrival_at}
use Rattle.afdx_replay.specs.policing.Text.{verdict_line}
use Rattle.afdx_replay.proofs.ToldLemmas.{told-next, begun-next, counts_if, counts-one}
use Rattle.afdx_replay.proofs.policing.run.PoliceMachineHeading.tell.Goals as goal

pub returns-clause-told : goal.returns-clause-told
returns-clause-told g c rule start past h follows can =
    let counts = counts_if c.verdict-reason.result c.args.self.now.accepted c.args.self.now.dropped _ _
    c.is_none-is_accepted.result c.is_none-is_accepted.ensures c.count_if-self.ensures
    c.count_if-self-2.ensures in
    record {
      told = told-next _ _ _ _ _ _ _ _ _ _ (arrival_at c.args.n (listed_frame c.args.heading.now c.args.message.now))
          (arrivals past) _ _ h.told
          (c.verdict-reason.ensures.answer rule (arrivals past) c.args.n h.told.seen)
          (c.verdict-reason.ensures.seen rule (arrivals past) c.args.n h.told.seen)
          counts (ap (λ (place : List ℕ). verdict_line c.args.n place c.verdict-reason.result) c.on.ensures)
          c.in_ok-put.ensures.whole;
      until = c.verdict-reason.ensures.until;
      counted = omega (arith, counts-one _ _ _ _ _ counts, h.counted);
    }

pub returns-in_err-put-clause-begins : goal.returns-in_err-put-clause-begins
returns-in_err-put-clause-begins g c rule start past h =
    let begun = begun-next _ _ _ _ _ _ _ (arrival_at c.args.n (listed_frame c.args.heading.now c.args.message.now))
    (arrivals past) _ _ h.told
    (c.verdict-reason.ensures.answer rule (arrivals past) c.args.n h.told.seen)
    (ap (λ (place : List ℕ). verdict_line c.args.n place c.verdict-reason.result) c.on.ensures)
    c.in_err-put.ensures.front in
    let e : c.from_residual.result ≡ Err c.in_err-put.field-0.0 = search rules in
    rw e (inr begun)
