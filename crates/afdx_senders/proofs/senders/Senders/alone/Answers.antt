use Rattle.std.proofs.Common.{◌≡◌, ℕ, ◌+◌, Bool, arith, length, sym, ◌∙◌, ap}
use Rattle.std.specs.Prelude.{if◌then◌else◌}
use Rattle.afdx_config.specs.Rows.{Rows}
use Rattle.afdx_senders.specs.SenderCounts.{alone_up_to}
use Rattle.afdx_senders.proofs.CountingLemmas.{as_before, one_at_most}
use Rattle.afdx_senders.proofs.CountsLemmas.{alone_next, no_alone}
use Rattle.afdx_senders.proofs.senders.Senders.alone.Goals.{else-is_alone, then-is_alone}
use Rattle.afdx_senders.proofs.senders.Senders.alone.Goals as goal

pub loop-place-init : goal.loop-place-init
loop-place-init c = record { few = omega arith; sum = λ z before xs told h. no_alone z }

pub loop-place-preserved : goal.loop-place-preserved
loop-place-preserved c =
    let n : ℕ = c.loop-place.count in
    let place : ℕ = c.loop-place.place in
    let added : c.if-is_alone.count ≡ n + (if c.is_alone.result then 1 else 0) = elim c.if-is_alone.branch [
      | then-is_alone w ↦ w.count-is ∙ ap (λ (b : Bool). n + (if b then 1 else 0)) (sym w.if-is_alone.true)
      | else-is_alone w ↦ w.count-is ∙ as_before n c.is_alone.result w.if-is_alone.false
    ] in record {
      few = one_at_most n place c.if-is_alone.count c.is_alone.result added c.loop-place.invariant.few;
      sum = λ z before xs told h.
          added
          ∙ alone_next z place n c.is_alone.result (c.loop-place.invariant.sum z before xs told h)
          (c.is_alone.ensures z before xs told h);
    }

pub returns : goal.returns
returns c z before xs told h =
    let all : c.loop-place.place ≡ length c.args.self.now.sites.tables.now.links = omega (
      arith,
      c.loop-place-test.false,
      c.loop-place.auto.place-end,
      c.link_count-place-end.ensures.count,
    ) in
    c.loop-place.invariant.sum z before xs told h ∙ ap (alone_up_to z) all
    ∙ ap (λ (t : Rows). alone_up_to z (length t.links)) h.setup.tables
