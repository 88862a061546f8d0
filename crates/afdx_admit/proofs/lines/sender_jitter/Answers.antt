use Rattle.std.proofs.Common.{◌≡◌, ◌≤◌, ◌+◌, ◌*◌, ℕ, Bool, nat_eq, take, length, sym, ap, ◌∙◌, arith}
use Rattle.std.specs.List.{sum_by}
use Rattle.std.specs.Option.{option_map_or}
use Rattle.std.proofs.lemmas.List.{take_all}
use Rattle.std.proofs.lemmas.List.Sums.{sum_by_push}
use Rattle.afdx_frame.proofs.ListLemmas.{slice_get-within}
use Rattle.afdx_config.specs.Rows.{LinkRow, SystemRow, link_row}
use Rattle.afdx_config.specs.Flows.{regulation_of_link}
use Rattle.afdx_config.specs.Admission.{byte_ns, links_from, sender_jitter}
use Rattle.afdx_admit.specs.Lines.{jitter_at}
use Rattle.afdx_admit.proofs.SmallLemmas.{frame_small}
use Rattle.afdx_admit.proofs.TakenLemmas.{with_row, without_row}
use Rattle.afdx_admit.proofs.lines.sender_jitter.Goals as goal
use Rattle.afdx_admit.proofs.lines.sender_jitter.Goals.{then-eq, else-eq}

pub overflow_add-sum : goal.overflow_add-sum
overflow_add-sum c =
    let few = c.link_count-count.ensures.lawful.links.count in
    let frame = frame_small c.wire_size.result c.byte_ns-byte_ns.result c.wire_size.ensures.small
    c.byte_ns-byte_ns.ensures.small in
    omega (arith, few, frame, c.loop-i.invariant.small)

pub loop-i-preserved : goal.loop-i-preserved
loop-i-preserved c =
    let links = c.args.tables.now.links in
    let i = c.loop-i.i in
    let b = c.byte_ns-byte_ns.result in
    let row = link_row c.link_at-link.result.now in
    let own : LinkRow → Bool = λ l. nat_eq l.from c.args.id.0 in
    let weight : LinkRow → ℕ = λ l. (regulation_of_link l).smax * b in
    elim c.if-eq.branch [
      | then-eq w ↦
          let more = with_row own links i row c.link_at-link.ensures.row (sym c.eq.ensures ∙ w.if-eq.true) in
          let sums : sum_by weight (links_from (take (i + 1) links) c.args.id.0)
          ≡ sum_by weight (links_from (take i links) c.args.id.0) + weight row =
          ap (sum_by weight) more ∙ sum_by_push weight (links_from (take i links) c.args.id.0) row in
          let frame : w.wire_size.result * b ≡ weight row = ap (λ n. n * b) w.wire_size.ensures.size in
          let small = frame_small w.wire_size.result b w.wire_size.ensures.small c.byte_ns-byte_ns.ensures.small in
          record {
            sum = omega (arith, w.sum-is, sums, frame, c.loop-i.invariant.sum);
            small = omega (arith, w.sum-is, small, c.loop-i.invariant.small);
          }
      | else-eq w ↦
          let less = without_row own links i row c.link_at-link.ensures.row (sym c.eq.ensures ∙ w.if-eq.false) in
          record {
            sum = w.sum-is ∙ c.loop-i.invariant.sum ∙ ap (sender_jitter b) (sym less);
            small = omega (arith, w.sum-is, c.loop-i.invariant.small);
          }
    ]

pub returns : goal.returns
unfolding jitter_at
returns c =
    let links = c.args.tables.now.links in
    let s = slice_get-within c.args.tables.now.systems c.args.id.0 c.requires in
    let past : length links ≤ c.loop-i.i = omega arith in
    c.loop-i.invariant.sum
    ∙ ap (λ ls. sender_jitter c.byte_ns-byte_ns.result (links_from ls c.args.id.0)) (take_all c.loop-i.i links past)
    ∙ ap (λ b. sender_jitter b (links_from links c.args.id.0)) (c.byte_ns-byte_ns.ensures.time s.0 s.1)
    ∙ sym (ap (λ o. option_map_or
    (λ (r : SystemRow). sender_jitter (byte_ns r) (links_from links c.args.id.0)) o 0) s.1)
