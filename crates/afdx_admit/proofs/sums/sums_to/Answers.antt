use Rattle.std.proofs.Common.{◌≡◌, ◌≤◌, ◌+◌, take, length, List, sym, subst, ◌∙◌, arith, ℕ}
use Rattle.std.proofs.lemmas.List.{take_all}
use Rattle.afdx_config.specs.Rows.{link_row}
use Rattle.afdx_frame.specs.Flows.{Flow}
use Rattle.afdx_frame.proofs.ListLemmas.{AllByRecursion-slice_get, slice_get-within}
use Rattle.afdx_config.specs.Lawful.{IsSystem}
use Rattle.afdx_config.specs.Flows.{flow_of_link}
use Rattle.afdx_config.specs.Admission.{flows_to, byte_ns}
use Rattle.afdx_admit.specs.declared.sums.Sums.{Sums}
use Rattle.afdx_admit.specs.Lines.{LoadedOutput}
use Rattle.afdx_admit.specs.Sums.{IsByteTime, IsSums, IsSmall}
use Rattle.afdx_admit.proofs.PushedLemmas.{sums_push, small_push}
use Rattle.afdx_admit.proofs.SmallLemmas.{cap_small, is_rate, rate_small, smax_small}
use Rattle.afdx_admit.proofs.TakenLemmas.{with_flow_to, without_flow_to}
use Rattle.afdx_admit.proofs.sums.sums_to.Goals as goal
use Rattle.afdx_admit.proofs.sums.sums_to.Goals.{then-goes_to, else-goes_to}

wider : (few many : ℕ) (r : Sums) → few ≤ many → IsSmall few r → IsSmall many r
wider few many r h s =
    record {
      some = s.some;
      line = s.line;
      burst = omega (arith, s.burst, h);
      rate = omega (arith, s.rate, h);
      high_burst = s.high_burst;
      high_rate = s.high_rate;
      longest_low = s.longest_low;
    }

abbrev at : ℕ → List Flow → LoadedOutput
at b fs = record { byte_ns = b; flows = fs }

pub empty-sums-requires : goal.empty-sums-requires
empty-sums-requires c =
    let t = c.args.tables.now in
    let s = slice_get-within t.systems c.args.system.0 c.requires in
    let row = AllByRecursion-slice_get (IsSystem t.profile) t.systems c.args.system.0 s.0
    c.link_count-count.ensures.lawful.systems.each s.1 in
    let rate = is_rate t.profile s.0.rate row.rate in
    subst IsByteTime (sym (c.byte_ns-byte_ns.ensures.time s.0 s.1)) (record { some = rate.fast; whole = rate.whole })

pub with-sums-requires-clause-small : goal.with-sums-requires-clause-small
with-sums-requires-clause-small c =
    let few = c.link_count-count.ensures.lawful.links.count in
    wider c.loop-i.i 4095 c.loop-i.sums (omega arith) c.loop-i.invariant.small

pub loop-i-preserved : goal.loop-i-preserved
loop-i-preserved c =
    let b = c.byte_ns-byte_ns.result in
    let links = c.args.tables.now.links in
    let row = link_row c.link_at-link.result.now in
    let old = c.loop-i.sums in
    elim c.if-goes_to.branch [
      | then-goes_to w ↦
          let lawful = c.link_at-link.ensures.lawful in
          let more = with_flow_to links c.loop-i.i c.args.system.0 row c.link_at-link.ensures.row
          (sym c.goes_to.ensures ∙ w.if-goes_to.true) in
          let sums = sums_push (at b (flows_to (take c.loop-i.i links) c.args.system.0))
          (flow_of_link row) old w.with-sums.result c.loop-i.invariant.sums w.with-sums.ensures in
          rw w.sums-is (record {
            small = small_push c.loop-i.i (flow_of_link row) old w.with-sums.result
                c.loop-i.invariant.small w.with-sums.ensures
                (cap_small lawful.0 row lawful.1)
                (rate_small lawful.0 row lawful.1)
                (smax_small lawful.0 row lawful.1);
            sums = subst (λ fs. IsSums (at b fs) w.with-sums.result) (sym more) sums;
          })
      | else-goes_to w ↦
          let less = without_flow_to links c.loop-i.i c.args.system.0 row c.link_at-link.ensures.row
          (sym c.goes_to.ensures ∙ w.if-goes_to.false) in
          rw w.sums-is (record {
            small = wider c.loop-i.i (c.loop-i.i + 1) old (omega arith) c.loop-i.invariant.small;
            sums = subst (λ fs. IsSums (at b fs) old) (sym less) c.loop-i.invariant.sums;
          })
    ]

pub returns-clause-small : goal.returns-clause-small
returns-clause-small c =
    let few = c.link_count-count.ensures.lawful.links.count in
    wider c.loop-i.i 4096 c.loop-i.sums (omega arith) c.loop-i.invariant.small

pub returns-clause-sums : goal.returns-clause-sums
returns-clause-sums c =
    let links = c.args.tables.now.links in
    let s = slice_get-within c.args.tables.now.systems c.args.system.0 c.requires in
    let past : length links ≤ c.loop-i.i = omega arith in
    let all : take c.loop-i.i links ≡ links = take_all c.loop-i.i links past in
    let time : c.byte_ns-byte_ns.result ≡ byte_ns s.0 = c.byte_ns-byte_ns.ensures.time s.0 s.1 in
    record {
      row = s.0;
      stands = s.1;
      sums = subst (λ b. IsSums (at b (flows_to links c.args.system.0)) c.loop-i.sums) time
          (subst (λ ls. IsSums (at c.byte_ns-byte_ns.result (flows_to ls c.args.system.0))
          c.loop-i.sums) all c.loop-i.invariant.sums);
    }
