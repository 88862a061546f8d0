use Rattle.std.proofs.Common.{length, ap, ◌∙◌, arith, refl}
use Rattle.afdx_config.specs.ChangedSwitches.{changed_switch}
use Rattle.afdx_solve.specs.Raising.{begun_switch, begun_links, with_begun_buffer}
use Rattle.afdx_solve.proofs.StageLemmas.{changed_first, length-first, past-first}
use Rattle.afdx_solve.proofs.BeginLemmas.{switches-next, length-changed}
use Rattle.afdx_solve.proofs.beginning.begin.Goals as goal

pub loop-k-init : goal.loop-k-init
unfolding changed_first
loop-k-init c = refl

pub begin_rows-requires : goal.begin_rows-requires
begin_rows-requires c =
    omega (
      arith,
      c.id_count-count.ensures.count,
      ap length c.loop-k.invariant,
      length-first (begun_switch c.args.options) c.loop-k.k c.args.switches.now,
    )

pub begin_buffer-requires : goal.begin_buffer-requires
begin_buffer-requires c =
    omega (
      arith,
      c.id_count-count.ensures.count,
      ap length c.loop-k.invariant,
      length-first (begun_switch c.args.options) c.loop-k.k c.args.switches.now,
      ap length c.begin_rows.ensures,
      length-changed (begun_links c.args.options) c.loop-k.switches c.loop-k.k,
    )

pub loop-k-preserved : goal.loop-k-preserved
loop-k-preserved c =
    let o = c.args.options in
    let k = c.loop-k.k in
    c.begin_buffer.ensures ∙ ap (changed_switch k (with_begun_buffer o)) (c.begin_rows.ensures
    ∙ ap (changed_switch k (begun_links o)) c.loop-k.invariant)
    ∙ switches-next o c.args.switches.now k

pub returns-clause-begun : goal.returns-clause-begun
returns-clause-begun c =
    c.loop-k.invariant
    ∙ past-first (begun_switch c.args.options) c.loop-k.k c.args.switches.now
    (omega (arith, c.id_count-count.ensures.count))
