use Rattle.std.proofs.Common.{rules, arith, ◌≡◌, ◌+◌, ◌-◌, ◌<◌, ◌∙◌, sym, ap, drop, map, List}
use Rattle.std.proofs.Math.Seq.{drop-length}
use Rattle.afdx_config.specs.Switches.{NamedRows}
use Rattle.afdx_input_sources.specs.Claims.{entry_from}
use Rattle.afdx_input_sources.proofs.TableLemmas.{entry-switch, no-entry}
use Rattle.afdx_input_sources.proofs.senders.put_all_entries.Goals as goal

pub loop-place-init : goal.loop-place-init
loop-place-init c =
    let all = c.id_count-place.ensures.count in (
      c.requires.room,
      omega (arith, all),
      λ number. c.requires.none number
          ∙ sym (ap (λ (rest : List NamedRows). entry_from c.id_count-place.result (map (λ s. s.rows) rest) number)
          (ap (λ n. drop n c.args.switches.now) all ∙ drop-length c.args.switches.now)
          ∙ no-entry c.id_count-place.result number),
    )

pub loop-place-preserved : goal.loop-place-preserved
loop-place-preserved c =
    let i = c.loop-place.invariant in
    let positive : 0 < c.loop-place.place = search rules in
    let next : c.loop-place.place ≡ (c.loop-place.place - 1) + 1 = omega (arith, positive) in (
      c.put_entries.ensures.room,
      omega (arith, i.1),
      λ number. c.put_entries.ensures.entries
          (λ number. entry_from c.loop-place.place
          (map (λ s. s.rows) (drop c.loop-place.place c.args.switches.now)) number) i.2 number
          ∙ entry-switch c.args.switches.now (c.loop-place.place - 1) c.loop-place.place _ number
          c.tables.ensures.tables next,
    )
