use Rattle.afdx_command_conform.proofs.AddedLemmas.{if-none, if-some}
use Rattle.afdx_command_conform.proofs.streams.Streams.take_before.Goals as goal

pub returns-clause-told : goal.returns-clause-told
returns-clause-told c t c' until time frames lines up stand =
    if-some (λ l k. record {
      lawful = stand.lawful;
      tables = stand.tables;
      by = stand.by;
      sight = stand.sight;
      kept =
          k;
    }) c.in_ok-taken.taken
    (c.in_ok-taken.ensures.told t c' until time _ lines stand.lawful up stand.kept)

pub returns-clause-none : goal.returns-clause-none
returns-clause-none c t c' until time frames lines stand =
    if-none (λ k. (
      record {
        lawful = stand.lawful;
        tables = stand.tables;
        by = stand.by;
        sight = stand.sight;
        kept =
            k.0;
      },
      k.1,
    ))
    c.in_ok-taken.taken
    (c.in_ok-taken.ensures.none t c' until time _ lines stand.kept)
