use Rattle.std.proofs.Common.{◌∙◌, None}
use Rattle.afdx_input_sources.proofs.TableLemmas.{entry-alone}
use Rattle.afdx_input_sources.proofs.senders.entries_of_one.Goals as goal

pub returns : goal.returns
returns c number =
    c.put_entries.ensures.entries (λ number. None) c.in_ok-entries.ensures.none number
    ∙ entry-alone c.args.tables.now number
