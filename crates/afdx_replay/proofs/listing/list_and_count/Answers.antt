use Rattle.std.proofs.Common.{refl, inl, inr, true}
use Rattle.afdx_replay.proofs.listing.list_and_count.Goals as goal

pub returns-in-Err-clause-calls : goal.returns-in-Err-clause-calls
returns-in-Err-clause-calls g c = c.starts.ensures.asked true c.args.input.now c.requires.new

pub returns-in-Err-clause-lists : goal.returns-in-Err-clause-lists
returns-in-Err-clause-lists g c = inr (
  rw c.without_counts.ensures.status c.in-Err.ensures.refused,
  c.without_counts.ensures.tally,
  (refl, refl),
)

pub returns-clause-lists : goal.returns-clause-lists
returns-clause-lists g c = inl (
  c.list_numbers-answer.result,
  record {
    status_is = c.end_listing.ensures.status;
    tally_is = c.end_listing.ensures.tally;
    told = rw c.in-Ok.ensures.silent at c.end_listing.ensures.told;
    silent = rw c.in-Ok.ensures.silent at c.end_listing.ensures.silent;
    ended = c.list_numbers-answer.ensures.ended;
    read = c.list_numbers-answer.ensures.read;
    write = c.list_numbers-answer.ensures.write;
  },
  record {
    described = c.in-Ok.described;
    read = c.in-Ok.ensures.read;
    so_is = record {
      placed = c.read_placed.new.options;
      are_placed = c.in-Ok.ensures.placed;
      so_is = c.list_numbers-answer.ensures.lists;
    };
  },
)
