use Rattle.std.proofs.Common.{refl, inl, inr}
use Rattle.afdx_command_tables.specs.Taking.{described_of}
use Rattle.afdx_replay.specs.cascading.Input.{AreThere}
use Rattle.afdx_replay.proofs.PlacedLemmas.{are-there}
use Rattle.afdx_replay.proofs.ReplaysLemmas.{ends-in}
use Rattle.afdx_replay.proofs.replaying.input_command.replay_input.Goals as goal

-- the configuration has a fault, or not a place of the options
pub returns-in-Err-clause-calls : goal.returns-in-Err-clause-calls
returns-in-Err-clause-calls g c =
    c.starts.ensures.asked (g.P.Placing.is_settled c.args.settings.options) c.args.input.now c.requires.new

pub returns-in-Err-clause-replays : goal.returns-in-Err-clause-replays
returns-in-Err-clause-replays g c = inr (
  inl (rw c.without_counts.ensures.status c.in-Err.ensures.refused),
  c.without_counts.ensures.tally,
  refl,
  (refl, refl),
)

-- or what it describes is not admitted
pub returns-in-Err-take_described-clause-calls : goal.returns-in-Err-take_described-clause-calls
returns-in-Err-take_described-clause-calls g c =
    c.starts.ensures.asked (g.P.Placing.is_settled c.args.settings.options) c.args.input.now c.requires.new

pub returns-in-Err-take_described-clause-replays : goal.returns-in-Err-take_described-clause-replays
returns-in-Err-take_described-clause-replays g c =
    let denied = rw c.in-Ok.ensures.silent at c.in-Err-take_described.ensures.denied in inr (
      inr (
        denied.0,
        record {
          described = c.in-Ok.described;
          read = c.in-Ok.ensures.read;
          placed = c.read_placed.new.options;
          are_placed = c.in-Ok.ensures.placed;
          denied = rw c.without_counts-in-Err-take_described.ensures.status denied.1;
        },
      ),
      c.without_counts-in-Err-take_described.ensures.tally,
      refl,
      (refl, refl),
    )

pub replay_taken-answer-requires-clause-there : goal.replay_taken-answer-requires-clause-there
replay_taken-answer-requires-clause-there g c =
    let placed = c.read_placed.new.options in
    are-there (λ ss options. AreThere ss g.P.Placing.Enters options) placed
    (λ d. g.P.Placing.ArePlaced d c.args.settings.options placed)
    c.in-Ok.described (described_of c.in-Ok-take_described.taken) c.in-Ok-take_described.ensures.same
    c.in-Ok.ensures.read.lawful (λ ss are is. c.places.ensures.there ss c.args.settings.options placed are is)
    c.in-Ok.ensures.placed

pub returns-clause-calls : goal.returns-clause-calls
returns-clause-calls g c =
    let settled = c.places.ensures.settled c.in-Ok.described c.args.settings.options c.read_placed.new.options
    c.in-Ok.ensures.placed in
    rw settled at c.replay_taken-answer.ensures.calls

pub returns-clause-replays : goal.returns-clause-replays
returns-clause-replays g c = inl (
  c.replay_taken-answer.result.0,
  ends-in g.E.Write.contents (g.A.Input.ended c.replay_taken-answer.new.input)
      (g.A.Input.failed c.replay_taken-answer.new.input) (g.O.Sink.failed c.replay_taken-answer.new.output)
      c.args.errors.now c.end_input.new.errors c.end_input.result c.replay_taken-answer.result.0
      c.end_input.ensures.status c.end_input.ensures.summary c.end_input.ensures.tally
      (rw (c.in-Ok-take_described.ensures.silent, c.in-Ok.ensures.silent) at c.end_input.ensures.told)
      (rw (c.in-Ok-take_described.ensures.silent, c.in-Ok.ensures.silent) at c.end_input.ensures.silent)
      c.replay_taken-answer.ensures.ended c.replay_taken-answer.ensures.read c.replay_taken-answer.ensures.write,
  record {
    described = c.in-Ok.described;
    read = c.in-Ok.ensures.read;
    admitted = c.in-Ok-take_described.ensures.admitted;
    so_is = record {
      placed = c.read_placed.new.options;
      are_placed = c.in-Ok.ensures.placed;
      so_is = rw c.in-Ok-take_described.ensures.same at c.replay_taken-answer.ensures.replays;
    };
  },
)
