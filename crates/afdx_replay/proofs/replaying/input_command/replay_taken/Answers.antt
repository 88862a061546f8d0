use Rattle.afdx_replay.proofs.replaying.input_command.replay_taken.Goals as goal

pub returns-in-OneAdmitted-clause-replays : goal.returns-in-OneAdmitted-clause-replays
returns-in-OneAdmitted-clause-replays g c =
    let h = rw c.tables.ensures.tables at c.replay_over.ensures.replays in
    rw c.in-OneAdmitted.is h

pub replay_sited-requires-clause-there : goal.replay_sited-requires-clause-there
replay_sited-requires-clause-there g c =
    let there = rw c.in-SeveralAdmitted.is at c.requires.there in
    rw c.switches.ensures.switches there
