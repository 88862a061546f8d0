use Rattle.afdx_text.proofs.TextLemmas.{put_at_place}
use Rattle.afdx_text.proofs.piece.put_of_2.Goals as goal

pub returns-clause-text : goal.returns-clause-text
returns-clause-text c =
    put_at_place c.args.room.now c.args.bytes.now c.args.at c.args.size 2 c.requires.size c.requires.bytes
    c.requires.room
