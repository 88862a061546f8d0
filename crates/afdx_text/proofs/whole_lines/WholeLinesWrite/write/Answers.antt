use Rattle.afdx_text.proofs.WholeLineLemmas.{piece_handed}
use Rattle.afdx_text.proofs.whole_lines.WholeLinesWrite.write.Goals as goal

pub returns-clause-bytes : goal.returns-clause-bytes
returns-clause-bytes g c =
    piece_handed c.hand_over.result _ _ c.args.self.now.held.items c.args.piece.now
    c.hand_over.new.self.held.items c.append.new.held.items c.len-before.result
    c.len-before.ensures.value c.append.ensures c.hand_over.ensures.taken
    c.hand_over.ensures.none_left c.hand_over.ensures.kept
