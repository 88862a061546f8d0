use Rattle.afdx_receive.proofs.AnswerLemmas.{Known, right_computed, computed_right}
use Rattle.afdx_receive.proofs.laws.answer_is_computed.Goals as goal

pub returns : goal.returns
returns c tables system past x answer are-bytes =
    let known : Known = record {
      frames = c.frame_is_computed.ensures;
      datagrams = c.datagram_is_computed.ensures;
      readings = c.reading_is_computed.ensures;
    } in (
      right_computed known tables system past x answer are-bytes,
      computed_right known tables system past x answer are-bytes,
    )
