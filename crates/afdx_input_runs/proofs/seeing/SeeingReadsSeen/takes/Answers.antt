use Rattle.afdx_input_runs.proofs.SeeingLemmas.{frames-taken}
use Rattle.afdx_input_runs.proofs.seeing.SeeingReadsSeen.takes.Goals as goal

pub returns : goal.returns
returns g c start input source bytes e set =
    let way = g.S.Reads.way source.lines in
    frames-taken (g.S.Reads.whole way bytes) (g.S.Reads.AreCut way bytes input)
    (g.S.Source.Gave start source.lines input) (g.S.Source.Ended start source.lines input)
    (g.S.Source.Stopped start source.lines input) (g.S.Reads.counted source.lines)
    (c.takes.ensures start input source.lines bytes e set)
