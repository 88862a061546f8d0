use Rattle.std.proofs.Common.{◌≡◌, [], List, false}
use Rattle.afdx_input_sources.specs.Engine.{CanTell, Item}
use Rattle.afdx_input_sources.proofs.engine.drive.Given as goal

abbrev pub invariant-loop-source : goal.invariant-loop-source
invariant-loop-source g l =
    (past : List (Item g.row.H.Denot))
    × (g.O.Sink.failed l.output ≡ false)
    × g.S.Source.Gave l.fn.input l.source l.input past
    × (g.S.Source.settings l.source ≡ g.S.Source.settings l.fn.source)
    × (g.O.Sink.settings l.output ≡ g.O.Sink.settings l.fn.output)
    × ((rules : g.M.Machine.Rules) →
    g.M.Machine.Told rules l.fn.machine (g.O.Sink.written l.fn.output) (g.O.Sink.written l.fn.output) [] →
    CanTell (g.S.Source.Gives (g.S.Source.settings l.fn.source)) (g.M.Machine.Can rules) →
    g.M.Machine.Told rules l.machine (g.O.Sink.written l.fn.output) (g.O.Sink.written l.output) past)

abbrev pub decreases-loop-source : goal.decreases-loop-source
decreases-loop-source g l = g.S.Source.left_of l.source
