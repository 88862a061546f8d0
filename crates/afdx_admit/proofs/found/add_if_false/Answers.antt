use Rattle.std.proofs.Common.{[], ◌∷◌, ◌++◌, sym, ap, subst, ◌∙◌}
use Rattle.afdx_frame.specs.Lines.{line}
use Rattle.afdx_frame.proofs.FalseLinesLemmas.{false_lines-holds, none_added}
use Rattle.afdx_admit.specs.Walk.{Walks}
use Rattle.afdx_admit.proofs.WalkLemmas.{walks_failing}
use Rattle.afdx_admit.proofs.found.add_if_false.Goals as goal

pub returns-then-holds : goal.returns-then-holds
returns-then-holds g c =
    let old = g.C.Found.items c.args.found.now in
    none_added old
    ∙ ap (λ fs. old ++ fs) (sym (false_lines-holds (line c.args.holds c.args.fault) [] (cc c.if-holds.true)))

pub returns : goal.returns
returns g c =
    subst (λ b. Walks g.C.Found.Stops (g.C.Found.items c.args.found.now) (g.C.Found.items c.add.new.self)
    (line b c.args.fault ∷ []) c.add.result) (sym (cc c.if-holds.false))
    (walks_failing g.C.Found.Stops (g.C.Found.items c.args.found.now) (g.C.Found.items c.add.new.self) c.args.fault
    c.add.result c.add.ensures.added c.add.ensures.stopped)
