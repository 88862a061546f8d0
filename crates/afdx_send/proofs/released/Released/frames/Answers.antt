use Rattle.afdx_send.proofs.released.Released.frames.Goals as goal

pub returns-clause-computed : goal.returns-clause-computed
returns-clause-computed c = rw (← c.self.view_is, ← c.as_slice.ensures.value) c.build_both_in.ensures.computed

pub returns-clause-built : goal.returns-clause-built
returns-clause-built c = rw (← c.self.view_is, ← c.as_slice.ensures.value) c.build_both_in.ensures.built
