use Rattle.std.proofs.Common.{rules}
use Rattle.afdx_input_sources.specs.Places.{place_of}
use Rattle.afdx_input_sources.proofs.TableLemmas.{place-set}
use Rattle.afdx_input_sources.proofs.places.Interfaces.put.Goals as goal

pub returns-clause-place : goal.returns-clause-place
unfolding place_of
returns-clause-place c k =
    rw (c.from.ensures) (place-set c.args.self.now.places.items c.args.interface k c.args.place (search rules))
