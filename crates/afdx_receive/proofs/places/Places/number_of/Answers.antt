use Rattle.afdx_receive.proofs.PlacesLemmas.{read_at}
use Rattle.afdx_receive.proofs.places.Places.number_of.Goals as goal

pub returns : goal.returns
returns c = rw (← c.self.view_is) (read_at c.self.inside.pages.items c.deref.result.now c.args.page c.get.result
    c.copied.result c.flatten.result c.deref.ensures.value c.get.ensures.lookup c.copied.ensures c.flatten.ensures)
