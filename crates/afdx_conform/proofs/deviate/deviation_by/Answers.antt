use Rattle.afdx_conform.proofs.deviate.deviation_by.Goals as goal

pub deviation-requires : goal.deviation-requires
deviation-requires c = c.places-places.ensures
