-- The two networks told apart.
use Rattle.std.proofs.Common.{◌≡◌, true, refl}
use Rattle.afdx_frame.specs.declared.link.Side.{Side}
use Rattle.afdx_frame.specs.declared.link.Side.TheVariants.{A, B}
use Rattle.afdx_frame.specs.Sides.{is_side}

pub is_side-same : (a b : Side) → is_side a b ≡ true → a ≡ b
is_side-same A A h = refl
is_side-same A B h = absurd (cc h)
is_side-same B A h = absurd (cc h)
is_side-same B B h = refl
