-- Where a line says that something was.
use Rattle.std.specs.Prelude.{ℕ, List, [], ◌∷◌, ◌++◌, codes}
use Rattle.afdx_frame.specs.declared.link.Side.{Side}
use Rattle.afdx_frame.specs.declared.link.Side.TheVariants.{A, B}
use Rattle.afdx_text.specs.declared.site.Site.{Site}

abbrev pub side_text : Side → List ℕ
side_text A = codes "A"
side_text B = codes "B"

-- the side, and the switch's name where each side has several
abbrev pub place_text : Side → (name : List ℕ) → List ℕ
place_text side [] = side_text side
place_text side (c ∷ name) = side_text side ++ codes " " ++ c ∷ name

abbrev pub site_text : Site → List ℕ
site_text site = place_text site.side site.switch.now
