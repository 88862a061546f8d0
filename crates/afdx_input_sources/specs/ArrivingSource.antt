-- The arrivals among the lines of a source: the one that was given last, and what holds of each.
use Rattle.std.specs.Prelude.{◌≡◌, List, ◌∷◌}
use Rattle.afdx_input_lines.specs.declared.frame_line.Heading.{Heading}
use Rattle.afdx_input_sources.specs.Engine.{Item, item_of}
use Rattle.afdx_input_sources.specs.declared.arriving.Arriving.{Arriving}
use Rattle.afdx_input_sources.specs.declared.number_line.NumberLine.{NumberLine}
use Rattle.afdx_input_sources.specs.Becoming.{without_own}
use Rattle.afdx_input_sources.specs.NumberLines.{AreItems, Lines, arrivals_listed}

-- the arrival that stands
abbrev pub arrival_given : {S : Type 0} → (S → Item NumberLine) → Arriving S → Item Heading
arrival_given current source =
    item_of (current source.lines).number source.head
    (without_own source.has_own (current source.lines).bytes)

-- a source of lines that works by this gave this arrival, the newest of some
pub record IsGivenBy {S I W : Type 0} (settings : S → W) (gave : I → S → I → Lines → Type 0)
    (way : W) (x : Item Heading) : Type 0 where
  pub source : S
  pub start : I
  pub input : I
  pub past : List (Item Heading)
  pub works : settings source ≡ way
  pub given : AreItems arrivals_listed (gave start source input) (x ∷ past)
