-- The frames among the lines of a source: the one that was given last.
use Rattle.afdx_input_sources.specs.Engine.{Item, item_of}
use Rattle.afdx_input_sources.specs.Becoming.{without_own}
use Rattle.afdx_input_sources.specs.declared.number_line.NumberLine.{NumberLine}
use Rattle.afdx_input_runs.specs.declared.seeing.Seeing.{Seeing}
use Rattle.afdx_input_runs.specs.declared.seen.Seen.{Seen}

abbrev pub frame_given : {S : Type 0} → (S → Item NumberLine) → Seeing S → Item Seen
frame_given current source =
    item_of (current source.lines).number source.head
    (without_own source.has_own (current source.lines).bytes)
