-- Pieces of the lines of `conform`.
use Rattle.std.specs.Prelude.{ℕ, List, ◌++◌, codes}
use Rattle.std.specs.Fmt.{decimal}
use Rattle.afdx_frame.specs.declared.link.Side.{Side}
use Rattle.afdx_text.specs.Places.{side_text}

-- what is found of line n of a list, at a port of a side: how each such line begins
abbrev pub found_text : List ℕ → ℕ → Side → ℕ → List ℕ
found_text finding n side port =
    finding ++ decimal n ++ codes " " ++ side_text side ++ codes " " ++ decimal port

abbrev pub count_text : List ℕ → ℕ → List ℕ
count_text name count = name ++ decimal count
