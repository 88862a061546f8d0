-- All lines of the frames that came to the senders of a switch, whenever they are told. Lists have
-- the newest first.
use Rattle.std.specs.Prelude.{ℕ, zero, suc, Bool, Option, Some, None, List, [], ◌∷◌, ◌++◌, length, map}
use Rattle.std.specs.Prelude.{option_map}
use Rattle.afdx_frame.specs.declared.link.Side.TheVariants.{A, B}
use Rattle.afdx_lawful.specs.Courses.{told_at}
use Rattle.afdx_lawful.specs.Judged.{found_of, singles}
use Rattle.afdx_lawful.specs.Partners.{Waiting}
use Rattle.afdx_lawful.specs.Sources.{Came, Source}
use Rattle.afdx_police.specs.Arrival.{Arrival}
use Rattle.afdx_senders.specs.Lines.{FoundBy, Line, OfNone, lines_at, single_with, some_found}
use Rattle.afdx_senders.specs.Order.{is_moment_before}
use Rattle.afdx_senders.specs.Setups.{Setup, came_from, own_frames, source_at, whose}
use Rattle.afdx_senders.specs.Strays.{stray_of}
use Rattle.afdx_senders.specs.declared.sites.SourceOf.{SourceOf}
use Rattle.afdx_senders.specs.declared.sites.SourceOf.TheVariants.{Source as OfSourceAt}

-- ---- when a frame comes

-- what is found of it after these frames of its source, if that is judged
abbrev pub found_among : Option Source → List Came → Arrival → Option FoundBy
found_among None past x = None
found_among (Some s) past x = some_found (found_of s past (came_from x))

-- ---- once it waited in vain

-- its line, at the port of its link's system
abbrev pub single_of : Source → Waiting → Line
single_of s y = single_with s.rule.port y.frame.line y.frame.side (told_at s y)

-- those of a source's frames, if it is judged
abbrev pub singles_in : Option Source → List Came → List Line
singles_in None xs = []
singles_in (Some s) xs = map (single_of s) (singles s A xs ++ singles s B xs)

module _ (z : Setup) where
  -- what is found of a frame when it comes after all of these
  abbrev pub found_when : List Arrival → Arrival → SourceOf → Option FoundBy
  found_when past x (OfSourceAt place) =
      found_among (source_at z place) (own_frames z place past) x
  found_when past x other = option_map OfNone (stray_of other x.bytes)

  -- its line, if anything is
  unfoldable pub lines_when : List Arrival → Arrival → List Line
  lines_when past x = lines_at x (found_when past x (whose z x))

  -- the lines of frames as they came
  unfoldable pub lines_coming : List Arrival → List Line
  lines_coming [] = []
  lines_coming (x ∷ past) = lines_when past x ++ lines_coming past

  -- those of frames that waited in vain, of the links before a place
  unfoldable pub singles_below : List Arrival → ℕ → List Line
  singles_below xs zero = []
  singles_below xs (suc n) = singles_in (source_at z n) (own_frames z n xs) ++ singles_below xs n

  -- of all links
  abbrev pub all_singles : List Arrival → List Line
  all_singles xs = singles_below xs (length z.tables.links)

  -- all lines of these frames
  unfoldable pub all_lines : List Arrival → List Line
  all_lines xs = lines_coming xs ++ all_singles xs

-- its moment lies before that time, if there is one
abbrev pub is_early : Option ℕ → Line → Bool
is_early before x = is_moment_before before x.moment
