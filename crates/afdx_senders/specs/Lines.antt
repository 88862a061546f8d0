-- What is found of frames, as lines with their moments.
use Rattle.std.specs.Prelude.{◌≡◌, ℕ, Bool, if◌then◌else◌, Option, Some, None, option_map, option_to_list}
use Rattle.std.specs.Prelude.{List, [], ◌∷◌, ◌++◌, map}
use Rattle.std.specs.List.Sorted.{IsPermutation}
use Rattle.afdx_frame.specs.Parts.{bytes_of}
use Rattle.afdx_frame.specs.declared.link.Side.{Side}
use Rattle.afdx_lawful.specs.Judged.{found_of, is_cut_of}
use Rattle.afdx_lawful.specs.Courses.{told_at}
use Rattle.afdx_lawful.specs.Partners.{Waiting}
use Rattle.afdx_lawful.specs.OneSide.{told_heard}
use Rattle.afdx_lawful.specs.declared.finding.SenderFinding.{SenderFinding}
use Rattle.afdx_lawful.specs.declared.finding.SenderFinding.TheVariants as finding
use Rattle.afdx_police.specs.Arrival.{Arrival}
use Rattle.afdx_senders.specs.Followed.{ByPlace, Followed, MayCome, came_next, came_of, put_at}
use Rattle.afdx_senders.specs.Sites.{came_at}
use Rattle.afdx_senders.specs.Strays.{stray_of}
use Rattle.afdx_senders.specs.declared.sender_line.SenderLine.{SenderLine}
use Rattle.afdx_senders.specs.declared.sender_line.ToldOf.{ToldOf}
use Rattle.afdx_senders.specs.declared.sender_line.ToldOf.TheVariants.{Heard, Single, Strayed}
use Rattle.afdx_senders.specs.declared.site_frame.SiteFrame.{SiteFrame}
use Rattle.afdx_senders.specs.declared.sites.SourceOf.{SourceOf}
use Rattle.afdx_senders.specs.declared.sites.SourceOf.TheVariants.{Source}
use Rattle.afdx_senders.specs.declared.stray.Stray.{Stray}

-- what is found of a frame: by its source, or why it is of none
pub data FoundBy : Type 0 where
  OfSource : List SenderFinding → FoundBy
  OfNone : Stray → FoundBy

-- what is found of the frame of a line, which came at this port of a side, at its moment
pub record Line : Type 0 where
  pub moment : ℕ
  pub side : Side
  pub port : ℕ
  pub line : ℕ
  pub found : FoundBy

-- as the code holds it
abbrev pub found_in : ℕ → ToldOf → FoundBy
found_in line (Heard heard) = OfSource (told_heard line heard)
found_in line Single = OfSource (finding.Single line ∷ [])
found_in line (Strayed stray) = OfNone stray

abbrev pub line_of : SenderLine → Line
line_of y = record {
  moment = y.moment;
  side = y.side;
  port = y.port;
  line = y.line;
  found = found_in y.line y.told;
}

abbrev pub told_line : SiteFrame → ToldOf → SenderLine
told_line x told =
    record { moment = x.time; side = x.side; port = x.port; line = x.line; told = told }

-- the line of a frame that came
abbrev pub line_at : Arrival → FoundBy → Line
line_at x found =
    record { moment = x.time; side = x.side; port = x.port; line = x.tag; found = found }

abbrev pub lines_at : Arrival → Option FoundBy → List Line
lines_at x found = option_to_list (option_map (line_at x) found)

-- nothing is told where nothing is found
abbrev pub some_found : List SenderFinding → Option FoundBy
some_found [] = None
some_found (f ∷ more) = Some (OfSource (f ∷ more))

abbrev pub found_at : SiteFrame → Option Followed → Option FoundBy
found_at x None = None
found_at x (Some f) = some_found (found_of f.source f.course.came (came_of x))

-- what is found of a frame when it comes, by whose it is
abbrev pub found_by : ByPlace → SiteFrame → SourceOf → Option FoundBy
found_by at x (Source place) = found_at x (at place)
found_by at x whose = option_map OfNone (stray_of whose (bytes_of x.frame))

abbrev pub lines_found : SiteFrame → Option FoundBy → List Line
lines_found x found = lines_at (came_at x) found

-- the lines of a frame that is of no source
abbrev pub lines_strayed : SiteFrame → SourceOf → List Line
lines_strayed x whose = lines_found x (option_map OfNone (stray_of whose (bytes_of x.frame)))

-- what came of all sources once it came
abbrev pub came_there : ByPlace → SiteFrame → ℕ → Option Followed → ByPlace
came_there at x place None = at
came_there at x place (Some f) = put_at place (came_next f x) at

abbrev pub after_came : ByPlace → SiteFrame → SourceOf → ByPlace
after_came at x (Source place) = came_there at x place (at place)
after_came at x whose = at

-- it may come to its source, if it has one
abbrev pub MayComeThere : SiteFrame → Option Followed → Type 0
MayComeThere x None = Unit {0}
MayComeThere x (Some f) = MayCome f x.time

abbrev pub MayComeTo : ByPlace → SiteFrame → SourceOf → Type 0
MayComeTo at x (Source place) = MayComeThere x (at place)
MayComeTo at x whose = Unit {0}

-- that of a frame which waited in vain, where its source's system stands at this port
abbrev pub single_with : (port line : ℕ) → Side → (moment : ℕ) → Line
single_with port line side moment = record {
  moment = moment;
  side = side;
  port = port;
  line = line;
  found = OfSource (finding.Single line ∷ []);
}

-- none, if its copy may be cut off
abbrev pub single_line : (port line : ℕ) → Side → (moment : ℕ) → (is_cut : Bool) → List Line
single_line port line side moment is_cut =
    if is_cut then [] else single_with port line side moment ∷ []

abbrev pub lines_single : (port : ℕ) → Followed → Waiting → List Line
lines_single port f y = single_line port y.frame.line y.frame.side (told_at f.source y)
    (is_cut_of f.source f.course.came y)

-- these lines are to be told, too
abbrev pub AddsLines : List Line → List SenderLine → List SenderLine → Type 0
AddsLines lines before after = (more : List SenderLine)
    × (map line_of more ≡ lines) × IsPermutation (more ++ before) after
