-- What is found of a source, as a function of all frames that came of it on both networks. Lists
-- have the newest first.
use Rattle.std.specs.Prelude.{ℕ, ◌+◌, ◌-◌, Bool, not, nat_le, if◌then◌else◌, Option, Some, None}
use Rattle.std.specs.Prelude.{List, [], ◌∷◌, ◌++◌, length, map, filter, reverse}
use Rattle.afdx_frame.specs.declared.link.Side.{Side}
use Rattle.afdx_frame.specs.declared.link.Side.TheVariants.{A, B}
use Rattle.afdx_lawful.specs.Alone.{flawed, found_alone, is_empty}
use Rattle.afdx_lawful.specs.Flaws.{is_copy, is_whole, whole_of}
use Rattle.afdx_lawful.specs.Partners.{Waiting, is_cut, other, partner, waiting}
use Rattle.afdx_lawful.specs.Sources.{Came, Source, apart, hold, on_side, slip}
use Rattle.afdx_lawful.specs.declared.finding.SenderFinding.{SenderFinding}
use Rattle.afdx_lawful.specs.declared.finding.SenderFinding.TheVariants.{Differs, Apart, Single}

-- a finding with the moment and the side of its line
pub record Found : Type 0 where
  pub moment : ℕ
  pub side : Side
  pub finding : SenderFinding

abbrev pub found_at : ℕ → Side → SenderFinding → Found
found_at moment side finding = record { moment = moment; side = side; finding = finding }

module _ (s : Source) where
  abbrev pub too_late : Came → Came → List SenderFinding
  too_late x y =
      if nat_le x.time (y.time + apart s x + slip s) then []
      else Apart x.line (x.time - y.time - apart s x) ∷ []

  -- what is found of a frame by its partner
  abbrev pub found_with : Came → Option Waiting → List SenderFinding
  found_with x None = []
  found_with x (Some y) = if is_copy x y.frame then too_late x y.frame else Differs x.line ∷ []

  -- the frames of a side that wait after all of these: none, where not both networks are seen
  abbrev pub waiting_of : Side → List Came → List Waiting
  waiting_of side xs = if s.is_paired then waiting s side (whole_of xs) else []

  abbrev pub found_whole : List Came → Came → List SenderFinding
  found_whole past x =
      found_alone s (on_side x.side (whole_of past)) x
      ++ found_with x (partner s x (waiting_of (other x.side) past))

  -- what is found of a frame when it comes after all of these, in its order
  unfoldable pub found_of : List Came → Came → List SenderFinding
  found_of past x = if is_whole x then found_whole past x else flawed s x

  -- what is found when each of these comes
  unfoldable pub found_coming : List Came → List Found
  found_coming [] = []
  found_coming (x ∷ past) =
      map (found_at x.time x.side) (reverse (found_of past x)) ++ found_coming past

  -- the frames of which nothing is found then
  unfoldable pub quiet : List Came → List Came
  quiet [] = []
  quiet (x ∷ past) = if is_empty (found_of past x) then x ∷ quiet past else quiet past

  -- a frame that waited in vain, of these, may have a partner behind the end or before the start
  abbrev pub is_cut_of : List Came → Waiting → Bool
  is_cut_of xs y = is_cut s (on_side (other y.frame.side) (whole_of xs)) y.frame

  -- those of a side, the oldest first, and those of them that may not
  abbrev pub cut_off : Side → List Came → List Waiting
  cut_off side xs = filter (is_cut_of xs) (waiting_of side xs)

  abbrev pub singles : Side → List Came → List Waiting
  singles side xs = filter (λ y. not (is_cut_of xs y)) (waiting_of side xs)

  abbrev pub single_at : Waiting → Found
  single_at y = found_at (y.frame.time + hold s) y.frame.side (Single y.frame.line)

  abbrev pub found_single : Side → List Came → List Found
  found_single side xs = map single_at (reverse (singles side xs))

  -- how many have no finding at all
  abbrev pub silent : List Came → List Waiting → ℕ
  silent xs alone = length (quiet xs) - length (filter (λ y. y.is_quiet) alone)

-- what is judged of a source: what is found when its frames come, what is found of each side's
-- frames that have no partner, how many frames have no finding, and of how many frames the copies
-- are cut off
pub record Judged : Type 0 where
  pub coming : List Found
  pub on_a : List Found
  pub on_b : List Found
  pub sent : ℕ
  pub cut : ℕ

unfoldable pub judged_source : Source → List Came → Judged
judged_source s xs = record {
  coming = found_coming s xs;
  on_a = found_single s A xs;
  on_b = found_single s B xs;
  sent = silent s xs (singles s A xs ++ singles s B xs);
  cut = length (cut_off s A xs) + length (cut_off s B xs);
}
