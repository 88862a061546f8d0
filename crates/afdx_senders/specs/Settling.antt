-- What is told when no frame waits any longer whose moment lies before a time.
use Rattle.std.specs.Prelude.{◌≡◌, ℕ, ◌≤◌, Option, Some, None, slice_get, List, [], ◌∷◌, ◌++◌}
use Rattle.std.specs.List.{All}
use Rattle.std.specs.List.Sorted.{IsPermutation}
use Rattle.afdx_config.specs.Rows.{LinkRow, Rows}
use Rattle.afdx_law_bounds.specs.Tables.{port_of}
use Rattle.afdx_lawful.specs.Courses.{next_told}
use Rattle.afdx_lawful.specs.Partners.{Waiting}
use Rattle.afdx_senders.specs.Followed.{ByPlace, Followed, put_at, told_next}
use Rattle.afdx_senders.specs.Lines.{Line, lines_single}
use Rattle.afdx_senders.specs.Order.{AreNotBefore, IsBefore, rank_of}
use Rattle.afdx_senders.specs.Standing.{IsDue, IsNothingDue, SendersStand}
use Rattle.afdx_senders.specs.declared.sender_line.SenderLine.{SenderLine}
use Rattle.afdx_senders.specs.declared.senders.Senders.{Senders}

-- the recordings end at this moment; or that isn't known, but not before that time
abbrev pub IsEnd : (end before : Option ℕ) → ℕ → Type 0
IsEnd (Some end) before until = until ≡ end
IsEnd None (Some time) until = time ≤ until
IsEnd None None until = ⊥

-- a frame waits no longer: of the link at this place, what came of its source until then, and the
-- frame
pub record Step : Type 0 where
  pub place : ℕ
  pub row : LinkRow
  pub followed : Followed
  pub waited : Waiting

-- of all sources, after these steps, the newest first
unfoldable pub after_steps : ByPlace → List Step → ByPlace
after_steps at [] = at
after_steps at (s ∷ past) = put_at s.place (told_next s.followed s.waited) (after_steps at past)

module _ (t : Rows) where
  -- each is the source of a link of the tables, and the recordings end at this moment
  pub record IsSourceOf (until place : ℕ) (f : Followed) : Type 0 where
    pub row : LinkRow
    pub there : slice_get t.links place ≡ Some row
    pub ends : f.source.until ≡ until

  abbrev pub AreSources : ℕ → ByPlace → Type 0
  AreSources until at =
      (place : ℕ) (f : Followed) → at place ≡ Some f → IsSourceOf until place f

  -- it is the next one of its source, and due before that time
  pub record IsStep (before : Option ℕ) (at : ByPlace) (s : Step) : Type 0 where
    pub there : slice_get t.links s.place ≡ Some s.row
    pub is_followed : at s.place ≡ Some s.followed
    pub next : next_told s.followed.source s.followed.course ≡ Some s.waited
    pub due : IsDue before at s.place

  unfoldable pub AreSteps : Option ℕ → ByPlace → List Step → Type 0
  AreSteps before at [] = Unit {0}
  AreSteps before at (s ∷ past) =
      IsStep before (after_steps at past) s × AreSteps before at past

  -- what is told of them
  unfoldable pub lines_told : List Step → List Line
  lines_told [] = []
  lines_told (s ∷ past) =
      lines_single (port_of t s.row.from) s.followed s.waited ++ lines_told past

  -- by these steps all that was due before that time is told
  pub record Settled (before : Option ℕ) (at : ByPlace) (steps : List Step) (senders : Senders) :
      Type 0 where
    pub are : AreSteps before at steps
    pub stand : SendersStand (after_steps at steps) senders
    pub none : IsNothingDue before (after_steps at steps)

-- of what is held the first line is taken, if its moment lies before that time
abbrev pub TakesOf : Option ℕ → List SenderLine → Option SenderLine → List SenderLine → Type 0
TakesOf before held None rest = AreNotBefore before held × (rest ≡ held)
TakesOf before held (Some x) rest = IsBefore before x × IsPermutation held (x ∷ rest)
    × All (λ y. rank_of x ≤ rank_of y) rest
