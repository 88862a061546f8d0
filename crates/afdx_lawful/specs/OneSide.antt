-- What the code keeps of the frames of a source on each network.
use Rattle.std.specs.Prelude.{◌≡◌, ℕ, Bool, true, None, List, [], ◌∷◌, ◌++◌}
use Rattle.afdx_frame.specs.Parts.{bytes_of}
use Rattle.afdx_frame.specs.declared.link.Side.{Side}
use Rattle.afdx_lawful.specs.Flaws.{is_whole, whole_of}
use Rattle.afdx_lawful.specs.Judged.{waiting_of}
use Rattle.afdx_lawful.specs.Courses.{AreHeld, AreOpen, ArePast}
use Rattle.afdx_lawful.specs.LastCame.{AreLast}
use Rattle.afdx_lawful.specs.Partners.{Waiting, other, partner}
use Rattle.afdx_lawful.specs.Rings.{all_as}
use Rattle.afdx_lawful.specs.Sources.{Came, Source, on_side}
use Rattle.afdx_lawful.specs.Tracks.{IsTrack, told_alone}
use Rattle.afdx_lawful.specs.declared.finding.SenderFinding.{SenderFinding}
use Rattle.afdx_lawful.specs.declared.finding.SenderFinding.TheVariants as finding
use Rattle.afdx_lawful.specs.declared.heard.Copied.{Copied}
use Rattle.afdx_lawful.specs.declared.heard.Copied.TheVariants.{Well, Differs, Late}
use Rattle.afdx_lawful.specs.declared.heard.HeardFrame.{HeardFrame}
use Rattle.afdx_lawful.specs.declared.one_side.OneSide.{OneSide}
use Rattle.afdx_lawful.specs.declared.waits.Waits.{Waits}
use Rattle.afdx_lawful.specs.declared.whole.Whole.{Whole}

-- it came on this side
pub record IsCame (side : Side) (w : Whole) (x : Came) : Type 0 where
  pub line : x.line ≡ w.line
  pub time : x.time ≡ w.time
  pub on : x.side ≡ side
  pub bytes : x.bytes ≡ bytes_of w.frame

-- what is told of a frame of this line by its copy
abbrev pub told_copy : ℕ → Copied → List SenderFinding
told_copy line Well = []
told_copy line Differs = finding.Differs line ∷ []
told_copy line (Late by) = finding.Apart line by ∷ []

-- all that is told of it, in its order
abbrev pub told_heard : ℕ → HeardFrame → List SenderFinding
told_heard line heard = told_alone line heard.alone ++ told_copy line heard.copied

-- one more waits, the newest last
abbrev pub WaitsToo : Side → List Waits → Came → Bool → List Waits → Type 0
WaitsToo side before x is_quiet after =
    all_as side after ≡ all_as side before ++ record { frame = x; is_quiet = is_quiet } ∷ []

-- of a side it keeps what is known after these frames, but for those that don't wait any more
pub record StandsOn (s : Source) (side : Side) (xs : List Came) (gone : List Waiting)
    (one : OneSide) : Type 0 where
  pub track : IsTrack s (on_side side (whole_of xs)) one.track
  pub last : AreLast (on_side side (whole_of xs)) one.last
  pub waiting : waiting_of s side xs ≡ gone ++ all_as side one.waiting
  pub held : AreHeld s xs (all_as side one.waiting)

-- and of both, this side first
pub record StandOn (s : Source) (side : Side) (xs : List Came) (gone : Side → List Waiting)
    (own others : OneSide) : Type 0 where
  pub here : StandsOn s side xs (gone side) own
  pub there : StandsOn s (other side) xs (gone (other side)) others

-- one more frame, of whose time what is gone can't be a copy, but what waits on each side can
pub record IsNext (s : Source) (side : Side) (x : Came) (over : Side → List Waiting)
    (own others : OneSide) : Type 0 where
  pub gone : (o : Side) → ArePast s x.time (over o)
  pub here : AreOpen s x.time (all_as side own.waiting)
  pub there : AreOpen s x.time (all_as (other side) others.waiting)

-- it isn't damaged, its source is seen on both sides, and no copy of it came that waits
pub record HasToWait (s : Source) (past : List Came) (x : Came) : Type 0 where
  pub whole : is_whole x ≡ true
  pub paired : s.is_paired ≡ true
  pub none : partner s x (waiting_of s (other x.side) past) ≡ None
