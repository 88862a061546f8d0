-- What is told when all that is due is told, step by step.
use Rattle.std.proofs.Common.{ℕ, ◌≡◌, ◌<◌, ◌≤◌, Bool, true, false, List, [], ◌∷◌, ◌++◌, map, arith, refl, sym, ap, ◌∙◌, subst}
use Rattle.std.proofs.lemmas.Bool.{eqb-true, ltb-true}
use Rattle.std.proofs.lemmas.Option.{same_Some}
use Rattle.std.proofs.lemmas.List.{append_assoc, map-append}
use Rattle.std.proofs.lemmas.List.Sorted.{IsPermutation-append_right, IsPermutation-trans}
use Rattle.std.specs.List.{All}
use Rattle.std.specs.List.Sorted.{IsPermutation}
use Rattle.std.specs.Prelude.{nat_eq, if◌then◌else◌, option_map, slice_get, Option, Some, None, IfNone, IfSome}
use Rattle.afdx_config.specs.Rows.{LinkRow, Rows}
use Rattle.afdx_law_bounds.specs.Tables.{port_of}
use Rattle.afdx_lawful.specs.Courses.{IsKnownBy, next_told, told_at}
use Rattle.afdx_lawful.specs.Partners.{Waiting}
use Rattle.afdx_lawful.specs.Sources.{Source}
use Rattle.afdx_senders.specs.Followed.{ByPlace, Followed, due_at, put_at, told_next}
use Rattle.afdx_senders.specs.Lines.{AddsLines, Line, line_of, lines_single}
use Rattle.afdx_senders.specs.Order.{AreNotBefore, IsBefore, is_moment_before, rank_of}
use Rattle.afdx_senders.specs.Settling.{AreSources, AreSteps, IsEnd, IsSourceOf, IsStep, Step, TakesOf, after_steps, lines_told}
use Rattle.afdx_senders.specs.Standing.{SendersStand}
use Rattle.afdx_senders.specs.declared.sender_line.SenderLine.{SenderLine}
use Rattle.afdx_senders.specs.declared.senders.Senders.{Senders}
use Rattle.afdx_senders.proofs.LineLemmas.{adds_none}

-- lines are added, and then others
pub adds_both : (lines others : List Line) (old mid new : List SenderLine) → AddsLines lines old mid →
    AddsLines others mid new → AddsLines (others ++ lines) old new
adds_both lines others old mid new first more = (
  more.0 ++ first.0,
  map-append line_of more.0 first.0 ∙ ap (λ xs. xs ++ map line_of first.0) more.1 ∙ ap (λ xs. others ++ xs) first.1,
  IsPermutation-trans (more.0 ++ first.0 ++ old) (more.0 ++ mid) new
      (subst (λ xs. IsPermutation xs (more.0 ++ mid)) (sym (append_assoc more.0 first.0 old))
      (IsPermutation-append_right more.0 (first.0 ++ old) mid first.2))
      more.2,
)

-- the source of a frame stays what it was
module _ (t : Rows) (until : ℕ) where
  pub sources_put : (at : ByPlace) (place : ℕ) (f : Followed) (y : Waiting) → AreSources t until at →
      at place ≡ Some f → AreSources t until (put_at place (told_next f y) at)
  sources_put at place f y all is k g = by (nat_eq k place) refl
    where
      by : (b : Bool) → nat_eq k place ≡ b → (if b then Some (told_next f y) else at k) ≡ Some g →
          IsSourceOf t until k g
      by true same there =
          let o = all place f is in
          let e = same_Some (told_next f y) g there in record {
            row = o.row;
            there = subst (λ n. slice_get t.links n ≡ Some o.row) (sym (eqb-true k place same)) o.there;
            ends = ap (λ (h : Followed). h.source.until) (sym e) ∙ o.ends;
          }
      by false other there = all k g there

  pub sources_after : (before : Option ℕ) (at : ByPlace) (steps : List Step) → AreSources t until at →
      AreSteps t before at steps → AreSources t until (after_steps at steps)
  unfolding after_steps AreSteps
  sources_after before at [] all are = all
  sources_after before at (s ∷ past) all are =
      sources_put (after_steps at past) s.place s.followed s.waited (sources_after before at past all are.1)
      are.0.is_followed

-- when the recordings end is known of a frame that is due
pub known_by : (s : Source) (y : Waiting) (end before : Option ℕ) (until place m : ℕ) → s.until ≡ until →
    IsEnd end before until → told_at s y ≡ m → is_moment_before before m ≡ true → IsKnownBy s end y
known_by s y (Some e) before until place m ends is at due = ends ∙ is
known_by s y None (Some time) until place m ends is at due =
    let less : m < time = ltb-true m time due in omega (arith, ends, is, at, less)
known_by s y None None until place m ends is at due = absurd is

-- the next frame of the source at a place, which is due at a moment
pub record DueFrame (t : Rows) (at : ByPlace) (place m : ℕ) : Type 0 where
  pub row : LinkRow
  pub followed : Followed
  pub waited : Waiting
  pub there : slice_get t.links place ≡ Some row
  pub is : at place ≡ Some followed
  pub next : next_told followed.source followed.course ≡ Some waited
  pub moment : told_at followed.source waited ≡ m

module _ (t : Rows) (until : ℕ) (at : ByPlace) (place m : ℕ) (all : AreSources t until at) where
  due_of : (f : Followed) (o : Option Waiting) → at place ≡ Some f → next_told f.source f.course ≡ o →
      option_map (told_at f.source) o ≡ Some m → DueFrame t at place m
  due_of f None is next moment = absurd (cc)
  due_of f (Some y) is next moment =
      let o = all place f is in record {
        row = o.row;
        followed = f;
        waited = y;
        there = o.there;
        is = is;
        next = next;
        moment = same_Some (told_at f.source y) m moment;
      }

  of_place : (o : Option Followed) → at place ≡ o → due_at o ≡ Some m → DueFrame t at place m
  of_place None is moment = absurd (cc)
  of_place (Some f) is moment = due_of f (next_told f.source f.course) is refl moment

  pub due_frame : due_at (at place) ≡ Some m → DueFrame t at place m
  due_frame = of_place (at place) refl

-- what was told so far
pub record SoFar (t : Rows) (before : Option ℕ) (at : ByPlace) (old : List SenderLine) (senders : Senders) : Type 0
  where
    pub steps : List Step
    pub are : AreSteps t before at steps
    pub stand : SendersStand (after_steps at steps) senders
    pub lines : AddsLines (lines_told t steps) old senders.found

pub no_step : (t : Rows) (before : Option ℕ) (at : ByPlace) (senders : Senders) → SendersStand at senders →
    SoFar t before at senders.found senders
unfolding after_steps AreSteps lines_told
no_step t before at senders stand = record { steps = []; are = tt; stand = stand; lines = adds_none senders.found }

pub one_step : (t : Rows) (before : Option ℕ) (at : ByPlace) (old mid : List SenderLine) (new : Senders)
    (steps : List Step) (s : Step) → AreSteps t before at steps
    → IsStep t before (after_steps at steps) s
    → SendersStand (put_at s.place (told_next s.followed s.waited) (after_steps at steps)) new
    → AddsLines (lines_told t steps) old mid
    → AddsLines (lines_single (port_of t s.row.from) s.followed s.waited) mid new.found
    → SoFar t before at old new
unfolding after_steps AreSteps lines_told
one_step t before at old mid new steps s are is stand first more = record {
  steps = s ∷ steps;
  are = (is, are);
  stand = stand;
  lines = adds_both (lines_told t steps) (lines_single (port_of t s.row.from) s.followed s.waited) old mid new.found
      first more;
}

-- the first of all that is held, or none that is in time
pub takes_of : (before : Option ℕ) (held rest : List SenderLine) (line : Option SenderLine) →
    IfSome line (λ x. All (λ y. rank_of x ≤ rank_of y) rest)
    → IfSome line (IsBefore before)
    → IfSome line (λ x. IsPermutation held (x ∷ rest))
    → IfNone line (AreNotBefore before held)
    → IfNone line (rest ≡ held)
    → TakesOf before held line rest
takes_of before held rest (Some x) first in_time moved none same = (in_time, moved, first)
takes_of before held rest None first in_time moved none same = (none, same)
