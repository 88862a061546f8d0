-- Lines that are added to those that are held.
use Rattle.std.proofs.Common.{ℕ, ◌≡◌, ◌+◌, ◌≤◌, Bool, List, [], ◌∷◌, ◌++◌, true, false, length, map, arith, refl, sym, ap, ◌∙◌, subst}
use Rattle.std.proofs.lemmas.List.{length-append, length-map}
use Rattle.std.proofs.lemmas.List.Sorted.{IsPermutation-refl, length_permutation}
use Rattle.std.specs.Prelude.{Option, Some, None}
use Rattle.afdx_frame.specs.declared.link.Side.{Side}
use Rattle.afdx_lawful.specs.Alone.{is_empty}
use Rattle.afdx_lawful.specs.OneSide.{told_heard}
use Rattle.afdx_lawful.specs.declared.finding.SenderFinding.{SenderFinding}
use Rattle.afdx_lawful.specs.declared.heard.HeardFrame.{HeardFrame}
use Rattle.afdx_lawful.specs.Courses.{told_at}
use Rattle.afdx_lawful.specs.Judged.{found_of}
use Rattle.afdx_lawful.specs.Partners.{Waiting}
use Rattle.afdx_lawful.specs.Unpaired.{IsToldOf}
use Rattle.afdx_lawful.specs.declared.unpaired.UnpairedFrame.{UnpairedFrame}
use Rattle.afdx_senders.specs.Lines.{lines_single, single_line}
use Rattle.afdx_senders.specs.Followed.{Followed, IsFound, MayCome, came_of}
use Rattle.afdx_senders.specs.Lines.{AddsLines, MayComeThere, OfSource, found_at, line_at, line_of, lines_found, some_found}
use Rattle.afdx_senders.specs.Lines.{told_line}
use Rattle.afdx_senders.specs.Sites.{came_at}
use Rattle.afdx_senders.specs.declared.sender_line.SenderLine.{SenderLine}
use Rattle.afdx_senders.specs.declared.sender_line.ToldOf.TheVariants.{Heard}
use Rattle.afdx_senders.specs.declared.site_frame.SiteFrame.{SiteFrame}

pub adds_none : (before : List SenderLine) → AddsLines [] before before
adds_none before = ([], refl, IsPermutation-refl before)

-- nothing was found
pub quiet_none : (x : SiteFrame) (fs : List SenderFinding) → is_empty fs ≡ true → lines_found x (some_found fs) ≡ []
quiet_none x [] h = refl
quiet_none x (f ∷ fs) h = absurd (cc)

-- something was
pub loud_one : (x : SiteFrame) (heard : HeardFrame) (fs : List SenderFinding) → told_heard x.line heard ≡ fs →
    is_empty fs ≡ false → map line_of (told_line x (Heard heard) ∷ []) ≡ lines_found x (some_found fs)
loud_one x heard fs is loud = ap (λ gs. line_at (came_at x) (OfSource gs) ∷ []) is ∙ by fs loud
  where
    by : (gs : List SenderFinding) → is_empty gs ≡ false →
        line_at (came_at x) (OfSource gs) ∷ [] ≡ lines_found x (some_found gs)
    by [] h = absurd (cc)
    by (g ∷ gs) h = refl

-- what is found of a frame that came to a source, if there is one
pub found_next : (x : SiteFrame) (o : Option Followed) (heard : Option HeardFrame) (old new : List SenderLine) →
    MayComeThere x o
    → (o ≡ None → heard ≡ None)
    → ((f : Followed) → o ≡ Some f → MayCome f x.time
    → IsFound x.line (found_of f.source f.course.came (came_of x)) heard)
    → (heard ≡ None → new ≡ old)
    → ((fs : List SenderFinding) → IsFound x.line fs heard → AddsLines (lines_found x (some_found fs)) old new)
    → AddsLines (lines_found x (found_at x o)) old new
found_next x None heard old new may silent found same more =
    subst (λ ys. AddsLines [] old ys) (sym (same (silent refl))) (adds_none old)
found_next x (Some f) heard old new may silent found same more =
    more (found_of f.source f.course.came (came_of x)) (found f refl may)

-- what is told of a frame that waited in vain
pub single_same : (port : ℕ) (f : Followed) (y : Waiting) (told : UnpairedFrame) →
    IsToldOf f.source f.course y told
    → single_line port told.line told.side told.moment told.is_cut ≡ lines_single port f y
single_same port f y told is =
    ap (λ n. single_line port n told.side told.moment told.is_cut) is.line
    ∙ ap (λ s. single_line port y.frame.line s told.moment told.is_cut) is.side
    ∙ ap (λ m. single_line port y.frame.line y.frame.side m told.is_cut) is.moment
    ∙ ap (λ b. single_line port y.frame.line y.frame.side (told_at f.source y) b) is.is_cut

-- that adds one line at most
pub one_line : (port line : ℕ) (side : Side) (moment : ℕ) (is_cut : Bool) (old new : List SenderLine) →
    AddsLines (single_line port line side moment is_cut) old new → length new ≤ length old + 1
one_line port line side moment is_cut old new adds =
    let few = by is_cut in
    let told = sym (length-map adds.0 line_of) ∙ ap length adds.1 in
    let all = length_permutation (adds.0 ++ old) new adds.2 in
    let parts = length-append adds.0 old in omega (arith, few, told, all, parts)
  where
    by : (b : Bool) → length (single_line port line side moment b) ≤ 1
    by true = omega arith
    by false = omega arith
