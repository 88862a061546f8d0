-- Nothing is found of a right sender of which one network is seen.
use Rattle.std.proofs.Common.{◌≡◌, Bool, true, false, List, [], ◌∷◌, ◌++◌, refl, sym, ap, ap₂, subst, ◌∙◌}
use Rattle.std.specs.Prelude.{if◌then◌else◌, map, reverse}
use Rattle.std.proofs.lemmas.Bool.{cond-true, cond-false}
use Rattle.afdx_frame.specs.Sides.{is_side}
use Rattle.afdx_frame.specs.declared.link.Side.{Side}
use Rattle.afdx_frame.specs.declared.link.Side.TheVariants.{A, B}
use Rattle.afdx_lawful.specs.Accepted.{ComeUpTo}
use Rattle.afdx_lawful.specs.Alone.{found_alone, flawed}
use Rattle.afdx_lawful.specs.Flaws.{is_whole, whole_of}
use Rattle.afdx_lawful.specs.Judged.{Found, found_at, found_coming, found_of, found_whole, found_with}
use Rattle.afdx_lawful.specs.Judged.{waiting_of}
use Rattle.afdx_lawful.specs.Partners.{Waiting, other, partner, waiting}
use Rattle.afdx_lawful.specs.Right.{AreSilent, IsRightOn, RightIsNotAccused}
use Rattle.afdx_lawful.specs.Sources.{Came, Source, on_side}
use Rattle.afdx_lawful.specs.declared.finding.SenderFinding.{SenderFinding}
use Rattle.afdx_lawful.proofs.AcceptedLemmas.{come_on}
use Rattle.afdx_lawful.proofs.RightLemmas.{right_silent}

same_side : (a : Side) → is_side a a ≡ true
same_side A = refl
same_side B = refl

-- nothing is found of the frames of each side by it alone
unfoldable pub AreSilentBoth : Source → List Came → Type 0
AreSilentBoth s xs = (side : Side) → AreSilent s (on_side side xs)

module _ (s : Source) (x : Came) (past : List Came) where
  pub record IsFirst : Type 0 where
    pub whole : is_whole x ≡ true
    pub silent : found_alone s (on_side x.side past) x ≡ []

  split_first : (ys : List Came) → AreSilent s (x ∷ ys) → (is_whole x ≡ true) × (found_alone s ys x ≡ [])
  unfolding AreSilent
  split_first ys h = (h.0, h.1)

  split_more : (ys : List Came) → AreSilent s (x ∷ ys) → AreSilent s ys
  unfolding AreSilent
  split_more ys h = h.2

  less : (b : Bool) (ys : List Came) → AreSilent s (if b then x ∷ ys else ys) → AreSilent s ys
  less true ys h = split_more ys h
  less false ys h = h

  pub both_less : AreSilentBoth s (x ∷ past) → AreSilentBoth s past
  unfolding AreSilentBoth
  both_less h side = less (is_side side x.side) (on_side side past) (h side)

  pub the_first : AreSilentBoth s (x ∷ past) → IsFirst
  unfolding AreSilentBoth
  the_first h =
      let here : AreSilent s (x ∷ on_side x.side past) =
      subst (λ (l : List Came). AreSilent s l)
      (cond-true (is_side x.side x.side) (x ∷ on_side x.side past) (on_side x.side past) (same_side x.side))
      (h x.side) in
      let parts = split_first (on_side x.side past) here in
      record { whole = parts.0; silent = parts.1 }

pub all_whole : (s : Source) (xs : List Came) → AreSilentBoth s xs → whole_of xs ≡ xs
all_whole s [] h = refl
all_whole s (x ∷ past) h =
    cond-true (is_whole x) (x ∷ whole_of past) (whole_of past) (the_first s x past h).whole
    ∙ ap (λ (l : List Came). x ∷ l) (all_whole s past (both_less s x past h))

none_with : (s : Source) (x : Came) (waiting : List Waiting) → waiting ≡ [] → found_with s x (partner s x waiting) ≡ []
none_with s x waiting h = ap (λ (l : List Waiting). found_with s x (partner s x l)) h

-- nothing is found of a frame, if nothing is by its side alone, nor by its copy
pub quiet_found : (s : Source) (x : Came) (past : List Came) → AreSilentBoth s (x ∷ past) →
    found_with s x (partner s x (waiting_of s (other x.side) past)) ≡ [] → found_of s past x ≡ []
unfolding found_of
quiet_found s x past h with =
    let first = the_first s x past h in
    let whole : whole_of past ≡ past = all_whole s past (both_less s x past h) in
    let silent : found_alone s (on_side x.side (whole_of past)) x ≡ [] =
    ap (λ (l : List Came). found_alone s (on_side x.side l) x) whole ∙ first.silent in
    cond-true (is_whole x) (found_whole s past x) (flawed s x) first.whole
    ∙ ap₂ (λ (a b : List SenderFinding). a ++ b) silent with

none_found : (s : Source) (x : Came) (past : List Came) → s.is_paired ≡ false → AreSilentBoth s (x ∷ past) →
    found_of s past x ≡ []
none_found s x past alone h =
    quiet_found s x past h (none_with s x (waiting_of s (other x.side) past)
    (cond-false s.is_paired (waiting s (other x.side) (whole_of past)) [] alone))

-- what is found when a frame comes, and then when those before it came
pub one_coming : (s : Source) (x : Came) (past : List Came) → found_of s past x ≡ [] → found_coming s past ≡ [] →
    found_coming s (x ∷ past) ≡ []
unfolding found_coming
one_coming s x past here before =
    ap₂ (λ (a : List SenderFinding) (b : List Found). map (found_at x.time x.side) (reverse a) ++ b) here before

none_coming : (s : Source) (xs : List Came) → s.is_paired ≡ false → AreSilentBoth s xs → found_coming s xs ≡ []
unfolding found_coming
none_coming s [] alone h = refl
none_coming s (x ∷ past) alone h =
    one_coming s x past (none_found s x past alone h) (none_coming s past alone (both_less s x past h))

pub both_silent : (s : Source) (xs : List Came) → ComeUpTo s.until xs → ((side : Side) → IsRightOn s side xs) →
    AreSilentBoth s xs
unfolding AreSilentBoth
both_silent s xs up right side =
    let r = right side in
    subst (λ (l : List Came). AreSilent s l) r.are
    (right_silent s r.first s.until r.sent r.begun
    (subst (λ (l : List Came). ComeUpTo s.until l) (sym r.are) (come_on s side s.until xs up)) r.right)

pub right_not_accused : RightIsNotAccused
right_not_accused s xs alone up right = none_coming s xs alone (both_silent s xs up right)
