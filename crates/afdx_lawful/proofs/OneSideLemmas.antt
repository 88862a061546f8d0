-- One more frame that isn't damaged, on a side of a source.
use Rattle.std.proofs.Common.{◌≡◌, ℕ, append_assoc, Bool, true, false, List, [], ◌∷◌, ◌++◌, Option, Some, None, refl, sym, ap, ap₂, ◌∙◌, subst, arith}
use Rattle.std.specs.Prelude.{OnErr, OnOk, Result, Ok, Err, find, if◌then◌else◌, ◌||◌}
use Rattle.std.specs.List.{list_any}
use Rattle.std.specs.Option.{is_some}
use Rattle.std.proofs.lemmas.Bool.{cond-true, cond-false}
use Rattle.afdx_frame.specs.Sides.{is_side}
use Rattle.afdx_frame.specs.declared.link.Side.{Side}
use Rattle.afdx_frame.specs.declared.link.Side.TheVariants.{A, B}
use Rattle.afdx_frame.specs.Parts.{frame_of, number_of_frame}
use Rattle.afdx_lawful.specs.Alone.{first_number, flawed, found_alone, is_empty, number_in}
use Rattle.afdx_lawful.specs.Flaws.{IsWholeFrame, is_copy, is_frame, is_whole, whole_of}
use Rattle.afdx_lawful.specs.Judged.{found_of, found_whole, found_with, too_late, waiting_of}
use Rattle.afdx_lawful.specs.Accepted.{ComeUpTo}
use Rattle.afdx_lawful.specs.Courses.{AreHeld, AreOpen, ArePast, told_at}
use Rattle.afdx_lawful.specs.LastCame.{AreLast}
use Rattle.afdx_lawful.specs.OneSide.{HasToWait, IsCame, IsNext, StandOn, StandsOn, WaitsToo}
use Rattle.afdx_lawful.specs.Partners.{Waiting, joined, may_pair, other, partner, waiting, without_first}
use Rattle.afdx_lawful.specs.Rings.{all_as}
use Rattle.afdx_lawful.specs.Sources.{Came, Source, on_side}
use Rattle.afdx_lawful.specs.Tracks.{IsTrack}
use Rattle.afdx_lawful.specs.declared.finding.SenderFinding.{SenderFinding}
use Rattle.afdx_lawful.specs.declared.finding.SenderFinding.TheVariants.{Differs}
use Rattle.afdx_lawful.specs.declared.one_side.OneSide.{OneSide}
use Rattle.afdx_lawful.specs.declared.whole.Whole.{Whole}
use Rattle.afdx_lawful.proofs.PastLemmas.{all_and, all_but, held_too, partner_past, without_past}

-- ---- sides

own_side : (side : Side) → is_side side side ≡ true
own_side A = refl
own_side B = refl

not_other : (side : Side) → is_side (other side) side ≡ false
not_other A = refl
not_other B = refl

-- ---- a search

module _ {X : Type 0} (p : X → Bool) where
  pub any_none : (xs : List X) → find p xs ≡ None → list_any p xs ≡ false
  any_none [] h = refl
  any_none (x ∷ xs) h = by (p x) (any_none xs) h
    where
      by : (b : Bool) → (find p xs ≡ None → list_any p xs ≡ false) →
          (if b then Some x else find p xs) ≡ None → b || list_any p xs ≡ false
      by true rest h = absurd (cc h)
      by false rest h = rest h

  pub any_some : (xs : List X) (y : X) → find p xs ≡ Some y → list_any p xs ≡ true
  any_some [] y h = absurd (cc h)
  any_some (x ∷ xs) y h = by (p x) (any_some xs y) h
    where
      by : (b : Bool) → (find p xs ≡ Some y → list_any p xs ≡ true) →
          (if b then Some x else find p xs) ≡ Some y → b || list_any p xs ≡ true
      by true rest h = refl
      by false rest h = rest h

-- ---- those that wait, without the past ones

pub ring_partner : (s : Source) (o : Side) (past : List Came) (x : Came) (gone : List Waiting) (one : OneSide) →
    StandsOn s o past gone one → ArePast s x.time gone →
    partner s x (all_as o one.waiting) ≡ partner s x (waiting_of s o past)
ring_partner s o past x gone one h are =
    sym (partner_past s x gone (all_as o one.waiting) are) ∙ ap (partner s x) (sym h.waiting)

-- ---- at first

cond_same : {X : Type 0} (b : Bool) (x : X) → (if b then x else x) ≡ x
cond_same true x = refl
cond_same false x = refl

pub none_at_first : (s : Source) (side : Side) → waiting_of s side [] ≡ []
unfolding waiting
none_at_first s side = cond_same s.is_paired []

-- ---- one more frame

module _ (s : Source) (side : Side) (past : List Came) (x : Came) (on : x.side ≡ side) where
  abbrev w : List Came
  w = whole_of past

  is_own : is_side side x.side ≡ true
  is_own = ap (is_side side) on ∙ own_side side

  is_not_other : is_side (other side) x.side ≡ false
  is_not_other = ap (is_side (other side)) on ∙ not_other side

  pub found_flawed : is_whole x ≡ false → flawed s x ≡ found_of s past x
  unfolding found_of
  found_flawed h = sym (cond-false (is_whole x) (found_whole s past x) (flawed s x) h)

  module _ (whole : is_whole x ≡ true) where
    more : whole_of (x ∷ past) ≡ x ∷ w
    unfolding is_whole
    more = cond-true (is_whole x) (x ∷ w) w whole

    own_past : on_side side (whole_of (x ∷ past)) ≡ x ∷ on_side side w
    own_past = ap (on_side side) more ∙ cond-true (is_side side x.side) (x ∷ on_side side w) (on_side side w) is_own

    other_past : on_side (other side) (whole_of (x ∷ past)) ≡ on_side (other side) w
    other_past =
        ap (on_side (other side)) more
        ∙ cond-false (is_side (other side) x.side) (x ∷ on_side (other side) w) (on_side (other side) w) is_not_other

    pub found_is : (told copy : List SenderFinding) → told ≡ found_alone s (on_side side w) x →
        copy ≡ found_with s x (partner s x (waiting_of s (other side) past)) → told ++ copy ≡ found_of s past x
    unfolding found_of
    found_is told copy first second =
        ap₂ (λ (a b : List SenderFinding). a ++ b)
        (first ∙ ap (λ (o : Side). found_alone s (on_side o w) x) (sym on))
        (second ∙ ap (λ (o : Side). found_with s x (partner s x (waiting_of s (other o) past))) (sym on))
        ∙ sym (cond-true (is_whole x) (found_whole s past x) (flawed s x) whole)

    -- where one network is seen
    module _ (single : s.is_paired ≡ false) where
      none_wait : (o : Side) (xs : List Came) → waiting_of s o xs ≡ []
      none_wait o xs = cond-false s.is_paired (waiting s o (whole_of xs)) [] single

      pub no_copy : [] ≡ found_with s x (partner s x (waiting_of s (other side) past))
      no_copy =
          sym (ap (λ (l : List Waiting). found_with s x (partner s x l)) (none_wait (other side) past))

      pub stand_single : (gone : Side → List Waiting) (own others own' : OneSide) →
          StandOn s side past gone own others → IsNext s side x gone own others → ComeUpTo x.time past →
          IsTrack s (x ∷ on_side side w) own'.track → AreLast (x ∷ on_side side w) own'.last →
          own'.waiting ≡ own.waiting → StandOn s side (x ∷ past) gone own' others
      stand_single gone own others own' h next up track last same = record {
        here = record {
          track = subst (λ (l : List Came). IsTrack s l own'.track) (sym own_past) track;
          last = subst (λ (l : List Came). AreLast l own'.last) (sym own_past) last;
          waiting = none_wait side (x ∷ past) ∙ sym (none_wait side past) ∙ h.here.waiting
              ∙ ap (λ ws. gone side ++ all_as side ws) (sym same);
          held = subst (λ ws. AreHeld s (x ∷ past) (all_as side ws)) (sym same)
              (held_too s past x up (all_as side own.waiting) next.here);
        };
        there = record {
          track = subst (λ (l : List Came). IsTrack s l others.track) (sym other_past) h.there.track;
          last = subst (λ (l : List Came). AreLast l others.last) (sym other_past) h.there.last;
          waiting = none_wait (other side) (x ∷ past) ∙ sym (none_wait (other side) past) ∙ h.there.waiting;
          held = held_too s past x up (all_as (other side) others.waiting) next.there;
        };
      }

    -- where both are
    module _ (paired : s.is_paired ≡ true) where
      all_wait : (o : Side) (xs : List Came) → waiting_of s o xs ≡ waiting s o (whole_of xs)
      all_wait o xs = cond-true s.is_paired (waiting s o (whole_of xs)) [] paired

      others_then : waiting_of s (other side) (x ∷ past) ≡ without_first (may_pair s x) (waiting_of s (other side) past)
      unfolding waiting without_first
      others_then =
          all_wait (other side) (x ∷ past) ∙ ap (waiting s (other side)) more
          ∙ cond-false (is_side (other side) x.side)
          (joined s w x (waiting s (other side) w) (waiting s (other (other side)) w))
          (without_first (may_pair s x) (waiting s (other side) w)) is_not_other
          ∙ ap (without_first (may_pair s x)) (sym (all_wait (other side) past))

      own_then : waiting_of s side (x ∷ past)
          ≡ joined s w x (waiting_of s side past) (waiting_of s (other side) past)
      unfolding waiting
      own_then =
          all_wait side (x ∷ past) ∙ ap (waiting s side) more
          ∙ cond-true (is_side side x.side)
          (joined s w x (waiting s side w) (waiting s (other side) w))
          (without_first (may_pair s x) (waiting s side w)) is_own
          ∙ ap₂ (λ (a b : List Waiting). joined s w x a b) (sym (all_wait side past))
          (sym (all_wait (other side) past))

      module _ (gone : Side → List Waiting) (own others own' others' : OneSide)
          (h : StandOn s side past gone own others) (next : IsNext s side x gone own others) (up : ComeUpTo x.time past)
          (track : IsTrack s (x ∷ on_side side w) own'.track) (last : AreLast (x ∷ on_side side w) own'.last)
          (kept : others'.track ≡ others.track) (kept-last : others'.last ≡ others.last)
          (rest : all_as (other side) others'.waiting
          ≡ without_first (may_pair s x) (all_as (other side) others.waiting)) where
        others_stand : StandsOn s (other side) (x ∷ past) (gone (other side)) others'
        others_stand = record {
          track = subst (λ (t : _). IsTrack s (on_side (other side) (whole_of (x ∷ past))) t) (sym kept)
              (subst (λ (l : List Came). IsTrack s l others.track) (sym other_past) h.there.track);
          last = subst (λ (t : _). AreLast (on_side (other side) (whole_of (x ∷ past))) t) (sym kept-last)
              (subst (λ (l : List Came). AreLast l others.last) (sym other_past) h.there.last);
          waiting = others_then ∙ ap (without_first (may_pair s x)) h.there.waiting
              ∙ without_past s x (gone (other side)) (all_as (other side) others.waiting)
              (next.gone (other side))
              ∙ ap (λ (l : List Waiting). gone (other side) ++ l) (sym rest);
          held = subst (AreHeld s (x ∷ past)) (sym rest)
              (all_but (λ y. ComeUpTo (told_at s y) (x ∷ past)) (may_pair s x)
              (all_as (other side) others.waiting)
              (held_too s past x up (all_as (other side) others.waiting) next.there));
        }

        pub stand_paired : (y : Waiting) →
            partner s x (all_as (other side) others.waiting) ≡ Some y →
            own'.waiting ≡ own.waiting → StandOn s side (x ∷ past) gone own' others'
        stand_paired y found same =
            let some : list_any (may_pair s x) (waiting_of s (other side) past) ≡ true =
            any_some (may_pair s x) (waiting_of s (other side) past) y
            (sym (ring_partner s (other side) past x _ others h.there (next.gone (other side))) ∙ found) in
            record {
              here = record {
                track = subst (λ (l : List Came). IsTrack s l own'.track) (sym own_past) track;
                last = subst (λ (l : List Came). AreLast l own'.last) (sym own_past) last;
                waiting = own_then ∙ cond-true (list_any (may_pair s x) (waiting_of s (other side) past))
                    (waiting_of s side past) _ some
                    ∙ h.here.waiting ∙ ap (λ ws. gone side ++ all_as side ws) (sym same);
                held = subst (λ ws. AreHeld s (x ∷ past) (all_as side ws)) (sym same)
                    (held_too s past x up (all_as side own.waiting) next.here);
              };
              there = others_stand;
            }

        pub stand_waiting : (q : Bool) → q ≡ is_empty (found_alone s (on_side side w) x) →
            partner s x (all_as (other side) others.waiting) ≡ None →
            WaitsToo side own.waiting x q own'.waiting → StandOn s side (x ∷ past) gone own' others'
        stand_waiting q quiet none too =
            let no : list_any (may_pair s x) (waiting_of s (other side) past) ≡ false =
            any_none (may_pair s x) (waiting_of s (other side) past)
            (sym (ring_partner s (other side) past x _ others h.there (next.gone (other side))) ∙ none) in
            let known : q ≡ is_empty (found_alone s (on_side x.side w) x) =
            quiet ∙ ap (λ (o : Side). is_empty (found_alone s (on_side o w) x)) (sym on) in
            record {
              here = record {
                track = subst (λ (l : List Came). IsTrack s l own'.track) (sym own_past) track;
                last = subst (λ (l : List Came). AreLast l own'.last) (sym own_past) last;
                waiting = own_then ∙ cond-false (list_any (may_pair s x) (waiting_of s (other side) past))
                    (waiting_of s side past) _ no
                    ∙ ap₂ (λ (a : List Waiting) (b : Bool). a ++ record { frame = x; is_quiet = b } ∷ [])
                    h.here.waiting (sym known)
                    ∙ append_assoc (gone side) (all_as side own.waiting)
                    (record { frame = x; is_quiet = q } ∷ [])
                    ∙ ap (λ (l : List Waiting). gone side ++ l) (sym too);
                held = subst (AreHeld s (x ∷ past)) (sym too)
                    (all_and (λ y. ComeUpTo (told_at s y) (x ∷ past)) (all_as side own.waiting)
                    (record { frame = x; is_quiet = q })
                    (held_too s past x up (all_as side own.waiting) next.here) (omega arith, up));
              };
              there = others_stand;
            }

-- ---- a frame that came, as the code has it

module _ (side : Side) (whole : Whole) (x : Came) (is : IsCame side whole x) where
  pub came_whole : is_whole x ≡ true
  unfolding is_whole
  came_whole = ap (λ (b : List ℕ). is_frame (frame_of b)) is.bytes ∙ whole.whole

  pub came_number : number_in x ≡ whole.number
  unfolding number_in
  came_number = ap number_of_frame is.bytes ∙ sym whole.numbered

-- a copy that is the same, and what else is found with it
pub with_same : (s : Source) (x : Came) (y : Waiting) (late : List SenderFinding) → is_copy x y.frame ≡ true →
    late ≡ too_late s x y.frame → late ≡ found_with s x (Some y)
with_same s x y late same is =
    is ∙ sym (cond-true (is_copy x y.frame) (too_late s x y.frame) (Differs x.line ∷ []) same)

-- ---- a damaged frame takes part in nothing

module _ (s : Source) (past : List Came) (x : Came) (damaged : is_whole x ≡ false) where
  none_more : whole_of (x ∷ past) ≡ whole_of past
  none_more = cond-false (is_whole x) (x ∷ whole_of past) (whole_of past) damaged

  pub same_waiting : (side : Side) → waiting_of s side (x ∷ past) ≡ waiting_of s side past
  same_waiting side = ap (λ (l : List Came). if s.is_paired then waiting s side l else []) none_more

  stays : (side : Side) (gone : List Waiting) (one : OneSide) → StandsOn s side past gone one →
      ComeUpTo x.time past → AreOpen s x.time (all_as side one.waiting) →
      StandsOn s side (x ∷ past) gone one
  stays side gone one h up fits = record {
    track = subst (λ (l : List Came). IsTrack s (on_side side l) one.track) (sym none_more) h.track;
    last = subst (λ (l : List Came). AreLast (on_side side l) one.last) (sym none_more) h.last;
    waiting = same_waiting side ∙ h.waiting;
    held = held_too s past x up (all_as side one.waiting) fits;
  }

  pub stand_still : (side : Side) (gone : Side → List Waiting) (own others : OneSide) →
      StandOn s side past gone own others → IsNext s side x gone own others → ComeUpTo x.time past →
      StandOn s side (x ∷ past) gone own others
  stand_still side gone own others h next up = record {
    here = stays side _ own h.here up next.here;
    there = stays (other side) _ others h.there up next.there;
  }

-- the sides the other way round
pub turned : (s : Source) (xs : List Came) (gone : Side → List Waiting) (a b : OneSide) →
    StandOn s A xs gone a b → StandOn s B xs gone b a
turned s xs gone a b h = record { here = h.there; there = h.here }

pub turned_back : (s : Source) (xs : List Came) (gone : Side → List Waiting) (a b : OneSide) →
    StandOn s B xs gone b a → StandOn s A xs gone a b
turned_back s xs gone a b h = record { here = h.there; there = h.here }

-- ---- what a look says of the number

pub looked_some : (x : Came) (number : ℕ) → Some number ≡ (if is_whole x then Some (number_in x) else None) →
    (is_whole x ≡ true) × (number ≡ number_in x)
looked_some x number h = by (is_whole x) refl h
  where
    by : (b : Bool) → is_whole x ≡ b → Some number ≡ (if b then Some (number_in x) else None) →
        (is_whole x ≡ true) × (number ≡ number_in x)
    by true e h = (e, cc)
    by false e h = absurd (cc h)

pub looked_none : (x : Came) → None ≡ (if is_whole x then Some (number_in x) else None) → is_whole x ≡ false
looked_none x h = by (is_whole x) refl h
  where
    by : (b : Bool) → is_whole x ≡ b → None ≡ (if b then Some (number_in x) else None) → is_whole x ≡ false
    by true e h = absurd (cc h)
    by false e h = e

pub number_whole : (x : Came) (number : ℕ) → number ≡ number_in x → number ≡ number_of_frame x.bytes
unfolding number_in
number_whole x number h = h

pub frame_whole : (x : Came) → is_whole x ≡ true → IsWholeFrame x.bytes
unfolding is_whole
frame_whole x h = h

-- what holds of a result that is right
pub on_ok : {T E : Type 0} (r : Result T E) (P Q : Type 0) → (P → Q) → OnOk r P → OnOk r Q
on_ok (Ok t) P Q f h = f h
on_ok (Err e) P Q f h = h

pub on_err : {T E : Type 0} (r : Result T E) (P : Type 0) → P → OnErr r P
on_err (Ok t) P h = _
on_err (Err e) P h = h

pub has_to_wait : (s : Source) (side : Side) (past : List Came) (x : Came) → x.side ≡ side → is_whole x ≡ true →
    s.is_paired ≡ true → partner s x (waiting_of s (other side) past) ≡ None → HasToWait s past x
has_to_wait s side past x on whole paired none = record {
  whole = whole;
  paired = paired;
  none = ap (λ (o : Side). partner s x (waiting_of s (other o) past)) on ∙ none;
}

-- ---- whether frames came before the recordings

first_by : (s : Source) (o : Option ℕ) → first_number s o ≡ (if is_some o then None else Some 0)
first_by s None = refl
first_by s (Some n) = refl

pub first_known : (s : Source) (o : Option ℕ) (b : Bool) → b ≡ is_some o → s.by.start ≡ o →
    first_number s s.by.start ≡ (if b then None else Some 0)
first_known s o b is same =
    ap (first_number s) same ∙ first_by s o ∙ ap (λ (c : Bool). if c then None else Some 0) (sym is)

pub on_err_by : {T E : Type 0} (r : Result T E) (P Q : Type 0) → (P → Q) → OnErr r P → OnErr r Q
on_err_by (Ok t) P Q f h = h
on_err_by (Err e) P Q f h = f h
