-- Of right senders there is no line.
use Rattle.std.proofs.Common.{◌≡◌, ◌⊎◌, inl, inr, ℕ, zero, suc, ◌+◌, ◌<◌, ◌≤◌, Bool, true, false, List, [], ◌∷◌, ◌++◌}
use Rattle.std.proofs.Common.{Option, Some, length, map, refl, ap, sym, subst, arith}
use Rattle.std.proofs.lemmas.Bool.{cases_lt}
use Rattle.std.proofs.lemmas.Option.{slice_get_within}
use Rattle.std.proofs.lemmas.List.{length-append}
use Rattle.std.proofs.lemmas.List.Sorted.{length_permutation}
use Rattle.std.specs.Prelude.{None, if◌then◌else◌, filter}
use Rattle.std.specs.List.{All}
use Rattle.afdx_frame.specs.declared.link.Side.TheVariants.{A, B}
use Rattle.afdx_police.specs.Arrival.{Arrival}
use Rattle.afdx_police.specs.Spacing.{AreUpTo}
use Rattle.afdx_lawful.specs.Accepted.{ComeUpTo}
use Rattle.afdx_lawful.specs.Judged.{judged_source}
use Rattle.afdx_lawful.specs.RightTwice.{NothingIsFound}
use Rattle.afdx_lawful.specs.Sources.{Came, Source}
use Rattle.afdx_lawful.proofs.AccusedLemmas.{right_not_accused}
use Rattle.afdx_lawful.proofs.RightEndLemmas.{none-single, right_never_accused}
use Rattle.afdx_lawful.proofs.SentLemmas.{nothing_found_sent}
use Rattle.afdx_senders.specs.AllLines.{all_lines}
use Rattle.afdx_senders.specs.RightSenders.{IsRightSource, RightAreSent, RightHaveNoLine, RightTellNothing}
use Rattle.afdx_senders.specs.SenderCounts.{sent_by, sent_up_to}
use Rattle.afdx_senders.specs.SenderLaws.{IsQuiet}
use Rattle.afdx_senders.specs.Setups.{Setup, came_from, is_of, own_frames, source_at, whose}
use Rattle.afdx_senders.specs.Strays.{stray_of}
use Rattle.afdx_senders.proofs.OwnLemmas.{terms_of}
use Rattle.afdx_senders.proofs.QuietLemmas.{no_line_is_quiet}

-- ---- the frames of a source come by time

kept-up : (test : Arrival → Bool) (time : ℕ) (xs : List Arrival) → AreUpTo time (map (λ x. x.time) xs) →
    ComeUpTo time (map came_from (filter test xs))
kept-up test time [] up = tt
kept-up test time (x ∷ past) up = by (test x) (kept-up test x.time past up.1)
  where
    later : (ys : List Came) → ComeUpTo x.time ys → ComeUpTo time ys
    later [] h = tt
    later (y ∷ ys) h = (omega (arith, up.0, h.0), h.1)

    by : (b : Bool) → ComeUpTo x.time (map came_from (filter test past)) →
        ComeUpTo time (map came_from (if b then x ∷ filter test past else filter test past))
    by true more = (up.0, more)
    by false more = later (map came_from (filter test past)) more

own-up : (z : Setup) (place time : ℕ) (xs : List Arrival) → AreUpTo time (map (λ x. x.time) xs) →
    ComeUpTo time (own_frames z place xs)
unfolding own_frames
own-up z place time xs up = kept-up (λ x. is_of place (whose z x)) time xs up

-- ---- no line

quiet-of : (s : Source) (xs : List Came) → NothingIsFound s xs → IsQuiet s xs
unfolding judged_source
quiet-of s xs h = record { coming = h.coming; on_a = h.single A; on_b = h.single B }

-- where nothing is found of any sender that is judged, by the frames up to the end, nor of a stray frame
pub none_found_no_line : (z : Setup) (came : List Arrival) → AreUpTo z.asked.until (map (λ x. x.time) came) →
    ((place : ℕ) (s : Source) → source_at z place ≡ Some s → ComeUpTo s.until (own_frames z place came) →
    NothingIsFound s (own_frames z place came)) →
    All (λ x. stray_of (whose z x) x.bytes ≡ None) came → all_lines z came ≡ []
none_found_no_line z came up none strays =
    (no_line_is_quiet z came).1 (record {
      sources = λ place s is.
          let ends : s.until ≡ z.asked.until = ap (λ (t : Source). t.until) (terms_of z place s is).are in
          quiet-of s (own_frames z place came)
          (none place s is (subst (λ (time : ℕ). ComeUpTo time (own_frames z place came)) (sym ends)
          (own-up z place z.asked.until came up)));
      strays = strays;
    })

right-found : (s : Source) (xs : List Came) → ComeUpTo s.until xs → IsRightSource s xs → NothingIsFound s xs
right-found s xs up h = by s.is_paired refl
  where
    by : (b : Bool) → s.is_paired ≡ b → NothingIsFound s xs
    by true e = right_never_accused s xs h.in_range up (h.both e)
    by false e = record {
      coming = right_not_accused s xs e up (h.alone e);
      single = none-single s xs e;
    }

pub right_no_line : RightHaveNoLine
right_no_line z came all =
    none_found_no_line z came all.by_time
    (λ place s is up. right-found s (own_frames z place came) up (all.right place s is)) all.strays

-- ---- each frame is counted

counted-in : (z : Setup) (xs : List Arrival) (place n : ℕ) → place < n →
    sent_by (source_at z place) (own_frames z place xs) ≤ sent_up_to z xs n
unfolding sent_up_to
counted-in z xs place zero less = absurd (omega (arith, less))
counted-in z xs place (suc n) less = by (cases_lt place n) (λ h. counted-in z xs place n h)
  where
    by : (place < n) ⊎ (n ≤ place) →
        (place < n → sent_by (source_at z place) (own_frames z place xs) ≤ sent_up_to z xs n) →
        sent_by (source_at z place) (own_frames z place xs)
        ≤ sent_up_to z xs n + sent_by (source_at z n) (own_frames z n xs)
    by (inl before) more = let le = more before in omega (arith, le)
    by (inr last) more =
        let here : n ≡ place = omega (arith, less, last) in
        subst (λ (m : ℕ). sent_by (source_at z place) (own_frames z place xs)
        ≤ sent_up_to z xs n + sent_by (source_at z m) (own_frames z m xs)) (sym here) (omega arith)

pub right_sent : RightAreSent
right_sent z xs place s all is =
    let t = terms_of z place s is in
    let ends : s.until ≡ z.asked.until = ap (λ (u : Source). u.until) t.are in
    let up : ComeUpTo s.until (own_frames z place xs) =
    subst (λ (time : ℕ). ComeUpTo time (own_frames z place xs)) (sym ends)
    (own-up z place z.asked.until xs all.by_time) in
    let own = nothing_found_sent s (own_frames z place xs)
    (right-found s (own_frames z place xs) up (all.right place s is)) in
    let by = ap (λ (o : Option Source). sent_by o (own_frames z place xs)) is in
    let le = counted-in z xs place (length z.tables.links) (slice_get_within z.tables.links place t.row t.there) in
    omega (arith, own, by, le)

-- ---- nor is any told

no-list : {X : Type 0} (xs : List X) → length xs ≡ 0 → xs ≡ []
no-list [] h = refl
no-list (x ∷ xs) h = absurd (omega (arith, h))

pub right_tell_nothing : RightTellNothing
right_tell_nothing z before more xs told begun come all =
    let first = begun more come in
    let none : length (all_lines z (more ++ xs)) ≡ 0 = ap length (right_no_line z (more ++ xs) all) in
    let same = length_permutation (first.rest ++ told) (all_lines z (more ++ xs)) first.are in
    let both = length-append first.rest told in
    no-list told (omega (arith, none, same, both))
