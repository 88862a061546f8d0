-- What is counted of all senders, by the frames that came.
use Rattle.std.proofs.Common.{◌≡◌, ℕ, ◌+◌, ◌<◌, ◌≤◌, ◌^◌, zero, suc, Bool, true, false, List, [], ◌∷◌, length, refl, sym, ap, ap₂, ◌∙◌, arith}
use Rattle.std.proofs.lemmas.List.{length-map}
use Rattle.std.proofs.lemmas.Option.{same_Some}
use Rattle.std.specs.List.{AllByRecursion}
use Rattle.std.specs.Prelude.{filter, if◌then◌else◌, is_some, not, slice_get, Option, Some, None}
use Rattle.afdx_config.specs.Rows.{LinkRow}
use Rattle.afdx_lawful.specs.Judged.{waiting_of}
use Rattle.afdx_lawful.specs.Sources.{Came, Source}
use Rattle.afdx_police.specs.Arrival.{Arrival}
use Rattle.afdx_senders.specs.Counting.{AreOver, IsOver, cut_below, cut_of, sent_below, sent_of}
use Rattle.afdx_senders.specs.Followed.{ByPlace, Followed}
use Rattle.afdx_senders.specs.History.{AreOwn, AreSettled}
use Rattle.afdx_senders.specs.SenderCounts.{alone_up_to, cut_by, cut_up_to, is_one_sided, sent_by, sent_up_to}
use Rattle.afdx_senders.specs.Setups.{Setup, came_from, is_of, own_frames, source_at, whose}
use Rattle.afdx_senders.specs.Terms.{is_paired}
use Rattle.afdx_senders.proofs.ListLemmas.{filter_all}
use Rattle.afdx_senders.proofs.OwnLemmas.{none_there, source_there, terms_of}

fewer : {X : Type 0} (p : X → Bool) (xs : List X) → length (filter p xs) ≤ length xs
fewer p [] = omega arith
fewer p (x ∷ xs) = by (p x) (fewer p xs)
  where
    by : (b : Bool) → length (filter p xs) ≤ length xs →
        length (if b then x ∷ filter p xs else filter p xs) ≤ length (x ∷ xs)
    by true h = omega (arith, h)
    by false h = omega (arith, h)

own_fewer : (z : Setup) (place : ℕ) (xs : List Arrival) → length (own_frames z place xs) ≤ length xs
unfolding own_frames
own_fewer z place xs =
    let mapped = length-map (filter (λ x. is_of place (whose z x)) xs) came_from in
    omega (arith, mapped, fewer (λ x. is_of place (whose z x)) xs)

all_pass : {X : Type 0} (xs : List X) → AllByRecursion (λ x. true ≡ true) xs
all_pass [] = tt
all_pass (x ∷ xs) = (refl, all_pass xs)

module _ (z : Setup) (xs : List Arrival) (at : ByPlace) (own : AreOwn z xs at) where
  pub are_over : AreSettled None at → length xs < 2 ^ 64 → AreOver at
  are_over settled few place = by (at place) refl
    where
      by : (o : Option Followed) → at place ≡ o → IsOver o
      by None is = tt
      by (Some f) is = (
        λ side. sym (filter_all (λ y. true) (waiting_of f.source side f.course.came)
            (all_pass (waiting_of f.source side f.course.came)))
            ∙ sym ((settled place f is).over side),
        (let same = ap length (own.came place f is) in omega (arith, same, own_fewer z place xs, few)),
      )

  pub sent_same : (n : ℕ) → sent_below at n ≡ sent_up_to z xs n
  unfolding sent_below sent_up_to
  sent_same zero = refl
  sent_same (suc n) = ap₂ (λ (a b : ℕ). a + b) (sent_same n) (by (at n) refl)
    where
      by : (o : Option Followed) → at n ≡ o → sent_of o ≡ sent_by (source_at z n) (own_frames z n xs)
      by None is = ap (λ (s : Option Source). sent_by s (own_frames z n xs)) (sym (none_there z xs at own n is))
      by (Some f) is =
          ap (λ (l : List Came). sent_by (Some f.source) l) (own.came n f is)
          ∙ ap (λ (s : Option Source). sent_by s (own_frames z n xs)) (sym (source_there z xs at own n f is))

  pub cut_same : (n : ℕ) → cut_below at n ≡ cut_up_to z xs n
  unfolding cut_below cut_up_to
  cut_same zero = refl
  cut_same (suc n) = ap₂ (λ (a b : ℕ). a + b) (cut_same n) (by (at n) refl)
    where
      by : (o : Option Followed) → at n ≡ o → cut_of o ≡ cut_by (source_at z n) (own_frames z n xs)
      by None is = ap (λ (s : Option Source). cut_by s (own_frames z n xs)) (sym (none_there z xs at own n is))
      by (Some f) is =
          ap (λ (l : List Came). cut_by (Some f.source) l) (own.came n f is)
          ∙ ap (λ (s : Option Source). cut_by s (own_frames z n xs)) (sym (source_there z xs at own n f is))

  -- ---- a source of which not both sites were recorded

  module _ (place : ℕ) (l : LinkRow) (there : slice_get z.tables.links place ≡ Some l) (paired : Bool)
      (is : paired ≡ is_paired z.tables z.recorded l) where
    pub seen_alone : true ≡ is_some (at place) → not paired ≡ is_one_sided (source_at z place)
    seen_alone has = by (at place) refl has
      where
        by : (o : Option Followed) → at place ≡ o → true ≡ is_some o → not paired ≡ is_one_sided (source_at z place)
        by None same some = absurd (cc)
        by (Some f) same some =
            let t = terms_of z place f.source (source_there z xs at own place f same) in
            ap not (is ∙ ap (is_paired z.tables z.recorded) (same_Some l t.row (sym there ∙ t.there))
            ∙ sym (ap (λ (s : Source). s.is_paired) t.are))
            ∙ ap is_one_sided (sym (source_there z xs at own place f same))

  pub none_alone : (place : ℕ) → false ≡ is_some (at place) → false ≡ is_one_sided (source_at z place)
  none_alone place has = by (at place) refl has
    where
      by : (o : Option Followed) → at place ≡ o → false ≡ is_some o → false ≡ is_one_sided (source_at z place)
      by None same none = ap is_one_sided (sym (none_there z xs at own place same))
      by (Some f) same none = absurd (cc)

one_on : (n : ℕ) → suc n ≡ n + 1
one_on n = omega arith

pub no_alone : (z : Setup) → 0 ≡ alone_up_to z 0
unfolding alone_up_to
no_alone z = refl

pub alone_next : (z : Setup) (place count : ℕ) (b : Bool) → count ≡ alone_up_to z place →
    b ≡ is_one_sided (source_at z place) → count + (if b then 1 else 0) ≡ alone_up_to z (place + 1)
unfolding alone_up_to
alone_next z place count b before is =
    ap (λ n. n + (if b then 1 else 0)) before
    ∙ ap (λ (x : Bool). alone_up_to z place + (if x then 1 else 0)) is
    ∙ ap (λ n. alone_up_to z n) (one_on place)
