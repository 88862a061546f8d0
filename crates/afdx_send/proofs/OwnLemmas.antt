-- The releases and the submissions of one link among all.
use Rattle.std.proofs.Common.{◌≡◌, ◌≢◌, ℕ, ◌<◌, ◌≤◌, ◌==◌, Bool, true, false, if◌then◌else◌, List}
use Rattle.std.proofs.Common.{[], ◌∷◌, ◌++◌, length, Some, ◌⊎◌, inl, inr, refl, sym, ap, subst}
use Rattle.std.proofs.Common.{arith, ◌∙◌, slice_set}
use Rattle.std.specs.List.{slice_get, AllByRecursion}
use Rattle.std.proofs.lemmas.List.{get_or-set_same, get_or-set_other}
use Rattle.std.proofs.lemmas.Bool.{cases_lt, cases_eq}
use Rattle.afdx_frame.specs.Regulation.{bag}
use Rattle.afdx_frame.proofs.ListLemmas.{slice_get-one}
use Rattle.afdx_config.specs.Flows.{regulation_of_link}
use Rattle.afdx_config.specs.Rows.{LinkRow}
use Rattle.afdx_port.proofs.TurnLemmas.{eqb-same, eqb-other}
use Rattle.afdx_send.specs.Emissions.{LinkRelease, own, own_submissions, IsNextOf, AreAllReleases}
use Rattle.afdx_send.specs.Releases.{Submission, Release, IsNext, AreReleases}
use Rattle.afdx_send.proofs.ReleaseLemmas.{next_stays, next_was}

pub own_mine : (x : LinkRelease) (earlier : List LinkRelease) → own x.place (x ∷ earlier)
    ≡ x.release ∷ own x.place earlier
own_mine x earlier = rw (eqb-same x.place x.place refl) refl

pub own_other : (i : ℕ) (x : LinkRelease) (earlier : List LinkRelease) → i ≢ x.place
    → own i (x ∷ earlier) ≡ own i earlier
own_other i x earlier ne = rw (eqb-other x.place i (λ e. ne (sym e))) refl

-- time passes
pub before_longer : (t u : ℕ) (xs : List LinkRelease) → t ≤ u
    → AllByRecursion (λ x. x.release.time < t) xs → AllByRecursion (λ x. x.release.time < u) xs
before_longer t u [] le h = tt
before_longer t u (x ∷ xs) le h = (let lt : x.release.time < t = h.0 in omega arith, before_longer t u xs le h.1)

pub own_before : (i t : ℕ) (xs : List LinkRelease) → AllByRecursion (λ x. x.release.time < t) xs
    → AllByRecursion (λ r. r.time < t) (own i xs)
own_before i t [] h = tt
own_before i t (x ∷ xs) h = by_test (x.place == i) (own_before i t xs h.1)
  where
    by_test : (b : Bool) → AllByRecursion (λ r. r.time < t) (own i xs)
        → AllByRecursion (λ r. r.time < t) (if b then x.release ∷ own i xs else own i xs)
    by_test true rest = (h.0, rest)
    by_test false rest = rest

pub own_set : (taken : List (List Submission)) (place i : ℕ) (ss : List Submission)
    → place < length taken → (i ≡ place) ⊎ (i ≢ place) →
    ((i ≡ place) × (own_submissions (slice_set taken place ss) i ≡ ss))
    ⊎ ((i ≢ place) × (own_submissions (slice_set taken place ss) i ≡ own_submissions taken i))
own_set taken place i ss below (inl e) =
    inl (
      e,
      ap (λ z. own_submissions (slice_set taken place ss) z) e
          ∙ get_or-set_same taken place ss [] below,
    )
own_set taken place i ss below (inr ne) = inr (ne, get_or-set_other taken place i ss [] ne)

-- releases before a submission stay the first ones
pub all_stay : (links : List LinkRow) (taken : List (List Submission)) (place : ℕ) (s : Submission)
    (xs : List LinkRelease) → place < length taken →
    AllByRecursion (λ x. x.release.time < s.time) xs → AreAllReleases links taken xs
    → AreAllReleases links (slice_set taken place (own_submissions taken place ++ s ∷ [])) xs
all_stay links taken place s [] below before h = tt
all_stay links taken place s (x ∷ xs) below before h = (
  record {
    stands = h.0.stands;
    next = next_same x.place x.row x.release before.0 h.0.next;
    soonest = λ i l r g n. elim (cases_lt r.time s.time) [
      | inl lt ↦ h.0.soonest i l r g (next_before i l r lt n)
      | inr ge ↦ (let lt : x.release.time < s.time = before.0 in omega arith)
    ];
    first = λ i l r g n e. h.0.first i l r g
        (next_before i l r (let lt : x.release.time < s.time = before.0 in omega arith) n) e;
  },
  all_stay links taken place s xs below before.1 h.1,
)
  where
    next_same : (i : ℕ) (l : LinkRow) (r : Release) → r.time < s.time → IsNextOf taken xs i l r
        → IsNextOf (slice_set taken place (own_submissions taken place ++ s ∷ [])) xs i l r
    next_same i l r lt n = elim (own_set taken place i (own_submissions taken place ++ s ∷ []) below
        (cases_eq i place)) [
          | inl a ↦ (let longer = next_stays (bag (regulation_of_link l)) l.subs
              (own_submissions taken i) s (own i xs) r lt n in
              subst (λ (z : List Submission). IsNext (bag (regulation_of_link l)) l.subs z (own i xs) r)
              (sym a.1) (subst (λ (z : ℕ). IsNext (bag (regulation_of_link l)) l.subs
              (own_submissions taken z ++ s ∷ []) (own i xs) r) a.0 longer))
          | inr a ↦ subst (λ (z : List Submission). IsNext (bag (regulation_of_link l)) l.subs z
              (own i xs) r) (sym a.1) n
        ]

    next_before : (i : ℕ) (l : LinkRow) (r : Release) → r.time < s.time
        → IsNextOf (slice_set taken place (own_submissions taken place ++ s ∷ [])) xs i l r
        → IsNextOf taken xs i l r
    next_before i l r lt n =
        elim (own_set taken place i (own_submissions taken place ++ s ∷ []) below (cases_eq i place)) [
          | inl a ↦ (let here = subst
              (λ (z : List Submission). IsNext (bag (regulation_of_link l)) l.subs z (own i xs) r) a.1 n in
              subst (λ (z : ℕ). IsNext (bag (regulation_of_link l)) l.subs (own_submissions taken z)
              (own i xs) r) (sym a.0) (next_was (bag (regulation_of_link l)) l.subs
              (own_submissions taken place) s (own i xs) r lt here))
          | inr a ↦ subst (λ (z : List Submission). IsNext (bag (regulation_of_link l)) l.subs z (own i xs) r) a.1 n
        ]

-- each link's own are its releases
pub own_releases : (links : List LinkRow) (taken : List (List Submission)) (i : ℕ) (l : LinkRow)
    (xs : List LinkRelease) → slice_get links i ≡ Some l → AreAllReleases links taken xs →
    AreReleases (bag (regulation_of_link l)) l.subs (own_submissions taken i) (own i xs)
own_releases links taken i l [] row h = tt
own_releases links taken i l (x ∷ xs) row h = elim (cases_eq i x.place) [
  | inl e ↦ (let same : x.row ≡ l =
      slice_get-one links x.place x.row l h.0.stands (subst (λ (z : ℕ). slice_get links z ≡ Some l) e row) in
      let rest = own_releases links taken i l xs row h.1 in
      let P : List Release → Type 0 =
      λ z. AreReleases (bag (regulation_of_link l)) l.subs (own_submissions taken i) z in
      let next : IsNext (bag (regulation_of_link l)) l.subs (own_submissions taken i) (own i xs) x.release =
      subst (λ (z : LinkRow). IsNext (bag (regulation_of_link z)) z.subs (own_submissions taken i)
      (own i xs) x.release) same
      (subst (λ (z : ℕ). IsNext (bag (regulation_of_link x.row)) x.row.subs
      (own_submissions taken z) (own z xs) x.release) (sym e) h.0.next) in
      let here : own i (x ∷ xs) ≡ x.release ∷ own i xs =
      subst (λ (z : ℕ). own z (x ∷ xs) ≡ x.release ∷ own z xs) (sym e) (own_mine x xs) in
      subst P (sym here) (next, rest))
  | inr ne ↦ subst (λ (z : List Release). AreReleases (bag (regulation_of_link l)) l.subs
      (own_submissions taken i) z) (sym (own_other i x xs ne)) (own_releases links taken i l xs row h.1)
]

-- releases go in the order of their moments
pub next_later : (links : List LinkRow) (taken : List (List Submission)) (y : LinkRelease)
    (xs : List LinkRelease) (i : ℕ) (l : LinkRow) (r : Release) → slice_get links i ≡ Some l →
    AreAllReleases links taken (y ∷ xs) → IsNextOf taken (y ∷ xs) i l r → y.release.time ≤ r.time
next_later links taken y xs i l r row h n = elim (cases_eq i y.place) [
  | inl e ↦ (let here : own i (y ∷ xs) ≡ y.release ∷ own i xs =
      subst (λ (z : ℕ). own z (y ∷ xs) ≡ y.release ∷ own z xs) (sym e) (own_mine y xs) in
      let n' : IsNext (bag (regulation_of_link l)) l.subs (own_submissions taken i)
      (y.release ∷ own i xs) r = subst
      (λ (z : List Release). IsNext (bag (regulation_of_link l)) l.subs
      (own_submissions taken i) z r) here n in
      let a = n'.after in omega arith)
  | inr ne ↦ h.0.soonest i l r row
      (subst (λ (z : List Release). IsNext (bag (regulation_of_link l)) l.subs
      (own_submissions taken i) z r) (own_other i y xs ne) n)
]
