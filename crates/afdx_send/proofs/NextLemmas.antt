-- There is one next release, and the first releases are the same however many there are.
use Rattle.std.proofs.Common.{◌≡◌, ℕ, ◌+◌, ◌≤◌, List, [], ◌∷◌, ◌++◌, Some, ◌⊎◌, inl, inr, refl, sym}
use Rattle.std.proofs.Common.{ap, subst, arith, ◌∙◌, suc, zero}
use Rattle.std.specs.List.{slice_get}
use Rattle.std.proofs.lemmas.List.{append-nil}
use Rattle.afdx_frame.specs.Regulation.{bag}
use Rattle.afdx_frame.proofs.ListLemmas.{slice_get-one}
use Rattle.afdx_config.specs.Flows.{regulation_of_link}
use Rattle.afdx_config.specs.Rows.{LinkRow}
use Rattle.afdx_send.specs.Emissions.{LinkRelease, own, own_submissions, IsNextOf, IsNextOfAll, AreAllReleases}
use Rattle.afdx_send.specs.Releases.{Submission, Release, IsNext, AreReleases, last_served, turn}
use Rattle.afdx_send.proofs.OwnLemmas.{own_releases}
use Rattle.afdx_send.proofs.RegulatorLemmas.{turn_same}

-- the sub-VLs of what was taken are those of the link
abbrev pub AreSubs : ℕ → List Submission → Type 0
AreSubs subs ss = (i : ℕ) (s : Submission) → slice_get ss i ≡ Some s → (1 ≤ s.sub) × (s.sub ≤ subs)

abbrev pub AllSubs : List LinkRow → List (List Submission) → Type 0
AllSubs links taken = (i : ℕ) (l : LinkRow) → slice_get links i ≡ Some l → AreSubs l.subs (own_submissions taken i)

served_within : (b subs : ℕ) (ss : List Submission) (rs : List Release) → AreSubs subs ss
    → AreReleases b subs ss rs → last_served rs ≤ subs
served_within b subs ss [] are h = omega arith
served_within b subs ss (r ∷ rs) are h = (are r.place r.submission h.0.own.stands).1

turn_one : (subs served a b : ℕ) → served ≤ subs → 1 ≤ a → a ≤ subs → 1 ≤ b → b ≤ subs
    → turn subs served a ≡ turn subs served b → a ≡ b
turn_one subs served zero b s a1 a2 b1 b2 e = absurd (omega arith)
turn_one subs served (suc a) zero s a1 a2 b1 b2 e = absurd (omega arith)
turn_one subs served (suc a) (suc b) s a1 a2 b1 b2 e =
    let ea : a + 1 ≡ suc a = omega arith in
    let eb : b + 1 ≡ suc b = omega arith in
    let e' : turn subs served (a + 1) ≡ turn subs served (b + 1) = ap (λ z. turn subs served z) ea
    ∙ e ∙ ap (λ z. turn subs served z) (sym eb) in
    ap (λ z. suc z) (turn_same subs served a b s (omega arith) (omega arith) e')

release_is : (q r : Release) → q.place ≡ r.place → q.submission ≡ r.submission → q.time ≡ r.time → q ≡ r
release_is q r a b c = ap (λ z. record q { place = z }) a
    ∙ ap (λ z. record q { place = r.place; submission = z }) b
    ∙ ap (λ z. record { place = r.place; submission = r.submission; time = z }) c

-- a link has one next release
pub one_next : (b subs : ℕ) (ss : List Submission) (rs : List Release) (q r : Release)
    → AreSubs subs ss → AreReleases b subs ss rs → IsNext b subs ss rs q → IsNext b subs ss rs r → q ≡ r
one_next b subs ss rs q r are h n m =
    let le = n.least r.time r.place r.submission m.own m.come m.after in
    let ge = m.least q.time q.place q.submission n.own n.come n.after in
    let time : q.time ≡ r.time = omega arith in
    let served = served_within b subs ss rs are h in
    let qs = are q.place q.submission n.own.stands in
    let rs' = are r.place r.submission m.own.stands in
    let t1 = n.in_turn r.place r.submission m.own (let c = m.come in omega arith) in
    let t2 = m.in_turn q.place q.submission n.own (let c = n.come in omega arith) in
    let turns : turn subs (last_served rs) q.submission.sub
    ≡ turn subs (last_served rs) r.submission.sub = omega (arith, t1, t2) in
    let sub : q.submission.sub ≡ r.submission.sub =
    turn_one subs (last_served rs) q.submission.sub r.submission.sub served qs.0 qs.1 rs'.0
    rs'.1 turns in
    let p1 = n.oldest r.place r.submission m.own (sym sub) in
    let p2 = m.oldest q.place q.submission n.own sub in
    let place : q.place ≡ r.place = omega arith in
    let stands : slice_get ss r.place ≡ Some q.submission =
    subst (λ (z : ℕ). slice_get ss z ≡ Some q.submission) place n.own.stands in
    release_is q r place (slice_get-one ss r.place q.submission r.submission stands m.own.stands) time

link_release_is : (x y : LinkRelease) → x.place ≡ y.place → x.row ≡ y.row → x.release ≡ y.release → x ≡ y
link_release_is x y a b c = ap (λ z. record x { place = z }) a
    ∙ ap (λ z. record x { place = y.place; row = z }) b
    ∙ ap (λ z. record { place = y.place; row = y.row; release = z }) c

-- and all links have one next release
pub one_next_of_all : (links : List LinkRow) (taken : List (List Submission))
    (xs : List LinkRelease) (x y : LinkRelease) → AllSubs links taken → AreAllReleases links taken xs →
    IsNextOfAll links taken xs x → IsNextOfAll links taken xs y → x ≡ y
one_next_of_all links taken xs x y are h n m =
    let le = n.soonest y.place y.row y.release m.stands m.next in
    let ge = m.soonest x.place x.row x.release n.stands n.next in
    let p1 = n.first y.place y.row y.release m.stands m.next (omega arith) in
    let p2 = m.first x.place x.row x.release n.stands n.next (omega arith) in
    let place : x.place ≡ y.place = omega arith in
    let row : x.row ≡ y.row =
    slice_get-one links y.place x.row y.row
    (subst (λ (z : ℕ). slice_get links z ≡ Some x.row) place n.stands) m.stands in
    let next' : IsNextOf taken xs y.place y.row x.release =
    subst (λ (z : LinkRow). IsNextOf taken xs y.place z x.release) row
    (subst (λ (z : ℕ). IsNextOf taken xs z x.row x.release) place n.next) in
    link_release_is x y place row
    (one_next (bag (regulation_of_link y.row)) y.row.subs (own_submissions taken y.place)
    (own y.place xs) x.release y.release (are y.place y.row m.stands)
    (own_releases links taken y.place y.row xs m.stands h) next' m.next)

pub append_append : {Y : Type 0} (xs ys zs : List Y) → (xs ++ ys) ++ zs ≡ xs ++ (ys ++ zs)
append_append [] ys zs = refl
append_append (x ∷ xs) ys zs = ap (λ z. x ∷ z) (append_append xs ys zs)

pub split_last : {Y : Type 0} (xs : List Y) → (xs ≡ []) ⊎ ((front : List Y) × (y : Y) × (xs ≡ front ++ y ∷ []))
split_last [] = inl refl
split_last (x ∷ xs) = elim (split_last xs) [
  | inl e ↦ inr ([], x, ap (λ z. x ∷ z) e)
  | inr r ↦ inr (x ∷ r.0, r.1, ap (λ z. x ∷ z) r.2)
]

-- the first of some releases
pub all_first : (links : List LinkRow) (taken : List (List Submission))
    (later xs : List LinkRelease) → AreAllReleases links taken (later ++ xs)
    → AreAllReleases links taken xs
all_first links taken [] xs h = h
all_first links taken (y ∷ later) xs h = all_first links taken later xs h.1

-- one of two lists of first releases begins the other
pub comparable : (links : List LinkRow) (taken : List (List Submission))
    (ones twos : List LinkRelease) → AllSubs links taken → AreAllReleases links taken ones
    → AreAllReleases links taken twos →
    ((later : List LinkRelease) × (twos ≡ later ++ ones)) ⊎ ((later : List LinkRelease) × (ones ≡ later ++ twos))
comparable links taken ones [] are ha hb = inr (ones, sym (append-nil ones))
comparable links taken ones (x ∷ twos) are ha hb = elim (comparable links taken ones twos are ha hb.1) [
  | inl r ↦ inl (x ∷ r.0, ap (λ z. x ∷ z) r.1)
  | inr r ↦ elim (split_last r.0) [
    | inl none ↦ inl (x ∷ [], ap (λ z. x ∷ z) (sym (r.1 ∙ ap (λ z. z ++ twos) none)))
    | inr some ↦ (let whole : ones ≡ some.0 ++ (some.1 ∷ twos) = r.1 ∙ ap (λ z. z ++ twos) some.2
        ∙ append_append some.0 (some.1 ∷ []) twos in
        let y = all_first links taken some.0 (some.1 ∷ twos)
        (subst (λ (z : List LinkRelease). AreAllReleases links taken z) whole ha) in
        let same : some.1 ≡ x = one_next_of_all links taken twos some.1 x are hb.1 y.0 hb.0 in
        inr (some.0, whole ∙ ap (λ z. some.0 ++ (z ∷ twos)) same))
  ]
]
