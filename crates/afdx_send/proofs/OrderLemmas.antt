-- What is released of a link is what it took, each message once, and of each sub-VL in order.
use Rattle.std.proofs.Common.{◌≡◌, ◌≢◌, ℕ, ◌+◌, ◌<◌, ◌≤◌, ◌==◌, Bool, true, false, if◌then◌else◌}
use Rattle.std.proofs.Common.{List, [], ◌∷◌, ◌++◌, length, filter, Some, ◌⊎◌, inl, inr, refl, sym}
use Rattle.std.proofs.Common.{ap, subst, arith, ◌∙◌, suc, zero}
use Rattle.std.specs.List.{slice_get, AllByRecursion}
use Rattle.std.specs.List.Sorted.{IsPermutation}
use Rattle.std.proofs.lemmas.Bool.{cases_eq}
use Rattle.std.proofs.lemmas.List.{append_assoc, append-nil}
use Rattle.std.proofs.lemmas.List.Elements.{filter-append}
use Rattle.std.proofs.lemmas.List.Sorted.{IsPermutation-refl, IsPermutation-trans}
use Rattle.std.proofs.lemmas.List.Sorted.{IsPermutation-append_right, IsPermutation-middle}
use Rattle.afdx_frame.specs.Regulation.{bag}
use Rattle.afdx_config.specs.Flows.{regulation_of_link}
use Rattle.afdx_config.specs.Rows.{LinkRow}
use Rattle.afdx_send.specs.Complete.{IsFor, submissions_of, for_sub, AreReleasesOfAll}
use Rattle.afdx_send.specs.Releases.{Submission, Release, has_release, IsNext, AreReleases}
use Rattle.afdx_port.proofs.TurnLemmas.{eqb-same, eqb-other}

-- the submissions without a release. The first one stands at this place
abbrev left : List Release → ℕ → List Submission → List Submission
left rs p [] = []
left rs p (s ∷ ss) = if has_release rs p then left rs (p + 1) ss else s ∷ left rs (p + 1) ss

left-none : (p : ℕ) (ss : List Submission) → left [] p ss ≡ ss
left-none p [] = refl
left-none p (s ∷ ss) = ap (λ z. s ∷ z) (left-none (p + 1) ss)

left-all : (rs : List Release) (p : ℕ) (ss : List Submission)
    → ((q : ℕ) → p ≤ q → q < p + length ss → has_release rs q ≡ true) → left rs p ss ≡ []
left-all rs p [] all = refl
left-all rs p (s ∷ ss) all =
    rw (all p (omega arith) (omega arith))
    (left-all rs (p + 1) ss (λ q le lt. all q (omega (arith, le)) (omega (arith, lt))))

left-same : (r : Release) (rs : List Release) (p : ℕ) (ss : List Submission) → r.place < p
    → left (r ∷ rs) p ss ≡ left rs p ss
left-same r rs p [] lt = refl
left-same r rs p (s ∷ ss) lt =
    rw (eqb-other r.place p (λ e. omega (arith, lt, e)))
    (ap (λ z. if has_release rs p then z else s ∷ z) (left-same r rs (p + 1) ss (omega (arith, lt))))

-- a release takes its submission out, before which none of its sub-VL is left
record Splits (rs : List Release) (r : Release) (p : ℕ) (ss : List Submission) : Type 0 where
  front : List Submission
  back : List Submission
  is : left rs p ss ≡ front ++ r.submission ∷ back
  after : left (r ∷ rs) p ss ≡ front ++ back
  others : AllByRecursion (λ s. s.sub ≢ r.submission.sub) front

splits : (rs : List Release) (r : Release) (p n : ℕ) (ss : List Submission) → r.place ≡ p + n
    → has_release rs r.place ≡ false → slice_get ss n ≡ Some r.submission →
    ((q m : ℕ) (d : Submission) → q ≡ p + m → slice_get ss m ≡ Some d → has_release rs q ≡ false
    → d.sub ≡ r.submission.sub → r.place ≤ q) → Splits rs r p ss
splits rs r p n [] at free stands oldest = absurd (cc stands)
splits rs r p zero (s ∷ ss) at free stands oldest =
    let here : p ≡ r.place = omega (arith, at) in
    let f : has_release rs p ≡ false = subst (λ (z : ℕ). has_release rs z ≡ false) (sym here) free in
    let own : s ≡ r.submission = cc stands in
    record {
      front = [];
      back = left rs (p + 1) ss;
      is = rw f (ap (λ z. z ∷ left rs (p + 1) ss) own);
      after = rw (eqb-same r.place p (sym here)) (left-same r rs (p + 1) ss (omega (arith, here)));
      others = tt;
    }
splits rs r p (suc n) (s ∷ ss) at free stands oldest =
    by (has_release rs p) refl (splits rs r (p + 1) n ss (omega (arith, at)) free stands
    (λ q m d e g f same. oldest q (suc m) d (omega (arith, e)) g f same))
  where
    by : (b : Bool) → has_release rs p ≡ b → Splits rs r (p + 1) ss → Splits rs r p (s ∷ ss)
    by true h k = record {
      front = k.front;
      back = k.back;
      is = rw h k.is;
      after = rw (eqb-other r.place p (λ e. omega (arith, at, e)), h) k.after;
      others = k.others;
    }
    by false h k = record {
      front = s ∷ k.front;
      back = k.back;
      is = rw h (ap (λ z. s ∷ z) k.is);
      after = rw (eqb-other r.place p (λ e. omega (arith, at, e)), h) (ap (λ z. s ∷ z) k.after);
      others = ((λ same. (let le = oldest p 0 s (omega arith) refl h same in omega (arith, le, at))), k.others);
    }

split : (b subs : ℕ) (ss : List Submission) (rs : List Release) (r : Release) → IsNext b subs ss rs r → Splits rs r 0 ss
split b subs ss rs r n = splits rs r 0 r.place ss (omega arith) n.own.without n.own.stands
    (λ q m d e g f same. n.oldest q d
    (record {
      stands = subst (λ (z : ℕ). slice_get ss z ≡ Some d)
          (let k : m ≡ q = omega (arith, e) in k) g;
      without = f;
    }) same)

-- ---- each once

once : (b subs : ℕ) (ss : List Submission) (rs : List Release) → AreReleases b subs ss rs
    → IsPermutation ss (submissions_of rs ++ left rs 0 ss)
once b subs ss [] h = subst (λ (z : List Submission). IsPermutation ss z) (sym (left-none 0 ss)) (IsPermutation-refl ss)
once b subs ss (r ∷ rs) h =
    let k = split b subs ss rs r h.0 in
    let m = r.submission in
    let before = subst (λ (z : List Submission). IsPermutation ss (submissions_of rs ++ z)) k.is
    (once b subs ss rs h.1) in
    let moved = IsPermutation-append_right (submissions_of rs) (k.front ++ m ∷ k.back)
    (m ∷ (k.front ++ k.back)) (IsPermutation-middle k.front m k.back) in
    let whole = IsPermutation-trans ss (submissions_of rs ++ (k.front ++ m ∷ k.back))
    (submissions_of rs ++ m ∷ (k.front ++ k.back)) before moved in
    let same : submissions_of rs ++ m ∷ (k.front ++ k.back) ≡ (submissions_of rs ++ m ∷ []) ++ left (r ∷ rs) 0 ss =
    sym (append_assoc (submissions_of rs) (m ∷ []) (k.front ++ k.back))
    ∙ ap (λ z. (submissions_of rs ++ m ∷ []) ++ z) (sym k.after) in
    subst (λ (z : List Submission). IsPermutation ss z) same whole

-- ---- in order

none-of : (sub : ℕ) (front : List Submission) → AllByRecursion (λ s. s.sub ≢ sub) front → for_sub sub front ≡ []
none-of sub [] all = refl
none-of sub (s ∷ ss) all = rw (eqb-other s.sub sub all.0) (none-of sub ss all.1)

sub-moves : (sub : ℕ) (m : Submission) (sent front back : List Submission) → AllByRecursion (λ s. s.sub ≢ m.sub) front →
    for_sub sub (sent ++ m ∷ []) ++ for_sub sub (front ++ back) ≡ for_sub sub sent ++ for_sub sub (front ++ m ∷ back)
sub-moves sub m sent front back others =
    let p : Submission → Bool = λ s. s.sub == sub in
    ap (λ z. z ++ for_sub sub (front ++ back)) (filter-append p sent (m ∷ []))
    ∙ ap (λ z. (for_sub sub sent ++ filter p (m ∷ [])) ++ z) (filter-append p front back)
    ∙ append_assoc (for_sub sub sent) (filter p (m ∷ [])) (for_sub sub front ++ for_sub sub back)
    ∙ ap (λ z. for_sub sub sent ++ z)
    (by (cases_eq m.sub sub) ∙ sym (filter-append p front (m ∷ back)))
  where
    by : (m.sub ≡ sub) ⊎ (m.sub ≢ sub)
        → for_sub sub (m ∷ []) ++ (for_sub sub front ++ for_sub sub back) ≡ for_sub sub front
        ++ for_sub sub (m ∷ back)
    by (inl e) = (let none : for_sub sub front ≡ [] =
        none-of sub front (subst (λ (z : ℕ). AllByRecursion (λ s. s.sub ≢ z) front) e others) in
        rw (eqb-same m.sub sub e, none) refl)
    by (inr ne) = rw (eqb-other m.sub sub ne) refl

ordered : (sub b subs : ℕ) (ss : List Submission) (rs : List Release) → AreReleases b subs ss rs
    → for_sub sub (submissions_of rs) ++ for_sub sub (left rs 0 ss) ≡ for_sub sub ss
ordered sub b subs ss [] h = ap (for_sub sub) (left-none 0 ss)
ordered sub b subs ss (r ∷ rs) h =
    let k = split b subs ss rs r h.0 in
    ap (λ z. for_sub sub (submissions_of rs ++ r.submission ∷ []) ++ for_sub sub z) k.after
    ∙ sub-moves sub r.submission (submissions_of rs) k.front k.back k.others
    ∙ ap (λ z. for_sub sub (submissions_of rs) ++ for_sub sub z) (sym k.is) ∙ ordered sub b subs ss rs h.1

-- ---- one sub-VL

whole : (sub : ℕ) (ss : List Submission) → AllByRecursion (λ s. s.sub ≡ sub) ss → for_sub sub ss ≡ ss
whole sub [] all = refl
whole sub (s ∷ ss) all = rw (eqb-same s.sub sub all.0) (ap (λ z. s ∷ z) (whole sub ss all.1))

pub all-get : (P : Submission → Type 0) (ss : List Submission) (i : ℕ) (s : Submission)
    → AllByRecursion P ss → slice_get ss i ≡ Some s → P s
all-get P [] i s all at = absurd (cc at)
all-get P (d ∷ ss) zero s all at = (let e : d ≡ s = cc at in subst P e all.0)
all-get P (d ∷ ss) (suc i) s all at = all-get P ss i s all.1 at

all-push : (P : Submission → Type 0) (ss : List Submission) (s : Submission) → AllByRecursion P ss
    → P s → AllByRecursion P (ss ++ s ∷ [])
all-push P [] s all p = (p, tt)
all-push P (d ∷ ss) s all p = (all.0, all-push P ss s all.1 p)

-- what is true of all that was taken is true of all that is released
pub all-released : (P : Submission → Type 0) (b subs : ℕ) (ss : List Submission) (rs : List Release)
    → AllByRecursion P ss → AreReleases b subs ss rs → AllByRecursion P (submissions_of rs)
all-released P b subs ss [] all h = tt
all-released P b subs ss (r ∷ rs) all h =
    all-push P (submissions_of rs) r.submission (all-released P b subs ss rs all h.1)
    (all-get P ss r.place r.submission all h.0.own.stands)

only-sub : (l : LinkRow) (ss : List Submission) → l.subs ≡ 1 → AllByRecursion (IsFor l) ss
    → AllByRecursion (λ s. s.sub ≡ 1) ss
only-sub l [] one all = tt
only-sub l (s ∷ ss) one all = (
  (let low = all.0.sub.0 in let high = all.0.sub.1 in omega (arith, low, high, one)),
  only-sub l ss one all.1,
)

-- ---- all of it

pub are-releases-of-all : (l : LinkRow) (taken : List Submission) (rs : List Release)
    → AllByRecursion (IsFor l) taken → AreReleases (bag (regulation_of_link l)) l.subs taken rs →
    ((place : ℕ) → place < length taken → has_release rs place ≡ true) → AreReleasesOfAll l taken rs
are-releases-of-all l taken rs fit h all =
    let none : left rs 0 taken ≡ [] = left-all rs 0 taken (λ q le lt. all q (omega (arith, lt))) in
    let in_order : (sub : ℕ) → for_sub sub (submissions_of rs) ≡ for_sub sub taken =
    λ sub. sym (append-nil (for_sub sub (submissions_of rs)))
    ∙ ap (λ z. for_sub sub (submissions_of rs) ++ for_sub sub z) (sym none)
    ∙ ordered sub (bag (regulation_of_link l)) l.subs taken rs h in
    record {
      are_releases = h;
      each_once = subst (λ (z : List Submission). IsPermutation taken z)
          (ap (λ z. submissions_of rs ++ z) none ∙ append-nil (submissions_of rs))
          (once (bag (regulation_of_link l)) l.subs taken rs h);
      in_order = in_order;
      of_one_sub = λ one. (let only = only-sub l taken one fit in
          sym (whole 1 (submissions_of rs)
          (all-released (λ s. s.sub ≡ 1) (bag (regulation_of_link l)) l.subs taken rs only h))
          ∙ in_order 1 ∙ whole 1 taken only);
    }
