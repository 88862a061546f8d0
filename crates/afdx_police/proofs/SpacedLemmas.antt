-- A stream that keeps its gap by the times of its frames is accepted whole.
use Rattle.std.proofs.Common.{◌≡◌, ℕ, ◌+◌, ◌*◌, ◌-◌, ◌≤◌, ◌⊎◌, inl, inr, true, List, [], ◌∷◌, refl, ◌∙◌, ap, arith}
use Rattle.std.specs.Prelude.{max}
use Rattle.std.proofs.Math.Nat.{mul-le-mul_left}
use Rattle.std.proofs.lemmas.Bool.{le-leb, and_from, cond-true}
use Rattle.afdx_frame.specs.Regulation.{Regulation, bag, jitter}
use Rattle.afdx_police.specs.Spaced.{IsGapsBehind, IsSpaced, all_later}
use Rattle.afdx_police.specs.Stream.{IsRegular}
use Rattle.afdx_police.specs.Window.{Charged, keeps_windows, fits, with_next, accepted_of}

-- ---- accepted

-- over numbers: n frames between, of at most s bytes each
window : (b s c first f t j taken n : ℕ) → taken ≤ s * n → first ≤ s → c ≤ s → b * (n + 1) + f ≤ t + j →
    b * (taken + first + c) ≤ s * ((t - f) + b + j)
window b s c first f t j taken n few one last apart =
    let sum : taken + first + c ≤ s * (n + 2) = omega (arith, few, one, last) in
    let bytes : b * (taken + first + c) ≤ b * (s * (n + 2)) = mul-le-mul_left b sum in
    let room : b * (n + 2) ≤ (t - f) + b + j = omega (arith, apart) in
    let time : s * (b * (n + 2)) ≤ s * ((t - f) + b + j) = mul-le-mul_left s room in
    omega (arith, bytes, time)

keeps : (link : Regulation) (accepted : List Charged) (taken n : ℕ) (x : Charged) → taken ≤ link.smax * n
    → IsGapsBehind link n x accepted → IsSpaced link accepted → x.charge ≤ link.smax →
    keeps_windows link accepted taken x ≡ true
unfolding keeps_windows
keeps link [] taken n x few apart spaced small = refl
keeps link (first ∷ before) taken n x few apart spaced small =
    and_from _ _ (le-leb _ _ (window (bag link) link.smax x.charge first.charge first.time x.time (jitter link)
    taken n few spaced.0 small apart.0))
    (keeps link before (taken + first.charge) (n + 1) x (omega (arith, few, spaced.0)) apart.1 spaced.2 small)

spaced_fits : (link : Regulation) (past : List Charged) (x : Charged) → IsGapsBehind link 0 x past → IsSpaced link past
    → x.charge ≤ link.smax → fits link past x ≡ true
spaced_fits link past x apart spaced small =
    let charge : bag link * x.charge ≤ bag link * link.smax = mul-le-mul_left (bag link) small in
    and_from _ _ (le-leb _ _ (omega (arith, charge)))
    (keeps link past 0 0 x (omega arith) apart spaced small)

pub spaced_accepted : (link : Regulation) (stream : List Charged) → IsSpaced link stream
    → accepted_of link stream ≡ stream
unfolding accepted_of
spaced_accepted link [] h = refl
spaced_accepted link (x ∷ past) h =
    let fit : fits link past x ≡ true = spaced_fits link past x h.1 h.2 h.0 in
    ap (λ (list : List Charged). with_next link list x) (spaced_accepted link past h.2)
    ∙ cond-true (fits link past x) (x ∷ past) past fit

-- ---- regular streams are spaced

-- a moment comes so many gaps behind each of these, but for the jitter
abbrev MomentBehind : Regulation → ℕ → ℕ → List Charged → Type 0
MomentBehind link n r [] = Unit {0}
MomentBehind link n r (first ∷ before) =
    (bag link * n + first.time ≤ r + jitter link) × MomentBehind link (n + 1) r before

moment_later : (link : Regulation) (n r next : ℕ) (past : List Charged) → r + bag link ≤ next
    → MomentBehind link n r past → MomentBehind link (n + 1) next past
moment_later link n r next [] later h = tt
moment_later link n r next (first ∷ before) later h =
    (omega (arith, later, h.0), moment_later link (n + 1) r next before later h.1)

moment_first : (link : Regulation) (past : List Charged) (next : ℕ) → IsRegular link past next →
    MomentBehind link 1 next past
moment_first link [] next h = tt
moment_first link (first ∷ before) next h =
    (omega (arith, h.1, h.3), moment_later link 1 h.0 next before h.1 (moment_first link before h.0 h.5))

gaps : (link : Regulation) (n r : ℕ) (x : Charged) (past : List Charged) → r ≤ x.time
    → MomentBehind link (n + 1) r past → IsGapsBehind link n x past
gaps link n r x [] later h = tt
gaps link n r x (first ∷ before) later h =
    (omega (arith, later, h.0), gaps link (n + 1) r x before later h.1)

pub regular_spaced : (link : Regulation) (stream : List Charged) (next : ℕ) → IsRegular link stream next →
    IsSpaced link stream
regular_spaced link [] next h = tt
regular_spaced link (x ∷ past) next h = (
  h.4,
  gaps link 0 h.0 x past h.2 (moment_first link past h.0 h.5),
  regular_spaced link past h.0 h.5,
)

-- ---- and spaced ones regular, later

-- the least moment for a frame behind these, by times that are later by the jitter
abbrev pub least : Regulation → List Charged → ℕ
least link [] = 0
least link (x ∷ past) = max (least link past) x.time + bag link

-- it comes no later than a frame that is so far behind each of them
not_later : (link : Regulation) (n : ℕ) (x : Charged) (past : List Charged) → IsGapsBehind link n x past →
    least link past + bag link * n ≤ x.time + jitter link ⊎ (past ≡ [])
not_later link n x [] h = inr refl
not_later link n x (first ∷ before) h = inl (step (not_later link (n + 1) x before h.1))
  where
    step : (least link before + bag link * (n + 1) ≤ x.time + jitter link) ⊎ (before ≡ []) →
        least link (first ∷ before) + bag link * n ≤ x.time + jitter link
    step (inl more) = omega (arith, more, h.0)
    step (inr none) = omega (arith, h.0, ap (least link) none)

in_time : (link : Regulation) (x : Charged) (past : List Charged) → IsGapsBehind link 0 x past →
    least link past ≤ x.time + jitter link
in_time link x past h = at (not_later link 0 x past h)
  where
    at : (least link past + bag link * 0 ≤ x.time + jitter link) ⊎ (past ≡ []) → least link past ≤ x.time + jitter link
    at (inl soon) = omega (arith, soon)
    at (inr none) = omega (arith, ap (least link) none)

pub spaced_regular : (link : Regulation) (stream : List Charged) → IsSpaced link stream →
    IsRegular link (all_later (jitter link) stream) (least link stream)
unfolding all_later
spaced_regular link [] h = tt
spaced_regular link (x ∷ past) h =
    let soon : least link past ≤ x.time + jitter link = in_time link x past h.1 in (
      max (least link past) x.time,
      omega arith,
      omega (arith, soon),
      omega arith,
      h.0,
      earlier (all_later (jitter link) past) (least link past) (max (least link past) x.time) (omega arith)
          (spaced_regular link past h.2),
    )
  where
    earlier : (stream : List Charged) (a b : ℕ) → a ≤ b → IsRegular link stream a → IsRegular link stream b
    earlier [] a b le h = tt
    earlier (x ∷ past) a b le h = (h.0, omega (arith, le, h.1), h.2, h.3, h.4, h.5)

pub spaced_is_regular : (link : Regulation) (stream : List Charged) → IsSpaced link stream →
    (next : ℕ) × IsRegular link (all_later (jitter link) stream) next
spaced_is_regular link stream h = (least link stream, spaced_regular link stream h)
