-- A stream that keeps its gap and its jitter is accepted whole.
use Rattle.std.proofs.Common.{◌≡◌, ℕ, ◌+◌, ◌*◌, ◌-◌, ◌≤◌, true, List, [], ◌∷◌, refl, ◌∙◌, ap, arith}
use Rattle.std.proofs.Math.Nat.{mul-le-mul_left}
use Rattle.std.proofs.lemmas.Bool.{le-leb, and_from, cond-true}
use Rattle.afdx_frame.specs.Regulation.{Regulation, bag, jitter}
use Rattle.afdx_police.specs.Stream.{IsRegular}
use Rattle.afdx_police.specs.Window.{Charged, keeps_windows, fits, with_next, accepted_of}

-- each window that begins with one of these, after which frames of `taken` bytes came, is spent by
-- the next moment of release
abbrev Kept : Regulation → List Charged → ℕ → ℕ → Type 0
Kept link [] taken next = Unit {0}
Kept link (first ∷ before) taken next =
    (bag link * (taken + first.charge) + link.smax * first.time ≤ link.smax * (next + jitter link))
    × Kept link before (taken + first.charge) next

-- over numbers
window-room : (b s c f t e j taken : ℕ) → b * taken + s * f ≤ s * (e + j) → e ≤ t → c ≤ s
    → b * (taken + c) ≤ s * ((t - f) + b + j)
window-room b s c f t e j taken h later small =
    let charge : b * c ≤ b * s = mul-le-mul_left b small in
    let moment : s * (e + j) ≤ s * ((t - f) + f + j) = mul-le-mul_left s (omega arith) in
    omega (arith, charge, moment, h)

window-push : (b s c f e j taken next : ℕ) → b * taken + s * f ≤ s * (e + j) → e + b ≤ next → c ≤ s
    → b * (taken + c) + s * f ≤ s * (next + j)
window-push b s c f e j taken next h later small =
    let charge : b * c ≤ b * s = mul-le-mul_left b small in
    let moment : s * (e + b + j) ≤ s * (next + j) = mul-le-mul_left s (omega (arith, later)) in
    omega (arith, charge, moment, h)

Kept-keeps : (link : Regulation) (accepted : List Charged) (taken release : ℕ) (x : Charged)
    → Kept link accepted taken release → release ≤ x.time → x.charge ≤ link.smax →
    keeps_windows link accepted taken x ≡ true
unfolding keeps_windows
Kept-keeps link [] taken release x kept later small = refl
Kept-keeps link (first ∷ before) taken release x kept later small =
    and_from _ _ (le-leb _ _
    (window-room (bag link) link.smax x.charge first.time x.time release (jitter link)
    (taken + first.charge) kept.0 later small))
    (Kept-keeps link before (taken + first.charge) release x kept.1 later small)

Kept-fits : (link : Regulation) (accepted : List Charged) (release : ℕ) (x : Charged)
    → Kept link accepted 0 release → release ≤ x.time → x.charge ≤ link.smax →
    fits link accepted x ≡ true
Kept-fits link accepted release x kept later small =
    let charge : bag link * x.charge ≤ bag link * link.smax = mul-le-mul_left (bag link) small in
    and_from _ _ (le-leb _ _ (omega (arith, charge))) (Kept-keeps link accepted 0 release x kept later small)

-- a frame of `charge` bytes more, and a gap later
Kept-more : (link : Regulation) (accepted : List Charged) (taken charge release next : ℕ)
    → Kept link accepted taken release → release + bag link ≤ next → charge ≤ link.smax →
    Kept link accepted (taken + charge) next
Kept-more link [] taken charge release next kept later small = tt
Kept-more link (first ∷ before) taken charge release next kept later small =
    let order : taken + charge + first.charge ≡ taken + first.charge + charge = omega arith in
    rw order (
      window-push (bag link) link.smax charge first.time release (jitter link)
          (taken + first.charge) next kept.0 later small,
      Kept-more link before (taken + first.charge) charge release next kept.1 later small,
    )

Kept-push : (link : Regulation) (accepted : List Charged) (release next : ℕ) (x : Charged)
    → Kept link accepted 0 release → release + bag link ≤ next → x.time ≤ release + jitter link
    → x.charge ≤ link.smax →
    Kept link (x ∷ accepted) 0 next
Kept-push link accepted release next x kept later soon small =
    let charge : bag link * x.charge ≤ bag link * link.smax = mul-le-mul_left (bag link) small in
    let moment : link.smax * x.time ≤ link.smax * (release + jitter link) = mul-le-mul_left link.smax soon in
    let after : link.smax * (release + bag link + jitter link) ≤ link.smax * (next + jitter link) =
    mul-le-mul_left link.smax (omega (arith, later)) in
    (omega (arith, charge, moment, after), Kept-more link accepted 0 x.charge release next kept later small)

regular-Kept : (link : Regulation) (stream : List Charged) (next : ℕ) → IsRegular link stream next
    → Kept link stream 0 next
regular-Kept link [] next h = tt
regular-Kept link (x ∷ past) next h = Kept-push link past h.0 next x (regular-Kept link past h.0 h.5) h.1 h.3 h.4

pub regular_accepted : (link : Regulation) (stream : List Charged) (next : ℕ)
    → IsRegular link stream next → accepted_of link stream ≡ stream
unfolding accepted_of
regular_accepted link [] next h = refl
regular_accepted link (x ∷ past) next h =
    let fit : fits link past x ≡ true = Kept-fits link past h.0 x (regular-Kept link past h.0 h.5) h.2 h.4 in
    ap (λ (list : List Charged). with_next link list x) (regular_accepted link past h.0 h.5)
    ∙ cond-true (fits link past x) (x ∷ past) past fit
