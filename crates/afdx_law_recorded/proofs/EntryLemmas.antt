-- Streams on two networks, by what they have at each place.
use Rattle.std.proofs.Common.{◌≡◌, ◌⊎◌, inl, inr, ℕ, zero, suc, ◌+◌, ◌<◌, ◌≤◌, List, []}
use Rattle.std.proofs.Common.{◌∷◌, ◌++◌, refl, sym, ap, ◌∙◌, arith, length, Some}
use Rattle.std.specs.Prelude.{slice_get}
use Rattle.std.proofs.lemmas.Bool.{cases_lt}
use Rattle.std.proofs.lemmas.List.{length-append}
use Rattle.afdx_frame.specs.declared.link.Side.{Side}
use Rattle.afdx_frame.specs.declared.link.Side.TheVariants.{A, B}
use Rattle.afdx_lawful.specs.Flaws.{common}
use Rattle.afdx_lawful.specs.Sources.{Came, apart}
use Rattle.afdx_lawful.specs.Partners.{other}
use Rattle.afdx_lawful.specs.TwoNetworks.{AreCopies, SentTwice, frame_on, time_on}
use Rattle.afdx_law_recorded.proofs.MessageLemmas.{slice-front, slice-last}

-- ---- a message and its copy, this side first

unfoldable pub twice-on : Side → Came → ℕ → List ℕ → SentTwice
twice-on A x time bytes = record { on_a = x.time; on_b = time; a = x.bytes; b = bytes }
twice-on B x time bytes = record { on_a = time; on_b = x.time; a = bytes; b = x.bytes }

pub own-time : (side : Side) (x : Came) (time : ℕ) (bytes : List ℕ) → time_on side (twice-on side x time bytes) ≡ x.time
unfolding twice-on
own-time A x time bytes = refl
own-time B x time bytes = refl

pub own-frame : (side : Side) (x : Came) (time : ℕ) (bytes : List ℕ) →
    frame_on side (twice-on side x time bytes) ≡ x.bytes
unfolding twice-on
own-frame A x time bytes = refl
own-frame B x time bytes = refl

pub other-time : (side : Side) (x : Came) (time : ℕ) (bytes : List ℕ) →
    time_on (other side) (twice-on side x time bytes) ≡ time
unfolding twice-on
other-time A x time bytes = refl
other-time B x time bytes = refl

pub other-frame : (side : Side) (x : Came) (time : ℕ) (bytes : List ℕ) →
    frame_on (other side) (twice-on side x time bytes) ≡ bytes
unfolding twice-on
other-frame A x time bytes = refl
other-frame B x time bytes = refl

pub are-copies : (apart : ℕ → ℕ) (side : Side) (x : Came) (time : ℕ) (bytes : List ℕ) → common x.bytes ≡ common bytes →
    length bytes ≡ length x.bytes → x.time ≤ time + apart (length x.bytes) → time ≤ x.time + apart (length x.bytes) →
    AreCopies (apart (length (twice-on side x time bytes).a)) (twice-on side x time bytes)
unfolding twice-on
are-copies apart A x time bytes same long soon late = record { same = same; a_soon = soon; b_soon = late }
are-copies apart B x time bytes same long soon late =
    let by = ap apart long in
    record { same = sym same; a_soon = omega (arith, late, by); b_soon = omega (arith, soon, by) }

-- ---- a stream by its places

unfoldable pub entries : (ℕ → SentTwice) → ℕ → List SentTwice
entries at zero = []
entries at (suc n) = entries at n ++ at n ∷ []

pub entries-long : (at : ℕ → SentTwice) (n : ℕ) → length (entries at n) ≡ n
unfolding entries
entries-long at zero = refl
entries-long at (suc n) =
    let more = entries-long at n in
    let all = length-append (entries at n) (at n ∷ []) in
    omega (arith, more, all)

pub entry-at : (at : ℕ → SentTwice) (n k : ℕ) → k < n → slice_get (entries at n) k ≡ Some (at k)
unfolding entries
entry-at at zero k less = absurd (omega (arith, less))
entry-at at (suc n) k less = by (cases_lt k n) (λ h. entry-at at n k h)
  where
    by : (k < n) ⊎ (n ≤ k) → (k < n → slice_get (entries at n) k ≡ Some (at k)) →
        slice_get (entries at n ++ at n ∷ []) k ≡ Some (at k)
    by (inl before) more = slice-front (entries at n) (at n ∷ []) k (at k) (more before)
    by (inr last) more =
        let here : k ≡ n = omega (arith, less, last) in
        ap (slice_get (entries at n ++ at n ∷ [])) (here ∙ sym (entries-long at n))
        ∙ slice-last (entries at n) (at n) ∙ ap (λ (m : ℕ). Some (at m)) (sym here)

pub side-is : (side further : Side) → (side ≡ further) ⊎ (side ≡ other further)
side-is A A = inl refl
side-is A B = inr refl
side-is B A = inr refl
side-is B B = inl refl
