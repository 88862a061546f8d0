-- What is known of where arrivals stand changes nothing else.
use Rattle.std.proofs.Common.{◌≡◌, ℕ, List, refl, sym, subst}
use Rattle.afdx_police.specs.Arrival.{Arrival}
use Rattle.afdx_conform.specs.Growing.{IsAfter, IsSame, IsSound, due_by}
use Rattle.afdx_conform.specs.KnownBytes.{AreKnown}
use Rattle.afdx_conform.specs.Naming.{AreSettled}
use Rattle.afdx_conform.specs.States.{Event}
use Rattle.afdx_conform.specs.Streams.{Gone, Terms}
use Rattle.afdx_conform.specs.declared.arrived.Arrived.{Arrived}
use Rattle.afdx_conform.specs.declared.finding.Mark.{Mark}
use Rattle.afdx_conform.specs.declared.gaps.Gaps.{Gaps}
use Rattle.afdx_conform.specs.declared.growth.Growth.{Growth}
use Rattle.afdx_conform.specs.declared.known_bytes.KnownBytes.{KnownBytes}
use Rattle.afdx_conform.proofs.GrowthStarts.{after-same}

abbrev pub with_known : Growth → KnownBytes → Growth
with_known s known' = record s { known = known' }

same-known : (s : Growth) (known' : KnownBytes) → IsSame s (with_known s known')
same-known s known' = record {
  bounds = refl;
  by = refl;
  arrivals = refl;
  frames = refl;
  held = λ e. refl;
  marks = refl;
  uncertain = refl;
  is_unsure = refl;
  closed = refl;
  last = refl;
  started = refl;
  came = refl;
  left = refl;
  cut = refl;
  found = refl;
  unsure = refl;
}

pub after-known : (z : Terms) (xs : List Arrival) (ys : List Gone) (cut : ℕ) (over : List Event) (s : Growth)
    (known' : KnownBytes)
    → IsAfter z xs ys cut over s → IsAfter z xs ys cut over (with_known s known')
after-known z xs ys cut over s known' f = after-same z xs ys cut over s (with_known s known') (same-known s known') f

-- the same beside what is found
pub known-after : {Found : Type 0} (z : Terms) (xs : List Arrival) (ys : List Gone) (cut : ℕ) (over : List Event)
    (s : Growth)
    (known' : KnownBytes) → IsAfter z xs ys cut over s × Found → IsAfter z xs ys cut over (with_known s known') × Found
known-after z xs ys cut over s known' f = (after-known z xs ys cut over s known' f.0, f.1)

pub due-known : (s : Growth) (known' : KnownBytes) → due_by (with_known s known') ≡ due_by s
unfolding due_by
due-known s known' = refl

-- it is sound with what is known of where its arrivals stand
pub sound-known : (s : Growth) (known' : KnownBytes) (arrivals : List Arrived) → arrivals ≡ s.arrivals.items → IsSound s
    → AreKnown known' arrivals → AreSettled known'.gaps.items arrivals s.judging.marks.items
    → IsSound (with_known s known')
sound-known s known' arrivals e h known settled = record {
  rates = h.rates;
  within = h.within;
  closed = h.closed;
  places = h.places;
  uncertain = h.uncertain;
  arrivals = h.arrivals;
  came = h.came;
  frames = h.frames;
  left = h.left;
  known = subst (λ (l : List Arrived). AreKnown known' l) e known;
  settled = subst (λ (l : List Arrived). AreSettled known'.gaps.items l s.judging.marks.items) e settled;
}

-- the same of gaps that were read as a slice
pub settled-slice : (gaps : List Gaps) (arrivals slice : List Arrived) (marks : List Mark) → slice ≡ arrivals
    → AreSettled gaps arrivals marks → AreSettled gaps slice marks
settled-slice gaps arrivals slice marks e s = subst (λ (l : List Arrived). AreSettled gaps l marks) (sym e) s
