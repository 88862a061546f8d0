-- What the switch did with an arrival that leads to no state, by the tests of the code.
use Rattle.std.proofs.Common.{◌≡◌, ℕ, ◌+◌, ◌-◌, ◌<◌, Bool, true, false, ◌&&◌, List, map, drop, get_or, length, refl, sym, ap, ◌∙◌}
use Rattle.std.proofs.lemmas.List.{drop_more}
use Rattle.std.specs.Prelude.{if◌then◌else◌, ◌||◌}
use Rattle.std.specs.List.{list_any}
use Rattle.std.specs.Str.{bytes_eq}
use Rattle.afdx_police.specs.Arrival.{Arrival}
use Rattle.afdx_conform.specs.Findings.{Finding, is_far, is_late, is_early, deviation_of}
use Rattle.afdx_conform.specs.declared.finding.Deviation.{Deviation}
use Rattle.afdx_conform.specs.declared.finding.Deviation.TheVariants.{Stopped, Took, Other}
use Rattle.afdx_conform.specs.declared.finding.Finding.TheVariants.{Early, Late}
use Rattle.afdx_conform.specs.Marks.{arrival_of}
use Rattle.afdx_conform.specs.Streams.{Gone, Terms, fits, latency, wire_time}
use Rattle.afdx_conform.specs.declared.arrived.Arrived.{Arrived}

-- ---- the order of the tests

by_tests : Bool → Bool → Bool → Bool → Bool → Finding → Finding → Deviation
by_tests far early behind same late f g =
    if far then Stopped else if early then Took f else if behind then Stopped
    else if same && late then Took g else if late then Stopped else Other

at-far : (b c d e : Bool) (f g : Finding) → Stopped ≡ by_tests true b c d e f g
unfolding by_tests
at-far b c d e f g = refl

at-early : (c d e : Bool) (f g : Finding) → Took f ≡ by_tests false true c d e f g
unfolding by_tests
at-early c d e f g = refl

at-behind : (d e : Bool) (f g : Finding) → Stopped ≡ by_tests false false true d e f g
unfolding by_tests
at-behind d e f g = refl

at-other : (d : Bool) (f g : Finding) → Other ≡ by_tests false false false d false f g
unfolding by_tests
at-other true f g = refl
at-other false f g = refl

at-stop : (f g : Finding) → Stopped ≡ by_tests false false false false true f g
unfolding by_tests
at-stop f g = refl

at-late : (f g : Finding) → Took g ≡ by_tests false false false true true f g
unfolding by_tests
at-late f g = refl

same-tests : (a b c d e a' b' c' d' e' : Bool) (f g : Finding) → a' ≡ a → b' ≡ b → c' ≡ c → d' ≡ d → e' ≡ e
    → by_tests a b c d e f g ≡ by_tests a' b' c' d' e' f g
same-tests a b c d e a' b' c' d' e' f g ha hb hc hd he =
    sym (ap (λ (t : Bool). by_tests t b' c' d' e' f g) ha ∙ ap (λ (t : Bool). by_tests a t c' d' e' f g) hb
    ∙ ap (λ (t : Bool). by_tests a b t d' e' f g) hc ∙ ap (λ (t : Bool). by_tests a b c t e' f g) hd
    ∙ ap (λ (t : Bool). by_tests a b c d t f g) he)

module _ (z : Terms) (behind : List Arrival) (x : Arrival) (y : Gone) where
  abbrev early_finding : Finding
  early_finding = Early x.tag (x.time + wire_time z x.bytes - y.time)

  abbrev late_finding : Finding
  late_finding = Late x.tag (y.time - x.time - latency z)

  abbrev fits_behind : Bool
  fits_behind = list_any (λ w. fits z w y) behind

  is-tests : by_tests (is_far z x y) (is_early z x y) fits_behind (bytes_eq x.bytes y.bytes) (is_late z x y)
      early_finding late_finding
      ≡ deviation_of z behind x y
  unfolding by_tests
  is-tests = refl

  pub deviation-far : is_far z x y ≡ true → Stopped ≡ deviation_of z behind x y
  deviation-far h =
      at-far (is_early z x y) fits_behind (bytes_eq x.bytes y.bytes) (is_late z x y) early_finding late_finding
      ∙ same-tests true _ _ _ _ _ _ _ _ _ early_finding late_finding h refl refl refl refl ∙ is-tests

  pub deviation-early : (by : ℕ) → is_far z x y ≡ false → is_early z x y ≡ true
      → by ≡ x.time + wire_time z x.bytes - y.time → Took (Early x.tag by) ≡ deviation_of z behind x y
  deviation-early by h k e =
      ap (λ (n : ℕ). Took (Early x.tag n)) e
      ∙ at-early fits_behind (bytes_eq x.bytes y.bytes) (is_late z x y) early_finding late_finding
      ∙ same-tests false true _ _ _ _ _ _ _ _ early_finding late_finding h k refl refl refl ∙ is-tests

  pub deviation-behind : is_far z x y ≡ false → is_early z x y ≡ false → fits_behind ≡ true
      → Stopped ≡ deviation_of z behind x y
  deviation-behind h k m =
      at-behind (bytes_eq x.bytes y.bytes) (is_late z x y) early_finding late_finding
      ∙ same-tests false false true _ _ _ _ _ _ _ early_finding late_finding h k m refl refl ∙ is-tests

  pub deviation-other : is_far z x y ≡ false → is_early z x y ≡ false → fits_behind ≡ false → is_late z x y ≡ false
      → Other ≡ deviation_of z behind x y
  deviation-other h k m n =
      at-other (bytes_eq x.bytes y.bytes) early_finding late_finding
      ∙ same-tests false false false _ false _ _ _ _ _ early_finding late_finding h k m refl n ∙ is-tests

  pub deviation-stop : is_far z x y ≡ false → is_early z x y ≡ false → fits_behind ≡ false → is_late z x y ≡ true
      → bytes_eq x.bytes y.bytes ≡ false → Stopped ≡ deviation_of z behind x y
  deviation-stop h k m n e =
      at-stop early_finding late_finding
      ∙ same-tests false false false false true _ _ _ _ _ early_finding late_finding h k m e n ∙ is-tests

  pub deviation-late : (by : ℕ) → is_far z x y ≡ false → is_early z x y ≡ false → fits_behind ≡ false
      → is_late z x y ≡ true
      → bytes_eq x.bytes y.bytes ≡ true → by ≡ y.time - x.time - latency z
      → Took (Late x.tag by) ≡ deviation_of z behind x y
  deviation-late by h k m n e d =
      ap (λ (v : ℕ). Took (Late x.tag v)) d
      ∙ at-late early_finding late_finding
      ∙ same-tests false false false true true _ _ _ _ _ early_finding late_finding h k m e n ∙ is-tests

-- ---- whether a frame fits one of some arrivals

pub any-arrived : (test : Arrival → Bool) (xs : List Arrived) (i : ℕ) (a : Arrived) (b : Bool) → i < length xs
    → a ≡ get_or xs i a → test (arrival_of a) ≡ b
    → list_any test (map arrival_of (drop i xs)) ≡ (b || list_any test (map arrival_of (drop (i + 1) xs)))
any-arrived test xs i a b lt is e =
    ap (λ (l : List Arrived). list_any test (map arrival_of l)) (drop_more xs i a lt)
    ∙ ap (λ (v : Arrived). test (arrival_of v) || list_any test (map arrival_of (drop (i + 1) xs))) (sym is)
    ∙ ap (λ (c : Bool). c || list_any test (map arrival_of (drop (i + 1) xs))) e
