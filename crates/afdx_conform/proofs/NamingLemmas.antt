-- The first arrival that the finding of a frame may name.
use Rattle.std.proofs.Common.{◌≡◌, ℕ, zero, suc, ◌+◌, ◌<◌, ◌≤◌, Bool, true, false, ◌&&◌, List, [], ◌∷◌, ◌++◌, map, reverse, take, drop, get_or, set, length, refl, sym, ap, ◌∙◌, arith}
use Rattle.std.proofs.lemmas.List.{append_assoc, append-nil, reverse-append, take_all, drop_all}
use Rattle.std.specs.Prelude.{if◌then◌else◌, not, ◌||◌, is_some, Option, Some, None}
use Rattle.std.specs.List.{list_any}
use Rattle.std.specs.Option.{option_to_list}
use Rattle.afdx_police.specs.declared.shape.Reason.{Reason}
use Rattle.afdx_conform.specs.Findings.{Finding, Found, Marked, marked, Judged, judged_with, found_at, frames_of, frames_in, names_it, passed_or, named_or, first_named, once_named, finding_or, damaged_or, damage, is_of_right, strangeness, unexplained}
use Rattle.afdx_conform.specs.declared.finding.Finding.TheVariants.{Strange, Passed}
use Rattle.afdx_conform.specs.declared.strangeness.Strangeness.{Strangeness}
use Rattle.afdx_conform.specs.declared.strangeness.Strangeness.TheVariants.{Shape, OutOfTurn, NoArrival}
use Rattle.afdx_conform.specs.Marks.{arrival_of, marked_of, marked_all, told}
use Rattle.afdx_conform.specs.Naming.{IsNoneNamed, IsNamedAt, may_be_named, unexplained_all, with_last}
use Rattle.afdx_conform.specs.Streams.{Gone, Terms, fits}
use Rattle.afdx_conform.specs.declared.arrived.Arrived.{Arrived}
use Rattle.afdx_conform.specs.declared.finding.Mark.{Mark}

-- ---- arrivals with their marks

-- at no place
abbrev pub no-mark : Mark
no-mark = record { reason = None; is_named = false }

pub length-marked : (xs : List Arrived) (ms : List Mark) → length ms ≤ length xs → length (marked_all xs ms) ≡ length ms
unfolding marked_all
length-marked [] [] h = refl
length-marked [] (m ∷ ms) h = absurd (omega (arith, h))
length-marked (a ∷ xs) [] h = refl
length-marked (a ∷ xs) (m ∷ ms) h = ap (λ n. suc n) (length-marked xs ms (omega (arith, h)))

pub marked-at : (xs : List Arrived) (ms : List Mark) (i : ℕ) (a : Arrived) (m : Mark) → i < length ms
    → length ms ≤ length xs
    → drop i (marked_all xs ms) ≡ marked_of (get_or xs i a) (get_or ms i m) ∷ drop (i + 1) (marked_all xs ms)
unfolding marked_all
marked-at [] [] i a m lt h = absurd (omega (arith, lt))
marked-at [] (n ∷ ms) i a m lt h = absurd (omega (arith, h))
marked-at (b ∷ xs) [] i a m lt h = absurd (omega (arith, lt))
marked-at (b ∷ xs) (n ∷ ms) zero a m lt h = refl
marked-at (b ∷ xs) (n ∷ ms) (suc i) a m lt h =
    let on : suc i + 1 ≡ suc (i + 1) = omega arith in
    marked-at xs ms i a m (omega (arith, lt)) (omega (arith, h))
    ∙ ap (λ n'. marked_of (get_or xs i a) (get_or ms i m) ∷ drop n' (marked_of b n ∷ marked_all xs ms)) (sym on)

pub marked-set : (xs : List Arrived) (ms : List Mark) (i : ℕ) (a : Arrived) (v : Mark) → i < length ms
    → length ms ≤ length xs
    → marked_all xs (set ms i v) ≡ set (marked_all xs ms) i (marked_of (get_or xs i a) v)
unfolding marked_all
marked-set [] [] i a v lt h = absurd (omega (arith, lt))
marked-set [] (n ∷ ms) i a v lt h = absurd (omega (arith, h))
marked-set (b ∷ xs) [] i a v lt h = absurd (omega (arith, lt))
marked-set (b ∷ xs) (n ∷ ms) zero a v lt h = refl
marked-set (b ∷ xs) (n ∷ ms) (suc i) a v lt h =
    ap (λ l. marked_of b n ∷ l) (marked-set xs ms i a v (omega (arith, lt)) (omega (arith, h)))

-- what stands at a place of a list, and behind it
pub take-next : {X : Type 0} (l : List X) (i : ℕ) (x : X) (rest : List X) → drop i l ≡ x ∷ rest
    → take (i + 1) l ≡ take i l ++ (x ∷ [])
take-next [] zero x rest e = absurd (cc)
take-next [] (suc i) x rest e = absurd (cc)
take-next (w ∷ l) zero x rest e = let same : w ≡ x = cc in ap (λ v. v ∷ []) same
take-next (w ∷ l) (suc i) x rest e =
    let on : suc i + 1 ≡ suc (i + 1) = omega arith in
    ap (λ n. take n (w ∷ l)) on ∙ ap (λ t. w ∷ t) (take-next l i x rest e)

split-set : {X : Type 0} (l : List X) (i : ℕ) (x v : X) (rest : List X) → drop i l ≡ x ∷ rest
    → set l i v ≡ take i l ++ (v ∷ rest)
split-set [] zero x v rest e = absurd (cc)
split-set [] (suc i) x v rest e = absurd (cc)
split-set (w ∷ l) zero x v rest e = let same : l ≡ rest = cc in ap (λ t. v ∷ t) same
split-set (w ∷ l) (suc i) x v rest e = ap (λ t. w ∷ t) (split-set l i x v rest e)

-- ---- the first that may be named

module _ (z : Terms) (y : Gone) where
  -- none of the first so many is
  pub record IsNamedFrom (l : List Marked) (i : ℕ) : Type 0 where
    pub first : first_named z y l ≡ first_named z y (drop i l)
    pub once : once_named z y l ≡ take i l ++ once_named z y (drop i l)

  pub from-start : (l : List Marked) → IsNamedFrom l 0
  from-start l = record { first = refl; once = refl }

  first-on : (m : Marked) (rest : List Marked) (o : Option Reason) → names_it z y m ≡ o
      → first_named z y (m ∷ rest) ≡ passed_or o m.arrival.tag (first_named z y rest)
  unfolding first_named
  first-on m rest o e = ap (λ r. passed_or r m.arrival.tag (first_named z y rest)) e

  once-on : (m : Marked) (rest : List Marked) (o : Option Reason) → names_it z y m ≡ o
      → once_named z y (m ∷ rest) ≡ named_or o m rest (once_named z y rest)
  unfolding once_named
  once-on m rest o e = ap (λ r. named_or r m rest (once_named z y rest)) e

  from-step : (l : List Marked) (i : ℕ) (m : Marked) → drop i l ≡ m ∷ drop (i + 1) l → names_it z y m ≡ None
      → IsNamedFrom l i → IsNamedFrom l (i + 1)
  from-step l i m at none h = record {
    first = h.first ∙ ap (λ r. first_named z y r) at ∙ first-on m (drop (i + 1) l) None none;
    once = h.once ∙ ap (λ r. take i l ++ once_named z y r) at
        ∙ ap (λ r. take i l ++ r) (once-on m (drop (i + 1) l) None none)
        ∙ sym (append_assoc (take i l) (m ∷ []) (once_named z y (drop (i + 1) l)))
        ∙ ap (λ t. t ++ once_named z y (drop (i + 1) l)) (sym (take-next l i m (drop (i + 1) l) at));
  }

  pub from-next : (xs : List Arrived) (ms : List Mark) (i : ℕ) (a : Arrived) (m : Mark) → i < length ms
      → length ms ≤ length xs → a ≡ get_or xs i a → names_it z y (marked_of a (get_or ms i m)) ≡ None
      → IsNamedFrom (marked_all xs ms) i → IsNamedFrom (marked_all xs ms) (i + 1)
  from-next xs ms i a m lt h is none from =
      from-step (marked_all xs ms) i (marked_of (get_or xs i a) (get_or ms i m)) (marked-at xs ms i a m lt h)
      (ap (λ (v : Arrived). names_it z y (marked_of v (get_or ms i m))) (sym is) ∙ none) from

  none-of-none : first_named z y [] ≡ None
  unfolding first_named
  none-of-none = refl

  same-of-none : once_named z y [] ≡ []
  unfolding once_named
  same-of-none = refl

  pub from-end : (xs : List Arrived) (ms : List Mark) (i : ℕ) → length ms ≤ i → length ms ≤ length xs
      → IsNamedFrom (marked_all xs ms) i → IsNoneNamed z y (marked_all xs ms)
  from-end xs ms i le h from =
      let all = length-marked xs ms h in
      let past : length (marked_all xs ms) ≤ i = omega (arith, all, le) in
      record {
        none = from.first ∙ ap (λ r. first_named z y r) (drop_all i (marked_all xs ms) past) ∙ none-of-none;
        same = from.once ∙ ap (λ r. take i (marked_all xs ms) ++ once_named z y r) (drop_all i (marked_all xs ms) past)
            ∙ ap (λ r. take i (marked_all xs ms) ++ r) same-of-none
            ∙ append-nil (take i (marked_all xs ms))
            ∙ take_all i (marked_all xs ms) past;
      }

  its-mark : (m : Marked) (reason : Reason) → names_it z y m ≡ Some reason → m.mark ≡ Some reason
  its-mark m reason e = by (fits z m.arrival y && not m.is_named) e
    where
      by : (b : Bool) → (if b then m.mark else None) ≡ Some reason → m.mark ≡ Some reason
      by true k = k
      by false k = absurd (cc)

  -- an arrival that no finding may name, one that the frame doesn't fit, and the first where each is one of these
  pub unnamed : (a : Arrived) (m : Mark) → may_be_named m ≡ false → names_it z y (marked_of a m) ≡ None
  unnamed a m h = by (fits z (arrival_of a) y) m.reason m.is_named h
    where
      by : (b : Bool) (r : Option Reason) (n : Bool) → (is_some r && not n) ≡ false
          → (if b && not n then r else None) ≡ None
      by false r n h = refl
      by true r true h = refl
      by true None false h = refl
      by true (Some r) false h = absurd (cc)

  pub unfitting : (a : Arrived) (m : Mark) → fits z (arrival_of a) y ≡ false → names_it z y (marked_of a m) ≡ None
  unfitting a m h = ap (λ (b : Bool). if b && not m.is_named then m.reason else None) h

  pub from-unnamed : (xs : List Arrived) (ms : List Mark) (n : ℕ) → length ms ≤ length xs → n ≤ length ms
      → ((p : ℕ) (a : Arrived) (m : Mark) → p < n → names_it z y (marked_of (get_or xs p a) (get_or ms p m)) ≡ None)
      → IsNamedFrom (marked_all xs ms) n
  unfolding marked_all
  from-unnamed xs ms zero h le all = from-start (marked_all xs ms)
  from-unnamed xs [] (suc n) h le all = absurd (omega (arith, le))
  from-unnamed [] (m ∷ ms) (suc n) h le all = absurd (omega (arith, h))
  from-unnamed (a ∷ xs) (m ∷ ms) (suc n) h le all =
      let none = all 0 a m (omega arith) in
      let more = from-unnamed xs ms n (omega (arith, h)) (omega (arith, le))
      (λ p b k lt. all (suc p) b k (omega (arith, lt))) in
      record {
        first = first-on (marked_of a m) (marked_all xs ms) None none ∙ more.first;
        once = once-on (marked_of a m) (marked_all xs ms) None none ∙ ap (λ t. marked_of a m ∷ t) more.once;
      }

  pub from-here : (xs : List Arrived) (ms : List Mark) (i : ℕ) (a : Arrived) (m : Mark) (reason : Reason)
      → i < length ms
      → length ms ≤ length xs → a ≡ get_or xs i a → names_it z y (marked_of a (get_or ms i m)) ≡ Some reason
      → IsNamedFrom (marked_all xs ms) i → IsNamedAt z y (marked_all xs ms) i reason
  from-here xs ms i a m reason lt h is here from =
      let at = marked-at xs ms i a m lt h in
      let named = ap (λ (v : Arrived). names_it z y (marked_of v (get_or ms i m))) (sym is) ∙ here in
      record {
        at = marked_of (get_or xs i a) (get_or ms i m);
        behind = drop (i + 1) (marked_all xs ms);
        here = at;
        mark = its-mark (marked_of (get_or xs i a) (get_or ms i m)) reason named;
        first = from.first ∙ ap (λ r. first_named z y r) at
            ∙ first-on (marked_of (get_or xs i a) (get_or ms i m)) (drop (i + 1) (marked_all xs ms)) (Some reason)
            named;
        once = from.once ∙ ap (λ r. take i (marked_all xs ms) ++ once_named z y r) at
            ∙ ap (λ r. take i (marked_all xs ms) ++ r)
            (once-on (marked_of (get_or xs i a) (get_or ms i m)) (drop (i + 1) (marked_all xs ms)) (Some reason) named);
      }

  -- what the code finds and marks, where one is named
  pub named-finding : (xs : List Arrived) (ms : List Mark) (i : ℕ) (a : Arrived) (reason : Reason) (others : Finding)
      → i < length ms → length ms ≤ length xs → IsNamedAt z y (marked_all xs ms) i reason
      → Passed (get_or xs i a).number reason ≡ finding_or (first_named z y (marked_all xs ms)) others
  named-finding xs ms i a reason others lt h n =
      let m : Mark = record { reason = None; is_named = false } in
      let here = sym (marked-at xs ms i a (record { reason = None; is_named = false }) lt h) ∙ n.here in
      let same : marked_of (get_or xs i a) (get_or ms i (record { reason = None; is_named = false })) ≡ n.at = cc in
      ap (λ (w : Marked). Passed w.arrival.tag reason) same
      ∙ ap (λ (o : Option Finding). finding_or o others) (sym n.first)

  pub named-marks : (xs : List Arrived) (ms : List Mark) (i : ℕ) (a : Arrived) (reason : Reason) → i < length ms
      → length ms ≤ length xs → IsNamedAt z y (marked_all xs ms) i reason
      → marked_all xs (set ms i (record { reason = Some reason; is_named = true })) ≡ once_named z y (marked_all xs ms)
  named-marks xs ms i a reason lt h n =
      let here = sym (marked-at xs ms i a (record { reason = None; is_named = false }) lt h) ∙ n.here in
      let same : marked_of (get_or xs i a) (get_or ms i (record { reason = None; is_named = false })) ≡ n.at = cc in
      marked-set xs ms i a (record { reason = Some reason; is_named = true }) lt h
      ∙ split-set (marked_all xs ms) i n.at (marked (arrival_of (get_or xs i a)) (Some reason) true) n.behind n.here
      ∙ ap (λ (w : Marked). take i (marked_all xs ms) ++ (marked w.arrival (Some reason) true ∷ n.behind)) same
      ∙ ap (λ (o : Option Reason). take i (marked_all xs ms) ++ (marked n.at.arrival o true ∷ n.behind)) (sym n.mark)
      ∙ sym n.once

-- ---- whether one of them passes a test

pub any-from : (test : Marked → Bool) (xs : List Arrived) (ms : List Mark) (i : ℕ) (a : Arrived) (m : Mark) (b : Bool)
    → i < length ms → length ms ≤ length xs → a ≡ get_or xs i a → test (marked_of a (get_or ms i m)) ≡ b
    → list_any test (drop i (marked_all xs ms)) ≡ (b || list_any test (drop (i + 1) (marked_all xs ms)))
any-from test xs ms i a m b lt h is e =
    ap (λ l. list_any test l) (marked-at xs ms i a m lt h)
    ∙ ap (λ (v : Arrived). test (marked_of v (get_or ms i m)) || list_any test (drop (i + 1) (marked_all xs ms)))
    (sym is)
    ∙ ap (λ (c : Bool). c || list_any test (drop (i + 1) (marked_all xs ms))) e

pub any-end : (test : Marked → Bool) (xs : List Arrived) (ms : List Mark) (i : ℕ) → length ms ≤ i
    → length ms ≤ length xs
    → list_any test (drop i (marked_all xs ms)) ≡ false
any-end test xs ms i le h =
    let all = length-marked xs ms h in
    ap (λ l. list_any test l) (drop_all i (marked_all xs ms) (omega (arith, all, le)))

-- where the first don't pass it
pub any-behind : (test : Marked → Bool) (xs : List Arrived) (ms : List Mark) (n : ℕ) → length ms ≤ length xs
    → n ≤ length ms
    → ((p : ℕ) (a : Arrived) (m : Mark) → p < n → test (marked_of (get_or xs p a) (get_or ms p m)) ≡ false)
    → list_any test (marked_all xs ms) ≡ list_any test (drop n (marked_all xs ms))
unfolding marked_all
any-behind test xs ms zero h le all = refl
any-behind test xs [] (suc n) h le all = absurd (omega (arith, le))
any-behind test [] (m ∷ ms) (suc n) h le all = absurd (omega (arith, h))
any-behind test (a ∷ xs) (m ∷ ms) (suc n) h le all =
    ap (λ (b : Bool). b || list_any test (marked_all xs ms)) (all 0 a m (omega arith))
    ∙ any-behind test xs ms n (omega (arith, h)) (omega (arith, le)) (λ p b k lt. all (suc p) b k (omega (arith, lt)))

-- ---- what is wrong with a frame

module _ (z : Terms) (l : List Marked) (y : Gone) where
  abbrev turn : Strangeness
  turn = if list_any (λ m. is_of_right z y m) l then OutOfTurn else NoArrival

  pub strange-damaged : (reason : Reason) → damage y.bytes ≡ Some reason → Shape reason ≡ strangeness z l y
  unfolding strangeness
  strange-damaged reason e = sym (ap (λ (o : Option Reason). damaged_or o turn) e)

  pub strange-turn : damage y.bytes ≡ None → list_any (λ m. is_of_right z y m) l ≡ true → OutOfTurn ≡ strangeness z l y
  unfolding strangeness
  strange-turn e k = sym (ap (λ (o : Option Reason). damaged_or o turn) e
      ∙ ap (λ (b : Bool). if b then OutOfTurn else NoArrival) k)

  pub strange-none : damage y.bytes ≡ None → list_any (λ m. is_of_right z y m) l ≡ false → NoArrival ≡ strangeness z l y
  unfolding strangeness
  strange-none e k = sym (ap (λ (o : Option Reason). damaged_or o turn) e
      ∙ ap (λ (b : Bool). if b then OutOfTurn else NoArrival) k)

-- ---- several

frames-more : (found : List Finding) (f : Finding) → frames_in (found ++ (f ∷ [])) ≡ frames_in found + frames_of f
unfolding frames_in
frames-more [] f = let e : frames_of f + 0 ≡ 0 + frames_of f = omega arith in e
frames-more (g ∷ found) f =
    let more = frames-more found f in
    omega (arith, more)

turned-more : (time : ℕ) (found : List Finding) (f : Finding)
    → map (found_at time) (reverse (found ++ (f ∷ []))) ≡ found_at time f ∷ map (found_at time) (reverse found)
turned-more time found f = ap (λ (l : List Finding). map (found_at time) l) (reverse-append found (f ∷ []))

-- one more finding
pub told-more : (time : ℕ) (found : List Finding) (f : Finding) (before after : List Marked) (j : Judged)
    → told time (found ++ (f ∷ [])) after j
    ≡ judged_with j.states after (found_at time f ∷ (told time found before j).findings)
    ((told time found before j).frames + frames_of f) j.uncertain j.is_unsure
told-more time found f before after j =
    let sum : j.frames + frames_in (found ++ (f ∷ [])) ≡ j.frames + frames_in found + frames_of f =
    omega (arith, frames-more found f) in
    ap (λ (l : List Found). judged_with j.states after (l ++ j.findings) (j.frames + frames_in (found ++ (f ∷ [])))
    j.uncertain j.is_unsure) (turned-more time found f)
    ∙ ap (λ (n : ℕ). judged_with j.states after
    (found_at time f ∷ (map (found_at time) (reverse found) ++ j.findings)) n
    j.uncertain j.is_unsure) sum

pub told-none : (time : ℕ) (arrivals : List Marked) (j : Judged) → j.arrivals ≡ arrivals → told time [] arrivals j ≡ j
unfolding frames_in
told-none time arrivals j e =
    let same : j.frames + 0 ≡ j.frames = omega arith in
    ap (λ (n : ℕ). judged_with j.states arrivals j.findings n j.uncertain j.is_unsure) same
    ∙ ap (λ (l : List Marked). judged_with j.states l j.findings j.frames j.uncertain j.is_unsure) (sym e)

-- one finding more, if there is one
pub told-last : (time : ℕ) (found : List Finding) (last : Option Finding) (arrivals : List Marked) (j : Judged)
    → told time (found ++ option_to_list last) arrivals j ≡ with_last time last (told time found arrivals j)
told-last time found None arrivals j = ap (λ (l : List Finding). told time l arrivals j) (append-nil found)
told-last time found (Some f) arrivals j = told-more time found f arrivals arrivals j

module _ (z : Terms) (time : ℕ) where
  frames-named : (y : Gone) (l : List Marked) (s : Finding) → frames_of s ≡ 1
      → frames_of (finding_or (first_named z y l) s) ≡ 1
  unfolding first_named
  frames-named y [] s h = h
  frames-named y (m ∷ more) s h = by (names_it z y m) (frames-named y more s h)
    where
      by : (o : Option Reason) → frames_of (finding_or (first_named z y more) s) ≡ 1
          → frames_of (finding_or (passed_or o m.arrival.tag (first_named z y more)) s) ≡ 1
      by (Some reason) k = refl
      by None k = k

  -- the finding of one more frame that no arrival explains
  pub told-unexplained : (found : List Finding) (f : Finding) (before after : List Marked) (y : Gone) (j : Judged)
      → f ≡ finding_or (first_named z y before) (Strange y.number (strangeness z before y))
      → after ≡ once_named z y before
      → told time (found ++ (f ∷ [])) after j ≡ unexplained z time y (told time found before j)
  unfolding unexplained
  told-unexplained found f before after y j e k =
      let one : frames_of f ≡ 1 = ap (λ (g : Finding). frames_of g) e
      ∙ frames-named y before (Strange y.number (strangeness z before y)) refl in
      told-more time found f before after j
      ∙ ap (λ (n : ℕ). judged_with j.states after (found_at time f ∷ (told time found before j).findings)
      ((told time found before j).frames + n) j.uncertain j.is_unsure) one
      ∙ ap (λ (g : Finding). judged_with j.states after (found_at time g ∷ (told time found before j).findings)
      ((told time found before j).frames + 1) j.uncertain j.is_unsure) e
      ∙ ap (λ (l : List Marked). judged_with j.states l
      (found_at time (finding_or (first_named z y before) (Strange y.number (strangeness z before y)))
      ∷ (told time found before j).findings)
      ((told time found before j).frames + 1) j.uncertain j.is_unsure) k

  pub all-more : (xs : List Gone) (y : Gone) (j : Judged)
      → unexplained_all z time (xs ++ (y ∷ [])) j ≡ unexplained z time y (unexplained_all z time xs j)
  unfolding unexplained_all
  all-more [] y j = refl
  all-more (x ∷ xs) y j = all-more xs y (unexplained z time x j)

  pub all-none : (j : Judged) → unexplained_all z time [] j ≡ j
  unfolding unexplained_all
  all-none j = refl
