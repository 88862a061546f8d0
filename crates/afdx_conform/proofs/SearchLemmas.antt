-- What is found of a frame by a look at the arrivals alone that have its bytes.
use Rattle.std.proofs.Common.{◌≡◌, ℕ, zero, suc, ◌+◌, ◌*◌, ◌≤◌, Bool, true, false, ◌&&◌, List, [], ◌∷◌, ◌++◌, map, take, drop, get_or, length, refl, sym, ap, ◌∙◌, subst, arith}
use Rattle.std.proofs.lemmas.Bool.{and_left, and_right}
use Rattle.std.proofs.lemmas.List.{append_assoc, drop-drop, length-drop, take_all}
use Rattle.std.specs.List.{list_any}
use Rattle.std.specs.Int.{div_ceil}
use Rattle.std.specs.Prelude.{if◌then◌else◌, ◌||◌, not, is_none, None}
use Rattle.afdx_conform.specs.Findings.{Marked, first_named, is_of_right, named_or, names_it, once_named, passed_or}
use Rattle.afdx_conform.specs.KnownBytes.{AreOthers, StandAt, may_fit}
use Rattle.afdx_conform.specs.Levels.{parts}
use Rattle.afdx_conform.specs.Limits.{AreLimits, gone_of}
use Rattle.afdx_conform.specs.Marks.{arrival_of, marked_all, marked_of}
use Rattle.afdx_conform.specs.Naming.{IsNoneNamed, NoneIsWanted, may_be_named}
use Rattle.afdx_conform.specs.Streams.{Gone, Terms, fits}
use Rattle.afdx_conform.specs.declared.arrived.Arrived.{Arrived}
use Rattle.afdx_conform.specs.declared.finding.Mark.{Mark}
use Rattle.afdx_conform.specs.declared.gaps.Wanted.TheVariants.{ToName, Accepted}
use Rattle.afdx_conform.specs.declared.limits.LeftFrame.{LeftFrame}
use Rattle.afdx_conform.specs.declared.limits.Limits.{Limits}
use Rattle.afdx_conform.proofs.LimitLemmas.{fits-is}
use Rattle.afdx_conform.proofs.NamingLemmas.{IsNamedFrom, any-behind, any-end, from-end, from-unnamed, unfitting, unnamed}
use Rattle.afdx_conform.proofs.PlacesLemmas.{IsReached, none-left}

take-none : {X : Type 0} (n : ℕ) (l : List X) → l ≡ [] → take n l ≡ []
take-none zero l e = refl
take-none (suc n) [] e = refl
take-none (suc n) (x ∷ l) e = absurd (cc)

take-add : {X : Type 0} (i n : ℕ) (l : List X) → take (i + n) l ≡ take i l ++ take n (drop i l)
take-add zero n l = let same : 0 + n ≡ n = omega arith in ap (λ (m : ℕ). take m l) same
take-add (suc i) n [] = take-none (suc i + n) [] refl ∙ sym (take-none n [] refl)
take-add (suc i) n (x ∷ l) =
    let on : suc i + n ≡ suc (i + n) = omega arith in
    ap (λ (m : ℕ). take m (x ∷ l)) on ∙ ap (λ t. x ∷ t) (take-add i n l)

marked-none : (l : List Arrived) → marked_all l [] ≡ []
unfolding marked_all
marked-none [] = refl
marked-none (a ∷ l) = refl

marked-drop : (n : ℕ) (xs : List Arrived) (ms : List Mark) → drop n (marked_all xs ms) ≡ marked_all (drop n xs)
    (drop n ms)
unfolding marked_all
marked-drop zero xs ms = refl
marked-drop (suc n) [] [] = refl
marked-drop (suc n) [] (m ∷ ms) = refl
marked-drop (suc n) (a ∷ xs) [] = sym (marked-none (drop n xs))
marked-drop (suc n) (a ∷ xs) (m ∷ ms) = marked-drop n xs ms

-- all of several are all of so many of them
others-all : (test : Arrived → Bool) (xs : List Arrived) → AreOthers test xs → AreOthers test (take (length xs) xs)
others-all test xs all = subst (λ (l : List Arrived). AreOthers test l) (sym (take_all (length xs) xs (omega arith)))
    all

module _ (z : Terms) (limits : Limits) (f : LeftFrame) (k' : AreLimits z limits) where
  abbrev y : Gone
  y = gone_of f

  abbrev fit : Arrived → Bool
  fit = may_fit limits f

  fits-none : (a : Arrived) → fit a ≡ false → fits z (arrival_of a) y ≡ false
  unfolding may_fit
  fits-none a e =
      fits-is z (arrival_of a) y limits a.time (div_ceil (parts * ((length a.bytes + 8) * limits.byte_ns))
      (parts + limits.drift))
      a.bytes k' refl refl refl ∙ e

  -- ---- arrivals that came later

  fit-past : (n : ℕ) (xs : List Arrived) → AreOthers fit (take n xs)
      → list_any (λ w. fits z w y) (map arrival_of xs) ≡ list_any (λ w. fits z w y) (map arrival_of (drop n xs))
  fit-past zero xs all = refl
  fit-past (suc n) [] all = refl
  fit-past (suc n) (a ∷ xs) all = ap (λ (t : Bool). t || list_any (λ w. fits z w y) (map arrival_of xs))
      (fits-none a all.0) ∙ fit-past n xs all.1

  pub fit-reached : (xs : List Arrived) (at p : ℕ) (rest : List ℕ) → IsReached fit xs at p rest
      → list_any (λ w. fits z w y) (map arrival_of (drop at xs)) ≡ list_any (λ w. fits z w y)
      (map arrival_of (drop p xs))
  fit-reached xs at p rest k =
      fit-past k.skipped (drop at xs) k.others
      ∙ ap (λ (l : List Arrived). list_any (λ w. fits z w y) (map arrival_of l))
      (drop-drop k.skipped at xs ∙ ap (λ (n : ℕ). drop n xs) (sym k.place))

  pub fit-none : (xs : List Arrived) → AreOthers fit xs → list_any (λ w. fits z w y) (map arrival_of xs) ≡ false
  fit-none [] all = refl
  fit-none (a ∷ xs) all = ap (λ (t : Bool). t || list_any (λ w. fits z w y) (map arrival_of xs))
      (fits-none a all.0) ∙ fit-none xs all.1

  -- ---- arrivals that aren't refused

  right-past : (n : ℕ) (xs : List Arrived) (ms : List Mark) → AreOthers fit (take n xs)
      → list_any (λ m. is_of_right z y m) (marked_all xs ms) ≡ list_any (λ m. is_of_right z y m)
      (drop n (marked_all xs ms))
  unfolding marked_all
  right-past zero xs ms all = refl
  right-past (suc n) [] [] all = refl
  right-past (suc n) [] (m ∷ ms) all = refl
  right-past (suc n) (a ∷ xs) [] all = refl
  right-past (suc n) (a ∷ xs) (m ∷ ms) all = ap (λ (t : Bool). (t && is_none m.reason)
      || list_any (λ n. is_of_right z y n) (marked_all xs ms)) (fits-none a all.0)
      ∙ right-past n xs ms all.1

  right-from : (n at : ℕ) (xs : List Arrived) (ms : List Mark) → AreOthers fit (take n (drop at xs))
      → list_any (λ m. is_of_right z y m) (drop at (marked_all xs ms))
      ≡ list_any (λ m. is_of_right z y m) (drop (at + n) (marked_all xs ms))
  right-from n at xs ms all =
      ap (λ (l : List Marked). list_any (λ m. is_of_right z y m) l) (marked-drop at xs ms)
      ∙ right-past n (drop at xs) (drop at ms) all
      ∙ ap (λ (l : List Marked). list_any (λ m. is_of_right z y m) (drop n l)) (sym (marked-drop at xs ms))
      ∙ ap (λ (l : List Marked). list_any (λ m. is_of_right z y m) l) (drop-drop n at (marked_all xs ms))

  pub right-reached : (xs : List Arrived) (ms : List Mark) (at p : ℕ) (rest : List ℕ) → IsReached fit xs at p rest
      → list_any (λ m. is_of_right z y m) (drop at (marked_all xs ms))
      ≡ list_any (λ m. is_of_right z y m) (drop p (marked_all xs ms))
  right-reached xs ms at p rest k = right-from k.skipped at xs ms k.others
      ∙ ap (λ (n : ℕ). list_any (λ m. is_of_right z y m) (drop n (marked_all xs ms))) (sym k.place)

  -- ---- the first that a finding may name

  named-past : (n : ℕ) (xs : List Arrived) (ms : List Mark) → AreOthers fit (take n xs)
      → IsNamedFrom z y (marked_all xs ms) n
  unfolding first_named once_named marked_all
  named-past zero xs ms all = record { first = refl; once = refl }
  named-past (suc n) [] [] all = record { first = refl; once = refl }
  named-past (suc n) [] (m ∷ ms) all = record { first = refl; once = refl }
  named-past (suc n) (a ∷ xs) [] all = record { first = refl; once = refl }
  named-past (suc n) (a ∷ xs) (m ∷ ms) all =
      let more = named-past n xs ms all.1 in
      record {
        first = ap (λ (t : Bool). passed_or (if t && not m.is_named then m.reason else None)
            (arrival_of a).tag (first_named z y (marked_all xs ms))) (fits-none a all.0) ∙ more.first;
        once = ap (λ (t : Bool). named_or (if t && not m.is_named then m.reason else None)
            (marked_of a m) (marked_all xs ms) (once_named z y (marked_all xs ms))) (fits-none a all.0)
            ∙ ap (λ (l : List Marked). marked_of a m ∷ l) more.once;
      }

  named-on : (l : List Marked) (at n : ℕ) → IsNamedFrom z y l at → IsNamedFrom z y (drop at l) n
      → IsNamedFrom z y l (at + n)
  named-on l at n from more =
      let later = drop-drop n at l in
      record {
        first = from.first ∙ more.first ∙ ap (λ (r : List Marked). first_named z y r) later;
        once = from.once ∙ ap (λ (r : List Marked). take at l ++ r) more.once
            ∙ sym (append_assoc (take at l) (take n (drop at l)) (once_named z y (drop n (drop at l))))
            ∙ ap (λ (r : List Marked). r ++ once_named z y (drop n (drop at l))) (sym (take-add at n l))
            ∙ ap (λ (r : List Marked). take (at + n) l ++ once_named z y r) later;
      }

  named-from : (n at : ℕ) (xs : List Arrived) (ms : List Mark) → AreOthers fit (take n (drop at xs))
      → IsNamedFrom z y (marked_all xs ms) at → IsNamedFrom z y (marked_all xs ms) (at + n)
  named-from n at xs ms all from = named-on (marked_all xs ms) at n from
      (subst (λ (l : List Marked). IsNamedFrom z y l n) (sym (marked-drop at xs ms))
      (named-past n (drop at xs) (drop at ms) all))

  pub named-reached : (xs : List Arrived) (ms : List Mark) (at p : ℕ) (rest : List ℕ) → IsReached fit xs at p rest
      → IsNamedFrom z y (marked_all xs ms) at → IsNamedFrom z y (marked_all xs ms) p
  named-reached xs ms at p rest k from = subst (λ (n : ℕ). IsNamedFrom z y (marked_all xs ms) n) (sym k.place)
      (named-from k.skipped at xs ms k.others from)

  -- where none is left that has the bytes
  pub named-nowhere : (xs : List Arrived) (ms : List Mark) (at : ℕ) (ps : List ℕ) → ps ≡ [] → length ms ≤ length xs
      → StandAt fit at (drop at xs) ps → IsNamedFrom z y (marked_all xs ms) at → IsNoneNamed z y (marked_all xs ms)
  named-nowhere xs ms at ps e le h from =
      let none = none-left fit at (drop at xs) (subst (λ (l : List ℕ). StandAt fit at (drop at xs) l) e h) in
      let long = length-drop at xs in
      from-end z y xs ms (at + length (drop at xs)) (omega (arith, le, long)) le
      (named-from (length (drop at xs)) at xs ms (others-all fit (drop at xs) none) from)

  pub right-nowhere : (xs : List Arrived) (ms : List Mark) (at : ℕ) (ps : List ℕ) → ps ≡ [] → length ms ≤ length xs
      → StandAt fit at (drop at xs) ps → list_any (λ m. is_of_right z y m) (drop at (marked_all xs ms)) ≡ false
  right-nowhere xs ms at ps e le h =
      let none = none-left fit at (drop at xs) (subst (λ (l : List ℕ). StandAt fit at (drop at xs) l) e h) in
      let long = length-drop at xs in
      right-from (length (drop at xs)) at xs ms (others-all fit (drop at xs) none)
      ∙ any-end (λ m. is_of_right z y m) xs ms (at + length (drop at xs)) (omega (arith, le, long)) le

  pub fit-nowhere : (xs : List Arrived) (at : ℕ) (ps : List ℕ) → ps ≡ [] → StandAt fit at (drop at xs) ps
      → list_any (λ w. fits z w y) (map arrival_of (drop at xs)) ≡ false
  fit-nowhere xs at ps e h = fit-none (drop at xs)
      (none-left fit at (drop at xs) (subst (λ (l : List ℕ). StandAt fit at (drop at xs) l) e h))

  -- ---- behind those that aren't wanted

  not-named : (a : Arrived) (m : Mark) → (fit a ≡ true → may_be_named m ≡ false) → names_it z y (marked_of a m) ≡ None
  not-named a m h = by (fit a) refl
    where
      by : (b : Bool) → fit a ≡ b → names_it z y (marked_of a m) ≡ None
      by true e = unnamed z y a m (h e)
      by false e = unfitting z y a m (fits-none a e)

  pub named-behind : (xs : List Arrived) (ms : List Mark) (n : ℕ) → length ms ≤ length xs
      → NoneIsWanted ToName limits f n xs ms → IsNamedFrom z y (marked_all xs ms) n
  named-behind xs ms n h w = from-unnamed z y xs ms n h w.within
      (λ p a m lt. not-named (get_or xs p a) (get_or ms p m) (w.none p a m lt))

  not-right : (a : Arrived) (m : Mark) → (fit a ≡ true → is_none m.reason ≡ false)
      → is_of_right z y (marked_of a m) ≡ false
  not-right a m h = by (fit a) refl
    where
      by : (b : Bool) → fit a ≡ b → is_of_right z y (marked_of a m) ≡ false
      by true e = and_right (fits z (arrival_of a) y) (is_none m.reason) (h e)
      by false e = and_left (fits z (arrival_of a) y) (is_none m.reason) (fits-none a e)

  pub right-behind : (xs : List Arrived) (ms : List Mark) (n : ℕ) → length ms ≤ length xs
      → NoneIsWanted Accepted limits f n xs ms
      → list_any (λ m. is_of_right z y m) (marked_all xs ms) ≡ list_any (λ m. is_of_right z y m)
      (drop n (marked_all xs ms))
  right-behind xs ms n h w = any-behind (λ m. is_of_right z y m) xs ms n h w.within
      (λ p a m lt. not-right (get_or xs p a) (get_or ms p m) (w.none p a m lt))
