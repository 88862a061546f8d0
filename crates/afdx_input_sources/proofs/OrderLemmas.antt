-- The moments of the arrivals of recordings don't decrease, nor do their times.
use Rattle.std.proofs.Common.{◌≡◌, ◌≤◌, ℕ, List, [], ◌∷◌, ◌++◌, reverse, refl, ap, sym, ◌∙◌, subst}
use Rattle.std.proofs.Common.{Option, Some, None, arith, true, false, Bool, if◌then◌else◌}
use Rattle.std.proofs.lemmas.Bool.{ltb-false, ltb-true}
use Rattle.std.proofs.lemmas.List.{reverse-append}
use Rattle.afdx_input_lines.specs.declared.fault.RunFault.{RunFault}
use Rattle.afdx_input_sources.specs.Engine.{Item}
use Rattle.afdx_input_sources.specs.Items.{arrivals}
use Rattle.afdx_input_sources.specs.declared.number.Number.{Number}
use Rattle.afdx_input_sources.specs.declared.number.Number.TheVariants as number
use Rattle.afdx_input_sources.specs.Laws.{AreInOrder}
use Rattle.afdx_input_sources.specs.Merging.{is_earlier}
use Rattle.afdx_input_sources.specs.NumberLines.{Lines, arrivals_listed, as_arrival, comes_at, latest_time, time_or}
use Rattle.afdx_input_sources.specs.Sequences.{Numbers, latest_of, moment_or}
use Rattle.afdx_input_sources.specs.Taking.{both_numbers, by_moment}
use Rattle.afdx_input_sources.specs.Timing.{Timed, is_late, line_by, origin_in, time_next, timed}
use Rattle.afdx_input_sources.proofs.ArrivingLemmas.{listed-latest}
use Rattle.afdx_input_sources.proofs.HandingLemmas.{AreOrdered}
use Rattle.afdx_input_sources.proofs.MergeLemmas.{IsNext, IsSooner, merge-keeps}
use Rattle.afdx_input_sources.proofs.TimingLemmas.{Line-of, IsInTime, in-time, in-time-more, time-grows}

-- ---- the numbers of two recordings

-- these come, and none is earlier than this moment, or than those before it
abbrev Ascend : ℕ → List (Item Number) → Type 0
Ascend latest [] = Unit {0}
Ascend latest (x ∷ xs) = (latest ≤ moment_or x.head latest) × Ascend (moment_or x.head latest) xs

-- the latest moment behind these
abbrev latest-behind : ℕ → List (Item Number) → ℕ
latest-behind latest [] = latest
latest-behind latest (x ∷ xs) = latest-behind (moment_or x.head latest) xs

behind-append : (latest : ℕ) (xs : List (Item Number)) (x : Item Number)
    → latest-behind latest (xs ++ x ∷ []) ≡ moment_or x.head (latest-behind latest xs)
behind-append latest [] x = refl
behind-append latest (y ∷ xs) x = behind-append (moment_or y.head latest) xs x

ascend-append : (latest : ℕ) (xs : List (Item Number)) (x : Item Number) → Ascend latest xs
    → latest-behind latest xs ≤ moment_or x.head (latest-behind latest xs) → Ascend latest (xs ++ x ∷ [])
ascend-append latest [] x h le = (le, tt)
ascend-append latest (y ∷ xs) x h le = (h.0, ascend-append (moment_or y.head latest) xs x h.1 le)

behind-reverse : (past : Numbers) → latest-behind 0 (reverse past) ≡ latest_of past
unfolding latest_of
behind-reverse [] = refl
behind-reverse (x ∷ past) =
    ap (λ (xs : List (Item Number)). latest-behind 0 xs) (reverse-append (x ∷ []) past)
    ∙ behind-append 0 (reverse past) x
    ∙ ap (λ (m : ℕ). moment_or x.head m) (behind-reverse past)

ascend-reverse : (past : Numbers) → AreOrdered past → Ascend 0 (reverse past)
unfolding latest_of
ascend-reverse [] h = tt
ascend-reverse (x ∷ past) h =
    let le : latest_of past ≤ moment_or x.head (latest_of past) = h.0 in
    subst (λ (xs : List (Item Number)). Ascend 0 xs) (sym (reverse-append (x ∷ []) past))
    (ascend-append 0 (reverse past) x (ascend-reverse past h.1)
    (subst (λ (m : ℕ). m ≤ moment_or x.head m) (sym (behind-reverse past)) le))

-- one of the other recording still comes in order, behind one more
pub record ComesBehind (latest next : ℕ) (n : Number) : Type 0 where
  pub le : next ≤ moment_or n next
  pub same : moment_or n latest ≡ moment_or n next

ascend-behind : (latest next : ℕ) (z : Item Number) (zs : List (Item Number)) → ComesBehind latest next z.head
    → Ascend latest (z ∷ zs) → Ascend next (z ∷ zs)
ascend-behind latest next z zs c a = (c.le, subst (λ (m : ℕ). Ascend m zs) c.same a.1)

-- what doesn't come before this one
next-head : (latest : ℕ) (x y : Number) → is_earlier (comes_at y) (comes_at x) ≡ false → latest ≤ moment_or y latest
    → ComesBehind latest (moment_or x latest) y
next-head latest (number.Skipped reason) y e le = record { le = le; same = refl }
next-head latest (number.Arrival found) (number.Arrival other) e le =
    record { le = ltb-false other.moment found.moment e; same = refl }
next-head latest (number.Arrival found) (number.Skipped reason) e le = absurd (cc e)

-- what this one comes before
sooner-head : (latest : ℕ) (y x : Number) → is_earlier (comes_at y) (comes_at x) ≡ true → latest ≤ moment_or x latest
    → ComesBehind latest (moment_or y latest) x
sooner-head latest (number.Skipped reason) x e le = record { le = le; same = refl }
sooner-head latest (number.Arrival found) (number.Arrival other) e le =
    let less = ltb-true found.moment other.moment e in record { le = omega (arith, less); same = refl }
sooner-head latest (number.Arrival found) (number.Skipped reason) e le = absurd (cc e)

-- these came in order, and so does what is left of both
record GoOn (past xs ys : List (Item Number)) : Type 0 where
  ordered : AreOrdered past
  first : Ascend (latest_of past) xs
  second : Ascend (latest_of past) ys

after-first : (latest : ℕ) (x : Item Number) (ys : List (Item Number)) → IsNext by_moment x ys → Ascend latest ys
    → Ascend (moment_or x.head latest) ys
after-first latest x [] is a = tt
after-first latest x (y ∷ ys) is a =
    ascend-behind latest (moment_or x.head latest) y ys (next-head latest x.head y.head is a.0) a

after-second : (latest : ℕ) (y : Item Number) (xs : List (Item Number)) → IsSooner by_moment y xs → Ascend latest xs
    → Ascend (moment_or y.head latest) xs
after-second latest y [] is a = tt
after-second latest y (x ∷ xs) is a =
    ascend-behind latest (moment_or y.head latest) x xs (sooner-head latest y.head x.head is a.0) a

one-first : (past : Numbers) (x : Item Number) (xs ys : List (Item Number)) → IsNext by_moment x ys
    → GoOn past (x ∷ xs) ys → GoOn (x ∷ past) xs ys
unfolding latest_of
one-first past x xs ys is h = record {
  ordered = (h.first.0, h.ordered);
  first = h.first.1;
  second = after-first (latest_of past) x ys is h.second;
}

one-second : (past : Numbers) (y : Item Number) (xs ys : List (Item Number)) → IsSooner by_moment y xs
    → GoOn past xs (y ∷ ys) → GoOn (y ∷ past) xs ys
unfolding latest_of
one-second past y xs ys is h = record {
  ordered = (h.second.0, h.ordered);
  first = after-second (latest_of past) y xs is h.first;
  second = h.second.1;
}

-- whatever fault stands behind each
pub merged-ordered : (a b : Numbers) (fault_a fault_b : Option RunFault) → AreOrdered a → AreOrdered b
    → AreOrdered (both_numbers (record { next = reverse a; fault = fault_a })
    (record { next = reverse b; fault = fault_b })).items
unfolding latest_of
merged-ordered a b fault_a fault_b h k =
    let start : GoOn [] (reverse a) (reverse b) =
    record { ordered = tt; first = ascend-reverse a h; second = ascend-reverse b k } in
    (merge-keeps by_moment GoOn (record { first = one-first; second = one-second })
    [] (reverse a) fault_a (reverse b) fault_b start).so.ordered

-- ---- their lines

abbrev Arrivals-of : Lines → Type 0
Arrivals-of lines = AreInOrder (arrivals (arrivals_listed lines))

-- one line more
line-ordered : (origin : Option ℕ) (x : Item Number) (moment : ℕ) (lines : Lines)
    → IsInTime origin moment (latest_time lines) → moment ≤ moment_or x.head moment
    → is_late origin x.head ≡ false → Arrivals-of lines → Arrivals-of (Line-of origin x ∷ lines)
unfolding arrivals_listed line_by
line-ordered origin x moment lines h le early o = by x.head refl
  where
    by : (head : Number) → x.head ≡ head
        → AreInOrder (arrivals (as_arrival x.number x.bytes (line_by origin head) (arrivals_listed lines)))
    by (number.Arrival found) is =
        let e = subst (λ (n : Number). is_late origin n ≡ false) is early in
        let le' = subst (λ (n : Number). moment ≤ moment_or n moment) is le in (
          subst (λ (t : ℕ). t ≤ time_or (line_by origin (number.Arrival found)) t) (sym (listed-latest lines))
              (time-grows origin (number.Arrival found) moment (latest_time lines) h le'),
          (in-time-more origin (number.Arrival found) moment (latest_time lines) h e).early,
          o,
        )
    by (number.Skipped reason) is = o

module _ (late : Item Number → RunFault) (said : Option ℕ) where
  next-lines : (past : Numbers) (x : Item Number) (lines : Lines) (fault : Option RunFault)
      → timed late said past ≡ record { lines = lines; fault = fault }
      → latest_of past ≤ moment_or x.head (latest_of past) → Arrivals-of lines
      → Arrivals-of (time_next late (origin_in said past) x lines fault).lines
  next-lines past x lines (Some fault) e le o = o
  next-lines past x lines None e le o = by (is_late (origin_in said past) x.head) refl
    where
      by : (t : Bool) → is_late (origin_in said past) x.head ≡ t
          → Arrivals-of (if◌then◌else◌ {A = Timed} t (record { lines = lines; fault = Some (late x) })
          (record { lines = Line-of (origin_in said past) x ∷ lines; fault = None })).lines
      by true is = o
      by false is =
          line-ordered (origin_in said past) x (latest_of past) lines (in-time late said past lines e) le is o

  pub lines-ordered : (numbers : Numbers) → AreOrdered numbers → Arrivals-of (timed late said numbers).lines
  unfolding timed latest_of arrivals_listed
  lines-ordered [] h = tt
  lines-ordered (x ∷ past) h =
      next-lines past x (timed late said past).lines (timed late said past).fault refl h.0 (lines-ordered past h.1)
