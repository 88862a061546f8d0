-- What comes from both sides, merged.
use Rattle.std.proofs.Common.{◌≡◌, ℕ, ◌+◌, ◌*◌, ◌<◌, ◌≤◌, Bool, true, false, not, List, [], ◌∷◌}
use Rattle.std.proofs.Common.{map, filter, refl, sym, ap, ◌∙◌, arith, nat_lt, inl, inr}
use Rattle.std.specs.Prelude.{if◌then◌else◌, ◌⊎◌}
use Rattle.std.specs.List.{AllByRecursion}
use Rattle.std.proofs.lemmas.Bool.{ltb-false, lt-ltb, le-ltb, cases_lt}
use Rattle.afdx_frame.specs.declared.link.Side.{Side}
use Rattle.afdx_frame.specs.declared.link.Side.TheVariants.{A, B}
use Rattle.afdx_frame.specs.Sides.{is_side}
use Rattle.afdx_port.specs.Schedule.{Entry, Turn, AreTurns, end_of}
use Rattle.afdx_receive.specs.Arrivals.{Arrived}
use Rattle.afdx_switch.specs.Admitted.{slots}
use Rattle.afdx_switch.specs.HeldFrames.{HeldFrame}
use Rattle.afdx_switch.specs.Tables.{byte_ns_at, entries_at}
use Rattle.afdx_switch.proofs.ListLemmas.{bool_cases}
use Rattle.afdx_network.specs.Events.{turns_at}
use Rattle.afdx_network.specs.Order.{side_number}
use Rattle.afdx_law_promises.specs.Receptions.{brought, is_from, order_of, ComeInOrder, put_in, merged, receptions_at}
use Rattle.afdx_law_promises.specs.NetworkPromises.{ReceptionsAreOne, ReceptionsExist}
use Rattle.afdx_law_promises.proofs.ListLemmas.{all-imply, all-filter, all-map}
use Rattle.afdx_law_promises.proofs.PortLemmas.{its-turns}

-- ---- orders

even-of : (x : Arrived) → is_from A x ≡ true → order_of x ≡ 2 * x.time
even-of x from = by x.side from
  where
    by : (s : Side) → is_side s A ≡ true → 2 * x.time + side_number s ≡ 2 * x.time
    by A h = omega arith
    by B h = absurd (cc h)

odd-of : (x : Arrived) → is_from B x ≡ true → order_of x ≡ 2 * x.time + 1
odd-of x from = by x.side from
  where
    by : (s : Side) → is_side s B ≡ true → 2 * x.time + side_number s ≡ 2 * x.time + 1
    by A h = absurd (cc h)
    by B h = refl

either-side : (x : Arrived) → ((is_from A x ≡ true) × (is_from B x ≡ false))
    ⊎ ((is_from A x ≡ false) × (is_from B x ≡ true))
either-side x = by x.side
  where
    by : (s : Side) → ((is_side s A ≡ true) × (is_side s B ≡ false)) ⊎ ((is_side s A ≡ false) × (is_side s B ≡ true))
    by A = inl (refl, refl)
    by B = inr (refl, refl)

-- one of A stands before one of B of the same time
strict : (a b : Arrived) → is_from A a ≡ true → is_from B b ≡ true → order_of b ≤ order_of a → order_of b < order_of a
strict a b own_a own_b le = let even = even-of a own_a in let odd = odd-of b own_b in
    odd-even (order_of b) (order_of a) b.time a.time le odd even
  where
    odd-even : (m n s t : ℕ) → m ≤ n → m ≡ 2 * s + 1 → n ≡ 2 * t → m < n
    odd-even m n s t le odd even = omega (arith, le, odd, even)

-- ---- only one list

-- what isn't after the head stands before it
put-last : (x : Arrived) (xs : List Arrived) → AllByRecursion (λ y. order_of y ≤ order_of x) xs → put_in x xs ≡ x ∷ xs
put-last x [] all = refl
put-last x (y ∷ ys) all = ap (λ b. if b then y ∷ put_in x ys else x ∷ y ∷ ys) (le-ltb (order_of x) (order_of y) all.0)

AreOfB : Arrived → List Arrived → Type 0
AreOfB x from_b = AllByRecursion (λ b. (order_of b ≤ order_of x) × (is_from B b ≡ true)) from_b

merge-first : (x : Arrived) (from_a from_b : List Arrived) → is_from A x ≡ true → AreOfB x from_b
    → merged (x ∷ from_a) from_b ≡ x ∷ merged from_a from_b
unfolding AreOfB
merge-first x from_a [] from all = refl
merge-first x from_a (b ∷ from_b) from all =
    let later : order_of b < order_of x = strict x b from all.0.1 all.0.0 in
    ap (put_in b) (merge-first x from_a from_b from all.1)
    ∙ ap (λ c. if c then x ∷ put_in b (merged from_a from_b) else b ∷ x ∷ merged from_a from_b)
    (lt-ltb (order_of b) (order_of x) later)

pub merge-of : (came : List Arrived) → ComeInOrder came
    → came ≡ merged (filter (is_from A) came) (filter (is_from B) came)
unfolding AreOfB
merge-of [] order = refl
merge-of (x ∷ past) order = by (either-side x) (merge-of past order.1)
  where
    by : ((is_from A x ≡ true) × (is_from B x ≡ false))
        ⊎ ((is_from A x ≡ false) × (is_from B x ≡ true))
        → past ≡ merged (filter (is_from A) past) (filter (is_from B) past) →
        x ∷ past ≡ merged (if is_from A x then x ∷ filter (is_from A) past else filter (is_from A)
        past) (if is_from B x then x ∷ filter (is_from B) past else filter (is_from B) past)
    by (inl here) rest =
        rw (here.0, here.1) (ap (λ zs. x ∷ zs) rest
        ∙ sym (merge-first x (filter (is_from A) past) (filter (is_from B) past) here.0
        (all-filter (λ y. order_of y ≤ order_of x) (is_from B) past order.0)))
    by (inr there) rest =
        rw (there.0, there.1) (sym (put-last x past order.0) ∙ ap (put_in x) rest)

pub receptions-one : ReceptionsAreOne
unfolding receptions_at
receptions-one t port arrivals came are =
    merge-of came are.in_order
    ∙ ap (λ from_a. merged from_a (filter (is_from B) came)) (are.by_side A)
    ∙ ap (merged (map (brought A) (slots (turns_at t A port arrivals)))) (are.by_side B)

-- ---- there is one

put-all : (P : Arrived → Type 0) (x : Arrived) (xs : List Arrived) → P x → AllByRecursion P xs
    → AllByRecursion P (put_in x xs)
put-all P x [] own all = (own, tt)
put-all P x (y ∷ ys) own all = by (nat_lt (order_of x) (order_of y)) (put-all P x ys own all.1)
  where
    by : (b : Bool) → AllByRecursion P (put_in x ys) → AllByRecursion P (if b then y ∷ put_in x ys else x ∷ y ∷ ys)
    by true rest = (all.0, rest)
    by false rest = (own, all)

put-ordered : (x : Arrived) (xs : List Arrived) → ComeInOrder xs → ComeInOrder (put_in x xs)
put-ordered x [] order = (tt, tt)
put-ordered x (y ∷ ys) order = by (nat_lt (order_of x) (order_of y)) refl (put-ordered x ys order.1)
  where
    by : (b : Bool) → nat_lt (order_of x) (order_of y) ≡ b → ComeInOrder (put_in x ys)
        → ComeInOrder (if b then y ∷ put_in x ys else x ∷ y ∷ ys)
    by true less rest = (
      put-all (λ z. order_of z ≤ order_of y) x ys
          (below (order_of x) (order_of y) less) order.0,
      rest,
    )
      where
        below : (m n : ℕ) → nat_lt m n ≡ true → m ≤ n
        below m n h = elim (cases_lt m n) [ inl lt ↦ omega (arith, lt) | inr ge ↦ absurd (let k = le-ltb m n ge in cc) ]
    by false more rest =
        let last : order_of y ≤ order_of x = ltb-false (order_of x) (order_of y) more in (
          (
            last,
            all-imply (λ z. order_of z ≤ order_of y) (λ z. order_of z ≤ order_of x) ys
                (λ z le. omega (arith, le, last)) order.0,
          ),
          order,
        )

merged-ordered : (from_a from_b : List Arrived) → ComeInOrder from_a → ComeInOrder (merged from_a from_b)
merged-ordered from_a [] order = order
merged-ordered from_a (b ∷ from_b) order = put-ordered b (merged from_a from_b) (merged-ordered from_a from_b order)

put-other : (p : Arrived → Bool) (x : Arrived) (xs : List Arrived) → p x ≡ false → filter p (put_in x xs) ≡ filter p xs
put-other p x [] other = ap (λ b. if b then x ∷ [] else []) other
put-other p x (y ∷ ys) other = by (nat_lt (order_of x) (order_of y)) (put-other p x ys other)
  where
    by : (b : Bool) → filter p (put_in x ys) ≡ filter p ys
        → filter p (if b then y ∷ put_in x ys else x ∷ y ∷ ys) ≡ filter p (y ∷ ys)
    by true rest = ap (λ zs. if p y then y ∷ zs else zs) rest
    by false rest = ap (λ b. if b then x ∷ filter p (y ∷ ys) else filter p (y ∷ ys)) other

-- it goes before those of its kind that aren't after it
put-own : (p : Arrived → Bool) (x : Arrived) (xs : List Arrived) → p x ≡ true
    → AllByRecursion (λ y. p y ≡ true → order_of y ≤ order_of x) xs → filter p (put_in x xs)
    ≡ x ∷ filter p xs
put-own p x [] own all = ap (λ b. if b then x ∷ [] else []) own
put-own p x (y ∷ ys) own all = by (nat_lt (order_of x) (order_of y)) refl (put-own p x ys own all.1)
  where
    by : (b : Bool) → nat_lt (order_of x) (order_of y) ≡ b → filter p (put_in x ys)
        ≡ x ∷ filter p ys → filter p (if b then y ∷ put_in x ys else x ∷ y ∷ ys) ≡ x ∷ filter p (y ∷ ys)
    by true less rest = elim (bool_cases (p y)) [
      | inl passes ↦ absurd (let le = all.0 passes in let k = le-ltb (order_of x) (order_of y) le in cc)
      | inr fails ↦ ap (λ b. if b then y ∷ filter p (put_in x ys) else filter p (put_in x ys)) fails
          ∙ rest ∙ sym (ap (λ b. x ∷ (if b then y ∷ filter p ys else filter p ys)) fails)
    ]
    by false more rest = ap (λ b. if b then x ∷ filter p (y ∷ ys) else filter p (y ∷ ys)) own

merged-of-a : (from_a from_b : List Arrived) → AllByRecursion (λ b. is_from A b ≡ false) from_b
    → filter (is_from A) (merged from_a from_b) ≡ filter (is_from A) from_a
merged-of-a from_a [] all = refl
merged-of-a from_a (b ∷ from_b) all = put-other (is_from A) b (merged from_a from_b) all.0
    ∙ merged-of-a from_a from_b all.1

merged-of-b : (from_a from_b : List Arrived) → AllByRecursion (λ a. is_from B a ≡ false) from_a
    → AllByRecursion (λ b. is_from B b ≡ true) from_b → ComeInOrder from_b
    → filter (is_from B) (merged from_a from_b) ≡ from_b
merged-of-b from_a [] none all order = no-b from_a none
  where
    no-b : (xs : List Arrived) → AllByRecursion (λ a. is_from B a ≡ false) xs → filter (is_from B) xs ≡ []
    no-b [] all_a = refl
    no-b (x ∷ xs) all_a = ap (λ b. if b then x ∷ filter (is_from B) xs else filter (is_from B) xs)
        all_a.0 ∙ no-b xs all_a.1
merged-of-b from_a (b ∷ from_b) none all order =
    put-own (is_from B) b (merged from_a from_b) all.0 (below from_a from_b b none order.0)
    ∙ ap (λ zs. b ∷ zs) (merged-of-b from_a from_b none all.1 order.1)
  where
    below-a : (xs : List Arrived) (x : Arrived) → AllByRecursion (λ a. is_from B a ≡ false) xs
        → AllByRecursion (λ y. is_from B y ≡ true → order_of y ≤ order_of x) xs
    below-a [] x all_a = tt
    below-a (y ∷ ys) x all_a = ((λ own. absurd (let other = all_a.0 in cc)), below-a ys x all_a.1)

    below : (xs ys : List Arrived) (x : Arrived) → AllByRecursion (λ a. is_from B a ≡ false) xs
        → AllByRecursion (λ y. order_of y ≤ order_of x) ys →
        AllByRecursion (λ y. is_from B y ≡ true → order_of y ≤ order_of x) (merged xs ys)
    below xs [] x all_a all_b = below-a xs x all_a
    below xs (y ∷ ys) x all_a all_b = put-all (λ z. is_from B z ≡ true → order_of z ≤ order_of x) y
        (merged xs ys) (λ own. all_b.0) (below xs ys x all_a all_b.1)

-- ---- slots end one after another

ends-before : (byte_ns : ℕ) (entries : List (Entry HeldFrame)) (turns : List (Turn HeldFrame))
    → AreTurns byte_ns entries turns → AllByRecursion (λ s. s.end ≤ end_of turns) turns
ends-before byte_ns entries [] are = tt
ends-before byte_ns entries (s ∷ earlier) are =
    let later : end_of earlier ≤ s.end = omega (arith, are.0.after, are.0.lasts) in (
      omega arith,
      all-imply (λ e. e.end ≤ end_of earlier) (λ e. e.end ≤ s.end) earlier
          (λ e le. omega (arith, le, later)) (ends-before byte_ns entries earlier are.1),
    )

order-on : (side : Side) (m n : ℕ) → m ≤ n → 2 * m + side_number side ≤ 2 * n + side_number side
order-on side m n le = omega (arith, le)

brought-ordered : (byte_ns : ℕ) (entries : List (Entry HeldFrame)) (side : Side)
    (turns : List (Turn HeldFrame)) → AreTurns byte_ns entries turns
    → ComeInOrder (map (brought side) (slots turns))
brought-ordered byte_ns entries side [] are = tt
brought-ordered byte_ns entries side (s ∷ earlier) are =
    by s.too_old (brought-ordered byte_ns entries side earlier are.1)
  where
    later : end_of earlier ≤ s.end
    later = omega (arith, are.0.after, are.0.lasts)

    before : AllByRecursion (λ y. order_of y ≤ order_of (brought side s)) (map (brought side) (slots earlier))
    before = all-map (λ y. order_of y ≤ order_of (brought side s)) (brought side) (slots earlier)
        (all-imply (λ e. (e.end ≤ end_of earlier) × (not e.too_old ≡ true))
        (λ e. order_of (brought side e) ≤ order_of (brought side s)) (slots earlier)
        (λ e le. order-on side e.end s.end (omega (arith, le.0, later)))
        (all-filter (λ e. e.end ≤ end_of earlier) (λ e. not e.too_old) earlier
        (ends-before byte_ns entries earlier are.1)))

    by : (b : Bool) → ComeInOrder (map (brought side) (slots earlier))
        → ComeInOrder (map (brought side) (if not b then s ∷ slots earlier else slots earlier))
    by true rest = rest
    by false rest = (before, rest)

all-own : (side : Side) (p : Arrived → Bool) (b : Bool)
    → ((s : Turn HeldFrame) → p (brought side s) ≡ b) → (ss : List (Turn HeldFrame))
    → AllByRecursion (λ x. p x ≡ b) (map (brought side) ss)
all-own side p b each [] = tt
all-own side p b each (s ∷ ss) = (each s, all-own side p b each ss)

filter-own : (p : Arrived → Bool) (xs : List Arrived) → AllByRecursion (λ x. p x ≡ true) xs → filter p xs ≡ xs
filter-own p [] all = refl
filter-own p (x ∷ xs) all = ap (λ b. if b then x ∷ filter p xs else filter p xs) all.0
    ∙ ap (λ zs. x ∷ zs) (filter-own p xs all.1)

pub receptions-exist : ReceptionsExist
unfolding receptions_at
receptions-exist t port arrivals run = record {
  by_side = by_side;
  in_order = merged-ordered (map (brought A) (slots (turns_at t A port arrivals)))
      (map (brought B) (slots (turns_at t B port arrivals)))
      (brought-ordered (byte_ns_at t port) (entries_at t A port arrivals) A
      (turns_at t A port arrivals) (its-turns t A port arrivals run.timed).each_next);
}
  where
    by_side : (side : Side) →
        filter (is_from side) (merged (map (brought A) (slots (turns_at t A port arrivals)))
        (map (brought B) (slots (turns_at t B port arrivals))))
        ≡ map (brought side) (slots (turns_at t side port arrivals))
    by_side A =
        let from_a = map (brought A) (slots (turns_at t A port arrivals)) in
        merged-of-a from_a (map (brought B) (slots (turns_at t B port arrivals)))
        (all-own B (is_from A) false (λ s. refl) (slots (turns_at t B port arrivals)))
        ∙ filter-own (is_from A) from_a (all-own A (is_from A) true (λ s. refl) (slots (turns_at t A port arrivals)))
    by_side B =
        merged-of-b (map (brought A) (slots (turns_at t A port arrivals)))
        (map (brought B) (slots (turns_at t B port arrivals)))
        (all-own A (is_from B) false (λ s. refl) (slots (turns_at t A port arrivals)))
        (all-own B (is_from B) true (λ s. refl) (slots (turns_at t B port arrivals)))
        (brought-ordered (byte_ns_at t port) (entries_at t B port arrivals) B
        (turns_at t B port arrivals) (its-turns t B port arrivals run.timed).each_next)
