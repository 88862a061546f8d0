-- What holds of each number of a recording holds of each that is handed on, and of each of two that
-- are read at once.
use Rattle.std.proofs.Common.{ℕ, suc, zero, List, [], ◌∷◌, ◌++◌, take, drop}
use Rattle.std.proofs.Common.{Bool, true, false, if◌then◌else◌}
use Rattle.afdx_input_sources.specs.Engine.{Item}
use Rattle.afdx_input_sources.specs.declared.number.Number.{Number}
use Rattle.afdx_input_sources.specs.declared.merged.Nth.{Nth}
use Rattle.afdx_input_sources.specs.declared.merged.Nth.TheVariants.{First, Second}
use Rattle.afdx_input_sources.specs.MergedSource.{OfTwo, items_of, taken_of, with_own}
use Rattle.afdx_input_sources.specs.Ordering.{all_handed, handed_on, hands_on, in_order, is_later, put_among}
use Rattle.afdx_input_sources.specs.Sequences.{Numbers, is_arrival}

-- ---- each of a list

abbrev pub Each : {X : Type 0} → (X → Type 0) → List X → Type 0
Each P [] = Unit {0}
Each P (x ∷ xs) = P x × Each P xs

module _ {X : Type 0} (P : X → Type 0) where
  pub each-append : (xs ys : List X) → Each P xs → Each P ys → Each P (xs ++ ys)
  each-append [] ys h k = k
  each-append (x ∷ xs) ys h k = (h.0, each-append xs ys h.1 k)

  pub each-behind : (xs ys : List X) → Each P (xs ++ ys) → Each P ys
  each-behind [] ys h = h
  each-behind (x ∷ xs) ys h = each-behind xs ys h.1

  pub each-take : (n : ℕ) (xs : List X) → Each P xs → Each P (take n xs)
  each-take zero xs h = tt
  each-take (suc n) [] h = tt
  each-take (suc n) (x ∷ xs) h = (h.0, each-take n xs h.1)

  pub each-drop : (n : ℕ) (xs : List X) → Each P xs → Each P (drop n xs)
  each-drop zero xs h = h
  each-drop (suc n) [] h = tt
  each-drop (suc n) (x ∷ xs) h = each-drop n xs h.1

  pub each-more : (Q : X → Type 0) → ((x : X) → P x → Q x) → (xs : List X) → Each P xs → Each Q xs
  each-more Q f [] h = tt
  each-more Q f (x ∷ xs) h = (f x h.0, each-more Q f xs h.1)

-- ---- of numbers that are put in order

module _ (P : Item Number → Type 0) where
  each-put : (x : Item Number) (past : Numbers) → P x → Each P past → Each P (put_among x past)
  unfolding put_among
  each-put x [] h k = (h, tt)
  each-put x (y ∷ past) h k = by (is_later y x) (each-put x past h k.1)
    where
      by : (t : Bool) → Each P (put_among x past) → Each P (if t then y ∷ put_among x past else x ∷ y ∷ past)
      by true rest = (k.0, rest)
      by false rest = (h, k)

  each-order : (past : Numbers) → Each P past → Each P (in_order past)
  unfolding in_order
  each-order [] h = tt
  each-order (x ∷ past) h = by (is_arrival x.head) (each-order past h.1)
    where
      by : (t : Bool) → Each P (in_order past) → Each P (if t then put_among x (in_order past) else in_order past)
      by true rest = each-put x (in_order past) h.0 rest
      by false rest = rest

  pub each-handed : (most : ℕ) (past : Numbers) → Each P past → Each P (handed_on most past)
  unfolding handed_on
  each-handed most [] h = tt
  each-handed most (x ∷ past) h =
      each-append P (hands_on most x (in_order (x ∷ past))) (handed_on most past)
      (by (is_arrival x.head) (in_order (x ∷ past)) (each-order (x ∷ past) h)) (each-handed most past h.1)
    where
      by : (t : Bool) (ordered : Numbers) → Each P ordered → Each P (if t then take 1 (drop most ordered) else x ∷ [])
      by true ordered all = each-take P 1 (drop most ordered) (each-drop P most ordered all)
      by false ordered all = (h.0, tt)

  pub each-held : (most : ℕ) (past : Numbers) → Each P past → Each P (take most (in_order past))
  each-held most past h = each-take P most (in_order past) (each-order past h)

  pub each-all : (most : ℕ) (past : Numbers) → Each P past → Each P (all_handed most past)
  each-all most past h =
      each-append P (take most (in_order past)) (handed_on most past) (each-held most past h) (each-handed most past h)

  -- ---- of two recordings as one

  pub each-both : (past : List (OfTwo Number)) → Each P (taken_of First past) → Each P (taken_of Second past)
      → Each P (items_of past)
  unfolding taken_of
  each-both [] h k = tt
  each-both (z ∷ past) h k = by z.from (each-both past) h k
    where
      by : (n : Nth) → (Each P (taken_of First past) → Each P (taken_of Second past) → Each P (items_of past))
          → Each P (with_own First n z.item (taken_of First past))
          → Each P (with_own Second n z.item (taken_of Second past)) → Each P (z.item ∷ items_of past)
      by First more h k = (h.0, more h.1 k)
      by Second more h k = (k.0, more h k.1)
