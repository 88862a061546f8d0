-- What comes of two sources, from what came first of both.
use Rattle.std.proofs.Common.{◌≡◌, ℕ, List, [], ◌∷◌, ◌++◌, reverse, append-nil, append_assoc, refl, ap, sym, ◌∙◌}
use Rattle.std.proofs.Common.{Option, Some, None, true}
use Rattle.std.proofs.lemmas.List.{reverse-append}
use Rattle.std.specs.Prelude.{⊤}
use Rattle.afdx_input_lines.specs.declared.fault.RunFault.{RunFault}
use Rattle.afdx_input_sources.specs.Engine.{Item}
use Rattle.afdx_input_sources.specs.declared.ahead.AtHead.{AtHead}
use Rattle.afdx_input_sources.specs.declared.ahead.AtHead.TheVariants as at
use Rattle.afdx_input_sources.specs.declared.merged.Nth.{Nth}
use Rattle.afdx_input_sources.specs.declared.merged.Nth.TheVariants.{First, Second}
use Rattle.afdx_input_sources.specs.MergedSource.{CameBy, CameFirst, Front, Gone, IsBefore, IsFirst, OfTwo, Stands, Unsought}
use Rattle.afdx_input_sources.specs.MergedSource.{IsAheadBy, IsKnown, Order, front_by, taken_of, with_own}
use Rattle.afdx_input_sources.specs.Merging.{ByTime, is_earlier, merge, merged_as}
use Rattle.afdx_input_sources.proofs.MergeLemmas.{merge-at-once, merge-end, merge-fault-first, merge-fault-second}
use Rattle.afdx_input_sources.proofs.MergeLemmas.{merge-first, merge-first-alone, merge-second, merge-second-alone}

-- one taken is in front of what comes
pub reverse-taken : {X : Type 0} (x : X) (taken rest : List X) → reverse (x ∷ taken) ++ rest ≡ reverse taken ++ (x
    ∷ rest)
reverse-taken {X} x taken rest =
    ap (λ (l : List X). l ++ rest) (reverse-append (x ∷ []) taken) ∙ append_assoc (reverse taken) (x ∷ []) rest

-- items of two sources are seen by the one way of a merge: `see` is what an item is in the sequence of its source,
-- and all of a list of items is that of each; so it is with those of both
pub record Sees {H X Z : Type 0} (by : ByTime X Z) (time : H → Option ℕ) (see : Item H → X)
    (sees : List (Item H) → List X) (gives : List (OfTwo H) → List Z) : Type 0 where
  pub timed : (x : Item H) → by.time (see x) ≡ time x.head
  pub none : sees [] ≡ []
  pub more : (x : Item H) (xs : List (Item H)) → sees (x ∷ xs) ≡ see x ∷ sees xs
  pub none_given : gives [] ≡ []
  pub more_given : (z : OfTwo H) (past : List (OfTwo H)) → gives (z ∷ past) ≡ by.as_one z.from (see z.item) ∷ gives past

-- what stands has a time
abbrev pub IsTimed : {H : Type 0} → (H → Option ℕ) → Front H → Type 0
IsTimed time Unsought = ⊥
IsTimed time (Stands x) = (t : ℕ) × (time x.head ≡ Some t)
IsTimed time Gone = ⊤

pub ahead-timed : {H : Type 0} (order : Order H) (follows : List (Item H) → Item H → Type 0)
    (gave ended : List (Item H) → Type 0) (x : Item H) (head : AtHead) (taken : List (Item H)) → IsKnown head
    → IsAheadBy order follows gave ended x head taken → IsTimed order.time (front_by head x)
ahead-timed order follows gave ended x at.Unknown taken known h = absurd known
ahead-timed order follows gave ended x (at.Item t) taken known h = (t, h.2)
ahead-timed order follows gave ended x at.Over taken known h = tt

-- these can come next, and this fault behind them
abbrev pub CanCome : {H X : Type 0} → (Item H → X) → Front H → List X → Option RunFault → Type 0
CanCome see Unsought next fault = ⊤
CanCome {H} {X} see (Stands x) next fault = (rest : List X) × (next ≡ see x ∷ rest)
CanCome see Gone next fault = (next ≡ []) × (fault ≡ None)

module _ {H X Z : Type 0} (by : ByTime X Z) (time : H → Option ℕ) (see : Item H → X)
    (sees : List (Item H) → List X) (gives : List (OfTwo H) → List Z) (seen : Sees by time see sees gives) where
  first-next : (past : List Z) (z : Item H) (a : Option ℕ) → time z.head ≡ a → (y : Front H) → IsFirst time a y
      → (xs ys : List X) (fx fy : Option RunFault) → CanCome see y ys fy
      → merge by past (see z ∷ xs) fx ys fy ≡ merge by (by.as_one First (see z) ∷ past) xs fx ys fy
  first-next past z None is y first xs ys fx fy can =
      merge-at-once by past (see z) xs ys fx fy (seen.timed z ∙ is)
  first-next past z (Some t) is Unsought first xs ys fx fy can = absurd first
  first-next past z (Some t) is (Stands y) first xs ys fx fy can =
      let next = can.1 in
      rw next (merge-first by past (see z) (see y) xs can.0 fx fy t (seen.timed z ∙ is)
      (ap (λ (a : Option ℕ). is_earlier a (Some t)) (seen.timed y) ∙ first))
  first-next past z (Some t) is Gone first xs ys fx fy can =
      let none = can.0 in
      let well = can.1 in
      rw (none, well) (merge-first-alone by past (see z) xs fx t (seen.timed z ∙ is))

  second-next : (past : List Z) (z : Item H) (x : Front H) → IsBefore time (time z.head) x
      → (xs ys : List X) (fx fy : Option RunFault) → CanCome see x xs fx
      → merge by past xs fx (see z ∷ ys) fy ≡ merge by (by.as_one Second (see z) ∷ past) xs fx ys fy
  second-next past z Unsought before xs ys fx fy can = absurd before
  second-next past z (Stands x) before xs ys fx fy can =
      let next = can.1 in
      let sooner : is_earlier (by.time (see z)) (by.time (see x)) ≡ true =
      ap (λ (a : Option ℕ). is_earlier a (by.time (see x))) (seen.timed z)
      ∙ ap (is_earlier (time z.head)) (seen.timed x) ∙ before in
      rw next (merge-second by past (see x) (see z) can.0 ys fx fy sooner)
  second-next past z Gone before xs ys fx fy can =
      let none = can.0 in let well = can.1 in rw (none, well) (merge-second-alone by past (see z) ys fy)

  -- of all that comes these come first, and then what still comes
  pub came : (past : List (OfTwo H)) (x y : Front H) → CameFirst time past x y
      → (xs ys : List X) (fx fy : Option RunFault) → CanCome see x xs fx → CanCome see y ys fy
      → merge by [] (reverse (sees (taken_of First past)) ++ xs) fx (reverse (sees (taken_of Second past)) ++ ys) fy
      ≡ merge by (gives past) xs fx ys fy
  unfolding taken_of
  came [] x y h xs ys fx fy can_x can_y = rw (seen.none, seen.none_given) refl
  came (z ∷ past) x y h xs ys fx fy can_x can_y =
      go z.from (λ x' y' k xs' ys' c d. came past x' y' k xs' ys' fx fy c d) h
      ∙ ap (λ (l : List Z). merge by l xs fx ys fy) (sym (seen.more_given z past))
    where
      go : (n : Nth)
          → ((x y : Front H) → CameFirst time past x y → (xs ys : List X) → CanCome see x xs fx → CanCome see y ys fy
          → merge by [] (reverse (sees (taken_of First past)) ++ xs) fx
          (reverse (sees (taken_of Second past)) ++ ys) fy
          ≡ merge by (gives past) xs fx ys fy)
          → CameBy time (CameFirst time past) n z.item x y
          → merge by [] (reverse (sees (with_own First n z.item (taken_of First past))) ++ xs) fx
          (reverse (sees (with_own Second n z.item (taken_of Second past))) ++ ys) fy
          ≡ merge by (by.as_one n (see z.item) ∷ gives past) xs fx ys fy
      go First before k =
          ap (λ (l : List X). merge by [] (reverse l ++ xs) fx (reverse (sees (taken_of Second past)) ++ ys) fy)
          (seen.more z.item (taken_of First past))
          ∙ ap (λ (l : List X). merge by [] l fx (reverse (sees (taken_of Second past)) ++ ys) fy)
          (reverse-taken (see z.item) (sees (taken_of First past)) xs)
          ∙ before (Stands z.item) y k.1 (see z.item ∷ xs) ys (xs, refl) can_y
          ∙ first-next (gives past) z.item (time z.item.head) refl y k.0 xs ys fx fy can_y
      go Second before k =
          ap (λ (l : List X). merge by [] (reverse (sees (taken_of First past)) ++ xs) fx (reverse l ++ ys) fy)
          (seen.more z.item (taken_of Second past))
          ∙ ap (λ (l : List X). merge by [] (reverse (sees (taken_of First past)) ++ xs) fx l fy)
          (reverse-taken (see z.item) (sees (taken_of Second past)) ys)
          ∙ before x (Stands z.item) k.1 xs (see z.item ∷ ys) can_x (ys, refl)
          ∙ second-next (gives past) z.item x k.0 xs ys fx fy can_x

  module _ (past : List (OfTwo H)) where
    -- the first stopped, whatever comes of the second
    pub stops-first : (y : Front H) → CameFirst time past Unsought y → (ys : List X) (fy : Option RunFault)
        (fault : RunFault) → CanCome see y ys fy
        → merge by [] (reverse (sees (taken_of First past))) (Some fault)
        (reverse (sees (taken_of Second past)) ++ ys) fy
        ≡ merged_as (gives past) (Some fault)
    stops-first y h ys fy fault can =
        ap (λ (l : List X). merge by [] l (Some fault) (reverse (sees (taken_of Second past)) ++ ys) fy)
        (sym (append-nil (reverse (sees (taken_of First past)))))
        ∙ came past Unsought y h [] ys (Some fault) fy tt can
        ∙ merge-fault-first by (gives past) fault ys fy

    second-stops : (x : Front H) → IsTimed time x → (xs : List X) (fx : Option RunFault) (fault : RunFault)
        → CanCome see x xs fx → merge by (gives past) xs fx [] (Some fault) ≡ merged_as (gives past) (Some fault)
    second-stops Unsought timed xs fx fault can = absurd timed
    second-stops (Stands x) timed xs fx fault can =
        let next = can.1 in
        rw next (merge-fault-second by (gives past) (see x) can.0 fx fault timed.0 (seen.timed x ∙ timed.1))
    second-stops Gone timed xs fx fault can =
        let none = can.0 in let well = can.1 in rw (none, well) (merge-end by (gives past) (Some fault))

    -- or the second
    pub stops-second : (x : Front H) → CameFirst time past x Unsought → IsTimed time x → (xs : List X)
        (fx : Option RunFault) (fault : RunFault) → CanCome see x xs fx
        → merge by [] (reverse (sees (taken_of First past)) ++ xs) fx (reverse (sees (taken_of Second past)))
        (Some fault) ≡ merged_as (gives past) (Some fault)
    stops-second x h timed xs fx fault can =
        ap (λ (l : List X). merge by [] (reverse (sees (taken_of First past)) ++ xs) fx l (Some fault))
        (sym (append-nil (reverse (sees (taken_of Second past)))))
        ∙ came past x Unsought h xs [] fx (Some fault) can tt
        ∙ second-stops x timed xs fx fault can

    -- both ended
    pub ended : CameFirst time past Gone Gone
        → merge by [] (reverse (sees (taken_of First past))) None (reverse (sees (taken_of Second past))) None
        ≡ merged_as (gives past) None
    ended h =
        ap (λ (l : List X). merge by [] l None (reverse (sees (taken_of Second past))) None)
        (sym (append-nil (reverse (sees (taken_of First past)))))
        ∙ ap (λ (l : List X). merge by [] (reverse (sees (taken_of First past)) ++ []) None l None)
        (sym (append-nil (reverse (sees (taken_of Second past)))))
        ∙ came past Gone Gone h [] [] None None (refl, refl) (refl, refl)
        ∙ merge-end by (gives past) None
