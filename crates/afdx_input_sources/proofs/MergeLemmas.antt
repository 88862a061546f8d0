-- Two sources as one, by time: one item more of either, the ends, and what is true step by step.
use Rattle.std.proofs.Common.{◌≡◌, ℕ, List, [], ◌∷◌, ◌++◌, refl, ap, sym, ◌∙◌}
use Rattle.std.proofs.Common.{Option, Some, None, Bool, true, false, if◌then◌else◌}
use Rattle.afdx_input_lines.specs.declared.fault.RunFault.{RunFault}
use Rattle.afdx_input_sources.specs.declared.merged.Nth.TheVariants.{First, Second}
use Rattle.afdx_input_sources.specs.Merging.{ByTime, Merged, at_head, behind_first, if_timed, is_earlier, merge, merged_as}
use Rattle.afdx_input_sources.specs.Merging.{rest_of_second}

timed-before : (a b : Option ℕ) → is_earlier a b ≡ true → (t : ℕ) × (b ≡ Some t)
timed-before a (Some t) e = (t, refl)
timed-before None None e = absurd (cc)
timed-before (Some y) None e = absurd (cc)

never-before : (a : Option ℕ) → is_earlier a None ≡ false
never-before None = refl
never-before (Some t) = refl

module _ {X Z : Type 0} (by : ByTime X Z) where
  -- ---- of the first

  -- one that comes at once
  pub merge-at-once : (past : List Z) (x : X) (xs ys : List X) (fx fy : Option RunFault) → by.time x ≡ None
      → merge by past (x ∷ xs) fx ys fy ≡ merge by (by.as_one First x ∷ past) xs fx ys fy
  unfolding merge
  merge-at-once past x xs ys fx fy is =
      ap (λ (a : Option ℕ). if_timed a
      (λ t. at_head by t x (λ before ys. merge by before xs fx ys fy) past ys fy)
      (merge by (by.as_one First x ∷ past) xs fx ys fy)) is

  -- one that has a time stands at its head
  pub merge-head : (past : List Z) (x : X) (xs ys : List X) (fx fy : Option RunFault) (t : ℕ) → by.time x ≡ Some t
      → merge by past (x ∷ xs) fx ys fy
      ≡ at_head by t x (λ before ys. merge by before xs fx ys fy) past ys fy
  unfolding merge
  merge-head past x xs ys fx fy t is =
      ap (λ (a : Option ℕ). if_timed a
      (λ t. at_head by t x (λ before ys. merge by before xs fx ys fy) past ys fy)
      (merge by (by.as_one First x ∷ past) xs fx ys fy)) is

  -- and comes, for it is not later than that of the second
  pub merge-first : (past : List Z) (x y : X) (xs ys : List X) (fx fy : Option RunFault) (t : ℕ)
      → by.time x ≡ Some t → is_earlier (by.time y) (Some t) ≡ false
      → merge by past (x ∷ xs) fx (y ∷ ys) fy ≡ merge by (by.as_one First x ∷ past) xs fx (y ∷ ys) fy
  unfolding at_head
  merge-first past x y xs ys fx fy t is later = merge-head past x xs (y ∷ ys) fx fy t is ∙ rw later refl

  -- or the second is at its end
  pub merge-first-alone : (past : List Z) (x : X) (xs : List X) (fx : Option RunFault) (t : ℕ) → by.time x ≡ Some t
      → merge by past (x ∷ xs) fx [] None ≡ merge by (by.as_one First x ∷ past) xs fx [] None
  unfolding at_head
  merge-first-alone past x xs fx t is = merge-head past x xs [] fx None t is

  -- a fault of the first
  pub merge-fault-first : (past : List Z) (fault : RunFault) (ys : List X) (fy : Option RunFault)
      → merge by past [] (Some fault) ys fy ≡ merged_as past (Some fault)
  unfolding merge
  merge-fault-first past fault ys fy = refl

  -- ---- of the second

  at-sooner : (past : List Z) (x y : X) (next : List Z → List X → Merged Z) (ys : List X) (fy : Option RunFault)
      (t : ℕ) → is_earlier (by.time y) (Some t) ≡ true
      → at_head by t x next past (y ∷ ys) fy ≡ at_head by t x next (by.as_one Second y ∷ past) ys fy
  unfolding at_head
  at-sooner past x y next ys fy t sooner = rw sooner refl

  -- one comes before that of the first
  pub merge-second : (past : List Z) (x y : X) (xs ys : List X) (fx fy : Option RunFault)
      → is_earlier (by.time y) (by.time x) ≡ true
      → merge by past (x ∷ xs) fx (y ∷ ys) fy ≡ merge by (by.as_one Second y ∷ past) (x ∷ xs) fx ys fy
  merge-second past x y xs ys fx fy e =
      let timed = timed-before (by.time y) (by.time x) e in
      let sooner = ap (is_earlier (by.time y)) (sym timed.1) ∙ e in
      merge-head past x xs (y ∷ ys) fx fy timed.0 timed.1
      ∙ at-sooner past x y (λ before ys. merge by before xs fx ys fy) ys fy timed.0 sooner
      ∙ sym (merge-head (by.as_one Second y ∷ past) x xs ys fx fy timed.0 timed.1)

  -- or the first is at its end
  pub merge-second-alone : (past : List Z) (y : X) (ys : List X) (fy : Option RunFault)
      → merge by past [] None (y ∷ ys) fy ≡ merge by (by.as_one Second y ∷ past) [] None ys fy
  unfolding merge rest_of_second
  merge-second-alone past y ys fy = refl

  -- a fault of the second, while one of the first stands
  pub merge-fault-second : (past : List Z) (x : X) (xs : List X) (fx : Option RunFault) (fault : RunFault) (t : ℕ)
      → by.time x ≡ Some t → merge by past (x ∷ xs) fx [] (Some fault) ≡ merged_as past (Some fault)
  unfolding at_head
  merge-fault-second past x xs fx fault t is = merge-head past x xs [] fx (Some fault) t is

  -- or the first is at its end
  pub merge-end : (past : List Z) (fault : Option RunFault) → merge by past [] None [] fault ≡ merged_as past fault
  unfolding merge rest_of_second
  merge-end past fault = refl

  -- ---- what is true step by step

  -- one of the first comes before what is left of the second
  abbrev pub IsNext : X → List X → Type 0
  IsNext x [] = Unit {0}
  IsNext x (y ∷ ys) = is_earlier (by.time y) (by.time x) ≡ false

  -- one of the second does, before what is left of the first
  abbrev pub IsSooner : X → List X → Type 0
  IsSooner y [] = Unit {0}
  IsSooner y (x ∷ xs) = is_earlier (by.time y) (by.time x) ≡ true

  module _ (P : List Z → List X → List X → Type 0) where
    -- it is kept as one comes, of what came and of what is left of both
    pub record IsKept : Type 0 where
      pub first : (past : List Z) (x : X) (xs ys : List X) → IsNext x ys → P past (x ∷ xs) ys
          → P (by.as_one First x ∷ past) xs ys
      pub second : (past : List Z) (y : X) (xs ys : List X) → IsSooner y xs → P past xs (y ∷ ys)
          → P (by.as_one Second y ∷ past) xs ys

    -- it is true in the end, of what then is left: without a fault nothing
    pub record IsTrueOf (fx fy : Option RunFault) (end : Merged Z) : Type 0 where
      pub first : List X
      pub second : List X
      pub so : P end.items first second
      pub whole : end.fault ≡ None → (first ≡ []) × (second ≡ [])
      pub sound : fx ≡ None → fy ≡ None → end.fault ≡ None

    module _ (kept : IsKept) where
      true-rest : (past : List Z) (ys : List X) (fy : Option RunFault) → P past [] ys
          → IsTrueOf None fy (rest_of_second by past ys fy)
      unfolding rest_of_second
      true-rest past [] fy p =
          record { first = []; second = []; so = p; whole = λ e. (refl, refl); sound = λ e f. f }
      true-rest past (y ∷ ys) fy p = true-rest (by.as_one Second y ∷ past) ys fy (kept.second past y [] ys tt p)

      true-behind : (past : List Z) (fx : Option RunFault) (ys : List X) (fy : Option RunFault) → P past [] ys
          → IsTrueOf fx fy (behind_first by past fx ys fy)
      true-behind past (Some fault) ys fy p =
          record { first = []; second = ys; so = p; whole = λ e. absurd (cc); sound = λ e f. e }
      true-behind past None ys fy p = true-rest past ys fy p

      module _ (fx : Option RunFault) (x : X) (xs : List X) where
        true-head : (t : ℕ) → by.time x ≡ Some t → (next : List Z → List X → Merged Z)
            → (fy : Option RunFault)
            → ((past : List Z) (ys : List X) → P past xs ys → IsTrueOf fx fy (next past ys))
            → (past : List Z) (ys : List X) → P past (x ∷ xs) ys
            → IsTrueOf fx fy (at_head by t x next past ys fy)
        unfolding at_head
        true-head t is next (Some fault) h past [] p =
            record { first = x ∷ xs; second = []; so = p; whole = λ e. absurd (cc); sound = λ e f. f }
        true-head t is next None h past [] p =
            h (by.as_one First x ∷ past) [] (kept.first past x xs [] tt p)
        true-head t is next fy h past (y ∷ ys) p =
            go (is_earlier (by.time y) (Some t)) refl (λ q. true-head t is next fy h (by.as_one Second y ∷ past) ys q)
          where
            go : (b : Bool) → is_earlier (by.time y) (Some t) ≡ b
                → (P (by.as_one Second y ∷ past) (x ∷ xs) ys
                → IsTrueOf fx fy (at_head by t x next (by.as_one Second y ∷ past) ys fy))
                → IsTrueOf fx fy (if b then at_head by t x next (by.as_one Second y ∷ past) ys fy
                else next (by.as_one First x ∷ past) (y ∷ ys))
            go true e later =
                later (kept.second past y (x ∷ xs) ys (ap (is_earlier (by.time y)) is ∙ e) p)
            go false e later =
                h (by.as_one First x ∷ past) (y ∷ ys)
                (kept.first past x xs (y ∷ ys) (ap (is_earlier (by.time y)) is ∙ e) p)

      next-at-once : (x : X) (ys : List X) → by.time x ≡ None → IsNext x ys
      next-at-once x [] is = tt
      next-at-once x (y ∷ ys) is = ap (is_earlier (by.time y)) is ∙ never-before (by.time y)

      pub merge-keeps : (past : List Z) (xs : List X) (fx : Option RunFault) (ys : List X) (fy : Option RunFault)
          → P past xs ys → IsTrueOf fx fy (merge by past xs fx ys fy)
      unfolding merge
      merge-keeps past [] fx ys fy p = true-behind past fx ys fy p
      merge-keeps past (x ∷ xs) fx ys fy p =
          go (by.time x) refl (λ before zs q. merge-keeps before xs fx zs fy q)
        where
          go : (a : Option ℕ) → by.time x ≡ a
              → ((before : List Z) (zs : List X) → P before xs zs → IsTrueOf fx fy (merge by before xs fx zs fy))
              → IsTrueOf fx fy (if_timed a
              (λ t. at_head by t x (λ before zs. merge by before xs fx zs fy) past ys fy)
              (merge by (by.as_one First x ∷ past) xs fx ys fy))
          go (Some t) is more = true-head fx x xs t is (λ before zs. merge by before xs fx zs fy) fy more past ys p
          go None is more = more (by.as_one First x ∷ past) ys (kept.first past x xs ys (next-at-once x ys is) p)

-- ---- what comes stands behind what was there

-- it ends in this
abbrev pub EndsIn : {Z : Type 0} → List Z → List Z → Type 0
EndsIn {Z} past all = (later : List Z) × (all ≡ later ++ past)

ends-more : {Z : Type 0} (x : Z) (past all : List Z) → EndsIn past all → EndsIn past (x ∷ all)
ends-more x past all h = (x ∷ h.0, ap (λ l. x ∷ l) h.1)

pub merge-extends : {X Z : Type 0} (by : ByTime X Z) (past : List Z) (xs : List X) (fx : Option RunFault)
    (ys : List X) (fy : Option RunFault) → EndsIn past (merge by past xs fx ys fy).items
merge-extends by past xs fx ys fy =
    (merge-keeps by (λ all xs ys. EndsIn past all) (record {
      first = λ all x xs ys is h. ends-more (by.as_one First x) past all h;
      second = λ all y xs ys is h. ends-more (by.as_one Second y) past all h;
    }) past xs fx ys fy ([], refl)).so
