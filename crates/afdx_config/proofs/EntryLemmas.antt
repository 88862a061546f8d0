-- A map whose keys are part of its values: its look-ups are look-ups among the rows.
use Rattle.std.proofs.Common.{◌≡◌, ℕ, suc, ◌+◌, ◌≤◌, Bool, true, false, not, cond, ◌||◌, List, []}
use Rattle.std.proofs.Common.{◌∷◌, ◌++◌, length, map, Some, None, slice_get, position, refl, ap}
use Rattle.std.proofs.Common.{◌∙◌, arith, inl, inr, nat_lt}
use Rattle.std.specs.List.{list_any, position_or_len, AllByRecursion}
use Rattle.std.specs.Map.{keys_of, values_of}
use Rattle.std.specs.Option.{option_map}
use Rattle.std.proofs.lemmas.Bool.{cases_Bool, ltb-false}
use Rattle.std.proofs.lemmas.Option.{slice_get-map}
use Rattle.indexmap.specs.IndexMap.{insert_entry}

module _ {K V R : Type 0} (row : V → R) where
  abbrev pub rows_of : List (K × V) → List R
  rows_of es = map (λ e. row e.1) es

module _ {K V R : Type 0} (row : V → R) (p : R → Bool) where
  -- a test of the values is one of the rows
  pub list_any-rows : (es : List (K × V)) → list_any (λ v. p (row v)) (values_of es) ≡ list_any p (rows_of row es)
  list_any-rows [] = refl
  list_any-rows (e ∷ es) = ap (λ b. p (row e.1) || b) (list_any-rows es)

  position_or_len-values : (es : List (K × V)) → position_or_len (λ v. p (row v)) (values_of es)
      ≡ position_or_len p (rows_of row es)
  position_or_len-values [] = refl
  position_or_len-values (e ∷ es) = ap (λ n. cond (not (p (row e.1))) (1 + n) 0) (position_or_len-values es)

  length-values : (es : List (K × V)) → length (values_of es) ≡ length (rows_of row es)
  length-values [] = refl
  length-values (e ∷ es) = ap suc (length-values es)

  -- and so is a search of them
  pub position-values : (es : List (K × V)) → position (λ v. p (row v)) (values_of es) ≡ position p (rows_of row es)
  position-values es = rw (position_or_len-values es, length-values es)

  module _ (f : K → Bool) (Q : K × V → Type 0) (same : (e : K × V) → Q e → f e.0 ≡ p (row e.1)) where
    position_or_len-keys : (es : List (K × V)) → AllByRecursion Q es
        → position_or_len f (keys_of es) ≡ position_or_len p (rows_of row es)
    position_or_len-keys [] h = refl
    position_or_len-keys (e ∷ es) h = (λ j. cond (not (same e h.0 j)) (1 + position_or_len-keys es h.1 j) 0)

    length-keys : (es : List (K × V)) → length (keys_of es) ≡ length (rows_of row es)
    length-keys [] = refl
    length-keys (e ∷ es) = ap suc (length-keys es)

    -- a search of the keys is one of the rows
    pub position-keys : (es : List (K × V)) → AllByRecursion Q es → position f (keys_of es)
        ≡ position p (rows_of row es)
    position-keys es h = rw (position_or_len-keys es h, length-keys es)

    absent : (es : List (K × V)) → AllByRecursion Q es → length (rows_of row es)
        ≤ position_or_len p (rows_of row es) → (eq : K → K → Bool) (k : K) (v : V)
        → ((x : K) → eq k x ≡ f x) → insert_entry eq es k v ≡ es ++ (k, v) ∷ []
    absent [] h none eq k v is = refl
    absent (e ∷ es) h none eq k v is =
        elim (cases_Bool (p (row e.1))) [
          | inl here ↦ absurd (omega (arith, ap (λ b. cond (not b) (1 + position_or_len p (rows_of row es)) 0) here))
          | inr not_here ↦
              let apart : eq k e.0 ≡ false = is e.0 ∙ same e h.0 ∙ not_here in
              let later : length (rows_of row es) ≤ position_or_len p (rows_of row es) =
              omega (
                arith,
                ap (λ b. cond (not b) (1 + position_or_len p (rows_of row es)) 0)
                    not_here,
              ) in
              rw apart (ap (λ t. e ∷ t) (absent es h.1 later eq k v is))
        ]

    -- a row that the search doesn't find goes last
    pub insert_entry-fresh : (es : List (K × V)) → AllByRecursion Q es → position p (rows_of row es)
        ≡ None → (eq : K → K → Bool) (k : K) (v : V) → ((x : K) → eq k x ≡ f x)
        → insert_entry eq es k v ≡ es ++ (k, v) ∷ []
    insert_entry-fresh es h none eq k v is =
        absent es h (past (nat_lt (position_or_len p (rows_of row es)) (length (rows_of row es)))
        refl none) eq k v is
      where
        past : (b : Bool) → nat_lt (position_or_len p (rows_of row es)) (length (rows_of row es))
            ≡ b → cond b (Some (position_or_len p (rows_of row es))) None ≡ None
            → length (rows_of row es) ≤ position_or_len p (rows_of row es)
        past true at found = absurd cc
        past false at found = ltb-false _ _ at

-- the rows, as those of the values
rows_of-values : {K V R : Type 0} (row : V → R) (es : List (K × V)) → rows_of row es ≡ map row (values_of es)
rows_of-values row [] = refl
rows_of-values row (e ∷ es) = ap (λ t. row e.1 ∷ t) (rows_of-values row es)

pub slice_get-rows : {K V R : Type 0} (row : V → R) (es : List (K × V)) (i : ℕ) (v : V)
    → slice_get (values_of es) i ≡ Some v → slice_get (rows_of row es) i ≡ Some (row v)
slice_get-rows row es i v h = ap (λ rs. slice_get rs i) (rows_of-values row es)
    ∙ slice_get-map row (values_of es) i ∙ ap (option_map row) h

pub length-rows : {K V R : Type 0} (row : V → R) (es : List (K × V)) → length (rows_of row es) ≡ length es
length-rows row [] = refl
length-rows row (e ∷ es) = ap suc (length-rows row es)

pub rows_of-push : {K V R : Type 0} (row : V → R) (es : List (K × V)) (e : K × V)
    → rows_of row (es ++ e ∷ []) ≡ rows_of row es ++ row e.1 ∷ []
rows_of-push row [] e = refl
rows_of-push row (x ∷ es) e = ap (λ t. row x.1 ∷ t) (rows_of-push row es e)
