-- What left on both sides, merged by time.
use Rattle.std.proofs.Common.{◌≡◌, ℕ, ◌≤◌, Bool, true, false, List, [], ◌∷◌, map, refl, sym, ap, ◌∙◌, arith}
use Rattle.std.specs.Prelude.{IfSome, filter, if◌then◌else◌, nat_lt}
use Rattle.std.specs.List.{AllByRecursion}
use Rattle.std.proofs.lemmas.Bool.{cond-false, cond-true, ltb-false, ltb-true}
use Rattle.afdx_frame.specs.Sides.{is_side}
use Rattle.afdx_frame.specs.declared.link.Side.{Side}
use Rattle.afdx_frame.specs.declared.link.Side.TheVariants.{A, B}
use Rattle.afdx_conform.specs.Streams.{Gone}
use Rattle.afdx_receive.specs.CopiesApart.{ComeByTime}
use Rattle.afdx_receive.specs.Integrity.{Incoming}
use Rattle.afdx_receive.specs.Redundancy.{newest}
use Rattle.afdx_law_recorded.specs.Receivers.{DeparturesMerge, heard_as, heard_of, merged_by_time, put_by_time}

abbrev on_a : Incoming → Bool
on_a f = is_side f.side A

abbrev on_b : Incoming → Bool
on_b f = is_side f.side B

-- ---- by time

abbrev IsUpTo : ℕ → List Incoming → Type 0
IsUpTo time l = IfSome (newest l) (λ last. last.time ≤ time)

put-up-to : (time : ℕ) (x : Incoming) (l : List Incoming) → x.time ≤ time → IsUpTo time l →
    IsUpTo time (put_by_time x l)
put-up-to time x [] le h = le
put-up-to time x (y ∷ past) le h = by (nat_lt x.time y.time)
  where
    by : (b : Bool) → IsUpTo time (if b then y ∷ put_by_time x past else x ∷ y ∷ past)
    by true = h
    by false = le

put-ordered : (x : Incoming) (l : List Incoming) → ComeByTime l → ComeByTime (put_by_time x l)
put-ordered x [] h = (tt, tt)
put-ordered x (y ∷ past) h = by (nat_lt x.time y.time) refl (put-ordered x past h.1)
  where
    by : (b : Bool) → nat_lt x.time y.time ≡ b → ComeByTime (put_by_time x past) →
        ComeByTime (if b then y ∷ put_by_time x past else x ∷ y ∷ past)
    by true e more = (put-up-to y.time x past (let less = ltb-true x.time y.time e in omega (arith, less)) h.0, more)
    by false e more = (ltb-false x.time y.time e, h)

merged-ordered : (a b : List Incoming) → ComeByTime a → ComeByTime b → ComeByTime (merged_by_time a b)
merged-ordered a [] h k = h
merged-ordered a (x ∷ past) h k = put-ordered x (merged_by_time a past) (merged-ordered a past h k.1)

-- ---- those of each side

put-other : (x : Incoming) (l : List Incoming) → on_a x ≡ false → filter on_a (put_by_time x l) ≡ filter on_a l
put-other x [] off = cond-false (on_a x) (x ∷ []) [] off
put-other x (y ∷ past) off = by (nat_lt x.time y.time) (put-other x past off)
  where
    by : (b : Bool) → filter on_a (put_by_time x past) ≡ filter on_a past →
        filter on_a (if b then y ∷ put_by_time x past else x ∷ y ∷ past) ≡ filter on_a (y ∷ past)
    by true more = ap (λ (l : List Incoming). if on_a y then y ∷ l else l) more
    by false more = cond-false (on_a x) (x ∷ filter on_a (y ∷ past)) (filter on_a (y ∷ past)) off

-- none of side B is behind this time
abbrev NoneBehind : ℕ → List Incoming → Type 0
NoneBehind time l = AllByRecursion (λ f. on_b f ≡ true → f.time ≤ time) l

put-own : (x : Incoming) (l : List Incoming) → on_b x ≡ true → NoneBehind x.time l →
    filter on_b (put_by_time x l) ≡ x ∷ filter on_b l
put-own x [] own h = cond-true (on_b x) (x ∷ []) [] own
put-own x (y ∷ past) own h = by (nat_lt x.time y.time) refl (on_b y) refl (put-own x past own h.1)
  where
    by : (b : Bool) → nat_lt x.time y.time ≡ b → (c : Bool) → on_b y ≡ c →
        filter on_b (put_by_time x past) ≡ x ∷ filter on_b past →
        filter on_b (if b then y ∷ put_by_time x past else x ∷ y ∷ past) ≡ x ∷ filter on_b (y ∷ past)
    by false e c f more = cond-true (on_b x) (x ∷ filter on_b (y ∷ past)) (filter on_b (y ∷ past)) own
    by true e true f more =
        absurd (let less = ltb-true x.time y.time e in let before = h.0 f in omega (arith, less, before))
    by true e false f more =
        cond-false (on_b y) (y ∷ filter on_b (put_by_time x past)) (filter on_b (put_by_time x past)) f
        ∙ more
        ∙ ap (λ (l : List Incoming). x ∷ l) (sym (cond-false (on_b y) (y ∷ filter on_b past) (filter on_b past) f))

put-all : (P : Incoming → Type 0) (x : Incoming) (l : List Incoming) → P x → AllByRecursion P l →
    AllByRecursion P (put_by_time x l)
put-all P x [] own h = (own, tt)
put-all P x (y ∷ past) own h = by (nat_lt x.time y.time) (put-all P x past own h.1)
  where
    by : (b : Bool) → AllByRecursion P (put_by_time x past) →
        AllByRecursion P (if b then y ∷ put_by_time x past else x ∷ y ∷ past)
    by true more = (h.0, more)
    by false more = (own, h)

merged-all : (P : Incoming → Type 0) (a b : List Incoming) → AllByRecursion P a → AllByRecursion P b →
    AllByRecursion P (merged_by_time a b)
merged-all P a [] h k = h
merged-all P a (x ∷ past) h k = put-all P x (merged_by_time a past) k.0 (merged-all P a past h k.1)

later : (a b : ℕ) (l : List Incoming) → a ≤ b → NoneBehind a l → NoneBehind b l
later a b [] le k = tt
later a b (z ∷ l) le k = ((λ own. let before = k.0 own in omega (arith, le, before)), later a b l le k.1)

-- what came before is no later
all-before : (time : ℕ) (l : List Incoming) → IsUpTo time l → ComeByTime l → NoneBehind time l
all-before time [] up h = tt
all-before time (y ∷ past) up h =
    ((λ own. up), later y.time time past up (all-before y.time past h.0 h.1))

module _ (vl : ℕ) where
  none-of-b : (time : ℕ) (l : List Gone) → NoneBehind time (map (heard_as vl A) l)
  none-of-b time [] = tt
  none-of-b time (y ∷ l) = ((λ own. absurd (cc own)), none-of-b time l)

  all-a : (l : List Gone) → filter on_a (map (heard_as vl A) l) ≡ map (heard_as vl A) l
  all-a [] = refl
  all-a (y ∷ l) = ap (λ (r : List Incoming). heard_as vl A y ∷ r) (all-a l)

  no-b : (l : List Gone) → filter on_b (map (heard_as vl A) l) ≡ []
  no-b [] = refl
  no-b (y ∷ l) = no-b l

  from-a : (a b : List Gone) → filter on_a (merged_by_time (map (heard_as vl A) a) (map (heard_as vl B) b))
      ≡ map (heard_as vl A) a
  from-a a [] = all-a a
  from-a a (y ∷ b) =
      put-other (heard_as vl B y) (merged_by_time (map (heard_as vl A) a) (map (heard_as vl B) b)) refl ∙ from-a a b

  from-b : (a b : List Gone) → ComeByTime (map (heard_as vl B) b) →
      filter on_b (merged_by_time (map (heard_as vl A) a) (map (heard_as vl B) b)) ≡ map (heard_as vl B) b
  from-b a [] h = no-b a
  from-b a (y ∷ b) h =
      put-own (heard_as vl B y) (merged_by_time (map (heard_as vl A) a) (map (heard_as vl B) b)) refl
      (merged-all (λ f. on_b f ≡ true → f.time ≤ y.time) (map (heard_as vl A) a) (map (heard_as vl B) b)
      (none-of-b y.time a) (all-before y.time (map (heard_as vl B) b) h.0 h.1))
      ∙ ap (λ (l : List Incoming). heard_as vl B y ∷ l) (from-b a b h.1)

pub departures_merge : DeparturesMerge
departures_merge vl left by_time = record {
  sides = by;
  by_time = merged-ordered (map (heard_as vl A) (left A)) (map (heard_as vl B) (left B)) (by_time A) (by_time B);
}
  where
    by : (side : Side) → filter (λ f. is_side f.side side) (heard_of vl left) ≡ map (heard_as vl side) (left side)
    by A = from-a vl (left A) (left B)
    by B = from-b vl (left A) (left B) (by_time B)
