-- Places that are found by the identifiers of links.
use Rattle.std.proofs.Common.{◌≡◌, ℕ, zero, suc, ◌+◌, ◌*◌, ◌/◌, ◌%◌, ◌<◌, ◌≤◌, Bool, true, false, cond, inl, inr}
use Rattle.std.proofs.Common.{Option, Some, None, List, [], ◌∷◌, ◌++◌, length, unwrap_or, Bor}
use Rattle.std.proofs.Common.{nat_eq, refl, sym, subst, ◌∙◌, ap, arith, replicate}
use Rattle.std.specs.Prelude.{slice_get, slice_set, option_map, option_and_then, ◌⊎◌}
use Rattle.std.specs.Option.{option_copied, option_flatten}
use Rattle.std.specs.Slice.{IsItemAt}
use Rattle.std.proofs.lemmas.Bool.{cases_eq, eqb-true, eqb-false}
use Rattle.std.proofs.lemmas.Option.{slice_get_read, unwrap_or-slice_get}
use Rattle.std.proofs.Math.ListN.{get_or}
use Rattle.std.proofs.lemmas.Option.{same_Some}
use Rattle.afdx_frame.proofs.ListLemmas.{slice_get-set_here, slice_get-set_there}
use Rattle.afdx_receive.specs.Places.{Paged, IsPaged, found_at, number_in, slot_in, place_in}

module _ {X : Type 0} where
  before : (xs ys : List X) (i : ℕ) → i < length xs → slice_get (xs ++ ys) i ≡ slice_get xs i
  before [] ys i within = absurd (omega (arith, within))
  before (x ∷ xs) ys zero within = refl
  before (x ∷ xs) ys (suc i) within = before xs ys i (omega (arith, within))

  behind : (xs ys : List X) (i : ℕ) → slice_get (xs ++ ys) (length xs + i) ≡ slice_get ys i
  behind [] ys i = ap (slice_get ys) (none_more i)
    where
      none_more : (i : ℕ) → 0 + i ≡ i
      none_more i = omega arith
  behind (x ∷ xs) ys i = ap (slice_get (x ∷ xs ++ ys)) (one_more (length xs) i) ∙ behind xs ys i
    where
      one_more : (n i : ℕ) → suc n + i ≡ suc (n + i)
      one_more n i = omega arith

  of_same : (n : ℕ) (x : X) (i : ℕ) → i < n → slice_get (replicate n x) i ≡ Some x
  of_same zero x i within = absurd (omega (arith, within))
  of_same (suc n) x zero within = refl
  of_same (suc n) x (suc i) within = of_same n x i (omega (arith, within))

  long : (xs ys : List X) → length (xs ++ ys) ≡ length xs + length ys
  long [] ys = omega arith
  long (x ∷ xs) ys = omega (arith, long xs ys)

some_none : (a : ℕ) → None ≡ Some a → ⊥
some_none a e = cc

-- what a slot is of
record Slot (paged : Paged) (vl slot : ℕ) : Type 0 where
  pub number : ℕ
  pub page : number_in paged (vl / 16) ≡ Some number
  pub is : slot ≡ 16 * number + vl % 16

module _ (paged : Paged) (is : IsPaged paged) where
  slot_of : (vl slot : ℕ) → slot_in paged vl ≡ Some slot → Slot paged vl slot
  slot_of vl slot e = at (number_in paged (vl / 16)) refl e
    where
      at : (o : Option ℕ) → number_in paged (vl / 16) ≡ o
          → option_map (λ number. 16 * number + vl % 16) o ≡ Some slot → Slot paged vl slot
      at None here e = absurd (some_none slot e)
      at (Some number) here e = record {
        number = number;
        page = here;
        is = sym (same_Some (16 * number + vl % 16) slot e);
      }

  pub slot_within : (vl slot : ℕ) → slot_in paged vl ≡ Some slot → slot < length paged.slots
  slot_within vl slot e =
      let its = slot_of vl slot e in
      omega (arith, its.is, is.within (vl / 16) its.number its.page)

  slot_own : (a b slot : ℕ) → slot_in paged a ≡ Some slot → slot_in paged b ≡ Some slot → a ≡ b
  slot_own a b slot e f =
      let its = slot_of a slot e in
      let other = slot_of b slot f in
      let same : its.number ≡ other.number = omega (arith, its.is, other.is) in
      let page : a / 16 ≡ b / 16 = is.own (a / 16) (b / 16) its.number its.page (other.page ∙ ap Some (sym same)) in
      omega (arith, its.is, other.is, same, page)

  -- ---- a place in a slot

  module _ (vl slot place : ℕ) (here : slot_in paged vl ≡ Some slot) where
    abbrev with_place : Paged
    with_place = record paged { slots = slice_set paged.slots slot (Some place) }

    pub place_updates : (q : ℕ) → place_in with_place q ≡ cond (nat_eq vl q) (Some place) (place_in paged q)
    unfolding place_in
    place_updates q = at (nat_eq vl q) refl
      where
        other : (o : Option ℕ) → ((s : ℕ) → o ≡ Some s → s ≡ slot → ⊥) →
            option_and_then (λ s. option_flatten (slice_get with_place.slots s)) o
            ≡ option_and_then (λ s. option_flatten (slice_get paged.slots s)) o
        other None apart = refl
        other (Some s) apart = ap option_flatten (slice_get-set_there paged.slots slot s (Some place) (apart s refl))

        at : (b : Bool) → nat_eq vl q ≡ b →
            option_and_then (λ s. option_flatten (slice_get with_place.slots s)) (slot_in paged q)
            ≡ cond b (Some place) (option_and_then (λ s. option_flatten (slice_get paged.slots s)) (slot_in paged q))
        at true e =
            let its : slot_in paged q ≡ Some slot = ap (slot_in paged) (sym (eqb-true vl q e)) ∙ here in
            ap (option_and_then (λ s. option_flatten (slice_get with_place.slots s))) its
            ∙ ap option_flatten (slice_get-set_here paged.slots slot (Some place) (slot_within vl slot here))
        at false e = other (slot_in paged q) (λ s there same.
            eqb-false vl q e (slot_own vl q slot here (there ∙ ap Some same)))

  -- ---- room for more pages

  module _ (pages : List (Option ℕ)) (same : (page : ℕ) → found_at pages page ≡ number_in paged page) where
    pub longer_same : (q : ℕ) → place_in (record paged { pages = pages }) q ≡ place_in paged q
    unfolding place_in
    longer_same q = ap (λ o. option_and_then (λ slot. option_flatten (slice_get paged.slots slot))
        (option_map (λ number. 16 * number + q % 16) o)) (same (q / 16))

    -- ---- slots for a page

    module _ (page number : ℕ) (none : number_in paged page ≡ None) (room : page < length pages)
        (last : length paged.slots ≡ 16 * number) where
      abbrev pub with_page : Paged
      with_page = record {
        pages = slice_set pages page (Some number);
        slots = paged.slots ++ replicate 16 None;
      }

      pub numbered : number_in with_page page ≡ Some number
      numbered = ap option_flatten (slice_get-set_here pages page (Some number) room)

      others : (q : ℕ) → (q ≡ page → ⊥) → number_in with_page q ≡ number_in paged q
      others q other = ap option_flatten (slice_get-set_there pages page q (Some number) other) ∙ same q

      pub page_longer : length with_page.slots ≡ length paged.slots + 16
      page_longer = long paged.slots (replicate 16 None)

      pub page_added : IsPaged with_page
      page_added = record {
        count = number + 1;
        whole = omega (arith, page_longer, last);
        within = λ q n e. within q n e (cases_eq q page);
        own = λ a b n e f. own a b n e f (cases_eq a page) (cases_eq b page);
      }
        where
          new : (q n : ℕ) → number_in with_page q ≡ Some n → q ≡ page → n ≡ number
          new q n e its = same_Some n number (sym e ∙ ap (number_in with_page) its ∙ numbered)

          old : (q n : ℕ) → number_in with_page q ≡ Some n → (q ≡ page → ⊥) → 16 * n + 16 ≤ length paged.slots
          old q n e other = is.within q n (sym (others q other) ∙ e)

          within : (q n : ℕ) → number_in with_page q ≡ Some n → (q ≡ page) ⊎ (q ≡ page → ⊥)
              → 16 * n + 16 ≤ length with_page.slots
          within q n e (inl its) = omega (arith, new q n e its, page_longer, last)
          within q n e (inr other) = omega (arith, old q n e other, page_longer)

          apart : (a b n : ℕ) → number_in with_page a ≡ Some n → number_in with_page b ≡ Some n
              → a ≡ page → (b ≡ page → ⊥) → ⊥
          apart a b n e f its other = omega (arith, new a n e its, old b n f other, last)

          own : (a b n : ℕ) → number_in with_page a ≡ Some n → number_in with_page b ≡ Some n
              → (a ≡ page) ⊎ (a ≡ page → ⊥) → (b ≡ page) ⊎ (b ≡ page → ⊥) → a ≡ b
          own a b n e f (inl x) (inl y) = x ∙ sym y
          own a b n e f (inl x) (inr y) = absurd (apart a b n e f x y)
          own a b n e f (inr x) (inl y) = absurd (apart b a n f e y x)
          own a b n e f (inr x) (inr y) = is.own a b n (sym (others a x) ∙ e) (sym (others b y) ∙ f)

      pub page_same : (q : ℕ) → place_in with_page q ≡ place_in paged q
      unfolding place_in
      page_same q = by (cases_eq (q / 16) page)
        where
          place : Paged → Option ℕ → Option ℕ
          place p o = option_and_then (λ slot. option_flatten (slice_get p.slots slot))
              (option_map (λ n. 16 * n + q % 16) o)

          fresh : slice_get with_page.slots (16 * number + q % 16) ≡ Some None
          fresh = ap (λ n. slice_get with_page.slots (n + q % 16)) (sym last)
              ∙ behind paged.slots (replicate 16 None) (q % 16) ∙ of_same 16 None (q % 16) (omega arith)

          kept : (o : Option ℕ) → ((n : ℕ) → o ≡ Some n → 16 * n + 16 ≤ length paged.slots)
              → place with_page o ≡ place paged o
          kept None within = refl
          kept (Some n) within = ap option_flatten (before paged.slots (replicate 16 None) (16 * n + q % 16)
              (omega (arith, within n refl)))

          by : (q / 16 ≡ page) ⊎ (q / 16 ≡ page → ⊥)
              → place with_page (number_in with_page (q / 16)) ≡ place paged (number_in paged (q / 16))
          by (inl its) =
              ap (λ p. place with_page (number_in with_page p)) its ∙ ap (place with_page) numbered
              ∙ ap option_flatten fresh
              ∙ sym (ap (λ p. place paged (number_in paged p)) its ∙ ap (place paged) none)
          by (inr other) = ap (place with_page) (others (q / 16) other)
              ∙ kept (number_in paged (q / 16)) (is.within (q / 16))

-- ---- what is read

pub none_yet : (paged : Paged) (vl : ℕ) → paged.pages ≡ [] → place_in paged vl ≡ None
unfolding place_in
none_yet paged vl none = ap (λ ps. option_and_then (λ slot. found_at paged.slots slot)
    (option_map (λ number. 16 * number + vl % 16) (found_at ps (vl / 16)))) none

pub no_page : (paged : Paged) (vl : ℕ) → number_in paged (vl / 16) ≡ None → place_in paged vl ≡ None
unfolding place_in
no_page paged vl none = ap (λ o. option_and_then (λ slot. found_at paged.slots slot)
    (option_map (λ number. 16 * number + vl % 16) o)) none

pub on_page : (paged : Paged) (vl number : ℕ) → number_in paged (vl / 16) ≡ Some number
    → place_in paged vl ≡ found_at paged.slots (16 * number + vl % 16)
unfolding place_in
on_page paged vl number page = ap (λ o. option_and_then (λ slot. found_at paged.slots slot)
    (option_map (λ n. 16 * n + vl % 16) o)) page

pub place_read : (paged : Paged) → IsPaged paged → (vl number slot : ℕ) → number_in paged (vl / 16) ≡ Some number
    → slot ≡ 16 * number + vl % 16 → (item : Option ℕ) → item ≡ get_or paged.slots slot item → item ≡ place_in paged vl
place_read paged is vl number slot page its item read =
    let there : slot_in paged vl ≡ Some slot = ap (option_map (λ n. 16 * n + vl % 16)) page ∙ ap Some (sym its) in
    sym (on_page paged vl number page ∙ ap (found_at paged.slots) (sym its)
    ∙ ap option_flatten (slice_get_read paged.slots (length paged.slots) slot item refl
    (slot_within paged is vl slot there) read))

flattened : (o : Option (Option ℕ)) → option_flatten o ≡ unwrap_or o None
flattened None = refl
flattened (Some place) = refl

pub read_at : (xs lent : List (Option ℕ)) (i : ℕ) (item : Option (Bor (Option ℕ)))
    (read : Option (Option ℕ)) (o : Option ℕ) → lent ≡ xs → IsItemAt lent i item →
    read ≡ option_copied item → o ≡ option_flatten read → o ≡ found_at xs i
read_at xs lent i item read o e f g h =
    let there : unwrap_or (option_copied item) None ≡ get_or xs i None =
    subst (λ ys. unwrap_or (option_copied item) None ≡ get_or ys i None) e (f.4 (omega arith) None) in
    sym (flattened (slice_get xs i) ∙ unwrap_or-slice_get xs i None ∙ sym there
    ∙ ap (λ r. unwrap_or r None) (sym g) ∙ sym (flattened read) ∙ sym h)
