-- Places that words put, one by one.
use Rattle.std.proofs.Common.{◌≡◌, ◌≢◌, ◌<◌, ◌≤◌, ◌+◌, ◌++◌, ◌==◌, inl, inr, ℕ, zero, suc, Bool, true, false}
use Rattle.std.proofs.Common.{List, [], ◌∷◌, length, get_or, slice_get, map, take, refl, sym, ap, arith, ◌∙◌, subst}
use Rattle.std.proofs.Common.{Option, Some, None, Result, Ok, Err, Bor, if◌then◌else◌}
use Rattle.std.specs.Prelude.{OnOk, IfOk}
use Rattle.std.specs.List.{AllByRecursion, Any}
use Rattle.std.proofs.lemmas.Bool.{cases_eq}
use Rattle.std.proofs.lemmas.Grind.{common_steps}
use Rattle.std.proofs.lemmas.List.{map_more, take_all}
use Rattle.std.proofs.lemmas.List.Quantifiers.{Any-push}
use Rattle.afdx_input_sources.specs.Places.{places_but}
use Rattle.afdx_input_sources.specs.declared.places.TapPoint.{TapPoint}
use Rattle.afdx_command_words.specs.PlaceSaid.{IsWord, Spot}
use Rattle.afdx_command_words.specs.Placed.{ArePut, ArePutBeside, Came, IsAt, IsPut, Says}

-- ---- lists

pub all-map : {X : Type 0} (P Q : X → Type 0) (xs : List X) → ((x : X) → P x → Q x) → AllByRecursion P xs
    → AllByRecursion Q xs
all-map P Q [] f all = tt
all-map P Q (x ∷ xs) f all = (f x all.0, all-map P Q xs f all.1)

all-push : {X : Type 0} (P : X → Type 0) (xs : List X) (x : X) → AllByRecursion P xs → P x
    → AllByRecursion P (xs ++ x ∷ [])
all-push P [] x all one = (one, tt)
all-push P (y ∷ xs) x all one = (all.0, all-push P xs x all.1 one)

pub any-map : {X : Type 0} (P Q : X → Type 0) (xs : List X) → ((x : X) → P x → Q x) → Any P xs → Any Q xs
any-map P Q xs f a = (a.0, a.1, a.2, a.3, f a.1 a.4)

get-front : {X : Type 0} (xs : List X) (y : X) (k : ℕ) (d : X) → k < length xs
    → get_or (xs ++ y ∷ []) k d ≡ get_or xs k d
get-front [] y k d lt = absurd (omega (arith, lt))
get-front (x ∷ xs) y zero d lt = refl
get-front (x ∷ xs) y (suc k) d lt = get-front xs y k d (omega (arith, lt))

length-push : {X : Type 0} (xs : List X) (y : X) (k : ℕ) → k < length xs → k < length (xs ++ y ∷ [])
length-push [] y k lt = absurd (omega (arith, lt))
length-push (x ∷ xs) y zero lt = omega arith
length-push (x ∷ xs) y (suc k) lt =
    let less = length-push xs y k (omega (arith, lt)) in omega (arith, less)

any-before : {X : Type 0} (P : X → Type 0) (xs : List X) (y : X) → Any P xs → Any P (xs ++ y ∷ [])
any-before P xs y a =
    (a.0, a.1, length-push xs y a.0 a.2, get-front xs y a.0 a.1 a.2 ∙ a.3, a.4)

slice-front : {X : Type 0} (xs more : List X) (n : ℕ) (x : X) → slice_get xs n ≡ Some x
    → slice_get (xs ++ more) n ≡ Some x
slice-front [] more n x e = absurd (cc)
slice-front (y ∷ xs) more zero x e = e
slice-front (y ∷ xs) more (suc n) x e = slice-front xs more n x e

pub slice-last : {X : Type 0} (xs : List X) (x : X) → slice_get (xs ++ x ∷ []) (length xs) ≡ Some x
slice-last [] x = refl
slice-last (y ∷ xs) x = slice-last xs x

-- ---- answers

pub on-ok : {X E : Type 0} (r : Result X E) (P : Type 0) → P → OnOk r P
on-ok (Ok x) P p = p
on-ok (Err e) P p = tt

pub ok-map : {X E : Type 0} (r : Result X E) (P Q : Type 0) → (P → Q) → OnOk r P → OnOk r Q
ok-map (Ok x) P Q f p = f p
ok-map (Err e) P Q f p = tt

pub if-ok-map : {X E : Type 0} (r : Result X E) (P Q : X → Type 0) → ((x : X) → P x → Q x) → IfOk r P → IfOk r Q
if-ok-map (Ok x) P Q f p = f x p
if-ok-map (Err e) P Q f p = tt

-- ---- one place

but-by : (places : ℕ → Option TapPoint) (k j : ℕ) (place : TapPoint) (b : Bool) → (j == k) ≡ b
    → places_but places k place j ≡ (if b then Some place else places j)
but-by places k j place b e = rw e refl

pub but-same : (places : ℕ → Option TapPoint) (k j : ℕ) (place : TapPoint) → j ≡ k
    → places_but places k place j ≡ Some place
but-same places k j place e = but-by places k j place true (grind (arith, common_steps, e))

pub but-other : (places : ℕ → Option TapPoint) (k j : ℕ) (place : TapPoint) → j ≢ k
    → places_but places k place j ≡ places j
but-other places k j place other = but-by places k j place false (grind (arith, common_steps, other))

-- ---- names

pub came-grows : (names more : List (List ℕ)) (spot : Option Spot) (place : TapPoint) → Came names spot place
    → Came (names ++ more) spot place
came-grows names more None place c = c
came-grows names more (Some spot) place c = by spot.switch c
  where
    by : (switch : Option (List ℕ)) → IsAt names spot.side switch spot.port place
        → IsAt (names ++ more) spot.side switch spot.port place
    by None is = is
    by (Some name) is = (is.0, slice-front names more is.0 name is.1, is.2)

-- ---- one word more

module _ (IsTold : Option Spot → Type 0) (Is Grown : Option Spot → TapPoint → Type 0)
    (grow : (spot : Option Spot) (place : TapPoint) → Is spot place → Grown spot place)
    (words : List (List ℕ)) (word : List ℕ) (start before after : ℕ → Option TapPoint) (k : ℕ) (spot : Option Spot)
    (old : ArePutBeside IsTold Is words start before) (is : IsWord word k spot) where
  -- which is told: its interface gets the place
  module _ (place : TapPoint) (told : IsTold spot) (means : Grown spot place) (free : before k ≡ None)
      (put : (j : ℕ) → after j ≡ places_but before k place j) where
    there : (j : ℕ) → j ≡ k → after j ≡ Some place
    there j e = put j ∙ but-same before k j place e

    stays : (j : ℕ) (p : TapPoint) → before j ≡ Some p → after j ≡ Some p
    stays j p e =
        let other : j ≢ k = λ same. let wrong : None ≡ Some p = sym free ∙ ap before (sym same) ∙ e in cc in
        put j ∙ but-other before k j place other ∙ e

    still : (x : List ℕ) → IsPut IsTold Is before x → IsPut IsTold Grown after x
    still x p = (p.0, p.1, p.2, λ t. let at = p.3 t in (at.0, stays p.0 at.0 at.1, grow p.1 at.0 at.2))

    grown : (j : ℕ) (p : TapPoint) (x : List ℕ) → Says IsTold Is j p x → Says IsTold Grown j p x
    grown j p x s = (s.0, s.1, s.2, grow s.0 p s.3)

    new : IsPut IsTold Grown after word
    new = (k, spot, is, λ t. (place, there k refl, means))

    says : (j : ℕ) (p : TapPoint) → j ≡ k → after j ≡ Some p → Says IsTold Grown j p word
    says j p e at =
        let same : place ≡ p = cc (there j e, at) in (
          spot,
          subst (λ (i : ℕ). IsWord word i spot) (sym e) is,
          told,
          subst (λ (q : TapPoint). Grown spot q) same means,
        )

    was : (j : ℕ) (p : TapPoint) → j ≢ k → after j ≡ Some p → before j ≡ Some p
    was j p other at = sym (put j ∙ but-other before k j place other) ∙ at

    pub word-put : ArePutBeside IsTold Grown (words ++ word ∷ []) start after
    word-put = record {
      each = all-push (IsPut IsTold Grown after) words word
          (all-map (IsPut IsTold Is before) (IsPut IsTold Grown after) words still old.each) new;
      kept = λ j p e. stays j p (old.kept j p e);
      only = λ j p at. elim (cases_eq j k) [
        | inl same ↦ inr (Any-push (Says IsTold Grown j p) words word (says j p same at))
        | inr other ↦ elim (old.only j p (was j p other at)) [
          | inl first ↦ inl first
          | inr said ↦ inr (any-before (Says IsTold Grown j p) words word
              (any-map (Says IsTold Is j p) (Says IsTold Grown j p) words (grown j p) said))
        ]
      ];
    }

  -- which isn't: nothing is put
  pub word-passed : (IsTold spot → ⊥) → ArePutBeside IsTold Is (words ++ word ∷ []) start before
  word-passed untold = record {
    each = all-push (IsPut IsTold Is before) words word old.each (k, spot, is, λ t. absurd (untold t));
    kept = old.kept;
    only = λ j p at. elim (old.only j p at) [
      | inl first ↦ inl first
      | inr said ↦ inr (any-before (Says IsTold Is j p) words word said)
    ];
  }

-- ---- no word, and all

pub none-put : (IsTold : Option Spot → Type 0) (Is : Option Spot → TapPoint → Type 0) (places : ℕ → Option TapPoint)
    → ArePutBeside IsTold Is [] places places
none-put IsTold Is places = record { each = tt; kept = λ j p e. e; only = λ j p e. inl e }

pub all-put : (IsTold : Option Spot → Type 0) (Is : Option Spot → TapPoint → Type 0) (words : List (List ℕ))
    (start places : ℕ → Option TapPoint) → ArePutBeside IsTold Is words start places
    → ((k : ℕ) → start k ≡ None) → ArePut IsTold Is words places
all-put IsTold Is words start places h none = record {
  each = h.each;
  only = λ k p at. elim (h.only k p at) [
    | inl first ↦ let wrong : None ≡ Some p = sym (none k) ∙ first in absurd (cc)
    | inr said ↦ said
  ];
}

-- ---- lists of words

abbrev pub texts : List (Bor (List ℕ)) → List (List ℕ)
texts words = map (λ word. word.now) words

pub texts-more : (words : List (Bor (List ℕ))) (i : ℕ) (d : Bor (List ℕ)) → i < length words
    → texts (take i words) ++ (get_or words i d).now ∷ [] ≡ texts (take (i + 1) words)
texts-more words i d lt = sym (map_more (λ (word : Bor (List ℕ)). word.now) words i d lt)

pub texts-all : (words : List (Bor (List ℕ))) (i : ℕ) → length words ≤ i → texts (take i words) ≡ texts words
texts-all words i le = ap texts (take_all i words le)
