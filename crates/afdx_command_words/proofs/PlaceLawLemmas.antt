-- The place of one interface, by the word that names it.
use Rattle.std.proofs.Common.{◌≡◌, ◌<◌, ℕ, zero, suc, List, [], ◌∷◌, length, get_or, refl, sym, ap, arith, ◌∙◌, subst}
use Rattle.std.proofs.Common.{Option, Some, None}
use Rattle.std.specs.List.{AllByRecursion}
use Rattle.afdx_frame.specs.declared.link.Side.{Side}
use Rattle.afdx_input_sources.specs.Places.{names_of, place_of}
use Rattle.afdx_input_sources.specs.declared.places.TapPoint.{TapPoint}
use Rattle.afdx_input_sources.specs.declared.places.TapPoint.TheVariants.{LeftOut, OnSide, Left}
use Rattle.afdx_command_words.specs.PlaceSaid.{Spot}
use Rattle.afdx_command_words.specs.Placed.{ArePut, Came, Gone, IsPut, OfAll}
use Rattle.afdx_command_words.specs.PlacedLaws.{IsSaid, WordsArePlaces}
use Rattle.afdx_command_words.specs.WordLaws.{spot_with}
use Rattle.afdx_command_words.proofs.OnceLemmas.{word-once}

all-get : {X : Type 0} (P : X → Type 0) (xs : List X) (k : ℕ) (x : X) → k < length xs → get_or xs k x ≡ x
    → AllByRecursion P xs → P x
all-get P [] k x lt e all = absurd (omega (arith, lt))
all-get P (y ∷ xs) zero x lt e all = subst P e all.0
all-get P (y ∷ xs) (suc k) x lt e all = all-get P xs k x (omega (arith, lt)) e all.1

module _ (IsTold : Option Spot → Type 0) (Is : Option Spot → TapPoint → Type 0) (words : List (List ℕ))
    (places : ℕ → Option TapPoint) (h : ArePut IsTold Is words places) (k : ℕ) where
  -- what is said is put
  said-put : (spot : Option Spot) → IsTold spot → IsSaid words k spot
      → (place : TapPoint) × (places k ≡ Some place) × Is spot place
  said-put spot told said =
      let put = all-get (IsPut IsTold Is places) words said.0 said.1 said.2 said.3 h.each in
      let same = word-once said.1 put.0 k put.1 spot put.2 said.4 in
      let found = put.3 (subst IsTold (sym same.1) told) in (
        found.0,
        subst (λ (j : ℕ). places j ≡ Some found.0) same.0 found.1,
        subst (λ (s : Option Spot). Is s found.0) same.1 found.2,
      )

  -- what isn't, isn't
  unsaid-not : ((spot : Option Spot) → IsSaid words k spot → ⊥) → places k ≡ None
  unsaid-not unsaid = by (places k) refl
    where
      by : (found : Option TapPoint) → places k ≡ found → places k ≡ None
      by None e = e
      by (Some place) e =
          let said = h.only k place e in
          absurd (unsaid said.4.0 (said.0, said.1, said.2, said.3, said.4.1))

-- the port at which frames left
abbrev left-at : Side → Option ℕ → TapPoint
left-at side None = OnSide side
left-at side (Some port) = Left side port

abbrev left-of : Option Spot → TapPoint
left-of None = LeftOut
left-of (Some spot) = left-at spot.side spot.port

gone-is : (side : Side) (port : ℕ) (place : TapPoint) → Gone (spot_with side None (Some port)) place
    → place ≡ Left side port
gone-is side port place gone = gone.3 ∙ sym (ap left-of gone.2)

pub words_are_places : WordsArePlaces
words_are_places = record {
  there = λ words interfaces k h side port said.
      let found = said-put OfAll (Came (names_of interfaces)) words (place_of interfaces) h k
      (spot_with side None port) tt said in
      found.1 ∙ ap Some found.2;
  out = λ words interfaces k h said.
      let found = said-put OfAll (Came (names_of interfaces)) words (place_of interfaces) h k None tt said in
      found.1 ∙ ap Some found.2;
  nowhere = λ words interfaces k h unsaid.
      unsaid-not OfAll (Came (names_of interfaces)) words (place_of interfaces) h k unsaid;
  left = λ words interfaces k h side port said.
      let found = said-put OfAll Gone words (place_of interfaces) h k (spot_with side None (Some port)) tt said in
      found.1 ∙ ap Some (gone-is side port found.0 found.2);
}
