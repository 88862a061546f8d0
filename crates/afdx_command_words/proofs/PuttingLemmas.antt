-- Interfaces of recordings, of which words say the places.
use Rattle.std.proofs.Common.{◌≡◌, ◌<◌, ◌≤◌, ◌+◌, ◌++◌, ◌==◌, inl, inr, ℕ, List, [], ◌∷◌, length, get_or, slice_get, take}
use Rattle.std.proofs.Common.{refl, sym, ap, ◌∙◌, subst, Option, Some, None, false, Bor, if◌then◌else◌}
use Rattle.std.specs.Option.{is_some}
use Rattle.std.specs.List.{Any}
use Rattle.std.proofs.lemmas.List.{append-nil}
use Rattle.afdx_frame.specs.declared.link.Side.{Side}
use Rattle.afdx_frame.specs.declared.link.Side.TheVariants.{A, B}
use Rattle.afdx_input_sources.specs.Places.{names_of, place_of, places_but}
use Rattle.afdx_input_sources.specs.declared.places.Interfaces.{Interfaces}
use Rattle.afdx_input_sources.specs.declared.places.TapPoint.{TapPoint}
use Rattle.afdx_input_sources.specs.declared.places.TapPoint.TheVariants.{LeftOut, AtNamed, Left}
use Rattle.afdx_command_words.specs.PlaceSaid.{IsWord, Spot, spot_of}
use Rattle.afdx_command_words.specs.declared.place_words.Said.{Said}
use Rattle.afdx_command_words.specs.declared.place_words.Said.TheVariants as reading
use Rattle.afdx_command_words.specs.WordLaws.{spot_with}
use Rattle.afdx_command_words.specs.Placed.{ArePut, ArePutBeside, AreSeen, Came, Gone, Grows}
use Rattle.afdx_command_words.specs.Placed.{IsMeant, IsNew, IsNewBy, IsNewOn, IsPut, OfAll, OfSide, Says, place_on}
use Rattle.afdx_command_words.proofs.PlacedLemmas.{all-map, all-put, any-map, came-grows, slice-last, texts, texts-all}
use Rattle.afdx_command_words.proofs.PlacedLemmas.{texts-more, word-passed, word-put}

-- ---- a spot and its place

grows-not : (names : List (List ℕ)) → Grows names names
grows-not names = ([], sym (append-nil names))

pub meant-left-out : (interfaces : Interfaces) → IsMeant interfaces interfaces None LeftOut
meant-left-out interfaces =
    record { is = refl; places = refl; grown = grows-not (names_of interfaces) }

pub meant-on : (interfaces : Interfaces) (side : Side) (port : Option ℕ) (place : TapPoint) → place ≡ place_on side port
    → IsMeant interfaces interfaces (spot_with side None port) place
meant-on interfaces side port place e =
    record { is = e; places = refl; grown = grows-not (names_of interfaces) }

pub meant-named : (before after : Interfaces) (side : Side) (name : List ℕ) (port : Option ℕ) (number : ℕ)
    → number ≡ length (names_of before) → names_of after ≡ names_of before ++ name ∷ [] → after.places ≡ before.places
    → IsMeant before after (spot_with side (Some name) port) (AtNamed side number port)
meant-named before after side name port number count names places = record {
  is = (number, named, refl);
  places = places;
  grown = (name ∷ [], names);
}
  where
    named : slice_get (names_of after) number ≡ Some name
    named =
        ap (λ (all : List (List ℕ)). slice_get all number) names
        ∙ ap (λ (n : ℕ). slice_get (names_of before ++ name ∷ []) n) count ∙ slice-last (names_of before) name

-- what was read says it
pub said-left-out : (interfaces : Interfaces) (said : Said) → said ≡ reading.LeftOut
    → IsMeant interfaces interfaces (spot_of said) LeftOut
said-left-out interfaces said is = rw is (meant-left-out interfaces)

pub said-on : (interfaces : Interfaces) (said : Said) (side : Side) (switch : Option (Bor (List ℕ)))
    (port : Option ℕ) (place : TapPoint) → said ≡ reading.At side switch port → switch ≡ None → place ≡
    place_on side port
    → IsMeant interfaces interfaces (spot_of said) place
said-on interfaces said side switch port place is none e = rw (is, none) (meant-on interfaces side port place e)

pub said-named : (before after : Interfaces) (said : Said) (side : Side) (switch : Option (Bor (List ℕ)))
    (name : Bor (List ℕ)) (port : Option ℕ) (number : ℕ) → said ≡ reading.At side switch port → switch ≡ Some name
    → number ≡ length (names_of before) → names_of after ≡ names_of before ++ name.now ∷ []
    → after.places ≡ before.places → IsMeant before after (spot_of said) (AtNamed side number port)
said-named before after said side switch name port number is some count names places =
    rw (is, some) (meant-named before after side name.now port number count names places)

-- ---- a new place

none-of : (said : Option TapPoint) → is_some said ≡ false → said ≡ None
none-of None e = refl
none-of (Some place) e = absurd (cc e)

pub is-new : (before after : Interfaces) (k : ℕ) (place : TapPoint) (said : Option TapPoint) → said ≡ place_of before k
    → is_some said ≡ false → ((j : ℕ) → place_of after j ≡ places_but (place_of before) k place j)
    → after.names ≡ before.names → IsNew before after k place
is-new before after k place said e none put names =
    record { free = sym e ∙ none-of said none; put = put; names = rw names refl }

same-places : (before after : Interfaces) → after.places ≡ before.places → (j : ℕ)
    → place_of after j ≡ place_of before j
unfolding place_of
same-places before after e j = rw e refl

pub is-new-by : (before mid after : Interfaces) (k : ℕ) (spot : Option Spot) (place : TapPoint)
    → IsMeant before mid spot place → IsNew mid after k place → IsNewBy before after k spot
is-new-by before mid after k spot place meant new = record {
  place = place;
  is = subst (λ (names : List (List ℕ)). Came names spot place) (sym new.names) meant.is;
  free = sym (same-places before mid meant.places k) ∙ new.free;
  put = λ j. new.put j
      ∙ ap (λ (o : Option TapPoint). if j == k then Some place else o) (same-places before mid meant.places j);
  grown = (meant.grown.0, new.names ∙ meant.grown.1);
}

-- ---- of two recordings

pub on-both : (side : Side) (before after : Interfaces) (k : ℕ) → IsNewBy before after k None
    → IsNewOn side before after k None
on-both side before after k new = inl (tt, new)

-- by what was read: of both, of that of its side, not of the other
pub said-of-both : (side : Side) (before after : Interfaces) (k : ℕ) (said : Said) → said ≡ reading.LeftOut
    → IsNewBy before after k (spot_of said) → IsNewOn side before after k (spot_of said)
said-of-both side before after k said is =
    subst (λ (s : Said). IsNewBy before after k (spot_of s) → IsNewOn side before after k (spot_of s)) (sym is)
    (on-both side before after k)

pub said-of-this : (side of : Side) (switch : Option (Bor (List ℕ))) (port : Option ℕ) (before after : Interfaces)
    (k : ℕ) (said : Said) → said ≡ reading.At of switch port → of ≡ side
    → IsNewBy before after k (spot_of said) → IsNewOn side before after k (spot_of said)
said-of-this side of switch port before after k said is e new =
    inl (rw is e, new)

pub said-of-other : (side of : Side) (switch : Option (Bor (List ℕ))) (port : Option ℕ) (interfaces : Interfaces)
    (k : ℕ) (said : Said) → said ≡ reading.At of switch port → (of ≡ side → ⊥)
    → IsNewOn side interfaces interfaces k (spot_of said)
said-of-other side of switch port interfaces k said is ne =
    rw is (inr (ne, refl))

pub a-not-b : (side : Side) → side ≡ A → side ≡ B → ⊥
a-not-b side e f = let wrong : A ≡ B = sym e ∙ f in cc

pub b-not-a : (side : Side) → side ≡ B → side ≡ A → ⊥
b-not-a side e f = let wrong : B ≡ A = sym e ∙ f in cc

-- ---- the words of a loop

abbrev pub nowhere : ℕ → Option TapPoint
nowhere k = None

pub empty-put : (IsTold : Option Spot → Type 0) (Is : Option Spot → TapPoint → Type 0) (places : ℕ → Option TapPoint)
    → ((k : ℕ) → places k ≡ None) → ArePutBeside IsTold Is [] nowhere places
empty-put IsTold Is places none = record {
  each = tt;
  kept = λ k p e. let wrong : None ≡ Some p = e in absurd (cc);
  only = λ k p e. let wrong : None ≡ Some p = sym (none k) ∙ e in absurd (cc);
}

grow : (before after : Interfaces) (k : ℕ) (told : Option Spot)
    → IsNewBy before after k told → (spot : Option Spot) (place : TapPoint) → Came (names_of before) spot place
    → Came (names_of after) spot place
grow before after k told new spot place c =
    subst (λ (names : List (List ℕ)). Came names spot place) (sym new.grown.1)
    (came-grows (names_of before) new.grown.0 spot place c)

module _ (IsTold : Option Spot → Type 0) (words : List (Bor (List ℕ))) (i : ℕ) (d : Bor (List ℕ))
    (start : ℕ → Option TapPoint) (before after : Interfaces) (k : ℕ) (spot : Option Spot) (lt : i < length words)
    (old : ArePutBeside IsTold (Came (names_of before)) (texts (take i words)) start (place_of before))
    (is : IsWord (get_or words i d).now k spot) where
  -- one word more, which is told
  pub came-next : IsTold spot → IsNewBy before after k spot
      → ArePutBeside IsTold (Came (names_of after)) (texts (take (i + 1) words)) start (place_of after)
  came-next told new =
      subst (λ (ws : List (List ℕ)). ArePutBeside IsTold (Came (names_of after)) ws start (place_of after))
      (texts-more words i d lt)
      (word-put IsTold (Came (names_of before)) (Came (names_of after)) (grow before after k spot new)
      (texts (take i words)) (get_or words i d).now start (place_of before) (place_of after) k spot old is
      new.place told new.is new.free new.put)

  -- which isn't
  pub passed-next : (IsTold spot → ⊥) → after ≡ before
      → ArePutBeside IsTold (Came (names_of after)) (texts (take (i + 1) words)) start (place_of after)
  passed-next untold same =
      subst (λ (those : Interfaces).
      ArePutBeside IsTold (Came (names_of those)) (texts (take (i + 1) words)) start (place_of those)) (sym same)
      (subst (λ (ws : List (List ℕ)). ArePutBeside IsTold (Came (names_of before)) ws start (place_of before))
      (texts-more words i d lt)
      (word-passed IsTold (Came (names_of before)) (Came (names_of before)) (λ s p c. c) (texts (take i words))
      (get_or words i d).now start (place_of before) (place_of before) k spot old is untold))

-- of two recordings that of a side
pub side-next : (side : Side) (words : List (Bor (List ℕ))) (i : ℕ) (d : Bor (List ℕ)) (start : ℕ → Option TapPoint)
    (before after : Interfaces) (k : ℕ) (spot : Option Spot) → i < length words
    → ArePutBeside (OfSide side) (Came (names_of before)) (texts (take i words)) start (place_of before)
    → IsWord (get_or words i d).now k spot → IsNewOn side before after k spot
    → ArePutBeside (OfSide side) (Came (names_of after)) (texts (take (i + 1) words)) start (place_of after)
side-next side words i d start before after k spot lt old is new = elim new [
  | inl told ↦ came-next (OfSide side) words i d start before after k spot lt old is told.0 told.1
  | inr untold ↦ passed-next (OfSide side) words i d start before after k spot lt old is untold.0 untold.1
]

-- where frames came in at one switch of a side
pub seen-next : (words : List (Bor (List ℕ))) (i : ℕ) (d : Bor (List ℕ)) (start : ℕ → Option TapPoint)
    (before after : Interfaces) (k : ℕ) (side : Side) (port : Option ℕ) (place : TapPoint) → i < length words
    → ArePutBeside OfAll (Came (names_of before)) (texts (take i words)) start (place_of before)
    → IsWord (get_or words i d).now k (spot_with side None port) → place ≡ place_on side port
    → IsNew before after k place
    → ArePutBeside OfAll (Came (names_of after)) (texts (take (i + 1) words)) start (place_of after)
seen-next words i d start before after k side port place lt old is e new =
    came-next OfAll words i d start before after k (spot_with side None port) lt old is tt
    (is-new-by before before after k (spot_with side None port) place (meant-on before side port place e) new)

-- where they left
pub gone-next : (words : List (Bor (List ℕ))) (i : ℕ) (d : Bor (List ℕ)) (start : ℕ → Option TapPoint)
    (before after : Interfaces) (k : ℕ) (side : Side) (port : ℕ) → i < length words
    → ArePutBeside OfAll Gone (texts (take i words)) start (place_of before)
    → IsWord (get_or words i d).now k (spot_with side None (Some port)) → IsNew before after k (Left side port)
    → ArePutBeside OfAll Gone (texts (take (i + 1) words)) start (place_of after)
gone-next words i d start before after k side port lt old is new =
    subst (λ (ws : List (List ℕ)). ArePutBeside OfAll Gone ws start (place_of after)) (texts-more words i d lt)
    (word-put OfAll Gone Gone (λ s p g. g) (texts (take i words)) (get_or words i d).now start (place_of before)
    (place_of after) k (spot_with side None (Some port)) old is (Left side port) tt (side, port, refl, refl)
    new.free new.put)

-- ---- all words

module _ (IsTold : Option Spot → Type 0) (Is : Option Spot → TapPoint → Type 0) (words : List (Bor (List ℕ))) (i : ℕ)
    (start places : ℕ → Option TapPoint) (le : length words ≤ i)
    (all : ArePutBeside IsTold Is (texts (take i words)) start places) where
  -- these are the words of an option
  pub option-put : (said : List (List ℕ)) → texts words ≡ said → ArePutBeside IsTold Is said start places
  option-put said e =
      subst (λ (ws : List (List ℕ)). ArePutBeside IsTold Is ws start places) (texts-all words i le ∙ e) all

  -- there was no place before
  pub words-put : ((k : ℕ) → start k ≡ None) → ArePut IsTold Is (texts words) places
  words-put none = all-put IsTold Is (texts words) start places (option-put (texts words) refl) none

-- ---- where frames came in, and then where they left

module _ (came left : List (List ℕ)) (start : ℕ → Option TapPoint) (mid after : Interfaces)
    (none : (k : ℕ) → start k ≡ None)
    (first : ArePutBeside OfAll (Came (names_of mid)) came start (place_of mid))
    (last : ArePutBeside OfAll Gone left (place_of mid) (place_of after)) (names : names_of after ≡ names_of mid) where
  same-name : (spot : Option Spot) (place : TapPoint) → Came (names_of mid) spot place →
      Came (names_of after) spot place
  same-name spot place c = subst (λ (all : List (List ℕ)). Came all spot place) (sym names) c

  still-put : (x : List ℕ) → IsPut OfAll (Came (names_of mid)) (place_of mid) x
      → IsPut OfAll (Came (names_of after)) (place_of after) x
  still-put x p = (
    p.0,
    p.1,
    p.2,
    λ t.
        let at = p.3 t in (at.0, last.kept p.0 at.0 at.1, same-name p.1 at.0 at.2),
  )

  still-said : (k : ℕ) (place : TapPoint) (x : List ℕ) → Says OfAll (Came (names_of mid)) k place x
      → Says OfAll (Came (names_of after)) k place x
  still-said k place x s = (s.0, s.1, s.2, same-name s.0 place s.3)

  was-said : (k : ℕ) (place : TapPoint) → place_of mid k ≡ Some place
      → Any (Says OfAll (Came (names_of after)) k place) came
  was-said k place at = elim (first.only k place at) [
    | inl said ↦ let wrong : None ≡ Some place = sym (none k) ∙ said in absurd (cc)
    | inr said ↦ any-map (Says OfAll (Came (names_of mid)) k place) (Says OfAll (Came (names_of after)) k place) came
        (still-said k place) said
  ]

  pub are-seen : AreSeen came left after
  are-seen = record {
    each_came = all-map (IsPut OfAll (Came (names_of mid)) (place_of mid))
        (IsPut OfAll (Came (names_of after)) (place_of after)) came still-put first.each;
    each_left = last.each;
    only = λ k place at. elim (last.only k place at) [
      | inl was ↦ inl (was-said k place was)
      | inr said ↦ inr said
    ];
  }
