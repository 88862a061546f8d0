-- What is told and what is held, as frames come and lines are told.
use Rattle.std.proofs.Common.{◌≡◌, ℕ, ◌<◌, ◌≤◌, true, false, true≢false, List, ◌∷◌, ◌++◌, map, get_or, sym, ap, ap₂, ◌∙◌, subst, arith}
use Rattle.std.proofs.lemmas.Bool.{ltb-false, ltb-true}
use Rattle.std.proofs.lemmas.List.{append-nil, map-append}
use Rattle.std.proofs.lemmas.List.Elements.{All-append, All-cons, All-head, All-map, All-tail, All-weaker, filter-append, recursion_from_All}
use Rattle.std.proofs.lemmas.List.Sorted.{All-permutation, IsPermutation-append_right}
use Rattle.std.proofs.lemmas.List.Sorted.{IsPermutation-map, IsPermutation-middle, IsPermutation-sym, IsPermutation-trans}
use Rattle.std.specs.List.{All}
use Rattle.std.specs.List.Sorted.{IsPermutation}
use Rattle.std.specs.Prelude.{filter, Option, Some, None}
use Rattle.afdx_police.specs.Arrival.{Arrival}
use Rattle.afdx_senders.specs.AllLines.{all_lines, all_singles, is_early, lines_coming}
use Rattle.afdx_senders.specs.Lines.{AddsLines, Line, line_of}
use Rattle.afdx_senders.specs.Order.{AreInType, AreNotBefore}
use Rattle.afdx_senders.specs.Settling.{TakesOf}
use Rattle.afdx_senders.specs.Setups.{Setup}
use Rattle.afdx_senders.specs.Telling.{AreTold, AreToldBefore, HasNumbers, IsBehind, IsEarly, known_lines, rank}
use Rattle.afdx_senders.specs.declared.sender_line.SenderLine.{SenderLine}
use Rattle.afdx_senders.proofs.OrderLemmas.{side_small}
use Rattle.afdx_senders.proofs.ListLemmas.{filter_all, filter_none, filter_permutation, filter_twice, parts_swap}

-- ---- a line of a moment before a time, and one of a moment at it or later

comes_behind : (before : Option ℕ) (x y : Line) → IsEarly before y → is_early before x ≡ false → rank y ≤ rank x
comes_behind None x y early late = absurd (true≢false late)
comes_behind (Some time) x y early late =
    let soon : y.moment < time = ltb-true y.moment time early.sooner in
    let not : time ≤ x.moment = ltb-false x.moment time late in
    omega (arith, soon, not, side_small y.side, early.numbers.port, early.numbers.line)

pub late_behind : (before : Option ℕ) (told : List Line) (x : Line) → All (IsEarly before) told →
    is_early before x ≡ false → IsBehind x told
late_behind before told x early late =
    All-weaker (IsEarly before) (λ y. rank y ≤ rank x) (λ y e. comes_behind before x y e late) told early

pub all_behind : (before : Option ℕ) (told lines : List Line) → All (IsEarly before) told →
    All (λ x. is_early before x ≡ false) lines → All (λ x. IsBehind x told) lines
all_behind before told lines early late =
    All-weaker (λ x. is_early before x ≡ false) (λ x. IsBehind x told)
    (λ x e. late_behind before told x early e) lines late

-- ---- more lines are held

added : (lines : List Line) (old new : List SenderLine) → AddsLines lines old new →
    IsPermutation (lines ++ map line_of old) (map line_of new)
added lines old new adds =
    subst (λ (l : List Line). IsPermutation l (map line_of new))
    (map-append line_of adds.0 old ∙ ap (λ (l : List Line). l ++ map line_of old) adds.1)
    (IsPermutation-map line_of (adds.0 ++ old) new adds.2)

module _ (z : Setup) (before next : Option ℕ) (xs ys : List Arrival) (told lines : List Line)
    (old new : List SenderLine) (is : AreTold z before xs told (map line_of old)) (adds : AddsLines lines old new)
    (known : IsPermutation (lines ++ known_lines z before xs) (known_lines z next ys))
    (late : All (λ x. is_early before x ≡ false) lines)
    (later : (x : Line) → is_early before x ≡ true → is_early next x ≡ true) where
  abbrev held : List Line
  held = map line_of old

  abbrev more : List Line
  more = map line_of new

  pub holds_more : AreTold z next ys told more
  holds_more = record {
    are =
        IsPermutation-trans (told ++ more) (told ++ (lines ++ held)) (known_lines z next ys)
        (IsPermutation-append_right told more (lines ++ held)
        (IsPermutation-sym (lines ++ held) more (added lines old new adds)))
        (IsPermutation-trans (told ++ (lines ++ held)) (lines ++ (told ++ held)) (known_lines z next ys)
        (parts_swap told lines held)
        (IsPermutation-trans (lines ++ (told ++ held)) (lines ++ known_lines z before xs) (known_lines z next ys)
        (IsPermutation-append_right lines (told ++ held) (known_lines z before xs) is.are) known));
    in_order = is.in_order;
    behind =
        All-permutation (λ x. IsBehind x told) (lines ++ held) more (added lines old new adds)
        (All-append (λ x. IsBehind x told) lines held (all_behind before told lines is.early late) is.behind);
    early = All-weaker (IsEarly before) (IsEarly next)
        (λ x e. record { sooner = later x e.sooner; numbers = e.numbers }) told is.early;
  }

-- ---- a line is told

numbers_of : (x : SenderLine) → AreInType x → HasNumbers (line_of x)
numbers_of x h = record { port = h.port; line = h.line }

module _ (z : Setup) (before : Option ℕ) (xs : List Arrival) (told : List Line) (held rest : List SenderLine)
    (is : AreTold z before xs told (map line_of held)) where
  pub tells_one : (x : SenderLine) → AreInType x → TakesOf before held (Some x) rest →
      AreTold z before xs (line_of x ∷ told) (map line_of rest)
  tells_one x numbers takes =
      let moved : IsPermutation (map line_of held) (line_of x ∷ map line_of rest) =
      IsPermutation-map line_of held (x ∷ rest) takes.1 in
      let behind = All-permutation (λ v. IsBehind v told) (map line_of held) (line_of x ∷ map line_of rest) moved
      is.behind in
      let left = All-tail (λ v. IsBehind v told) (line_of x) (map line_of rest) behind in
      record {
        are =
            IsPermutation-trans ((line_of x ∷ told) ++ map line_of rest) (told ++ (line_of x ∷ map line_of rest))
            (known_lines z before xs)
            (IsPermutation-sym (told ++ (line_of x ∷ map line_of rest)) ((line_of x ∷ told) ++ map line_of rest)
            (IsPermutation-middle told (line_of x) (map line_of rest)))
            (IsPermutation-trans (told ++ (line_of x ∷ map line_of rest)) (told ++ map line_of held)
            (known_lines z before xs)
            (IsPermutation-append_right told (line_of x ∷ map line_of rest) (map line_of held)
            (IsPermutation-sym (map line_of held) (line_of x ∷ map line_of rest) moved)) is.are);
        in_order = (All-head (λ v. IsBehind v told) (line_of x) (map line_of rest) behind, is.in_order);
        behind = both (map line_of rest) (All-map (λ v. rank (line_of x) ≤ rank v) line_of rest takes.2) left;
        early = All-cons (IsEarly before) (line_of x) told
            (record { sooner = takes.0; numbers = numbers_of x numbers }) is.early;
      }
    where
      both : (vs : List Line) → All (λ v. rank (line_of x) ≤ rank v) vs → All (λ v. IsBehind v told) vs →
          All (λ v. IsBehind v (line_of x ∷ told)) vs
      both vs first others k d within =
          All-cons (λ y. rank y ≤ rank (get_or vs k d)) (line_of x) told (first k d within) (others k d within)

  -- none is held that is to be told
  pub tells_all : AreNotBefore before held → AreToldBefore z before xs told
  unfolding known_lines all_lines
  tells_all none =
      let early = is_early before in
      let coming = lines_coming z xs in
      let singles = all_singles z xs in
      let kept : filter early (told ++ map line_of held) ≡ told =
      filter-append early told (map line_of held)
      ∙ ap₂ (λ (a b : List Line). a ++ b)
      (filter_all early told (recursion_from_All (λ x. early x ≡ true) told
      (All-weaker (IsEarly before) (λ x. early x ≡ true) (λ x e. e.sooner) told is.early)))
      (filter_none early (map line_of held) (recursion_from_All (λ x. early x ≡ false) (map line_of held)
      (All-map (λ x. early x ≡ false) line_of held none)))
      ∙ append-nil told in
      let wanted : filter early (coming ++ filter early singles) ≡ filter early (coming ++ singles) =
      filter-append early coming (filter early singles)
      ∙ ap (λ (l : List Line). filter early coming ++ l) (filter_twice early early (λ x e. e) singles)
      ∙ sym (filter-append early coming singles) in
      record {
        are =
            subst (λ (l : List Line). IsPermutation told l) wanted
            (subst (λ (l : List Line). IsPermutation l (filter early (coming ++ filter early singles))) kept
            (filter_permutation early (told ++ map line_of held) (coming ++ filter early singles) is.are));
        in_order = is.in_order;
      }
