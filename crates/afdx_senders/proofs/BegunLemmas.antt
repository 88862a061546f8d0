-- What is told is the first of all lines, whatever else comes.
use Rattle.std.proofs.Common.{◌≡◌, ℕ, ◌≤◌, Bool, true, false, List, [], ◌∷◌, ◌++◌, refl, sym, ap, ◌∙◌, subst}
use Rattle.std.proofs.lemmas.Bool.{le-ltb}
use Rattle.std.proofs.lemmas.List.{append_assoc}
use Rattle.std.proofs.lemmas.List.Elements.{All-append, All-from_recursion, recursion_from_All}
use Rattle.std.proofs.lemmas.List.Sorted.{IsPermutation-append_comm, IsPermutation-append_left, IsPermutation-append_right, IsPermutation-filter_both}
use Rattle.std.proofs.lemmas.List.Sorted.{IsPermutation-sym, IsPermutation-trans}
use Rattle.std.specs.List.{AllByRecursion}
use Rattle.std.specs.List.Sorted.{IsPermutation}
use Rattle.std.specs.Prelude.{filter, not, Option, Some, None}
use Rattle.afdx_police.specs.Arrival.{Arrival}
use Rattle.afdx_senders.specs.AllLines.{all_lines, all_singles, found_when, is_early, lines_coming, lines_when}
use Rattle.afdx_senders.specs.Lines.{FoundBy, Line, lines_at}
use Rattle.afdx_senders.specs.Setups.{Setup, whose}
use Rattle.afdx_senders.specs.Telling.{AreTold, ComeFrom, HaveBegun, IsBehind, known_lines}
use Rattle.afdx_senders.proofs.EarlyLemmas.{singles_more}
use Rattle.afdx_senders.proofs.ListLemmas.{all_joined, all_weaker, parts_swap, passes}
use Rattle.afdx_senders.proofs.TellingLemmas.{all_behind}

-- what is found of a frame when it comes has its time
pub found_late : (time : ℕ) (x : Arrival) (o : Option FoundBy) → time ≤ x.time →
    AllByRecursion (λ y. is_early (Some time) y ≡ false) (lines_at x o)
found_late time x None late = tt
found_late time x (Some found) late = (le-ltb x.time time late, tt)

pub when_late : (z : Setup) (time : ℕ) (past : List Arrival) (x : Arrival) → time ≤ x.time →
    AllByRecursion (λ y. is_early (Some time) y ≡ false) (lines_when z past x)
unfolding lines_when
when_late z time past x late = found_late time x (found_when z past x (whose z x)) late

-- the lines of more frames as they come
record MoreComing (z : Setup) (before : Option ℕ) (more xs : List Arrival) : Type 0 where
  lines : List Line
  are : lines_coming z (more ++ xs) ≡ lines ++ lines_coming z xs
  late : AllByRecursion (λ x. is_early before x ≡ false) lines

more_from : (z : Setup) (time : ℕ) (more xs : List Arrival) → AllByRecursion (λ x. time ≤ x.time) more →
    MoreComing z (Some time) more xs
unfolding lines_coming
more_from z time [] xs h = record { lines = []; are = refl; late = tt }
more_from z time (x ∷ more) xs h =
    let rest = more_from z time more xs h.1 in
    let own = lines_when z (more ++ xs) x in
    record {
      lines = own ++ rest.lines;
      are = ap (λ (l : List Line). own ++ l) rest.are ∙ sym (append_assoc own rest.lines (lines_coming z xs));
      late = all_joined (λ y. is_early (Some time) y ≡ false) own rest.lines (when_late z time (more ++ xs) x h.0)
          rest.late;
    }

more_coming : (z : Setup) (before : Option ℕ) (more xs : List Arrival) → ComeFrom before more →
    MoreComing z before more xs
more_coming z None more xs none =
    subst (λ (l : List Arrival). MoreComing z None l xs) (sym none)
    (record { lines = []; are = refl; late = tt })
more_coming z (Some time) more xs from =
    more_from z time more xs (recursion_from_All (λ x. time ≤ x.time) more from)

more_singles : (z : Setup) (before : Option ℕ) (more xs : List Arrival) → ComeFrom before more →
    filter (is_early before) (all_singles z (more ++ xs)) ≡ filter (is_early before) (all_singles z xs)
more_singles z None more xs none =
    ap (λ (l : List Arrival). filter (is_early None) (all_singles z (l ++ xs))) none
more_singles z (Some time) more xs from =
    singles_more time z more xs (recursion_from_All (λ x. time ≤ x.time) more from)

not_passed : (p : Line → Bool) (xs : List Line) → AllByRecursion (λ x. p x ≡ false) (filter (λ x. not (p x)) xs)
not_passed p xs = all_weaker (λ x e. from_not (p x) e) (filter (λ x. not (p x)) xs) (passes (λ x. not (p x)) xs)
  where
    from_not : (b : Bool) → not b ≡ true → b ≡ false
    from_not true e = absurd (cc)
    from_not false e = refl

module _ (coming told held new early later : List Line) (known : IsPermutation (told ++ held) (coming ++ early)) where
  pub joined : IsPermutation ((held ++ (new ++ later)) ++ told) ((new ++ coming) ++ (early ++ later))
  joined =
      IsPermutation-trans ((held ++ (new ++ later)) ++ told) (told ++ (held ++ (new ++ later)))
      ((new ++ coming) ++ (early ++ later))
      (IsPermutation-append_comm (held ++ (new ++ later)) told)
      (subst (λ (l : List Line). IsPermutation l ((new ++ coming) ++ (early ++ later)))
      (append_assoc told held (new ++ later))
      (IsPermutation-trans ((told ++ held) ++ (new ++ later)) ((coming ++ early) ++ (new ++ later))
      ((new ++ coming) ++ (early ++ later))
      (IsPermutation-append_left (new ++ later) (told ++ held) (coming ++ early) known) placed))
    where
      placed : IsPermutation ((coming ++ early) ++ (new ++ later)) ((new ++ coming) ++ (early ++ later))
      placed =
          subst (λ (l : List Line). IsPermutation l ((new ++ coming) ++ (early ++ later)))
          (sym (append_assoc coming early (new ++ later)))
          (subst (λ (l : List Line). IsPermutation (coming ++ (early ++ (new ++ later))) l)
          (sym (append_assoc new coming (early ++ later)))
          (IsPermutation-trans (coming ++ (early ++ (new ++ later))) (coming ++ (new ++ (early ++ later)))
          (new ++ (coming ++ (early ++ later)))
          (IsPermutation-append_right coming (early ++ (new ++ later)) (new ++ (early ++ later))
          (parts_swap early new later))
          (parts_swap coming new (early ++ later))))

pub has_begun : (z : Setup) (before : Option ℕ) (xs : List Arrival) (told held : List Line) →
    AreTold z before xs told held → HaveBegun z before xs told
unfolding known_lines all_lines
has_begun z before xs told held is more from =
    let early = is_early before in
    let all = all_singles z (more ++ xs) in
    let later = filter (λ x. not (early x)) all in
    let coming = more_coming z before more xs from in
    let soon = filter early (all_singles z xs) in
    record {
      rest = held ++ (coming.lines ++ later);
      are =
          subst (λ (l : List Line). IsPermutation ((held ++ (coming.lines ++ later)) ++ told) (l ++ all))
          (sym coming.are)
          (IsPermutation-trans ((held ++ (coming.lines ++ later)) ++ told)
          ((coming.lines ++ lines_coming z xs) ++ (soon ++ later)) ((coming.lines ++ lines_coming z xs) ++ all)
          (joined (lines_coming z xs) told held coming.lines soon later is.are)
          (IsPermutation-append_right (coming.lines ++ lines_coming z xs) (soon ++ later) all
          (subst (λ (l : List Line). IsPermutation (l ++ later) all) (more_singles z before more xs from)
          (IsPermutation-sym all (filter early all ++ later)
          (IsPermutation-filter_both early (λ x. not (early x)) (λ x. refl) all)))));
      in_order = is.in_order;
      behind =
          All-append (λ x. IsBehind x told) held (coming.lines ++ later) is.behind
          (all_behind before told (coming.lines ++ later) is.early
          (All-from_recursion (λ x. early x ≡ false) (coming.lines ++ later)
          (all_joined (λ x. early x ≡ false) coming.lines later coming.late (not_passed early all))));
    }
