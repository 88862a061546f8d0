-- What is told at once of a switch and of the systems that send to it.
use Rattle.std.proofs.Common.{◌≡◌, ℕ, ◌+◌, Bool, true, false, List, [], ◌∷◌, ◌++◌, map, reverse, refl, sym, ap, ap₂, ◌∙◌, subst, arith}
use Rattle.std.proofs.lemmas.Bool.{ltb-false, ltb-true}
use Rattle.std.proofs.lemmas.List.{append-nil, append_assoc, reverse-append}
use Rattle.std.specs.Prelude.{if◌then◌else◌}
use Rattle.afdx_senders.specs.Lines.{Line}
use Rattle.afdx_text.specs.declared.conform_line.ConformLine.{ConformLine}
use Rattle.afdx_command_conform.proofs.TellingLemmas.{findings-append, no-findings}
use Rattle.afdx_command_conform.specs.Lines.{lines_of}
use Rattle.afdx_command_conform.specs.Lines.{Due}
use Rattle.afdx_command_conform.specs.Telling.{findings_in}
use Rattle.afdx_command_senders.specs.BothTold.{AreInOrder, AreJoined, OfSender, OfSwitch, Told, both_lines, last_rank, lines_by, rank, senders_of, switch_of}
use Rattle.afdx_command_senders.specs.Merging.{comes_before, lines_up, merged, not_sooner, sooner}
use Rattle.afdx_command_senders.specs.SenderTexts.{told_lines}
use Rattle.afdx_command_senders.proofs.SenderRunLemmas.{no-lines, one-more}
use Rattle.afdx_command_senders.proofs.UpLemmas.{Down, Up, down-of-up, last, turned}

-- ---- one after another

pub merged-none : (xs : List Line) (x : Line) → merged (x ∷ xs) [] ≡ OfSender x ∷ merged xs []
unfolding merged sooner not_sooner
merged-none xs x = refl

module _ (x : Line) (xs : List Line) (d : Due) (ds : List Due) where
  abbrev by-first : Bool → List Told
  by-first b = map OfSwitch (if b then d ∷ sooner x ds else [])
      ++ (OfSender x ∷ merged xs (if b then not_sooner x ds else d ∷ ds))

  is-by-first : merged (x ∷ xs) (d ∷ ds) ≡ by-first (comes_before d x)
  unfolding merged sooner not_sooner
  is-by-first = refl

  then-due : by-first true ≡ OfSwitch d ∷ merged (x ∷ xs) ds
  unfolding merged
  then-due = refl

  then-line : by-first false ≡ OfSender x ∷ merged xs (d ∷ ds)
  then-line = refl

  pub merged-due : comes_before d x ≡ true → merged (x ∷ xs) (d ∷ ds) ≡ OfSwitch d ∷ merged (x ∷ xs) ds
  merged-due e = is-by-first ∙ ap (λ (b : Bool). by-first b) e ∙ then-due

  pub merged-line : comes_before d x ≡ false → merged (x ∷ xs) (d ∷ ds) ≡ OfSender x ∷ merged xs (d ∷ ds)
  merged-line e = is-by-first ∙ ap (λ (b : Bool). by-first b) e ∙ then-line

pub merged-rest : (ds : List Due) → merged [] ds ≡ map OfSwitch ds
unfolding merged
merged-rest ds = refl

-- what holds of both parts, and of one more of either, holds of what is merged
module _ (P : List Line → List Due → List Told → Type 0)
    (rest : (ds : List Due) → P [] ds (map OfSwitch ds))
    (line : (x : Line) (xs : List Line) (ds : List Due) (m : List Told) → P xs ds m → P (x ∷ xs) ds (OfSender x ∷ m))
    (due : (d : Due) (xs : List Line) (ds : List Due) (m : List Told) → P xs ds m → P xs (d ∷ ds) (OfSwitch d ∷ m))
  where
    with-line : (x : Line) (xs : List Line) → ((ds : List Due) → P xs ds (merged xs ds)) → (ds : List Due)
        → P (x ∷ xs) ds (merged (x ∷ xs) ds)
    with-line x xs next [] = subst (λ (m : List Told). P (x ∷ xs) [] m) (sym (merged-none xs x))
        (line x xs [] (merged xs []) (next []))
    with-line x xs next (d ∷ ds) = by (comes_before d x) refl (with-line x xs next ds)
      where
        by : (b : Bool) → comes_before d x ≡ b → P (x ∷ xs) ds (merged (x ∷ xs) ds)
            → P (x ∷ xs) (d ∷ ds) (merged (x ∷ xs) (d ∷ ds))
        by true e h =
            subst (λ (m : List Told). P (x ∷ xs) (d ∷ ds) m) (sym (merged-due x xs d ds e))
            (due d (x ∷ xs) ds (merged (x ∷ xs) ds) h)
        by false e h =
            subst (λ (m : List Told). P (x ∷ xs) (d ∷ ds) m) (sym (merged-line x xs d ds e))
            (line x xs (d ∷ ds) (merged xs (d ∷ ds)) (next (d ∷ ds)))

    pub merged-by : (xs : List Line) (ds : List Due) → P xs ds (merged xs ds)
    merged-by [] ds = subst (λ (m : List Told). P [] ds m) (sym (merged-rest ds)) (rest ds)
    merged-by (x ∷ xs) ds = with-line x xs (merged-by xs) ds

-- ---- each is there, in its own order

senders-map : (ds : List Due) → senders_of (map OfSwitch ds) ≡ []
unfolding senders_of
senders-map [] = refl
senders-map (d ∷ ds) = senders-map ds

switch-map : (ds : List Due) → switch_of (map OfSwitch ds) ≡ ds
unfolding switch_of
switch-map [] = refl
switch-map (d ∷ ds) = ap (λ (l : List Due). d ∷ l) (switch-map ds)

senders-line : (x : Line) (m : List Told) → senders_of (OfSender x ∷ m) ≡ x ∷ senders_of m
unfolding senders_of
senders-line x m = refl

senders-due : (d : Due) (m : List Told) → senders_of (OfSwitch d ∷ m) ≡ senders_of m
unfolding senders_of
senders-due d m = refl

switch-line : (x : Line) (m : List Told) → switch_of (OfSender x ∷ m) ≡ switch_of m
unfolding switch_of
switch-line x m = refl

switch-due : (d : Due) (m : List Told) → switch_of (OfSwitch d ∷ m) ≡ d ∷ switch_of m
unfolding switch_of
switch-due d m = refl

pub merged-senders : (xs : List Line) (ds : List Due) → senders_of (merged xs ds) ≡ xs
merged-senders = merged-by (λ xs ds m. senders_of m ≡ xs) senders-map
    (λ x xs ds m h. senders-line x m ∙ ap (λ (l : List Line). x ∷ l) h) (λ d xs ds m h. senders-due d m ∙ h)

pub merged-switch : (xs : List Line) (ds : List Due) → switch_of (merged xs ds) ≡ ds
merged-switch = merged-by (λ xs ds m. switch_of m ≡ ds) switch-map
    (λ x xs ds m h. switch-line x m ∙ h) (λ d xs ds m h. switch-due d m ∙ ap (λ (l : List Due). d ∷ l) h)

-- ---- behind what was told

senders-both : (m all : List Told) → senders_of (reverse m ++ all) ≡ reverse (senders_of m) ++ senders_of all
unfolding senders_of
senders-both [] all = refl
senders-both (OfSender x ∷ m) all =
    ap (λ (l : List Told). senders_of l) (turned (OfSender x) m all) ∙ senders-both m (OfSender x ∷ all)
    ∙ sym (turned x (senders_of m) (senders_of all))
senders-both (OfSwitch d ∷ m) all =
    ap (λ (l : List Told). senders_of l) (turned (OfSwitch d) m all) ∙ senders-both m (OfSwitch d ∷ all)

switch-both : (m all : List Told) → switch_of (reverse m ++ all) ≡ reverse (switch_of m) ++ switch_of all
unfolding switch_of
switch-both [] all = refl
switch-both (OfSender x ∷ m) all =
    ap (λ (l : List Told). switch_of l) (turned (OfSender x) m all) ∙ switch-both m (OfSender x ∷ all)
switch-both (OfSwitch d ∷ m) all =
    ap (λ (l : List Told). switch_of l) (turned (OfSwitch d) m all) ∙ switch-both m (OfSwitch d ∷ all)
    ∙ sym (turned d (switch_of m) (switch_of all))

pub lines-both : (m all : List Told) → both_lines (reverse m ++ all) ≡ both_lines all ++ lines_up m
unfolding both_lines lines_up
lines-both [] all = sym (append-nil (both_lines all))
lines-both (x ∷ m) all =
    ap (λ (l : List Told). both_lines l) (turned x m all) ∙ lines-both m (x ∷ all)
    ∙ append_assoc (both_lines all) (lines_by x) (lines_up m)

-- ---- by rank

pub order-down : (all : List Told) → AreInOrder all → Down rank all
unfolding AreInOrder
order-down [] h = tt
order-down (x ∷ []) h = (h.0, tt)
order-down (x ∷ y ∷ all) h = (h.0, order-down (y ∷ all) h.1)

pub down-order : (all : List Told) → Down rank all → AreInOrder all
unfolding AreInOrder
down-order [] h = tt
down-order (x ∷ []) h = (h.0, tt)
down-order (x ∷ y ∷ all) h = (h.0, down-order (y ∷ all) h.1)

up-with : (x : Line) (xs : List Line)
    → ((n : ℕ) (ds : List Due) → Up rank n (map OfSender xs) → Up rank n (map OfSwitch ds) → Up rank n (merged xs ds))
    → (n : ℕ) (ds : List Due) → Up rank n (map OfSender (x ∷ xs)) → Up rank n (map OfSwitch ds)
    → Up rank n (merged (x ∷ xs) ds)
up-with x xs next n [] h k =
    subst (λ (m : List Told). Up rank n m) (sym (merged-none xs x)) (h.0, next (rank (OfSender x)) [] h.1 tt)
up-with x xs next n (d ∷ ds) h k = by (comes_before d x) refl (up-with x xs next (rank (OfSwitch d)) ds)
  where
    by : (b : Bool) → comes_before d x ≡ b
        → (Up rank (rank (OfSwitch d)) (map OfSender (x ∷ xs)) → Up rank (rank (OfSwitch d)) (map OfSwitch ds)
        → Up rank (rank (OfSwitch d)) (merged (x ∷ xs) ds))
        → Up rank n (merged (x ∷ xs) (d ∷ ds))
    by true e more =
        let lt = ltb-true (rank (OfSwitch d)) (rank (OfSender x)) e in
        subst (λ (m : List Told). Up rank n m) (sym (merged-due x xs d ds e))
        (k.0, more ((omega (arith, lt)), h.1) k.1)
    by false e more =
        let le = ltb-false (rank (OfSwitch d)) (rank (OfSender x)) e in
        subst (λ (m : List Told). Up rank n m) (sym (merged-line x xs d ds e))
        (h.0, next (rank (OfSender x)) (d ∷ ds) h.1 (le, k.1))

pub merged-up : (xs : List Line) (n : ℕ) (ds : List Due) → Up rank n (map OfSender xs) → Up rank n (map OfSwitch ds)
    → Up rank n (merged xs ds)
merged-up [] n ds h k = subst (λ (m : List Told). Up rank n m) (sym (merged-rest ds)) k
merged-up (x ∷ xs) n ds h k = up-with x xs (merged-up xs) n ds h k

-- ---- all of it

pub join-more : (told : List Line) (dues : List Due) (all : List Told) (xs : List Line) (ds : List Due)
    → AreJoined told dues all → Up rank (last_rank all) (map OfSender xs) → Up rank (last_rank all) (map OfSwitch ds)
    → AreJoined (reverse xs ++ told) (reverse ds ++ dues) (reverse (merged xs ds) ++ all)
join-more told dues all xs ds h line-up due-up = record {
  senders = senders-both (merged xs ds) all
      ∙ ap₂ (λ (a b : List Line). reverse a ++ b) (merged-senders xs ds) h.senders;
  switch = switch-both (merged xs ds) all
      ∙ ap₂ (λ (a b : List Due). reverse a ++ b) (merged-switch xs ds) h.switch;
  in_order = down-order (reverse (merged xs ds) ++ all)
      (down-of-up rank (merged xs ds) all (order-down all h.in_order)
      (up-from all (merged-up xs (last_rank all) ds line-up due-up)));
}
  where
    up-from : (all : List Told) → Up rank (last_rank all) (merged xs ds) → Up rank (last rank all) (merged xs ds)
    up-from [] u = u
    up-from (x ∷ past) u = u

-- ---- how many are findings

pub found-both : (all : List Told)
    → findings_in (both_lines all) ≡ findings_in (told_lines (senders_of all)) + findings_in (lines_of (switch_of all))
unfolding both_lines senders_of switch_of
found-both [] = ap (λ (l : List ConformLine). findings_in l) (sym no-lines) ∙ zero-more
  where
    zero-more : findings_in (told_lines []) ≡ findings_in (told_lines []) + findings_in (lines_of [])
    zero-more = let none = no-findings in omega (arith, none)
found-both (OfSender x ∷ past) =
    let rest = found-both past in
    let mine = findings-append (both_lines past) (lines_by (OfSender x)) in
    let its = ap (λ (l : List ConformLine). findings_in l) (one-more x (senders_of past))
    ∙ findings-append (told_lines (senders_of past)) (lines_by (OfSender x)) in
    omega (arith, rest, mine, its)
found-both (OfSwitch d ∷ past) =
    let rest = found-both past in
    let mine = findings-append (both_lines past) (d.line ∷ []) in
    let its = ap (λ (l : List ConformLine). findings_in l)
    (reverse-append (d.line ∷ []) (map (λ (y : Due). y.line) (switch_of past)))
    ∙ findings-append (lines_of (switch_of past)) (d.line ∷ []) in
    omega (arith, rest, mine, its)
