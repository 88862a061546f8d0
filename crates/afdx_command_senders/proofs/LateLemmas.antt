-- What is told newly of frames, once all of moments before a time was told, is of later moments.
use Rattle.std.proofs.Common.{◌≡◌, ℕ, ◌+◌, ◌<◌, ◌≤◌, Bool, true, false, List, [], ◌∷◌, ◌++◌, length, refl, sym, ap, ◌∙◌, subst, arith, true≢false}
use Rattle.std.proofs.lemmas.Bool.{lt-ltb, ltb-false, ltb-true}
use Rattle.std.proofs.lemmas.List.Elements.{filter-append}
use Rattle.std.proofs.lemmas.List.Sorted.{sum_by-IsPermutation}
use Rattle.std.proofs.lemmas.List.Sums.{sum_by-append, sum_by-cons}
use Rattle.std.proofs.lemmas.Option.{slice_get_within}
use Rattle.std.specs.List.{AllByRecursion, sum_by}
use Rattle.std.specs.Option.{option_map_or}
use Rattle.std.specs.Prelude.{Option, Some, None, cond, filter, nat_lt}
use Rattle.afdx_config.specs.Rows.{LinkRow, Rows}
use Rattle.afdx_conform.proofs.EveryLemmas.{every-on}
use Rattle.afdx_input_runs.specs.Joining.{Frame}
use Rattle.afdx_police.specs.Arrival.{Arrival}
use Rattle.afdx_senders.specs.AllLines.{all_lines, is_early}
use Rattle.afdx_senders.specs.History.{IsNoSooner}
use Rattle.afdx_senders.specs.Lines.{Line}
use Rattle.afdx_senders.specs.Setups.{Setup}
use Rattle.afdx_senders.specs.Telling.{AreToldBefore}
use Rattle.afdx_command_conform.proofs.KeyLemmas.{link-to}
use Rattle.afdx_command_conform.proofs.OfKeyLemmas.{of-each-key, own-keys}
use Rattle.afdx_command_conform.proofs.OneAnswerLemmas.{AreRanged, IsRanged, judged-link}
use Rattle.afdx_command_conform.specs.Beginning.{AreLinesBefore}
use Rattle.afdx_command_conform.specs.Choices.{Choices}
use Rattle.afdx_command_conform.specs.Keys.{link_rank}
use Rattle.afdx_command_conform.specs.Lines.{AreLines, dues_by, dues_of, of_key, stream_dues}
use Rattle.afdx_command_conform.specs.Lines.{Due}
use Rattle.afdx_command_conform.specs.Tapped.{judged_to}
use Rattle.afdx_command_conform.specs.Telling.{one_if}
use Rattle.afdx_command_conform.specs.declared.key.Key.{Key}

-- ---- where as many pass a test as before, none of the new does

abbrev pub tally : {X : Type 0} → (X → Bool) → X → ℕ
tally p x = one_if (p x)

none-of : (a b s : ℕ) → s ≡ 0 → s ≡ a + b → a ≡ 0
none-of a b s e f = omega (arith, e, f)

is-none : (b : Bool) → one_if b ≡ 0 → b ≡ false
is-none true e = absurd (omega (arith, e))
is-none false e = refl

module _ {X : Type 0} (p : X → Bool) where
  pub none-left : (xs : List X) → sum_by (tally p) xs ≡ 0 → AllByRecursion (λ x. p x ≡ false) xs
  none-left [] e = tt
  none-left (x ∷ xs) e =
      let all = sum_by-cons (tally p) x xs in
      (is-none (p x) (omega (arith, e, all)), none-left xs (omega (arith, e, all)))

  -- those that pass a weaker test are all that count
  pub same-passed : (q : X → Bool) → ((x : X) → p x ≡ true → q x ≡ true) → (xs : List X)
      → sum_by (tally p) (filter q xs) ≡ sum_by (tally p) xs
  same-passed q weaker [] = refl
  same-passed q weaker (x ∷ xs) = by (q x) (p x) refl refl (same-passed q weaker xs)
    where
      by : (b c : Bool) → q x ≡ b → p x ≡ c → sum_by (tally p) (filter q xs) ≡ sum_by (tally p) xs
          → sum_by (tally p) (cond b (x ∷ filter q xs) (filter q xs)) ≡ sum_by (tally p) (x ∷ xs)
      by true c e f h =
          let one = sum_by-cons (tally p) x (filter q xs) in
          let two = sum_by-cons (tally p) x xs in
          omega (arith, one, two, h)
      by false true e f h = absurd (true≢false (sym (weaker x f) ∙ e))
      by false false e f h =
          let two = sum_by-cons (tally p) x xs in
          let none : one_if (p x) ≡ 0 = ap one_if f in
          omega (arith, two, none, h)

  pub late-part : (new old : List X) → sum_by (tally p) (new ++ old) ≡ sum_by (tally p) old
      → AllByRecursion (λ x. p x ≡ false) new
  late-part new old e = none-left new (let all = sum_by-append (tally p) new old in omega (arith, e, all))

-- ---- of systems

module _ (z : Setup) (time : ℕ) (before : Option ℕ) (xs : List Arrival) (told more : List Line)
    (sooner : IsNoSooner (Some time) before) (old : AreToldBefore z (Some time) xs told)
    (new : AreToldBefore z before xs (more ++ told)) where
  abbrev early-line : Line → Bool
  early-line x = nat_lt x.moment time

  weaker-line : (x : Line) → early-line x ≡ true → is_early before x ≡ true
  weaker-line x e = by before sooner
    where
      by : (o : Option ℕ) → IsNoSooner (Some time) o → is_early o x ≡ true
      by None h = refl
      by (Some to) h = let lt = ltb-true x.moment time e in lt-ltb x.moment to (omega (arith, lt, h))

  pub late-lines : AllByRecursion (λ x. time ≤ x.moment) more
  late-lines =
      every-on (λ x. early-line x ≡ false) (λ x. time ≤ x.moment) (λ x e. ltb-false x.moment time e) more
      (late-part early-line more told
      (sym (sum_by-IsPermutation (tally early-line) (more ++ told) (filter (is_early before) (all_lines z xs)) new.are)
      ∙ same-passed early-line (is_early before) weaker-line (all_lines z xs)
      ∙ sym (same-passed early-line early-line (λ x e. e) (all_lines z xs))
      ∙ sum_by-IsPermutation (tally early-line) told (filter early-line (all_lines z xs)) old.are))

-- ---- of the switch

module _ (t : Rows) (c : Choices) (until : ℕ) (frames : List Frame) where
  module _ (time : ℕ) (dues newer : List Due) (old : AreLinesBefore t c until frames time dues) where
    abbrev early-due : Due → Bool
    early-due d = nat_lt d.moment time

    late-by : (all : Key → List Due) → ((k : Key) → k.port < 256 → of_key k (newer ++ dues) ≡ all k)
        → ((k : Key) → 256 ≤ k.port → of_key k (newer ++ dues) ≡ [])
        → ((k : Key) → sum_by (tally early-due) (all k) ≡ sum_by (tally early-due) (dues_of t c until frames k))
        → AllByRecursion (λ d. time ≤ d.moment) newer
    late-by all own only same =
        every-on (λ d. early-due d ≡ false) (λ d. time ≤ d.moment) (λ d e. ltb-false d.moment time e) newer
        (of-each-key (λ d. early-due d ≡ false) newer (λ k. by k (nat_lt k.port 256) refl))
      where
        parts : (k : Key) → of_key k (newer ++ dues) ≡ of_key k newer ++ of_key k dues
        parts k = filter-append _ newer dues

        by : (k : Key) (b : Bool) → nat_lt k.port 256 ≡ b
            → AllByRecursion (λ d. early-due d ≡ false) (of_key k newer)
        by k true e =
            let small = ltb-true k.port 256 e in
            late-part early-due (of_key k newer) (of_key k dues)
            (ap (λ (l : List Due). sum_by (tally early-due) l) (sym (parts k) ∙ own k small) ∙ same k
            ∙ sym (same-passed early-due early-due (λ d e. e) (dues_of t c until frames k))
            ∙ ap (λ (l : List Due). sum_by (tally early-due) l) (sym (old.own k small)))
        by k false e =
            let none = ap (λ (l : List Due). sum_by (tally early-due) l)
            (sym (parts k) ∙ only k (ltb-false k.port 256 e)) in
            let both = sum_by-append (tally early-due) (of_key k newer) (of_key k dues) in
            none-left early-due (of_key k newer) (none-of _ _ _ none both)

    pub late-early : (to : ℕ) → time ≤ to → AreLinesBefore t c until frames to (newer ++ dues)
        → AllByRecursion (λ d. time ≤ d.moment) newer
    late-early to le new =
        late-by (λ k. filter (λ d. nat_lt d.moment to) (dues_of t c until frames k)) new.own new.only
        (λ k. same-passed early-due (λ d. nat_lt d.moment to)
        (λ d e. (let lt = ltb-true d.moment time e in lt-ltb d.moment to (omega (arith, lt, le))))
        (dues_of t c until frames k))

    pub late-all : AreLines t c until frames (newer ++ dues) → AllByRecursion (λ d. time ≤ d.moment) newer
    late-all new = late-by (λ k. dues_of t c until frames k) new.own new.only (λ k. refl)

  -- their keys are in range
  module _ (few : length t.links < 0x100000000) where
    ranged-own : (k : Key) (d : Due) (more : List Due) → k.port < 256 → dues_of t c until frames k ≡ d ∷ more
        → IsRanged k
    ranged-own k d more port e = record { port = port; link = by k.link e }
      where
        by-stream : (place : ℕ) (o : Option LinkRow) → judged_to t c.sight k.side place k.port ≡ o
            → option_map_or (stream_dues t c until frames k) o [] ≡ d ∷ more → place + 1 < 0x100000000
        by-stream place None is h = absurd (cc)
        by-stream place (Some l) is h =
            let at = slice_get_within t.links place l
            (link-to t place k.port l (judged-link t c k.side place k.port l is)).at in
            omega (arith, at, few)

        by : (o : Option ℕ) → dues_by t c until frames k o ≡ d ∷ more → link_rank o < 0x100000000
        by None h = omega arith
        by (Some place) h = by-stream place (judged_to t c.sight k.side place k.port) refl h

    -- where some pass a test there are some
    some-passed : (p : Due → Bool) (l : List Due) (d : Due) (more : List Due) → filter p l ≡ d ∷ more
        → (e : Due) × (rest : List Due) × (l ≡ e ∷ rest)
    some-passed p [] d more h = absurd (cc)
    some-passed p (e ∷ rest) d more h = (e, rest, refl)

    each-ranged : (k : Key) (lines : List Due) → AllByRecursion (λ d. k ≡ d.key) lines
        → ((d : Due) (more : List Due) → lines ≡ d ∷ more → IsRanged k) → AreRanged lines
    each-ranged k [] h f = tt
    each-ranged k (d ∷ lines) h f =
        let r = f d lines refl in
        every-on (λ (x : Due). k ≡ x.key) (λ (x : Due). IsRanged x.key) (λ x e. subst (λ (q : Key). IsRanged q) e r)
        (d ∷ lines) h

    pub ranged-early : (time : ℕ) (lines : List Due) → AreLinesBefore t c until frames time lines → AreRanged lines
    ranged-early time lines are = of-each-key (λ d. IsRanged d.key) lines (λ k. by k (nat_lt k.port 256) refl)
      where
        own : (k : Key) → k.port < 256 → (d : Due) (more : List Due) → of_key k lines ≡ d ∷ more → IsRanged k
        own k port d more is =
            let some = some-passed (λ x. nat_lt x.moment time) (dues_of t c until frames k) d more
            (sym (are.own k port) ∙ is) in
            ranged-own k some.0 some.1 port some.2

        by : (k : Key) (b : Bool) → nat_lt k.port 256 ≡ b → AllByRecursion (λ d. IsRanged d.key) (of_key k lines)
        by k true e = each-ranged k (of_key k lines) (own-keys k lines) (own k (ltb-true k.port 256 e))
        by k false e =
            subst (λ (l : List Due). AllByRecursion (λ d. IsRanged d.key) l) (sym (are.only k (ltb-false k.port 256 e)))
            tt
