-- Where there is no line, nothing is judged of any sender.
use Rattle.std.proofs.Common.{◌≡◌, ℕ, ◌<◌, zero, suc, Bool, true, false, List, [], ◌∷◌, ◌++◌, length, map, refl, sym, ap, ap₂, ◌∙◌, arith, inl, inr}
use Rattle.std.proofs.lemmas.Bool.{cases_lt, eq-eqb}
use Rattle.std.proofs.lemmas.List.{reverse-reverse}
use Rattle.std.proofs.lemmas.List.Elements.{All-from_recursion, recursion_from_All}
use Rattle.std.proofs.lemmas.Option.{slice_get_within}
use Rattle.std.specs.List.{AllByRecursion}
use Rattle.std.specs.Prelude.{option_map, reverse, Option, Some, None}
use Rattle.afdx_frame.specs.declared.link.Side.TheVariants.{A, B}
use Rattle.afdx_lawful.specs.Judged.{Found, found_at, found_coming, found_of, judged_source, single_at, singles}
use Rattle.afdx_lawful.specs.Partners.{Waiting}
use Rattle.afdx_lawful.specs.Sources.{Came, Source}
use Rattle.afdx_lawful.specs.declared.finding.SenderFinding.{SenderFinding}
use Rattle.afdx_police.specs.Arrival.{Arrival}
use Rattle.afdx_senders.specs.AllLines.{all_lines, all_singles, found_among, found_when, lines_coming, lines_when, single_of, singles_below, singles_in}
use Rattle.afdx_senders.specs.Lines.{FoundBy, Line, OfNone, lines_at, some_found}
use Rattle.afdx_senders.specs.SenderLaws.{AreQuiet, IsQuiet, NoLineIsQuiet}
use Rattle.afdx_senders.specs.Setups.{Setup, came_from, is_of, own_frames, source_at, whose}
use Rattle.afdx_senders.specs.Strays.{stray_of}
use Rattle.afdx_senders.specs.declared.sites.SourceOf.{SourceOf}
use Rattle.afdx_senders.specs.declared.sites.SourceOf.TheVariants.{Elsewhere, Nobody}
use Rattle.afdx_senders.specs.declared.sites.SourceOf.TheVariants.{Source as OfSource, Unknown}
use Rattle.afdx_senders.specs.declared.stray.Stray.{Stray}
use Rattle.afdx_senders.proofs.OwnLemmas.{of_place, own_next, terms_of}

-- ---- empty lists

no_parts : {X : Type 0} (xs ys : List X) → xs ++ ys ≡ [] → (xs ≡ []) × (ys ≡ [])
no_parts [] ys e = (refl, e)
no_parts (x ∷ xs) ys e = absurd (cc)

none_mapped : {X Y : Type 0} (f : X → Y) (xs : List X) → map f xs ≡ [] → xs ≡ []
none_mapped f [] e = refl
none_mapped f (x ∷ xs) e = absurd (cc)

none_reversed : {X : Type 0} (xs : List X) → reverse xs ≡ [] → xs ≡ []
none_reversed xs e = sym (reverse-reverse xs) ∙ ap reverse e

-- ---- a frame when it comes

nothing_at : (x : Arrival) (o : Option FoundBy) → lines_at x o ≡ [] → o ≡ None
nothing_at x None e = refl
nothing_at x (Some found) e = absurd (cc)

nothing_found : (fs : List SenderFinding) → some_found fs ≡ None → fs ≡ []
nothing_found [] e = refl
nothing_found (f ∷ fs) e = absurd (cc)

no_stray : (o : Option Stray) → option_map OfNone o ≡ None → o ≡ None
no_stray None e = refl
no_stray (Some stray) e = absurd (cc)

module _ (z : Setup) where
  abbrev coming_at : (place : ℕ) → Source → List Arrival → List Found
  coming_at place s xs = found_coming s (own_frames z place xs)

  -- none of a source's when it comes
  own_quiet : (place : ℕ) (s : Source) (past : List Arrival) (x : Arrival) → source_at z place ≡ Some s →
      whose z x ≡ OfSource place → lines_when z past x ≡ [] → found_of s (own_frames z place past) (came_from x) ≡ []
  unfolding lines_when
  own_quiet place s past x is of none =
      nothing_found (found_of s (own_frames z place past) (came_from x))
      (sym (ap (λ (w : SourceOf). found_when z past x w) of
      ∙ ap (λ (o : Option Source). found_among o (own_frames z place past) x) is)
      ∙ nothing_at x (found_when z past x (whose z x)) none)

  coming_quiet : (place : ℕ) (s : Source) → source_at z place ≡ Some s → (xs : List Arrival) → lines_coming z xs ≡ [] →
      coming_at place s xs ≡ []
  unfolding lines_coming found_coming own_frames
  coming_quiet place s is [] none = refl
  coming_quiet place s is (x ∷ past) none =
      let parts = no_parts (lines_when z past x) (lines_coming z past) none in
      by (is_of place (whose z x)) refl parts.0 (coming_quiet place s is past parts.1)
    where
      by : (b : Bool) → is_of place (whose z x) ≡ b → lines_when z past x ≡ [] → coming_at place s past ≡ [] →
          coming_at place s (x ∷ past) ≡ []
      by true of none rest =
          ap (found_coming s) (own_next z place x past true of)
          ∙ ap₂ (λ (fs : List SenderFinding) (l : List Found). map (found_at x.time x.side) (reverse fs) ++ l)
          (own_quiet place s past x is (of_place place (whose z x) of) none) rest
      by false of none rest = ap (found_coming s) (own_next z place x past false of) ∙ rest

  strays_quiet : (xs : List Arrival) → lines_coming z xs ≡ [] →
      AllByRecursion (λ x. stray_of (whose z x) x.bytes ≡ None) xs
  unfolding lines_coming lines_when
  strays_quiet [] none = tt
  strays_quiet (x ∷ past) none =
      let parts = no_parts (lines_when z past x) (lines_coming z past) none in
      (by (whose z x) (nothing_at x (found_when z past x (whose z x)) parts.0), strays_quiet past parts.1)
    where
      by : (w : SourceOf) → found_when z past x w ≡ None → stray_of w x.bytes ≡ None
      by (OfSource place) e = refl
      by Elsewhere e = no_stray (stray_of Elsewhere x.bytes) e
      by Unknown e = no_stray (stray_of Unknown x.bytes) e
      by Nobody e = refl

  -- ---- and back

  abbrev AllComingQuiet : List Arrival → Type 0
  AllComingQuiet xs = (place : ℕ) (s : Source) → source_at z place ≡ Some s → coming_at place s xs ≡ []

  parts_of : (place : ℕ) (s : Source) (past : List Arrival) (x : Arrival) → is_of place (whose z x) ≡ true →
      coming_at place s (x ∷ past) ≡ [] →
      (found_of s (own_frames z place past) (came_from x) ≡ []) × (coming_at place s past ≡ [])
  unfolding found_coming
  parts_of place s past x of none =
      let parts = no_parts
      (map (found_at x.time x.side) (reverse (found_of s (own_frames z place past) (came_from x))))
      (coming_at place s past) (sym (ap (found_coming s) (own_next z place x past true of)) ∙ none) in (
        none_reversed (found_of s (own_frames z place past) (came_from x))
            (none_mapped (found_at x.time x.side) (reverse (found_of s (own_frames z place past) (came_from x)))
            parts.0),
        parts.1,
      )

  past_quiet : (past : List Arrival) (x : Arrival) → AllComingQuiet (x ∷ past) → AllComingQuiet past
  past_quiet past x all place s is = by (is_of place (whose z x)) refl
    where
      by : (b : Bool) → is_of place (whose z x) ≡ b → coming_at place s past ≡ []
      by true of = (parts_of place s past x of (all place s is)).1
      by false of = sym (ap (found_coming s) (own_next z place x past false of)) ∙ all place s is

  when_quiet : (past : List Arrival) (x : Arrival) → AllComingQuiet (x ∷ past) → stray_of (whose z x) x.bytes ≡ None →
      lines_when z past x ≡ []
  unfolding lines_when
  when_quiet past x all stray = ap (lines_at x) (by (whose z x) refl stray)
    where
      one : (place : ℕ) → whose z x ≡ OfSource place → (o : Option Source) → source_at z place ≡ o →
          found_among o (own_frames z place past) x ≡ None
      one place of None is = refl
      one place of (Some s) is =
          ap some_found (parts_of place s past x (ap (is_of place) of ∙ eq-eqb place place refl) (all place s is)).0

      by : (w : SourceOf) → whose z x ≡ w → stray_of w x.bytes ≡ None → found_when z past x w ≡ None
      by (OfSource place) of e = one place of (source_at z place) refl
      by Elsewhere of e = ap (option_map OfNone) e
      by Unknown of e = ap (option_map OfNone) e
      by Nobody of e = refl

  lines_quiet : (xs : List Arrival) → AllComingQuiet xs →
      AllByRecursion (λ x. stray_of (whose z x) x.bytes ≡ None) xs → lines_coming z xs ≡ []
  unfolding lines_coming
  lines_quiet [] all strays = refl
  lines_quiet (x ∷ past) all strays =
      ap₂ (λ (k l : List Line). k ++ l) (when_quiet past x all strays.0)
      (lines_quiet past (past_quiet past x all) strays.1)

  -- ---- frames that waited in vain

  abbrev NoSingles : Source → List Came → Type 0
  NoSingles s xs = (singles s A xs ≡ []) × (singles s B xs ≡ [])

  singles_quiet : (xs : List Arrival) (n place : ℕ) (s : Source) → place < n → source_at z place ≡ Some s →
      singles_below z xs n ≡ [] → NoSingles s (own_frames z place xs)
  unfolding singles_below
  singles_quiet xs zero place s within is none = absurd (omega (arith, within))
  singles_quiet xs (suc n) place s within is none =
      let own = own_frames z n xs in
      let parts = no_parts (singles_in (source_at z n) own) (singles_below z xs n) none in
      by parts.0 (λ less. singles_quiet xs n place s less is parts.1)
    where
      here : place ≡ n → singles_in (source_at z n) (own_frames z n xs) ≡ [] → NoSingles s (own_frames z place xs)
      here e none =
          let own = own_frames z place xs in
          no_parts (singles s A own) (singles s B own)
          (none_mapped (single_of s) (singles s A own ++ singles s B own)
          (sym (ap (λ (o : Option Source). singles_in o own) is)
          ∙ ap (λ (k : ℕ). singles_in (source_at z k) (own_frames z k xs)) e ∙ none))

      by : singles_in (source_at z n) (own_frames z n xs) ≡ [] →
          (place < n → NoSingles s (own_frames z place xs)) → NoSingles s (own_frames z place xs)
      by none rest = elim (cases_lt place n) [
        | inl less ↦ rest less
        | inr past ↦ here (omega (arith, within, past)) none
      ]

  below_quiet : (xs : List Arrival) → ((place : ℕ) (s : Source) → source_at z place ≡ Some s →
      NoSingles s (own_frames z place xs)) → (n : ℕ) → singles_below z xs n ≡ []
  unfolding singles_below
  below_quiet xs all zero = refl
  below_quiet xs all (suc n) =
      ap₂ (λ (k l : List Line). k ++ l) (by (source_at z n) refl) (below_quiet xs all n)
    where
      by : (o : Option Source) → source_at z n ≡ o → singles_in o (own_frames z n xs) ≡ []
      by None is = refl
      by (Some s) is =
          ap₂ (λ (a b : List Waiting). map (single_of s) (a ++ b)) (all n s is).0 (all n s is).1

-- ---- a source of which nothing is judged

is_quiet : (s : Source) (xs : List Came) → found_coming s xs ≡ [] → (singles s A xs ≡ []) × (singles s B xs ≡ []) →
    IsQuiet s xs
unfolding judged_source
is_quiet s xs coming alone = record {
  coming = coming;
  on_a = ap (λ (l : List Waiting). map (single_at s) (reverse l)) alone.0;
  on_b = ap (λ (l : List Waiting). map (single_at s) (reverse l)) alone.1;
}

quiet_coming : (s : Source) (xs : List Came) → IsQuiet s xs → found_coming s xs ≡ []
unfolding judged_source
quiet_coming s xs h = h.coming

quiet_singles : (s : Source) (xs : List Came) → IsQuiet s xs → (singles s A xs ≡ []) × (singles s B xs ≡ [])
unfolding judged_source
quiet_singles s xs h = (
  none_reversed (singles s A xs) (none_mapped (single_at s) (reverse (singles s A xs)) h.on_a),
  none_reversed (singles s B xs) (none_mapped (single_at s) (reverse (singles s B xs)) h.on_b),
)

pub no_line_is_quiet : NoLineIsQuiet
unfolding all_lines
no_line_is_quiet z xs = (there, back)
  where
    there : lines_coming z xs ++ all_singles z xs ≡ [] → AreQuiet z xs
    there none =
        let parts = no_parts (lines_coming z xs) (all_singles z xs) none in record {
          sources = λ place s is.
              is_quiet s (own_frames z place xs) (coming_quiet z place s is xs parts.0)
              (singles_quiet z xs (length z.tables.links) place s
              (let t = terms_of z place s is in slice_get_within z.tables.links place t.row t.there) is parts.1);
          strays = All-from_recursion (λ x. stray_of (whose z x) x.bytes ≡ None) xs (strays_quiet z xs parts.0);
        }

    back : AreQuiet z xs → lines_coming z xs ++ all_singles z xs ≡ []
    back h =
        ap₂ (λ (k l : List Line). k ++ l)
        (lines_quiet z xs (λ place s is. quiet_coming s (own_frames z place xs) (h.sources place s is))
        (recursion_from_All (λ x. stray_of (whose z x) x.bytes ≡ None) xs h.strays))
        (below_quiet z xs (λ place s is. quiet_singles s (own_frames z place xs) (h.sources place s is))
        (length z.tables.links))
