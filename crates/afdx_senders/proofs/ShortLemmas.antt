-- Where nothing was told there is no line, and no frame that is longer than any may be.
use Rattle.std.proofs.Common.{◌≡◌, ℕ, ◌+◌, ◌<◌, ◌≤◌, zero, suc, Bool, true, false, List, [], ◌∷◌, ◌++◌, length, map, refl, sym, ap, ◌∙◌, subst, arith, inl, inr}
use Rattle.std.proofs.lemmas.Bool.{cases_lt, le-leb, ltb-false}
use Rattle.std.proofs.lemmas.List.Elements.{All-filter, All-from_recursion}
use Rattle.std.proofs.lemmas.List.Sorted.{All-permutation, IsPermutation-sym, length_permutation}
use Rattle.std.proofs.lemmas.Option.{slice_get_within}
use Rattle.std.specs.List.{AllByRecursion}
use Rattle.std.specs.Prelude.{filter, if◌then◌else◌, nat_le, not, option_map, Option, Some, None, Result, Ok, Err}
use Rattle.afdx_conform.proofs.EveryLemmas.{every-all, every-on, every-unmap}
use Rattle.afdx_frame.specs.declared.link.Side.TheVariants.{A, B}
use Rattle.afdx_frame.specs.Lengths.{greatest_frame}
use Rattle.afdx_frame.specs.Parts.{FrameParts, frame_of}
use Rattle.afdx_frame.specs.declared.fault.MacFault.{MacFault}
use Rattle.afdx_lawful.proofs.AcceptedLemmas.{right_long}
use Rattle.afdx_lawful.proofs.CleanLemmas.{AreClean, all_clean}
use Rattle.afdx_lawful.specs.Flaws.{is_frame, is_whole}
use Rattle.afdx_lawful.specs.Judged.{found_of, judged_source, singles}
use Rattle.afdx_lawful.specs.Partners.{Waiting}
use Rattle.afdx_lawful.specs.Sources.{Came, Source}
use Rattle.afdx_lawful.specs.declared.finding.SenderFinding.{SenderFinding}
use Rattle.afdx_police.specs.Arrival.{Arrival}
use Rattle.afdx_senders.specs.AllLines.{all_lines, found_among, found_when, is_early, lines_coming, lines_when, single_of, singles_below, singles_in}
use Rattle.afdx_senders.specs.Lines.{Line, OfNone, lines_at, some_found}
use Rattle.afdx_senders.specs.SenderCounts.{alone_up_to, is_one_sided}
use Rattle.afdx_senders.specs.SenderLaws.{EachLineIsFound, IsFound, IsQuiet, LongerArePassedOver, NoneAloneIsPaired, NothingToldIsNoLine}
use Rattle.afdx_senders.specs.Setups.{Setup, came_from, is_of, own_frames, source_at, whose}
use Rattle.afdx_senders.specs.Strays.{stray_of}
use Rattle.afdx_senders.specs.declared.sites.SourceOf.{SourceOf}
use Rattle.afdx_senders.specs.declared.sites.SourceOf.TheVariants.{Elsewhere, Nobody}
use Rattle.afdx_senders.specs.declared.sites.SourceOf.TheVariants.{Source as OfSource, Unknown}
use Rattle.afdx_senders.specs.declared.stray.Stray.{Stray}
use Rattle.afdx_senders.proofs.ListLemmas.{all_joined, filter_all, filter_swap}
use Rattle.afdx_senders.proofs.OwnLemmas.{terms_of}
use Rattle.afdx_senders.proofs.QuietLemmas.{no_line_is_quiet}

-- ---- nothing was told

no_list : {X : Type 0} (xs : List X) → length xs ≡ 0 → xs ≡ []
no_list [] h = refl
no_list (x ∷ xs) h = absurd (omega (arith, h))

all_early : (xs : List Line) → filter (is_early None) xs ≡ xs
all_early xs = filter_all (is_early None) xs (every-all (λ (x : Line). is_early None x ≡ true) (λ x. refl) xs)

pub nothing_told : NothingToldIsNoLine
nothing_told z xs h =
    sym (all_early (all_lines z xs))
    ∙ no_list (filter (is_early None) (all_lines z xs))
    (length_permutation [] (filter (is_early None) (all_lines z xs)) h.are)

-- ---- something is found by each line

abbrev Says : Line → Type 0
Says x = IsFound x.found

some_says : (x : Arrival) (fs : List SenderFinding) → AllByRecursion Says (lines_at x (some_found fs))
some_says x [] = tt
some_says x (f ∷ fs) = (tt, tt)

stray_says : (x : Arrival) (o : Option Stray) → AllByRecursion Says (lines_at x (option_map OfNone o))
stray_says x None = tt
stray_says x (Some stray) = (tt, tt)

all_say : (s : Source) (ys : List Waiting) → AllByRecursion Says (map (single_of s) ys)
all_say s [] = tt
all_say s (y ∷ ys) = (tt, all_say s ys)

module _ (z : Setup) where
  when_says : (past : List Arrival) (x : Arrival) → AllByRecursion Says (lines_when z past x)
  unfolding lines_when
  when_says past x = by (whose z x)
    where
      one : (place : ℕ) (o : Option Source) →
          AllByRecursion Says (lines_at x (found_among o (own_frames z place past) x))
      one place None = tt
      one place (Some s) = some_says x (found_of s (own_frames z place past) (came_from x))

      by : (w : SourceOf) → AllByRecursion Says (lines_at x (found_when z past x w))
      by (OfSource place) = one place (source_at z place)
      by Elsewhere = stray_says x (stray_of Elsewhere x.bytes)
      by Unknown = stray_says x (stray_of Unknown x.bytes)
      by Nobody = stray_says x (stray_of Nobody x.bytes)

  coming_say : (xs : List Arrival) → AllByRecursion Says (lines_coming z xs)
  unfolding lines_coming
  coming_say [] = tt
  coming_say (x ∷ past) = all_joined Says (lines_when z past x) (lines_coming z past) (when_says past x)
      (coming_say past)

  below_say : (xs : List Arrival) (n : ℕ) → AllByRecursion Says (singles_below z xs n)
  unfolding singles_below
  below_say xs zero = tt
  below_say xs (suc n) = all_joined Says (singles_in (source_at z n) (own_frames z n xs)) (singles_below z xs n)
      (by (source_at z n)) (below_say xs n)
    where
      by : (o : Option Source) → AllByRecursion Says (singles_in o (own_frames z n xs))
      by None = tt
      by (Some s) = all_say s (singles s A (own_frames z n xs) ++ singles s B (own_frames z n xs))

  lines_say : (xs : List Arrival) → AllByRecursion Says (all_lines z xs)
  unfolding all_lines
  lines_say xs = all_joined Says (lines_coming z xs) (singles_below z xs (length z.tables.links)) (coming_say xs)
      (below_say xs (length z.tables.links))

pub each_found : EachLineIsFound
each_found z before xs told h =
    let early = filter (is_early before) (all_lines z xs) in
    All-permutation (λ (x : Line). IsFound x.found) early told (IsPermutation-sym told early h.are)
    (All-filter (is_early before) (λ (x : Line). IsFound x.found) (all_lines z xs)
    (All-from_recursion Says (all_lines z xs) (lines_say z xs)))

-- ---- no frame is too long

abbrev IsShort : Came → Type 0
IsShort x = length x.bytes ≤ greatest_frame

whole_short : (x : Came) → is_whole x ≡ true → IsShort x
unfolding is_whole
whole_short x h = by (frame_of x.bytes) refl h
  where
    by : (r : Result FrameParts MacFault) → frame_of x.bytes ≡ r → is_frame r ≡ true → IsShort x
    by (Ok parts) is e = ltb-false greatest_frame (length x.bytes) (right_long x.bytes parts is).longest
    by (Err fault) is e = absurd (cc e)

clean_short : (s : Source) (xs : List Came) → AreClean s xs → AllByRecursion IsShort xs
unfolding AreClean
clean_short s [] h = tt
clean_short s (x ∷ past) h = (whole_short x h.0.whole, clean_short s past h.1)

own_short : (s : Source) (xs : List Came) → IsQuiet s xs → AllByRecursion IsShort xs
unfolding judged_source
own_short s xs quiet = clean_short s xs (all_clean s xs quiet.coming)

module _ (z : Setup) (longest : ℕ) (long : greatest_frame ≤ longest) where
  abbrev is_short : Arrival → Bool
  is_short x = nat_le (length x.bytes) longest

  short_enough : (x : Arrival) → length x.bytes ≤ greatest_frame → is_short x ≡ true
  short_enough x short = le-leb (length x.bytes) longest (omega (arith, short, long))

  own_kept : (place : ℕ) (xs : List Arrival) → AllByRecursion IsShort (own_frames z place xs) →
      own_frames z place (filter is_short xs) ≡ own_frames z place xs
  unfolding own_frames
  own_kept place xs h =
      let own = filter (λ (x : Arrival). is_of place (whose z x)) xs in
      ap (map came_from) (filter_swap (λ (x : Arrival). is_of place (whose z x)) is_short xs
      ∙ filter_all is_short own
      (every-on (λ (x : Arrival). IsShort (came_from x)) (λ (x : Arrival). is_short x ≡ true) short_enough own
      (every-unmap IsShort came_from own h)))

pub longer_passed : LongerArePassedOver
longer_passed z longest xs long none =
    let quiet = (no_line_is_quiet z xs).0 none in
    let own : (place : ℕ) (s : Source) → source_at z place ≡ Some s →
    own_frames z place (filter (is_short z longest long) xs) ≡ own_frames z place xs =
    λ place s is. own_kept z longest long place xs (own_short s (own_frames z place xs) (quiet.sources place s is)) in
    record {
      no_line = (no_line_is_quiet z (filter (is_short z longest long) xs)).1 (record {
        sources = λ place s is. subst (λ (l : List Came). IsQuiet s l) (sym (own place s is))
            (quiet.sources place s is);
        strays = All-filter (is_short z longest long) (λ x. stray_of (whose z x) x.bytes ≡ None) xs quiet.strays;
      });
      own = own;
    }

-- ---- none is alone

below_paired : (z : Setup) (n place : ℕ) (s : Source) → place < n → source_at z place ≡ Some s →
    alone_up_to z n ≡ 0 → is_one_sided (source_at z place) ≡ false
unfolding alone_up_to
below_paired z zero place s within is none = absurd (omega (arith, within))
below_paired z (suc n) place s within is none =
    by (is_one_sided (source_at z n)) refl none (λ less. below_paired z n place s less is)
  where
    by : (b : Bool) → is_one_sided (source_at z n) ≡ b → alone_up_to z n + (if b then 1 else 0) ≡ 0 →
        (place < n → alone_up_to z n ≡ 0 → is_one_sided (source_at z place) ≡ false) →
        is_one_sided (source_at z place) ≡ false
    by true e h rest = absurd (omega (arith, h))
    by false e h rest = elim (cases_lt place n) [
      | inl less ↦ rest less (omega (arith, h))
      | inr past ↦
          ap (λ (k : ℕ). is_one_sided (source_at z k)) (let same : place ≡ n = omega (arith, within, past) in same) ∙ e
    ]

pub none_alone : NoneAloneIsPaired
none_alone z place s none is =
    let t = terms_of z place s is in
    by s.is_paired (sym (ap is_one_sided is)
    ∙ below_paired z (length z.tables.links) place s (slice_get_within z.tables.links place t.row t.there) is none)
  where
    by : (b : Bool) → not b ≡ false → b ≡ true
    by true h = refl
    by false h = absurd (cc h)
