-- Nothing came yet.
use Rattle.std.proofs.Common.{◌≡◌, ℕ, zero, suc, Bool, true, false, List, [], ◌++◌, length, map, refl, sym, ap, ap₂, ◌∙◌, subst, arith}
use Rattle.std.proofs.lemmas.Bool.{eq-eqb, eqb-true}
use Rattle.std.proofs.lemmas.List.Elements.{All-nil}
use Rattle.std.proofs.lemmas.List.Sorted.{IsPermutation-refl}
use Rattle.std.proofs.lemmas.Option.{same_Some}
use Rattle.std.specs.List.Sorted.{IsPermutation}
use Rattle.std.specs.Prelude.{filter, if◌then◌else◌, nat_eq, not, option_map, slice_get, Option, Some, None}
use Rattle.afdx_config.specs.Rows.{LinkRow, Rows}
use Rattle.afdx_frame.specs.declared.link.Side.{Side}
use Rattle.afdx_frame.specs.declared.link.Side.TheVariants.{A, B}
use Rattle.afdx_lawful.specs.Courses.{at_first, told_at, waited_on}
use Rattle.afdx_lawful.specs.Judged.{is_cut_of, waiting_of}
use Rattle.afdx_lawful.specs.Partners.{Waiting, waiting}
use Rattle.afdx_lawful.specs.Sources.{Source}
use Rattle.afdx_senders.specs.AllLines.{is_early, lines_coming, single_of, singles_below, singles_in}
use Rattle.afdx_senders.specs.Followed.{Followed, newly, nothing_followed, put_at}
use Rattle.afdx_senders.specs.History.{AreOf, HaveTold, IsReachedBy, IsSettled}
use Rattle.afdx_senders.specs.Lines.{Line, line_of}
use Rattle.afdx_senders.specs.Order.{is_moment_before}
use Rattle.afdx_senders.specs.Setups.{JudgesToo, Setup, nobody, own_frames, setup_with, source_at}
use Rattle.afdx_senders.specs.Sites.{Among, Recorded}
use Rattle.afdx_senders.specs.Standing.{SendersStand}
use Rattle.afdx_senders.specs.Telling.{AreTold, IsBehind, IsEarly, known_lines}
use Rattle.afdx_senders.specs.Terms.{Asked, terms_at}
use Rattle.afdx_senders.specs.declared.senders.Senders.{Senders}
use Rattle.afdx_senders.proofs.OwnLemmas.{judged_terms}
use Rattle.afdx_senders.proofs.WaitingLemmas.{is_over}

-- ---- no lines

none_waits : (s : Source) (side : Side) → waiting_of s side [] ≡ []
unfolding waiting
none_waits s side = by s.is_paired
  where
    by : (b : Bool) → (if b then waiting s side [] else []) ≡ []
    by true = refl
    by false = refl

no_singles : (o : Option Source) → singles_in o [] ≡ []
no_singles None = refl
no_singles (Some s) =
    ap₂ (λ (a b : List Waiting). map (single_of s) (filter whole a ++ filter whole b)) (none_waits s A) (none_waits s B)
  where
    whole : Waiting → Bool
    whole y = not (is_cut_of s [] y)

pub none_below : (z : Setup) (n : ℕ) → singles_below z [] n ≡ []
unfolding singles_below own_frames
none_below z zero = refl
none_below z (suc n) = ap₂ (λ (a b : List Line). a ++ b) (no_singles (source_at z n)) (none_below z n)

pub none_known : (z : Setup) (before : Option ℕ) → known_lines z before [] ≡ []
unfolding known_lines lines_coming
none_known z before = ap (filter (is_early before)) (none_below z (length z.tables.links))

none_told : (z : Setup) (before : Option ℕ) → AreTold z before [] [] []
none_told z before = record {
  are = subst (λ (l : List Line). IsPermutation [] l) (sym (none_known z before)) (IsPermutation-refl []);
  in_order = tt;
  behind = All-nil (λ x. IsBehind x []);
  early = All-nil (IsEarly before);
}

nobody_there : (t : Rows) (among : Among) (recorded : Recorded) (k : Asked) (place : ℕ) →
    None ≡ source_at (setup_with t among recorded k nobody) place
unfolding source_at
nobody_there t among recorded k place = refl

pub at_rest : (t : Rows) (among : Among) (recorded : Recorded) (k : Asked) (before : Option ℕ) (senders : Senders) →
    AreOf (setup_with t among recorded k nobody) senders → SendersStand nothing_followed senders →
    senders.found ≡ [] → HaveTold (setup_with t among recorded k nobody) before [] [] senders
at_rest t among recorded k before senders of stand none =
    let z = setup_with t among recorded k nobody in
    record {
      at = nothing_followed;
      setup = of;
      own = record { sources = nobody_there t among recorded k; came = λ place f is. absurd (cc) };
      settled = λ place f is. absurd (cc);
      stand = stand;
      lines = subst (λ l. AreTold z before [] [] (map line_of l)) (sym none) (none_told z before);
    }

-- ---- one more sender is judged

abbrev source_by : Rows → Recorded → Asked → Bool → ℕ → Option Source
source_by t recorded k judged place =
    if judged then option_map (terms_at t recorded k place) (slice_get t.links place) else None

module _ (z next : Setup) (place : ℕ) (too : JudgesToo place z next) where
  same_source : (k : ℕ) → next.is_judged k ≡ z.is_judged k → source_at next k ≡ source_at z k
  unfolding source_at
  same_source k same =
      ap (λ (t : Rows). source_by t next.recorded next.asked (next.is_judged k) k) too.tables
      ∙ ap (λ (r : Recorded). source_by z.tables r next.asked (next.is_judged k) k) too.recorded
      ∙ ap (λ (a : Asked). source_by z.tables z.recorded a (next.is_judged k) k) too.asked
      ∙ ap (λ (b : Bool). source_by z.tables z.recorded z.asked b k) same

  same_terms : (l : LinkRow) → terms_at next.tables next.recorded next.asked place l
      ≡ terms_at z.tables z.recorded z.asked place l
  same_terms l =
      ap (λ (t : Rows). terms_at t next.recorded next.asked place l) too.tables
      ∙ ap (λ (r : Recorded). terms_at z.tables r next.asked place l) too.recorded
      ∙ ap (λ (a : Asked). terms_at z.tables z.recorded a place l) too.asked

  its_source : (l : LinkRow) → slice_get z.tables.links place ≡ Some l →
      source_at next place ≡ Some (terms_at z.tables z.recorded z.asked place l)
  its_source l there =
      judged_terms next place l
      (too.judged place ∙ ap (λ (b : Bool). if b then true else z.is_judged place) (eq-eqb place place refl))
      (ap (λ (t : Rows). slice_get t.links place) too.tables ∙ there)
      ∙ ap Some (same_terms l)

  newly_settled : (before : Option ℕ) (s : Source) → IsSettled before (newly s)
  newly_settled before s = record { reached = at_once before; over = none_over }
    where
      at_once : (o : Option ℕ) → IsReachedBy o at_first
      at_once None = tt
      at_once (Some time) = omega arith

      none_over : (side : Side) → waited_on at_first side
          ≡ filter (λ y. is_moment_before before (told_at s y)) (waiting_of s side [])
      none_over A = sym (ap (filter (is_over s before)) (none_waits s A))
      none_over B = sym (ap (filter (is_over s before)) (none_waits s B))

  pub judged_too : (before : Option ℕ) (l : LinkRow) (old new : Senders) → slice_get z.tables.links place ≡ Some l →
      (h : HaveTold z before [] [] old) → AreOf z new → new.found ≡ old.found →
      SendersStand (put_at place (newly (terms_at z.tables z.recorded z.asked place l)) h.at) new →
      HaveTold next before [] [] new
  unfolding own_frames
  judged_too before l old new there h of found stand = record {
    at = put_at place (newly s) h.at;
    setup = record {
      tables = of.tables ∙ sym too.tables;
      among = of.among ∙ sym too.among;
      recorded = of.recorded ∙ sym too.recorded;
      room = of.room ∙ ap (λ (t : Rows). length t.links) (sym too.tables);
    };
    own = record {
      sources = λ k. one k (nat_eq k place) refl;
      came = λ k g. two k g (nat_eq k place);
    };
    settled = λ k g. three k g (nat_eq k place);
    stand = stand;
    lines =
        subst (λ l. AreTold next before [] [] (map line_of l)) (sym found)
        (record {
          are =
              subst (λ (l : List Line). IsPermutation (map line_of old.found) l)
              (none_known z before ∙ sym (none_known next before)) h.lines.are;
          in_order = tt;
          behind = h.lines.behind;
          early = h.lines.early;
        });
  }
    where
      s : Source
      s = terms_at z.tables z.recorded z.asked place l

      one : (k : ℕ) (b : Bool) → nat_eq k place ≡ b →
          option_map (λ (g : Followed). g.source) (if b then Some (newly s) else h.at k) ≡ source_at next k
      one k true same = sym (its_source l there) ∙ ap (source_at next) (sym (eqb-true k place same))
      one k false other =
          h.own.sources k
          ∙ sym (same_source k (too.judged k ∙ ap (λ (b : Bool). if b then true else z.is_judged k) other))

      two : (k : ℕ) (g : Followed) (b : Bool) → (if b then Some (newly s) else h.at k) ≡ Some g →
          g.course.came ≡ own_frames next k []
      two k g true is = ap (λ (f : Followed). f.course.came) (sym (same_Some (newly s) g is))
      two k g false is = h.own.came k g is

      three : (k : ℕ) (g : Followed) (b : Bool) → (if b then Some (newly s) else h.at k) ≡ Some g → IsSettled before g
      three k g true is = subst (IsSettled before) (same_Some (newly s) g is) (newly_settled before s)
      three k g false is = h.settled k g is
