-- What it means that nothing is found in a run.
use Rattle.std.proofs.Common.{◌≡◌, ℕ, ◌+◌, ◌≤◌, Bool, true, false, List, [], ◌∷◌, length, map, reverse, refl, sym, ap, ◌∙◌, subst, arith}
use Rattle.std.proofs.lemmas.Bool.{and_parts, le-leb, ltb-false}
use Rattle.std.proofs.lemmas.List.{reverse-reverse}
use Rattle.std.specs.Prelude.{IsTrue, Option, Some, None, ◌↔◌, ◌&&◌, not, nat_le, if◌then◌else◌}
use Rattle.std.specs.List.{AllByRecursion, filter}
use Rattle.afdx_law_bounds.specs.Tables.{rule_of}
use Rattle.afdx_config.specs.Lawful.{IsLawfulSwitch, IsLinkUpTo, jitter_from_any}
use Rattle.afdx_config.specs.Rows.{LinkRow, Rows}
use Rattle.afdx_frame.proofs.ListLemmas.{AllByRecursion-slice_get}
use Rattle.afdx_frame.specs.Regulation.{is_bag}
use Rattle.afdx_frame.specs.declared.link.Side.{Side}
use Rattle.afdx_input_runs.specs.Joining.{Frame}
use Rattle.afdx_police.specs.Arrival.{Arrival, names}
use Rattle.afdx_conform.specs.Events.{GoUp, arrival_times, frame_times, judged_whole}
use Rattle.afdx_conform.specs.Findings.{Judged}
use Rattle.afdx_conform.specs.LimitRanges.{most_bytes}
use Rattle.afdx_conform.specs.Explanations.{Explains}
use Rattle.afdx_conform.specs.Headline.{IsAsTheHeadline, IsExact, sound_of}
use Rattle.afdx_conform.specs.Histories.{judged_of, uncut}
use Rattle.afdx_conform.specs.Leeway.{reach}
use Rattle.afdx_conform.specs.Streams.{Gone, Terms}
use Rattle.afdx_conform.proofs.CutLemmas.{uncut-reverse}
use Rattle.afdx_conform.proofs.HeadlineLemmas.{exact_is_the_headline}
use Rattle.afdx_conform.proofs.HidingLemmas.{what_passed}
use Rattle.afdx_conform.proofs.QuietLemmas.{finds_nothing}
use Rattle.afdx_conform.proofs.RightLemmas.{right_explained}
use Rattle.afdx_conform.proofs.SureLemmas.{exact_sure}
use Rattle.afdx_conform.proofs.WholeLemmas.{all_explained}
use Rattle.afdx_command_conform.specs.Sight.{HasBags, TablesHaveBags}
use Rattle.afdx_command_conform.specs.Choices.{Choices, counted, counts, is_before, is_behind, is_in_time, is_passed, latest_of, until_or}
use Rattle.afdx_command_conform.specs.Frames.{arrivals_of, frames_of, gone_of, left_at, terms_at}
use Rattle.afdx_command_conform.specs.Lines.{AreLines, Due, judged_at}
use Rattle.afdx_command_conform.specs.RunLaws.{AreByTime, AreExplained, AreSure, ConformsIsTheHeadline, IsByTheHeadline, IsExactBy, IsExplained, NoLineIsExplained, NothingFoundIsExplained, NothingIsFound, RightConforms, sound_at, uncut_at}
use Rattle.afdx_command_conform.specs.Tapped.{judged_to}
use Rattle.afdx_command_conform.proofs.ByTimeLemmas.{all-before, arrivals-by-time, arrivals-go, sound-by-time, uncut-go}
use Rattle.afdx_command_conform.proofs.FoundLemmas.{IsQuiet, all-quiet, none-of-sure, quiet-all, quiet-streams, streams-quiet, sure-of-none}
use Rattle.afdx_command_conform.proofs.KeyLemmas.{link-to}
use Rattle.afdx_command_conform.proofs.OneAnswerLemmas.{judged-link}

-- ---- one stream

-- the newest first
module _ (z : Terms) (own : List Arrival) (left : List Gone) where
  abbrev pub Whole : Judged
  Whole = judged_whole z (reverse own) (reverse (uncut z left))

  pub whole-is : judged_of z (reverse own) (reverse left) ≡ Whole
  whole-is = ap (λ (l : List Gone). judged_whole z (reverse own) l) (uncut-reverse z left)

  other-way : Explains z (sound_of z.rule own) (uncut z left)
      → Explains z (sound_of z.rule (reverse (reverse own))) (reverse (reverse (uncut z left)))
  other-way e =
      subst (λ (l : List Gone). Explains z (sound_of z.rule (reverse (reverse own))) l)
      (sym (reverse-reverse (uncut z left)))
      (subst (λ (l : List Arrival). Explains z (sound_of z.rule l) (uncut z left)) (sym (reverse-reverse own)) e)

  this-way : Explains z (sound_of z.rule (reverse (reverse own))) (reverse (reverse (uncut z left)))
      → Explains z (sound_of z.rule own) (uncut z left)
  this-way e =
      subst (λ (l : List Arrival). Explains z (sound_of z.rule l) (uncut z left)) (reverse-reverse own)
      (subst (λ (l : List Gone). Explains z (sound_of z.rule (reverse (reverse own))) l)
      (reverse-reverse (uncut z left)) e)

  stream-explained : GoUp (arrival_times (reverse own)) → GoUp (frame_times (reverse (uncut z left)))
      → (judged_of z (reverse own) (reverse left)).is_unsure ≡ false
      → ((judged_of z (reverse own) (reverse left)).findings ≡ []) ↔ Explains z (sound_of z.rule own) (uncut z left)
  stream-explained p q sure =
      let law = all_explained z (reverse own) (reverse (uncut z left)) p q
      (ap (λ (j : Judged). j.is_unsure) (sym whole-is) ∙ sure) in (
        λ h. this-way (law.0 (ap (λ (j : Judged). j.findings) (sym whole-is) ∙ h)),
        λ e. ap (λ (j : Judged). j.findings) whole-is ∙ law.1 (other-way e),
      )

  stream-quiet-of : GoUp (arrival_times (reverse own)) → Explains z (sound_of z.rule own) (uncut z left)
      → (judged_of z (reverse own) (reverse left)).findings ≡ []
  stream-quiet-of p e =
      ap (λ (j : Judged). j.findings) whole-is
      ∙ finds_nothing z (reverse own) (reverse (uncut z left)) p (other-way e)

  uncut-all : (ys : List Gone) → AllByRecursion (λ y. y.time + reach z.by ≤ z.until) ys → uncut z ys ≡ ys
  uncut-all [] h = refl
  uncut-all (y ∷ ys) h =
      ap (λ (b : Bool). if b then y ∷ uncut z ys else uncut z ys) (le-leb (y.time + reach z.by) z.until h.0)
      ∙ ap (λ (l : List Gone). y ∷ l) (uncut-all ys h.1)

-- ---- frames that count are no later than the end

every-test : {X : Type 0} (P : X → Type 0) (test : X → Bool) (xs : List X) → AllByRecursion P xs
    → AllByRecursion P (filter test xs)
every-test P test [] h = tt
every-test P test (x ∷ xs) h = by (test x) (every-test P test xs h.1)
  where
    by : (b : Bool) → AllByRecursion P (filter test xs)
        → AllByRecursion P (if b then x ∷ filter test xs else filter test xs)
    by true k = (h.0, k)
    by false k = k

not-behind : (t : Rows) (c : Choices) (x : Frame) → counts t c x ≡ true → is_behind x.arrival.time c.until ≡ false
unfolding counts
not-behind t c x e =
    let all = and_parts (is_in_time c x && not (is_passed t c x)) (nat_le (length x.arrival.bytes) most_bytes) e in
    let first = and_parts (is_in_time c x) (not (is_passed t c x)) all.0 in
    let time = and_parts (not (is_before c x.role x.arrival.time)) (not (is_behind x.arrival.time c.until)) first.0 in
    by (is_behind x.arrival.time c.until) time.1
  where
    by : (b : Bool) → not b ≡ true → b ≡ false
    by true h = absurd (cc)
    by false h = refl

until-end : (t : Rows) (c : Choices) (end : ℕ) (frames : List Frame) → c.until ≡ Some end
    → AllByRecursion (λ x. x.arrival.time ≤ end) (counted t c frames)
until-end t c end [] is = tt
until-end t c end (x ∷ frames) is = by (counts t c x) refl (until-end t c end frames is)
  where
    by : (b : Bool) → counts t c x ≡ b → AllByRecursion (λ x. x.arrival.time ≤ end) (counted t c frames)
        → AllByRecursion (λ x. x.arrival.time ≤ end) (if b then x ∷ counted t c frames else counted t c frames)
    by true e k = (
      ltb-false end x.arrival.time (ap (λ (o : Option ℕ). is_behind x.arrival.time o) (sym is) ∙ not-behind t c x e),
      k,
    )
    by false e k = k

counted-until : (t : Rows) (c : Choices) (frames : List Frame) → AreByTime frames
    → AllByRecursion (λ x. x.arrival.time ≤ until_or c.until frames) (counted t c frames)
counted-until t c frames order = by c.until refl
  where
    by : (o : Option ℕ) → c.until ≡ o → AllByRecursion (λ x. x.arrival.time ≤ until_or o frames) (counted t c frames)
    by None is =
        every-test (λ (x : Frame). x.arrival.time ≤ latest_of frames) (counts t c) frames
        (all-before (latest_of frames) frames order (omega arith))
    by (Some end) is = until-end t c end frames is

-- ---- all streams

pub bag-of : (t : Rows) (c : Choices) (side : Side) (place port : ℕ) (l : LinkRow) → HasBags t c.sight
    → judged_to t c.sight side place port ≡ Some l → IsTrue (is_bag (c.sight.rule l).bag_ms)
bag-of t c side place port l bags is =
    bags place l (link-to t place port l (judged-link t c side place port l is)).at

pub tables-have-bags : TablesHaveBags
unfolding rule_of
tables-have-bags t taps lawful place l at =
    (AllByRecursion-slice_get (IsLinkUpTo jitter_from_any
    (length t.systems)) t.links place l lawful.links.each at).bag_ms

module _ (t : Rows) (c : Choices) (until : ℕ) (frames : List Frame) (lines : List Due) (lawful : IsLawfulSwitch t)
    (order : AreByTime frames) (are : AreLines t c until frames lines) where
  explained-of : (l : LinkRow) (side : Side) (port : ℕ)
      → Explains (terms_at t c until l port) (sound_at t c until frames l side) (uncut_at t c until frames l side port)
      → IsExplained (terms_at t c until l port) (sound_at t c until frames l side)
      (uncut_at t c until frames l side port)
  explained-of l side port e = record {
    explains = e;
    windows = what_passed (terms_at t c until l port) (sound_at t c until frames l side)
        (uncut_at t c until frames l side port)
        (sound-by-time (c.sight.rule l) (arrivals_of t c l.vl side frames)
        (arrivals-by-time t c frames order l.vl side))
        e;
  }

  each-explained : (l : LinkRow) (side : Side) (port : ℕ) → (judged_at t c until frames l side port).is_unsure ≡ false
      → ((judged_at t c until frames l side port).findings ≡ [])
      ↔ Explains (terms_at t c until l port) (sound_at t c until frames l side) (uncut_at t c until frames l side port)
  each-explained l side port sure =
      stream-explained (terms_at t c until l port) (arrivals_of t c l.vl side frames)
      (frames_of t c l.vl side port frames)
      (arrivals-go t c frames order l.vl side) (uncut-go t c frames order l.vl side port (terms_at t c until l port))
      sure

  pub found-then : AreSure t c until frames → NothingIsFound lines → AreExplained t c until frames
  found-then sure h =
      let q = quiet-streams t c until frames lawful lines are (all-quiet lines h) in
      record {
        none_strange = q.0;
        streams = λ side place port l is. explained-of l side port
            ((each-explained l side port (sure side place port l is)).0 (q.1 side place port l is));
      }

  pub then-found : AreExplained t c until frames → NothingIsFound lines
  then-found e = quiet-all lines (streams-quiet t c until frames lawful lines are e.none_strange
      (λ side place port l is. stream-quiet-of (terms_at t c until l port) (arrivals_of t c l.vl side frames)
      (frames_of t c l.vl side port frames) (arrivals-go t c frames order l.vl side)
      (e.streams side place port l is).explains))

  pub found-of-none : lines ≡ [] → NothingIsFound lines
  found-of-none e = quiet-all lines (subst (λ (l : List Due). AllByRecursion IsQuiet l) (sym e) tt)

  pub none-of-found : AreSure t c until frames → NothingIsFound lines → lines ≡ []
  none-of-found sure h =
      let q = quiet-streams t c until frames lawful lines are (all-quiet lines h) in
      none-of-sure t c until frames lawful lines are q.0 q.1 sure

pub found_explained : NothingFoundIsExplained
found_explained t c until frames lines lawful order are sure =
    (found-then t c until frames lines lawful order are sure, then-found t c until frames lines lawful order are)

pub none_explained : NoLineIsExplained
none_explained t c until frames lines lawful order are = (
  λ e. let sure = sure-of-none t c until frames lawful lines are e in (
    sure,
    found-then t c until frames lines lawful order are sure (found-of-none t c until frames lines lawful order are e),
  ),
  λ h. none-of-found t c until frames lines lawful order are h.0 (then-found t c until frames lines lawful order are
      h.1),
)

pub right_conforms : RightConforms
right_conforms t c until frames lines lawful bags order drift are right =
    then-found t c until frames lines lawful order are (record {
      none_strange = right.none_strange;
      streams = λ side place port l is.
          let r = right.streams side place port l is in
          explained-of t c until frames lines lawful order are l side port
          (subst (λ (xs : List Arrival). Explains (terms_at t c until l port) xs
          (uncut_at t c until frames l side port)) r.arrivals
          (right_explained (terms_at t c until l port) r.asked (uncut_at t c until frames l side port)
          (bag-of t c side place port l bags is) drift r.is_right));
    })

-- ---- with exact stamps and clocks

module _ (t : Rows) (c : Choices) (frames : List Frame) (lines : List Due) (lawful : IsLawfulSwitch t)
    (bags : HasBags t c.sight) (order : AreByTime frames)
    (exact : IsExactBy c.by) (are : AreLines t c (until_or c.until frames) frames lines) where
  abbrev End : ℕ
  End = until_or c.until frames

  exact-at : (l : LinkRow) (port : ℕ) → IsExact (terms_at t c End l port)
  exact-at l port = record {
    account = record { slack = exact.slack; drift = exact.drift; asked = exact.asked; start = exact.start };
    between = exact.between;
  }

  sure-at : AreSure t c End frames
  sure-at side place port l is = (exact_sure (terms_at t c End l port) _ [] _ (exact-at l port).account).sure

  gone-until : (fs : List Frame) → AllByRecursion (λ x. x.arrival.time ≤ End) fs
      → AllByRecursion (λ y. y.time + reach c.by ≤ End) (map (λ x. gone_of x.arrival) fs)
  gone-until [] h = tt
  gone-until (x ∷ fs) h = (
    (let a = h.0 in let s = exact.slack in let b = exact.between in omega (arith, a, s, b)),
    gone-until fs h.1,
  )

  uncut-is : (l : LinkRow) (side : Side) (port : ℕ) → uncut_at t c End frames l side port ≡ frames_of t c l.vl side
      port frames
  uncut-is l side port =
      uncut-all (terms_at t c End l port) [] [] (frames_of t c l.vl side port frames)
      (gone-until (filter (λ x. left_at side port x && names l.vl x.arrival.bytes) (counted t c frames))
      (every-test (λ (x : Frame). x.arrival.time ≤ End) (λ x. left_at side port x && names l.vl x.arrival.bytes)
      (counted t c frames)
      (counted-until t c frames order)))

  headline-at : (side : Side) (place port : ℕ) (l : LinkRow) → judged_to t c.sight side place port ≡ Some l
      → Explains (terms_at t c End l port) (sound_at t c End frames l side) (uncut_at t c End frames l side port)
      ↔ IsAsTheHeadline (terms_at t c End l port) (arrivals_of t c l.vl side frames)
      (frames_of t c l.vl side port frames)
  headline-at side place port l is =
      subst (λ (ys : List Gone). Explains (terms_at t c End l port) (sound_at t c End frames l side)
      (uncut_at t c End frames l side port)
      ↔ IsAsTheHeadline (terms_at t c End l port) (arrivals_of t c l.vl side frames) ys) (uncut-is l side port)
      (exact_is_the_headline (terms_at t c End l port) (arrivals_of t c l.vl side frames)
      (uncut_at t c End frames l side port)
      (exact-at l port) (bag-of t c side place port l bags is) (arrivals-by-time t c frames order l.vl side))

  by-headline : IsByTheHeadline t c frames lines
  by-headline = record {
    are_sure = sure-at;
    found = (
      λ h. let e = found-then t c End frames lines lawful order are sure-at h in record {
        none_strange = e.none_strange;
        streams = λ side place port l is. (headline-at side place port l is).0
            (e.streams side place port l is).explains;
      },
      λ h. then-found t c End frames lines lawful order are (record {
        none_strange = h.none_strange;
        streams = λ side place port l is. explained-of t c End frames lines lawful order are l side port
            ((headline-at side place port l is).1 (h.streams side place port l is));
      }),
    );
    none = (
      none-of-found t c End frames lines lawful order are sure-at,
      found-of-none t c End frames lines lawful
          order are,
    );
  }

pub is_the_headline : ConformsIsTheHeadline
is_the_headline t c frames lines lawful bags order exact are =
    by-headline t c frames lines lawful bags order exact are
