-- What a run answers.
use Rattle.std.proofs.Common.{◌≡◌, ℕ, zero, suc, ◌+◌, ◌-◌, ◌<◌, ◌≤◌, Bool, true, false, true≢false, ◌&&◌, ◌||◌, Option, List, [], length, reverse, refl, sym, ap, ◌∙◌, subst, arith}
use Rattle.std.proofs.lemmas.Bool.{eqb-true, eqb-false, ltb-true, ltb-false}
use Rattle.std.proofs.lemmas.List.{length-reverse}
use Rattle.std.specs.Prelude.{Some, None, nat_eq, nat_lt, if◌then◌else◌}
use Rattle.std.specs.Io.KnownBytes.{Appends}
use Rattle.afdx_law_bounds.specs.Tables.{port_of}
use Rattle.afdx_config.specs.Rows.{Rows}
use Rattle.afdx_input_runs.specs.Joining.{Frame}
use Rattle.afdx_police.specs.Arrival.{Arrival}
use Rattle.afdx_conform.proofs.CutLemmas.{uncut-reverse}
use Rattle.afdx_conform.proofs.QuietLemmas.{counts_none}
use Rattle.afdx_conform.specs.Histories.{counts_of, counts_with, judged_of, least_waiting, uncut}
use Rattle.afdx_conform.specs.Streams.{Gone, Terms}
use Rattle.afdx_text.specs.declared.conform_line.Conclusion.{Conclusion}
use Rattle.afdx_text.specs.declared.conform_line.ConformLine.{ConformLine}
use Rattle.afdx_text.specs.declared.conform_line.Answer.TheVariants.{Conforms, Deviates, Undecided}
use Rattle.afdx_command_conform.specs.Choices.{Choices}
use Rattle.afdx_command_conform.specs.Counting.{Counted, counted_at, totals_of}
use Rattle.afdx_command_conform.specs.Frames.{arrivals_of, frames_of, terms_at}
use Rattle.afdx_command_conform.specs.Lines.{Due, lines_of}
use Rattle.afdx_command_conform.specs.RunLaws.{AreExplained, AreSure, NothingIsFound}
use Rattle.afdx_command_conform.specs.Tapped.{is_judged}
use Rattle.afdx_command_conform.specs.Totals.{answer_of, concluded, is_unexercised}
use Rattle.afdx_command_conform.specs.Written.{whole_text}
use Rattle.afdx_command_conform.specs.VerdictLaws.{AllIsWrittenOnce, ConformsIsExplained, ExactConforms, IsExercised, IsRun, RightNeverDeviates, SomeLeft, answered, end_of}
use Rattle.afdx_command_conform.specs.declared.totals.Totals.{Totals}
use Rattle.afdx_command_conform.proofs.FoundLemmas.{all-quiet, quiet-streams}
use Rattle.afdx_command_conform.proofs.OneAnswerLemmas.{one_answer}
use Rattle.afdx_command_conform.proofs.RunLawLemmas.{found-then, is_the_headline, right_conforms, then-found}
use Rattle.afdx_command_conform.proofs.PartLemmas.{SomeStream, at-judged, at-other, each-sure, is-part, judged-parts, or-none, some-stream, sure-each, to-judged}

-- ---- what is explained of one stream

pub uncut-length : (z : Terms) (ys : List Gone) → length (uncut z (reverse ys)) ≡ length (uncut z ys)
uncut-length z ys = ap (λ (l : List Gone). length l) (uncut-reverse z ys) ∙ length-reverse (uncut z ys)

explained-some : (z : Terms) (xs : List Arrival) (ys : List Gone) → 0 < (counts_of z xs ys).explained
    → 0 < length (uncut z ys)
explained-some z xs ys h = by (judged_of z xs ys).is_unsure h
  where
    by : (b : Bool)
        → 0 < (if b then counts_with 0 0 0 else counts_with (length (uncut z ys) - (judged_of z xs ys).frames)
        (length ys - length (uncut z ys) + least_waiting (judged_of z xs ys).states)
        (judged_of z xs ys).uncertain).explained
        → 0 < length (uncut z ys)
    by true k = absurd (omega (arith, k))
    by false k = omega (arith, k)

some-explained : (z : Terms) (xs : List Arrival) (ys : List Gone) → (judged_of z xs ys).is_unsure ≡ false
    → (judged_of z xs ys).findings ≡ [] → 0 < length (uncut z ys) → 0 < (counts_of z xs ys).explained
some-explained z xs ys sure none some =
    let frames = counts_none z xs (uncut z ys) none in
    subst
    (λ (b : Bool). 0
    < (if b then counts_with 0 0 0 else counts_with (length (uncut z ys) - (judged_of z xs ys).frames)
    (length ys - length (uncut z ys) + least_waiting (judged_of z xs ys).states)
    (judged_of z xs ys).uncertain).explained)
    (sym sure) (omega (arith, frames, some))

-- ---- the answer

not-less : (a b : ℕ) → b ≤ a → nat_lt a b ≡ false
not-less a b le = by (nat_lt a b) refl
  where
    by : (v : Bool) → nat_lt a b ≡ v → v ≡ false
    by true e = absurd (let lt = ltb-true a b e in omega (arith, lt, le))
    by false e = refl

not-same : (a b : ℕ) → (a ≡ b → ⊥) → nat_eq a b ≡ false
not-same a b other = by (nat_eq a b) refl
  where
    by : (v : Bool) → nat_eq a b ≡ v → v ≡ false
    by true e = absurd (other (eqb-true a b e))
    by false e = refl

pub record IsConform (n : Totals) : Type 0 where
  pub none : n.findings ≡ 0
  pub sure : n.is_unsure ≡ false
  pub some : 0 < n.explained
  pub exercised : n.is_exercised ≡ true → n.idle ≡ 0

some-more : (m : ℕ) → (m ≡ 0 → ⊥) → 0 < m
some-more zero apart = absurd (apart refl)
some-more (suc m) apart = omega arith

pub conforms-parts : (n : Totals) → answer_of n ≡ Conforms → IsConform n
conforms-parts n h =
    by (nat_lt 0 n.findings) n.is_unsure (nat_eq n.explained 0) n.is_exercised (nat_lt 0 n.idle) refl refl refl refl
    refl h
  where
    by : (f u e x i : Bool) → nat_lt 0 n.findings ≡ f → n.is_unsure ≡ u → nat_eq n.explained 0 ≡ e
        → n.is_exercised ≡ x → nat_lt 0 n.idle ≡ i
        → (if f then Deviates n.findings else if u || e || (x && i) then Undecided else Conforms) ≡ Conforms
        → IsConform n
    by true u e x i fe ue ee xe ie k = absurd (cc)
    by false true e x i fe ue ee xe ie k = absurd (cc)
    by false false true x i fe ue ee xe ie k = absurd (cc)
    by false false false true true fe ue ee xe ie k = absurd (cc)
    by false false false false i fe ue ee xe ie k =
        let le = ltb-false 0 n.findings fe in
        let other = eqb-false n.explained 0 ee in
        record {
          none = omega (arith, le);
          sure = ue;
          some = some-more n.explained other;
          exercised = λ is. absurd (true≢false (sym is ∙ xe));
        }
    by false false false true false fe ue ee xe ie k =
        let le = ltb-false 0 n.findings fe in
        let other = eqb-false n.explained 0 ee in
        let none = ltb-false 0 n.idle ie in
        record {
          none = omega (arith, le);
          sure = ue;
          some = some-more n.explained other;
          exercised = λ is. omega (arith, none);
        }

conforms-from : (n : Totals) → IsConform n → answer_of n ≡ Conforms
conforms-from n p =
    let none = p.none in
    let some = p.some in
    ap (λ (b : Bool). if b then Deviates n.findings
    else if n.is_unsure || nat_eq n.explained 0 || is_unexercised n then Undecided else Conforms)
    (not-less 0 n.findings (omega (arith, none)))
    ∙ ap (λ (b : Bool). if b then Undecided else Conforms)
    (or-none (n.is_unsure || nat_eq n.explained 0) (is_unexercised n)
    (or-none n.is_unsure (nat_eq n.explained 0) p.sure (not-same n.explained 0 (λ e. omega (arith, e, some))))
    (all-shown n.is_exercised p.exercised))
  where
    all-shown : (b : Bool) → (b ≡ true → n.idle ≡ 0) → (b && nat_lt 0 n.idle) ≡ false
    all-shown false h = refl
    all-shown true h = not-less 0 n.idle (let none = h refl in omega (arith, none))

never-deviates : (n : Totals) (findings : ℕ) → n.findings ≡ 0 → answer_of n ≡ Deviates findings → ⊥
never-deviates n findings none h =
    by (n.is_unsure || nat_eq n.explained 0 || is_unexercised n)
    (sym (ap (λ (b : Bool). if b then Deviates n.findings
    else if n.is_unsure || nat_eq n.explained 0 || is_unexercised n then Undecided else Conforms)
    (not-less 0 n.findings (omega (arith, none)))) ∙ h)
  where
    by : (u : Bool) → (if u then Undecided else Conforms) ≡ Deviates findings → ⊥
    by true k = cc
    by false k = cc

module _ (k : Rows × Choices) (frames : List Frame) (lines : List Due) (run : IsRun k frames lines) where
  abbrev End : ℕ
  End = end_of k frames

  abbrev N : Totals
  N = totals_of k frames lines

  pub found-zero : N.findings ≡ 0 → NothingIsFound lines
  found-zero h = omega (arith, h)

  zero-found : NothingIsFound lines → N.findings ≡ 0
  zero-found h = omega (arith, h)

  left-then : 0 < N.explained → SomeLeft k frames
  left-then h =
      let s = some-stream k.0 k.1 End frames (omega (arith, h)) in
      by s (is_judged k.0 k.1.sight s.side s.link (port_of k.0 s.system)) refl s.some
    where
      by : (s : SomeStream k.0 k.1 End frames) (b : Bool) → is_judged k.0 k.1.sight s.side s.link
          (port_of k.0 s.system) ≡ b
          → 0 < (counted_at k.0 k.1 End frames s.side s.link (port_of k.0 s.system)).explained → SomeLeft k frames
      by s true e some =
          let z = terms_at k.0 k.1 End s.link (port_of k.0 s.system) in
          let own = reverse (arrivals_of k.0 k.1 s.link.vl s.side frames) in
          let left = frames_of k.0 k.1 s.link.vl s.side (port_of k.0 s.system) frames in
          let here = subst (λ (n : Counted). 0 < n.explained)
          (at-judged k.0 k.1 End frames s.side s.link (port_of k.0 s.system) e) some in
          let length_is = uncut-length z left in
          let less = explained-some z own (reverse left) here in
          record {
            side = s.side;
            place = s.place;
            port = port_of k.0 s.system;
            link = s.link;
            judged = to-judged k.0 k.1 End frames s.side s.place s.system s.link run.lawful s.at s.goes e;
            some = omega (arith, length_is, less);
          }
      by s false e some = absurd (let none = ap (λ (n : Counted). n.explained)
          (at-other k.0 k.1 End frames s.side s.link (port_of k.0 s.system) e) in omega (arith, none, some))

  then-left : SomeLeft k frames → AreSure k.0 k.1 End frames → NothingIsFound lines → 0 < N.explained
  then-left s sure none =
      let p = judged-parts k.0 k.1 End frames s.side s.place s.port s.link s.judged in
      let z = terms_at k.0 k.1 End s.link s.port in
      let own = reverse (arrivals_of k.0 k.1 s.link.vl s.side frames) in
      let left = frames_of k.0 k.1 s.link.vl s.side s.port frames in
      let quiet = quiet-streams k.0 k.1 End frames run.lawful lines run.are_lines (all-quiet lines none) in
      let length_is = uncut-length z left in
      let some = s.some in
      let one = some-explained z own (reverse left) (sure s.side s.place s.port s.link s.judged)
      (quiet.1 s.side s.place s.port s.link s.judged) (omega (arith, length_is, some)) in
      let here = subst (λ (n : Counted). 0 < n.explained)
      (sym (at-judged k.0 k.1 End frames s.side s.link s.port p.judged)) one in
      let there = subst (λ (q : ℕ). 0 < (counted_at k.0 k.1 End frames s.side s.link q).explained) (sym p.port_is)
      here in
      let less = (is-part k.0 k.1 End frames s.side s.place p.system s.link p.at p.goes).less in
      omega (arith, there, less)

  pub conform-then : answered k frames lines ≡ Conforms
      → SomeLeft k frames × AreSure k.0 k.1 End frames × AreExplained k.0 k.1 End frames × IsExercised k frames lines
  conform-then h =
      let p = conforms-parts N h in
      let sure = sure-each k.0 k.1 End frames p.sure in (
        left-then p.some,
        sure,
        found-then k.0 k.1 End frames lines run.lawful run.by_time run.are_lines sure (found-zero p.none),
        p.exercised,
      )

  conform-from : SomeLeft k frames → AreSure k.0 k.1 End frames → NothingIsFound lines → IsExercised k frames lines
      → answered k frames lines ≡ Conforms
  conform-from s sure none exercised = conforms-from N (record {
    none = zero-found none;
    sure = each-sure k.0 k.1 End frames run.lawful sure;
    some = then-left s sure none;
    exercised = exercised;
  })

pub conforms_explained : ConformsIsExplained
conforms_explained k frames lines run = (
  conform-then k frames lines run,
  λ h. conform-from k frames lines run h.0 h.1
      (then-found k.0 k.1 (end_of k frames) frames lines run.lawful run.by_time run.are_lines h.2) h.3,
)

pub exact_conforms : ExactConforms
exact_conforms k frames lines exact bags run =
    let e = is_the_headline k.0 k.1 frames lines run.lawful bags run.by_time exact run.are_lines in (
      λ h. let p = conforms-parts (totals_of k frames lines) h in (
        left-then k frames lines run p.some,
        e.found.0 (found-zero k frames lines run p.none),
        p.exercised,
      ),
      λ h. conform-from k frames lines run h.0 e.are_sure (e.found.1 h.1) h.2,
    )

pub never_deviates : RightNeverDeviates
never_deviates k frames lines findings drift bags run right h =
    never-deviates (totals_of k frames lines) findings
    (zero-found k frames lines run (right_conforms k.0 k.1 (end_of k frames) frames lines run.lawful bags
    run.by_time drift
    run.are_lines right)) h

-- ---- what is written

appended : (xs : List ℕ) (new other : Option (List ℕ)) (bytes : List ℕ) → Appends (Some xs) new bytes
    → Appends (Some xs) other bytes
    → new ≡ other
appended xs (Some a) (Some b) bytes p q = ap (λ (l : List ℕ). Some l) (p ∙ sym q)
appended xs (Some a) None bytes p q = absurd q
appended xs None other bytes p q = absurd p

pub written_once : AllIsWrittenOnce
written_once k frames old new other last others few a b =
    let p = a.are_so in
    let q = b.are_so in
    let same = one_answer k.0 k.1 (end_of k frames) frames p.dues q.dues few p.are_lines q.are_lines in
    let counted = p.last_is ∙ ap (λ (l : List Due). concluded (totals_of k frames l)) same ∙ sym q.last_is in
    let lines : a.lines ≡ b.lines = p.are ∙ ap (λ (l : List Due). lines_of l) same ∙ sym q.are in
    record {
      written = appended old new other (whole_text b.lines others)
          (subst (λ (n : Conclusion). Appends (Some old) new (whole_text b.lines n)) counted
          (subst (λ (l : List ConformLine). Appends (Some old) new (whole_text l last)) lines a.written))
          b.written;
      counted = counted;
    }
