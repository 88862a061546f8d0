-- Lines that are findings, and the streams that they are of.
use Rattle.std.proofs.Common.{◌≡◌, ℕ, ◌+◌, ◌<◌, Bool, true, false, List, [], ◌∷◌, ◌++◌, map, reverse, length, refl, sym, ap, ◌∙◌, subst, arith, true≢false}
use Rattle.std.proofs.lemmas.Bool.{ltb-true, ltb-false}
use Rattle.std.proofs.lemmas.List.{reverse-reverse, length-reverse}
use Rattle.std.specs.Prelude.{Option, Some, None, ◌↔◌, is_some, nat_lt, if◌then◌else◌}
use Rattle.std.specs.Option.{option_map_or}
use Rattle.std.specs.List.{AllByRecursion}
use Rattle.afdx_config.specs.Lawful.{IsLawfulSwitch}
use Rattle.afdx_config.specs.Rows.{LinkRow, Rows}
use Rattle.afdx_frame.specs.declared.link.Side.{Side}
use Rattle.afdx_input_runs.specs.Joining.{Frame}
use Rattle.afdx_police.specs.Arrival.{Arrival}
use Rattle.afdx_conform.specs.Findings.{Found, Judged, Marked}
use Rattle.afdx_conform.specs.Streams.{Terms}
use Rattle.afdx_text.specs.declared.conform_line.ConformLine.{ConformLine}
use Rattle.afdx_conform.proofs.EveryLemmas.{every-append, every-map, every-reverse, every-right, every-unmap}
use Rattle.afdx_conform.proofs.QuietLemmas.{behind_one}
use Rattle.afdx_command_conform.specs.Choices.{Choices}
use Rattle.afdx_command_conform.specs.Frames.{strangers_of, terms_at}
use Rattle.afdx_command_conform.specs.Keys.{key_with}
use Rattle.afdx_command_conform.specs.Lines.{AreLines, Due, dues_by, found_due, judged_at, judged_dues, lines_of, of_key, stranger_due, stream_dues, unsure_dues}
use Rattle.afdx_command_conform.specs.RunLaws.{AreAll, NoneIsStrange, NothingIsFound}
use Rattle.afdx_command_conform.specs.Tapped.{judged_to}
use Rattle.afdx_command_conform.specs.Telling.{findings_in, is_finding, one_if}
use Rattle.afdx_command_conform.specs.declared.key.Key.{Key}
use Rattle.afdx_command_conform.proofs.KeyLemmas.{link-place}
use Rattle.afdx_command_conform.proofs.OfKeyLemmas.{all-of-key, of-each-key}
use Rattle.afdx_command_conform.proofs.OneAnswerLemmas.{judged-link}

-- ---- how many are findings

abbrev pub IsQuiet : Due → Type 0
IsQuiet d = is_finding d.line ≡ false

none-of : (lines : List ConformLine) → findings_in lines ≡ 0 → AllByRecursion (λ line. is_finding line ≡ false) lines
unfolding findings_in
none-of [] h = tt
none-of (line ∷ lines) h = by (is_finding line) refl h (λ k. none-of lines k)
  where
    by : (b : Bool) → is_finding line ≡ b → one_if b + findings_in lines ≡ 0
        → (findings_in lines ≡ 0 → AllByRecursion (λ line. is_finding line ≡ false) lines)
        → AllByRecursion (λ line. is_finding line ≡ false) (line ∷ lines)
    by true e k more = absurd (omega (arith, k))
    by false e k more = (e, more (omega (arith, k)))

none-in : (lines : List ConformLine) → AllByRecursion (λ line. is_finding line ≡ false) lines → findings_in lines ≡ 0
unfolding findings_in
none-in [] h = refl
none-in (line ∷ lines) h =
    let none = none-in lines h.1 in
    ap (λ b. one_if b + findings_in lines) h.0 ∙ omega (arith, none)

pub all-quiet : (dues : List Due) → NothingIsFound dues → AllByRecursion IsQuiet dues
all-quiet dues h =
    every-unmap (λ line. is_finding line ≡ false) (λ (d : Due). d.line) dues
    (subst (λ (l : List ConformLine). AllByRecursion (λ line. is_finding line ≡ false) l)
    (reverse-reverse (map (λ d. d.line) dues))
    (every-reverse (λ line. is_finding line ≡ false) (lines_of dues) (none-of (lines_of dues) h)))

pub quiet-all : (dues : List Due) → AllByRecursion IsQuiet dues → NothingIsFound dues
quiet-all dues h =
    none-in (lines_of dues) (every-reverse (λ line. is_finding line ≡ false) (map (λ d. d.line) dues)
    (every-map (λ line. is_finding line ≡ false) (λ (d : Due). d.line) dues h))

-- ---- those of one stream

nothing-found : (z : Terms) (k : Key) (found : List Found) → AllByRecursion IsQuiet (map (found_due z k) found)
    → found ≡ []
nothing-found z k [] h = refl
nothing-found z k (f ∷ found) h = absurd (true≢false h.0)

unsure-quiet : (z : Terms) (k : Key) (marks : List Marked) → AllByRecursion IsQuiet (unsure_dues z k marks)
unsure-quiet z k [] = tt
unsure-quiet z k (m ∷ more) = (refl, tt)

pub stream-quiet : (z : Terms) (k : Key) (j : Judged) → AllByRecursion IsQuiet (judged_dues z k j) ↔ (j.findings ≡ [])
unfolding judged_dues
stream-quiet z k j = (
  λ h. nothing-found z k j.findings
      (every-right IsQuiet (if j.is_unsure then unsure_dues z k (reverse j.arrivals) else [])
      (map (found_due z k) j.findings) h),
  λ e. every-append IsQuiet (if j.is_unsure then unsure_dues z k (reverse j.arrivals) else [])
      (map (found_due z k) j.findings)
      (by j.is_unsure) (subst (λ (l : List Found). AllByRecursion IsQuiet (map (found_due z k) l)) (sym e) tt),
)
  where
    by : (b : Bool) → AllByRecursion IsQuiet (if b then unsure_dues z k (reverse j.arrivals) else [])
    by true = unsure-quiet z k (reverse j.arrivals)
    by false = tt

no-strangers : (t : Rows) (k : Key) (xs : List Arrival) → AllByRecursion IsQuiet (map (stranger_due t k) xs) → xs ≡ []
no-strangers t k [] h = refl
no-strangers t k (x ∷ xs) h = absurd (true≢false h.0)

-- ---- and of all

module _ (t : Rows) (c : Choices) (until : ℕ) (frames : List Frame) (lawful : IsLawfulSwitch t) (lines : List Due)
    (are : AreLines t c until frames lines) where
  port-of : (side : Side) (place port : ℕ) (l : LinkRow) → judged_to t c.sight side place port ≡ Some l → port < 256
  port-of side place port l is =
      let at = (link-place t place port lawful (ap (λ o. is_some o) (judged-link t c side place port l is))).1 in
      omega (arith, at)

  pub stream-lines : (side : Side) (place port : ℕ) (l : LinkRow) → judged_to t c.sight side place port ≡ Some l
      → of_key (key_with side port (Some place)) lines
      ≡ judged_dues (terms_at t c until l port) (key_with side port (Some place))
      (judged_at t c until frames l side port)
  stream-lines side place port l is =
      are.own (key_with side port (Some place)) (port-of side place port l is)
      ∙ ap (λ (o : Option LinkRow). option_map_or (stream_dues t c until frames (key_with side port (Some place))) o
      []) is

  pub strange-lines : (side : Side) (port : ℕ) → port < 256
      → of_key (key_with side port None) lines
      ≡ map (stranger_due t (key_with side port None)) (strangers_of t c side port frames)
  strange-lines side port small = are.own (key_with side port None) small

  abbrev pub NoneIsFound : Type 0
  NoneIsFound = AreAll t c until frames (λ l side port. (judged_at t c until frames l side port).findings ≡ [])

  pub quiet-streams : AllByRecursion IsQuiet lines → NoneIsStrange t c until frames × NoneIsFound
  quiet-streams h = (
    λ side port small. no-strangers t (key_with side port None) (strangers_of t c side port frames)
        (subst (λ (l : List Due). AllByRecursion IsQuiet l) (strange-lines side port small)
        (all-of-key IsQuiet (key_with side port None) lines h)),
    λ side place port l is.
        (stream-quiet (terms_at t c until l port) (key_with side port (Some place))
        (judged_at t c until frames l side port)).0
        (subst (λ (l : List Due). AllByRecursion IsQuiet l) (stream-lines side place port l is)
        (all-of-key IsQuiet (key_with side port (Some place)) lines h)),
  )

  -- what is so of the lines of each stream and of what is of none is so of all
  pub of-all : (P : Due → Type 0)
      → ((k : Key) → k.port < 256 → AllByRecursion P (map (stranger_due t k) (strangers_of t c k.side k.port frames)))
      → ((k : Key) (place : ℕ) (l : LinkRow) → judged_to t c.sight k.side place k.port ≡ Some l
      → AllByRecursion P (judged_dues (terms_at t c until l k.port) k (judged_at t c until frames l k.side k.port)))
      → AllByRecursion P lines
  of-all P strange stream = of-each-key P lines (λ k. by k (nat_lt k.port 256) refl)
    where
      judged : (k : Key) (place : ℕ) (o : Option LinkRow) → judged_to t c.sight k.side place k.port ≡ o
          → AllByRecursion P (option_map_or (stream_dues t c until frames k) o [])
      judged k place None is = tt
      judged k place (Some l) is = stream k place l is

      dues : (k : Key) → k.port < 256 → (o : Option ℕ) → AllByRecursion P (dues_by t c until frames k o)
      dues k small None = strange k small
      dues k small (Some place) = judged k place (judged_to t c.sight k.side place k.port) refl

      by : (k : Key) (b : Bool) → nat_lt k.port 256 ≡ b → AllByRecursion P (of_key k lines)
      by k true e =
          let small = ltb-true k.port 256 e in
          subst (λ (l : List Due). AllByRecursion P l) (sym (are.own k small)) (dues k small k.link)
      by k false e = subst (λ (l : List Due). AllByRecursion P l) (sym (are.only k (ltb-false k.port 256 e))) tt

  pub streams-quiet : NoneIsStrange t c until frames → NoneIsFound → AllByRecursion IsQuiet lines
  streams-quiet strange found = of-all IsQuiet
      (λ k small. subst (λ (l : List Arrival). AllByRecursion IsQuiet (map (stranger_due t k) l))
      (sym (strange k.side k.port small)) tt)
      (λ k place l is. (stream-quiet (terms_at t c until l k.port) k (judged_at t c until frames l k.side k.port)).1
      (found k.side place k.port l is))

  -- ---- where there is no line

  no-unsure : (z : Terms) (k : Key) (marks : List Marked) → 0 < length marks → unsure_dues z k marks ≡ [] → ⊥
  no-unsure z k [] lt e = omega (arith, lt)
  no-unsure z k (m ∷ more) lt e = cc

  no-lines : (z : Terms) (k : Key) (j : Judged) → (j.is_unsure ≡ true → 0 < length j.arrivals) → judged_dues z k j ≡ []
      → j.is_unsure ≡ false
  unfolding judged_dues
  no-lines z k j behind e = by j.is_unsure refl e
    where
      left : (xs ys : List Due) → xs ++ ys ≡ [] → xs ≡ []
      left [] ys h = refl
      left (x ∷ xs) ys h = absurd (cc)

      by : (b : Bool) → j.is_unsure ≡ b
          → (if b then unsure_dues z k (reverse j.arrivals) else []) ++ map (found_due z k) j.findings ≡ []
          → j.is_unsure ≡ false
      by true is h =
          let some = behind is in
          let n = length-reverse j.arrivals in
          absurd (no-unsure z k (reverse j.arrivals) (omega (arith, some, n))
          (left (unsure_dues z k (reverse j.arrivals)) (map (found_due z k) j.findings) h))
      by false is h = is

  pub sure-of-none : lines ≡ [] → (side : Side) (place port : ℕ) (l : LinkRow) → judged_to t c.sight side place port
      ≡ Some l
      → (judged_at t c until frames l side port).is_unsure ≡ false
  sure-of-none e side place port l is =
      no-lines (terms_at t c until l port) (key_with side port (Some place)) (judged_at t c until frames l side port)
      (λ u. behind_one (terms_at t c until l port) _ _ u)
      (sym (stream-lines side place port l is) ∙ ap (λ (l : List Due). of_key (key_with side port (Some place)) l) e)

  none-at-all : (ls : List Due) → AllByRecursion (λ d. ⊥) ls → ls ≡ []
  none-at-all [] h = refl
  none-at-all (d ∷ ls) h = absurd h.0

  quiet-dues : (z : Terms) (k : Key) (j : Judged) → j.is_unsure ≡ false → j.findings ≡ [] → judged_dues z k j ≡ []
  unfolding judged_dues
  quiet-dues z k j sure none =
      ap (λ (b : Bool). (if b then unsure_dues z k (reverse j.arrivals) else []) ++ map (found_due z k) j.findings) sure
      ∙ ap (λ (l : List Found). map (found_due z k) l) none

  pub none-of-sure : NoneIsStrange t c until frames → NoneIsFound
      → AreAll t c until frames (λ l side port. (judged_at t c until frames l side port).is_unsure ≡ false) → lines ≡ []
  none-of-sure strange found sure = none-at-all lines (of-all (λ d. ⊥)
      (λ k small. subst (λ (l : List Arrival). AllByRecursion (λ d. ⊥) (map (stranger_due t k) l))
      (sym (strange k.side k.port small)) tt)
      (λ k place l is. subst (λ (l : List Due). AllByRecursion (λ d. ⊥) l)
      (sym (quiet-dues (terms_at t c until l k.port) k (judged_at t c until frames l k.side k.port)
      (sure k.side place k.port l is) (found k.side place k.port l is))) tt))
