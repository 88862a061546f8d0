-- What a run over a switch and the systems that send to it has told.
use Rattle.std.proofs.Common.{◌≡◌, ℕ, ◌<◌, ◌≤◌, Bool, true, false, List, [], ◌∷◌, ◌++◌, length, reverse, refl, sym, ap, ◌∙◌, subst, arith}
use Rattle.std.proofs.KnownBytes.{Appends-trans}
use Rattle.std.proofs.lemmas.Bool.{ltb-false, ltb-true}
use Rattle.std.proofs.lemmas.List.Elements.{recursion_from_All}
use Rattle.std.specs.Io.KnownBytes.{Appends}
use Rattle.std.specs.List.{AllByRecursion}
use Rattle.std.specs.Prelude.{Option, Some, None, cond, filter, nat_lt}
use Rattle.afdx_config.specs.Rows.{Rows}
use Rattle.afdx_input_lines.specs.Calls.{AppendsFront}
use Rattle.afdx_input_runs.specs.Joining.{Frame}
use Rattle.afdx_police.specs.Arrival.{Arrival}
use Rattle.afdx_senders.specs.History.{HaveTold, IsNoSooner}
use Rattle.afdx_senders.specs.Lines.{Line}
use Rattle.afdx_senders.specs.Setups.{Setup}
use Rattle.afdx_senders.specs.Telling as line
use Rattle.afdx_senders.specs.Telling.{AreToldBefore, AreToldEarly, IsEarly, IsEndSince}
use Rattle.afdx_senders.specs.declared.senders.Senders.{Senders}
use Rattle.afdx_text.proofs.OutputLemmas.{front-more}
use Rattle.afdx_text.specs.declared.conform_line.ConformLine.{ConformLine}
use Rattle.afdx_command_conform.proofs.OfKeyLemmas.{of-each-key}
use Rattle.afdx_command_conform.proofs.OneAnswerLemmas.{AreRanged, IsRanged}
use Rattle.afdx_command_conform.proofs.TellingLemmas.{text-append}
use Rattle.afdx_command_conform.specs.Beginning.{AreLinesBefore, IsEndFrom}
use Rattle.afdx_command_conform.specs.Choices.{Choices, latest_of, until_or}
use Rattle.afdx_command_conform.specs.Lines as due
use Rattle.afdx_command_conform.specs.Lines.{dues_of, of_key}
use Rattle.afdx_command_conform.specs.Lines.{Due}
use Rattle.afdx_command_conform.specs.Telling.{lines_text}
use Rattle.afdx_command_conform.specs.Told.{IsEndFor, MayEnd, Stands}
use Rattle.afdx_command_conform.specs.declared.judging.JudgingRun.{JudgingRun}
use Rattle.afdx_command_conform.specs.declared.key.Key.{Key}
use Rattle.afdx_command_senders.specs.BothRun.{AreWritten}
use Rattle.afdx_command_senders.specs.BothTold.{AreJoined, Told, both_lines, last_rank}
use Rattle.afdx_command_senders.specs.Merging.{lines_up, merged}
use Rattle.afdx_command_senders.proofs.LateLemmas.{late-lines, ranged-early}
use Rattle.afdx_command_senders.proofs.MergeLemmas.{join-more, lines-both}
use Rattle.afdx_command_senders.proofs.RankLemmas.{IsNewDue, IsNewLine, IsOldDue, IsOldLine, dues-up, joined-below, lines-up}
use Rattle.afdx_command_senders.proofs.UpLemmas.{all-first, all-turned}

-- ---- ends that may come

pub from-since : (said : Option ℕ) (time until : ℕ) → IsEndSince said time until → IsEndFrom said time until
from-since None time until h = h
from-since (Some end) time until h = h

pub since-end : (said : Option ℕ) (frames : List Frame) → IsEndSince said (latest_of frames) (until_or said frames)
since-end None frames = omega arith
since-end (Some end) frames = refl

some-end-for : (said : Option ℕ) (frames : List Frame) → (until : ℕ) × IsEndFor said frames until
some-end-for None frames = (latest_of frames, omega arith)
some-end-for (Some end) frames = (end, refl)

some-may : (said : Option ℕ) (frames : List Frame) (ended : Option ℕ) → (until : ℕ) × MayEnd said frames ended until
some-may said frames None = some-end-for said frames
some-may said frames (Some end) = (end, refl)

-- the tables of a switch that is judged are lawful
pub few-links : (k : Rows × Choices) (last : Bool) (time : ℕ) (j : JudgingRun) (frames : List Frame) (dues : List Due)
    → Stands k last time j frames dues → length k.0.links < 0x100000000
few-links k last time j frames dues stands =
    let some = some-may k.1.until frames j.streams.ended in
    let count = (stands.all some.0 some.1).streams.lawful.links.count in
    omega (arith, count)

-- ---- of each of two lists

all-and : {X : Type 0} (P Q R : X → Type 0) → ((x : X) → P x → Q x → R x) → (xs : List X) → AllByRecursion P xs
    → AllByRecursion Q xs → AllByRecursion R xs
all-and P Q R f [] h k = tt
all-and P Q R f (x ∷ xs) h k = (f x h.0 k.0, all-and P Q R f xs h.1 k.1)

all-so : {X : Type 0} (P R : X → Type 0) → ((x : X) → P x → R x) → (xs : List X) → AllByRecursion P xs
    → AllByRecursion R xs
all-so P R f [] h = tt
all-so P R f (x ∷ xs) h = (f x h.0, all-so P R f xs h.1)

all-passed : {X : Type 0} (p : X → Bool) (xs : List X) → AllByRecursion (λ x. p x ≡ true) (filter p xs)
all-passed p [] = tt
all-passed {X} p (x ∷ xs) = by (p x) refl (all-passed p xs)
  where
    by : (b : Bool) → p x ≡ b → AllByRecursion (λ y. p y ≡ true) (filter p xs)
        → AllByRecursion (λ y. p y ≡ true) (cond b (x ∷ filter p xs) (filter p xs))
    by true e h = (e, h)
    by false e h = h

-- ---- what was told

pub old-lines : (z : Setup) (time : ℕ) (xs : List Arrival) (told : List Line) (senders : Senders)
    → HaveTold z (Some time) xs told senders → AllByRecursion (IsOldLine time) told
old-lines z time xs told senders h =
    all-so (IsEarly (Some time)) (IsOldLine time)
    (λ x early. record { port = early.numbers.port; soon = ltb-true x.moment time early.sooner }) told
    (recursion_from_All (IsEarly (Some time)) told h.lines.early)

module _ (t : Rows) (c : Choices) (until : ℕ) (frames : List Frame) (few : length t.links < 0x100000000) (time : ℕ)
    (dues : List Due) (are : AreLinesBefore t c until frames time dues) where
  old-moments : AllByRecursion (λ d. d.moment < time) dues
  old-moments = of-each-key (λ d. d.moment < time) dues (λ k. by k (nat_lt k.port 256) refl)
    where
      by : (k : Key) (b : Bool) → nat_lt k.port 256 ≡ b → AllByRecursion (λ d. d.moment < time) (of_key k dues)
      by k true e =
          subst (λ (l : List Due). AllByRecursion (λ d. d.moment < time) l) (sym (are.own k (ltb-true k.port 256 e)))
          (all-so (λ d. nat_lt d.moment time ≡ true) (λ d. d.moment < time) (λ d so. ltb-true d.moment time so)
          (filter (λ d. nat_lt d.moment time) (dues_of t c until frames k))
          (all-passed (λ d. nat_lt d.moment time) (dues_of t c until frames k)))
      by k false e =
          subst (λ (l : List Due). AllByRecursion (λ d. d.moment < time) l)
          (sym (are.only k (ltb-false k.port 256 e))) tt

  pub old-dues : AllByRecursion (IsOldDue time) dues
  old-dues = all-and (λ d. IsRanged d.key) (λ d. d.moment < time) (IsOldDue time)
      (λ d ranged soon. record { ranged = ranged; soon = soon }) dues
      (ranged-early t c until frames few time dues are) old-moments

-- ---- what is told newly

module _ (z : Setup) (time : ℕ) (before : Option ℕ) (xs : List Arrival) (told : List Line) (lines : List Line)
    (senders : Senders) (sooner : IsNoSooner (Some time) before) (old : AreToldBefore z (Some time) xs told)
    (have : HaveTold z before xs (reverse lines ++ told) senders)
    (new : AreToldBefore z before xs (reverse lines ++ told)) where
  pub new-lines : AllByRecursion (IsNewLine time) lines
  new-lines = all-turned (IsNewLine time) lines
      (all-and (IsEarly before) (λ x. time ≤ x.moment) (IsNewLine time)
      (λ x early late. record { port = early.numbers.port; line = early.numbers.line; late = late }) (reverse lines)
      (all-first (IsEarly before) (reverse lines) told
      (recursion_from_All (IsEarly before) (reverse lines ++ told) have.lines.early))
      (late-lines z time before xs told (reverse lines) sooner old new))

pub new-dues : (time : ℕ) (ds dues : List Due) → AreRanged (reverse ds ++ dues)
    → AllByRecursion (λ d. time ≤ d.moment) (reverse ds) → AllByRecursion (IsNewDue time) ds
new-dues time ds dues ranged late = all-turned (IsNewDue time) ds
    (all-and (λ d. IsRanged d.key) (λ d. time ≤ d.moment) (IsNewDue time)
    (λ d r l. record { ranged = r; late = l }) (reverse ds)
    (all-first (λ d. IsRanged d.key) (reverse ds) dues ranged) late)

-- ---- both

module _ (start mid : Option (List ℕ)) (told : List Line) (dues : List Due) (xs : List Line) (ds : List Due)
    (h : AreWritten start mid told dues) where
  abbrev both-told : List Told
  both-told = reverse (merged xs ds) ++ h.all

  text-both : lines_text (both_lines both-told) ≡ lines_text (both_lines h.all) ++ lines_text (lines_up (merged xs ds))
  text-both =
      ap (λ (l : List ConformLine). lines_text l) (lines-both (merged xs ds) h.all)
      ∙ text-append (both_lines h.all) (lines_up (merged xs ds))

  pub both-joined : (time : ℕ) → AllByRecursion (IsOldLine time) told → AllByRecursion (IsOldDue time) dues
      → AllByRecursion (IsNewLine time) xs → AllByRecursion (IsNewDue time) ds
      → line.AreInOrder (reverse xs ++ told) → due.AreInOrder (reverse ds ++ dues)
      → AreJoined (reverse xs ++ told) (reverse ds ++ dues) both-told
  both-joined time old-line old-due new-line new-due lines-go dues-go =
      let low = joined-below time h.all
      (subst (λ (l : List Line). AllByRecursion (IsOldLine time) l) (sym h.joined.senders) old-line)
      (subst (λ (l : List Due). AllByRecursion (IsOldDue time) l) (sym h.joined.switch) old-due) in
      join-more told dues h.all xs ds h.joined
      (lines-up time (last_rank h.all) xs told low new-line lines-go)
      (dues-up time (last_rank h.all) ds dues low new-due dues-go)

  module _ (end : Option (List ℕ)) where
    pub both-written : AreJoined (reverse xs ++ told) (reverse ds ++ dues) both-told
        → Appends mid end (lines_text (lines_up (merged xs ds)))
        → AreWritten start end (reverse xs ++ told) (reverse ds ++ dues)
    both-written joined put = record {
      all = both-told;
      joined = joined;
      written = subst (λ (l : List ℕ). Appends start end l) (sym text-both)
          (Appends-trans start mid end (lines_text (both_lines h.all)) (lines_text (lines_up (merged xs ds))) h.written
          put);
    }

    pub both-front : AppendsFront mid end (lines_text (lines_up (merged xs ds)))
        → AppendsFront start end (lines_text (both_lines both-told))
    both-front put = subst (λ (l : List ℕ). AppendsFront start end l) (sym text-both)
        (front-more start mid end (lines_text (both_lines h.all)) (lines_text (lines_up (merged xs ds))) h.written put)
