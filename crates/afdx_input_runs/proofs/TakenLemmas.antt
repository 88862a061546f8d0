-- What a run answers that takes all of some lines, whatever is told of them.
use Rattle.std.proofs.Common.{◌≡◌, ℕ, List, [], ◌∷◌, ◌++◌, append_assoc, append-nil, refl, ap, sym, ◌∙◌, subst}
use Rattle.std.proofs.Common.{Result, Ok, Err, ◌⊎◌, inl, inr}
use Rattle.afdx_input_lines.specs.declared.frame_line.Heading.{Heading}
use Rattle.afdx_input_lines.specs.declared.fault.RunFault.{RunFault}
use Rattle.afdx_input_lines.specs.declared.fault.RunFault.TheVariants as run
use Rattle.afdx_police.specs.Arrival.{Arrival}
use Rattle.afdx_input_sources.specs.Causes.{Cause, cause_of, FailedRead, FailedWrite, NoMemory, BadInput}
use Rattle.afdx_input_sources.specs.Engine.{Item, Runs, without_newest}
use Rattle.afdx_input_sources.specs.Items.{arrivals, thing_of}
use Rattle.afdx_input_sources.specs.Listed.{frames}
use Rattle.afdx_input_lines.specs.FrameLines.{listed_frame}
use Rattle.afdx_text.specs.Sinks.{IsOfOutput}
use Rattle.afdx_input_sources.specs.declared.counts.Tally.{Tally}
use Rattle.afdx_input_sources.specs.declared.number_line.NumberLine.{NumberLine}
use Rattle.afdx_input_sources.specs.declared.number_line.NumberLine.TheVariants as line
use Rattle.afdx_input_runs.specs.ListText.{lines_themselves}
use Rattle.afdx_input_runs.specs.Over.{AreFirstLines, AreAllLines, StopsBehindAs, StopsBehindLines, Takes}
use Rattle.afdx_input_sources.specs.NumberLines.{AreItems, CanBePeeled, Lines, WithoutNewest, arrivals_listed, as_arrival}
use Rattle.afdx_input_sources.specs.Taking.{Taken, arrivals_in}
use Rattle.afdx_input_runs.specs.TakenRun.{TakenAnswers, TakenStops, FirstAreBegun}

-- ---- without the newest item

pub lines-peeled : CanBePeeled lines_themselves
lines-peeled [] = record { before = []; after = []; parts = refl; items_are = refl }
lines-peeled (x ∷ lines) = record { before = lines; after = x ∷ []; parts = refl; items_are = refl }

pub arrivals-peeled : CanBePeeled arrivals_listed
unfolding arrivals_listed
arrivals-peeled [] = record { before = []; after = []; parts = refl; items_are = refl }
arrivals-peeled (x ∷ lines) = by x x.head refl (arrivals-peeled lines)
  where
    by : (x : Item NumberLine) (head : NumberLine) → x.head ≡ head → WithoutNewest arrivals_listed lines
        → WithoutNewest arrivals_listed (x ∷ lines)
    by x (line.Arrival kind time role side switch port) e w = record {
      before = lines;
      after = x ∷ [];
      parts = refl;
      items_are = rw e refl;
    }
    by x (line.Skipped reason) e w = record {
      before = w.before;
      after = x ∷ w.after;
      parts = ap (λ (xs : Lines). x ∷ xs) w.parts;
      items_are = rw e w.items_are;
    }

module _ {H : Type 0} (whole : Taken) (AreCut : Lines → Type 0) (items_of : Lines → List (Item H))
    (done told begins : List (Item H) → Type 0) where
  abbrev Answers : Result Tally RunFault → Type 0
  Answers result = TakenAnswers whole AreCut items_of done told begins result

  abbrev Begun : Type 0
  Begun = FirstAreBegun whole AreCut items_of done told begins

  -- the source stopped
  stop-by : (lines : Lines) (fault : RunFault) (cause : Cause) → StopsBehindAs whole AreCut lines fault cause
      → told (items_of lines) → TakenStops whole AreCut items_of done told begins fault cause
  stop-by lines fault FailedRead s t = (lines, s, t)
  stop-by lines fault FailedWrite s t = absurd s
  stop-by lines fault NoMemory s t = record { past = lines; later = s.0; parts = s.1; begun = inl t }
  stop-by lines fault BadInput s t = (s.0, subst (λ (xs : Lines). told (items_of xs)) (sym s.1) t)

  pub taken-stop : (lines : Lines) (fault : RunFault) → StopsBehindLines whole AreCut lines fault
      → told (items_of lines) → Answers (Err fault)
  taken-stop lines fault s t = stop-by lines fault (cause_of fault) s t

  -- the output failed, or the machine had no memory
  pub taken-begun : CanBePeeled items_of → (lines : Lines) → AreFirstLines whole lines
      → begins (items_of lines) ⊎ begins (without_newest (items_of lines)) → Begun
  taken-begun peel lines (later, e) (inl b) = record { past = lines; later = later; parts = e; begun = inr b }
  taken-begun peel lines (later, e) (inr b) =
      let w = peel lines in record {
        past = w.before;
        later = later ++ w.after;
        parts = e ∙ ap (λ (xs : Lines). later ++ xs) w.parts ∙ sym (append_assoc later w.after w.before);
        begun = inr (subst begins (sym w.items_are) b);
      }

  pub taken-output : (fault : RunFault) → IsOfOutput fault → Begun → Answers (Err fault)
  taken-output fault (inl e) h = rw e h
  taken-output fault (inr e) h = rw e h

  -- all was told
  pub taken-done : (lines : Lines) (tally : Tally) → AreAllLines whole lines → done (items_of lines)
      → tally ≡ whole.tally → Answers (Ok tally)
  taken-done lines tally a d is = record {
    over = a.over;
    are_told = subst (λ (xs : Lines). done (items_of xs)) (sym a.lines_are) d;
    tally_is = is;
  }

  -- memory ran out before anything was read
  pub taken-start : items_of [] ≡ [] → told [] → Answers (Err run.Memory)
  taken-start e t = record {
    past = [];
    later = whole.lines;
    parts = sym (append-nil whole.lines);
    begun = inl (subst told (sym e) t);
  }

  -- ---- from what a run hands over

  module _ (gave ended : List (Item H) → Type 0) (stopped : List (Item H) → RunFault → Type 0) (counted : Tally)
      (takes : Takes items_of whole AreCut gave ended stopped counted) where
    abbrev Hands : Result (Unit {0}) RunFault → Type 0
    Hands result = Runs gave ended done told begins stopped result

    begun-first : CanBePeeled items_of → (known : Lines → Type 0)
        → ((lines : Lines) → known lines → AreFirstLines whole lines)
        → (past : List (Item H)) → AreItems items_of known past → begins past ⊎ begins (without_newest past) → Begun
    begun-first peel known f past a b =
        taken-begun peel a.lines (f a.lines a.known_so)
        (subst (λ (xs : List (Item H)). begins xs ⊎ begins (without_newest xs)) a.items_are b)

    pub hands-err : CanBePeeled items_of → (fault : RunFault) → Hands (Err fault) → Answers (Err fault)
    hands-err peel fault (past, inl (s, t)) =
        let k = takes.stops past fault s in taken-stop k.lines fault k.known_so (subst told k.items_are t)
    hands-err peel fault (past, inr (is, inl a, b)) =
        taken-output fault is (begun-first peel (AreFirstLines whole) (λ lines k. k) past (takes.first past a) b)
    hands-err peel fault (past, inr (is, inr a, b)) =
        taken-output fault is (begun-first peel (AreAllLines whole)
        (λ lines k. ([], k.lines_are)) past (takes.all past a) b)

    pub hands-ok : (tally : Tally) → tally ≡ counted → Hands (Ok tt) → Answers (Ok tally)
    hands-ok tally is (past, a, d) =
        let all = takes.all past a in
        taken-done all.lines tally all.known_so (subst done all.items_are d) (is ∙ takes.tally past a)

-- ---- what that says of the arrivals

arrivals-append : (later past : List (Item Heading)) → arrivals (later ++ past) ≡ arrivals later ++ arrivals past
arrivals-append [] past = refl
arrivals-append (x ∷ later) past =
    ap (λ (xs : List Arrival). thing_of frames listed_frame x ∷ xs) (arrivals-append later past)

listed-append : (later past : Lines) → arrivals_listed (later ++ past) ≡ arrivals_listed later ++ arrivals_listed past
unfolding arrivals_listed
listed-append [] past = refl
listed-append (x ∷ later) past =
    ap (λ (xs : List (Item Heading)). as_arrival x.number x.bytes x.head xs) (listed-append later past)
    ∙ by x.number x.bytes x.head (arrivals_listed later) (arrivals_listed past)
  where
    by : (n : ℕ) (bytes : List ℕ) (head : NumberLine) (xs ys : List (Item Heading))
        → as_arrival n bytes head (xs ++ ys) ≡ as_arrival n bytes head xs ++ ys
    by n bytes (line.Arrival kind time role side switch port) xs ys = refl
    by n bytes (line.Skipped reason) xs ys = refl

-- what some first lines stand for are the first of the arrivals
pub first-arrivals : (whole : Taken) (later past : Lines) → whole.lines ≡ later ++ past
    → arrivals_in whole ≡ arrivals (arrivals_listed later) ++ arrivals (arrivals_listed past)
first-arrivals whole later past parts =
    ap (λ (xs : Lines). arrivals (arrivals_listed xs)) parts
    ∙ ap arrivals (listed-append later past)
    ∙ arrivals-append (arrivals_listed later) (arrivals_listed past)

-- ---- the same of another whole

-- what is answered of one whole is so of an equal one, and cut off so too
pub answers-same : {H : Type 0} (a b : Taken) (AreCut AreCut' : Lines → Type 0) (items_of : Lines → List (Item H))
    (done told begins : List (Item H) → Type 0) (r : Result Tally RunFault) → a ≡ b
    → ((lines : Lines) → AreCut lines → AreCut' lines)
    → TakenAnswers a AreCut items_of done told begins r → TakenAnswers b AreCut' items_of done told begins r
answers-same a b AreCut AreCut' items_of done told begins r e f h =
    subst (λ (w : Taken). TakenAnswers w AreCut' items_of done told begins r) e (by r h)
  where
    some : FirstAreBegun a AreCut items_of done told begins → FirstAreBegun a AreCut' items_of done told begins
    some s = record { past = s.past; later = s.later; parts = s.parts; begun = s.begun }

    by-cause : (fault : RunFault) (cause : Cause) → TakenStops a AreCut items_of done told begins fault cause
        → TakenStops a AreCut' items_of done told begins fault cause
    by-cause fault FailedRead h = (h.0, f h.0 h.1, h.2)
    by-cause fault FailedWrite h = some h
    by-cause fault NoMemory h = some h
    by-cause fault BadInput h = h

    by : (r : Result Tally RunFault) → TakenAnswers a AreCut items_of done told begins r
        → TakenAnswers a AreCut' items_of done told begins r
    by (Ok tally) h = record { over = h.over; are_told = h.are_told; tally_is = h.tally_is }
    by (Err fault) h = by-cause fault (cause_of fault) h
