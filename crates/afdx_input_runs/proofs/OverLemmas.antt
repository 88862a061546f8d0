-- What a run over recordings answers, by what is known of their source.
use Rattle.std.proofs.Common.{◌≡◌, List, inl, inr, Option, Some, Result, Ok, Err, IfSome, ap, sym, subst, ◌∙◌}
use Rattle.afdx_input_lines.specs.declared.fault.RunFault.{RunFault}
use Rattle.afdx_input_lines.specs.declared.frame_line.Heading.{Heading}
use Rattle.afdx_input_sources.specs.Engine.{Item, Runs}
use Rattle.afdx_text.specs.Sinks.{IsOfOutput}
use Rattle.afdx_input_sources.specs.declared.counts.Tally.{Tally}
use Rattle.afdx_input_runs.specs.ListText.{lines_themselves}
use Rattle.afdx_input_sources.specs.NumberLines.{AreItems, CanBePeeled, Lines, arrivals_listed}
use Rattle.afdx_input_runs.specs.Over.{AreAllLines, AreFirstLines, StopsBehindLines, Takes}
use Rattle.afdx_input_sources.specs.Taking.{Taken}
use Rattle.afdx_input_runs.specs.TakenRun.{TakenAnswers}
use Rattle.afdx_input_runs.proofs.ArrivalsLemmas.{if-known}
use Rattle.afdx_input_runs.proofs.TakenLemmas.{hands-err, hands-ok}

module _ {H : Type 0} (gave ended : List (Item H) → Type 0) (stopped : List (Item H) → RunFault → Type 0)
    (done told begins : List (Item H) → Type 0) where
  abbrev HandsTo : Result (Unit {0}) RunFault → Type 0
  HandsTo r = Runs gave ended done told begins stopped r

  -- what holds in each case of a fault
  pub over-err : (P : Type 0) (fault : RunFault) → ((past : List (Item H)) → stopped past fault → P)
      → (IsOfOutput fault → (past : List (Item H)) → gave past → P)
      → (IsOfOutput fault → (past : List (Item H)) → ended past → P) → HandsTo (Err fault) → P
  over-err P fault f g h (past, inl (s, t)) = f past s
  over-err P fault f g h (past, inr (is, inl a, b)) = g is past a
  over-err P fault f g h (past, inr (is, inr a, b)) = h is past a

  -- what is answered by the settings that the source has at last, is so by those that it had first
  module _ (items_of : Lines → List (Item H)) {W B : Type 0} (known : Option B) (whole : W → B → Taken)
      (cut : W → B → Lines → Type 0) (IsSet : W → Type 0) (first last : W) (same : last ≡ first) (set : IsSet first)
      (counted : Tally)
      (takes : (bytes : B) → known ≡ Some bytes → IsSet last
      → Takes items_of (whole last bytes) (cut last bytes) gave ended stopped counted) where
    abbrev Answered : Result Tally RunFault → W → Type 0
    Answered r w = IfSome known (λ bytes. TakenAnswers (whole w bytes) (cut w bytes) items_of done told begins r)

    by-first : (r : Result Tally RunFault)
        → ((bytes : B) → Takes items_of (whole last bytes) (cut last bytes) gave ended stopped counted
        → TakenAnswers (whole last bytes) (cut last bytes) items_of done told begins r) → Answered r first
    by-first r f =
        subst (Answered r) same (if-known known
        (λ bytes. TakenAnswers (whole last bytes) (cut last bytes) items_of done told begins r)
        (λ bytes e. f bytes (takes bytes e (subst IsSet (sym same) set))))

    pub err-answers : CanBePeeled items_of → (fault : RunFault) → HandsTo (Err fault) → Answered (Err fault) first
    err-answers peel fault hands =
        by-first (Err fault) (λ bytes t. hands-err (whole last bytes)
        (cut last bytes) items_of done told begins gave ended
        stopped counted t peel fault hands)

    pub ok-answers : (tally : Tally) → tally ≡ counted → HandsTo (Ok tt) → Answered (Ok tally) first
    ok-answers tally is hands =
        by-first (Ok tally) (λ bytes t. hands-ok (whole last bytes)
        (cut last bytes) items_of done told begins gave ended
        stopped counted t tally is hands)

-- what is taken of lines, is so of their arrivals
pub arrivals-taken : (whole : Taken) (AreCut : Lines → Type 0) (gave ended : Lines → Type 0)
    (stopped : Lines → RunFault → Type 0) (counted : Tally)
    → Takes lines_themselves whole AreCut gave ended stopped counted
    → Takes arrivals_listed whole AreCut (AreItems arrivals_listed gave) (AreItems arrivals_listed ended)
    (λ past fault. AreItems arrivals_listed (λ lines. stopped lines fault) past) counted
arrivals-taken whole AreCut gave ended stopped counted t = record {
  first = λ past k. of-lines (AreFirstLines whole) past k.lines (t.first k.lines k.known_so) k.items_are;
  all = λ past k. of-lines (AreAllLines whole) past k.lines (t.all k.lines k.known_so) k.items_are;
  tally = λ past k. t.tally k.lines k.known_so;
  stops = λ past fault k. of-lines (λ lines. StopsBehindLines whole AreCut lines fault) past k.lines
      (t.stops k.lines fault k.known_so) k.items_are;
}
  where
    of-lines : (known : Lines → Type 0) (past : List (Item Heading)) (lines : Lines)
        → AreItems lines_themselves known lines
        → past ≡ arrivals_listed lines → AreItems arrivals_listed known past
    of-lines known past lines k e = record {
      lines = k.lines;
      known_so = k.known_so;
      items_are = e ∙ ap arrivals_listed k.items_are;
    }
