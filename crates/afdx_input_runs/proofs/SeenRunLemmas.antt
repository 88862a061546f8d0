-- What a run over recordings of both roles hands over, by what is known of their source.
use Rattle.std.proofs.Common.{◌≡◌, ℕ, List, [], refl, ap, sym, ◌∙◌, subst}
use Rattle.std.proofs.Common.{Option, Some, None, Result, Ok, Err, IfSome}
use Rattle.afdx_input_lines.specs.Calls.{is_read, is_write}
use Rattle.afdx_input_lines.specs.Faults.{fault_by_role}
use Rattle.afdx_input_lines.specs.declared.fault.RunFault.{RunFault}
use Rattle.afdx_input_lines.specs.declared.fault.RunFault.TheVariants as run
use Rattle.afdx_input_lines.specs.declared.one_of_two.OneOfTwo.TheVariants as two
use Rattle.afdx_input_lines.specs.declared.one_of_two.Which.TheVariants as which
use Rattle.afdx_input_lines.specs.declared.role.ByRole.{ByRole}
use Rattle.afdx_input_lines.specs.declared.watched.Watched.{Watched}
use Rattle.afdx_input_sources.specs.Causes.{cause_of}
use Rattle.afdx_input_sources.specs.Engine.{Item}
use Rattle.afdx_input_sources.specs.Claims.{Ports}
use Rattle.afdx_input_sources.specs.NumberLines.{Lines}
use Rattle.afdx_input_sources.specs.OrderedRecording.{HasTaken, HasTakenAll, OrderedRecording, number_taken, tally_of_source}
use Rattle.afdx_input_sources.specs.Ordering.{Sequence}
use Rattle.afdx_input_sources.specs.MergedSource.{inputs_by_role, taken_of}
use Rattle.afdx_input_sources.specs.declared.merged.Nth.TheVariants.{First, Second}
use Rattle.afdx_input_sources.specs.TimedPairSource.{HasPairedAll}
use Rattle.afdx_input_sources.specs.declared.becoming.RecordingOptions.{RecordingOptions}
use Rattle.afdx_input_sources.specs.declared.counts.Tally.{Tally}
use Rattle.afdx_input_sources.specs.declared.timed_pair.TimedPair.{TimedPair}
use Rattle.afdx_input_sources.proofs.OrderedKnownLemmas.{ended-all}
use Rattle.afdx_input_runs.specs.Over.{CutOfTwo, IsSetTwo, Set, both, of_set, way_of_two, whole_of_two}
use Rattle.afdx_input_runs.specs.ReadPair.{IsNewByRole}
use Rattle.afdx_input_runs.specs.SeenLines.{seen_listed}
use Rattle.afdx_input_runs.specs.SeenRun.{AreCutOffByRole, RolesAnswer, options_of_came, options_of_left, taken_unnamed}
use Rattle.afdx_input_runs.specs.SeenRun.{UnnamedAnswer, tallies_by_role}
use Rattle.afdx_input_runs.specs.TakenRun.{TakenAnswers}
use Rattle.afdx_input_runs.specs.declared.seen.Seen.{Seen}
use Rattle.afdx_input_runs.proofs.PairAnswerLemmas.{both-a, both-b, same-a, same-b, two-answers}
use Rattle.afdx_input_runs.proofs.SeeingLemmas.{seen-none}
use Rattle.afdx_input_runs.proofs.TakenLemmas.{taken-start}

-- ---- a fault that is named by its role is of the same kind

pub by-role-cause : (fault : RunFault) → cause_of (fault_by_role fault) ≡ cause_of fault
by-role-cause run.Read = refl
by-role-cause run.Write = refl
by-role-cause run.Memory = refl
by-role-cause run.TooManyLines = refl
by-role-cause (run.LineTooLong m) = refl
by-role-cause (run.BadLine m) = refl
by-role-cause (run.BadHex m) = refl
by-role-cause (run.TimeBack m) = refl
by-role-cause (run.TimeTooLarge m) = refl
by-role-cause (run.BadPort m) = refl
by-role-cause (run.Recording m) = refl
by-role-cause (run.Of (two.Recording which.A m)) = refl
by-role-cause (run.Of (two.Recording which.B m)) = refl
by-role-cause (run.Of (two.Recording which.Came m)) = refl
by-role-cause (run.Of (two.Recording which.Left m)) = refl
by-role-cause (run.Of (two.List one m)) = refl

pub by-role-read : (fault : RunFault) → is_read (fault_by_role fault) ≡ is_read fault
by-role-read run.Read = refl
by-role-read run.Write = refl
by-role-read run.Memory = refl
by-role-read run.TooManyLines = refl
by-role-read (run.LineTooLong m) = refl
by-role-read (run.BadLine m) = refl
by-role-read (run.BadHex m) = refl
by-role-read (run.TimeBack m) = refl
by-role-read (run.TimeTooLarge m) = refl
by-role-read (run.BadPort m) = refl
by-role-read (run.Recording m) = refl
by-role-read (run.Of (two.Recording which.A m)) = refl
by-role-read (run.Of (two.Recording which.B m)) = refl
by-role-read (run.Of (two.Recording which.Came m)) = refl
by-role-read (run.Of (two.Recording which.Left m)) = refl
by-role-read (run.Of (two.List one m)) = refl

pub by-role-write : (fault : RunFault) → is_write (fault_by_role fault) ≡ is_write fault
by-role-write run.Read = refl
by-role-write run.Write = refl
by-role-write run.Memory = refl
by-role-write run.TooManyLines = refl
by-role-write (run.LineTooLong m) = refl
by-role-write (run.BadLine m) = refl
by-role-write (run.BadHex m) = refl
by-role-write (run.TimeBack m) = refl
by-role-write (run.TimeTooLarge m) = refl
by-role-write (run.BadPort m) = refl
by-role-write (run.Recording m) = refl
by-role-write (run.Of (two.Recording which.A m)) = refl
by-role-write (run.Of (two.Recording which.B m)) = refl
by-role-write (run.Of (two.Recording which.Came m)) = refl
by-role-write (run.Of (two.Recording which.Left m)) = refl
by-role-write (run.Of (two.List one m)) = refl

-- ---- where the bytes are known

pub if-known-more : {B : Type 0} (known : Option B) (P Q : B → Type 0)
    → ((bytes : B) → known ≡ Some bytes → P bytes → Q bytes) → IfSome known P → IfSome known Q
if-known-more None P Q f h = tt
if-known-more (Some bytes) P Q f h = f bytes refl h

both-same : (a b c d : Tally) → a ≡ c → b ≡ d
    → ◌≡◌ {A = ByRole Tally} (record { came = a; left = b }) (record { came = c; left = d })
both-same a b c d e f = rw (e, f) refl

-- ---- what both counted at their end

module _ (options : ByRole RecordingOptions) (ports : Ports) (first last : TimedPair OrderedRecording)
    (new : IsNewByRole options ports first) (same : way_of_two last ≡ way_of_two first) where
  set : IsSetTwo (way_of_two last)
  set = subst IsSetTwo (sym same) (record { order_a = new.order_a; order_b = new.order_b })

  sequence-came : (bytes : List ℕ) → of_set (way_of_two last).0 bytes
      ≡ of_set (way_of_two first).0 bytes
  sequence-came bytes = ap (λ (w : Set × Set × Option ℕ). of_set w.0 bytes) same

  sequence-left : (bytes : List ℕ) → of_set (way_of_two last).1 bytes
      ≡ of_set (way_of_two first).1 bytes
  sequence-left bytes = ap (λ (w : Set × Set × Option ℕ). of_set w.1 bytes) same

  pub both-tallies : {R : Type 0} (remaining : R → Option (List ℕ)) (start inputs : ByRole (Watched R)) (lines :
      Lines)
      → HasPairedAll number_taken (HasTaken remaining) (HasTakenAll remaining) (inputs_by_role start) last
      (inputs_by_role inputs) lines
      → (came left : List ℕ) → remaining start.came.inner ≡ Some came → remaining start.left.inner ≡ Some left
      → (tally_of_source last.pair.first.source ≡ (tallies_by_role options ports came left).came)
      × (tally_of_source last.pair.second.source ≡ (tallies_by_role options ports came left).left)
  both-tallies remaining start inputs lines h came left known-came known-left =
      let a = ended-all remaining start.came inputs.came last.pair.first.source set.order_a (taken_of First h.past)
      came
      known-came h.is_paired.first in
      let b = ended-all remaining start.left inputs.left last.pair.second.source set.order_b (taken_of Second
      h.past) left
      known-left h.is_paired.second in (
        a.tally ∙ ap (λ (s : Sequence). s.tally) (sequence-came came
            ∙ same-a (options_of_came options) (options_of_left options) options.came.origin ports first new came),
        b.tally ∙ ap (λ (s : Sequence). s.tally) (sequence-left left
            ∙ same-b (options_of_came options) (options_of_left options) options.came.origin ports first new left),
      )

-- ---- memory ran out before anything was read

pub roles-start : (options : ByRole RecordingOptions) (ports : Ports) {R : Type 0} (remaining : R → Option (List ℕ))
    (rest : ByRole (Watched R)) (known : Option (List ℕ × List ℕ)) (done told begins : List (Item Seen) → Type 0)
    → told [] → IfSome known (λ bytes. RolesAnswer options ports remaining bytes rest done told begins (Err
    run.Memory))
roles-start options ports remaining rest None done told begins t = tt
roles-start options ports remaining rest (Some bytes) done told begins t = (
  run.Memory,
  taken-start (taken_unnamed options ports bytes.0 bytes.1)
      (AreCutOffByRole options ports remaining bytes.0 bytes.1 rest) seen_listed done told begins seen-none t,
  refl,
)

-- ---- what is answered by the options and the ports that both were made with

module _ (options : ByRole RecordingOptions) (ports : Ports) (first : TimedPair OrderedRecording)
    (new : IsNewByRole options ports first) where
  abbrev Known : {R : Type 0} → (R → Option (List ℕ)) → ByRole (Watched R) → Option (List ℕ × List ℕ)
  Known remaining inputs = both (remaining inputs.came.inner) (remaining inputs.left.inner)

  module _ {R : Type 0} (remaining : R → Option (List ℕ)) (start rest : ByRole (Watched R))
      (done told begins : List (Item Seen) → Type 0) where
    abbrev RanTo : Result Tally RunFault → List ℕ × List ℕ → Type 0
    RanTo r bytes =
        TakenAnswers (whole_of_two (way_of_two first) bytes)
        (CutOfTwo remaining (way_of_two first) bytes (inputs_by_role rest)) seen_listed done told begins r

    unnamed : (r : Result Tally RunFault) (bytes : List ℕ × List ℕ) → RanTo r bytes
        → UnnamedAnswer options ports remaining bytes rest done told begins r
    unnamed r bytes h =
        two-answers (options_of_came options) (options_of_left options) options.came.origin ports first new
        seen_listed done told begins r remaining (inputs_by_role rest) bytes.0 bytes.1 h

    pub roles-err : (fault named : RunFault) → named ≡ fault_by_role fault
        → IfSome (Known remaining start) (RanTo (Err fault))
        → IfSome (Known remaining start)
        (λ bytes. RolesAnswer options ports remaining bytes rest done told begins (Err named))
    roles-err fault named is h =
        if-known-more (Known remaining start) (RanTo (Err fault))
        (λ bytes. RolesAnswer options ports remaining bytes rest done told begins (Err named))
        (λ bytes known k. (fault, unnamed (Err fault) bytes k, is)) h

  pub roles-ok : (last : TimedPair OrderedRecording) → way_of_two last ≡ way_of_two first
      → {R : Type 0} (remaining : R → Option (List ℕ)) (start rest : ByRole (Watched R))
      (done told begins : List (Item Seen) → Type 0) (lines : Lines)
      → HasPairedAll number_taken (HasTaken remaining) (HasTakenAll remaining) (inputs_by_role start) last
      (inputs_by_role rest) lines
      → (sum came left : Tally) → came ≡ tally_of_source last.pair.first.source → left ≡ tally_of_source
      last.pair.second.source
      → IfSome (Known remaining start) (RanTo remaining start rest done told begins (Ok sum))
      → IfSome (Known remaining start) (λ bytes. RolesAnswer options ports remaining bytes rest done told begins
      (Ok (record { came = came; left = left })))
  roles-ok last same remaining start rest done told begins lines end sum came left is-came is-left h =
      if-known-more (Known remaining start) (RanTo remaining start rest done told begins (Ok sum))
      (λ bytes. RolesAnswer options ports remaining bytes rest done told begins
      (Ok (record { came = came; left = left })))
      (λ bytes known k.
      let tallies = both-tallies options ports first last new same remaining start rest lines end bytes.0 bytes.1
      (both-a (remaining start.came.inner) (remaining start.left.inner) bytes known)
      (both-b (remaining start.came.inner) (remaining start.left.inner) bytes known) in (
        sum,
        unnamed remaining start rest done told begins (Ok sum) bytes k,
        both-same _ _ _ _ (is-came ∙ tallies.0) (is-left ∙ tallies.1),
      )) h
