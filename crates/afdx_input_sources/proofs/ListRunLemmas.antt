-- What a run over a list answers, from what it hands from the list to its machine.
use Rattle.std.proofs.Common.{◌≡◌, ℕ, zero, suc, ◌+◌, ◌≤◌, List, [], ◌∷◌, map, refl, sym, ◌∙◌, subst}
use Rattle.std.proofs.Common.{Option, Some, None, Result, Ok, Err, IfSome, arith, true, false, ◌⊎◌, inl, inr}
use Rattle.afdx_input_lines.specs.Calls.{is_read}
use Rattle.afdx_input_lines.specs.Lines.{lines_of, lines_taken, most_reads}
use Rattle.afdx_input_lines.specs.declared.fault.RunFault.{RunFault}
use Rattle.afdx_input_lines.specs.declared.fault.RunFault.TheVariants as run
use Rattle.afdx_input_lines.specs.declared.fault.LineFault.{LineFault}
use Rattle.afdx_input_lines.specs.declared.line_reader.LineReader.{LineReader}
use Rattle.afdx_input_lines.specs.declared.watched.Watched.{Watched}
use Rattle.afdx_input_sources.specs.Engine.{Item, Runs, without_newest}
use Rattle.afdx_text.specs.Sinks.{IsOfOutput}
use Rattle.afdx_input_sources.specs.Lists.{Kind, items_of, item_said, with_item}
use Rattle.afdx_input_sources.specs.Items.{thing_of}
use Rattle.afdx_input_sources.specs.ListSource.{GaveOf, EndedOf, StoppedOf, HasGiven, HasEnded, HasStopped}
use Rattle.afdx_input_sources.specs.declared.read_list.ReadList.{ReadList}
use Rattle.afdx_input_sources.specs.Progress.{HasRead, HasComeIn}
use Rattle.afdx_input_sources.specs.Stops.{GaveLines, StopsIn}
use Rattle.afdx_input_sources.proofs.RunLemmas.{GaveLines-taken, GaveLines-end, GaveLines-less, HasCome-done}
use Rattle.afdx_input_sources.proofs.RunLemmas.{stops-at-start, stops-more, stops-output}
use Rattle.afdx_input_sources.specs.ListRun.{Of, IsDone, ListAnswers}

pub not_read : (fault : RunFault) → IsOfOutput fault → is_read fault ≡ false
not_read fault (inl e) = rw e refl
not_read fault (inr e) = rw e refl

module _ {Y X : Type 0} (k : Kind Y X) where
  -- at some line before these all but the newest were said
  abbrev Shorter : List (List ℕ) → ℕ → List X → Type 0
  Shorter lines n xs = (m : ℕ) × (m ≤ n) × (items_of k lines m ≡ xs)

  shorter-by : (lines : List (List ℕ)) (n : ℕ) (x : X) (xs : List X) (r : Result (Option Y) LineFault)
      → with_item k (suc n) r (items_of k lines n) ≡ x ∷ xs
      → (items_of k lines n ≡ x ∷ xs → Shorter lines n xs) → Shorter lines (suc n) xs
  shorter-by lines n x xs (Ok (Some y)) e later = (n, omega arith, cc)
  shorter-by lines n x xs (Ok None) e later = let h = later e in (h.0, omega (arith, h.1), h.2)
  shorter-by lines n x xs (Err f) e later = let h = later e in (h.0, omega (arith, h.1), h.2)

  shorter : (lines : List (List ℕ)) (n : ℕ) (x : X) (xs : List X) → items_of k lines n ≡ x ∷ xs → Shorter lines n xs
  unfolding items_of
  shorter lines zero x xs e = cc
  shorter lines (suc n) x xs e = shorter-by lines n x xs (item_said k lines n) e (λ h. shorter lines n x xs h)

module _ {H Y X : Type 0} (k : Kind Y X) (said : Item H → X) (all beginning : List X → Type 0)
    (begins : List (Item H) → Type 0)
    (begin : (past : List (Item H)) → begins past → beginning (map said past)) where
  -- of the items that were given, or all but the newest of them, a beginning is told
  device-read : (bytes rest : List ℕ) (after : Option (List ℕ)) (latest n : ℕ) (past : List (Item H))
      (fault : RunFault) → IsOfOutput fault
      → HasRead k (map said past) latest n (lines_of bytes) rest → GaveLines (Some bytes) after n
      → begins past ⊎ begins (without_newest past) → StopsIn k all beginning bytes after fault
  device-read bytes rest after latest n past fault is h gave (inl b) =
      stops-output k all beginning bytes after fault is (
        n,
        gave,
        record {
          within = h.within;
          sound = h.sound;
          are_told = subst beginning (sym h.said) (begin past b);
        },
      )
  device-read bytes rest after latest n [] fault is h gave (inr b) =
      stops-output k all beginning bytes after fault is (
        n,
        gave,
        record {
          within = h.within;
          sound = h.sound;
          are_told = subst beginning (sym h.said) (begin [] b);
        },
      )
  device-read bytes rest after latest n (x ∷ past) fault is h gave (inr b) =
      let s = shorter k (lines_of bytes) n (said x) (map said past) h.said in
      stops-output k all beginning bytes after fault is (
        s.0,
        GaveLines-less _ _ n s.0 s.1 gave,
        record {
          within = omega (arith, s.1, h.within);
          sound = λ i lt. h.sound i (omega (arith, lt, s.1));
          are_told = subst beginning (sym s.2) (begin past b);
        },
      )

  device-come : (input left after : Option (List ℕ)) (latest n : ℕ) (past : List (Item H)) (fault : RunFault)
      → IsOfOutput fault → HasComeIn k (map said past) latest n input left → GaveLines input after n
      → begins past ⊎ begins (without_newest past)
      → IfSome input (λ bytes. StopsIn k all beginning bytes after fault)
  device-come None left after latest n past fault is h gave b = tt
  device-come (Some bytes) None after latest n past fault is h gave b = absurd h
  device-come (Some bytes) (Some rest) after latest n past fault is h gave b =
      device-read bytes rest after latest n past fault is h gave b

stopped-come : {H Y X : Type 0} (k : Kind Y X) (said : Item H → X) (all beginning : List X → Type 0)
    (input after : Option (List ℕ)) (past : List (Item H)) (fault : RunFault) → all (map said past)
    → beginning (map said past)
    → IfSome input (λ bytes. StopsIn k (λ xs. xs ≡ map said past) (λ xs. xs ≡ map said past) bytes after fault)
    → IfSome input (λ bytes. StopsIn k all beginning bytes after fault)
stopped-come k said all beginning None after past fault a b h = tt
stopped-come k said all beginning (Some bytes) after past fault a b h =
    stops-more k (λ xs. xs ≡ map said past) (λ xs. xs ≡ map said past) all beginning bytes after
    (λ n e. subst all (sym e) a) (λ n e. subst beginning (sym e) b) fault h

module _ {H R Y X : Type 0} (k : Kind Y X) (said : Item H → X) (remaining : R → Option (List ℕ))
    (start input : Watched R) (reader : LineReader) (latest : ℕ)
    (done so_far begins : List (Item H) → Type 0) where
  -- what a run over a list answers
  abbrev pub RunsOver : {A : Type 0} → Result A RunFault → Type 0
  RunsOver result =
      Runs (GaveOf k said remaining start reader latest input) (EndedOf k said remaining start reader latest input)
      done so_far begins (StoppedOf k said remaining start input) result

  pub fault-read : (fault : RunFault) → RunsOver {A = ℕ} (Err fault)
      → input.failed ≡ is_read fault
  fault-read fault (past, inl (stop, told)) = stop.failed
  fault-read fault (past, inr (is, inl gave, b)) = gave.sound ∙ sym (not_read fault is)
  fault-read fault (past, inr (is, inr end, b)) = end.sound ∙ sym (not_read fault is)

  pub fault-calls : (fault : RunFault) → RunsOver {A = ℕ} (Err fault) → input.calls ≤ start.calls + most_reads
  fault-calls fault (past, inl (stop, told)) = stop.calls
  fault-calls fault (past, inr (is, inl gave, b)) = omega (arith, gave.calls, gave.few)
  fault-calls fault (past, inr (is, inr end, b)) = end.calls

  pub fault-stops : (all beginning : List X → Type 0) (fault : RunFault) → RunsOver {A = ℕ} (Err fault)
      → ((past : List (Item H)) → so_far past → all (map said past))
      → ((past : List (Item H)) → begins past → beginning (map said past))
      → ((past : List (Item H)) → so_far past → beginning (map said past))
      → IfSome (remaining start.inner) (λ bytes. StopsIn k all beginning bytes (remaining input.inner) fault)
  fault-stops all beginning fault (past, inl (stop, told)) f g more =
      stopped-come k said all beginning _ _ past fault (f past told) (more past told) stop.stops
  fault-stops all beginning fault (past, inr (is, inl gave, b)) f g more =
      device-come k said all beginning begins g _ _ _ latest (lines_taken reader) past fault is gave.come
      (GaveLines-taken _ _ _ _ _ gave.taken gave.honest) b
  fault-stops all beginning fault (past, inr (is, inr end, b)) f g more =
      device-come k said all beginning begins g _ _ _ latest (lines_taken reader) past fault is end.come
      (GaveLines-end _ _ _ end.last) b

  pub done-read : RunsOver {A = ℕ} (Ok 0) → input.failed ≡ false
  done-read (past, end, told) = end.sound

  pub done-ended : RunsOver {A = ℕ} (Ok 0) → input.ended ≡ true
  done-ended (past, end, told) = end.ended

  pub done-calls : RunsOver {A = ℕ} (Ok 0) → input.calls ≤ start.calls + most_reads
  done-calls (past, end, told) = end.calls

  pub done-done : (told : List X → Type 0) → RunsOver {A = ℕ} (Ok 0)
      → ((past : List (Item H)) → done past → told (map said past))
      → IfSome (remaining start.inner) (λ bytes. IsDone k told (lines_taken reader) (lines_of bytes))
  done-done told (past, end, d) f =
      HasCome-done k told (map said past) latest (lines_taken reader) _ end.rest end.come end.done (f past d)

  -- the same as one answer
  abbrev pub AnswersOver : List ℕ → Result ℕ RunFault → Type 0
  AnswersOver bytes result = ListAnswers k said done so_far begins bytes (remaining input.inner) result

  pub fault-answers : (fault : RunFault) → RunsOver {A = ℕ} (Err fault)
      → IfSome (remaining start.inner) (λ bytes. AnswersOver bytes (Err fault))
  fault-answers fault h =
      fault-stops (Of said so_far) (Of said (λ past. so_far past ⊎ begins past)) fault h
      (λ past t. (past, refl, t)) (λ past b. (past, refl, inr b)) (λ past t. (past, refl, inl t))

  pub done-answers : (n : ℕ) → n ≡ lines_taken reader → RunsOver {A = ℕ} (Ok 0)
      → IfSome (remaining start.inner) (λ bytes. AnswersOver bytes (Ok n))
  done-answers n is h =
      subst (λ (m : ℕ). IfSome (remaining start.inner) (λ bytes. AnswersOver bytes (Ok m))) (sym is)
      (done-done (Of said done) h (λ past d. (past, refl, d)))

-- what a run over a list of this form answers
module _ {F H R Y X : Type 0} (IsForm : F → Type 0) (kind : F → Kind Y X) (says_of : H → List ℕ → Y)
    (time_of : H → ℕ) (remaining : R → Option (List ℕ)) (start input : Watched R) (list : ReadList F H)
    (done so_far begins : List (Item H) → Type 0) where
  abbrev FormRunsOver : {A : Type 0} → F → Result A RunFault → Type 0
  FormRunsOver form result =
      RunsOver (kind form) (thing_of (kind form) says_of) remaining start input list.reader (time_of list.head)
      done so_far begins result

  own-runs-over : {A : Type 0} (result : Result A RunFault) →
      Runs (HasGiven IsForm kind says_of time_of remaining start list input)
      (HasEnded kind says_of time_of remaining start list input) done so_far begins
      (HasStopped kind says_of remaining start list input) result → FormRunsOver list.form result
  own-runs-over (Ok a) h = h
  own-runs-over (Err fault) (past, inl h) = (past, inl h)
  own-runs-over (Err fault) (past, inr (is, inl given, b)) = (past, inr (is, inl given.gave, b))
  own-runs-over (Err fault) (past, inr (is, inr end, b)) = (past, inr (is, inr end, b))

  pub runs-over : {A : Type 0} (result : Result A RunFault) (form : F) → list.form ≡ form →
      Runs (HasGiven IsForm kind says_of time_of remaining start list input)
      (HasEnded kind says_of time_of remaining start list input) done so_far begins
      (HasStopped kind says_of remaining start list input) result → FormRunsOver form result
  runs-over result form is h = subst (λ f. FormRunsOver f result) is (own-runs-over result h)

-- memory ran out before anything was read
pub start-answers : {H Y X : Type 0} (k : Kind Y X) (said : Item H → X)
    (done told begins : List (Item H) → Type 0) (input : Option (List ℕ)) → told []
    → IfSome input (λ bytes. ListAnswers k said done told begins bytes input (Err run.Memory))
start-answers k said done told begins input t =
    stops-at-start k (Of said told) (Of said (λ past. told past ⊎ begins past)) input ([], refl, inl t)

stop_more : {H Y X : Type 0} (k : Kind Y X) (said : Item H → X) (told begins : List (Item H) → Type 0)
    (all beginning : List X → Type 0) (bytes : List ℕ) (rest : Option (List ℕ)) (fault : RunFault)
    → ((past : List (Item H)) → told past → all (map said past) × beginning (map said past))
    → ((past : List (Item H)) → begins past → beginning (map said past))
    → StopsIn k (Of said told) (Of said (λ past. told past ⊎ begins past)) bytes rest fault
    → StopsIn k all beginning bytes rest fault
stop_more {H} {Y} {X} k said told begins all beginning bytes rest fault f g h =
    stops-more k (Of said told) (Of said (λ past. told past ⊎ begins past)) all beginning bytes rest
    (λ n t. subst all (sym t.1) (f t.0 t.2).0) (λ n b. some-of (items_of k (lines_of bytes) n) b) fault h
  where
    some-of : (xs : List X) → Of said (λ past. told past ⊎ begins past) xs → beginning xs
    some-of xs (past, e, inl t) = subst beginning (sym e) (f past t).1
    some-of xs (past, e, inr b) = subst beginning (sym e) (g past b)

-- what a run over a list answers, where the machine's words say at least this
pub answers-err : {H Y X : Type 0} (k : Kind Y X) (said : Item H → X) (done told begins : List (Item H) → Type 0)
    (all beginning : List X → Type 0) (input rest : Option (List ℕ)) (fault : RunFault)
    → ((past : List (Item H)) → told past → all (map said past) × beginning (map said past))
    → ((past : List (Item H)) → begins past → beginning (map said past))
    → IfSome input (λ bytes. ListAnswers k said done told begins bytes rest (Err fault))
    → IfSome input (λ bytes. StopsIn k all beginning bytes rest fault)
answers-err k said done told begins all beginning None rest fault f g h = tt
answers-err k said done told begins all beginning (Some bytes) rest fault f g h =
    stop_more k said told begins all beginning bytes rest fault f g h

pub answers-ok : {H Y X : Type 0} (k : Kind Y X) (said : Item H → X) (done told begins : List (Item H) → Type 0)
    (all : List X → Type 0) (input rest : Option (List ℕ)) (n : ℕ)
    → ((past : List (Item H)) → done past → all (map said past))
    → IfSome input (λ bytes. ListAnswers k said done told begins bytes rest (Ok n))
    → IfSome input (λ bytes. IsDone k all n (lines_of bytes))
answers-ok k said done told begins all None rest n f h = tt
answers-ok k said done told begins all (Some bytes) rest n f h =
    let d = h.are_told in
    record { all = h.all; sound = h.sound; are_told = subst all (sym d.1) (f d.0 d.2) }
