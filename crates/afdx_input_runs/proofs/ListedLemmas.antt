-- What comes of a list of frames, from what was read of it.
use Rattle.std.proofs.Common.{◌≡◌, ℕ, zero, suc, ◌+◌, ◌-◌, ◌≤◌, ◌<◌, List, [], ◌∷◌, ◌++◌, length, reverse, refl, ap, sym, ◌∙◌, subst}
use Rattle.std.proofs.Common.{Option, Some, None, Result, Ok, Err, IfSome, arith, add-one, below_more, append-nil, append_assoc}
use Rattle.std.proofs.lemmas.List.{reverse-append}
use Rattle.std.specs.Io.KnownBytes.{IsAtEnd}
use Rattle.afdx_police.specs.Arrival.{Arrival}
use Rattle.afdx_input_lines.specs.Faults.{fault_of_list}
use Rattle.afdx_input_lines.specs.FrameLines.{ListedFrame}
use Rattle.afdx_input_lines.specs.Lines.{lines_of}
use Rattle.afdx_input_lines.specs.declared.fault.LineFault.{LineFault}
use Rattle.afdx_input_lines.specs.declared.fault.RunFault.{RunFault}
use Rattle.afdx_input_lines.specs.declared.fault.RunFault.TheVariants as run
use Rattle.afdx_input_lines.specs.declared.role.Role.{Role}
use Rattle.afdx_input_sources.specs.Causes.{Cause, cause_of, FailedRead, FailedWrite, NoMemory, BadInput}
use Rattle.afdx_input_sources.specs.Listed as listed
use Rattle.afdx_input_sources.specs.ListRun.{IsDone}
use Rattle.afdx_input_sources.specs.Lists.{HaveNoFault, fault_in, item_said, items_of, with_item}
use Rattle.afdx_input_sources.specs.Progress.{HasComeIn}
use Rattle.afdx_input_sources.specs.Stops.{StopsAs, StopsIn}
use Rattle.afdx_input_sources.proofs.RunLemmas.{HasCome-done}
use Rattle.afdx_input_runs.specs.Joining.{IsCutOff, ListsTo, first_of}

-- ---- behind its first lines, which have no fault

-- what still comes behind n lines
pub record Continues (role : Role) (bytes : List ℕ) (n : ℕ) : Type 0 where
  pub next : List Arrival
  pub fault : Option RunFault
  pub listed : ListsTo role bytes (reverse (first_of bytes n) ++ next) fault

-- one line says at most one frame
more-of : (n : ℕ) (r : Result (Option ListedFrame) LineFault) (past : List Arrival)
    → (ys : List Arrival) × (with_item listed.frames n r past ≡ ys ++ past)
more-of n (Ok (Some y)) past = (listed.arrival_at n y ∷ [], refl)
more-of n (Ok None) past = ([], refl)
more-of n (Err fault) past = ([], refl)

module _ (role : Role) (bytes : List ℕ) where
  first-next : (n : ℕ) → first_of bytes (n + 1)
      ≡ with_item listed.frames (n + 1) (item_said listed.frames (lines_of bytes) n) (first_of bytes n)
  unfolding items_of
  first-next n = rw add-one refl

  first-more : (n : ℕ) → (ys : List Arrival) × (first_of bytes (n + 1) ≡ ys ++ first_of bytes n)
  first-more n =
      let m = more-of (n + 1) (item_said listed.frames (lines_of bytes) n) (first_of bytes n) in
      (m.0, first-next n ∙ m.1)

  lists-same : (xs ys : List Arrival) (fault : Option RunFault) → xs ≡ ys → ListsTo role bytes ys fault
      → ListsTo role bytes xs fault
  lists-same xs ys fault e h = subst (λ (l : List Arrival). ListsTo role bytes l fault) (sym e) h

  continues-before : (n : ℕ) → Continues role bytes (n + 1) → Continues role bytes n
  continues-before n c =
      let m = first-more n in record {
        next = reverse m.0 ++ c.next;
        fault = c.fault;
        listed = lists-same _ _ c.fault (sym (ap (λ (l : List Arrival). reverse l ++ c.next) m.1
            ∙ ap (λ (l : List Arrival). l ++ c.next) (reverse-append m.0 (first_of bytes n))
            ∙ append_assoc (reverse (first_of bytes n)) (reverse m.0) c.next)) c.listed;
      }

  by-fault : (n : ℕ) (o : Option RunFault) → fault_in listed.frames (lines_of bytes) n ≡ o
      → n < length (lines_of bytes) → HaveNoFault listed.frames (lines_of bytes) n
      → (HaveNoFault listed.frames (lines_of bytes) (n + 1) → Continues role bytes (n + 1))
      → Continues role bytes n
  by-fault n None e within sound next =
      continues-before n (next (below_more (λ i. fault_in listed.frames (lines_of bytes) i ≡ None) n sound e))
  by-fault n (Some own) e within sound next = record {
    next = [];
    fault = Some (fault_of_list role own);
    listed = (n, own, (within, sound, e), refl, append-nil (reverse (first_of bytes n)));
  }

  continues-by : (left n : ℕ) → n + left ≡ length (lines_of bytes)
      → HaveNoFault listed.frames (lines_of bytes) n → Continues role bytes n
  continues-by zero n e sound =
      let all : n ≡ length (lines_of bytes) = omega (arith, e) in record {
        next = [];
        fault = None;
        listed = (
          rw (← all) sound,
          append-nil (reverse (first_of bytes n)) ∙ ap (λ (m : ℕ). reverse (first_of bytes m)) all,
        );
      }
  continues-by (suc left) n e sound =
      by-fault n (fault_in listed.frames (lines_of bytes) n) refl (omega (arith, e)) sound
      (λ more. continues-by left (n + 1) (omega (arith, e)) more)

  pub continues : (n : ℕ) → n ≤ length (lines_of bytes) → HaveNoFault listed.frames (lines_of bytes) n
      → Continues role bytes n
  continues n within sound =
      continues-by (length (lines_of bytes) - n) n (omega (arith, within)) sound

  -- ---- where these frames were read

  -- so comes what is still to come
  pub record Behind (taken : List Arrival) : Type 0 where
    pub next : List Arrival
    pub fault : Option RunFault
    pub listed : ListsTo role bytes (reverse taken ++ next) fault

  behind-first : (n : ℕ) (taken : List Arrival) → n ≤ length (lines_of bytes)
      → HaveNoFault listed.frames (lines_of bytes) n → first_of bytes n ≡ taken → Behind taken
  behind-first n taken within sound said =
      let c = continues n within sound in record {
        next = c.next;
        fault = c.fault;
        listed = lists-same _ _ c.fault (ap (λ (l : List Arrival). reverse l ++ c.next) (sym said)) c.listed;
      }

  come-so : (taken : List Arrival) (latest n : ℕ) (left : Option (List ℕ))
      → HasComeIn listed.frames taken latest n (Some bytes) left → Behind taken
  come-so taken latest n None h = absurd h
  come-so taken latest n (Some rest) h = behind-first n taken h.within h.sound h.said

  pub behind-come : (taken : List Arrival) (latest n : ℕ) (input left : Option (List ℕ)) → input ≡ Some bytes
      → HasComeIn listed.frames taken latest n input left → Behind taken
  behind-come taken latest n input left e h =
      come-so taken latest n left
      (subst (λ (o : Option (List ℕ)). HasComeIn listed.frames taken latest n o left) e h)

  -- all was read
  pub all-come : (taken : List Arrival) (latest n : ℕ) (input rest : Option (List ℕ)) → input ≡ Some bytes
      → HasComeIn listed.frames taken latest n input rest → IsAtEnd rest
      → ListsTo role bytes (reverse taken) None × (n ≡ length (lines_of bytes))
  all-come taken latest n input rest e h end =
      let d = subst (λ (o : Option (List ℕ)). IfSome o
      (λ bytes. IsDone listed.frames (λ xs. xs ≡ taken) n (lines_of bytes))) e
      (HasCome-done listed.frames (λ xs. xs ≡ taken) taken latest n input rest h end refl) in
      ((d.sound, ap (λ (l : List Arrival). reverse l) (sym d.are_told)), d.all)

  -- ---- where it stopped

  -- what comes of it, by the cause
  abbrev pub StoppedBy : List Arrival → (rest : Option (List ℕ)) → RunFault → Cause → Type 0
  StoppedBy taken rest own FailedRead =
      IsCutOff bytes rest (record { next = reverse taken; fault = Some run.Read })
  StoppedBy taken rest own BadInput = ListsTo role bytes (reverse taken) (Some (fault_of_list role own))
  StoppedBy taken rest own FailedWrite = Behind taken
  StoppedBy taken rest own NoMemory = Behind taken

  stopped-as : (taken : List Arrival) (rest : Option (List ℕ)) (own : RunFault) (cause : Cause)
      → StopsAs listed.frames (λ xs. xs ≡ taken) (λ xs. xs ≡ taken) bytes rest own cause
      → StoppedBy taken rest own cause
  stopped-as taken rest own FailedRead (n, gave, told) = record {
    lines = n;
    gave = gave;
    sound = told.sound;
    next_is = ap (λ (l : List Arrival). reverse l) (sym told.are_told);
    fault_is = refl;
  }
  stopped-as taken rest own BadInput h =
      (h.line, own, h.first, refl, ap (λ (l : List Arrival). reverse l) (sym h.are_told))
  stopped-as taken rest own FailedWrite (n, gave, told) = behind-first n taken told.within told.sound told.are_told
  stopped-as taken rest own NoMemory (n, gave, told) = behind-first n taken told.within told.sound told.are_told

  pub stopped-so : (taken : List Arrival) (input rest : Option (List ℕ)) (own : RunFault) → input ≡ Some bytes
      → IfSome input (λ bytes. StopsIn listed.frames (λ xs. xs ≡ taken) (λ xs. xs ≡ taken) bytes rest own)
      → StoppedBy taken rest own (cause_of own)
  stopped-so taken input rest own e h =
      stopped-as taken rest own (cause_of own) (subst (λ (o : Option (List ℕ)). IfSome o
      (λ bytes. StopsIn listed.frames (λ xs. xs ≡ taken) (λ xs. xs ≡ taken) bytes rest own)) e h)
